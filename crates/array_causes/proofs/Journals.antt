-- What the entries of a journal say goes on from what stands before them.
use Rattle.std.proofs.Common.{◌≡◌, ℕ, zero, suc, Bool, List, [], ◌∷◌, ◌++◌, length, refl, slice_get, Some}
use Rattle.device_log.specs.Log.{Call}
use Rattle.array_model.specs.declared.journal.Entry.{Entry}
use Rattle.array_causes.specs.Failures.{down_at, down_from, settled_at, settled_from}

pub down-append : (down : Bool) (xs ys : List Entry) → down_from down (xs ++ ys) ≡ down_from (down_from down xs) ys
down-append down [] ys = refl
down-append down (x ∷ xs) ys = down-append (down_at down x.event) xs ys

pub settled-append : (settled : Bool) (xs ys : List Entry)
    → settled_from settled (xs ++ ys) ≡ settled_from (settled_from settled xs) ys
settled-append settled [] ys = refl
settled-append settled (x ∷ xs) ys = settled-append (settled_at settled x.event) xs ys

-- CALLS

pub last_call : (log : List Call) (call : Call) → slice_get (log ++ call ∷ []) (length log) ≡ Some call
last_call [] call = refl
last_call (x ∷ xs) call = last_call xs call

pub earlier_call : (log : List Call) (new call : Call) (n : ℕ) → slice_get log n ≡ Some call
    → slice_get (log ++ new ∷ []) n ≡ Some call
earlier_call [] new call n is = absurd cc
earlier_call (x ∷ xs) new call zero is = is
earlier_call (x ∷ xs) new call (suc n) is = earlier_call xs new call n is
