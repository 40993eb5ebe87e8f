-- The state of volume 0 that the journal tells is that of the machine.
use Rattle.std.proofs.Common.{◌≡◌, ℕ, ◌==◌, ◌&&◌, Bool, true, false, nat_lt, if◌then◌else◌, List, [], ◌∷◌, ◌++◌, refl, ap, sym, ◌∙◌, Option, Some, None}
use Rattle.std.proofs.lemmas.Bool.{and_right, and_from, and_parts}
use Rattle.units.specs.declared.disk.Sector.{Sector}
use Rattle.units.specs.declared.volume.Level.TheVariants.{One}
use Rattle.device_log.specs.Log.{Call}
use Rattle.array_model.specs.declared.script.Op.{Op}
use Rattle.array_model.specs.declared.script.OpKind.{OpKind}
use Rattle.array_model.specs.declared.script.OpKind.TheVariants.{Write as OpWrite, Read as OpRead, Whole as OpWhole}
use Rattle.array_model.specs.declared.journal.Entry.{Entry}
use Rattle.array_model.specs.declared.journal.Event.{Event}
use Rattle.array_model.specs.declared.journal.Event.TheVariants.{Submit}
use Rattle.array_model.specs.Script.{kind_at, write_in}
use Rattle.array_model.specs.Placement.{Shape, Placement, placement_of, placement_by}
use Rattle.array_model.specs.Start.{Start}
use Rattle.array_model.specs.Causes.{ArrayState, ArrayClosed, ArrayReadAuto, ArrayClean, ArrayPending, ArrayActive, ArrayIdle, is_inside, is_write_inside, woken, array_state_at, array_state_from, array_state_of}
use Rattle.stage_machine.specs.Setting.{Setting}
use Rattle.stage_machine.specs.Opens.{AsksFirst, IsFirstVolume}
use Rattle.stage_machine.specs.States.{State, IsReadonly, IsReadAuto, IsClean, IsPending, IsActive, IsIdle, asked_state, asked_events}
use Rattle.stage_machine.specs.Jobs.{the_shape, sector_in, placement_at, is_write, is_write_kind}
use Rattle.stage_machine.specs.Machine.{Control, World, Reached, opens, goes, stamped, calls_after, turned, call_of, got_of}
use Rattle.stage_machine.proofs.Turns.{Turns, turns_of, nothing, fails, anchors, settles, ends, begins, readies, actives, cleans, rests, pasts, asks_read, asks_write, puts, syncs, gets, acks}
use Rattle.stage_machine.proofs.Clients.{kind_first}

-- A SECTOR OF THE VOLUME

abbrev pub is_place : Option Placement → Bool
is_place None = false
is_place (Some place) = true

placed_below : (shape : Shape) (s : ℕ) → shape.level ≡ Some One → is_place (placement_of shape s) ≡ nat_lt s shape.size
placed_below shape s one = ap (λ l. is_place (placement_by l shape s)) one ∙ at (nat_lt s shape.size)
  where
    at : (b : Bool) → is_place (if b then Some (record { main = 0; other = 1; row = s }) else None) ≡ b
    at true = refl
    at false = refl

-- an operation's sector has a place where it is below the size
pub op_placed : (S : Setting) → IsFirstVolume S → (i : ℕ) (kind : Option OpKind) → kind_at S.asked.ops i ≡ kind → is_place (placement_at S i) ≡ nat_lt (sector_in kind) (the_shape S).size
op_placed S volume i kind is =
    placed_below (the_shape S) (sector_in (kind_at S.asked.ops i)) volume.level ∙ ap (λ (k : Option OpKind). nat_lt (sector_in k) (the_shape S).size) is

inside_is : (S : Setting) → AsksFirst S → IsFirstVolume S → (i : ℕ) → is_write_inside S.start S.asked.ops 0 i ≡ (is_write S i && is_place (placement_at S i))
inside_is S asks volume i = at (kind_at S.asked.ops i) refl
  where
    at : (kind : Option OpKind) → kind_at S.asked.ops i ≡ kind → is_inside S.start 0 (write_in kind) ≡ (is_write_kind kind && is_place (placement_at S i))
    at None is = refl
    at (Some (OpWrite v s value)) is =
        let zero_is : v.0 ≡ 0 = kind_first S.asked.ops i (OpWrite v s value) asks.volumes is in
        ap (λ z. (z == 0) && nat_lt s (the_shape S).size) zero_is ∙ sym (op_placed S volume i (Some (OpWrite v s value)) is)
    at (Some (OpRead v s)) is = refl
    at (Some (OpWhole v)) is = refl

-- a write inside the volume is a write
pub inside_writes : (S : Setting) → AsksFirst S → IsFirstVolume S → (i : ℕ) → is_write_inside S.start S.asked.ops 0 i ≡ true → is_write S i ≡ true
inside_writes S asks volume i h = (and_parts (is_write S i) (is_place (placement_at S i)) (sym (inside_is S asks volume i) ∙ h)).0

-- a write to a sector that has a place is inside the volume
pub inside_of : (S : Setting) → AsksFirst S → IsFirstVolume S → (i : ℕ) → is_write S i ≡ true → is_place (placement_at S i) ≡ true → is_write_inside S.start S.asked.ops 0 i ≡ true
inside_of S asks volume i w placed = inside_is S asks volume i ∙ and_from (is_write S i) (is_place (placement_at S i)) w placed

-- STATES

abbrev pub told_by : State → ArrayState
told_by IsReadonly = ArrayClosed
told_by IsReadAuto = ArrayReadAuto
told_by IsClean = ArrayClean
told_by IsPending = ArrayPending
told_by IsActive = ArrayActive
told_by IsIdle = ArrayIdle

told-append : (start : Start) (ops : List Op) (v : ℕ) (t : ArrayState) (xs ys : List Entry) → array_state_from start ops v t (xs ++ ys) ≡ array_state_from start ops v (array_state_from start ops v t xs) ys
told-append start ops v t [] ys = refl
told-append start ops v t (x ∷ xs) ys = told-append start ops v (array_state_at start ops v t x.event) xs ys

-- a submit changes no state but that of an idle volume
pub told_asked : (start : Start) (ops : List Op) (v : ℕ) (t : ArrayState) (journal : List Entry) (n i : ℕ) → array_state_of start ops journal v ≡ t → woken t ≡ t
    → array_state_of start ops (journal ++ record { stamp = n; event = Submit i } ∷ []) v ≡ t
told_asked start ops v t journal n i is stays =
    told-append start ops v ArrayClosed journal (record { stamp = n; event = Submit i } ∷ []) ∙ ap (λ u. array_state_at start ops v u (Submit i)) is ∙ at (is_write_inside start ops v i)
  where
    at : (b : Bool) → (if b then woken t else t) ≡ t
    at true = stays
    at false = refl

module _ (S : Setting) (asks : AsksFirst S) (volume : IsFirstVolume S) where
  abbrev tell : ArrayState → List Entry → ArrayState
  tell t journal = array_state_from S.start S.asked.ops 0 t journal

  told_turns : (c : Control) (got : Sector) (n : ℕ) {call : Option Call} {es : List Event} {next : Control} → Turns S c got call es next
      → tell (told_by c.state) (stamped n es) ≡ told_by next.state
  told_turns c got n nothing = refl
  told_turns c got n (fails d what asked) = refl
  told_turns c got n (anchors m d ds is) = refl
  told_turns c got n (settles m d e ds is) = refl
  told_turns c got n (ends m d is) = refl
  told_turns c got n (begins d ds is some why) = refl
  told_turns c got n (readies is s t) = refl
  told_turns c got n (actives is s t r) = refl
  told_turns c got n (cleans is s t) = refl
  told_turns c got n (rests t calm) = refl
  told_turns c got n (pasts k i rest has past) =
      let outside : is_write_inside S.start S.asked.ops 0 i ≡ false =
      inside_is S asks volume i ∙ and_right (is_write S i) (is_place (placement_at S i)) (ap (λ p. is_place p) past.none) in
      rw outside refl
  told_turns c got n (asks_read k i rest place has is w ready) =
      let outside : is_write_inside S.start S.asked.ops 0 i ≡ false = inside_is S asks volume i ∙ ap (λ b. b && is_place (placement_at S i)) w in
      rw outside refl
  told_turns c got n (asks_write k i rest place has is w ready) = at c.state (inside_is S asks volume i ∙ and_from (is_write S i) (is_place (placement_at S i)) w (ap (λ p. is_place p) is))
    where
      at : (state : State) → is_write_inside S.start S.asked.ops 0 i ≡ true → tell (told_by state) (stamped n (Submit i ∷ asked_events state)) ≡ told_by (asked_state state)
      at IsReadonly inside = rw inside refl
      at IsReadAuto inside = refl
      at IsClean inside = refl
      at IsPending inside = rw inside refl
      at IsActive inside = rw inside refl
      at IsIdle inside = rw inside refl
  told_turns c got n (puts k i left step d ds has need) = refl
  told_turns c got n (syncs k i left step d ds has need) = refl
  told_turns c got n (gets k i left step d has need) = refl
  told_turns c got n (acks k i left step answer has need) = refl

  pub told_reached : (w : World) → Reached S w → array_state_of S.start S.asked.ops w.journal 0 ≡ told_by w.control.state
  told_reached w opens = refl
  told_reached w (goes {w = v} r a) =
      let new = stamped (calls_after v.calls (call_of S v.control a)) (turned S v.control a).events in
      told-append S.start S.asked.ops 0 ArrayClosed v.journal new ∙ ap (λ t. tell t new) (told_reached v r)
      ∙ told_turns v.control (got_of a) (calls_after v.calls (call_of S v.control a)) (turns_of S v.control a)
