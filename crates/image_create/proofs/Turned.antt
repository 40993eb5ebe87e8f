-- What calls that went through leave at a place of a disk.
use Rattle.std.proofs.Common.{◌≡◌, ◌≢◌, ℕ, zero, suc, ◌+◌, ◌-◌, ◌<◌, ◌≤◌, Bool, true, false, cond, List, [], ◌∷◌, ◌++◌, length, map, get_or, refl, sym, ◌∙◌, ap, subst, arith}
use Rattle.std.specs.Prelude.{◌==◌, nat_lt, slice_index}
use Rattle.std.specs.List.{range_with_len, flat_map}
use Rattle.std.proofs.lemmas.Bool.{ne_eqb, eq-eqb}
use Rattle.std.proofs.lemmas.Bool.Decides.{nat_tests}
use Rattle.units.specs.declared.disk.Sector.{Sector}
use Rattle.device_log.specs.Log.{Call, What}
use Rattle.device_log.specs.Cells.{Cell, brought, cell_after, cell_at, cell_called, cell_written}
use Rattle.image_create.specs.Calls.{write_call, sync_call, calls_on}
use Rattle.image_create.proofs.Disks.{calls_on-at}
use Rattle.device_log.proofs.Cells.{cell_after-append}

-- what stood there stays, or this sector stands there afterwards
pub record Stays (d p : ℕ) (calls : List Call) : Type 0 where
  pub stays : (c : Cell) → (cell_after d p c calls).stood ≡ c.stood

pub record Becomes (d p : ℕ) (calls : List Call) (x : Sector) : Type 0 where
  pub becomes : (c : Cell) → (cell_after d p c calls).stood ≡ x

pub stays_none : (d p : ℕ) → Stays d p []
stays_none d p = record { stays = λ c. refl }

pub stays_both : {d p : ℕ} (xs ys : List Call) → Stays d p xs → Stays d p ys → Stays d p (xs ++ ys)
stays_both {d} {p} xs ys first second = record {
  stays = λ c. ap (λ (k : Cell). k.stood) (cell_after-append d p c xs ys) ∙ second.stays (cell_after d p c xs) ∙ first.stays c;
}

pub becomes_behind : {d p : ℕ} {x : Sector} (xs ys : List Call) → Becomes d p ys x → Becomes d p (xs ++ ys) x
becomes_behind {d} {p} xs ys second = record {
  becomes = λ c. ap (λ (k : Cell). k.stood) (cell_after-append d p c xs ys) ∙ second.becomes (cell_after d p c xs);
}

pub becomes_before : {d p : ℕ} {x : Sector} (xs ys : List Call) → Becomes d p xs x → Stays d p ys → Becomes d p (xs ++ ys) x
becomes_before {d} {p} xs ys first second = record {
  becomes = λ c. ap (λ (k : Cell). k.stood) (cell_after-append d p c xs ys) ∙ second.stays (cell_after d p c xs) ∙ first.becomes c;
}

-- ONE CALL

pub stays_other : (k d p : ℕ) (what : What) → k ≢ d → Stays d p (record { disk = k; what = what; went = true } ∷ [])
stays_other k d p what other = record { stays = λ c. ap (λ (b : Bool). (cond b (cell_at p c what true) c).stood) (ne_eqb k d other) }

pub stays_sync : (d k p : ℕ) → Stays d p (sync_call k ∷ [])
stays_sync d k p = record { stays = λ c. at c (k == d) } where
  at : (c : Cell) (b : Bool) → (cond b (cell_at p c (sync_call k).what true) c).stood ≡ c.stood
  at c true = refl
  at c false = refl

-- a sector that isn't written stays
skipped : (c : Cell) (place p : ℕ) (s : Sector) (stored : ℕ) → place ≢ p → (cond (place == p) (brought c s (nat_lt 0 stored)) c).stood ≡ c.stood
skipped c place p s stored other = ap (λ (b : Bool). (cond b (brought c s (nat_lt 0 stored)) c).stood) (ne_eqb place p other)

written_below : (c : Cell) (place : ℕ) (sectors : List Sector) (stored p : ℕ) → p < place → (cell_written c place sectors stored p).stood ≡ c.stood
written_below c place [] stored p below = refl
written_below c place (s ∷ ss) stored p below =
    written_below (cond (place == p) (brought c s (nat_lt 0 stored)) c) (place + 1) ss (stored - 1) p (omega arith)
    ∙ skipped c place p s stored (λ same. omega arith)

written_above : (c : Cell) (place : ℕ) (sectors : List Sector) (stored p : ℕ) → place + length sectors ≤ p → (cell_written c place sectors stored p).stood ≡ c.stood
written_above c place [] stored p above = refl
written_above c place (s ∷ ss) stored p above =
    written_above (cond (place == p) (brought c s (nat_lt 0 stored)) c) (place + 1) ss (stored - 1) p (omega arith)
    ∙ skipped c place p s stored (λ same. omega arith)

written_here : (c : Cell) (place : ℕ) (sectors : List Sector) (stored p j : ℕ) (x : Sector) → place + j ≡ p → j < length sectors → length sectors ≤ stored
    → (cell_written c place sectors stored p).stood ≡ get_or sectors j x
written_here c place [] stored p j x there within all = absurd (omega arith)
written_here c place (s ∷ ss) stored p zero x there within all =
    let same : (place == p) ≡ true = grind (arith, nat_tests) in
    let some : nat_lt 0 stored ≡ true = grind (arith, nat_tests) in
    written_below (cond (place == p) (brought c s (nat_lt 0 stored)) c) (place + 1) ss (stored - 1) p (omega arith)
    ∙ ap (λ (b : Bool). (cond b (brought c s (nat_lt 0 stored)) c).stood) same
    ∙ ap (λ (b : Bool). (brought c s b).stood) some
written_here c place (s ∷ ss) stored p (suc j) x there within all =
    written_here (cond (place == p) (brought c s (nat_lt 0 stored)) c) (place + 1) ss (stored - 1) p j x (omega arith) (omega arith) (omega arith)

called_own : (d p : ℕ) (c : Cell) (what : What) → (cell_called d p c (record { disk = d; what = what; went = true })).stood ≡ (cell_at p c what true).stood
called_own d p c what = ap (λ (b : Bool). (cond b (cell_at p c what true) c).stood) (eq-eqb d d refl)

pub stays_below : (d place p : ℕ) (sectors : List Sector) → p < place → Stays d p (write_call d place sectors ∷ [])
stays_below d place p sectors below = record {
  stays = λ c. called_own d p c (write_call d place sectors).what ∙ written_below c place sectors (length sectors) p below;
}

pub stays_above : (d place p : ℕ) (sectors : List Sector) → place + length sectors ≤ p → Stays d p (write_call d place sectors ∷ [])
stays_above d place p sectors above = record {
  stays = λ c. called_own d p c (write_call d place sectors).what ∙ written_above c place sectors (length sectors) p above;
}

pub becomes_here : (d place p j : ℕ) (sectors : List Sector) (x : Sector) → place + j ≡ p → j < length sectors → Becomes d p (write_call d place sectors ∷ []) (get_or sectors j x)
becomes_here d place p j sectors x there within = record {
  becomes = λ c. called_own d p c (write_call d place sectors).what ∙ written_here c place sectors (length sectors) p j x there within (omega arith);
}

-- MANY CALLS

pub stays_map : {d p : ℕ} (f : ℕ → Call) (a n : ℕ) → ((k : ℕ) → a ≤ k → k < a + n → Stays d p (f k ∷ [])) → Stays d p (map f (range_with_len a n))
stays_map {d} {p} f a zero each = stays_none d p
stays_map f a (suc n) each =
    stays_both (f a ∷ []) (map f (range_with_len (a + 1) n)) (each a (omega arith) (omega arith)) (stays_map f (a + 1) n (λ k from below. each k (omega arith) (omega arith)))

pub stays_each : {d p : ℕ} {A : Type 0} (f : A → List Call) (xs : List A) → ((x : A) → Stays d p (f x)) → Stays d p (flat_map f xs)
stays_each {d} {p} f [] each = stays_none d p
stays_each f (x ∷ xs) each = stays_both (f x) (flat_map f xs) (each x) (stays_each f xs each)

pub stays_range : {d p : ℕ} (f : ℕ → List Call) (a n : ℕ) → ((k : ℕ) → a ≤ k → k < a + n → Stays d p (f k)) → Stays d p (flat_map f (range_with_len a n))
stays_range {d} {p} f a zero each = stays_none d p
stays_range f a (suc n) each =
    stays_both (f a) (flat_map f (range_with_len (a + 1) n)) (each a (omega arith) (omega arith)) (stays_range f (a + 1) n (λ k from below. each k (omega arith) (omega arith)))

-- ALL DISKS: the calls on a disk decide alone

abbrev rest_on : (ℕ → ℕ → List Call) → List ℕ → ℕ → ℕ → List Call
rest_on calls sizes n d = flat_map (λ k. calls k (slice_index sizes k)) (range_with_len (d + 1) (n - d - 1))

before_own : {d p : ℕ} (calls : ℕ → ℕ → List Call) (sizes : List ℕ) → ((k m : ℕ) → k ≢ d → Stays d p (calls k m)) → Stays d p (calls_on calls sizes d)
before_own {d} {p} calls sizes other =
    stays_range (λ k. calls k (slice_index sizes k)) 0 d (λ k from below. let apart : k ≢ d = λ same. omega arith in other k (slice_index sizes k) apart)

behind_own : {d p : ℕ} (calls : ℕ → ℕ → List Call) (sizes : List ℕ) (n : ℕ) → ((k m : ℕ) → k ≢ d → Stays d p (calls k m)) → Stays d p (rest_on calls sizes n d)
behind_own {d} {p} calls sizes n other =
    stays_range (λ k. calls k (slice_index sizes k)) (d + 1) (n - d - 1) (λ k from below. let apart : k ≢ d = λ same. omega arith in other k (slice_index sizes k) apart)

pub stays_all : {d p : ℕ} (calls : ℕ → ℕ → List Call) (sizes : List ℕ) (n : ℕ) → ((k m : ℕ) → k ≢ d → Stays d p (calls k m)) → Stays d p (calls d (slice_index sizes d)) → d < n → Stays d p (calls_on calls sizes n)
stays_all {d} {p} calls sizes n other own below =
    subst (Stays d p) (sym (calls_on-at calls sizes n d below))
    (stays_both (calls_on calls sizes d) (calls d (slice_index sizes d) ++ rest_on calls sizes n d) (before_own calls sizes other)
    (stays_both (calls d (slice_index sizes d)) (rest_on calls sizes n d) own (behind_own calls sizes n other)))

pub becomes_all : {d p : ℕ} {x : Sector} (calls : ℕ → ℕ → List Call) (sizes : List ℕ) (n : ℕ) → ((k m : ℕ) → k ≢ d → Stays d p (calls k m)) → Becomes d p (calls d (slice_index sizes d)) x → d < n → Becomes d p (calls_on calls sizes n) x
becomes_all {d} {p} {x} calls sizes n other own below =
    subst (λ (l : List Call). Becomes d p l x) (sym (calls_on-at calls sizes n d below))
    (becomes_behind (calls_on calls sizes d) (calls d (slice_index sizes d) ++ rest_on calls sizes n d)
    (becomes_before (calls d (slice_index sizes d)) (rest_on calls sizes n d) own (behind_own calls sizes n other)))
