-- Calls on one disk after another.
use Rattle.std.proofs.Common.{◌≡◌, ℕ, suc, zero, ◌+◌, ◌-◌, ◌<◌, List, [], ◌∷◌, ◌++◌, Option, sym, ◌∙◌, ap, subst, arith}
use Rattle.std.specs.Prelude.{slice_index}
use Rattle.std.specs.List.{range_with_len, flat_map}
use Rattle.std.proofs.lemmas.Grind.{flat_map-append}
use Rattle.std.proofs.lemmas.List.{append-nil}
use Rattle.device_log.specs.Log.{Call}
use Rattle.member_bank.specs.Told.{LogsAll}
use Rattle.image_create.specs.Calls.{calls_on}
use Rattle.image_create.specs.Stops.{StopsAt}
use Rattle.image_create.proofs.Making.{logs_both, stops_behind, stops_before}

pub range_split : (a k m : ℕ) → range_with_len a (k + m) ≡ range_with_len a k ++ range_with_len (a + k) m
range_split a zero m =
    let same : zero + m ≡ m = omega arith in
    let here : a ≡ a + zero = omega arith in
    ap (range_with_len a) same ∙ ap (λ (x : ℕ). range_with_len x m) here
range_split a (suc k) m =
    let same : suc k + m ≡ suc (k + m) = omega arith in
    let here : a + 1 + k ≡ a + suc k = omega arith in
    ap (range_with_len a) same
    ∙ ap (λ (x : List ℕ). a ∷ x) (range_split (a + 1) k m ∙ ap (λ (x : ℕ). range_with_len (a + 1) k ++ range_with_len x m) here)

-- the number at k, those before it and those behind it
pub range_at : (n k : ℕ) → k < n → range_with_len 0 n ≡ range_with_len 0 k ++ (k ∷ range_with_len (k + 1) (n - k - 1))
range_at n k below =
    let whole : n ≡ k + suc (n - k - 1) = omega arith in
    let here : 0 + k ≡ k = omega arith in
    ap (range_with_len 0) whole
    ∙ range_split 0 k (suc (n - k - 1))
    ∙ ap (λ (x : ℕ). range_with_len 0 k ++ (x ∷ range_with_len (x + 1) (n - k - 1))) here

-- the calls on one disk more
pub calls_on-more : (calls : ℕ → ℕ → List Call) (sizes : List ℕ) (k : ℕ) → calls_on calls sizes (k + 1) ≡ calls_on calls sizes k ++ calls k (slice_index sizes k)
calls_on-more calls sizes k =
    let on : ℕ → List Call = λ d. calls d (slice_index sizes d) in
    let here : 0 + k ≡ k = omega arith in
    ap (flat_map on) (range_split 0 k 1 ∙ ap (λ (x : ℕ). range_with_len 0 k ++ x ∷ []) here)
    ∙ flat_map-append on (range_with_len 0 k) (k ∷ [])
    ∙ ap (λ (x : List Call). calls_on calls sizes k ++ x) (append-nil (on k))

-- all calls, from those on disk k on
pub calls_on-at : (calls : ℕ → ℕ → List Call) (sizes : List ℕ) (n k : ℕ) → k < n
    → calls_on calls sizes n ≡ calls_on calls sizes k ++ (calls k (slice_index sizes k) ++ flat_map (λ d. calls d (slice_index sizes d)) (range_with_len (k + 1) (n - k - 1)))
calls_on-at calls sizes n k below =
    let on : ℕ → List Call = λ d. calls d (slice_index sizes d) in
    ap (flat_map on) (range_at n k below) ∙ flat_map-append on (range_with_len 0 k) (k ∷ range_with_len (k + 1) (n - k - 1))

pub disk_made : {a b c : Option (List Call)} (calls : ℕ → ℕ → List Call) (sizes now : List ℕ) (k : ℕ) → now ≡ sizes
    → LogsAll a b (calls_on calls sizes k) → LogsAll b c (calls k (slice_index now k)) → LogsAll a c (calls_on calls sizes (k + 1))
disk_made {a} {b} {c} calls sizes now k same before here =
    subst (LogsAll a c) (sym (calls_on-more calls sizes k))
    (logs_both (calls_on calls sizes k) (calls k (slice_index sizes k)) before (subst (λ (x : List ℕ). LogsAll b c (calls k (slice_index x k))) same here))

pub disk_stopped : {a b c : Option (List Call)} (calls : ℕ → ℕ → List Call) (sizes now : List ℕ) (n k : ℕ) → now ≡ sizes → k < n
    → LogsAll a b (calls_on calls sizes k) → StopsAt b c (calls k (slice_index now k)) k → StopsAt a c (calls_on calls sizes n) k
disk_stopped {a} {b} {c} calls sizes now n k same below before here =
    let rest : List Call = flat_map (λ d. calls d (slice_index sizes d)) (range_with_len (k + 1) (n - k - 1)) in
    subst (λ (x : List Call). StopsAt a c x k) (sym (calls_on-at calls sizes n k below))
    (stops_behind (calls_on calls sizes k) (calls k (slice_index sizes k) ++ rest) before
    (stops_before (calls k (slice_index sizes k)) rest (subst (λ (x : List ℕ). StopsAt b c (calls k (slice_index x k)) k) same here)))
