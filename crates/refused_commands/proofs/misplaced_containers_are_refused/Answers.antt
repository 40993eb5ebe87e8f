use Rattle.std.proofs.Common.{◌≡◌, ◌+◌, ◌&&◌, ℕ, Bool, true, false, List, [], ◌∷◌, ◌++◌, length, refl, sym, subst, ◌∙◌, ap, arith, inl, inr}
use Rattle.std.specs.Prelude.{nat_le, nat_lt, IfSome, slice_index}
use Rattle.std.specs.List.{flat_map, list_any, range_with_len}
use Rattle.std.proofs.lemmas.Bool.Decides.{nat_tests}
use Rattle.std.proofs.lemmas.List.{append_cancel_left}
use Rattle.std.proofs.lemmas.Bool.{or_left, or_right}
use Rattle.units.specs.Places.{anchor_place}
use Rattle.device_log.specs.Log.{Call}
use Rattle.mpb_store.specs.Sectors.{block_sectors}
use Rattle.new_container.specs.declared.container.NewContainer.{NewContainer}
use Rattle.image_outside.specs.Told.{BankTold}
use Rattle.image_create.specs.Calls.{block_calls, calls_on, create_calls, row_calls, sync_call, write_call, zero_calls, zero_sectors}
use Rattle.image_create.specs.Creates.{CreatesBy, bytes_on, calls_for, rows_on}
use Rattle.refused_commands.specs.Wrong.{TellsOfFirst, writes_at}
use Rattle.refused_commands.proofs.First.{first_place}
use Rattle.refused_commands.proofs.misplaced_containers_are_refused.Goals as goal

-- the zeros at the place of the first disk's anchor
abbrev anchor_zeros : ℕ → Call
anchor_zeros n = write_call 0 (anchor_place n) (zero_sectors 1)

nested : (rows : List Call) (anchor sync : Call) (more blocks : List Call)
    → ((rows ++ anchor ∷ sync ∷ []) ++ more) ++ blocks ≡ rows ++ anchor ∷ sync ∷ (more ++ blocks)
nested [] anchor sync more blocks = refl
nested (row ∷ rows) anchor sync more blocks = ap (λ calls. row ∷ calls) (nested rows anchor sync more blocks)

-- how the calls begin: with the rows of the first disk, and the zeros of its anchor
begins : (n : ℕ) (sizes : List ℕ) (rows : ℕ) (bytes : List ℕ)
    → (rest : List Call) × (create_calls (n ∷ sizes) rows bytes ≡ row_calls 0 rows ++ anchor_zeros n ∷ rest)
begins n sizes rows bytes =
    let all : List ℕ = n ∷ sizes in
    let more : List Call = flat_map (λ d. zero_calls rows d (slice_index all d)) (range_with_len 1 (length sizes)) in
    let blocks : List Call = calls_on (block_calls (block_sectors bytes) (length bytes)) all (length all) in
    (sync_call 0 ∷ (more ++ blocks), nested (row_calls 0 rows) (anchor_zeros n) (sync_call 0) more blocks)

-- the log of a container that was made
made_log : (made : NewContainer) (n : ℕ) (log : List Call) (bank : BankTold) (lines : List ℕ) → TellsOfFirst n log bank → CreatesBy made bank lines 0
    → (rest : List Call) × (log ≡ row_calls 0 (rows_on made bank) ++ anchor_zeros n ∷ rest)
made_log made n log bank lines tells (inl (is, creates)) =
    let rows : ℕ = rows_on made bank in
    let bytes : List ℕ = bytes_on made bank in
    let start = begins n tells.others rows bytes in
    let log_is : log ≡ calls_for made bank = subst (λ l. IfSome l (λ l. l ≡ calls_for made bank)) tells.told creates.calls in
    (start.0, log_is ∙ (ap (λ sizes. create_calls sizes rows bytes) tells.sized ∙ start.1))
made_log made n log bank lines tells (inr (inl (is, refuses))) = absurd (cc is)
made_log made n log bank lines tells (inr (inr (is, stops))) = absurd (cc is)

any_within : (test : Call → Bool) (front : List Call) (call : Call) (rest : List Call) → test call ≡ true → list_any test (front ++ call ∷ rest) ≡ true
any_within test [] call rest h = or_left (test call) (list_any test rest) h
any_within test (first ∷ front) call rest h = or_right (test first) (list_any test (front ++ call ∷ rest)) (any_within test front call rest h)

covers_own : (p : ℕ) → (nat_le p p && nat_lt p (p + 1)) ≡ true
covers_own p = grind (arith, nat_tests)

both : (log : List Call) (test : Call → Bool) → list_any test log ≡ false → list_any test log ≡ true → ⊥
both log test none some_call = cc (none, some_call)

pub returns-clause-unwritten : goal.returns-clause-unwritten
returns-clause-unwritten c made n log bank lines leaves tells creates =
    let start = made_log made n log bank lines tells creates in
    let test = writes_at 0 (anchor_place n) in
    both log test leaves (subst (λ l. list_any test l ≡ true) (sym start.1)
    (any_within test (row_calls 0 (rows_on made bank)) (anchor_zeros n) start.0 (covers_own (anchor_place n))))

pub returns-clause-resized : goal.returns-clause-resized
returns-clause-resized c made n m sizes bytes bank lines other tells creates =
    let rows : ℕ = rows_on made bank in
    let mine = begins m sizes rows bytes in
    let told = made_log made n (create_calls (m ∷ sizes) rows bytes) bank lines tells creates in
    let same : anchor_zeros m ∷ mine.0 ≡ anchor_zeros n ∷ told.0 =
    append_cancel_left (row_calls 0 rows) (anchor_zeros m ∷ mine.0) (anchor_zeros n ∷ told.0) (sym mine.1 ∙ told.1)
    in
    other (ap first_place same)
