-- What a job with slots left to read loses.
use Rattle.std.proofs.Common.{◌≡◌, ℕ, not, Bool, false, List, [], ◌∷◌, cond, slice_index_or, Some, None, refl, ap, sym, ◌∙◌, arith}
use Rattle.array_machine.specs.Numbers.{first_of}
use Rattle.array_machine.specs.Volumes.{Got}
use Rattle.array_machine.specs.Clients.{Row}
use Rattle.array_machine.specs.RowJobs.{got_slots, unread, lost_if, lost_row}
use Rattle.row_path.specs.Marks.{AreMarksOf}
use Rattle.row_path.specs.Plans.{unmarked}
use Rattle.row_path.specs.Jobs.{read_anew}

pub unread_is : (marks : List Bool) (plan : List ℕ) (got : List Got) → AreMarksOf marks (got_slots got)
    → unread plan got ≡ unmarked marks plan
unread_is marks [] got are = refl
unread_is marks (s ∷ ss) got are =
    ap (λ b. cond (not b) (s ∷ unread ss got) (unread ss got)) (sym (are s))
    ∙ ap (λ left. cond (not (slice_index_or marks s false)) (s ∷ left) left) (unread_is marks ss got are)

some_lost : (left : List ℕ) (r : Row) (s : ℕ) → first_of left ≡ Some s → lost_if left r ≡ read_anew r
some_lost [] r s first = absurd (grind (arith, first))
some_lost (t ∷ ts) r s first = refl

none_lost : (left : List ℕ) (r : Row) → first_of left ≡ None → lost_if left r ≡ r
none_lost [] r first = refl
none_lost (t ∷ ts) r first = absurd (grind (arith, first))

lost_with : (r : Row) (plan : List ℕ) → r.plan ≡ Some plan → lost_row r.plan r ≡ lost_if (unread plan r.got) r
lost_with r plan is = ap (λ p. lost_row p r) is

pub lost_some : (marks : List Bool) (r : Row) (plan : List ℕ) (s : ℕ) → r.plan ≡ Some plan
    → AreMarksOf marks (got_slots r.got) → first_of (unmarked marks plan) ≡ Some s → lost_row r.plan r ≡ read_anew r
lost_some marks r plan s is are first =
    lost_with r plan is ∙ some_lost (unread plan r.got) r s (ap first_of (unread_is marks plan r.got are) ∙ first)

pub lost_none : (marks : List Bool) (r : Row) (plan : List ℕ) → r.plan ≡ Some plan
    → AreMarksOf marks (got_slots r.got) → first_of (unmarked marks plan) ≡ None → lost_row r.plan r ≡ r
lost_none marks r plan is are first =
    lost_with r plan is ∙ none_lost (unread plan r.got) r (ap first_of (unread_is marks plan r.got are) ∙ first)
