-- How the making of a container ends.
use Rattle.std.proofs.Common.{◌≡◌, ◌∙◌, ℕ, ◌<◌, ◌≤◌, ◌++◌, inl, inr, List, [], All, length, Option, Some, None, refl, ap, subst, arith}
use Rattle.std.specs.Prelude.{IfErr, IfSome, OnOk, Result, Ok, Err, slice_get, slice_index}
use Rattle.std.proofs.lemmas.List.Elements.{All-get_or}
use Rattle.std.proofs.lemmas.Option.{slice_get_within}
use Rattle.units.specs.declared.disk.DiskNo.{DiskNo}
use Rattle.units.specs.declared.disk.Sector.{Sector}
use Rattle.units.specs.declared.disk.Serial.{Serial}
use Rattle.imsm_base.specs.Layout.{family_of}
use Rattle.device_log.specs.Log.{Call}
use Rattle.member_bank.specs.Faults.{Rose}
use Rattle.member_bank.specs.Told.{LogsAll}
use Rattle.new_container.specs.declared.container.NewContainer.{NewContainer}
use Rattle.new_container.specs.Created.{CanCreate, IsDisk, created_block}
use Rattle.image_outside.specs.Told.{BankTold}
use Rattle.image_outside.specs.Shelves.{IsUncalled}
use Rattle.image_outside.specs.Lines.{failed_member_line}
use Rattle.image_create.specs.Creates.{CreatesBy, bytes_on, calls_for, created_line, disks_in, rows_on}
use Rattle.image_create.specs.Laid.{IsLaidDown, LaysDown}
use Rattle.image_create.specs.Room.{IsFirstBelow}
use Rattle.image_create.specs.Stops.{StopsAt}

-- no disk of enough sectors is the first that has too few
pub none_below : (least : ℕ) (sizes : List ℕ) (d : ℕ) → All (λ n. least ≤ n) sizes → IsFirstBelow least sizes d → ⊥
none_below least sizes d room below =
    let enough : least ≤ slice_index sizes d = All-get_or (λ n. least ≤ n) sizes d 0 below.there room in
    let few : slice_index sizes d < least = below.small in
    omega arith

-- THE BANK AFTER THE CALLS

-- with the serials and sizes that it had before
abbrev named_as : BankTold → BankTold → BankTold
named_as old new = record new { serials = old.serials; sizes = old.sizes }

still_named : (old new : BankTold) → new.serials ≡ old.serials → new.sizes ≡ old.sizes → named_as old new ≡ new
still_named old new named sized =
    subst (λ (s : List Serial). record new { serials = s; sizes = old.sizes } ≡ new) named
    (subst (λ (n : List ℕ). record new { sizes = n } ≡ new) sized refl)

-- a log that was empty has just these calls
alone : (before log : Option (List Call)) (calls : List Call) → IfSome before (λ l. l ≡ []) → LogsAll before log calls → IfSome log (λ l. l ≡ calls)
alone before None calls fresh logs = tt
alone before (Some now) calls fresh logs =
    let at = logs now refl in
    let empty : at.0 ≡ [] = subst (λ (b : Option (List Call)). IfSome b (λ l. l ≡ [])) at.1 fresh in
    at.2 ∙ ap (λ (l : List Call). l ++ calls) empty

-- what was laid down behind a log that was empty
laid_first : (sizes : List ℕ) (rows : ℕ) (bytes : List ℕ) (opening : Option (List (List Sector))) (before now : Option (List Call)) (calls : List Call)
    → IfSome before (λ l. l ≡ []) → LogsAll before now calls → LaysDown sizes rows bytes opening before now → LaysDown sizes rows bytes opening (Some []) now
laid_first sizes rows bytes None before now calls fresh logs laid = tt
laid_first sizes rows bytes (Some o) before None calls fresh logs laid = tt
laid_first sizes rows bytes (Some o) before (Some now) calls fresh logs laid =
    let at = logs now refl in
    let was : IfSome (Some at.0) (λ b. IsLaidDown sizes rows bytes o b now) = subst (λ (b : Option (List Call)). IfSome b (λ l. IsLaidDown sizes rows bytes o l now)) at.1 laid in
    let empty : at.0 ≡ [] = subst (λ (b : Option (List Call)). IfSome b (λ l. l ≡ [])) at.1 fresh in
    subst (λ (l : List Call). IsLaidDown sizes rows bytes o l now) empty was

pub created_by : (made : NewContainer) (old new : BankTold) (lines : List ℕ) → new.serials ≡ old.serials → new.sizes ≡ old.sizes → IsUncalled old → CanCreate made (disks_in old)
    → length old.serials ≡ length old.sizes → All IsDisk (disks_in old) → LogsAll old.log new.log (calls_for made old) → LaysDown old.sizes (rows_on made old) (bytes_on made old) new.opening old.log new.log
    → lines ≡ created_line (family_of (created_block made (disks_in old))) → CreatesBy made new lines 0
created_by made old new lines named sized fresh can as_many typed logs laid are =
    subst (λ (b : BankTold). CreatesBy made b lines 0) (still_named old new named sized)
    (inl (
      refl,
      record {
        fits = can;
        sized = as_many;
        typed = typed;
        calls = alone old.log new.log (calls_for made old) fresh logs;
        laid = laid_first old.sizes (rows_on made old) (bytes_on made old) new.opening old.log new.log (calls_for made old) fresh logs laid;
        lines_are = are;
      },
    ))

pub stopped_by : (made : NewContainer) (old new : BankTold) (lines : List ℕ) (d : ℕ) (serial : Serial) → new.serials ≡ old.serials → new.sizes ≡ old.sizes → IsUncalled old → CanCreate made (disks_in old)
    → ((k : ℕ) → k < length old.serials → old.faults k ≡ 0) → slice_get new.serials d ≡ Some serial → Rose (old.faults d) (new.faults d)
    → StopsAt old.log new.log (calls_for made old) d → lines ≡ failed_member_line serial → CreatesBy made new lines 13
stopped_by made old new lines d serial named sized fresh can sound at rose stop are =
    let there : slice_get old.serials d ≡ Some serial = subst (λ (s : List Serial). slice_get s d ≡ Some serial) named at in
    subst (λ (b : BankTold). CreatesBy made b lines 13) (still_named old new named sized)
    (inr (inr (
      refl,
      record {
        fits = can;
        d = d;
        serial = serial;
        named = there;
        cause = subst (λ (n : ℕ). Rose n (new.faults d)) (sound d (slice_get_within old.serials d serial there)) rose;
        run = stop.run;
        stopped = stop.stopped;
        calls = alone old.log new.log stop.run fresh stop.logs;
        lines_are = are;
      },
    )))

-- BY WHAT BECAME OF THE CALLS

-- what follows where a block was laid down, and where a call failed, follows
pub laid_or : {Logged Stands Prints Goal : Type 0} {Stops Rises Tells : DiskNo → Type 0} (r : Result (Unit {0}) DiskNo)
    → OnOk r Logged → OnOk r Stands → OnOk r Prints → IfErr r Stops → IfErr r Rises → IfErr r Tells
    → (Logged → Stands → Prints → Goal) → ((d : DiskNo) → Stops d → Rises d → Tells d → Goal) → Goal
laid_or (Ok value) logs laid prints stops cause tells goes fails = goes logs laid prints
laid_or (Err d) logs laid prints stops cause tells goes fails = fails d stops cause tells

-- what holds of rows and bytes holds of those that they are
pub of_same : {rows other : ℕ} {bytes others : List ℕ} (Holds : ℕ → List ℕ → Type 0) → rows ≡ other → bytes ≡ others → Holds rows bytes → Holds other others
of_same {rows} {other} {bytes} {others} Holds same alike is = subst (λ (r : ℕ). Holds r others) same (subst (Holds rows) alike is)
