-- The statuses with which a command ends, but for a write fault and for want of memory.
use Rattle.std.proofs.Common.{◌≡◌, ℕ, ◌==◌, ◌⊎◌, Bool, true, false, List, [], ◌∷◌, Option, Some, None, refl, sym, subst, inl, inr}
use Rattle.std.specs.Prelude.{if◌then◌else◌}
use Rattle.std.specs.List.{list_any}
use Rattle.std.specs.Option.{IsSomeAnd}
use Rattle.array_model.specs.Kept.{ScriptState}
use Rattle.stage.specs.declared.ends.DriveEnd.{DriveEnd}
use Rattle.stage.specs.declared.ends.DriveEnd.TheVariants.{Over, Full, Member}
use Rattle.mpb_store.specs.declared.answer.Found.{Found}
use Rattle.mpb_store.specs.declared.answer.Found.TheVariants.{Whole, Blank, Torn, Unread}
use Rattle.new_container.specs.declared.container.NewContainer.{NewContainer}
use Rattle.image_outside.specs.Told.{BankTold, ShelfTold}
use Rattle.image_words.specs.Words.{ImageWord}
use Rattle.image_verdict.specs.declared.report.Report.{Report}
use Rattle.image_verdict.specs.declared.report.Report.TheVariants.{Unbuilt, Waiting, Started}
use Rattle.image_verdict.specs.Endings.{Reports}
use Rattle.image_verdict.specs.Text.{report_status}
use Rattle.container.specs.declared.verdict.Verdict.{Verdict}
use Rattle.container.specs.declared.verdict.Verdict.TheVariants as verdicts
use Rattle.container.specs.Volumes.{is_any_started}
use Rattle.verdict_text.specs.Status.{verdict_status}
use Rattle.image_assemble.specs.Endings.{Assembles}
use Rattle.image_incremental.specs.Endings.{Arrives}
use Rattle.image_examine.specs.Endings.{Examines}
use Rattle.image_examine.specs.Text.{found_status}
use Rattle.image_create.specs.Creates.{CreatesBy}
use Rattle.image_replay.specs.Ends.{end_status}
use Rattle.image_replay.specs.Replays.{ReplaysBy}
use Rattle.image_run.specs.Does.{Does, OnImages}
use Rattle.image_run.specs.Openings.{OpensAll, OpensNot}
use Rattle.image_run.specs.Outside.{Outside}
use Rattle.image_run.specs.Requests.{Request, NotWords, TooManyImages, Assemble, Incremental, Examine, Create, Replay}
use Rattle.image_run.specs.Scripts.{IsStopped}

-- one of the statuses of a command that has what it reads
abbrev pub is_plain : ℕ → Bool
is_plain status = list_any (λ k. k == status) (0 ∷ 1 ∷ 2 ∷ 3 ∷ 7 ∷ 8 ∷ 10 ∷ 13 ∷ 14 ∷ [])

plain_as : (status k : ℕ) → status ≡ k → is_plain k ≡ true → is_plain status ≡ true
plain_as status k is plain = subst (λ n. is_plain n ≡ true) (sym is) plain

-- what holds of a bank that is there
pub of_some : {P : BankTold → Type 0} {Q : Type 0} → (held : Option BankTold) → ((bank : BankTold) → P bank → Q) → IsSomeAnd held P → Q
of_some None gives there = absurd there
of_some (Some bank) gives there = gives bank there

report_plain : (report : Report) → is_plain (report_status report) ≡ true
report_plain (Unbuilt s) = refl
report_plain (Waiting family generation missing) = refl
report_plain (Started family generation present) = refl

either_plain : (b : Bool) → is_plain (if b then 0 else 3) ≡ true
either_plain true = refl
either_plain false = refl

verdict_plain : (verdict : Verdict) → is_plain (verdict_status verdict) ≡ true
verdict_plain (verdicts.Refused fault) = refl
verdict_plain (verdicts.Large family generation size) = refl
verdict_plain (verdicts.GenerationEnd family generation) = refl
verdict_plain (verdicts.Waiting family generation list) = refl
verdict_plain (verdicts.Ready opening) = either_plain (is_any_started opening.volumes.items)

found_plain : (found : Found) → is_plain (found_status found) ≡ true
found_plain Whole = refl
found_plain Blank = refl
found_plain (Torn fault) = refl
found_plain Unread = refl

end_plain : (ended : DriveEnd) → is_plain (end_status ended) ≡ true
end_plain Over = refl
end_plain Full = refl
end_plain (Member d) = refl

reports_plain : (bank : BankTold) (lines : List ℕ) (status : ℕ) → Reports bank lines status → is_plain status ≡ true
reports_plain bank lines status says = plain_as status (report_status says.report) says.status_is (report_plain says.report)

assembles_plain : (run : Bool) (bank : BankTold) (lines : List ℕ) (status : ℕ) → Assembles run bank lines status → is_plain status ≡ true
assembles_plain run bank lines status says = plain_as status (verdict_status says.verdict) says.status_is (verdict_plain says.verdict)

arrives_plain : (run : Bool) (bank : BankTold) (lines : List ℕ) (status : ℕ) → Arrives run bank lines status → is_plain status ≡ true
arrives_plain run bank lines status says = plain_as status (verdict_status says.last) says.status_is (verdict_plain says.last)

examines_plain : (bank : BankTold) (lines : List ℕ) (status : ℕ) → Examines bank lines status → is_plain status ≡ true
examines_plain bank lines status says = plain_as status (found_status says.found) says.status_is (found_plain says.found)

creates_plain : (made : NewContainer) (bank : BankTold) (lines : List ℕ) (status : ℕ) → CreatesBy made bank lines status → is_plain status ≡ true
creates_plain made bank lines status (inl (is, creates)) = plain_as status 0 is refl
creates_plain made bank lines status (inr (inl (is, refuses))) = plain_as status 3 is refl
creates_plain made bank lines status (inr (inr (is, stops))) = plain_as status 13 is refl

pub replays_plain : (script : ScriptState) (limit : ℕ) (bank : BankTold) (lines : List ℕ) (status : ℕ) → ReplaysBy script limit bank lines status → is_plain status ≡ true
replays_plain script limit bank lines status (inl says) = reports_plain bank lines status says.reports
replays_plain script limit bank lines status (inr (inl says)) = plain_as status 3 says.status_is refl
replays_plain script limit bank lines status (inr (inr says)) = plain_as status (end_status says.ended) says.status_is (end_plain says.ended)

pub opens_not_plain : (images : List ImageWord) (before after : ShelfTold) (lines : List ℕ) (status : ℕ) → OpensNot images before after lines status → is_plain status ≡ true
opens_not_plain images before after lines status fails = plain_as status 7 fails.status_is refl

pub opens_plain : (images : List ImageWord) (before after : ShelfTold) (status : ℕ) (P : BankTold → Type 0)
    → ((bank : BankTold) → P bank → is_plain status ≡ true) → OpensAll images before after P → is_plain status ≡ true
opens_plain images before after status P plain opens = of_some after.bank (λ bank both. plain bank both.1) opens.bank

images_plain : (images : List ImageWord) (before after : ShelfTold) (Done : BankTold → List ℕ → ℕ → Type 0) (lines : List ℕ) (status : ℕ)
    → ((bank : BankTold) → Done bank lines status → is_plain status ≡ true) → OnImages images before after Done lines status → is_plain status ≡ true
images_plain images before after Done lines status plain (inl fails) = opens_not_plain images before after lines status fails
images_plain images before after Done lines status plain (inr opens) = opens_plain images before after status (λ bank. Done bank lines status) plain opens

-- what each request ends with
pub does_end : (request : Request) (before after : Outside) (lines : List ℕ) (status : ℕ) → Does request before after lines status → (is_plain status ≡ true) ⊎ IsStopped status
does_end NotWords before after lines status done = inl (plain_as status 1 done.1.status_is refl)
does_end TooManyImages before after lines status done = inl (plain_as status 10 done.1.status_is refl)
does_end (Assemble run images) before after lines status done =
    inl (images_plain images before.shelf after.shelf (Assembles run) lines status (λ bank. assembles_plain run bank lines status) done.1)
does_end (Incremental run images) before after lines status done =
    inl (images_plain images before.shelf after.shelf (Arrives run) lines status (λ bank. arrives_plain run bank lines status) done.1)
does_end (Examine images) before after lines status done =
    inl (images_plain images before.shelf after.shelf Examines lines status (λ bank. examines_plain bank lines status) done.1)
does_end (Create made images) before after lines status done =
    inl (images_plain images before.shelf after.shelf (CreatesBy made) lines status (λ bank. creates_plain made bank lines status) done.1)
does_end (Replay limit images) before after lines status (inl fails) = inl (opens_not_plain images before.shelf after.shelf lines status fails.1)
does_end (Replay limit images) before after lines status (inr (inl stops)) = inr stops.stopped
does_end (Replay limit images) before after lines status (inr (inr done)) =
    inl (opens_plain images before.shelf after.shelf status (λ bank. ReplaysBy done.script limit bank lines status) (λ bank. replays_plain done.script limit bank lines status) done.opened)
