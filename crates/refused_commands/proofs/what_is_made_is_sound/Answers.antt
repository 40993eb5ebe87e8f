use Rattle.std.proofs.Common.{◌≡◌, List, Option, Some, inl, inr, subst, ℕ}
use Rattle.std.specs.Option.{IsSomeAnd}
use Rattle.image_outside.specs.Told.{BankTold}
use Rattle.image_words.specs.Words.{ImageWord, serials_named}
use Rattle.new_container.specs.declared.container.NewContainer.{NewContainer}
use Rattle.image_create.specs.Creates.{Creates, CreatesBy, disks_in}
use Rattle.image_run.specs.Does.{OnImages}
use Rattle.image_run.specs.Outside.{Outside}
use Rattle.image_run.specs.Requests.{Create}
use Rattle.image_run.specs.Runs.{Carries}
use Rattle.created_law.proofs.Law.{created_and_opens, sound}
use Rattle.created_law.proofs.Left.{left_are_made}
use Rattle.refused_commands.proofs.what_is_made_is_sound.Goals as goal

-- with status 0 the container stands on the bank
made_on : (made : NewContainer) (bank : BankTold) (lines : List ℕ) → CreatesBy made bank lines 0 → Creates made bank lines
made_on made bank lines (inl (is, creates)) = creates
made_on made bank lines (inr (inl (is, refuses))) = absurd (cc is)
made_on made bank lines (inr (inr (is, stops))) = absurd (cc is)

done_on : (made : NewContainer) (images : List ImageWord) (before after : Outside) (bank : BankTold) (lines : List ℕ) → after.shelf.bank ≡ Some bank
    → OnImages images before.shelf after.shelf (CreatesBy made) lines 0 → Creates made bank lines
done_on made images before after bank lines held (inl fails) = absurd (let seven : 0 ≡ 7 = fails.status_is in cc seven)
done_on made images before after bank lines held (inr opens) =
    made_on made bank lines (subst (λ (h : Option BankTold). IsSomeAnd h (λ b. (b.serials ≡ serials_named images) × CreatesBy made b lines 0)) held opens.bank).1

created : (made : NewContainer) (images : List ImageWord) (before after : Outside) (bank : BankTold) → after.shelf.bank ≡ Some bank → Carries (Create made images) before after 0
    → (lines : List ℕ) × Creates made bank lines
created made images before after bank held (inl (inl written)) = (written.lines, done_on made images before after bank written.lines held written.ends.1)
created made images before after bank held (inl (inr cut)) = absurd (let six : 0 ≡ 6 = cut.0 in cc six)
created made images before after bank held (inr memory) = absurd (let nine : 0 ≡ 9 = memory.0 in cc nine)

pub returns-clause-sound : goal.returns-clause-sound
returns-clause-sound c W made images before after bank opening log left reads held told logged are carries =
    let creates = created made images before after bank held carries in
    sound W reads made (disks_in bank) creates.1.fits creates.1.typed left (left_are_made made bank creates.0 opening log creates.1 told logged left are)

pub returns-clause-opens : goal.returns-clause-opens
returns-clause-opens c W made images before after bank opening log left reads held told logged are carries =
    let creates = created made images before after bank held carries in
    created_and_opens W reads made (disks_in bank) creates.1.fits creates.1.typed left (left_are_made made bank creates.0 opening log creates.1 told logged left are)
