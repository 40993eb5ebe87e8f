use Rattle.std.proofs.Common.{◌≡◌, ℕ, Bool, List, [], ◌∷◌, ◌++◌, Some, refl, sym, subst, ◌∙◌, ap, zero, suc, None, inr}
use Rattle.std.specs.Prelude.{IfSome, slice_get}
use Rattle.units.specs.Places.{anchor_place}
use Rattle.device_log.specs.Log.{Call, Read}
use Rattle.image_outside.specs.Told.{BankTold}
use Rattle.image_verdict.specs.declared.images.ImageRead.{ImageRead}
use Rattle.image_verdict.specs.declared.report.Report.TheVariants.{Unbuilt}
use Rattle.image_verdict.specs.Endings.{Reports}
use Rattle.image_verdict.specs.Reports.{Holds}
use Rattle.units.specs.declared.disk.Serial.{Serial}
use Rattle.image_verdict.specs.Images.{IsAnchorOn, IsFoundOn, StandIn, anchor_reads}
use Rattle.refused_commands.specs.Wrong.{FailsAnchor, TellsOfOne, read_of}
use Rattle.refused_commands.proofs.Anchors.{the_read, one_call, one_read, two_not_one}
use Rattle.refused_commands.proofs.First.{first_place}
use Rattle.refused_commands.proofs.misread_anchors_are_refused.Goals as goal

-- so this is the log that is told
told_read : (n : ℕ) (log : List Call) (bank : BankTold) (lines : List ℕ) (status : ℕ) → TellsOfOne n log bank → Reports bank lines status → (went : Bool) × (log ≡ the_read n went ∷ [])
told_read n log bank lines status tells reports =
    let one = one_read reports.images n (reports.found.sized ∙ tells.sized) tells.large in
    let log_is : log ≡ anchor_reads reports.images = subst (λ l. IfSome l (λ log. log ≡ anchor_reads reports.images)) tells.told reports.reads in
    (one.0, log_is ∙ one.1)

pub returns-clause-unread : goal.returns-clause-unread
returns-clause-unread c n bank lines status tells reports =
    let read = told_read n [] bank lines status tells reports in
    let same : [] ≡ the_read n read.0 ∷ [] = read.1 in
    cc same

pub returns-clause-twice : goal.returns-clause-twice
returns-clause-twice c n bank lines status tells reports =
    let once = read_of (anchor_place n) in
    let read = told_read n (once ∷ once ∷ []) bank lines status tells reports in
    two_not_one once once (the_read n read.0) read.1

pub returns-clause-elsewhere : goal.returns-clause-elsewhere
returns-clause-elsewhere c n place bank lines status other tells reports =
    let read = told_read n (read_of place ∷ []) bank lines status tells reports in
    other (ap first_place read.1)

-- an image of this serial and size whose anchor couldn't be read
abbrev unread_image : Serial → ℕ → ImageRead
unread_image own n = record { serial = own; sectors = n; anchor = None }

not_held : (own : Serial) (n : ℕ) (block : List ℕ) → Holds block (unread_image own n) → ⊥
not_held own n block holds = holds.anchored

is_found : (own : Serial) (n : ℕ) (bank : BankTold) → FailsAnchor own n bank → IsFoundOn bank (unread_image own n ∷ [])
is_found own n bank fails = record {
  named = sym fails.named;
  sized = sym fails.tells.sized;
  anchors = only;
  stand = subst (λ o. IfSome o (λ contents. IfSome bank.log (λ log. StandIn (unread_image own n ∷ []) contents))) (sym fails.untold) tt;
}
  where
    only : (d : ℕ) (image : ImageRead) → slice_get (unread_image own n ∷ []) d ≡ Some image → IsAnchorOn bank d image.sectors image.anchor
    only zero image at =
        let same : unread_image own n ≡ image = cc at in
        subst (λ (i : ImageRead). IsAnchorOn bank 0 i.sectors i.anchor) same (inr fails.cause)
    only (suc d) image at = absurd (let none : None ≡ Some image = at in cc none)

pub returns-clause-once : goal.returns-clause-once
returns-clause-once c own n bank fails = record {
  images = unread_image own n ∷ [];
  found = is_found own n bank fails;
  reads = subst (λ l. IfSome l (λ log. log ≡ anchor_reads (unread_image own n ∷ []))) (sym fails.tells.told)
      (sym (ap (λ calls. calls ++ []) (one_call n None fails.tells.large)));
  report = Unbuilt own;
  says = record {
    front = [];
    other = unread_image own n;
    rest = [];
    images_are = refl;
    alike = tt;
    unlike = not_held own n [];
    serial_is = refl;
  };
  lines_are = refl;
  status_is = refl;
}
