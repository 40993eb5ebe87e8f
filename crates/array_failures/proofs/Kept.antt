-- What the last finished round's block leads to keeps its members, by the faults of the journal.
use Rattle.std.proofs.Common.{◌≡◌, ℕ, suc, zero, ◌||◌, Bool, true, false, List, [], ◌∷◌, refl, ap, sym, ◌∙◌, subst, arith, Some, inl, inr, slice_get}
use Rattle.std.specs.List.{AllZip}
use Rattle.std.proofs.lemmas.Bool.Decides.{nat_tests}
use Rattle.std.proofs.lemmas.Slice.Eq.{bytes_eq-Decides}
use Rattle.device_log.specs.Log.{Call}
use Rattle.array_model.specs.declared.journal.Entry.{Entry}
use Rattle.array_model.specs.declared.journal.Event.{Event}
use Rattle.array_model.specs.declared.journal.Event.TheVariants.{Fault}
use Rattle.array_model.specs.Events.{is_fault, is_faulty}
use Rattle.array_model.specs.Blocks.{Laid}
use Rattle.array_model.specs.Rounds.{IsFinished, is_fault_of, is_lost}
use Rattle.array_model.specs.FailureLaw.{KeepsMembers}
use Rattle.array_machine.specs.Setting.{Setting}
use Rattle.array_machine.specs.Control.{Control}
use Rattle.array_base.specs.Premises.{Premises}
use Rattle.array_base.specs.Base.{ledger, disks_by, Core}
use Rattle.array_base.proofs.Targets.{or_first, or_second}
use Rattle.array_base.proofs.Finished.{finished_first, finished_later}
use Rattle.array_told.specs.Told.{finished_generation, Tells}
use Rattle.array_failures.specs.Members.{IsLost, StaysInSlot, LeadsTo}

-- what holds of two lists place by place holds at each place
pub zip_at : {X Y : Type 0} (R : X → Y → Type 0) (xs : List X) (ys : List Y) → AllZip R xs ys → (i : ℕ) (x : X)
    → slice_get xs i ≡ Some x → (y : Y) × (slice_get ys i ≡ Some y) × R x y
zip_at R [] [] zip i x is = absurd cc
zip_at R [] (y ∷ ys) zip i x is = absurd zip
zip_at R (x ∷ xs) [] zip i z is = absurd zip
zip_at R (x ∷ xs) (y ∷ ys) zip zero z is = (y, refl, let same : x ≡ z = cc is in subst (λ u. R u y) same zip.0)
zip_at R (x ∷ xs) (y ∷ ys) zip (suc i) z is = zip_at R xs ys zip.1 i z is

module _ (S : Setting) where
  -- FAULTS

  -- a fault of a disk is one of its serial
  fault_of_serial : (d : ℕ) (serial : List ℕ) → serial ≡ S.start.disks.serial d → (e : Event) → is_fault d e ≡ true
      → is_fault_of S.start.disks serial e ≡ true
  fault_of_serial d serial is (Fault x) h =
      let same : x.0 ≡ d = grind (arith, nat_tests, h) in
      let equal : S.start.disks.serial x.0 ≡ serial = ap S.start.disks.serial same ∙ sym is in
      (bytes_eq-Decides (S.start.disks.serial x.0) serial).1 equal
  fault_of_serial d serial is _ h = absurd cc

  lost_in : (d : ℕ) (serial : List ℕ) → serial ≡ S.start.disks.serial d → (journal : List Entry)
      → is_faulty d journal ≡ true → is_lost S.start.disks serial journal ≡ true
  lost_in d serial is [] h = absurd cc
  lost_in d serial is (e ∷ es) h = at (is_fault d e.event) refl h (lost_in d serial is es)
    where
      at : (b : Bool) → is_fault d e.event ≡ b → (b || is_faulty d es) ≡ true
          → (is_faulty d es ≡ true → is_lost S.start.disks serial es ≡ true)
          → is_lost S.start.disks serial (e ∷ es) ≡ true
      at true here h more =
          or_first _ (is_lost S.start.disks serial es) (fault_of_serial d serial is e.event here)
      at false here h more =
          or_second (is_fault_of S.start.disks serial e.event) (is_lost S.start.disks serial es) (more h)

  -- a disk that is lost has its fault in the journal
  pub lost_told : (c : Control) (journal : List Entry) (serial : List ℕ) → Tells S c journal
      → IsLost S c.round.faults serial → is_lost S.start.disks serial journal ≡ true
  lost_told c journal serial told lost =
      lost_in lost.disk serial lost.is journal (told.faults lost.disk ∙ lost.failed)

  -- MEMBERS

  -- a block that the last finished round leads to keeps its members
  pub keeps_members : (c : Control) (journal : List Entry) (m : Laid) → Tells S c journal
      → LeadsTo S c.round.faults c.round.last m → KeepsMembers S.start journal c.round.last m
  keeps_members c journal m told leads = record {
    expected = λ serial is. elim (leads.expected serial is) [
      | inl there ↦ inl there
      | inr lost ↦ inr (lost_told c journal serial told lost)
    ];
    in_sync = λ v slot before supported is sync.
        let found = zip_at (StaysInSlot S c.round.faults c.round.last m) (S.start.words.slots c.round.last v)
        (S.start.words.slots m v) (leads.slots v supported) slot before is in
        elim (found.2.in_sync sync) [
          | inl stays ↦ inl (found.0, found.1, stays)
          | inr why ↦ elim why [
            | inl lost ↦ inr (inl (lost_told c journal before.serial told lost))
            | inr counted ↦ inr (inr (counted.newest, counted.listed))
          ]
        ];
  }

  -- THE LAST FINISHED ROUND

  -- its block by journal and log is that of the control state
  pub finished_last : (P : Premises S) (log : List Call) (journal : List Entry) (c : Control)
      → Core S P (disks_by S log) (ledger c.round) → Tells S c journal → (m : Laid)
      → IsFinished S.start log journal m → m ≡ c.round.last
  finished_last P log journal c core told m finished = at c.round.first refl
    where
      at : (first : Bool) → c.round.first ≡ first → m ≡ c.round.last
      at true is =
          finished_first S P log journal (ledger c.round) core m finished is
          (told.ends ∙ ap (λ f. finished_generation S f c.round) is)
      at false is =
          finished_later S P log journal (ledger c.round) core m finished is
          (told.ends ∙ ap (λ f. finished_generation S f c.round) is)
