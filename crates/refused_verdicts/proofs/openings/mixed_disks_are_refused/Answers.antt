use Rattle.std.proofs.Common.{◌≡◌, ◌≢◌, ℕ, Bool, List, inl, inr, refl, sym, ◌∙◌, ap, subst, arith}
use Rattle.std.specs.Prelude.{All, Contains}
use Rattle.std.proofs.lemmas.List.Elements.{All-contains}
use Rattle.std.proofs.lemmas.Option.{slice_get_within}
use Rattle.units.specs.declared.disk.Sector.{Sector}
use Rattle.units.specs.declared.disk.Serial.{Serial}
use Rattle.imsm_base.specs.Layout.{family_of, generation_of}
use Rattle.imsm_base.specs.Parts.{block_in}
use Rattle.imsm_codec.specs.Mpb.{block_bytes}
use Rattle.device_log.specs.Log.{Call}
use Rattle.generation_pick.specs.declared.fault.PickFault.TheVariants.{None as Empty}
use Rattle.generation_pick.specs.declared.found.FoundAt.{FoundAt}
use Rattle.generation_pick.specs.Found.{AreTwins, family_at}
use Rattle.generation_pick.specs.Picks.{HasPickFault}
use Rattle.container.specs.declared.verdict.Verdict.TheVariants.{Refused}
use Rattle.container.specs.Seen.{AreOf, Container, containers_of}
use Rattle.container.specs.Verdicts.{IsByNewest, IsVerdict, IsVerdictBy}
use Rattle.container.proofs.Alike.{of_map}
use Rattle.container.proofs.Moved.{view}
use Rattle.assembly.specs.Seen.{bytes_of}
use Rattle.image_outside.specs.Told.{BankTold}
use Rattle.image_assemble.specs.Endings.{Assembles}
use Rattle.verdict_text.specs.Status.{verdict_status}
use Rattle.refused_verdicts.specs.Told.{HoldsContainer, Tells}
use Rattle.refused_verdicts.proofs.Assembled.{all_seen, assembled}
use Rattle.refused_verdicts.proofs.Newest.{container_seen, contains_block}
use Rattle.refused_verdicts.proofs.Places.{in_nil}
use Rattle.refused_verdicts.proofs.Said.{line_of_verdict, says_pick}
use Rattle.refused_verdicts.proofs.openings.mixed_disks_are_refused.Goals as goal

module _ (opening : List (List Sector)) (log : List Call) (bank : BankTold) (run : Bool) (lines : List ℕ) (status : ℕ) (tells : Tells opening log bank) (does : Assembles run bank lines status) where
  -- a block that stands on a disk that could be read is an entry
  entry_of : (k : ℕ) (s : Serial) (bytes : List ℕ) → HoldsContainer opening bank k s bytes → bank.faults k ≡ 0 → (entries : List FoundAt) → AreOf entries (containers_of does.seen)
      → (f : FoundAt) × Contains entries f × (block_bytes f.mpb ≡ bytes)
  entry_of k s bytes holds none entries are =
      let t = all_seen opening log bank tells run lines status does k (slice_get_within bank.serials k s holds.whole.named) in
      let is = container_seen opening bank k t.0 ((assembled opening log bank tells run lines status does).each k t.0 t.1) s bytes none holds in
      let block = contains_block does.seen k t.0 t.1 is.0 in
      let f = of_map view entries _ (subst (λ (l : List Container). Contains l (record { disk = t.0.disk.0; bytes = bytes_of t.0.holds })) (sym are) block) in
      (f.0, f.1, ap (λ (c : Container). c.bytes) f.2 ∙ is.1)

  by_newest : status ≢ 3 → IsByNewest does.seen run does.verdict
  by_newest other = at does.says where
    at : IsVerdict does.seen run does.verdict → IsByNewest does.seen run does.verdict
    at (inl (fault, refused, is)) = absurd (other (does.status_is ∙ ap verdict_status is))
    at (inr by) = by

pub returns-clause-families : goal.returns-clause-families
returns-clause-families c opening log bank one other lines run status k j s t tells holds keeps well read apart_so opens does =
    let by = by_newest opening log bank run lines status tells does opens in
    let f = entry_of opening log bank run lines status tells does k s one holds well by.newest.entries by.newest.are in
    let g = entry_of opening log bank run lines status tells does j t other keeps read by.newest.entries by.newest.are in
    let same : family_at f.0 ≡ family_at g.0 =
    All-contains (λ h. family_at f.0 ≡ family_at h) by.newest.entries g.0 (All-contains (λ e. All (λ h. family_at e ≡ family_at h) by.newest.entries) by.newest.entries f.0 by.newest.picked.one_family f.1) g.1 in
    apart_so (ap (λ (b : List ℕ). family_of (block_in b)) (sym f.2) ∙ same ∙ ap (λ (b : List ℕ). family_of (block_in b)) g.2)

pub returns-clause-twins : goal.returns-clause-twins
returns-clause-twins c opening log bank one other lines run status k j s t tells holds keeps well read generation apart_so opens does =
    let by = by_newest opening log bank run lines status tells does opens in
    let f = entry_of opening log bank run lines status tells does k s one holds well by.newest.entries by.newest.are in
    let g = entry_of opening log bank run lines status tells does j t other keeps read by.newest.entries by.newest.are in
    All-contains (λ h. AreTwins f.0 h → ⊥) by.newest.entries g.0 (All-contains (λ e. All (λ h. AreTwins e h → ⊥) by.newest.entries) by.newest.entries f.0 by.newest.picked.apart f.1) g.1 (
      ap (λ (b : List ℕ). generation_of (block_in b)) f.2 ∙ generation ∙ sym (ap (λ (b : List ℕ). generation_of (block_in b)) g.2),
      λ equal. apart_so (sym f.2 ∙ equal ∙ g.2),
    )

pub returns-clause-none : goal.returns-clause-none
returns-clause-none c opening log bank bytes lines run status k s tells holds well has does =
    let is = says_pick bank.serials bank.serials does.verdict (line_of_verdict bank.serials bank.serials does.verdict lines _ 114 does.lines_are refl (omega arith) has) in
    at is does.says
  where
    at : does.verdict ≡ Refused Empty → IsVerdict does.seen run does.verdict → ⊥
    at is (inl (fault, refused, other)) =
        let same : Refused Empty ≡ Refused fault = sym is ∙ other in
        let none : HasPickFault refused.entries Empty = subst (HasPickFault refused.entries) (sym (let one : Empty ≡ fault = cc same in one)) refused.cause in
        let f = entry_of opening log bank run lines status tells does k s bytes holds well refused.entries refused.are in
        in_nil f.0 (subst (λ (l : List FoundAt). Contains l f.0) none f.1)
    at is (inr by) = subst (IsVerdictBy by.bytes by.pick does.seen run by.missing) is by.says
