use Rattle.std.proofs.Common.{◌≡◌, ◌+◌, ℕ, true, List, ◌⊎◌, inl, inr, length, Some, refl, sym, ◌∙◌, subst, arith}
use Rattle.std.specs.Prelude.{slice_get}
use Rattle.std.proofs.lemmas.Option.{slice_get_within}
use Rattle.imsm_base.specs.Layout.{volume_count_of}
use Rattle.imsm_base.specs.Parts.{block_in}
use Rattle.imsm_base.specs.Volumes.{is_degraded as degraded_by}
use Rattle.imsm_codec.specs.Mpb.{volume_at}
use Rattle.generation_pick.specs.declared.fault.PickFault.{PickFault}
use Rattle.container.specs.declared.missing.Missing.{Missing}
use Rattle.container.specs.declared.verdict.Opening.{Opening}
use Rattle.container.specs.declared.verdict.Verdict.{Verdict}
use Rattle.container.specs.declared.verdict.Verdict.TheVariants.{Refused, Ready}
use Rattle.container.specs.Lacking.{AreMissing}
use Rattle.container.specs.Verdicts.{IsVerdictBy}
use Rattle.container.specs.Volumes.{counted, is_degraded, is_listed}
use Rattle.refused_verdicts.specs.Wrong.{HasUselessMember}
use Rattle.refused_verdicts.proofs.Assembled.{assembled, by_block, is_listed_so, whole_newest}
use Rattle.refused_verdicts.proofs.Said.{line_of_verdict, says_volume}
use Rattle.refused_verdicts.proofs.Starting.{degraded_now, degraded_still, listed_out, same_number, same_start, torn_refused}
use Rattle.refused_verdicts.proofs.openings.torn_starts_are_refused.Goals as goal

ready_not_refused : (v : Verdict) (o : Opening) (fault : PickFault) → v ≡ Ready o → v ≡ Refused fault → ⊥
ready_not_refused v o fault ready refused = let same : Ready o ≡ Refused fault = sym ready ∙ refused in cc same

pub returns : goal.returns
returns c opening log bank bytes lines run status k says tells newest below torn start has does =
    let (o, ready, volume) = says_volume bank.serials bank.serials _ does.verdict refl (line_of_verdict bank.serials bank.serials does.verdict lines _ 118 does.lines_are refl (omega arith) has) in
    let by = by_block opening log bank tells bytes newest run lines status does (λ fault is. ready_not_refused does.verdict o fault ready is) in
    let opened = (subst (IsVerdictBy bytes by.pick does.seen run by.missing) ready by.says).2 in
    let counts = (whole_newest opening log bank tells bytes newest run lines status does).counted in
    let count : length o.volumes.items ≡ volume_count_of (block_in bytes) = opened.volumes.count in
    let within = slice_get_within o.volumes.items volume.place volume.verdict volume.there in
    let few = counts.few_volumes in
    let same : 0 + volume.place ≡ k = same_number (0 + volume.place) k volume.verdict says (omega (arith, within, count, few)) (omega (arith, below, few)) volume.says in
    let place : volume.place ≡ k = omega (arith, same) in
    let b = block_in bytes in
    let v = volume_at k b in
    let out = is_listed b by.missing in
    let degraded : is_degraded b (counted out v) ≡ true = by_member by.missing by.lack torn.degraded in
    torn_refused b out k v volume.verdict torn.level torn.unfinished degraded (opened.volumes.each k volume.verdict (subst (λ (n : ℕ). slice_get o.volumes.items n ≡ Some volume.verdict) place volume.there))
    (same_start (0 + volume.place) k volume.verdict says volume.says start)
  where
    by_member : (missing : List Missing) → AreMissing does.seen (block_in bytes).disks missing
        → (degraded_by (block_in bytes) (volume_at k (block_in bytes)) ≡ true) ⊎ HasUselessMember opening log bank bytes (volume_at k (block_in bytes))
        → is_degraded (block_in bytes) (counted (is_listed (block_in bytes) missing) (volume_at k (block_in bytes))) ≡ true
    by_member missing lack (inl by_block) = degraded_still (block_in bytes) (volume_at k (block_in bytes)) (is_listed (block_in bytes) missing) by_block
    by_member missing lack (inr member) =
        let listed = is_listed_so opening log bank tells does.seen (assembled opening log bank tells run lines status does) bytes member.entry
        (record { place = member.slot.index; there = member.named; expected = member.expected }) member.useless missing lack in
        degraded_now (block_in bytes) (volume_at k (block_in bytes)) (is_listed (block_in bytes) missing) member.slot member.there
        (listed_out (block_in bytes) missing member.slot.index member.entry listed.0 member.named member.expected listed.1 listed.2.serial)
