-- What an opening says of volumes, where no disk lacks, is what its block says.
use Rattle.std.proofs.Common.{◌≡◌, ◌<◌, ◌&&◌, ◌||◌, ℕ, Bool, true, false, List, [], ◌∷◌, length, map, slice_get, slice_index_or, is_none, Option, Some, None, ◌⊎◌, inl, inr, refl, sym, ◌∙◌, ap, arith}
use Rattle.std.specs.Option.{option_map_or}
use Rattle.std.proofs.lemmas.Bool.{cases_lt}
use Rattle.std.proofs.lemmas.Option.{slice_get-get_or, slice_get_past, slice_get_within}
use Rattle.imsm_base.specs.Fields.{Part}
use Rattle.imsm_base.specs.Layout.{Block, Volume}
use Rattle.imsm_base.specs.Parts.{block_in}
use Rattle.imsm_base.specs.Volumes.{Fault, Member, members, volume_fault}
use Rattle.imsm_base.specs.Whole.{is_expected}
use Rattle.imsm_codec.specs.Mpb.{blank_volume, volume_at}
use Rattle.imsm_codec.proofs.Found.{volumes_counted}
use Rattle.imsm_view.specs.declared.fault.VolumeFault.{VolumeFault}
use Rattle.array_model.specs.Blocks.{Laid, Words}
use Rattle.block_meaning.specs.Meaning.{SaysBlock}
use Rattle.container.specs.declared.verdict.Opening.{Opening}
use Rattle.container.specs.declared.volume.VolumeVerdict.{VolumeVerdict}
use Rattle.container.specs.declared.volume.VolumeVerdict.TheVariants.{Broken, Degraded, Started, Unsupported}
use Rattle.container.specs.Volumes.{AreVolumeVerdicts, IsVolumeVerdict, counted_out, is_listed, is_listed_as, verdict_with}
use Rattle.sound_images.specs.Volumes.{StartsFrom, verdict_in_words}
use Rattle.sound_images.proofs.Meaning.{same_verdict}
use Rattle.verdict_law.specs.OnImages.{SaysStart}

-- where no disk lacks, no member counts out
none_listed : (b : Block) (k : ℕ) → is_listed b [] k ≡ false
none_listed b k = at (slice_get b.disks k)
  where
    no_entry : (t : Bool) → (t && false) ≡ false
    no_entry true = refl
    no_entry false = refl

    at : (o : Option Part) → option_map_or (is_listed_as []) o false ≡ false
    at None = refl
    at (Some d) = no_entry (is_expected d)

none_out : (b : Block) (m : Member) → counted_out (is_listed b []) m ≡ m
none_out b m =
    ap (λ (t : Bool). record { index = m.index; is_out = m.is_out || t }) (none_listed b m.index)
    ∙ ap (λ (t : Bool). record { index = m.index; is_out = t }) (or_no m.is_out)
  where
    or_no : (t : Bool) → (t || false) ≡ t
    or_no true = refl
    or_no false = refl

none_counted : (b : Block) (ms : List Member) → map (counted_out (is_listed b [])) ms ≡ ms
none_counted b [] = refl
none_counted b (m ∷ ms) = ap (λ (x : Member). x ∷ map (counted_out (is_listed b [])) ms) (none_out b m) ∙ ap (λ (xs : List Member). m ∷ xs) (none_counted b ms)

module _ (W : Words) (m : Laid) (bytes : List ℕ) (says : SaysBlock W m (block_in bytes)) (o : Opening) (are : AreVolumeVerdicts (block_in bytes) [] o.volumes.items) where
  abbrev b : Block
  b = block_in bytes

  volume_there : (v : ℕ) → v < length o.volumes.items → slice_get b.volumes v ≡ Some (volume_at v b)
  volume_there v below = slice_get-get_or b.volumes v blank_volume (omega (arith, below, are.count, volumes_counted bytes))

  supported : (v : ℕ) → slice_get b.volumes v ≡ Some (volume_at v b) → W.is_supported m v ≡ is_none (volume_fault b v (volume_at v b))
  supported v there = says.is_supported v ∙ ap (λ (x : Option Volume). option_map_or (λ x. is_none (volume_fault b v x)) x false) there

  -- a volume is supported, and its verdict is that of its words; or it isn't, and that is said
  judged : (v : ℕ) (verdict : VolumeVerdict) → slice_get o.volumes.items v ≡ Some verdict
      → ((W.is_supported m v ≡ true) × (verdict ≡ verdict_in_words W m v)) ⊎ ((W.is_supported m v ≡ false) × (fault : VolumeFault) × (verdict ≡ Unsupported fault))
  judged v verdict here = at (are.each v verdict here)
    where
      there : slice_get b.volumes v ≡ Some (volume_at v b)
      there = volume_there v (slice_get_within o.volumes.items v verdict here)

      at : IsVolumeVerdict b (is_listed b []) v (volume_at v b) verdict
          → ((W.is_supported m v ≡ true) × (verdict ≡ verdict_in_words W m v)) ⊎ ((W.is_supported m v ≡ false) × (fault : VolumeFault) × (verdict ≡ Unsupported fault))
      at (inl (fault, has, is)) = inr (supported v there ∙ ap (λ (x : Option Fault). is_none x) has, fault, is)
      at (inr (none, is)) = inl (
        supported v there ∙ ap (λ (x : Option Fault). is_none x) none,
        is ∙ ap (verdict_with b (volume_at v b)) (none_counted b (members (volume_at v b))) ∙ sym (same_verdict W m b says v (volume_at v b) there),
      )

  pub each_is : (v : ℕ) (verdict : VolumeVerdict) → slice_get o.volumes.items v ≡ Some verdict → W.is_supported m v ≡ true → verdict ≡ verdict_in_words W m v
  each_is v verdict here is = elim (judged v verdict here) [
    | inl (yes_supported, same) ↦ same
    | inr (out, fault, same) ↦ absurd (cc (is, out))
  ]

  starts_by : (v : ℕ) (pass : Option ℕ) (verdict : VolumeVerdict) → (verdict ≡ Started pass) ⊎ (verdict ≡ Degraded pass) → slice_get o.volumes.items v ≡ Some verdict → StartsFrom W m v pass
  starts_by v pass verdict says_so here = at says_so (judged v verdict here)
    where
      at : (verdict ≡ Started pass) ⊎ (verdict ≡ Degraded pass)
          → ((W.is_supported m v ≡ true) × (verdict ≡ verdict_in_words W m v)) ⊎ ((W.is_supported m v ≡ false) × (fault : VolumeFault) × (verdict ≡ Unsupported fault))
          → StartsFrom W m v pass
      at (inl started) (inl (is, same)) = record { supported = is; verdict = inl (sym same ∙ started) }
      at (inr started) (inl (is, same)) = record { supported = is; verdict = inr (sym same ∙ started) }
      at (inl started) (inr (out, fault, same)) = absurd (cc (started, same))
      at (inr started) (inr (out, fault, same)) = absurd (cc (started, same))

  pub says_then_starts : (v : ℕ) (pass : Option ℕ) → SaysStart o v pass → StartsFrom W m v pass
  says_then_starts v pass (inl here) = starts_by v pass (Started pass) (inl refl) here
  says_then_starts v pass (inr here) = starts_by v pass (Degraded pass) (inr refl) here

  -- a supported volume has a verdict
  verdict_there : (v : ℕ) → W.is_supported m v ≡ true → slice_get o.volumes.items v ≡ Some (slice_index_or o.volumes.items v Broken)
  verdict_there v is = elim (cases_lt v (length o.volumes.items)) [
    | inl below ↦ slice_get-get_or o.volumes.items v Broken below
    | inr past ↦ absurd (
        let none : slice_get b.volumes v ≡ None = slice_get_past b.volumes v (omega (arith, past, are.count, volumes_counted bytes)) in
        let out : W.is_supported m v ≡ false = says.is_supported v ∙ ap (λ (x : Option Volume). option_map_or (λ x. is_none (volume_fault b v x)) x false) none in
        cc (is, out))
  ]

  pub starts_then_says : (v : ℕ) (pass : Option ℕ) → StartsFrom W m v pass → SaysStart o v pass
  starts_then_says v pass starts = at starts.verdict
    where
      here : slice_get o.volumes.items v ≡ Some (slice_index_or o.volumes.items v Broken)
      here = verdict_there v starts.supported

      same : slice_index_or o.volumes.items v Broken ≡ verdict_in_words W m v
      same = each_is v (slice_index_or o.volumes.items v Broken) here starts.supported

      at : (verdict_in_words W m v ≡ Started pass) ⊎ (verdict_in_words W m v ≡ Degraded pass) → SaysStart o v pass
      at (inl is) = inl (here ∙ ap Some (same ∙ is))
      at (inr is) = inr (here ∙ ap Some (same ∙ is))
