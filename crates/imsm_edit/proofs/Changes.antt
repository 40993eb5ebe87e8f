-- One volume of a block changed, and changed again.
use Rattle.std.proofs.Common.{◌≡◌, ℕ, zero, suc, ◌<◌, Bool, List, [], ◌∷◌, length, refl, ◌∙◌, ap}
use Rattle.imsm_base.specs.Layout.{Block, Volume}
use Rattle.imsm_base.specs.Edits.{volumes_with_dirty, volume_with_dirty, block_with_dirty}
use Rattle.imsm_base.specs.EditsOfTables.{changed_at, with_volume}
use Rattle.imsm_codec.specs.Mpb.{volume_at, blank_volume}
use Rattle.imsm_buffer.proofs.Lowered.{at_changed, changed_same, changed_twice}

dirty_changed : (k : ℕ) (on : Bool) (vs : List Volume) → volumes_with_dirty k on vs ≡ changed_at k (volume_with_dirty on) vs
dirty_changed k on [] = refl
dirty_changed zero on (v ∷ vs) = refl
dirty_changed (suc k) on (v ∷ vs) = ap (λ (ws : List Volume). v ∷ ws) (dirty_changed k on vs)

pub dirty_is : (b : Block) (k : ℕ) (on : Bool) → block_with_dirty b k on ≡ with_volume k (volume_with_dirty on) b
dirty_is b k on = ap (λ (vs : List Volume). record b { volumes = vs }) (dirty_changed k on b.volumes)

pub volume_changed : (b : Block) (k : ℕ) (f : Volume → Volume) → k < length b.volumes → volume_at k (with_volume k f b) ≡ f (volume_at k b)
volume_changed b k f below = at_changed k f b.volumes blank_volume below

pub block_twice : (b : Block) (k : ℕ) (g f h : Volume → Volume) → g (f (volume_at k b)) ≡ h (volume_at k b) → with_volume k g (with_volume k f b) ≡ with_volume k h b
block_twice b k g f h same =
    ap (λ (vs : List Volume). record b { volumes = vs })
    (changed_twice k g f b.volumes ∙ changed_same k (λ (x : Volume). g (f x)) h b.volumes blank_volume same)

pub block_as : (b : Block) (k : ℕ) (f h : Volume → Volume) → f (volume_at k b) ≡ h (volume_at k b) → with_volume k f b ≡ with_volume k h b
block_as b k f h same = ap (λ (vs : List Volume). record b { volumes = vs }) (changed_same k f h b.volumes blank_volume same)
