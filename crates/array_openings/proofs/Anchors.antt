-- What an anchor says of a whole block: whether it is a container's.
use Rattle.std.proofs.Common.{◌≡◌, ℕ, ◌+◌, ◌≤◌, ◌==◌, true, false, if◌then◌else◌, List, ◌++◌, length, refl, sym, ◌∙◌, ap, arith}
use Rattle.std.specs.Prelude.{flat_map}
use Rattle.std.proofs.lemmas.List.{length-take}
use Rattle.units.specs.declared.disk.Sector.{Sector}
use Rattle.imsm_base.specs.Fields.{number_at}
use Rattle.imsm_base.specs.Layout.{Block, volume_count_of}
use Rattle.imsm_base.specs.Parts.{block_in}
use Rattle.imsm_base.specs.Whole.{IsWholeBlock}
use Rattle.imsm_base.proofs.Joined.{block_in-spelled}
use Rattle.imsm_base.proofs.Spliced.{number_at-take, number_at-front}
use Rattle.array_model.specs.Blocks.{Laid, is_container}
use Rattle.block_meaning.specs.Meaning.{bytes_of_laid}
use Rattle.array_machine.specs.Setting.{Setting}
use Rattle.array_edits.specs.RealSettings.{IsReal}

count_is : (bytes : List ℕ) → number_at 1 57 bytes ≡ volume_count_of (block_in bytes)
unfolding block_in
count_is bytes = refl

-- a number of the header of a whole block stands in its anchor, where that is a full sector
pub anchor_number : (m : Laid) (b : Block) (k at : ℕ) → length m.anchor.0 ≡ 512 → IsWholeBlock (bytes_of_laid m) b
    → at + k ≤ 216 → number_at k at m.anchor.0 ≡ number_at k at (bytes_of_laid m)
anchor_number m b k at full whole inside =
    let size : ℕ = number_at 4 36 m.anchor.0 in
    let rest : List ℕ = flat_map (λ (s : Sector). s.0) m.extended in
    let given = whole.given in
    let least = whole.sized.least in
    let long : 216 ≤ size = omega (arith, length-take size (m.anchor.0 ++ rest)) in
    sym (number_at-front k at m.anchor.0 rest (omega arith))
    ∙ sym (number_at-take k at size (m.anchor.0 ++ rest) (omega arith))

volumes_in_anchor : (S : Setting) (m : Laid) (b : Block) → IsReal S → length m.anchor.0 ≡ 512
    → IsWholeBlock (bytes_of_laid m) b → S.start.words.volumes m ≡ number_at 1 57 m.anchor.0
volumes_in_anchor S m b r full whole =
    (r.reads.says m b whole).volumes ∙ whole.spells.parts.volume_count
    ∙ sym (anchor_number m b 1 57 full whole (omega arith) ∙ count_is (bytes_of_laid m)
    ∙ ap volume_count_of (block_in-spelled (bytes_of_laid m) b whole.spells))

-- two whole blocks with one full anchor are both a container's, or none is
pub anchor_tells : (S : Setting) (a m : Laid) (b c : Block) → IsReal S → length m.anchor.0 ≡ 512
    → IsWholeBlock (bytes_of_laid a) b → IsWholeBlock (bytes_of_laid m) c → a.anchor ≡ m.anchor
    → is_container S.start.words a ≡ is_container S.start.words m
anchor_tells S a m b c r full one other same =
    ap (λ (n : ℕ). if n == 0 then false else true)
    (volumes_in_anchor S a b r (ap (λ (s : Sector). length s.0) same ∙ full) one
    ∙ ap (λ (s : Sector). number_at 1 57 s.0) same ∙ sym (volumes_in_anchor S m c r full other))
