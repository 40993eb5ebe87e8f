-- The blocks of containers among those that were seen.
use Rattle.std.proofs.Common.{ℕ, zero, suc, ◌==◌, ◌⊎◌, inl, inr, Bool, true, false, List, [], ◌∷◌, subst, arith}
use Rattle.std.specs.Prelude.{Contains, if◌then◌else◌}
use Rattle.std.proofs.lemmas.List.Elements.{Contains-append_cases}
use Rattle.imsm_base.specs.Layout.{volume_count_of}
use Rattle.imsm_base.specs.Parts.{block_in}
use Rattle.imsm_base.specs.Whole.{IsWholeBlock}
use Rattle.imsm_buffer.specs.Buffer.{parts_of}
use Rattle.container.specs.declared.seen.Seen.{Seen}
use Rattle.container.specs.declared.seen.SeenAs.{SeenAs}
use Rattle.container.specs.declared.seen.SeenAs.TheVariants.{Whole, Blank, Torn, Unread}
use Rattle.container.specs.Seen.{AreSound, Container, IsSound, container_by, containers_of}

-- a container's block that was seen is whole
one_sound : (d : ℕ) (holds : SeenAs) → IsSound holds → (c : Container) → Contains (container_by d holds) c → IsWholeBlock c.bytes (block_in c.bytes)
one_sound d (Whole block) sound c there = at (volume_count_of (parts_of block) == 0) there where
  at : (b : Bool) → Contains (if b then [] else record { disk = d; bytes = block.bytes } ∷ []) c → IsWholeBlock c.bytes (block_in c.bytes)
  at true (k, below, is) = absurd (omega (arith, below))
  at false (zero, below, is) = subst (λ (c : Container). IsWholeBlock c.bytes (block_in c.bytes)) is sound
  at false (suc k, below, is) = absurd (omega (arith, below))
one_sound d Blank sound c (k, below, is) = absurd (omega (arith, below))
one_sound d (Torn fault) sound c (k, below, is) = absurd (omega (arith, below))
one_sound d Unread sound c (k, below, is) = absurd (omega (arith, below))

either : {A B C : Type 0} → (A → C) → (B → C) → A ⊎ B → C
either left right (inl a) = left a
either left right (inr b) = right b

pub container_sound : (seen : List Seen) → AreSound seen → (c : Container) → Contains (containers_of seen) c → IsWholeBlock c.bytes (block_in c.bytes)
container_sound [] sound c (k, below, is) = absurd (omega (arith, below))
container_sound (s ∷ seen) sound c there =
    either (one_sound s.disk.0 s.holds sound.0 c) (container_sound seen sound.1 c) (Contains-append_cases (container_by s.disk.0 s.holds) (containers_of seen) c there)
