-- The edit of a round: the same block with a new generation, and volume 0 dirty or clean. Source: super-intel.c
-- (write_super_imsm: the generation rises with each write of the block; struct imsm_super: it has four bytes).
use Rattle.std.specs.Prelude.{◌≡◌, ℕ, ◌<◌, Bool, true, List, []}
use Rattle.array_model.specs.Blocks.{Laid, Words, is_container}

-- the generation has four bytes
abbrev pub FitsGeneration : ℕ → Type 0
FitsGeneration g = g < 4294967296

-- a block says of members and volumes what another says, but for the dirty bit
pub record SaysSame (W : Words) (a b : Laid) : Type 0 where
  pub container : W.volumes a ≡ W.volumes b
  pub expects : (serial : List ℕ) → W.expects a serial ≡ W.expects b serial
  pub is_supported : (v : ℕ) → W.is_supported a v ≡ W.is_supported b v
  pub pass : (v : ℕ) → W.pass a v ≡ W.pass b v
  pub slots : (v : ℕ) → W.slots a v ≡ W.slots b v

-- a block that a round may be edited from: a container's block of one sector, whole on some disk
pub record IsRenewable (W : Words) (m : Laid) : Type 0 where
  pub alone : W.extra m.anchor ≡ 0
  pub short : m.extended ≡ []
  pub container : is_container W m ≡ true
  pub serial : List ℕ
  pub sectors : ℕ
  pub whole : W.is_whole serial sectors m ≡ true

-- n is the block m with generation g, and with volume 0 dirty as y says
pub record IsRenewed (W : Words) (m : Laid) (g : ℕ) (y : Bool) (n : Laid) : Type 0 where
  pub alone : W.extra n.anchor ≡ 0
  pub short : n.extended ≡ []
  pub generation : W.generation n.anchor ≡ g
  pub dirty : W.is_dirty n 0 ≡ y
  pub same : SaysSame W n m
  pub whole : (serial : List ℕ) (sectors : ℕ) → W.is_whole serial sectors m ≡ true → W.is_whole serial sectors n ≡ true
