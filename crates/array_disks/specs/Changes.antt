-- What one call changes of the disks' blocks: it narrows their candidates, or it brings a block to one of them. Source:
-- this project's own.
use Rattle.std.specs.Prelude.{◌≡◌, ℕ, max, true, ◌⊎◌}
use Rattle.array_model.specs.Blocks.{Laid, Words, is_container}
use Rattle.array_model.specs.Candidates.{Disk, In}
use Rattle.array_disks.specs.Held.{HasCandidate, IsSole}

-- the disk's blocks stay, and which extended sectors wait for their anchor
pub record SameBlocks (k l : Disk) : Type 0 where
  pub pend : l.pend ≡ k.pend
  pub known : l.known ≡ k.known
  pub candidates : l.candidates ≡ k.candidates
  pub best : l.best ≡ k.best

-- A sync was counted that found the block of a container standing: it was a candidate, is the sole one, and the best
-- generation is now no lower than its own.
pub record Counts (W : Words) (m : Laid) (k l : Disk) : Type 0 where
  pub was : In m k.candidates
  pub sole : IsSole l m
  pub container : is_container W m ≡ true
  pub best : l.best ≡ max k.best (W.generation m.anchor)

-- the best generation stays, or a sync was counted
abbrev pub BestStays : Words → Disk → Disk → Type 0
BestStays W k l = (l.best ≡ k.best) ⊎ ((m : Laid) × Counts W m k l)

-- No block is new: each candidate was one, what is known stays, and a disk that had a candidate has one.
pub record Narrows (W : Words) (ks ls : ℕ → Disk) : Type 0 where
  pub candidates : (d : ℕ) (a : Laid) → In a (ls d).candidates → In a (ks d).candidates
  pub known : (d : ℕ) → (ls d).known ≡ (ks d).known
  pub some : (d : ℕ) → HasCandidate (ks d) → HasCandidate (ls d)
  pub best : (d : ℕ) → BestStays W (ks d) (ls d)

-- Block m comes to disk e, where it is known and a candidate. All else stays.
pub record Adds (e : ℕ) (m : Laid) (ks ls : ℕ → Disk) : Type 0 where
  pub candidates : (d : ℕ) (a : Laid) → In a (ls d).candidates → In a (ks d).candidates ⊎ ((d ≡ e) × (a ≡ m))
  pub known : (d : ℕ) (a : Laid) → In a (ls d).known → In a (ks d).known ⊎ ((d ≡ e) × (a ≡ m))
  pub stay : (d : ℕ) (a : Laid) → In a (ks d).candidates → In a (ls d).candidates
  pub grow : (d : ℕ) (a : Laid) → In a (ks d).known → In a (ls d).known
  pub there : In m (ls e).candidates
  pub is_known : In m (ls e).known
  pub best : (d : ℕ) → (ls d).best ≡ (ks d).best

-- a call of disk d narrows, or adds some block there
abbrev pub Changes : Words → (d : ℕ) → (ks ls : ℕ → Disk) → Type 0
Changes W d ks ls = Narrows W ks ls ⊎ ((m : Laid) × Adds d m ks ls)

-- it holds of each known block of each disk, and of each candidate
abbrev pub EachKnown : (ℕ → Laid → Type 0) → (ℕ → Disk) → Type 0
EachKnown P ks = (d : ℕ) (a : Laid) → In a (ks d).known → P d a

abbrev pub EachCandidate : (ℕ → Laid → Type 0) → (ℕ → Disk) → Type 0
EachCandidate P ks = (d : ℕ) (a : Laid) → In a (ks d).candidates → P d a

-- it holds of any two known blocks, on whichever disks they are
abbrev pub EachTwoKnown : (Laid → Laid → Type 0) → (ℕ → Disk) → Type 0
EachTwoKnown R ks = (d e : ℕ) (a b : Laid) → In a (ks d).known → In b (ks e).known → R a b
