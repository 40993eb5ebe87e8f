-- The blocks that were found on disks: the newest one, and lists that are of no one container.
-- Source: super-intel.c chooses among the blocks of one family by their generations (imsm_thunderdome); families and
-- twins as refusals are this project's own.
use Rattle.std.specs.Prelude.{◌≡◌, ◌≢◌, ℕ, ◌≤◌, List, ◌∷◌, ◌++◌, All, Contains, slice_get, Some}
use Rattle.imsm_base.specs.Layout.{family_of, generation_of}
use Rattle.imsm_codec.specs.Mpb.{block_bytes, block_of}
use Rattle.generation_pick.specs.declared.found.FoundAt.{FoundAt}
use Rattle.generation_pick.specs.declared.found.Pick.{Pick}

abbrev pub generation_at : FoundAt → ℕ
generation_at f = generation_of (block_of f.mpb)

abbrev pub family_at : FoundAt → ℕ
family_at f = family_of (block_of f.mpb)

-- p is of an entry of the highest generation, on the lowest disk that has one of this generation
pub record IsNewest (list : List FoundAt) (p : Pick) : Type 0 where
  pub found : FoundAt
  pub there : Contains list found
  pub disk : found.disk ≡ p.disk
  pub generation : generation_at found ≡ p.generation
  pub family : family_at found ≡ p.family
  pub highest : All (λ f. generation_at f ≤ p.generation) list
  pub least : All (λ f. generation_at f ≡ p.generation → p.disk.0 ≤ f.disk.0) list

-- FAMILIES

abbrev pub AreOneFamily : List FoundAt → Type 0
AreOneFamily list = All (λ f. All (λ g. family_at f ≡ family_at g) list) list

-- the first entry that isn't of family a is of family b
pub record IsFirstOther (a : ℕ) (list : List FoundAt) (b : ℕ) : Type 0 where
  pub front : List FoundAt
  pub entry : FoundAt
  pub rest : List FoundAt
  pub laid : list ≡ front ++ entry ∷ rest
  pub same : All (λ f. family_at f ≡ a) front
  pub family : family_at entry ≡ b
  pub differs : b ≢ a

-- a is the family of the first entry, and b that of the first entry of another one
pub record HasFamilies (list : List FoundAt) (a b : ℕ) : Type 0 where
  pub first : FoundAt
  pub begins : slice_get list 0 ≡ Some first
  pub family : family_at first ≡ a
  pub other : IsFirstOther a list b

-- TWINS

-- blocks of one generation, and of other bytes
abbrev pub AreTwins : FoundAt → FoundAt → Type 0
AreTwins one other = (generation_at one ≡ generation_at other) × (block_bytes one.mpb ≢ block_bytes other.mpb)

abbrev pub HasNoTwins : List FoundAt → Type 0
HasNoTwins list = All (λ f. All (λ g. AreTwins f g → ⊥) list) list

-- d is the lowest disk of an entry that has a twin, and e the lowest disk of a twin of an entry of disk d. They are
-- one number only where a disk stands twice in the list.
pub record HasTwins (list : List FoundAt) (d e : ℕ) : Type 0 where
  pub one : FoundAt
  pub other : FoundAt
  pub one_there : Contains list one
  pub other_there : Contains list other
  pub twins : AreTwins one other
  pub first : one.disk.0 ≡ d
  pub second : other.disk.0 ≡ e
  pub least : All (λ f. All (λ g. AreTwins f g → d ≤ f.disk.0) list) list
  pub next : All (λ f. All (λ g. AreTwins f g → f.disk.0 ≡ d → e ≤ g.disk.0) list) list
