-- What is laid of the bytes of a block is read again, and is as many sectors as belong to its anchor.
use Rattle.std.proofs.Common.{◌≡◌, ℕ, zero, suc, ◌+◌, ◌*◌, ◌≤◌, inl, inr, true, List, [], ◌∷◌, ◌++◌, length, take, drop, replicate, refl, sym, ◌∙◌, ap, arith}
use Rattle.std.specs.Prelude.{flat_map}
use Rattle.std.specs.List.{list_all}
use Rattle.std.proofs.Math.Seq.{take-append-add}
use Rattle.std.proofs.lemmas.Bool.{and_from, cases_lt, eq-eqb}
use Rattle.std.proofs.lemmas.List.{take-take, take_at, take-append-le, take-append-drop, length-take, length-drop, length-append, length-replicate}
use Rattle.units.specs.declared.disk.Sector.{Sector}
use Rattle.units.specs.Places.{extended_count}
use Rattle.imsm_base.specs.Fields.{number_at}
use Rattle.imsm_base.specs.Layout.{Block, size_of, generation_of, bytes_of}
use Rattle.imsm_base.specs.Parts.{block_in}
use Rattle.imsm_base.specs.Whole.{IsWholeBlock, block_sum}
use Rattle.imsm_base.specs.Edits.{sized, sealed, first_sector, block_sealed}
use Rattle.imsm_base.proofs.Joined.{block_in-spelled}
use Rattle.imsm_base.proofs.Spliced.{number_at-take, number_at-front}
use Rattle.imsm_base.proofs.Sealed.{IsUnsealed, sealed-whole, length-sealed}
use Rattle.array_model.specs.Blocks.{Laid}
use Rattle.block_meaning.specs.Meaning.{bytes_of_laid}
use Rattle.block_meaning.specs.Reading.{parts_of, block_words}
use Rattle.array_edits.specs.Formed.{is_full}
use Rattle.array_edits.specs.Laying.{sectors_in, laid_of}

-- A SECTOR

pub length-first : (bytes : List ℕ) → length (first_sector bytes) ≡ 512
length-first bytes =
    omega (arith, length-take 512 (bytes ++ replicate 512 0), length-append bytes (replicate 512 0), length-replicate {A = ℕ} 512 0)

number-first : (k at : ℕ) (bytes : List ℕ) → at + k ≤ length bytes → at + k ≤ 512 → number_at k at (first_sector bytes) ≡ number_at k at bytes
number-first k at bytes inside short =
    number_at-take k at 512 (bytes ++ replicate 512 0) short ∙ number_at-front k at bytes (replicate 512 0) inside

-- ALL SECTORS

pub length-sectors : (n : ℕ) (bytes : List ℕ) → length (sectors_in n bytes) ≡ n
length-sectors zero bytes = refl
length-sectors (suc n) bytes = ap suc (length-sectors n (drop 512 bytes))

pub sectors-full : (n : ℕ) (bytes : List ℕ) → list_all is_full (sectors_in n bytes) ≡ true
sectors-full zero bytes = refl
sectors-full (suc n) bytes = and_from _ _ (eq-eqb _ _ (length-first bytes)) (sectors-full n (drop 512 bytes))

one_joined : (bytes rest : List ℕ) → length bytes ≤ 512 → take (length bytes) (first_sector bytes ++ rest) ≡ bytes
one_joined bytes rest short =
    take-append-le (length bytes) (first_sector bytes) rest (omega (arith, length-first bytes))
    ∙ take-take (length bytes) 512 (bytes ++ replicate 512 0) short
    ∙ take_at bytes (replicate 512 0) (length bytes) refl

more_joined : (bytes rest : List ℕ) → 512 ≤ length bytes → take (length (drop 512 bytes)) rest ≡ drop 512 bytes → take (length bytes) (first_sector bytes ++ rest) ≡ bytes
more_joined bytes rest long more =
    let front : first_sector bytes ≡ take 512 bytes = take-append-le 512 bytes (replicate 512 0) long in
    let count : length bytes ≡ length (take 512 bytes) + length (drop 512 bytes) = omega (arith, length-take 512 bytes, length-drop 512 bytes) in
    ap (λ (x : List ℕ). take (length bytes) (x ++ rest)) front
    ∙ ap (λ (n : ℕ). take n (take 512 bytes ++ rest)) count
    ∙ take-append-add (take 512 bytes) rest (length (drop 512 bytes))
    ∙ ap (λ (x : List ℕ). take 512 bytes ++ x) more
    ∙ take-append-drop 512 bytes

-- so many sectors begin with the bytes
joined : (n : ℕ) (bytes : List ℕ) → length bytes ≤ 512 * n → take (length bytes) (flat_map (λ (s : Sector). s.0) (sectors_in n bytes)) ≡ bytes
joined zero [] fits = refl
joined zero (x ∷ bytes) fits = absurd (omega arith)
joined (suc n) bytes fits =
    elim (cases_lt (length bytes) 512) [
      | inl short ↦ one_joined bytes (flat_map (λ (s : Sector). s.0) (sectors_in n (drop 512 bytes))) (omega arith)
      | inr long ↦ more_joined bytes (flat_map (λ (s : Sector). s.0) (sectors_in n (drop 512 bytes))) long
          (joined n (drop 512 bytes) (omega (arith, length-drop 512 bytes)))
    ]

-- A BLOCK

pub laid-bytes : (bytes : List ℕ) → 40 ≤ length bytes → number_at 4 36 bytes ≡ length bytes → bytes_of_laid (laid_of bytes) ≡ bytes
laid-bytes bytes long size =
    let n : ℕ = extended_count (length bytes) in
    ap (λ (k : ℕ). take k (flat_map (λ (s : Sector). s.0) (sectors_in (suc n) bytes))) (number-first 4 36 bytes (omega arith) (omega arith) ∙ size)
    ∙ joined (suc n) bytes (omega arith)

pub laid-extra : (bytes : List ℕ) → 40 ≤ length bytes → number_at 4 36 bytes ≡ length bytes → block_words.extra (laid_of bytes).anchor ≡ length (laid_of bytes).extended
laid-extra bytes long size =
    ap extended_count (number-first 4 36 bytes (omega arith) (omega arith) ∙ size) ∙ sym (length-sectors (extended_count (length bytes)) (drop 512 bytes))

-- the block that is laid of parts that make a whole one: it is whole, it is read as these parts, with size and checksum
-- of their own, and it has its sectors
pub record IsLaidOf (b : Block) (m : Laid) : Type 0 where
  pub size : ℕ
  pub sum : ℕ
  pub whole : IsWholeBlock (bytes_of_laid m) (block_sealed b size sum)
  pub parts : parts_of m ≡ block_sealed b size sum
  pub full : is_full m.anchor ≡ true
  pub full_extended : list_all is_full m.extended ≡ true
  pub extra : block_words.extra m.anchor ≡ length m.extended
  pub few : length m.extended ≤ 15
  pub long : size_of (block_sealed b size sum) ≡ length (bytes_of b)
  pub generation : block_words.generation m.anchor ≡ generation_of (block_sealed b size sum)

abbrev pub laid_again : Block → Laid
laid_again b = laid_of (sealed (bytes_of b))

pub size_is : (bytes : List ℕ) → number_at 4 36 bytes ≡ size_of (block_in bytes)
unfolding block_in
size_is bytes = refl

pub generation_is : (bytes : List ℕ) → number_at 4 44 bytes ≡ generation_of (block_in bytes)
unfolding block_in
generation_is bytes = refl

pub laid-is : (b : Block) → IsUnsealed (bytes_of b) b → IsLaidOf b (laid_again b)
laid-is b u =
    let bytes : List ℕ = sealed (bytes_of b) in
    let size : ℕ = length (bytes_of b) in
    let sum : ℕ = block_sum (sized (bytes_of b)) in
    let w : IsWholeBlock bytes (block_sealed b size sum) = sealed-whole (bytes_of b) b u in
    let spelled : block_in bytes ≡ block_sealed b size sum = block_in-spelled bytes (block_sealed b size sum) w.spells in
    let least : 216 ≤ size_of (block_sealed b size sum) = w.sized.least in
    let most : size_of (block_sealed b size sum) ≤ 8192 = w.sized.most in
    let given : size_of (block_sealed b size sum) ≡ length bytes = w.given in
    let placed : number_at 4 36 bytes ≡ length bytes = size_is bytes ∙ ap size_of spelled ∙ given in
    let same : bytes_of_laid (laid_of bytes) ≡ bytes = laid-bytes bytes (omega arith) placed in
    record {
      size = size;
      sum = sum;
      whole = subst_whole bytes (bytes_of_laid (laid_of bytes)) (block_sealed b size sum) (sym same) w;
      parts = ap block_in same ∙ spelled;
      full = eq-eqb _ _ (length-first bytes);
      full_extended = sectors-full (extended_count (length bytes)) (drop 512 bytes);
      extra = laid-extra bytes (omega arith) placed;
      few = omega (arith, length-sectors (extended_count (length bytes)) (drop 512 bytes));
      long = given ∙ length-sealed (bytes_of b) u.size.least;
      generation = number-first 4 44 bytes (omega arith) (omega arith) ∙ generation_is bytes ∙ ap generation_of spelled;
    }
  where
    subst_whole : (x y : List ℕ) (c : Block) → x ≡ y → IsWholeBlock x c → IsWholeBlock y c
    subst_whole x y c e w = rw (sym e) w
