-- The tests decide whether bytes are a whole block.
use Rattle.std.proofs.Common.{◌≡◌, ◌≢◌, ℕ, ◌≤◌, ◌||◌, ◌⊎◌, inl, inr, not, Bool, true, false, List, [], ◌∷◌, length, Option, Some, None, refl, sym, subst}
use Rattle.std.specs.Prelude.{nat_le}
use Rattle.std.specs.Bool.{Decides}
use Rattle.std.specs.List.{list_any, AllByRecursion}
use Rattle.std.specs.Option.{IsSomeAnd, option_map_or}
use Rattle.std.specs.Str.{bytes_eq}
use Rattle.std.proofs.lemmas.Bool.{leb-true, le-leb, false≢true}
use Rattle.std.proofs.lemmas.Bool.Decides.{Decides-eqb, Decides-like, Decides-and, Decides-or}
use Rattle.std.proofs.lemmas.Slice.Eq.{bytes_eq-Decides}
use Rattle.units.specs.declared.bounds.TheConstants.{HEADER_BYTES, MAX_BLOCK_BYTES, MAX_DISKS, MAX_VOLUMES, METADATA_SECTORS}
use Rattle.imsm_base.specs.Fields.{Part, number_at}
use Rattle.imsm_base.specs.Layout.{Block, Spells, signature_of, checksum_of, size_of, disk_count_of, volume_count_of, total_blocks_of}
use Rattle.imsm_base.specs.Parts.{block_in, room_of}
use Rattle.imsm_base.specs.Whole.{IsSize, AreCounts, AreApart, IsAcceptedTail, IsWholeBlock, IsWholeDisk, the_signature, block_sum, expected_serials, own_record, is_size}
use Rattle.imsm_base.proofs.Joined.{block_in-spelled, room_of-spelled}
use Rattle.imsm_base.proofs.Apart.{spells_apart}
use Rattle.block_meaning.specs.Whole.{are_counts, are_apart, is_accepted_tail, is_headed, is_whole_block, is_whole_disk}

Decides-leb : (a b : ℕ) → Decides (nat_le a b) (a ≤ b)
Decides-leb a b = (leb-true a b, le-leb a b)

size-decided : (n : ℕ) → Decides (is_size n) (IsSize n)
size-decided n =
    Decides-like (is_size n) (λ p. record { least = p.0.0; most = p.0.1; words = p.1 }) (λ s. ((s.least, s.most), s.words))
    (Decides-and _ _ (Decides-and _ _ (Decides-leb HEADER_BYTES n) (Decides-leb n MAX_BLOCK_BYTES)) (Decides-eqb _ 0))

counts-decided : (disks volumes : ℕ) → Decides (are_counts disks volumes) (AreCounts disks volumes)
counts-decided disks volumes =
    Decides-like (are_counts disks volumes) (λ p. record { some_disk = p.0.0; few_disks = p.0.1; few_volumes = p.1 }) (λ c. ((c.some_disk, c.few_disks), c.few_volumes))
    (Decides-and _ _ (Decides-and _ _ (Decides-leb 1 disks) (Decides-leb disks MAX_DISKS)) (Decides-leb volumes MAX_VOLUMES))

-- none of these is x
none-at : (x y : List ℕ) (ys : List (List ℕ)) → Decides (not (list_any (bytes_eq x) ys)) (AllByRecursion (λ z. x ≢ z) ys) →
    (b : Bool) → Decides b (x ≡ y) → Decides (not (b || list_any (bytes_eq x) ys)) ((x ≢ y) × AllByRecursion (λ z. x ≢ z) ys)
none-at x y ys rest true d = (λ t. absurd (false≢true t), λ p. absurd (p.0 (d.0 refl)))
none-at x y ys rest false d = (λ t. (λ same. false≢true (d.1 same), rest.0 t), λ p. rest.1 p.1)

none-decided : (x : List ℕ) (xs : List (List ℕ)) → Decides (not (list_any (bytes_eq x) xs)) (AllByRecursion (λ y. x ≢ y) xs)
none-decided x [] = (λ t. tt, λ t. refl)
none-decided x (y ∷ ys) = none-at x y ys (none-decided x ys) (bytes_eq x y) (bytes_eq-Decides x y)

apart-decided : (xs : List (List ℕ)) → Decides (are_apart xs) (AreApart xs)
apart-decided [] = (λ t. tt, λ t. refl)
apart-decided (x ∷ xs) = Decides-and _ _ (none-decided x xs) (apart-decided xs)

tail-decided : (bytes : List ℕ) → Decides (is_accepted_tail bytes) (IsAcceptedTail bytes)
tail-decided bytes =
    Decides-like (is_accepted_tail bytes) there back
    (Decides-or _ _ (bytes_eq-Decides bytes []) (Decides-and _ _ (Decides-and _ _ (Decides-leb 8 (length bytes)) (Decides-eqb (number_at 4 0 bytes) 0xabadb10c)) (Decides-eqb (number_at 4 4 bytes) 0)))
  where
    there : (bytes ≡ []) ⊎ (((8 ≤ length bytes) × (number_at 4 0 bytes ≡ 0xabadb10c)) × (number_at 4 4 bytes ≡ 0)) → IsAcceptedTail bytes
    there (inl e) = inl e
    there (inr p) = inr (p.0.0, p.0.1, p.1)

    back : IsAcceptedTail bytes → (bytes ≡ []) ⊎ (((8 ≤ length bytes) × (number_at 4 0 bytes ≡ 0xabadb10c)) × (number_at 4 4 bytes ≡ 0))
    back (inl e) = inl e
    back (inr p) = inr ((p.0, p.1), p.2)

room-decided : (bytes : List ℕ) → Decides (nat_le (room_of (block_in bytes)) (length bytes)) (Spells bytes (block_in bytes))
room-decided bytes =
    Decides-like (nat_le (room_of (block_in bytes)) (length bytes)) (spells_apart bytes) (room_of-spelled bytes (block_in bytes))
    (Decides-leb (room_of (block_in bytes)) (length bytes))

-- the facts of a header
abbrev IsHeaded : List ℕ → Block → Type 0
IsHeaded bytes b =
    ((((signature_of b ≡ the_signature) × IsSize (size_of b)) × (size_of b ≡ length bytes)) × (checksum_of b ≡ block_sum bytes)) × AreCounts (disk_count_of b) (volume_count_of b)

headed-decided : (bytes : List ℕ) (b : Block) → Decides (is_headed bytes b) (IsHeaded bytes b)
headed-decided bytes b =
    Decides-and _ _ (
    Decides-and _ _ (
    Decides-and _ _ (Decides-and _ _ (bytes_eq-Decides (signature_of b) the_signature) (size-decided (size_of b))) (Decides-eqb (size_of b) (length bytes))
    ) (Decides-eqb (checksum_of b) (block_sum bytes))
    ) (counts-decided (disk_count_of b) (volume_count_of b))

pub whole-decided : (bytes : List ℕ) → Decides (is_whole_block bytes (block_in bytes)) (IsWholeBlock bytes (block_in bytes))
whole-decided bytes =
    Decides-like (is_whole_block bytes (block_in bytes)) (λ p. record {
      signed = p.0.0.0.0.0.0.0;
      sized = p.0.0.0.0.0.0.1;
      given = p.0.0.0.0.0.1;
      summed = p.0.0.0.0.1;
      counted = p.0.0.0.1;
      apart = p.0.0.1;
      spells = p.0.1;
      tail = p.1;
    }) (λ w. ((((((((w.signed, w.sized), w.given), w.summed), w.counted), w.apart), w.spells), w.tail)))
    (
    Decides-and _ _ (Decides-and _ _ (Decides-and _ _ (headed-decided bytes (block_in bytes)) (apart-decided (expected_serials (block_in bytes)))) (room-decided bytes)) (tail-decided (block_in bytes).tail)
    )

own-decided : (n : ℕ) (o : Option Part) → Decides (option_map_or (λ d. nat_le (total_blocks_of d) n) o false) (IsSomeAnd o (λ d. total_blocks_of d ≤ n))
own-decided n None = (λ t. absurd (false≢true t), λ p. absurd p)
own-decided n (Some d) = Decides-leb (total_blocks_of d) n

pub disk-decided : (own : List ℕ) (n : ℕ) (bytes : List ℕ) → Decides (is_whole_disk own n bytes (block_in bytes)) (IsWholeDisk own n bytes (block_in bytes))
disk-decided own n bytes =
    Decides-like (is_whole_disk own n bytes (block_in bytes)) (λ p. record { enough = p.0.0; whole = p.0.1; own_fits = p.1 }) (λ w. ((w.enough, w.whole), w.own_fits))
    (Decides-and _ _ (Decides-and _ _ (Decides-leb METADATA_SECTORS n) (whole-decided bytes)) (own-decided n (own_record own (block_in bytes))))

-- a block that bytes spell is the one that they are taken apart into
pub disk-apart : (own : List ℕ) (n : ℕ) (bytes : List ℕ) (b : Block) → IsWholeDisk own n bytes b → IsWholeDisk own n bytes (block_in bytes)
disk-apart own n bytes b w = subst (IsWholeDisk own n bytes) (sym (block_in-spelled bytes b w.whole.spells)) w
