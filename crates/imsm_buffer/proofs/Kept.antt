-- An owned block stays laid under its edits.
use Rattle.std.proofs.lemmas.Bool.{cases_order}
use Rattle.std.proofs.Common.{◌≡◌, min, ℕ, ◌+◌, ◌*◌, ◌/◌, ◌%◌, if◌then◌else◌, ◌^◌, ◌<◌, ◌≤◌, Bool, ◌-◌, ◌⊎◌, inl, inr, List, ◌++◌, length, take, drop, replicate, refl, sym, ◌∙◌, ap, subst, arith}
use Rattle.std.specs.Global.{Vec}
use Rattle.std.specs.Vec.{with_items}
use Rattle.std.proofs.Math.Seq.{take-append-add}
use Rattle.std.proofs.lemmas.List.{with_items_is, append-nil, take_all, drop_all, drop-replicate, take-replicate, take-append-le, length-replicate}
use Rattle.byteorder.specs.Endian.{little_bytes}
use Rattle.units.specs.declared.bounds.TheConstants.{MAX_BLOCK_BYTES}
use Rattle.imsm_base.specs.Fields.{number_at, with_number_at}
use Rattle.imsm_base.specs.Layout.{Block, Spells, size_of, volume_count_of}
use Rattle.imsm_base.specs.Parts.{block_in}
use Rattle.imsm_base.specs.Whole.{IsSize, block_sum}
use Rattle.imsm_base.specs.Edits.{first_sector, with_generation, dirty_place, with_dirty, sized, sealed, block_with_generation, block_with_dirty, block_sealed}
use Rattle.imsm_base.proofs.Joined.{block_in-spelled, room_of-spelled}
use Rattle.imsm_base.proofs.Apart.{spells_apart, length-volumes}
use Rattle.imsm_base.proofs.Edited.{other_field, generation-spells, dirty-spells, dirty-inside, length-with_generation, length-with_dirty}
use Rattle.imsm_base.proofs.Sealed.{IsSealed, sealed-spells, sealed-is, length-sized, length-sealed}
use Rattle.imsm_codec.specs.Laid.{IsLaid}
use Rattle.imsm_buffer.specs.Buffer.{IsKept}

-- what a write through a slice of it leaves in a Vec
pub written : (v : Vec ℕ) (ws bytes : List ℕ) → ws ≡ bytes → length bytes ≡ length v.items → (with_items v ws).items ≡ bytes
written v ws bytes is len = with_items_is v ws (ap (λ (x : List ℕ). length x) is ∙ len ∙ sym v.ok.0) ∙ is

pub laid_as : (bytes : List ℕ) (b : Block) → Spells bytes b → size_of b ≤ MAX_BLOCK_BYTES → length bytes % 4 ≡ 0 → IsLaid bytes
laid_as bytes b s most words =
    let same : b ≡ block_in bytes = sym (block_in-spelled bytes b s) in
    record {
      room = room_of-spelled bytes (block_in bytes) (subst (Spells bytes) same s);
      size = subst (λ (x : Block). size_of x ≤ MAX_BLOCK_BYTES) same most;
      words = words;
    }

parts_in : (bytes : List ℕ) → IsLaid bytes → Spells bytes (block_in bytes)
parts_in bytes laid = spells_apart bytes laid.room

pub long : (bytes : List ℕ) → IsLaid bytes → 216 ≤ length bytes
long bytes laid = let room = laid.room in omega arith

kept_as : (bytes new : List ℕ) (b : Block) (room capacity : ℕ) → IsKept bytes room capacity → Spells new b → size_of b ≤ MAX_BLOCK_BYTES → length new ≡ length bytes → IsKept new room capacity
kept_as bytes new b room capacity k s most same =
    let fits = k.fits in
    record { laid = laid_as new b s most (ap (λ (n : ℕ). n % 4) same ∙ k.laid.words); fits = omega arith; most = k.most; taken = k.taken }

-- THE GENERATION

pub length-generation : (bytes : List ℕ) (g : ℕ) → IsLaid bytes → length (with_generation bytes g) ≡ length bytes
length-generation bytes g laid = length-with_generation bytes g (long bytes laid)

pub generation-kept : (bytes : List ℕ) (g room capacity : ℕ) → IsKept bytes room capacity → IsKept (with_generation bytes g) room capacity
generation-kept bytes g room capacity k =
    let b : Block = block_in bytes in
    let size : size_of (block_with_generation b g) ≡ size_of b = other_field b 5 3 (little_bytes 4 g) (λ e. omega arith) in
    kept_as bytes (with_generation bytes g) (block_with_generation b g) room capacity k (generation-spells bytes b g (parts_in bytes k.laid))
    (subst (λ (n : ℕ). n ≤ MAX_BLOCK_BYTES) (sym size) k.laid.size) (length-generation bytes g k.laid)

pub generation-block : (bytes : List ℕ) (g : ℕ) → IsLaid bytes → block_in (with_generation bytes g) ≡ block_with_generation (block_in bytes) g
generation-block bytes g laid =
    block_in-spelled (with_generation bytes g) (block_with_generation (block_in bytes) g) (generation-spells bytes (block_in bytes) g (parts_in bytes laid))

-- THE DIRTY BIT

pub volumes-counted : (bytes : List ℕ) → volume_count_of (block_in bytes) ≡ number_at 1 57 bytes
unfolding block_in
volumes-counted bytes = refl

pub length-dirty : (bytes : List ℕ) (v : ℕ) (on : Bool) → IsLaid bytes → v < number_at 1 57 bytes → length (with_dirty bytes v on) ≡ length bytes
length-dirty bytes v on laid below = length-with_dirty bytes v on (dirty-inside bytes v laid.room below)

dirty-parts : (bytes : List ℕ) (v : ℕ) (on : Bool) → IsLaid bytes → v < number_at 1 57 bytes → Spells (with_dirty bytes v on) (block_with_dirty (block_in bytes) v on)
dirty-parts bytes v on laid below = dirty-spells bytes (block_in bytes) v on (parts_in bytes laid) (omega (arith, length-volumes bytes))

pub dirty-kept : (bytes : List ℕ) (v : ℕ) (on : Bool) (room capacity : ℕ) → IsKept bytes room capacity → v < number_at 1 57 bytes → IsKept (with_dirty bytes v on) room capacity
dirty-kept bytes v on room capacity k below =
    kept_as bytes (with_dirty bytes v on) (block_with_dirty (block_in bytes) v on) room capacity k (dirty-parts bytes v on k.laid below) k.laid.size
    (length-dirty bytes v on k.laid below)

pub dirty-block : (bytes : List ℕ) (v : ℕ) (on : Bool) → IsLaid bytes → v < number_at 1 57 bytes → block_in (with_dirty bytes v on) ≡ block_with_dirty (block_in bytes) v on
dirty-block bytes v on laid below = block_in-spelled (with_dirty bytes v on) (block_with_dirty (block_in bytes) v on) (dirty-parts bytes v on laid below)

-- what is put in the place of the byte, as the code makes it
pub dirty-made : (new now first second bytes : List ℕ) (at byte bit v : ℕ) (on : Bool) → new ≡ with_number_at 1 at (byte / 2 * 2 + bit) now → now ≡ bytes →
    at ≡ dirty_place first v → first ≡ bytes → byte ≡ number_at 1 at second → second ≡ bytes → bit ≡ (if on then 1 else 0) → new ≡ with_dirty bytes v on
dirty-made new now first second bytes at byte bit v on made is place a read b lowest =
    let there : at ≡ dirty_place bytes v = place ∙ ap (λ (x : List ℕ). dirty_place x v) a in
    let here : byte ≡ number_at 1 (dirty_place bytes v) bytes = read ∙ ap (number_at 1 at) b ∙ ap (λ (i : ℕ). number_at 1 i bytes) there in
    made
    ∙ ap (with_number_at 1 at (byte / 2 * 2 + bit)) is
    ∙ ap (λ (i : ℕ). with_number_at 1 i (byte / 2 * 2 + bit) bytes) there
    ∙ ap (λ (n : ℕ). with_number_at 1 (dirty_place bytes v) (n / 2 * 2 + bit) bytes) here
    ∙ ap (λ (n : ℕ). with_number_at 1 (dirty_place bytes v) (number_at 1 (dirty_place bytes v) bytes / 2 * 2 + n) bytes) lowest

-- THE SEAL

seal_of : (bytes : List ℕ) → IsLaid bytes → length bytes < 2 ^ 32 → IsSealed (sealed bytes) (block_sealed (block_in bytes) (length bytes) (block_sum (sized bytes)))
seal_of bytes laid short = sealed-is bytes (block_in bytes) (parts_in bytes laid) short

pub length-seal : (bytes : List ℕ) → IsLaid bytes → length (sealed bytes) ≡ length bytes
length-seal bytes laid = length-sealed bytes (long bytes laid)

pub sealed-kept : (bytes : List ℕ) (room capacity : ℕ) → IsKept bytes room capacity → IsKept (sealed bytes) room capacity
sealed-kept bytes room capacity k =
    let fits = k.fits in
    let most = k.most in
    let seal = seal_of bytes k.laid (omega arith) in
    kept_as bytes (sealed bytes) (block_sealed (block_in bytes) (length bytes) (block_sum (sized bytes))) room capacity k (sealed-spells bytes (block_in bytes) (parts_in bytes k.laid))
    (omega (arith, seal.given, length-seal bytes k.laid)) (length-seal bytes k.laid)

pub sealed-block : (bytes : List ℕ) → IsLaid bytes → block_in (sealed bytes) ≡ block_sealed (block_in bytes) (length bytes) (block_sum (sized bytes))
sealed-block bytes laid =
    block_in-spelled (sealed bytes) (block_sealed (block_in bytes) (length bytes) (block_sum (sized bytes))) (sealed-spells bytes (block_in bytes) (parts_in bytes laid))

pub sealed-parts : (bytes : List ℕ) → IsLaid bytes → length bytes < 2 ^ 32 → IsSealed (sealed bytes) (block_in (sealed bytes))
sealed-parts bytes laid short = subst (IsSealed (sealed bytes)) (sym (sealed-block bytes laid)) (seal_of bytes laid short)

pub sealed-size : (bytes : List ℕ) (room capacity : ℕ) → IsKept bytes room capacity → IsSize (size_of (block_in (sealed bytes)))
sealed-size bytes room capacity k =
    let kept : IsKept (sealed bytes) room capacity = sealed-kept bytes room capacity k in
    let before : length bytes ≤ 8192 = let fits = k.fits in let most = k.most in omega arith in
    let after : length (sealed bytes) ≤ 8192 = omega (arith, length-seal bytes k.laid) in
    let given = (sealed-parts bytes k.laid (omega arith)).given in
    subst IsSize (sym given) (record { least = long (sealed bytes) kept.laid; most = after; words = kept.laid.words })

-- THE FIRST SECTOR

-- a front that is laid over zeros
pub padded : (n m : ℕ) (bytes : List ℕ) → n ≤ length bytes → length bytes ≤ n ⊎ (n ≡ m) → n ≤ m → take n bytes ++ drop n (replicate m 0) ≡ take m (bytes ++ replicate m 0)
padded n m bytes within (inl all) below =
    let len : length bytes ≡ n = omega arith in
    let more : m ≡ length bytes + (m - n) = omega arith in
    ap (λ (x : List ℕ). x ++ drop n (replicate m 0)) (take_all n bytes all)
    ∙ ap (λ (x : List ℕ). bytes ++ x) (drop-replicate n m 0 ∙ sym (take-replicate (m - n) m 0 (omega arith)))
    ∙ sym (ap (λ (i : ℕ). take i (bytes ++ replicate m 0)) more ∙ take-append-add bytes (replicate m 0) (m - n))
padded n m bytes within (inr same) below =
    ap (λ (x : List ℕ). take n bytes ++ x) (drop_all n (replicate m 0) (let len : length (replicate m 0) ≡ m = length-replicate {A = ℕ} m 0 in omega arith))
    ∙ append-nil (take n bytes)
    ∙ ap (λ (i : ℕ). take i bytes) same
    ∙ sym (take-append-le m bytes (replicate m 0) (omega arith))

-- THE CODE'S STEPS

-- the second write of a seal is over the first
pub seal-made : (v : Vec ℕ) (first second now : List ℕ) (sum : ℕ) → IsLaid v.items → first ≡ sized v.items → now ≡ (with_items v first).items → sum ≡ block_sum now →
    second ≡ with_number_at 4 32 sum now → (with_items (with_items v first) second).items ≡ sealed v.items
seal-made v first second now sum laid one is summed two =
    let len : length (sized v.items) ≡ length v.items = length-sized v.items (long v.items laid) in
    let after : (with_items v first).items ≡ sized v.items = written v first (sized v.items) one len in
    let after_first : now ≡ sized v.items = is ∙ after in
    written (with_items v first) second (sealed v.items)
    (two ∙ ap (with_number_at 4 32 sum) after_first ∙ ap (λ (n : ℕ). with_number_at 4 32 n (sized v.items)) (summed ∙ ap block_sum after_first))
    (length-seal v.items laid ∙ sym len ∙ ap (λ (x : List ℕ). length x) (sym after))

-- a front that is copied over zeros
pub anchor-made : (n len : ℕ) (new zeros first bytes : List ℕ) → new ≡ take n first → first ≡ bytes → zeros ≡ replicate 512 0 → n ≡ min len 512 → len ≡ length bytes → new ++ drop n zeros ≡ first_sector bytes
anchor-made n len new zeros first bytes copied is blank least count =
    ap (λ (x : List ℕ). x ++ drop n zeros) (copied ∙ ap (take n) is)
    ∙ ap (λ (x : List ℕ). take n bytes ++ drop n x) blank
    ∙ padded n 512 bytes (omega arith) (which (cases_order (length bytes) 512)) (omega arith)
  where
    which : (length bytes ≡ 512) ⊎ ((length bytes < 512) ⊎ (512 < length bytes)) → (length bytes ≤ n) ⊎ (n ≡ 512)
    which (inl same) = inr (omega arith)
    which (inr (inl below)) = inl (omega arith)
    which (inr (inr above)) = inr (omega arith)
