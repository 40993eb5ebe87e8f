-- Blocks that rounds are edited from: they stand whole in their first sector, and stay so under the edit of a round.
use Rattle.std.proofs.Common.{◌≡◌, ℕ, ◌+◌, ◌<◌, ◌≤◌, Bool, false, List, [], ◌++◌, length, take, replicate, refl, ap, sym, subst, ◌∙◌, arith}
use Rattle.std.proofs.lemmas.List.{append-nil, length-take, take-take, take_at}
use Rattle.std.proofs.lemmas.Option.{slice_get-get_or}
use Rattle.std.specs.Prelude.{Option, Some, Result, Ok, Err, IsOk, OnOk, slice_get}
use Rattle.std.specs.Option.{option_map_or}
use Rattle.byteorder.specs.Endian.{little_bytes}
use Rattle.units.specs.declared.disk.Sector.{Sector}
use Rattle.imsm_base.specs.Fields.{number_at}
use Rattle.imsm_base.specs.Volumes.{is_dirty}
use Rattle.imsm_base.specs.Layout.{Block, Volume, generation_of, volume_count_of}
use Rattle.imsm_base.specs.Parts.{block_in}
use Rattle.imsm_base.specs.Whole.{block_sum}
use Rattle.imsm_base.specs.Edits.{first_sector, with_generation, with_dirty, sized, sealed, block_with_generation, block_with_size, block_sealed}
use Rattle.imsm_base.proofs.Spliced.{number_at-take, number_at-front}
use Rattle.imsm_base.proofs.Edited.{other_field}
use Rattle.imsm_codec.specs.Laid.{IsLaid}
use Rattle.imsm_buffer.specs.Buffer.{Buffer, IsKept}
use Rattle.imsm_codec.specs.Mpb.{volume_at, blank_volume}
use Rattle.imsm_buffer.specs.declared.fault.NoRoom.{NoRoom}
use Rattle.imsm_base.proofs.Apart.{length-volumes}
use Rattle.imsm_buffer.proofs.Kept.{volumes-counted, generation-kept, generation-block, dirty-kept, dirty-block, sealed-kept, sealed-block, sealed-parts, long}
use Rattle.block_meaning.specs.Meaning.{bytes_of_laid, of_volume}
use Rattle.block_meaning.specs.Reading.{block_words}
use Rattle.block_meaning.specs.Renewed.{renewed, renewed_bytes}
use Rattle.control_state.specs.Book.{IsBook, IsBlockOf, laid_at}
use Rattle.block_meaning.proofs.Renewal.{generation-at, size-at}

-- IN ITS FIRST SECTOR

front : (k at : ℕ) (bytes : List ℕ) → at + k ≤ 216 → 216 ≤ length bytes → number_at k at (first_sector bytes) ≡ number_at k at bytes
front k at bytes within room =
    number_at-take k at 512 (bytes ++ replicate 512 0) (omega (arith, within)) ∙ number_at-front k at bytes (replicate 512 0) (omega (arith, within, room))

taken : (n : ℕ) (xs : List ℕ) → length (take n xs) ≤ n
taken n xs = let len = length-take n xs in omega (arith, len)

pub generation_there : (s : Sector) (bytes : List ℕ) → IsBook bytes → IsBlockOf s bytes → number_at 4 44 s.0 ≡ generation_of (block_in bytes)
generation_there s bytes book there =
    let n : ℕ = number_at 4 36 s.0 in
    let fits : length (take n (s.0 ++ [])) ≤ n = taken n (s.0 ++ []) in
    let long : 216 ≤ length bytes = long bytes book.laid in
    let same : length (take n (s.0 ++ [])) ≡ length bytes = ap (λ (xs : List ℕ). length xs) there in
    sym (number_at-take 4 44 n s.0 (omega (arith, fits, long, same)))
    ∙ ap (λ (xs : List ℕ). number_at 4 44 (take n xs)) (sym (append-nil s.0))
    ∙ ap (number_at 4 44) there
    ∙ generation-at bytes

-- a block of one sector is what its first sector says
bytes_back : (bytes : List ℕ) → IsBook bytes → bytes_of_laid (laid_at (record { 0 = first_sector bytes })) ≡ bytes
bytes_back bytes book =
    let n : number_at 4 36 (first_sector bytes) ≡ length bytes = front 4 36 bytes (omega arith) (long bytes book.laid) ∙ size-at bytes ∙ book.size in
    ap (λ (k : ℕ). take k (first_sector bytes ++ [])) n
    ∙ ap (take (length bytes)) (append-nil (first_sector bytes))
    ∙ take-take (length bytes) 512 (bytes ++ replicate 512 0) book.short
    ∙ take_at bytes (replicate 512 0) (length bytes) refl

-- THE EDIT

kept_of : (bytes : List ℕ) → IsBook bytes → IsKept bytes 512 512
kept_of bytes book = record { laid = book.laid; fits = book.short; most = omega arith; taken = omega arith }

volumes_there : (bytes : List ℕ) (n : ℕ) → volume_count_of (block_in bytes) ≡ n → number_at 1 57 bytes ≡ n
volumes_there bytes n is = sym (volumes-counted bytes) ∙ is

generation_volumes : (b : Block) (g : ℕ) → volume_count_of (block_with_generation b g) ≡ volume_count_of b
generation_volumes b g = other_field b 5 9 (little_bytes 4 g) (λ e. omega (arith, e))

sealed_volumes : (b : Block) (size sum : ℕ) → volume_count_of (block_sealed b size sum) ≡ volume_count_of b
sealed_volumes b size sum =
    other_field (block_with_size b size) 2 9 (little_bytes 4 sum) (λ e. omega (arith, e)) ∙ other_field b 3 9 (little_bytes 4 size) (λ e. omega (arith, e))

-- the volume count through each edit
after_generation : (bytes : List ℕ) (g : ℕ) → IsLaid bytes → number_at 1 57 (with_generation bytes g) ≡ number_at 1 57 bytes
after_generation bytes g laid =
    volumes_there (with_generation bytes g) _ (ap volume_count_of (generation-block bytes g laid) ∙ generation_volumes (block_in bytes) g) ∙ volumes-counted bytes

after_dirty : (bytes : List ℕ) (y : Bool) → IsLaid bytes → 0 < number_at 1 57 bytes → number_at 1 57 (with_dirty bytes 0 y) ≡ number_at 1 57 bytes
after_dirty bytes y laid below =
    volumes_there (with_dirty bytes 0 y) _ (ap volume_count_of (dirty-block bytes 0 y laid below)) ∙ volumes-counted bytes

after_seal : (bytes : List ℕ) → IsLaid bytes → number_at 1 57 (sealed bytes) ≡ number_at 1 57 bytes
after_seal bytes laid =
    volumes_there (sealed bytes) _ (ap volume_count_of (sealed-block bytes laid) ∙ sealed_volumes (block_in bytes) (length bytes) (block_sum (sized bytes))) ∙ volumes-counted bytes

pub generation_book : (bytes : List ℕ) (g : ℕ) → IsBook bytes → 0 < number_at 1 57 (with_generation bytes g)
generation_book bytes g book = let volume = book.volume in omega (arith, after_generation bytes g book.laid)

pub book_renewed : (bytes : List ℕ) (g : ℕ) (y : Bool) → IsBook bytes → IsBook (renewed_bytes bytes g y)
book_renewed bytes g y book =
    let one : List ℕ = with_generation bytes g in
    let two : List ℕ = with_dirty one 0 y in
    let k = kept_of bytes book in
    let k1 = generation-kept bytes g 512 512 k in
    let v1 = generation_book bytes g book in
    let k2 = dirty-kept one 0 y 512 512 k1 v1 in
    let k3 = sealed-kept two 512 512 k2 in
    let fits = k2.fits in
    record {
      laid = k3.laid;
      short = k3.fits;
      size = (sealed-parts two k2.laid (omega (arith, fits))).given;
      volume = omega (arith, v1, after_dirty one y k1.laid v1, after_seal two k2.laid);
    }

pub renewed_is : (s : Sector) (bytes : List ℕ) (g : ℕ) (y : Bool) → IsBlockOf s bytes → renewed (laid_at s) g y ≡ laid_at (record { 0 = first_sector (renewed_bytes bytes g y) })
renewed_is s bytes g y there = ap (λ (xs : List ℕ). laid_at (record { 0 = first_sector (renewed_bytes xs g y) })) there

-- the sector that is made of a block
pub made_there : (s : Sector) (bytes : List ℕ) → IsBook bytes → s.0 ≡ first_sector bytes → IsBlockOf s bytes
made_there s bytes book is = ap (λ (xs : List ℕ). bytes_of_laid (laid_at (record { 0 = xs }))) is ∙ bytes_back bytes book

-- WHAT THE CODE READS AND MAKES

pub has_volume : (bytes : List ℕ) → IsBook bytes → 0 < volume_count_of (block_in bytes)
has_volume bytes book = let volume = book.volume in omega (arith, volumes-counted bytes)

pub dirty_there : (s : Sector) (bytes : List ℕ) → IsBook bytes → IsBlockOf s bytes → is_dirty (volume_at 0 (block_in bytes)) ≡ block_words.is_dirty (laid_at s) 0
dirty_there s bytes book there =
    let volume = book.volume in
    let first : slice_get (block_in bytes).volumes 0 ≡ Some (volume_at 0 (block_in bytes)) = slice_get-get_or (block_in bytes).volumes 0 blank_volume (omega (arith, length-volumes bytes)) in
    sym (ap (λ (xs : List ℕ). of_volume (block_in xs) 0 is_dirty false) there ∙ ap (λ (v : Option Volume). option_map_or is_dirty v false) first)

pub copied : (r : Result Unit NoRoom) (old new : Buffer) (from : List ℕ) → OnOk r (new ≡ record old { bytes = from }) → IsOk r → new ≡ record old { bytes = from }
copied (Ok x) old new from made ok = made
copied (Err e) old new from made ok = absurd (cc ok)

pub generation_made : (a b : Buffer) (from : List ℕ) (g : ℕ) → a.bytes ≡ from → b ≡ record a { bytes = with_generation a.bytes g } → b.bytes ≡ with_generation from g
generation_made a b from g is made = ap (λ (s : Buffer). s.bytes) made ∙ ap (λ (xs : List ℕ). with_generation xs g) is

pub volume_counted : (a b : Buffer) (from : List ℕ) (g : ℕ) → IsBook from → a.bytes ≡ from → b ≡ record a { bytes = with_generation a.bytes g } → 0 < volume_count_of (block_in b.bytes)
volume_counted a b from g book is made =
    let volume = generation_book from g book in
    subst (λ (xs : List ℕ). 0 < volume_count_of (block_in xs)) (sym (generation_made a b from g is made)) (omega (arith, volumes-counted (with_generation from g)))

pub bytes_made : (a b c d : Buffer) (from : List ℕ) (g : ℕ) (y : Bool) → a.bytes ≡ from → b ≡ record a { bytes = with_generation a.bytes g }
    → c ≡ record b { bytes = with_dirty b.bytes 0 y } → d ≡ record c { bytes = sealed c.bytes } → d.bytes ≡ renewed_bytes from g y
bytes_made a b c d from g y is one two three =
    ap (λ (s : Buffer). s.bytes) three
    ∙ ap sealed (ap (λ (s : Buffer). s.bytes) two ∙ ap (λ (xs : List ℕ). with_dirty xs 0 y) (generation_made a b from g is one))

pub room_made : (s a b c d : Buffer) (from : List ℕ) (g : ℕ) (y : Bool) → a ≡ record s { bytes = from } → b ≡ record a { bytes = with_generation a.bytes g }
    → c ≡ record b { bytes = with_dirty b.bytes 0 y } → d ≡ record c { bytes = sealed c.bytes } → d.room ≡ s.room
room_made s a b c d from g y none one two three = ap (λ (x : Buffer). x.room) three ∙ ap (λ (x : Buffer). x.room) two ∙ ap (λ (x : Buffer). x.room) one ∙ ap (λ (x : Buffer). x.room) none
