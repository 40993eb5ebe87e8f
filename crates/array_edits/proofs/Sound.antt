-- The parts of a block of the form that edits keep; such parts are laid as a block of that form.
use Rattle.std.proofs.Common.{◌≡◌, ℕ, zero, suc, ◌+◌, ◌*◌, ◌%◌, ◌≤◌, ◌<◌, ◌==◌, ◌&&◌, ◌||◌, not, Bool, true, false, List, [], ◌∷◌, length, get_or, set, Option, Some, None, refl, sym, ◌∙◌, ap, subst, inl, inr, arith}
use Rattle.std.specs.Prelude.{is_none, nat_lt, sum_by}
use Rattle.std.specs.Option.{option_map_or}
use Rattle.std.specs.List.{list_all, AllByRecursion, AllZip}
use Rattle.std.proofs.lemmas.Bool.{and_parts, and_from, eqb-true, eq-eqb, leb-true, le-leb, cases_lt, false≢true}
use Rattle.std.proofs.lemmas.List.Elements.{length_all_zip}
use Rattle.std.proofs.lemmas.List.Sums.{sum_by-cons}
use Rattle.std.proofs.lemmas.Option.{slice_get-get_or, slice_get_past}
use Rattle.byteorder.specs.Endian.{little_bytes}
use Rattle.imsm_base.specs.Fields.{Part, number}
use Rattle.imsm_base.specs.Layout.{Block, Volume, HasLengths, IsVolume, IsBlock, header_lengths, disk_lengths, signature_of, size_of, disk_count_of, volume_count_of, tail_size_of, bytes_of, volume_size_of, strip_of, level_byte_of, member_count_of}
use Rattle.imsm_base.specs.Parts.{maps_room, volumes_room}
use Rattle.imsm_base.specs.Whole.{AreCounts, AreApart, IsAcceptedTail, IsWholeBlock, the_signature, expected_serials}
use Rattle.imsm_base.specs.Volumes.{Fault, first_map, level_of, second_map_bytes, volume_fault, volume_rows}
use Rattle.units.specs.Levels.{rows_of}
use Rattle.imsm_base.specs.Edits.{block_sealed}
use Rattle.imsm_base.proofs.Joined.{length-bytes_of}
use Rattle.imsm_base.proofs.Edited.{other_field}
use Rattle.imsm_base.proofs.Sealed.{IsUnsealed}
use Rattle.imsm_codec.specs.Mpb.{volume_at, blank_volume}
use Rattle.array_model.specs.Blocks.{Laid}
use Rattle.array_model.specs.Start.{Start}
use Rattle.block_meaning.specs.Meaning.{bytes_of_laid, of_volume}
use Rattle.block_meaning.specs.Reading.{parts_of, block_words}
use Rattle.block_meaning.specs.Whole.{is_whole_block}
use Rattle.block_meaning.proofs.Decided.{whole-decided}
use Rattle.array_edits.specs.Formed.{is_full, has_bounds, has_short_rows, is_served, is_placed, is_formed, IsEditable}
use Rattle.array_edits.proofs.Laid.{IsLaidOf, laid_again, laid-is}
use Rattle.array_edits.proofs.Steady.{Steady, steady_itself}
use Rattle.array_edits.proofs.Moves.{IsServed, moves_none, served_moved}

-- THE PARTS

pub record IsSound (start : Start) (b : Block) : Type 0 where
  pub is : IsBlock b
  pub signed : signature_of b ≡ the_signature
  pub counted : AreCounts (disk_count_of b) (volume_count_of b)
  pub apart : AreApart (expected_serials b)
  pub tail : IsAcceptedTail b.tail
  pub words : length (bytes_of b) % 4 ≡ 0
  pub bounds : length (bytes_of b) + sum_by second_map_bytes b.volumes ≤ 8192
  pub served : (v : ℕ) → start.is_started v ≡ true → IsServed b v
  pub short : has_short_rows b ≡ true

pub unsealed : (start : Start) (b : Block) → IsSound start b → IsUnsealed (bytes_of b) b
unsealed start b s =
    let bounds = s.bounds in
    record {
      signed = s.signed;
      size = record { least = omega (arith, length-bytes_of b s.is); most = omega arith; words = s.words };
      counted = s.counted;
      apart = s.apart;
      spells = record { parts = s.is; laid = refl };
      tail = s.tail;
    }

-- FROM THE TEST

pub served_by : (b : Block) (v : ℕ) → of_volume b v (λ x. is_none (volume_fault b v x)) false ≡ true → IsServed b v
served_by b v test =
    elim (cases_lt v (length b.volumes)) [
      | inl below ↦ record {
        below = below;
        supported = none_of (volume_fault b v (volume_at v b))
            (sym (ap (λ (o : Option Volume). option_map_or (λ x. is_none (volume_fault b v x)) o false) (slice_get-get_or b.volumes v blank_volume below)) ∙ test);
      }
      | inr past ↦ absurd (false≢true (sym (ap (λ (o : Option Volume). option_map_or (λ x. is_none (volume_fault b v x)) o false) (slice_get_past b.volumes v past)) ∙ test))
    ]
  where
    none_of : (o : Option Fault) → is_none o ≡ true → o ≡ None
    none_of None e = refl
    none_of (Some f) e = absurd (false≢true e)

served_in : (start : Start) (b : Block) (v : ℕ) → start.is_started v ≡ true → is_served start b v ≡ true → IsServed b v
served_in start b v started test =
    served_by b v (sym (ap (λ (t : Bool). not t || of_volume b v (λ x. is_none (volume_fault b v x)) false) started) ∙ test)

one_of_two : (v : ℕ) (P : ℕ → Type 0) → v < 2 → P 0 → P 1 → P v
one_of_two zero P few first second = first
one_of_two (suc zero) P few first second = second
one_of_two (suc (suc v)) P few first second = absurd (omega arith)

-- what the test says of a block
pub record IsGood (start : Start) (m : Laid) : Type 0 where
  pub full : length m.anchor.0 ≡ 512
  pub placed : block_words.extra m.anchor ≡ length m.extended
  pub whole : IsWholeBlock (bytes_of_laid m) (parts_of m)
  pub sound : IsSound start (parts_of m)

pub formed_good : (start : Start) (m : Laid) → IsEditable start → is_formed start m ≡ true → IsGood start m
formed_good start m can test =
    let b : Block = parts_of m in
    let four = and_parts (is_placed m && is_whole_block (bytes_of_laid m) b && has_bounds b && list_all (is_served start b) (0 ∷ 1 ∷ [])) (has_short_rows b) test in
    let three = and_parts (is_placed m && is_whole_block (bytes_of_laid m) b && has_bounds b) (list_all (is_served start b) (0 ∷ 1 ∷ [])) four.0 in
    let two = and_parts (is_placed m && is_whole_block (bytes_of_laid m) b) (has_bounds b) three.0 in
    let one = and_parts (is_placed m) (is_whole_block (bytes_of_laid m) b) two.0 in
    let zeroth = and_parts (is_full m.anchor && list_all is_full m.extended) (block_words.extra m.anchor == length m.extended) one.0 in
    let sectors = and_parts (is_full m.anchor) (list_all is_full m.extended) zeroth.0 in
    let w : IsWholeBlock (bytes_of_laid m) b = (whole-decided (bytes_of_laid m)).0 one.1 in
    let bounds : size_of b + sum_by second_map_bytes b.volumes ≤ 8192 = leb-true _ _ two.1 in
    let long : size_of b ≡ length (bytes_of b) = w.given ∙ ap (λ (x : List ℕ). length x) w.spells.laid in
    let first = and_parts (is_served start b 0) _ three.1 in
    let second = and_parts (is_served start b 1) true first.1 in
    record {
      full = eqb-true _ _ sectors.0;
      placed = eqb-true _ _ zeroth.1;
      whole = w;
      sound = record {
        is = w.spells.parts;
        signed = w.signed;
        counted = w.counted;
        apart = w.apart;
        tail = w.tail;
        words = sym (ap (λ (n : ℕ). n % 4) long) ∙ w.sized.words;
        bounds = omega arith;
        served = λ v started. served_in start b v started (one_of_two v (λ k. is_served start b k ≡ true) (can.few v started) first.0 second.0);
        short = four.1;
      };
    }

-- A SEAL

pub volumes_stay : (vs : List Volume) → AllByRecursion IsVolume vs → AllZip Steady vs vs
volumes_stay [] all = tt
volumes_stay (v ∷ vs) all = (steady_itself v all.0, volumes_stay vs all.1)

-- another header that counts the same disks
pub served_header : (b : Block) (h : Part) (v : ℕ) → IsBlock b → number (get_or h 8 []) ≡ disk_count_of b → IsServed b v → IsServed (record b { header = h }) v
served_header b h v is count s =
    served_moved b (record b { header = h }) v (volumes_stay b.volumes is.volumes)
    (moves_none b (record b { header = h }) v s.below count (λ i n has. has) (λ o t there inside. refl) (λ open_one. open_one)) s

sealed_count : (b : Block) (size sum : ℕ) → disk_count_of (block_sealed b size sum) ≡ disk_count_of b
sealed_count b size sum =
    other_field (record b { header = set b.header 3 (little_bytes 4 size) }) 2 8 (little_bytes 4 sum) (λ e. omega arith)
    ∙ other_field b 3 8 (little_bytes 4 size) (λ e. omega arith)

-- a seal leaves its volumes supported
pub sealed_served : (b : Block) (size sum v : ℕ) → IsBlock b → IsServed b v → IsServed (block_sealed b size sum) v
sealed_served b size sum v is served = served_header b (block_sealed b size sum).header v is (sealed_count b size sum) served

-- TO THE TEST

pub by_served : (b : Block) (v : ℕ) → IsServed b v → of_volume b v (λ x. is_none (volume_fault b v x)) false ≡ true
by_served b v s =
    ap (λ (o : Option Volume). option_map_or (λ x. is_none (volume_fault b v x)) o false) (slice_get-get_or b.volumes v blank_volume s.below)
    ∙ ap (λ (o : Option Fault). is_none o) s.supported

pub served_test : (start : Start) (b : Block) (v : ℕ) (t : Bool) → start.is_started v ≡ t → (t ≡ true → IsServed b v) → is_served start b v ≡ true
served_test start b v true e s =
    ap (λ (t : Bool). not t || of_volume b v (λ x. is_none (volume_fault b v x)) false) e ∙ by_served b v (s refl)
served_test start b v false e s = ap (λ (t : Bool). not t || of_volume b v (λ x. is_none (volume_fault b v x)) false) e

-- sound parts are laid as a block of the form
pub sound_formed : (start : Start) (b : Block) → IsSound start b → is_formed start (laid_again b) ≡ true
sound_formed start b s =
    let m : Laid = laid_again b in
    let l : IsLaidOf b m = laid-is b (unsealed start b s) in
    let c : Block = block_sealed b l.size l.sum in
    let long : size_of c ≡ length (bytes_of b) = l.long in
    let bounds = s.bounds in
    let served : (v : ℕ) → is_served start c v ≡ true = λ v.
    served_test start c v (start.is_started v) refl (λ started. served_header b c.header v s.is (sealed_count b l.size l.sum) (s.served v started)) in
    and_from (is_placed m && is_whole_block (bytes_of_laid m) (parts_of m) && has_bounds (parts_of m) && list_all (is_served start (parts_of m)) (0 ∷ 1 ∷ [])) (has_short_rows (parts_of m))
    (and_from (is_placed m && is_whole_block (bytes_of_laid m) (parts_of m) && has_bounds (parts_of m)) (list_all (is_served start (parts_of m)) (0 ∷ 1 ∷ []))
    (and_from (is_placed m && is_whole_block (bytes_of_laid m) (parts_of m)) (has_bounds (parts_of m))
    (and_from (is_placed m) (is_whole_block (bytes_of_laid m) (parts_of m))
    (and_from (is_full m.anchor && list_all is_full m.extended) _ (and_from (is_full m.anchor) _ l.full l.full_extended) (eq-eqb _ _ l.extra))
    ((whole-decided (bytes_of_laid m)).1 (subst (IsWholeBlock (bytes_of_laid m)) (sym l.parts) l.whole)))
    (ap has_bounds l.parts ∙ le-leb _ _ (omega arith)))
    (ap (λ (x : Block). list_all (is_served start x) (0 ∷ 1 ∷ [])) l.parts ∙ and_from (is_served start c 0) _ (served 0) (and_from (is_served start c 1) true (served 1) refl)))
    (ap has_short_rows l.parts ∙ s.short)

-- WHAT AN EDIT MAKES

-- another block over the volumes, each where it lay; its header has counts and lengths as before, but for the disks
pub record Makes (b c : Block) : Type 0 where
  pub header : HasLengths header_lengths c.header
  pub signed : signature_of c ≡ signature_of b
  pub volume_count : volume_count_of c ≡ volume_count_of b
  pub tail_size : tail_size_of c ≡ tail_size_of b
  pub gap : c.gap ≡ b.gap
  pub tail : c.tail ≡ b.tail
  pub disks : AllByRecursion (HasLengths disk_lengths) c.disks
  pub disk_count : length c.disks ≡ disk_count_of c
  pub volumes : AllZip Steady b.volumes c.volumes

volumes_are : (vs ws : List Volume) → AllZip Steady vs ws → AllByRecursion IsVolume ws
volumes_are [] [] zip = tt
volumes_are [] (w ∷ ws) zip = absurd zip
volumes_are (v ∷ vs) [] zip = absurd zip
volumes_are (v ∷ vs) (w ∷ ws) zip = (zip.0.is, volumes_are vs ws zip.1)

pub made_block : (b c : Block) → IsBlock b → Makes b c → IsBlock c
made_block b c is m = record {
  header = m.header;
  disks = m.disks;
  disk_count = m.disk_count;
  volumes = volumes_are b.volumes c.volumes m.volumes;
  volume_count = sym (length_all_zip Steady b.volumes c.volumes m.volumes) ∙ is.volume_count ∙ sym m.volume_count;
  tail = ap (λ (x : List ℕ). length x) m.tail ∙ is.tail ∙ sym m.tail_size;
}

rooms_same : (vs ws : List Volume) → AllZip Steady vs ws → volumes_room ws + sum_by second_map_bytes ws ≡ volumes_room vs + sum_by second_map_bytes vs
rooms_same [] [] zip = refl
rooms_same [] (w ∷ ws) zip = absurd zip
rooms_same (v ∷ vs) [] zip = absurd zip
rooms_same (v ∷ vs) (w ∷ ws) zip = let room = zip.0.room in
    omega (arith, rooms_same vs ws zip.1, sum_by-cons second_map_bytes v vs, sum_by-cons second_map_bytes w ws)

maps_fours : (ms : List _) → maps_room ms % 4 ≡ 0
maps_fours [] = refl
maps_fours (m ∷ ms) = omega (arith, maps_fours ms)

rooms_fours : (vs : List Volume) → volumes_room vs % 4 ≡ 0
rooms_fours [] = refl
rooms_fours (v ∷ vs) = omega (arith, maps_fours v.maps, rooms_fours vs)

-- how its length goes with the disks
pub made_length : (b c : Block) → IsBlock b → Makes b c →
    length (bytes_of c) + sum_by second_map_bytes c.volumes + 48 * disk_count_of b ≡ length (bytes_of b) + sum_by second_map_bytes b.volumes + 48 * disk_count_of c
made_length b c is m =
    omega (
      arith,
      length-bytes_of b is,
      length-bytes_of c (made_block b c is m),
      rooms_same b.volumes c.volumes m.volumes,
      m.tail_size,
      ap (λ (x : List ℕ). length x) m.gap,
    )

made_words : (b c : Block) → IsBlock b → Makes b c → length (bytes_of b) % 4 ≡ 0 → length (bytes_of c) % 4 ≡ 0
made_words b c is m words =
    omega (
      arith,
      length-bytes_of b is,
      length-bytes_of c (made_block b c is m),
      rooms_fours b.volumes,
      rooms_fours c.volumes,
      m.tail_size,
      ap (λ (x : List ℕ). length x) m.gap,
    )

-- THE ROWS

abbrev rows_by : (size level count strip : ℕ) → ℕ
rows_by size level count strip = rows_of (level_of level count) count size strip

rows_kept : (v x : Volume) → Steady v x → volume_rows x ≡ volume_rows v
rows_kept v x st =
    ap (λ (n : ℕ). rows_by n (level_byte_of (first_map x)) (member_count_of (first_map x)) (strip_of (first_map x))) st.size
    ∙ ap (λ (n : ℕ). rows_by (volume_size_of v) n (member_count_of (first_map x)) (strip_of (first_map x))) st.first.level
    ∙ ap (λ (n : ℕ). rows_by (volume_size_of v) (level_byte_of (first_map v)) n (strip_of (first_map x))) st.first.count
    ∙ ap (rows_by (volume_size_of v) (level_byte_of (first_map v)) (member_count_of (first_map v))) st.first.strip

abbrev is_short : Volume → Bool
is_short v = nat_lt (volume_rows v) 18446744073709551616

short_kept : (vs ws : List Volume) → AllZip Steady vs ws → list_all is_short vs ≡ true → list_all is_short ws ≡ true
short_kept [] [] zip all = refl
short_kept [] (w ∷ ws) zip all = absurd zip
short_kept (v ∷ vs) [] zip all = absurd zip
short_kept (v ∷ vs) (w ∷ ws) zip all =
    let both = and_parts (is_short v) (list_all is_short vs) all in
    and_from (is_short w) (list_all is_short ws) (ap (λ (n : ℕ). nat_lt n 18446744073709551616) (rows_kept v w zip.0) ∙ both.0) (short_kept vs ws zip.1 both.1)

-- it is sound where its disks are, and its volumes are served
pub made_sound : (start : Start) (b c : Block) → IsSound start b → Makes b c → 1 ≤ disk_count_of c → disk_count_of c ≤ 16 →
    length (bytes_of b) + sum_by second_map_bytes b.volumes + 48 * disk_count_of c ≤ 8192 + 48 * disk_count_of b → AreApart (expected_serials c) →
    ((v : ℕ) → start.is_started v ≡ true → IsServed c v) → IsSound start c
made_sound start b c s m some few bounds apart served = record {
  is = made_block b c s.is m;
  signed = m.signed ∙ s.signed;
  counted = record { some_disk = some; few_disks = few; few_volumes = subst (λ (n : ℕ). n ≤ 2) (sym m.volume_count) s.counted.few_volumes };
  apart = apart;
  tail = subst IsAcceptedTail (sym m.tail) s.tail;
  words = made_words b c s.is m s.words;
  bounds = omega (arith, made_length b c s.is m);
  served = served;
  short = short_kept b.volumes c.volumes m.volumes s.short;
}
