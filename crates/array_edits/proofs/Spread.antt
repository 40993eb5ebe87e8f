-- Edits that change each volume, and leave header and lengths: what they leave makes a sound block again.
use Rattle.std.proofs.Common.{◌≡◌, ℕ, ◌<◌, Bool, true, false, List, [], length, map, get_or, Option, refl, sym, ◌∙◌, ap, subst, arith}
use Rattle.std.specs.Option.{option_map_or}
use Rattle.std.specs.List.{AllByRecursion, AllZip, range_with_len}
use Rattle.std.proofs.lemmas.List.FromFn.{length-map-range_with_len, get_or-map-range_with_len}
use Rattle.std.proofs.lemmas.Option.{slice_get-get_or}
use Rattle.imsm_base.specs.Fields.{Part, number, number_in}
use Rattle.imsm_base.specs.Layout.{Block, Volume, HasLengths, IsVolume, header_lengths, disk_lengths, member_count_of}
use Rattle.imsm_base.specs.Volumes.{first_map, member, has_migration, is_dirty}
use Rattle.imsm_base.specs.Whole.{AreApart, expected_serials}
use Rattle.imsm_codec.specs.Mpb.{volume_at, blank_volume}
use Rattle.imsm_edit.specs.Meanings.{is_told}
use Rattle.imsm_edit.specs.Slots.{changed_each}
use Rattle.imsm_edit.specs.Failures.{without_member}
use Rattle.array_model.specs.Start.{Start}
use Rattle.array_edits.proofs.Steady.{Steady, steady_itself, steady_then}
use Rattle.array_edits.proofs.Moves.{IsServed, SameSectors, moves_none, served_moved}
use Rattle.array_edits.proofs.Sound.{IsSound, made_sound}
use Rattle.array_edits.proofs.Entries.{at_each}
use Rattle.array_edits.proofs.Wide.{each_steady, without_steady, without_index, Settles}

-- ONE VOLUME

-- a volume lies where it lay, its pass is supported, its slots keep their indices, and dirty it is as before
pub record Stays (v x : Volume) : Type 0 where
  pub steady : Steady v x
  pub migration : has_migration v ≡ true → has_migration x ≡ true
  pub index : (s : ℕ) → s < member_count_of (first_map v) → (member x s).index ≡ (member v s).index
  pub dirty : is_dirty x ≡ is_dirty v

pub stays_itself : (v : Volume) → IsVolume v → Stays v v
stays_itself v is = record { steady = steady_itself v is; migration = λ good. good; index = λ s below. refl; dirty = refl }

pub stays_without : (i : ℕ) (v : Volume) → IsVolume v → Stays v (without_member i v)
stays_without i v is = record { steady = without_steady i v is; migration = λ good. good; index = λ s below. without_index i v s is below; dirty = refl }

pub stays_settled : (b : Block) (v x y : Volume) → Stays v x → Settles b x y → Stays v y
stays_settled b v x y a t =
    let count = a.steady.first.count in
    record {
      steady = steady_then v x y a.steady t.steady;
      migration = λ good. t.migration (a.migration good);
      index = λ s below. t.index s (omega (arith, count)) ∙ a.index s below;
      dirty = t.dirty ∙ a.dirty;
    }

-- ALL VOLUMES

-- what a list says of each number below its length
pub told_by : (word : ℕ → Bool) (n k : ℕ) → k < n → is_told (map word (range_with_len 0 n)) k ≡ word k
told_by word n k below =
    ap (λ (o : Option Bool). option_map_or (λ t. t) o false) (slice_get-get_or (map word (range_with_len 0 n)) k false (omega (arith, length-map-range_with_len word 0 n)))
    ∙ get_or-map-range_with_len word 0 n k k false below (omega arith)

abbrev pub AllStay : Block → (ℕ → Volume → Volume) → Type 0
AllStay b h = (k : ℕ) → k < length b.volumes → Stays (volume_at k b) (h k (volume_at k b))

-- a block of the same header, over these volumes and a table of as many records
pub record Spreads (b c : Block) (h : ℕ → Volume → Volume) : Type 0 where
  pub header : c.header ≡ b.header
  pub gap : c.gap ≡ b.gap
  pub tail : c.tail ≡ b.tail
  pub disks : AllByRecursion (HasLengths disk_lengths) c.disks
  pub count : length c.disks ≡ length b.disks
  pub volumes : c.volumes ≡ changed_each h b.volumes
  pub stay : AllStay b h

pub spread_at : (b c : Block) (h : ℕ → Volume → Volume) (k : ℕ) → Spreads b c h → k < length b.volumes → volume_at k c ≡ h k (volume_at k b)
spread_at b c h k p below = ap (λ (vs : List Volume). get_or vs k blank_volume) p.volumes ∙ at_each h b.volumes k blank_volume below

pub spread_steady : (b c : Block) (h : ℕ → Volume → Volume) → Spreads b c h → AllZip Steady b.volumes c.volumes
spread_steady b c h p = subst (AllZip Steady b.volumes) (sym p.volumes) (each_steady h b.volumes (λ k below. (p.stay k below).steady))

pub spread_served : (start : Start) (b c : Block) (h : ℕ → Volume → Volume) → IsSound start b → Spreads b c h → SameSectors b c → (v : ℕ) → IsServed b v → IsServed c v
spread_served start b c h s p sectors v is =
    let zip : AllZip Steady b.volumes c.volumes = spread_steady b c h p in
    served_moved b c v zip
    (moves_none b c v is.below (ap (number_in 8) p.header) sectors
    (λ o t there inside. ap (λ (x : Volume). (member x t).index) (spread_at b c h o p there) ∙ (p.stay o there).index t inside)
    (λ good. ap has_migration (spread_at b c h v p is.below) ∙ (p.stay v is.below).migration good))
    is

pub spread_sound : (start : Start) (b c : Block) (h : ℕ → Volume → Volume) → IsSound start b → Spreads b c h → SameSectors b c → AreApart (expected_serials c) → IsSound start c
spread_sound start b c h s p sectors apart =
    let counted = s.counted in
    let bounds = s.bounds in
    let word : (n : ℕ) → get_or c.header n [] ≡ get_or b.header n [] = λ n. ap (λ (x : Part). get_or x n []) p.header in
    let count = ap (number_in 8) p.header in
    let zip : AllZip Steady b.volumes c.volumes = spread_steady b c h p in
    made_sound start b c s (record {
      header = subst (λ (x : Part). HasLengths header_lengths x) (sym p.header) s.is.header;
      signed = word 0;
      volume_count = ap number (word 9);
      tail_size = ap number (word 13);
      gap = p.gap;
      tail = p.tail;
      disks = p.disks;
      disk_count = p.count ∙ s.is.disk_count ∙ sym count;
      volumes = zip;
    }) (omega (arith, count, counted.some_disk)) (omega (arith, count, counted.few_disks)) (omega (arith, count)) apart
    (λ v started. spread_served start b c h s p sectors v (s.served v started))
