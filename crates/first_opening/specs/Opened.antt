-- The opening of a bank of disks that holds a container of the first form, and the run that begins from it. Source:
-- this project's own.
use Rattle.std.specs.Prelude.{◌≡◌, ℕ, ◌<◌, ◌==◌, ◌&&◌, nat_lt, Bool, true, false, List, [], length, map, filter, flat_map, slice_get, slice_index, slice_index_or, Some, None}
use Rattle.std.specs.List.{list_all, range_with_len}
use Rattle.std.specs.Option.{IsSomeAnd}
use Rattle.std.specs.Str.{bytes_eq}
use Rattle.units.specs.declared.disk.Sector.{Sector}
use Rattle.imsm_base.specs.Layout.{serial_of}
use Rattle.imsm_base.specs.Parts.{block_in}
use Rattle.imsm_base.specs.Whole.{AreApart, IsWholeDisk}
use Rattle.units.specs.Places.{anchor_place}
use Rattle.imsm_base.specs.FirstForm.{IsFirstForm}
use Rattle.imsm_codec.specs.Given.{given_block}
use Rattle.array_model.specs.declared.script.Op.{Op}
use Rattle.array_model.specs.declared.script.OpKind.{OpKind}
use Rattle.array_model.specs.declared.script.OpKind.TheVariants.{Write, Read, Whole}
use Rattle.array_model.specs.Script.{Asked}
use Rattle.array_model.specs.Blocks.{Laid, SlotWords}
use Rattle.block_meaning.specs.Meaning.{has_serial}
use Rattle.array_model.specs.Start.{disks_of}
use Rattle.block_meaning.specs.Reading.{block_words}
use Rattle.block_meaning.specs.Renewed.{renewed}
use Rattle.stage_machine.specs.Setting.{Setting}

-- the disks of a bank, by number: serials, sizes in sectors, and sectors; and the anchor sector of the newest block, as
-- it was read
pub record Opened : Type 0 where
  pub serials : List (List ℕ)
  pub sizes : List ℕ
  pub contents : List (List Sector)
  pub anchor : Sector

abbrev pub serial_at : Opened → ℕ → List ℕ
serial_at o d = slice_index_or o.serials d []

-- the newest block, as it lies in its anchor alone
abbrev pub newest_of : Opened → Laid
newest_of o = record { anchor = o.anchor; extended = [] }

-- its bytes: those that the anchor begins with, as many as the block's size says
abbrev pub block_of : Opened → List ℕ
block_of o = given_block o.anchor.0

-- THE SETTING OF A RUN

abbrev pub numbers_of : Opened → List ℕ
numbers_of o = range_with_len 0 (length o.serials)

-- the disks that the block expects
abbrev pub targets_of : Opened → List ℕ
targets_of o = filter (λ d. block_words.expects (newest_of o) (serial_at o d)) (numbers_of o)

-- the disks that have the serial of a slot's record
abbrev pub disks_in_slot : Opened → SlotWords → List ℕ
disks_in_slot o w = filter (λ d. bytes_eq w.serial (serial_at o d)) (numbers_of o)

-- the disks of volume 0, slot by slot
abbrev pub members_of : Opened → List ℕ
members_of o = flat_map (disks_in_slot o) (block_words.slots (newest_of o) 0)

-- a run of a script, with the content that the volumes held at opening and the sectors that were unsure
abbrev pub setting_of : Opened → Asked → (content : ℕ → ℕ → Sector) → (unsure : ℕ → ℕ → Bool) → Setting
setting_of o asked content unsure = record {
  start = record {
    words = block_words;
    disks = disks_of o.serials o.sizes o.contents;
    newest = newest_of o;
    is_started = λ v. v == 0;
    pass_from = λ v. None;
    is_spare = λ d. false;
    counts_out = [];
    content = content;
    unsure = unsure;
  };
  asked = asked;
  targets = targets_of o;
  members = members_of o;
  renew = renewed;
}

-- what is said of a run over this opening, of whatever script, content and unsure sectors
abbrev pub OfEachSetting : Opened → (Setting → Type 0) → Type 0
OfEachSetting o Fact =
    (asked : Asked) (content : ℕ → ℕ → Sector) (unsure : ℕ → ℕ → Bool) → Fact (setting_of o asked content unsure)

-- WHAT THE OPENING FOUND

-- Each disk is whole by the block, which is of the first form; the disks are those of the block's table, each with a
-- serial of its own. All anchors begin with the block, each with bytes of its own behind the block's end, and one of
-- them is the anchor that was read.
pub record IsOpening (o : Opened) : Type 0 where
  pub sizes : o.sizes ≡ map (λ (sectors : List Sector). length sectors) o.contents
  pub apart : AreApart o.serials
  pub there : list_all (has_serial o.serials) (map serial_of (block_in (block_of o)).disks) ≡ true
  pub first : IsFirstForm (block_in (block_of o))
  pub whole : (d : ℕ) → d < length o.serials
      → IsWholeDisk (serial_at o d) (slice_index o.sizes d) (block_of o) (block_in (block_of o))
  pub anchored : (d : ℕ) → d < length o.serials
      → IsSomeAnd (slice_get (slice_index_or o.contents d []) (anchor_place (slice_index o.sizes d)))
      (λ s. given_block s.0 ≡ block_of o)
  pub read : (d : ℕ) × (d < length o.serials)
      × (slice_get (slice_index_or o.contents d []) (anchor_place (slice_index o.sizes d)) ≡ Some o.anchor)

-- an operation of a client below 16, on volume 0
abbrev pub is_in_first : OpKind → Bool
is_in_first (Write v s value) = v.0 == 0
is_in_first (Read v s) = v.0 == 0
is_in_first (Whole v) = true

abbrev pub is_first_op : Op → Bool
is_first_op op = nat_lt op.client 16 && is_in_first op.kind
