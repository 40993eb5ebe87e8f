-- The disks of a mirror are seen as they stand.
use Rattle.std.proofs.Common.{◌≡◌, ℕ, true, false, List, [], ◌∷◌, ◌++◌, get_or, map, replicate, Some, refl, sym, ◌∙◌, ap, subst, arith, lit≤}
use Rattle.std.specs.Prelude.{slice_get, slice_index}
use Rattle.std.proofs.lemmas.List.{get_or-append_right, length-replicate}
use Rattle.std.proofs.lemmas.Option.{same_Some}
use Rattle.units.specs.declared.disk.Sector.{Sector}
use Rattle.units.specs.declared.disk.Serial.{Serial}
use Rattle.imsm_base.specs.Parts.{block_in}
use Rattle.imsm_base.specs.Vector.{mirror_bytes}
use Rattle.imsm_base.specs.Whole.{IsWholeBlock, IsWholeDisk, standing}
use Rattle.device_log.specs.Log.{Call, OnlyReads}
use Rattle.mpb_store.specs.declared.answer.Found.TheVariants as found
use Rattle.mpb_store.specs.Answers.{IsFound, bytes_on}
use Rattle.mpb_store.specs.Banks.{IsAnswerOn, LogsLook, blank_sector, places_read, read_of, sector_after}
use Rattle.mpb_store.specs.Sectors.{block_sector}
use Rattle.mpb_store.proofs.Standing.{answer_standing}
use Rattle.container.specs.declared.seen.Seen.{Seen}
use Rattle.container.specs.declared.seen.SeenAs.TheVariants.{Whole, Unread}
use Rattle.assembly.specs.Seen.{IsSeen}
use Rattle.refused_verdicts.specs.Mirror.{anchor_read, disk_a, disk_b, mirror_disk}
use Rattle.refused_verdicts.specs.Told.{stood_on}
use Rattle.refused_verdicts.proofs.Looked.{stood_so}

-- WHOLE

pub whole_a : IsWholeBlock mirror_bytes (block_in mirror_bytes) → IsWholeDisk disk_a.0 4096 mirror_bytes (block_in mirror_bytes)
unfolding block_in
whole_a w = record { enough = lit≤ tt; whole = w; own_fits = lit≤ tt }

pub whole_b : IsWholeBlock mirror_bytes (block_in mirror_bytes) → IsWholeDisk disk_b.0 4096 mirror_bytes (block_in mirror_bytes)
unfolding block_in
whole_b w = record { enough = lit≤ tt; whole = w; own_fits = lit≤ tt }

-- WHAT STANDS

pub stands : get_or mirror_disk 4094 blank_sector ≡ block_sector mirror_bytes 0
stands = get_or-append_right (replicate 4094 blank_sector) (block_sector mirror_bytes 0 ∷ blank_sector ∷ []) 4094 4094 blank_sector (length-replicate 4094 blank_sector) (lit≤ tt)

one_sector : (at : ℕ → Sector) (own : List ℕ) → IsWholeDisk own 4096 mirror_bytes (block_in mirror_bytes) → at 4094 ≡ block_sector mirror_bytes 0 → IsAnswerOn own 4096 at found.Whole mirror_bytes
one_sector at own w here = answer_standing own 4096 at mirror_bytes w here (λ k below. absurd (omega (arith, below)))

pub holds_whole : (at : ℕ → Sector) (own : List ℕ) → IsWholeDisk own 4096 mirror_bytes (block_in mirror_bytes) → at 4094 ≡ block_sector mirror_bytes 0 → IsFound own 4096 (bytes_on 4096 at) found.Whole
holds_whole at own w here = ((one_sector at own w here).exact (λ same. let other : found.Whole ≡ found.Unread = same in cc other) found.Whole).0 refl

pub stands_whole : (at : ℕ → Sector) → IsWholeDisk disk_a.0 4096 mirror_bytes (block_in mirror_bytes) → at 4094 ≡ block_sector mirror_bytes 0 → standing 4096 at ≡ mirror_bytes
stands_whole at w here = sym ((one_sector at disk_a.0 w here).loaded refl)

-- SEEN

abbrev pub seen_disk : ℕ → Serial → Seen
seen_disk k s = record { disk = record { 0 = k }; serial = s; sectors = 4096; holds = Whole (record { bytes = mirror_bytes; room = 480 }) }

not_unread : (s : Serial) (k : ℕ) → (seen_disk k s).holds ≡ Unread → ⊥
not_unread s k is = cc is

pub seen_so : (serials : List Serial) (sizes : List ℕ) (contents : List (List Sector)) (log : List Call) (faults : ℕ → ℕ) (k : ℕ) (s : Serial)
    → slice_get serials k ≡ Some s → slice_index sizes k ≡ 4096 → stood_on contents k 4094 ≡ block_sector mirror_bytes 0 → IsWholeDisk s.0 4096 mirror_bytes (block_in mirror_bytes)
    → IsSeen serials sizes (Some contents) (Some []) (Some log) (λ d. 0) faults k (seen_disk k s)
seen_so serials sizes contents log faults k s named sized here whole = record {
  disk = refl;
  serial = named;
  sectors = sym sized;
  whole = λ is. whole;
  possible = tt;
  small = λ few. absurd (omega (arith, few));
  unread = λ is. absurd (not_unread s k is);
  told = λ o all stood logged.
      let same_log : log ≡ all = same_Some log all logged in
      let same : contents ≡ o = same_Some contents o stood in (
        [],
        [],
        log,
        refl,
        sym same_log,
        subst (λ (c : List (List Sector)). IsAnswerOn s.0 4096 (sector_after c [] k) found.Whole mirror_bytes) same (one_sector (stood_on contents k) s.0 whole here),
      );
}

-- LOOKED AT

the_places : (d : ℕ) → anchor_read d ∷ [] ≡ map (read_of d true) (places_read 4096 (block_sector mirror_bytes 0).0)
the_places d = refl

pub look_so : (contents : List (List Sector)) (before : List Call) (d : ℕ) → OnlyReads (before ++ anchor_read d ∷ []) → stood_on contents d 4094 ≡ block_sector mirror_bytes 0
    → LogsLook 4096 d (Some contents) (Some before) (Some (before ++ anchor_read d ∷ [])) false
look_so contents before d reads here now told =
    let same : before ++ anchor_read d ∷ [] ≡ now = same_Some (before ++ anchor_read d ∷ []) now told in (
      before,
      anchor_read d ∷ [],
      (block_sector mirror_bytes 0).0,
      refl,
      sym same,
      the_places d,
      λ o stood.
          let opened : contents ≡ o = same_Some contents o stood in
          let now_reads : OnlyReads now = subst OnlyReads same reads in
          sym (ap (λ (s : Sector). s.0) (sym (ap (λ (c : List (List Sector)). sector_after c now d 4094) opened) ∙ ap (λ (at : ℕ → Sector). at 4094) (stood_so contents now d now_reads) ∙ here)),
    )
