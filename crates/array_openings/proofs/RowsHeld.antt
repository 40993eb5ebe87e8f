-- The rows of a bank at rest hold zeros, as its content says.
use Rattle.std.proofs.Common.{◌≡◌, ℕ, ◌+◌, ◌-◌, ◌<◌, ◌≤◌, nat_le, Bool, true, false, cond, List, [], ◌∷◌, ◌++◌, length, get_or, Option, Some, None, refl, sym, ◌∙◌, ap, subst, arith}
use Rattle.std.proofs.lemmas.Bool.Decides.{nat_tests}
use Rattle.units.specs.declared.disk.Sector.{Sector}
use Rattle.units.specs.Places.{anchor_place}
use Rattle.array_model.specs.Blocks.{Laid, SlotWords}
use Rattle.array_model.specs.Script.{sector_of}
use Rattle.block_meaning.specs.Reading.{block_words}
use Rattle.array_machine.specs.Numbers.{has}
use Rattle.array_machine.specs.Setting.{Setting}
use Rattle.array_machine.specs.Operations.{shape_of}
use Rattle.array_machine.specs.Volumes.{Slot, disk_in, volume_at}
use Rattle.array_machine.specs.Rounds.{expects}
use Rattle.array_base.specs.Opening.{slot_opened}
use Rattle.array_base.proofs.Seats.{slot_of_words, seat_room}
use Rattle.array_paths.specs.Ready.{HasRoomFor}
use Rattle.array_openings.specs.Spares.{spare_block}
use Rattle.array_openings.specs.Banks.{Bank, serial_in, sectors_in, stands_on, place_of_block, place_with, setting_of_bank, IsAtRest}
use Rattle.array_openings.specs.Opens.{opened_volumes}
use Rattle.array_openings.specs.Sound.{HasSoundVolumes, OpensSound}
use Rattle.array_openings.proofs.SpareBlocks.{spare_is}
use Rattle.array_openings.proofs.Meets.{meets, form_is}
use Rattle.array_openings.proofs.Rests.{real, over, whole, fits}
use Rattle.array_openings.proofs.Slots.{slots_opened, runs, count, some}

-- a place before the sectors that are kept for metadata
before_block : (m : Laid) (n p : ℕ) → length m.extended + 2 ≤ 18 → p + 18 < n → place_of_block m n p ≡ sector_of 0
before_block m n p few below =
    let past : nat_le (anchor_place n - length m.extended) p ≡ false = grind (arith, nat_tests, few, below) in
    ap (λ (t : Bool). cond t
    (get_or (m.extended ++ m.anchor ∷ []) (p - (anchor_place n - length m.extended)) (sector_of 0)) (sector_of 0)) past

before_with : (o : Option Laid) (n p : ℕ) → ((m : Laid) → o ≡ Some m → length m.extended + 2 ≤ 18) → p + 18 < n
    → place_with o n p ≡ sector_of 0
before_with None n p few below = refl
before_with (Some m) n p few below = before_block m n p (few m refl) below

module _ (k : Bank) (rest : IsAtRest k) where
  abbrev S : Setting
  S = setting_of_bank k

  -- a disk has a slot of an expected record, with room for the volume's rows
  slot_room : (v t d : ℕ) → k.started v ≡ true → disk_in (volume_at (opened_volumes S) v).slots t ≡ Some d
      → HasRoomFor S v d
  slot_room v t d started is =
      let words : List SlotWords = block_words.slots k.block v in
      let there = slot_of_words (slot_opened S) words t d
      (ap (λ (slots : List Slot). disk_in slots t) (sym (slots_opened k rest v started)) ∙ is) in
      seat_room S (meets S (over k rest)) k.block v t there.0 d (record {
        form = form_is S (over k rest) k.block ∙ rest.formed;
        container = rest.container;
        shape = λ u. refl;
        whole = whole k rest;
      }) started there.1 there.2

  -- what stands at the end of a disk has few sectors
  few_on : (d : ℕ) → 18 ≤ sectors_in k.disks d → (m : Laid) → stands_on k d ≡ Some m → length m.extended + 2 ≤ 18
  few_on d room m is = at (expects S k.block d) (has d k.spares) refl is
    where
      spare_few : d < length k.disks
          → length (spare_block (serial_in k.disks d) (sectors_in k.disks d)).extended + 2 ≤ 18
      spare_few below =
          let none = ap (λ (ss : List Sector). length ss) (spare_is S d (real k rest) below room).alone in
          omega (arith, none)

      at : (t u : Bool) → has d k.spares ≡ u
          → cond t (Some k.block) (cond u (Some (spare_block (serial_in k.disks d) (sectors_in k.disks d))) None)
          ≡ Some m
          → length m.extended + 2 ≤ 18
      at true u spare is =
          let same : k.block ≡ m = cc is in
          subst (λ (x : Laid). length x.extended + 2 ≤ 18) same (fits k rest).few
      at false true spare is =
          let same : spare_block (serial_in k.disks d) (sectors_in k.disks d) ≡ m = cc is in
          subst (λ (x : Laid). length x.extended + 2 ≤ 18) same (spare_few (rest.spares d spare))
      at false false spare is = absurd (cc is)

  holds : (v t d row : ℕ) → k.started v ≡ true → disk_in (volume_at (opened_volumes S) v).slots t ≡ Some d
      → row < (shape_of S v).rows → S.start.disks.opening d ((shape_of S v).pba + row) ≡ sector_of 0
  holds v t d row started is inside =
      let room : (shape_of S v).pba + (shape_of S v).rows + 18 ≤ sectors_in k.disks d = slot_room v t d started is in
      before_with (stands_on k d) (sectors_in k.disks d) ((shape_of S v).pba + row)
      (few_on d (omega (arith, room))) (omega (arith, room, inside))

  pub opens_sound : HasSoundVolumes k → OpensSound S (opened_volumes S)
  opens_sound sound = record {
    apart = sound.apart;
    runs = λ v started. runs k rest sound v started;
    count = λ v started. count k rest sound v started;
    some = λ v started. some k rest sound v started;
    holds = λ v t d row sector started is inside. holds v t d row started is inside;
  }
