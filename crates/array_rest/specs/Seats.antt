-- Which slots the blocks in hand give to the disks that volumes have there, and that a volume which isn't broken can
-- run. Source: this project's own.
use Rattle.std.specs.Prelude.{⊤, ◌≡◌, ℕ, ◌≤◌, Bool, true, false, List, [], length, slice_get, Some}
use Rattle.array_model.specs.Blocks.{Laid, SlotWords}
use Rattle.array_machine.specs.Setting.{Setting}
use Rattle.array_machine.specs.Numbers.{has}
use Rattle.array_machine.specs.Volumes.{slot_at, disk_in, members_of, can_run, Volume, volume_at}
use Rattle.array_machine.specs.Operations.{shape_of}
use Rattle.array_machine.specs.Rounds.{OfRound, Phase, Going, Round}
use Rattle.array_machine.specs.Machine.{World, Reached}
use Rattle.array_base.specs.Premises.{generation_of, MayBeBook, Premises}
use Rattle.array_base.specs.Opening.{counts_out, Opening}

module _ (S : Setting) where
  -- a block has disk d in this slot of a volume, and expects it there
  pub record HasSeat (m : Laid) (v s d : ℕ) : Type 0 where
    pub words : SlotWords
    pub there : slice_get (S.start.words.slots m v) s ≡ Some words
    pub expected : words.is_expected ≡ true
    pub serial : words.serial ≡ S.start.disks.serial d

  -- it has each disk without a fault where a started volume has it
  abbrev pub SeatsAll : Laid → List ℕ → List Volume → Type 0
  SeatsAll m faults volumes =
      (v s d : ℕ) → (volume_at volumes v).started ≡ true → disk_in (volume_at volumes v).slots s ≡ Some d
      → has d faults ≡ false → HasSeat m v s d

  -- a round that goes on is of the book, which has the highest generation begun, and what a disk was given of that
  -- generation is the book
  abbrev pub BookGoes : Round → Phase → Type 0
  BookGoes r (Going OfRound m step left late done) =
      (r.book ≡ m) × (generation_of S m ≡ r.note) × ((e : ℕ) → generation_of S (r.given e) ≡ r.note → r.given e ≡ m)
  BookGoes r _ = ⊤

  -- the blocks that a run may go on from, each no older than the last finished round's
  pub record BlocksSeat (formed : Laid → Bool) (r : Round) (volumes : List Volume) : Type 0 where
    pub may_book : MayBeBook S formed r.book
    pub may_given : (e : ℕ) → MayBeBook S formed (r.given e)
    pub low : (e : ℕ) → generation_of S (r.given e) ≤ r.note
    pub goes : BookGoes r r.phase
    pub last : SeatsAll r.last r.faults volumes
    pub book : SeatsAll r.book r.faults volumes
    pub given : (e : ℕ) → generation_of S r.last ≤ generation_of S (r.given e) → SeatsAll (r.given e) r.faults volumes

  -- VOLUMES THAT CAN RUN

  -- enough slots of a volume are in sync on disks without a fault
  abbrev pub RunsOn : List ℕ → ℕ → Volume → Type 0
  RunsOn faults v x = can_run (shape_of S v).level (members_of faults [] x.slots) ≡ true

  -- it has as many slots as its shape says, two at least
  pub record HasSlots (v : ℕ) (x : Volume) : Type 0 where
    pub count : length x.slots ≡ (shape_of S v).members
    pub some : 2 ≤ length x.slots

  -- What an opening that starts a volume has seen: it can run.
  pub record OpensAble (volumes : List Volume) : Type 0 where
    pub runs : (v : ℕ) → (volume_at volumes v).started ≡ true → RunsOn [] v (volume_at volumes v)
    pub slots : (v : ℕ) → (volume_at volumes v).started ≡ true → HasSlots v (volume_at volumes v)

  -- It can as long as it isn't broken; until a round has finished it doesn't rest on a disk that counts out.
  pub record VolumesRun (r : Round) (volumes : List Volume) : Type 0 where
    pub able : (v : ℕ) → (volume_at volumes v).started ≡ true → (volume_at volumes v).broken ≡ false
        → RunsOn r.faults v (volume_at volumes v)
    pub slots : (v : ℕ) → (volume_at volumes v).started ≡ true → HasSlots v (volume_at volumes v)
    pub certain : (v s d : ℕ) → r.first ≡ true → (volume_at volumes v).started ≡ true
        → (slot_at (volume_at volumes v).slots s).in_sync ≡ true → disk_in (volume_at volumes v).slots s ≡ Some d
        → counts_out S d ≡ false

-- of each world of each run whose premises and opening are given, where what was started could run
abbrev pub OfEachAbleWorld : ((S : Setting) → Premises S → World → Type 0) → Type 0
OfEachAbleWorld Law =
    (S : Setting) (P : Premises S) (volumes : List Volume) (spares : List ℕ) → Opening S P volumes spares
    → OpensAble S volumes → (w : World) → Reached S volumes spares w → Law S P w
