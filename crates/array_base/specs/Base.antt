-- What holds of the metadata on the disks at every moment of a run: of the blocks that are known, of each disk that
-- works, of generations, of the blocks that the monitor has in hand, and of what goes on. Source: this project's own.
use Rattle.std.specs.Prelude.{◌≡◌, ℕ, ◌<◌, ◌≤◌, ◌||◌, ◌&&◌, not, Bool, true, false, List, [], ◌∷◌, ⊤}
use Rattle.device_log.specs.Log.{Call}
use Rattle.array_model.specs.Blocks.{Laid}
use Rattle.array_model.specs.Candidates.{Disk, In, disk_after}
use Rattle.array_disks.specs.Held.{HasCandidate, IsReady, IsStanding, IsSole, AccountForEnd}
use Rattle.array_disks.specs.Changes.{EachKnown, EachTwoKnown}
use Rattle.array_machine.specs.Setting.{Setting}
use Rattle.array_machine.specs.Numbers.{has}
use Rattle.array_machine.specs.Rounds.{Step, AtExtended, AtAnchor, AtSync, OfRound, OfSpare, Phase, Rest, Going, Round, expects}
use Rattle.array_machine.specs.Control.{Control}
use Rattle.array_model.specs.Blocks.{SaysAlike}
use Rattle.array_base.specs.Premises.{generation_of, IsContainer, IsBlock, MayBeBook, IsSpareBlock, Premises}
use Rattle.array_base.specs.Opening.{counts_out}

-- THE LEDGER

-- the part of a round that the facts speak of
pub record Ledger : Type 0 where
  pub book : Laid
  pub last : Laid
  pub note : ℕ
  pub first : Bool
  pub ended : Bool
  pub faults : List ℕ
  pub given : ℕ → Laid

abbrev pub ledger : Round → Ledger
ledger r = record {
  book = r.book;
  last = r.last;
  note = r.note;
  first = r.first;
  ended = r.ended;
  faults = r.faults;
  given = r.given;
}

module _ (S : Setting) where
  -- a disk is trusted: the last finished round expects it, it has no fault, and it doesn't count out
  abbrev pub is_trusted : Ledger → ℕ → Bool
  is_trusted l d = expects S l.last d && not (has d l.faults) && not (l.first && counts_out S d)

  abbrev pub IsTrusted : Ledger → ℕ → Type 0
  IsTrusted l d = is_trusted l d ≡ true

  -- the disks behind a log
  abbrev pub disks_by : List Call → ℕ → Disk
  disks_by log = disk_after S.start.words S.start.disks log

  -- KNOWN BLOCKS

  -- two blocks say the same, and a round of this run wrote both as the same sectors
  pub record AreTwins (a b : Laid) : Type 0 where
    pub says : SaysAlike S.start.words a b
    pub same : generation_of S S.start.newest < generation_of S a → a ≡ b

  -- Candidates account for what stands. Each known block is whole on some disk. Of containers' blocks none is above the
  -- note, and those of one generation are twins.
  pub record KnownAreSound (ks : ℕ → Disk) (l : Ledger) : Type 0 where
    pub account : (d : ℕ) → AccountForEnd (S.start.disks.sectors d) (ks d)
    pub blocks : EachKnown (λ d a. IsBlock S a) ks
    pub noted : EachKnown (λ d a. IsContainer S a → generation_of S a ≤ l.note) ks
    pub twins : EachTwoKnown (λ a b. IsContainer S a → IsContainer S b → generation_of S a ≡ generation_of S b
        → AreTwins a b) ks

  -- WORKING DISKS

  -- a container's block, no older than the last finished round's
  pub record IsCurrent (l : Ledger) (a : Laid) : Type 0 where
    pub container : IsContainer S a
    pub young : generation_of S l.last ≤ generation_of S a

  -- It has a candidate, and each is current. Each current block, on whichever disk it is known, expects it, and so does
  -- the book.
  pub record HoldsCurrent (ks : ℕ → Disk) (l : Ledger) (d : ℕ) : Type 0 where
    pub some : HasCandidate (ks d)
    pub candidates : (a : Laid) → In a (ks d).candidates → IsCurrent l a
    pub expected : EachKnown (λ e a. IsCurrent l a → expects S a d ≡ true) ks
    pub in_book : expects S l.book d ≡ true

  -- GENERATIONS

  -- The note is no lower than the last finished round's generation or the newest's at opening. Before the first round
  -- has finished the last is the newest, and none has ended; behind it the last is above the newest.
  pub record GenerationsRise (l : Ledger) : Type 0 where
    pub last : generation_of S l.last ≤ l.note
    pub newest : generation_of S S.start.newest ≤ l.note
    pub above : l.first ≡ false → generation_of S S.start.newest < generation_of S l.last
    pub first : l.first ≡ true → l.last ≡ S.start.newest
    pub none_ended : l.first ≡ true → l.ended ≡ false

  -- BLOCKS IN HAND

  -- some disk knows the block
  pub record IsKnown (ks : ℕ → Disk) (m : Laid) : Type 0 where
    pub disk : ℕ
    pub there : In m (ks disk).known

  -- each may be the book; the last finished round's, and those that disks were given, are known
  pub record InHand (formed : Laid → Bool) (ks : ℕ → Disk) (l : Ledger) : Type 0 where
    pub book : MayBeBook S formed l.book
    pub last : MayBeBook S formed l.last
    pub last_known : IsKnown ks l.last
    pub given : (d : ℕ) → MayBeBook S formed (l.given d)
    pub given_known : (d : ℕ) → IsKnown ks (l.given d)

  -- WHAT GOES ON

  -- a target that is left
  abbrev pub is_left : List ℕ → List ℕ → ℕ → Bool
  is_left left late d = has d left || has d late

  -- A round of block m: it is the book, of the highest generation begun, and each known container's block of its
  -- generation is the same. A disk that it expects and that isn't left holds it alone, but for faults. While no target
  -- finished, all trusted disks are left, if a round has ended before; behind that it is known.
  pub record RoundGoes (ks : ℕ → Disk) (l : Ledger) (m : Laid) (left late : List ℕ) (done : Bool) : Type 0 where
    pub book : l.book ≡ m
    pub top : generation_of S m ≡ l.note
    pub above : generation_of S S.start.newest < generation_of S m
    pub alone : EachKnown (λ e a. IsContainer S a → generation_of S a ≡ generation_of S m → a ≡ m) ks
    pub finished : (d : ℕ) → expects S m d ≡ true → has d l.faults ≡ false → is_left left late d ≡ false
        → IsSole (ks d) m
    pub begun : l.ended ≡ true → done ≡ false → (d : ℕ) → IsTrusted l d → has d left ≡ true
    pub known : done ≡ true → IsKnown ks m
    pub targets : (d : ℕ) → is_left left late d ≡ true → expects S m d ≡ true

  -- where no round goes on and one has ended: while some disk is trusted, the book is the last finished round's block,
  -- and has the highest generation begun
  abbrev pub IsSettled : Ledger → Type 0
  IsSettled l = l.ended ≡ true → (d : ℕ) → IsTrusted l d → (l.note ≡ generation_of S l.last) × (l.book ≡ l.last)

  -- The write of a spare's block to disk x, which isn't trusted; once it finished, x holds the block alone.
  pub record SpareGoes (ks : ℕ → Disk) (l : Ledger) (x : ℕ) (m : Laid) (left late : List ℕ) (done : Bool) : Type 0 where
    pub settled : IsSettled l
    pub only : (d : ℕ) → is_left left late d ≡ true → d ≡ x
    pub idle : IsTrusted l x → ⊥
    pub block : IsSpareBlock S x m
    pub held : done ≡ true → IsSole (ks x) m

  abbrev pub Goes : (ℕ → Disk) → Ledger → Phase → Type 0
  Goes ks l Rest = IsSettled l
  Goes ks l (Going OfRound m step left late done) = RoundGoes ks l m left late done
  Goes ks l (Going (OfSpare x) m step left late done) = SpareGoes ks l x m left late done

  -- WHERE THE NEXT CALL STANDS

  -- what disk d holds before a step: at the anchor the extended sectors stand, at the sync the block does
  abbrev pub Awaits : (d : ℕ) → Disk → Laid → Step → Type 0
  Awaits d k m AtExtended = ⊤
  Awaits d k m AtAnchor = IsReady (S.start.disks.sectors d) k m
  Awaits d k m AtSync = IsStanding S.start.words (S.start.disks.sectors d) k m

  abbrev pub NextAwaits : (ℕ → Disk) → Phase → Type 0
  NextAwaits ks Rest = ⊤
  NextAwaits ks (Going aim m step [] late done) = ⊤
  NextAwaits ks (Going aim m step (d ∷ ds) late done) = Awaits d (ks d) m step

  -- ALL OF IT

  module _ (P : Premises S) where
    pub record Core (ks : ℕ → Disk) (l : Ledger) : Type 0 where
      pub known : KnownAreSound ks l
      pub working : (d : ℕ) → IsTrusted l d → HoldsCurrent ks l d
      pub generations : GenerationsRise l
      pub hand : InHand P.edits.formed ks l

    -- between a call and the change that comes with it
    pub record Between (ks : ℕ → Disk) (l : Ledger) (phase : Phase) : Type 0 where
      pub core : Core ks l
      pub goes : Goes ks l phase

    -- the base fact
    pub record BaseFact (ks : ℕ → Disk) (l : Ledger) (phase : Phase) : Type 0 where
      pub core : Core ks l
      pub goes : Goes ks l phase
      pub next : NextAwaits ks phase

    -- the same of a control state, with the disks behind a log
    abbrev pub Base : List Call → Control → Type 0
    Base log c = BaseFact (disks_by log) (ledger c.round) c.round.phase

    -- a call was made, and the control state is still the one before it
    abbrev pub BaseAfterCall : List Call → Control → Type 0
    BaseAfterCall log c = Between (disks_by log) (ledger c.round) c.round.phase
