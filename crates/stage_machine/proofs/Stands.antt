-- What each target holds of metadata, by the place of the round.
use Rattle.std.proofs.Common.{◌≡◌, ℕ, ◌+◌, ◌≤◌, ◌==◌, ◌&&◌, if◌then◌else◌, Bool, true, false, nat_lt, List, [], ◌∷◌, length, refl, ap, sym, ◌∙◌, subst, arith, ◌⊎◌, inl, inr, Option}
use Rattle.std.specs.Prelude.{⊤}
use Rattle.std.specs.List.{AllByRecursion}
use Rattle.std.proofs.lemmas.Bool.Decides.{nat_tests}
use Rattle.units.specs.declared.disk.Sector.{Sector}
use Rattle.units.specs.declared.bounds.TheConstants.{METADATA_SECTORS}
use Rattle.units.specs.Places.{anchor_place}
use Rattle.device_log.specs.Log.{Call, What, Read, Write, Sync}
use Rattle.device_log.specs.Cells.{Cell, brought}
use Rattle.array_model.specs.Blocks.{Laid, Words, is_container}
use Rattle.array_model.specs.Candidates.{Disk, In, is_among, standing, counted, disk_at}
use Rattle.array_model.specs.Renewal.{FitsGeneration, SaysSame, IsRenewable, IsRenewed}
use Rattle.stage_machine.specs.Setting.{Setting, Renews, has_disk}
use Rattle.stage_machine.specs.Opens.{StandsOnAll}
use Rattle.stage_machine.specs.States.{next_dirty}
use Rattle.stage_machine.specs.Rounds.{Step, AtAnchor, AtSync, Phase, Rest, Going, Round}
use Rattle.stage_machine.specs.Machine.{Control, World, Action, Reached, opens, goes, happens, got_of}
use Rattle.stage_machine.proofs.Turns.{Turns, turns_of, nothing, fails, anchors, settles, ends, begins, readies, actives, cleans, rests, pasts, asks_read, asks_write, puts, syncs, gets, acks}
use Rattle.stage_machine.proofs.Blocks.{in_among, IsAlone, standing_is, IsRow, noted_row, noted_anchor, cell_row, cell_anchor}
use Rattle.device_log.proofs.Cells.{synced_stood}
use Rattle.array_model.proofs.Written.{counted_known}

has_first : (d : ℕ) (ds : List ℕ) → has_disk d (d ∷ ds) ≡ true
has_first d ds = let here : (d == d) ≡ true = grind (arith, nat_tests) in rw here refl

-- GOOD BLOCKS: of one sector, with the members of the newest at opening, and whole on each target

pub record Good (S : Setting) (m : Laid) : Type 0 where
  pub alone : IsAlone S.start.words m
  pub same : SaysSame S.start.words m S.start.newest
  pub whole : (d : ℕ) → has_disk d S.targets ≡ true → S.start.words.is_whole (S.start.disks.serial d) (S.start.disks.sectors d) m ≡ true

abbrev pub GoodPhase : Setting → Phase → Type 0
GoodPhase S Rest = ⊤
GoodPhase S (Going m step left) = Good S m

pub record GoodRound (S : Setting) (r : Round) : Type 0 where
  pub book : Good S r.book
  pub last : Good S r.last
  pub phase : GoodPhase S r.phase
  pub working : r.working ≡ S.targets

pub going_good : (S : Setting) (r : Round) (m : Laid) (step : Step) (left : List ℕ) → GoodRound S r → r.phase ≡ Going m step left → Good S m
going_good S r m step left good is = subst (GoodPhase S) is good.phase

-- a block that says what the newest at opening says is a container's
pub same_container : (S : Setting) → StandsOnAll S → (m : Laid) → SaysSame S.start.words m S.start.newest → is_container S.start.words m ≡ true
same_container S on m same = ap (λ n. if n == 0 then false else true) same.container ∙ on.container

-- it may be renewed, where there is a target
good_renewable : (S : Setting) → StandsOnAll S → (m : Laid) (d : ℕ) → has_disk d S.targets ≡ true → Good S m → IsRenewable S.start.words m
good_renewable S on m d target good = record {
  alone = good.alone.extra;
  short = good.alone.short;
  container = same_container S on m good.same;
  serial = S.start.disks.serial d;
  sectors = S.start.disks.sectors d;
  whole = good.whole d target;
}

good_renewed : (S : Setting) (m n : Laid) (g : ℕ) (y : Bool) → IsRenewed S.start.words m g y n → Good S m → Good S n
good_renewed S m n g y it good = record {
  alone = record { extra = it.alone; short = it.short };
  same = record {
    container = it.same.container ∙ good.same.container;
    expects = λ serial. it.same.expects serial ∙ good.same.expects serial;
    is_supported = λ v. it.same.is_supported v ∙ good.same.is_supported v;
    pass = λ v. it.same.pass v ∙ good.same.pass v;
    slots = λ v. it.same.slots v ∙ good.same.slots v;
  };
  whole = λ d target. it.whole (S.start.disks.serial d) (S.start.disks.sectors d) (good.whole d target);
}

-- the block of a round that begins is the book's, renewed
pub renewed : (S : Setting) → Renews S → StandsOnAll S → (r : Round) (d : ℕ) (ds : List ℕ) (y : Bool) → r.working ≡ d ∷ ds → FitsGeneration (r.note + 1) → GoodRound S r
    → IsRenewed S.start.words r.book (r.note + 1) y (S.renew r.book (r.note + 1) y)
renewed S renews on r d ds y some fits good =
    renews r.book (r.note + 1) y (good_renewable S on r.book d (subst (λ ts. has_disk d ts ≡ true) (sym some ∙ good.working) (has_first d ds)) good.book) fits

good_turns : (S : Setting) → Renews S → StandsOnAll S → (c : Control) (got : Sector) {call : Option Call} {es : _} {next : Control} → Turns S c got call es next → FitsGeneration next.round.note → GoodRound S c.round → GoodRound S next.round
good_turns S renews on c got nothing fits good = good
good_turns S renews on c got (fails d what asked) fits good = good
good_turns S renews on c got (anchors m d ds is) fits good = record { book = good.book; last = good.last; phase = going_good S c.round m AtAnchor (d ∷ ds) good is; working = good.working }
good_turns S renews on c got (settles m d e ds is) fits good = record { book = good.book; last = good.last; phase = going_good S c.round m AtSync (d ∷ e ∷ ds) good is; working = good.working }
good_turns S renews on c got (ends m d is) fits good = let it = going_good S c.round m AtSync (d ∷ []) good is in record { book = it; last = it; phase = tt; working = good.working }
good_turns S renews on c got (begins d ds is some why) fits good =
    let it = renewed S renews on c.round d ds (next_dirty c.state) some fits good in
    record { book = good.book; last = good.last; phase = good_renewed S c.round.book _ (c.round.note + 1) (next_dirty c.state) it good.book; working = good.working }
good_turns S renews on c got (readies is s t) fits good = good
good_turns S renews on c got (actives is s t r) fits good = good
good_turns S renews on c got (cleans is s t) fits good = good
good_turns S renews on c got (rests t calm) fits good = good
good_turns S renews on c got (pasts k i rest has_disk none) fits good = good
good_turns S renews on c got (asks_read k i rest place has_disk is w live) fits good = good
good_turns S renews on c got (asks_write k i rest place has_disk is w live) fits good = good
good_turns S renews on c got (puts k i left step d ds has_disk need) fits good = good
good_turns S renews on c got (syncs k i left step d ds has_disk need) fits good = good
good_turns S renews on c got (gets k i left step d has_disk need) fits good = good
good_turns S renews on c got (acks k i left step answer has_disk need) fits good = good

good_newest : (S : Setting) → StandsOnAll S → Good S S.start.newest
good_newest S on = record {
  alone = record { extra = on.alone; short = on.short };
  same = record { container = refl; expects = λ serial. refl; is_supported = λ v. refl; pass = λ v. refl; slots = λ v. refl };
  whole = on.whole;
}

-- GENERATIONS: none falls, so where a run's highest fits, each earlier one does

note_rises : (S : Setting) (c : Control) (got : Sector) {call : Option Call} {es : _} {next : Control} → Turns S c got call es next → c.round.note ≤ next.round.note
note_rises S c got nothing = omega arith
note_rises S c got (fails d what asked) = omega arith
note_rises S c got (anchors m d ds is) = omega arith
note_rises S c got (settles m d e ds is) = omega arith
note_rises S c got (ends m d is) = omega arith
note_rises S c got (begins d ds is some why) = omega arith
note_rises S c got (readies is s t) = omega arith
note_rises S c got (actives is s t r) = omega arith
note_rises S c got (cleans is s t) = omega arith
note_rises S c got (rests t calm) = omega arith
note_rises S c got (pasts k i rest has_disk none) = omega arith
note_rises S c got (asks_read k i rest place has_disk is w live) = omega arith
note_rises S c got (asks_write k i rest place has_disk is w live) = omega arith
note_rises S c got (puts k i left step d ds has_disk need) = omega arith
note_rises S c got (syncs k i left step d ds has_disk need) = omega arith
note_rises S c got (gets k i left step d has_disk need) = omega arith
note_rises S c got (acks k i left step answer has_disk need) = omega arith

pub fitted : (S : Setting) (w : World) (a : Action) → FitsGeneration (happens S w a).control.round.note → FitsGeneration w.control.round.note
fitted S w a fits = let rises = note_rises S w.control (got_of a) (turns_of S w.control a) in omega (arith, fits, rises)

pub good_reached : (S : Setting) → Renews S → StandsOnAll S → (w : World) → FitsGeneration w.control.round.note → Reached S w → GoodRound S w.control.round
good_reached S renews on w fits opens = let it = good_newest S on in record { book = it; last = it; phase = tt; working = refl }
good_reached S renews on w fits (goes {w = v} r a) =
    good_turns S renews on v.control (got_of a) (turns_of S v.control a) fits (good_reached S renews on v (fitted S v a fits) r)

-- ONE DISK

-- the block is the one candidate, and stands there
pub record Settled (S : Setting) (d : ℕ) (m : Laid) (k : Disk) : Type 0 where
  pub candidates : k.candidates ≡ m ∷ []
  pub stands : (k.cells (anchor_place (S.start.disks.sectors d))).stood ≡ m.anchor
  pub known : In m k.known

abbrev pub Half : Laid → Laid → Laid → Type 0
Half last m x = (x ≡ last) ⊎ (x ≡ m)

pub record StandsAs (S : Setting) (d : ℕ) (m : Laid) (k : Disk) : Type 0 where
  pub stands : (k.cells (anchor_place (S.start.disks.sectors d))).stood ≡ m.anchor
  pub known : In m k.known

-- each candidate is one of the two, and one of them stands there
pub record Mixed (S : Setting) (d : ℕ) (last m : Laid) (k : Disk) : Type 0 where
  pub some : 1 ≤ length k.candidates
  pub each : AllByRecursion (Half last m) k.candidates
  pub stands : StandsAs S d last k ⊎ StandsAs S d m k

-- a call at a row, or a sync
pub data RowCall (S : Setting) (d : ℕ) : What → Type 0 where
  row_write : (place stored : ℕ) (s : Sector) → IsRow (S.start.disks.sectors d) place → RowCall S d (Write place (s ∷ []) stored)
  row_read : (place : ℕ) → RowCall S d (Read place)
  row_sync : RowCall S d Sync

module _ (S : Setting) (d : ℕ) where
  abbrev W : Words
  W = S.start.words

  abbrev n : ℕ
  n = S.start.disks.sectors d

  abbrev pub after : Disk → What → Bool → Disk
  after k what went = disk_at S.start.words (S.start.disks.serial d) (S.start.disks.sectors d) k what went

  pub settled_as : (m : Laid) (k : Disk) → Settled S d m k → StandsAs S d m k
  settled_as m k h = record { stands = h.stands; known = h.known }

  pub mixed_of : (last m : Laid) (k : Disk) → Settled S d m k → Mixed S d last m k
  mixed_of last m k h = record {
    some = let is = ap (λ (xs : List Laid). length xs) h.candidates in omega (arith, is);
    each = subst (AllByRecursion (Half last m)) (sym h.candidates) (inr refl, tt);
    stands = inr (settled_as m k h);
  }

  pub mixed_last : (last m : Laid) (k : Disk) → Settled S d last k → Mixed S d last m k
  mixed_last last m k h = record {
    some = let is = ap (λ (xs : List Laid). length xs) h.candidates in omega (arith, is);
    each = subst (AllByRecursion (Half last m)) (sym h.candidates) (inl refl, tt);
    stands = inl (settled_as last k h);
  }

  -- A SYNC

  sync_known : (k : Disk) (went : Bool) → (after k Sync went).known ≡ k.known
  sync_known k true = let m = standing W n k.cells in counted_known W k m (W.is_whole (S.start.disks.serial d) n m && is_among m k.known)
  sync_known k false = refl

  -- the candidates after a sync: what stands there, or those before
  sync_candidates : (k : Disk) (went : Bool) → ((after k Sync went).candidates ≡ standing W n k.cells ∷ []) ⊎ ((after k Sync went).candidates ≡ k.candidates)
  sync_candidates k false = inr refl
  sync_candidates k true = at (W.is_whole (S.start.disks.serial d) n (standing W n k.cells) && is_among (standing W n k.cells) k.known)
    where
      at : (b : Bool) → ((counted W k (standing W n k.cells) b).candidates ≡ standing W n k.cells ∷ []) ⊎ ((counted W k (standing W n k.cells) b).candidates ≡ k.candidates)
      at true = inl refl
      at false = inr refl

  pub sync_stands : (m : Laid) (k : Disk) (went : Bool) → StandsAs S d m k → StandsAs S d m (after k Sync went)
  sync_stands m k went h = record {
    stands = synced_stood (k.cells (anchor_place n)) went ∙ h.stands;
    known = subst (In m) (sym (sync_known k went)) h.known;
  }

  settled_sync : (m : Laid) (k : Disk) (went : Bool) → IsAlone W m → Settled S d m k → Settled S d m (after k Sync went)
  settled_sync m k went alone h =
      let now = sync_stands m k went (settled_as m k h) in
      record {
        candidates = elim (sync_candidates k went) [
          | inl stood ↦ stood ∙ ap (λ x. x ∷ []) (standing_is W n k.cells m alone h.stands)
          | inr old ↦ old ∙ h.candidates
        ];
        stands = now.stands;
        known = now.known;
      }

  pub mixed_sync : (last m : Laid) (k : Disk) (went : Bool) → IsAlone W last → IsAlone W m → Mixed S d last m k → Mixed S d last m (after k Sync went)
  mixed_sync last m k went lone alone h = record {
    some = elim (sync_candidates k went) [
      | inl stood ↦ let is = ap (λ (xs : List Laid). length xs) stood in omega (arith, is)
      | inr old ↦ let is = ap (λ (xs : List Laid). length xs) old in omega (arith, is, h.some)
    ];
    each = elim (sync_candidates k went) [
      | inl stood ↦ subst (AllByRecursion (Half last m)) (sym stood) (half, tt)
      | inr old ↦ subst (AllByRecursion (Half last m)) (sym old) h.each
    ];
    stands = elim h.stands [
      | inl one ↦ inl (sync_stands last k went one)
      | inr two ↦ inr (sync_stands m k went two)
    ];
  }
    where
      half : Half last m (standing W n k.cells)
      half = elim h.stands [
        | inl one ↦ inl (standing_is W n k.cells last lone one.stands)
        | inr two ↦ inr (standing_is W n k.cells m alone two.stands)
      ]

  -- a sync of what was written makes it the one candidate
  pub synced_settled : (m : Laid) (k : Disk) → IsAlone W m → W.is_whole (S.start.disks.serial d) n m ≡ true → StandsAs S d m k → Settled S d m (after k Sync true)
  synced_settled m k alone whole h =
      let is = standing_is W n k.cells m alone h.stands in
      let counts : (W.is_whole (S.start.disks.serial d) n (standing W n k.cells) && is_among (standing W n k.cells) k.known) ≡ true =
      rw (is, whole) (in_among m k.known h.known) in
      let now = sync_stands m k true h in
      record {
        candidates = ap (λ b. (counted W k (standing W n k.cells) b).candidates) counts ∙ ap (λ x. x ∷ []) is;
        stands = now.stands;
        known = now.known;
      }

  -- A ROW

  row_same : (k : Disk) (place stored : ℕ) (s : Sector) (went : Bool) → IsRow n place
      → ((after k (Write place (s ∷ []) stored) went).candidates ≡ k.candidates)
      × ((after k (Write place (s ∷ []) stored) went).known ≡ k.known)
      × (((after k (Write place (s ∷ []) stored) went).cells (anchor_place n)) ≡ k.cells (anchor_place n))
  row_same k place stored s went le =
      let same = noted_row W (S.start.disks.serial d) n k place stored s went le in
      (ap (λ (x : Disk). x.candidates) same, ap (λ (x : Disk). x.known) same, cell_row n (k.cells (anchor_place n)) place stored s went le)

  pub row_stands : (m : Laid) (k : Disk) (what : What) (went : Bool) → RowCall S d what → StandsAs S d m k → StandsAs S d m (after k what went)
  row_stands m k _ went (row_write place stored s le) h =
      let same = row_same k place stored s went le in
      record { stands = ap (λ (x : Cell). x.stood) same.2 ∙ h.stands; known = subst (In m) (sym same.1) h.known }
  row_stands m k _ went (row_read place) h = record { stands = h.stands; known = h.known }
  row_stands m k _ went row_sync h = sync_stands m k went h

  pub settled_row : (m : Laid) (k : Disk) (what : What) (went : Bool) → IsAlone W m → RowCall S d what → Settled S d m k → Settled S d m (after k what went)
  settled_row m k _ went alone (row_write place stored s le) h =
      let same = row_same k place stored s went le in
      record { candidates = same.0 ∙ h.candidates; stands = ap (λ (x : Cell). x.stood) same.2 ∙ h.stands; known = subst (In m) (sym same.1) h.known }
  settled_row m k _ went alone (row_read place) h = record { candidates = h.candidates; stands = h.stands; known = h.known }
  settled_row m k _ went alone row_sync h = settled_sync m k went alone h

  pub mixed_row : (last m : Laid) (k : Disk) (what : What) (went : Bool) → IsAlone W last → IsAlone W m → RowCall S d what → Mixed S d last m k → Mixed S d last m (after k what went)
  mixed_row last m k _ went lone alone (row_write place stored s le) h =
      let same = row_same k place stored s went le in
      record {
        some = let is = ap (λ (xs : List Laid). length xs) same.0 in omega (arith, is, h.some);
        each = subst (AllByRecursion (Half last m)) (sym same.0) h.each;
        stands = elim h.stands [
          | inl one ↦ inl (row_stands last k _ went (row_write place stored s le) one)
          | inr two ↦ inr (row_stands m k _ went (row_write place stored s le) two)
        ];
      }
  mixed_row last m k _ went lone alone (row_read place) h = record {
    some = h.some;
    each = h.each;
    stands = elim h.stands [
      | inl one ↦ inl (row_stands last k _ went (row_read place) one)
      | inr two ↦ inr (row_stands m k _ went (row_read place) two)
    ];
  }
  mixed_row last m k _ went lone alone row_sync h = mixed_sync last m k went lone alone h

  -- AN ANCHOR

  pub mixed_anchor : (last m : Laid) (k : Disk) (stored : ℕ) (went : Bool) → METADATA_SECTORS ≤ n → IsAlone W m → Mixed S d last m k
      → Mixed S d last m (after k (Write (anchor_place n) (m.anchor ∷ []) stored) went)
  mixed_anchor last m k stored went le alone h =
      let same = noted_anchor W (S.start.disks.serial d) n k m stored went le alone in
      let cands = ap (λ (x : Disk). x.candidates) same in
      let knows = ap (λ (x : Disk). x.known) same in
      let cell = cell_anchor n (k.cells (anchor_place n)) stored m.anchor went in
      record {
        some = let is = ap (λ (xs : List Laid). length xs) cands in omega (arith, is);
        each = subst (AllByRecursion (Half last m)) (sym cands) (inr refl, h.each);
        stands = at (nat_lt 0 stored) refl cell knows;
      }
    where
      at : (b : Bool) → nat_lt 0 stored ≡ b
          → (after k (Write (anchor_place n) (m.anchor ∷ []) stored) went).cells (anchor_place n) ≡ brought (k.cells (anchor_place n)) m.anchor (nat_lt 0 stored)
          → (after k (Write (anchor_place n) (m.anchor ∷ []) stored) went).known ≡ m ∷ k.known
          → StandsAs S d last (after k (Write (anchor_place n) (m.anchor ∷ []) stored) went) ⊎ StandsAs S d m (after k (Write (anchor_place n) (m.anchor ∷ []) stored) went)
      at true is cell knows = inr (record { stands = ap (λ (x : Cell). x.stood) cell ∙ ap (λ b. (brought (k.cells (anchor_place n)) m.anchor b).stood) is; known = subst (In m) (sym knows) (inl refl) })
      at false is cell knows = elim h.stands [
        | inl one ↦ inl (record { stands = ap (λ (x : Cell). x.stood) cell ∙ ap (λ b. (brought (k.cells (anchor_place n)) m.anchor b).stood) is ∙ one.stands; known = subst (In last) (sym knows) (inr one.known) })
        | inr two ↦ inr (record { stands = ap (λ (x : Cell). x.stood) cell ∙ ap (λ b. (brought (k.cells (anchor_place n)) m.anchor b).stood) is ∙ two.stands; known = subst (In m) (sym knows) (inr two.known) })
      ]

  pub anchored : (m : Laid) (k : Disk) → METADATA_SECTORS ≤ n → IsAlone W m → StandsAs S d m (after k (Write (anchor_place n) (m.anchor ∷ []) 1) true)
  anchored m k le alone =
      let same = noted_anchor W (S.start.disks.serial d) n k m 1 true le alone in
      record {
        stands = ap (λ (x : Cell). x.stood) (cell_anchor n (k.cells (anchor_place n)) 1 m.anchor true);
        known = subst (In m) (sym (ap (λ (x : Disk). x.known) same)) (inl refl);
      }
