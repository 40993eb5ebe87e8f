-- Each effect keeps a control state ready: volumes stay started, a slot gets another disk only where the last finished
-- round's block gives it, which has room for the rows, and jobs fit.
use Rattle.std.proofs.Common.{◌≡◌, ℕ, zero, suc, ◌+◌, ◌||◌, ◌&&◌, Bool, true, false, if◌then◌else◌, List, [], ◌∷◌, ◌++◌, refl, ap, sym, ◌∙◌, subst, Option, Some, ◌⊎◌, inl, inr, slice_set}
use Rattle.std.specs.Prelude.{slice_get}
use Rattle.units.specs.declared.disk.Sector.{Sector}
use Rattle.device_log.specs.Log.{Call, What}
use Rattle.array_model.specs.Blocks.{Laid, SlotWords}
use Rattle.array_machine.specs.Setting.{Setting}
use Rattle.array_machine.specs.States.{StateWord, ToReady, ToPending, ToActive, ToActiveAgain, ToIdle, ToClean, state_after}
use Rattle.array_machine.specs.Volumes.{Slot, disk_in, has_disk, Pass, Volume, volume_at}
use Rattle.array_machine.specs.Rounds.{Ended, Round}
use Rattle.array_machine.specs.Control.{Control}
use Rattle.array_machine.specs.Changes.{Change, DiskFails, StateGoes, PassMoves, PassWord, GoesOnQuietly}
use Rattle.array_machine.specs.Faults.{round_without, breaks, volume_without, volumes_without, volume_lost}
use Rattle.array_machine.specs.Puts.{put}
use Rattle.array_machine.specs.RoundEnds.{all_in_sync, seat_of, is_other, seated_if, seated}
use Rattle.array_machine.specs.TakeoverTurns.{has_all}
use Rattle.array_paths.specs.InTurn.{InTurn}
use Rattle.array_paths.specs.PassMove.{slots_of, pass_after, PassMove, opens, seats, reaches, closes, comes_to_its_end, loses}
use Rattle.array_paths.specs.Comes.{Comes, begins, begins_spare, ends, ends_spare, lapses, fails, unblocks, readies, pends, activates, again, idles, cleans, client, pass, manages, kills, takes_over, resumes, dies}
use Rattle.array_paths.specs.AtRows.{AtRows, by_client, by_pass, by_monitor, after_read}
use Rattle.array_paths.specs.Effects.{Effect, quiet, row, row_fails, steps, step_fails}
use Rattle.array_paths.specs.Ready.{HasRoomFor, Ready}
use Rattle.array_paths.proofs.JobsFit.{jobs_fit}
use Rattle.array_base.specs.Premises.{MayBeBook, Premises}
use Rattle.array_base.proofs.Seats.{seat_room}

-- VOLUMES IN A LIST

-- one of them is set, and the others stay
pub volume_set : (xs : List Volume) (v : ℕ) (x : Volume) (w : ℕ)
    → ((v ≡ w) × (volume_at (slice_set xs v x) w ≡ x)) ⊎ (volume_at (slice_set xs v x) w ≡ volume_at xs w)
volume_set [] v x w = inr refl
volume_set (y ∷ ys) zero x zero = inl (refl, refl)
volume_set (y ∷ ys) zero x (suc w) = inr refl
volume_set (y ∷ ys) (suc v) x zero = inr refl
volume_set (y ∷ ys) (suc v) x (suc w) = elim (volume_set ys v x w) [
  | inl here ↦ inl (ap suc here.0, here.1)
  | inr other ↦ inr other
]

module _ (S : Setting) where
  -- SEATS

  -- some slot of these words gives the disk
  pub record IsSeat (ws : List SlotWords) (d : ℕ) : Type 0 where
    pub slot : ℕ
    pub words : SlotWords
    pub is : slice_get ws slot ≡ Some words
    pub seat : seat_of S words ≡ Some d

  -- a slot of the one list has the disk that it has in the other, or one that a block gives it
  abbrev pub KeepOrSeat : List SlotWords → (old new : List Slot) → Type 0
  KeepOrSeat ws old new = (s d : ℕ) → disk_in new s ≡ Some d → (disk_in old s ≡ Some d) ⊎ IsSeat ws d

  seated_keeps : (ws : List SlotWords) (xs : List Slot) → KeepOrSeat ws xs (seated S ws xs)
  seated_keeps [] xs s d h = inl h
  seated_keeps (w ∷ ws) [] s d h = absurd cc
  seated_keeps (w ∷ ws) (x ∷ xs) zero d h = at (is_other (seat_of S w) x.disk) h
    where
      at : (b : Bool) → (seated_if b (seat_of S w) x).disk ≡ Some d → (x.disk ≡ Some d) ⊎ IsSeat (w ∷ ws) d
      at true h = inr (record { slot = 0; words = w; is = refl; seat = h })
      at false h = inl h
  seated_keeps (w ∷ ws) (x ∷ xs) (suc s) d h = elim (seated_keeps ws xs s d h) [
    | inl old ↦ inl old
    | inr new ↦ inr (record { slot = suc new.slot; words = new.words; is = new.is; seat = new.seat })
  ]

  -- slots that come in sync keep their disks
  synced_keeps : (faults : List ℕ) (xs : List Slot) (s : ℕ) → disk_in (all_in_sync faults xs) s ≡ disk_in xs s
  synced_keeps faults [] s = refl
  synced_keeps faults (x ∷ xs) zero = refl
  synced_keeps faults (x ∷ xs) (suc s) = synced_keeps faults xs s

  -- A VOLUME BEHIND A CHANGE

  -- it is started as before, it broke or didn't, and each slot keeps its disk or gets one that the block gives
  pub record GoesTo (last : Laid) (v : ℕ) (x y : Volume) : Type 0 where
    pub started : y.started ≡ x.started
    pub sound : y.broken ≡ false → x.broken ≡ false
    pub slots : (x.started ≡ true) × KeepOrSeat (S.start.words.slots last v) x.slots y.slots
        ⊎ ((s : ℕ) → disk_in y.slots s ≡ disk_in x.slots s)

  stays : (last : Laid) (v : ℕ) (x : Volume) → GoesTo last v x x
  stays last v x = record { started = refl; sound = λ h. h; slots = inr (λ s. refl) }

  abbrev AllGo : Control → Control → Type 0
  AllGo c new = (v : ℕ) → GoesTo c.round.last v (volume_at c.volumes v) (volume_at new.volumes v)

  -- one volume goes, the others stay
  one_goes : (c : Control) (v : ℕ) (x : Volume) → GoesTo c.round.last v (volume_at c.volumes v) x → (w : ℕ)
      → GoesTo c.round.last w (volume_at c.volumes w) (volume_at (slice_set c.volumes v x) w)
  one_goes c v x goes w = elim (volume_set c.volumes v x w) [
    | inl here ↦
        subst (GoesTo c.round.last w (volume_at c.volumes w)) (sym here.1)
        (subst (λ u. GoesTo c.round.last u (volume_at c.volumes u) x) here.0 goes)
    | inr other ↦
        subst (GoesTo c.round.last w (volume_at c.volumes w)) (sym other) (stays c.round.last w (volume_at c.volumes w))
  ]

  state_goes : (c : Control) (v : ℕ) (word : StateWord) → AllGo c (put S (StateGoes v word) c)
  state_goes c v word =
      one_goes c v (record (volume_at c.volumes v) { state = state_after word })
      (record { started = refl; sound = λ h. h; slots = inr (λ s. refl) })

  pass_goes : (c : Control) (v : ℕ) (slots : List Slot) (new : Option Pass) (word : PassWord)
      → GoesTo c.round.last v (volume_at c.volumes v) (record (volume_at c.volumes v) { slots = slots; pass = new })
      → AllGo c (put S (PassMoves v slots new word) c)
  pass_goes c v slots new word goes = one_goes c v (record (volume_at c.volumes v) { slots = slots; pass = new }) goes

  same_slots : (c : Control) (v : ℕ) (new : Option Pass)
      → GoesTo c.round.last v (volume_at c.volumes v)
      (record (volume_at c.volumes v) { slots = slots_of c v; pass = new })
  same_slots c v new = record { started = refl; sound = λ h. h; slots = inr (λ s. refl) }

  pass_moves : (t : InTurn) (c : Control) (v : ℕ) (slots : List Slot) (new : Option Pass) (word : PassWord)
      → PassMove S t c v slots new word
      → GoesTo c.round.last v (volume_at c.volumes v) (record (volume_at c.volumes v) { slots = slots; pass = new })
  pass_moves t c v _ _ _ (opens kind started was is has) = same_slots c v _
  pass_moves t c v _ _ _ (seats now started other) = record {
    started = refl;
    sound = λ h. h;
    slots = inl (started, seated_keeps (S.start.words.slots c.round.last v) (slots_of c v));
  }
  pass_moves t c v _ _ _ (reaches was is now started before after above) = same_slots c v _
  pass_moves t c v _ _ _ (closes was now started before after) = record {
    started = refl;
    sound = λ h. h;
    slots = inr (synced_keeps c.round.faults (slots_of c v));
  }
  pass_moves t c v _ _ _ (comes_to_its_end p goes over) = same_slots c v _
  pass_moves t c v _ _ _ (loses d p need what stored call is) = same_slots c v _

  -- A DISK FAILS

  volume_fails : (last : Laid) (w d : ℕ) (r : Round) (v : ℕ) (x : Volume) → GoesTo last w x (volume_without S d r v x)
  volume_fails last w d r v x = at (x.started && has_disk d x.slots)
    where
      not_broken : (a b : Bool) → (a || b) ≡ false → a ≡ false
      not_broken true b h = absurd cc
      not_broken false b h = refl

      at : (b : Bool) → GoesTo last w x (if b then volume_lost S d v (x.broken || breaks S r v x.slots) x else x)
      at true = record {
        started = refl;
        sound = not_broken x.broken (breaks S r v x.slots);
        slots = inr (λ s. refl);
      }
      at false = stays last w x

  volumes_fail : (last : Laid) (d : ℕ) (r : Round) (v : ℕ) (xs : List Volume) (u w : ℕ)
      → GoesTo last u (volume_at xs w) (volume_at (volumes_without S d r v xs) w)
  volumes_fail last d r v [] u w = stays last u (volume_at [] w)
  volumes_fail last d r v (x ∷ xs) u zero = volume_fails last u d r v x
  volumes_fail last d r v (x ∷ xs) u (suc w) = volumes_fail last d r (v + 1) xs u w

  disk_fails : (c : Control) (d : ℕ) → AllGo c (put S (DiskFails d) c)
  disk_fails c d v = volumes_fail c.round.last d (round_without S d c.round) 0 c.volumes v v

  -- ANY CHANGE

  none_go : (c : Control) (v : ℕ) → GoesTo c.round.last v (volume_at c.volumes v) (volume_at c.volumes v)
  none_go c v = stays c.round.last v (volume_at c.volumes v)

  comes_goes : (t : InTurn) (c : Control) (a : Change) → Comes S t c a → AllGo c (put S a c)
  comes_goes t c _ (fails d who may) = disk_fails c d
  comes_goes t c _ (readies v started state rest ended) = state_goes c v ToReady
  comes_goes t c _ (pends v sound state submitted) = state_goes c v ToPending
  comes_goes t c _ (activates v runs state rest ended dirty) = state_goes c v ToActive
  comes_goes t c _ (again v sound state submitted) = state_goes c v ToActiveAgain
  comes_goes t c _ (idles v who runs state none) = state_goes c v ToIdle
  comes_goes t c _ (cleans v runs state rest) = state_goes c v ToClean
  comes_goes t c _ (pass v slots new word move) =
      pass_goes c v slots new word (pass_moves t c v slots new word move)
  comes_goes t c _ (begins m life rest target next) = none_go c
  comes_goes t c _ (begins_spare d m life rest target may is unlisted room) = none_go c
  comes_goes t c _ (ends m step is) = none_go c
  comes_goes t c _ (ends_spare d m step is) = none_go c
  comes_goes t c _ (lapses aim m step late is) = none_go c
  comes_goes t c _ (unblocks d rest blocked ended unexpected) = none_go c
  comes_goes t c _ (client k new word move) = none_go c
  comes_goes t c _ (manages new word move) = none_go c
  comes_goes t c _ (kills who awake) = none_go c
  comes_goes t c _ (takes_over who life) = none_go c
  comes_goes t c _ (resumes d taking young) = none_go c
  comes_goes t c _ (dies taking) = none_go c

  read_goes : (c : Control) (d : ℕ) (left : List ℕ) (seen : List Sector) (found : List ℕ) (b : Bool)
      → AllGo c (put S (after_read S c d left seen found b) c)
  read_goes c d left seen found true = none_go c
  read_goes c d left seen found false = none_go c

  rows_go : (c : Control) (d : ℕ) (what : What) (x : Ended) (a : Change) → AtRows S c d what x a → AllGo c (put S a c)
  rows_go c d _ x _ (by_client k i r need _ _ call) = none_go c
  rows_go c d _ x _ (by_pass v p need _ _ call) =
      let new = Some (pass_after S c v p need x) in
      pass_goes c v (slots_of c v) new GoesOnQuietly (same_slots c v new)
  rows_go c d _ x _ (by_monitor left seen found _ life) =
      read_goes c d left (seen ++ x.got ∷ []) found (has_all S (seen ++ x.got ∷ []))

  pub volumes_go : (t : InTurn) (c : Control) {call : Option Call} {x : Ended} {a : Change} → Effect S t c call x a
      → AllGo c (put S a c)
  volumes_go t c (quiet x a comes) = comes_goes t c a comes
  volumes_go t c (row d what x a may calls went at) = rows_go c d what x a at
  volumes_go t c (row_fails d what x may calls failed lost) = disk_fails c d
  volumes_go t c (steps d m step x target went) = none_go c
  volumes_go t c (step_fails d m step x target failed) = disk_fails c d

  -- READY

  pub effect_ready : (P : Premises S) (t : InTurn) (c : Control) (call : Option Call) (x : Ended) (a : Change)
      → Effect S t c call x a → MayBeBook S P.edits.formed c.round.last → Ready S c → Ready S (put S a c)
  effect_ready P t c call x a effect last ready = record {
    started = λ v is. ready.started v (sym (goes v).started ∙ is);
    room = λ v s d sound is. room v s d ((goes v).sound sound) is (goes v).slots;
    jobs = jobs_fit S c ready.jobs t call x a effect;
  }
    where
      goes : AllGo c (put S a c)
      goes = volumes_go t c effect

      room : (v s d : ℕ) → (volume_at c.volumes v).broken ≡ false
          → disk_in (volume_at (put S a c).volumes v).slots s ≡ Some d
          → ((volume_at c.volumes v).started ≡ true)
          × KeepOrSeat (S.start.words.slots c.round.last v) (volume_at c.volumes v).slots
          (volume_at (put S a c).volumes v).slots
          ⊎ ((s : ℕ) → disk_in (volume_at (put S a c).volumes v).slots s ≡ disk_in (volume_at c.volumes v).slots s)
          → HasRoomFor S v d
      room v s d sound is (inr same) = ready.room v s d sound (sym (same s) ∙ is)
      room v s d sound is (inl new) = elim (new.1 s d is) [
        | inl old ↦ ready.room v s d sound old
        | inr seat ↦
            seat_room S P c.round.last v seat.slot seat.words d last (ready.started v new.0) seat.is seat.seat
      ]
