-- A turn of the monitor while it lives is a path: the next step of what goes on, or the first rule that holds.
use Rattle.std.proofs.Common.{◌≡◌, ◌∙◌, ℕ, zero, suc, ◌+◌, ◌*◌, ◌<◌, ◌&&◌, not, Bool, true, false, List, [], ◌∷◌, length, refl, ap, subst, arith, Option, Some, None}
use Rattle.std.specs.List.{AllByRecursion}
use Rattle.std.proofs.lemmas.Bool.{and_parts}
use Rattle.std.proofs.lemmas.List.{get_or-set_same}
use Rattle.units.specs.declared.bounds.TheConstants.{UNIT_ROWS}
use Rattle.array_model.specs.Blocks.{Laid}
use Rattle.array_model.specs.Renewal.{FitsGeneration}
use Rattle.array_disks.specs.Calls.{call_on}
use Rattle.array_machine.specs.Numbers.{has, first_of}
use Rattle.array_machine.specs.Setting.{Setting}
use Rattle.array_machine.specs.States.{is_readonly, is_pending, is_idle, IsReadonly, IsReadAuto, ToReady, ToActive, ToClean}
use Rattle.array_machine.specs.Volumes.{Pass, Volume, no_volume, volume_at}
use Rattle.array_machine.specs.Rounds.{Ended, Step, Aim, Phase, Rest, Going, Lives, expects, has_target, what_of}
use Rattle.array_machine.specs.Changes.{OpensAt, StepsOn, StateGoes}
use Rattle.array_machine.specs.Puts.{put}
use Rattle.array_machine.specs.Turns.{no_call, calling}
use Rattle.array_machine.specs.EditFacts.{is_sound}
use Rattle.array_machine.specs.RoundEnds.{pass_from, and_ended, called}
use Rattle.array_machine.specs.MonitorTurns.{volumes_where, is_unready, may_activate, may_clean, is_recorded, unblockable, is_due, choose, opens_pass, do_deed, ReadiesVolume, UnblocksDisk, next_block, rest_changes, monitor_at}
use Rattle.array_paths.specs.InTurn.{InTurn, state_of}
use Rattle.array_paths.specs.PassMove.{slots_of, PassMove, opens}
use Rattle.array_paths.specs.Comes.{MayFail, begins, unblocks, readies, activates, cleans, pass}
use Rattle.array_paths.specs.Effects.{AtTarget, quiet, steps, step_fails, Path, ends_here, goes_on}
use Rattle.array_paths.specs.Ready.{Ready}
use Rattle.array_paths.proofs.Tests.{PathOf, is_false, readonly_is, pending_is, idle_is, sound_runs, call_path}
use Rattle.array_paths.proofs.RoundPaths.{lone, and_ended_path, follows_step, fault_path}
use Rattle.array_paths.proofs.EditPaths.{all_where, is_next}
use Rattle.array_paths.proofs.UpdatePaths.{update_path}

-- WHICH VOLUME, AND WHICH DISK

first_all : (P : ℕ → Type 0) (xs : List ℕ) (d : ℕ) → AllByRecursion P xs → first_of xs ≡ Some d → P d
first_all P [] d h is = absurd cc
first_all P (x ∷ xs) d h is = let same : x ≡ d = cc is in subst P same h.0

-- the first volume that passes a test is there, and passes it
pub first_volume : (test : ℕ → Volume → Bool) (volumes : List Volume) (v : ℕ)
    → first_of (volumes_where test volumes) ≡ Some v → test v (volume_at volumes v) ≡ true
first_volume test volumes v is =
    first_all (λ w. test w (volume_at volumes w) ≡ true) (volumes_where test volumes) v
    (all_where (λ w. test w (volume_at volumes w) ≡ true) (λ w. test w (volume_at volumes w)) 0 (length volumes)
    (λ w h lt. h))
    is

-- a volume that was started is one of the list
started_there : (volumes : List Volume) (v : ℕ) → (volume_at volumes v).started ≡ true → v < length volumes
started_there [] v h = absurd (cc h)
started_there (x ∷ xs) zero h = omega arith
started_there (x ∷ xs) (suc v) h = let more : v < length xs = started_there xs v h in omega (arith, more)

module _ (S : Setting) (t : InTurn) (x : Ended) (ready : Ready S t.before)
    (fits : FitsGeneration (t.before.round.note + 1)) (alive : t.before.round.life ≡ Lives) where
  -- RULES

  module _ (rests : t.before.round.phase ≡ Rest) where
    ready_path : (v : ℕ) → is_unready t.before.round v (volume_at t.before.volumes v) ≡ true
        → Path S t t.before None x (do_deed S t.before (ReadiesVolume v))
    ready_path v h =
        let y = volume_at t.before.volumes v in
        let front = and_parts (y.started && is_readonly y.state) t.before.round.ended h in
        let both = and_parts y.started (is_readonly y.state) front.0 in
        let shut = readonly_is y.state both.1 in
        goes_on (quiet x _ (readies v both.0 shut rests front.1))
        (opened (S.start.words.pass t.before.round.book v) refl both.0 shut)
      where
        opened : (kind : Option ℕ) → S.start.words.pass t.before.round.book v ≡ kind
            → (volume_at t.before.volumes v).started ≡ true → state_of t.before v ≡ IsReadonly
            → Path S t (put S (StateGoes v ToReady) t.before) None x (opens_pass S t.before v kind)
        opened None is started shut = ends_here x
        opened (Some kind) is started shut =
            let next = put S (StateGoes v ToReady) t.before in
            let y = volume_at t.before.volumes v in
            let there = started_there t.before.volumes v started in
            let now : volume_at next.volumes v ≡ record y { state = IsReadAuto } =
            get_or-set_same t.before.volumes v (record y { state = IsReadAuto }) no_volume there in
            let unit = S.start.words.unit t.before.round.book v in
            let new : Option Pass = Some (pass_from unit) in
            let move : PassMove S t next v (slots_of next v) new (OpensAt (unit * UNIT_ROWS)) =
            opens kind (ap (λ (z : Volume). z.started) now ∙ started) shut (ap (λ (z : Volume). z.state) now) is in
            lone S t next x _
            (pass v y.slots new (OpensAt (unit * UNIT_ROWS))
            (subst (λ slots. PassMove S t next v slots new (OpensAt (unit * UNIT_ROWS)))
            (ap (λ (z : Volume). z.slots) now) move))

    active_path : (v : ℕ) → may_activate S t.before.round v (volume_at t.before.volumes v) ≡ true
        → Path S t t.before None x (StateGoes v ToActive ∷ [])
    active_path v h =
        let y = volume_at t.before.volumes v in
        let dirty = and_parts (is_sound y && is_pending y.state && t.before.round.ended) _ h in
        let ended = and_parts (is_sound y && is_pending y.state) t.before.round.ended dirty.0 in
        let both = and_parts (is_sound y) (is_pending y.state) ended.0 in
        lone S t t.before x _
        (activates v (sound_runs t.before v both.0) (pending_is y.state both.1) rests ended.1 dirty.1)

    clean_path : (v : ℕ) → may_clean v (volume_at t.before.volumes v) ≡ true
        → Path S t t.before None x (StateGoes v ToClean ∷ [])
    clean_path v h =
        let y = volume_at t.before.volumes v in
        let both = and_parts (is_sound y) (is_idle y.state) h in
        lone S t t.before x _ (cleans v (sound_runs t.before v both.0) (idle_is y.state both.1) rests)

    abbrev may_unblock : ℕ → Bool
    may_unblock d = has d t.before.round.blocked && is_recorded S t.before.round d

    unblock_path : (d : ℕ) → first_of (unblockable S t.before.round) ≡ Some d
        → Path S t t.before None x (do_deed S t.before (UnblocksDisk d))
    unblock_path d is =
        let h = first_all (λ e. may_unblock e ≡ true) (unblockable S t.before.round) d
        (all_where (λ e. may_unblock e ≡ true) may_unblock 0 S.start.disks.count (λ e yes lt. yes)) is in
        let both = and_parts (has d t.before.round.blocked) (is_recorded S t.before.round d) h in
        let known = and_parts t.before.round.ended (not (expects S t.before.round.last d)) both.1 in
        lone S t t.before x _ (unblocks d rests both.0 known.0 (is_false _ known.1))

    deed_path : (unready active unblock clean : Option ℕ) (target due : Bool)
        → first_of (volumes_where (is_unready t.before.round) t.before.volumes) ≡ unready
        → first_of (volumes_where (may_activate S t.before.round) t.before.volumes) ≡ active
        → first_of (unblockable S t.before.round) ≡ unblock
        → first_of (volumes_where may_clean t.before.volumes) ≡ clean → has_target S t.before.round ≡ target
        → is_due S t.before ≡ due
        → Path S t t.before None x (rest_changes S t.before (choose unready active unblock clean target due))
    deed_path (Some v) a u k target due ris ais uis kis tis dis =
        ready_path v (first_volume (is_unready t.before.round) t.before.volumes v ris)
    deed_path None (Some v) u k target due ris ais uis kis tis dis =
        active_path v (first_volume (may_activate S t.before.round) t.before.volumes v ais)
    deed_path None None (Some d) k target due ris ais uis kis tis dis = unblock_path d uis
    deed_path None None None (Some v) target due ris ais uis kis tis dis =
        clean_path v (first_volume may_clean t.before.volumes v kis)
    deed_path None None None None false due ris ais uis kis tis dis =
        update_path S t x fits alive rests _ refl (λ is. absurd (cc (tis, is))) t.before.manager.queue refl
    deed_path None None None None true false ris ais uis kis tis dis =
        update_path S t x fits alive rests _ refl (λ is. dis) t.before.manager.queue refl
    deed_path None None None None true true ris ais uis kis tis dis =
        lone S t t.before x _ (begins (next_block S t.before) alive rests tis (is_next S t.before ready t fits dis))

  -- STEPS

  module _ (aim : Aim) (m : Laid) (step : Step) (d : ℕ) (left late : List ℕ) (done : Bool)
      (is : t.before.round.phase ≡ Going aim m step (d ∷ left) late done) (may : MayFail S t.before d) where
    at_target : AtTarget S t.before d m step
    at_target = record { may = may; aim = aim; left = left; late = late; done = done; is = is }

    step_path : (went : Bool) → x.went ≡ went
        → Path S t t.before (Some (call_on d (what_of S x m step d) went)) x
        (called S t.before went d (and_ended S t.before StepsOn))
    step_path true went = and_ended_path S t t.before _ x StepsOn (steps d m step x at_target went) (follows_step S t)
    step_path false went = fault_path S t _ x d (step_fails d m step x at_target went)

-- the monitor's turn while it lives
pub monitor_path : (S : Setting) (t : InTurn) → Ready S t.before → FitsGeneration (t.before.round.note + 1)
    → t.before.round.life ≡ Lives → (x : Ended) (phase : Phase) → t.before.round.phase ≡ phase
    → PathOf S t t.before (monitor_at S t.before x phase)
monitor_path S t ready fits alive x Rest is =
    deed_path S t no_call ready fits alive is _ _ _ _ _ _ refl refl refl refl refl refl
monitor_path S t ready fits alive x (Going aim m step [] late done) is = ends_here no_call
monitor_path S t ready fits alive x (Going aim m step (d ∷ left) late done) is =
    call_path S t t.before d
    (calling d (what_of S x m step d) x (called S t.before x.went d (and_ended S t.before StepsOn)))
    (λ may. step_path S t x ready fits alive aim m step d left late done is may x.went refl)
