-- An operation that goes on and isn't a write is of a volume that takes operations: each effect keeps that.
use Rattle.std.proofs.Common.{◌≡◌, ℕ, ◌&&◌, not, Bool, true, false, List, refl, ap, sym, ◌∙◌, subst, Option, inl, inr}
use Rattle.units.specs.declared.disk.Sector.{Sector}
use Rattle.device_log.specs.Log.{Call, What}
use Rattle.array_machine.specs.Setting.{Setting}
use Rattle.array_machine.specs.States.{State, is_readonly, StateWord, ToReady, ToPending, ToActive, ToActiveAgain, ToIdle, ToClean, state_after}
use Rattle.array_machine.specs.Volumes.{Volume, volume_at}
use Rattle.array_machine.specs.Operations.{volume_of, is_write}
use Rattle.array_machine.specs.Clients.{Row, Busy, Client}
use Rattle.array_machine.specs.RowJobs.{Need}
use Rattle.array_machine.specs.Rounds.{Ended}
use Rattle.array_machine.specs.ClientTurns.{is_shut}
use Rattle.array_machine.specs.Faults.{round_without}
use Rattle.array_machine.specs.Control.{Control}
use Rattle.array_machine.specs.Changes.{Change, StepsOn, RoundBegins, SpareBegins, RoundEnds, SpareEnds, RoundLapses, DiskFails, DiskUnblocks, StateGoes, ClientMoves, PassMoves, ManagerMoves, MonitorKilled, TakeoverStarts, TakeoverReads, MonitorResumes, MonitorDies, ClientWord, IsSilent}
use Rattle.array_machine.specs.Puts.{put}
use Rattle.array_paths.specs.InTurn.{InTurn, job_of}
use Rattle.array_paths.specs.ClientMove.{ClientMove, ClientCall, reads, writes, syncs, submits, takes, is_past, starts, loses, answers, fails, is_whole, has_no_spare}
use Rattle.array_paths.specs.Comes.{Comes, client}
use Rattle.array_paths.specs.AtRows.{by_client, by_pass, by_monitor, after_read}
use Rattle.array_paths.specs.Effects.{Effect, quiet, row, row_fails, steps, step_fails}
use Rattle.array_paths.proofs.JobsFit.{set_cases, same_op}
use Rattle.array_paths.proofs.ClientPaths.{job_kept}
use Rattle.array_base.proofs.Slots.{volumes_go}
use Rattle.array_told.proofs.Tells.{state_without, set_at}
use Rattle.array_answers.specs.Whole.{JobsAreOpen}

-- what a volume takes it takes on, where it isn't made read-only and doesn't mend
shut_less : (state : State) (was now : Bool) → (now ≡ false → was ≡ false) → (is_readonly state && not was) ≡ false
    → (is_readonly state && not now) ≡ false
shut_less state was true less open_then = at (is_readonly state)
  where
    at : (b : Bool) → (b && false) ≡ false
    at true = refl
    at false = refl
shut_less state was false less open_then =
    let sound = less refl in subst (λ b. (is_readonly state && not b) ≡ false) sound open_then

word_opens : (word : StateWord) → is_readonly (state_after word) ≡ false
word_opens ToReady = refl
word_opens ToPending = refl
word_opens ToActive = refl
word_opens ToActiveAgain = refl
word_opens ToIdle = refl
word_opens ToClean = refl

module _ (S : Setting) (t : InTurn) (c : Control) where
  abbrev IsOpen : Control → ℕ → Type 0
  IsOpen b v = is_shut (volume_at b.volumes v) ≡ false

  -- VOLUMES

  open_fault : {call : Option Call} {x : Ended} (d v : ℕ) → Effect S t c call x (DiskFails d) → IsOpen c v
      → IsOpen (put S (DiskFails d) c) v
  open_fault d v effect open_now =
      let y = volume_at (put S (DiskFails d) c).volumes v in
      let same = state_without S d (round_without S d c.round) 0 c.volumes v in
      let goes = volumes_go S t c effect v in
      subst (λ state. (is_readonly state && not y.broken) ≡ false) (sym same)
      (shut_less (volume_at c.volumes v).state (volume_at c.volumes v).broken y.broken goes.sound open_now)

  open_state : (w : ℕ) (word : StateWord) (v : ℕ) → IsOpen c v → IsOpen (put S (StateGoes w word) c) v
  open_state w word v open_now =
      elim (set_at c.volumes w (record (volume_at c.volumes w) { state = state_after word }) v) [
        | inl here ↦
            let state = word_opens word in
            subst (λ (x : Volume). is_shut x ≡ false) (sym here.1) (rw state refl)
        | inr other ↦ subst (λ (x : Volume). is_shut x ≡ false) (sym other) open_now
      ]

  open_volume : {call : Option Call} {x : Ended} (a : Change) → Effect S t c call x a → (v : ℕ) → IsOpen c v
      → IsOpen (put S a c) v
  open_volume (DiskFails d) effect v open_now = open_fault d v effect open_now
  open_volume (StateGoes w word) effect v open_now = open_state w word v open_now
  open_volume (PassMoves w slots new word) effect v open_now =
      elim (set_at c.volumes w (record (volume_at c.volumes w) { slots = slots; pass = new }) v) [
        | inl here ↦
            subst (λ (x : Volume). is_shut x ≡ false) (sym here.1)
            (subst (λ u. is_shut (volume_at c.volumes u) ≡ false) (sym here.0) open_now)
        | inr other ↦ subst (λ (x : Volume). is_shut x ≡ false) (sym other) open_now
      ]
  open_volume StepsOn effect v open_now = open_now
  open_volume (RoundBegins m) effect v open_now = open_now
  open_volume (SpareBegins d m) effect v open_now = open_now
  open_volume (RoundEnds m) effect v open_now = open_now
  open_volume (SpareEnds d) effect v open_now = open_now
  open_volume RoundLapses effect v open_now = open_now
  open_volume (DiskUnblocks d) effect v open_now = open_now
  open_volume (ClientMoves k new word) effect v open_now = open_now
  open_volume (ManagerMoves new word) effect v open_now = open_now
  open_volume MonitorKilled effect v open_now = open_now
  open_volume (TakeoverStarts left) effect v open_now = open_now
  open_volume (TakeoverReads left seen found) effect v open_now = open_now
  open_volume (MonitorResumes d) effect v open_now = open_now
  open_volume MonitorDies effect v open_now = open_now

  -- JOBS

  module _ (fine : JobsAreOpen S c) where
    -- by the volumes before
    abbrev JobsWereOpen : Change → Type 0
    JobsWereOpen a =
        (k i : ℕ) (r : Row) → job_of (put S a c) k ≡ Busy i r → is_write S i ≡ false → IsOpen c (volume_of S i)

    moved_open : (k : ℕ) (new : Client) (word : ClientWord) → ClientMove S c k new word → (i : ℕ) (r : Row)
        → new.job ≡ Busy i r → is_write S i ≡ false → IsOpen c (volume_of S i)
    moved_open k _ _ (submits j rest left free) i r is reading = absurd (cc is)
    moved_open k _ _ (takes j rest left free no_write fits ready_now) i r is reading =
        let same : j ≡ i = cc is in subst (λ n. IsOpen c (volume_of S n)) same ready_now
    moved_open k _ _ (is_past j left left_is job nowhere names) i r is reading = absurd (cc is)
    moved_open k _ _ (starts j left left_is job writing fits leave) i r is reading =
        let same : j ≡ i = cc is in
        absurd (let bad = subst (λ n. is_write S n ≡ true) same writing in cc (bad, reading))
    moved_open k _ _ (loses j old new left left_is job lost) i r is reading =
        let same : j ≡ i = cc is in
        fine k i old (subst (λ n. job_of c k ≡ Busy n old) same job) reading
    moved_open k _ _ (answers j old answer left left_is needs) i r is reading = absurd (cc is)
    moved_open k _ _ (fails j old left left_is job broken) i r is reading = absurd (cc is)
    moved_open k _ _ (is_whole j old left left_is job kind sound whole) i r is reading = absurd (cc is)
    moved_open k _ _ (has_no_spare j old left left_is job kind sound whole lacks) i r is reading = absurd (cc is)

    set_open : (k : ℕ) (new : Client) (word : ClientWord)
        → ((i : ℕ) (r : Row) → new.job ≡ Busy i r → is_write S i ≡ false → IsOpen c (volume_of S i))
        → JobsWereOpen (ClientMoves k new word)
    set_open k new word good j i r is reading = elim (set_cases c.clients k j new) [
      | inl now ↦ good i r (sym (ap (λ (x : Client). x.job) now) ∙ is) reading
      | inr old ↦ fine j i r (sym (ap (λ (x : Client). x.job) old) ∙ is) reading
    ]

    failed_open : (d : ℕ) → JobsWereOpen (DiskFails d)
    failed_open d j i r is reading =
        let old = same_op S d c.volumes (job_of c j) i r (sym (job_kept S d c.volumes c.clients j) ∙ is) in
        fine j i old.0 old.1 reading

    comes_open : (a : Change) → Comes S t c a → JobsWereOpen a
    comes_open StepsOn comes = fine
    comes_open (RoundBegins m) comes = fine
    comes_open (SpareBegins d m) comes = fine
    comes_open (RoundEnds m) comes = fine
    comes_open (SpareEnds d) comes = fine
    comes_open RoundLapses comes = fine
    comes_open (DiskFails d) comes = failed_open d
    comes_open (DiskUnblocks d) comes = fine
    comes_open (StateGoes v word) comes = fine
    comes_open (ClientMoves k new word) (client _ _ _ move) = set_open k new word (moved_open k new word move)
    comes_open (PassMoves v slots pass word) comes = fine
    comes_open (ManagerMoves manager word) comes = fine
    comes_open MonitorKilled comes = fine
    comes_open (TakeoverStarts left) comes = fine
    comes_open (TakeoverReads left seen found) comes = fine
    comes_open (MonitorResumes d) comes = fine
    comes_open MonitorDies comes = fine

    has_job : (k d i : ℕ) (r : Row) (need : Need) (what : What) (stored : ℕ) → ClientCall S c k d i r need what stored
        → job_of c k ≡ Busy i r
    has_job k d i r need what stored (reads _ _ s _ needs on) = needs.has
    has_job k d i r need what stored (writes _ _ s _ needs on) = needs.has
    has_job k d i r need what stored (syncs _ _ s _ needs on) = needs.has

    read_open : (d : ℕ) (left : List ℕ) (seen : List Sector) (found : List ℕ) (all : Bool)
        → JobsWereOpen (after_read S c d left seen found all)
    read_open d left seen found true = fine
    read_open d left seen found false = fine

    were_open : {call : Option Call} {x : Ended} {a : Change} → Effect S t c call x a → JobsWereOpen a
    were_open (quiet x a comes) = comes_open a comes
    were_open (row d what _ _ may calls went (by_client k i r need _ _ call)) =
        set_open k _ IsSilent (λ j q is reading.
        let same : i ≡ j = cc is in
        fine k j r (subst (λ n. job_of c k ≡ Busy n r) same (has_job k d i r need what 1 call)) reading)
    were_open (row d what _ _ may calls went (by_pass v p need _ _ call)) = fine
    were_open (row d what _ _ may calls went (by_monitor left seen found _ is)) = read_open d left _ found _
    were_open (row_fails d what _ may calls went lost) = failed_open d
    were_open (steps d m step _ target went) = fine
    were_open (step_fails d m step _ target went) = failed_open d

    pub open_effect : {call : Option Call} {x : Ended} {a : Change} → Effect S t c call x a → JobsAreOpen S (put S a c)
    open_effect {a = a} effect k i r is reading =
        open_volume a effect (volume_of S i) (were_open effect k i r is reading)
