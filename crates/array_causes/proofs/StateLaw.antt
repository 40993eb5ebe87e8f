-- The causes of array states, in each run.
use Rattle.std.proofs.Common.{◌≡◌, ℕ, zero, suc, ◌&&◌, not, map, Some, None, Bool, true, false, List, [], ◌∷◌, refl, sym, ◌∙◌, subst, Option, inl, inr}
use Rattle.std.specs.List.{range_with_len}
use Rattle.units.specs.declared.bounds.TheConstants.{CLIENTS}
use Rattle.device_log.specs.Log.{Call}
use Rattle.array_model.specs.declared.script.OpKind.{OpKind}
use Rattle.array_model.specs.declared.script.OpKind.TheVariants.{Write as OpWrite, Read as OpRead, Whole as OpWhole}
use Rattle.array_model.specs.Script.{kind_at}
use Rattle.array_model.specs.declared.journal.Entry.{Entry}
use Rattle.array_model.specs.declared.journal.Event.{Event}
use Rattle.array_model.specs.Events.{AtEachFrom, has, is_any_fault}
use Rattle.array_model.proofs.Journals.{at_each_more}
use Rattle.array_machine.specs.Setting.{Setting}
use Rattle.array_machine.specs.States.{is_readonly, State, IsReadonly, IsReadAuto, IsClean, IsPending, IsActive, IsIdle, StateWord, ToReady, ToPending, ToActive, ToActiveAgain, ToIdle, ToClean}
use Rattle.array_machine.specs.Volumes.{Volume, volume_at}
use Rattle.array_machine.specs.Operations.{ops_of}
use Rattle.array_machine.specs.Clients.{Job, NoJob, Submitted, Busy, Client, client_at, with_job}
use Rattle.array_machine.specs.Rounds.{Ended}
use Rattle.array_machine.specs.ClientTurns.{is_shut}
use Rattle.array_machine.specs.Control.{Control}
use Rattle.array_machine.specs.Changes.{Change, RoundBegins, RoundEnds, SpareEnds, DiskFails, DiskUnblocks, StateGoes, ClientMoves, PassMoves, ManagerMoves, MonitorKilled, TakeoverStarts, state_entry, client_entry, pass_entry, update_entry, ClientWord, IsSilent, Submits, Acknowledges, entry_of}
use Rattle.array_machine.specs.Machine.{World, begins_at, calls_after, entered, Reached}
use Rattle.array_paths.specs.InTurn.{InTurn, state_of, is_broken, job_of}
use Rattle.array_paths.specs.Effects.{after_effect}
use Rattle.array_order.proofs.Steps.{step_of}
use Rattle.array_base.specs.Premises.{Premises}
use Rattle.array_base.specs.Opening.{Opening}
use Rattle.array_causes.specs.Links.{Link, First, MaySubmit, link_after, Leans}
use Rattle.array_causes.specs.Follow.{OverLink}
use Rattle.array_causes.specs.Failures.{has_settled}
use Rattle.array_causes.specs.StateCauses.{IsOpen, IsAskedFor, StateCause, StateCauses}
use Rattle.array_causes.proofs.Words.{each_pass, each_update}
use Rattle.array_causes.proofs.Grounds.{Grounds, LinkTold, told_now, FollowsGrounds, along_grounds}
use Rattle.array_causes.proofs.StateComes.{From, WordComes, ChangeComes, effect_so}
use Rattle.array_causes.proofs.OpenJobs.{AskedBy, asked_on, asked_at_first, IdleIsQuiet, quiet_on, idle_answered}
use Rattle.array_causes.proofs.Wakes.{IdleTold, idle_on, idle_at_first, still_idle}
use Rattle.array_causes.proofs.AnswerLaw.{broken_on}
use Rattle.array_causes.proofs.OpenOps.{OpsOpen, open_on, none_open}
use Rattle.array_causes.proofs.StatesOn.{StatesSaid, states_on}
use Rattle.array_causes.proofs.StateWords.{StateSaid, asked_behind}

module _ (S : Setting) where
  -- WHAT IS KNOWN

  -- a volume is broken only where a disk failed
  abbrev BrokenTold : Control → List Entry → Type 0
  BrokenTold c journal = (v : ℕ) → is_broken c v ≡ true → has is_any_fault journal ≡ true

  -- of a turn that began with one control state and came to another, at a stamp, before its next change
  record Known (begun c : Control) (link : Link) (n : ℕ) (journal : List Entry) : Type 0 where
    first : link ≡ First → c ≡ begun
    behind : LinkTold n journal link
    settled : c.round.ended ≡ true → has_settled journal ≡ true
    states : StatesSaid S c journal
    ops : OpsOpen S c journal
    asked : AskedBy S c link
    quiet : IdleIsQuiet S c
    idle : IdleTold S c link journal
    broken : BrokenTold c journal

  module _ (begun c : Control) (link : Link) (n : ℕ) (journal : List Entry) (k : Known begun c link n journal) where
    abbrev Entered : Option Event → Type 0
    Entered e = AtEachFrom (λ front e. StateCause S.start S.asked.ops front e.stamp e.event) journal (entered n e)

    -- STATES

    said : (v : ℕ) (state : State) → From S c v state → StateSaid S v state journal
    said v state from = subst (λ s. StateSaid S v s journal) from.is (k.states v)

    word_has_cause : (v : ℕ) (word : StateWord) → WordComes S c v word → Leans S begun link (StateGoes v word)
        → Entered (state_entry v word)
    word_has_cause v ToReady comes leans = ((said v IsReadonly comes.0, k.settled comes.1), tt)
    word_has_cause v ToPending (inl comes) leans =
        ((inl (said v IsReadAuto comes), asked_behind S v n journal link leans k.behind), tt)
    word_has_cause v ToPending (inr comes) leans =
        ((inr (said v IsClean comes), asked_behind S v n journal link leans k.behind), tt)
    word_has_cause v ToActive comes leans = ((said v IsPending comes.0, k.settled comes.1), tt)
    word_has_cause v ToActiveAgain comes leans = tt
    word_has_cause v ToIdle comes leans =
        ((said v IsActive comes.0, none_open S v c journal comes.1 k.ops), tt)
    word_has_cause v ToClean comes leans = (
      (
        record {
          said = said v IsIdle comes.0;
          still = still_idle S c link journal leans k.idle v comes.1 comes.0.is;
        },
        idle_answered S v c link journal leans k.asked k.quiet comes.1 comes.0.is k.ops,
      ),
      tt,
    )

    -- SUBMITS

    open_if : (v : ℕ) → is_shut (volume_at c.volumes v) ≡ false → IsOpen v journal
    open_if v shut closed = at (state_of c v) (k.states v) (is_broken c v) refl shut
      where
        at : (state : State) → StateSaid S v state journal → (b : Bool) → is_broken c v ≡ b
            → (is_readonly state && not b) ≡ false → has is_any_fault journal ≡ true
        at state told true is opened = k.broken v is
        at IsReadonly told false is opened = absurd cc
        at IsReadAuto told false is opened = absurd (cc (told, closed))
        at IsClean told false is opened = absurd (cc (told, closed))
        at IsPending told false is opened = absurd (cc (told, closed))
        at IsIdle told false is opened = absurd (cc (told, closed))
        at IsActive (inl told) false is opened = absurd (cc (told, closed))
        at IsActive (inr told) false is opened = absurd (let idle = told.0 in cc (idle, closed))

    asked_for : (kind : Option OpKind) → MaySubmit c kind → IsAskedFor journal kind
    asked_for None may = absurd may
    asked_for (Some (OpWrite v s value)) may = open_if v.0 may
    asked_for (Some (OpRead v s)) may = open_if v.0 may
    asked_for (Some (OpWhole v)) may = open_if v.0 may

    move_has_cause : (j : ℕ) (new : Client) (word : ClientWord) → Leans S begun link (ClientMoves j new word)
        → Entered (client_entry word)
    move_has_cause j new IsSilent leans = tt
    move_has_cause j new (Acknowledges i answer) leans = (tt, tt)
    move_has_cause j new (Submits i) leans = (
      asked_for (kind_at S.asked.ops i)
          (subst (λ x. MaySubmit x (kind_at S.asked.ops i)) (sym (k.first leans.0)) leans.1),
      tt,
    )

    -- EACH CHANGE

    change_has_cause : (a : Change) → ChangeComes S c a → Leans S begun link a → Entered (entry_of S a)
    change_has_cause (StateGoes v word) comes leans = word_has_cause v word comes leans
    change_has_cause (ClientMoves j new word) comes leans = move_has_cause j new word leans
    change_has_cause (PassMoves v slots pass word) comes leans =
        each_pass (λ word. Entered (pass_entry v word)) tt (λ row. (tt, tt)) (λ unit. (tt, tt)) (tt, tt) word
    change_has_cause (ManagerMoves new word) comes leans =
        each_update (λ word. Entered (update_entry word)) tt (λ u. (tt, tt)) (λ u. (tt, tt)) (λ u kind. (tt, tt)) word
    change_has_cause (RoundBegins m) comes leans = (tt, tt)
    change_has_cause (RoundEnds m) comes leans = (tt, tt)
    change_has_cause (SpareEnds d) comes leans = (tt, tt)
    change_has_cause (DiskFails d) comes leans = (tt, tt)
    change_has_cause (DiskUnblocks d) comes leans = (tt, tt)
    change_has_cause MonitorKilled comes leans = (tt, tt)
    change_has_cause (TakeoverStarts left) comes leans = (tt, tt)
    change_has_cause _ comes leans = tt

  -- WHAT A RUN KEEPS

  record StatesTold (link : Link) (w : World) : Type 0 where
    states : StatesSaid S w.control w.journal
    ops : OpsOpen S w.control w.journal
    asked : AskedBy S w.control link
    quiet : IdleIsQuiet S w.control
    idle : IdleTold S w.control link w.journal
    broken : BrokenTold w.control w.journal
    law : StateCauses S.start S.asked.ops w.journal

  states_step : (P : Premises S) (t : InTurn) (link : Link) (w : World) (call : Option Call) (x : Ended) (a : Change)
      → OverLink S P t link w call x a → Grounds S t link w → StatesTold link w
      → StatesTold (link_after link a) (after_effect S w call a)
  states_step P t link w call x a over before had =
      let n = calls_after w.calls call in
      let comes = effect_so S t w.control call x a over.effect in
      let behind = told_now w call link over.first before.behind in
      record {
        states = states_on S n w.journal t.before w.control link a comes over.leans behind had.states;
        ops = open_on S w.control a (step_of S t w.control call x a over.effect) n w.journal had.ops;
        asked = asked_on S t.before w.control link a comes over.leans had.asked;
        quiet = quiet_on S w.control had.quiet a comes;
        idle = idle_on S t.before w.control link n w.journal had.idle a comes over.leans;
        broken = broken_on S w.control a n w.journal had.broken;
        law = at_each_more _ w.journal (entered n (entry_of S a)) had.law
            (change_has_cause t.before w.control link n w.journal (record {
              first = before.first;
              behind = behind;
              settled = before.told.settled;
              states = had.states;
              ops = had.ops;
              asked = had.asked;
              quiet = had.quiet;
              idle = had.idle;
              broken = had.broken;
            }) a comes over.leans);
      }

  -- no client has a job yet
  no_jobs : (ks : List ℕ) (m : ℕ)
      → (client_at (map (λ k. with_job (ops_of S.asked.ops k) NoJob) ks) m).job ≡ NoJob
  no_jobs [] m = refl
  no_jobs (k ∷ ks) zero = refl
  no_jobs (k ∷ ks) (suc m) = no_jobs ks m

  pub states_have_causes : (P : Premises S) (volumes : List Volume) (spares : List ℕ) → Opening S P volumes spares
      → (w : World) → Reached S volumes spares w → StateCauses S.start S.asked.ops w.journal
  states_have_causes P volumes spares o w run =
      let found = along_grounds S P volumes spares o (λ t link w. StatesTold link w) follows w run in found.2.law
    where
      opened : (v : ℕ) → StateSaid S v (state_of (begins_at S volumes spares).control v) []
      opened v = subst (λ state. StateSaid S v state []) (sym (o.volumes_are v).state) refl

      none : (m : ℕ) (job : Job) → job_of (begins_at S volumes spares).control m ≡ job → NoJob ≡ job
      none m job is = sym (no_jobs (range_with_len 0 CLIENTS) m) ∙ is

      follows : FollowsGrounds S P volumes spares (λ t link w. StatesTold link w)
      follows = record {
        opens = record {
          states = opened;
          ops = λ i is. absurd cc;
          asked = λ m i is. absurd (let no = none m (Submitted i) is in cc no);
          quiet = λ v m i r sound idle is writes. absurd (let no = none m (Busy i r) is in cc no);
          idle = record { still = λ v sound idle is. absurd cc; whose = λ k i is. absurd cc };
          broken = λ v is. absurd (let sound = (o.volumes_are v).sound in cc (sound, is));
          law = tt;
        };
        begins = λ t link w who settled had. record {
          states = had.states;
          ops = had.ops;
          asked = asked_at_first S w.control link settled had.asked;
          quiet = had.quiet;
          idle = idle_at_first S w.control link w.journal settled had.idle;
          broken = had.broken;
          law = had.law;
        };
        step = λ t link w call x a over before behind had. states_step P t link w call x a over before had;
      }
