-- In each run an operation that asks for a whole volume is done only where the volume is whole.
use Rattle.std.proofs.Common.{◌≡◌, ℕ, List, [], ◌∷◌, take, refl, ap, sym, ◌∙◌, subst, arith, Option, Some, inl, inr}
use Rattle.std.specs.List.{range_with_len}
use Rattle.std.proofs.lemmas.List.{take_all}
use Rattle.units.specs.declared.bounds.TheConstants.{CLIENTS}
use Rattle.device_log.specs.Log.{Call}
use Rattle.array_model.specs.declared.journal.Entry.{Entry}
use Rattle.array_model.specs.declared.journal.Event.{Event}
use Rattle.array_model.specs.declared.journal.Event.TheVariants.{Active, Ack}
use Rattle.array_model.specs.declared.journal.Answer.{Answer}
use Rattle.array_model.specs.Events.{AtEach}
use Rattle.array_model.specs.Moments.{AllBelow}
use Rattle.array_model.proofs.Journals.{at_each_more}
use Rattle.array_machine.specs.Setting.{Setting}
use Rattle.array_machine.specs.Volumes.{Volume}
use Rattle.array_machine.specs.Operations.{ops_of}
use Rattle.array_machine.specs.Clients.{NoJob, with_job}
use Rattle.array_machine.specs.Rounds.{Ended}
use Rattle.array_machine.specs.Changes.{Change, entry_of}
use Rattle.array_machine.specs.Machine.{World, Reached, begins_at, calls_after, log_after, entered}
use Rattle.array_paths.specs.InTurn.{InTurn, job_of}
use Rattle.array_paths.specs.Effects.{after_effect}
use Rattle.array_base.specs.Premises.{Premises}
use Rattle.array_base.specs.Opening.{Opening}
use Rattle.array_base.specs.Laws.{OverBase, FollowsRest}
use Rattle.array_base.specs.Base.{disks_by}
use Rattle.array_base.proofs.Opens.{no_jobs}
use Rattle.array_base.proofs.AlongRest.{along_rest}
use Rattle.array_told.specs.Told.{Tells, Stamps}
use Rattle.array_told.proofs.Tells.{tells_effect, tells_open}
use Rattle.array_told.proofs.Stamps.{stamps_effect, stamps_open, at_each_before}
use Rattle.array_gate.proofs.Entries.{GateEntry, is_other, is_active, is_answer, IsOther, effect_gate, at_entered}
use Rattle.array_failures.specs.Members.{LastLeads}
use Rattle.array_failures.specs.Recorded.{FailuresAreKept, ReadyAreServed}
use Rattle.array_failures.proofs.Leads.{leads_call, leads_effect}
use Rattle.array_failures.proofs.RoundRuns.{leads_open}
use Rattle.array_failures.proofs.BlockedRuns.{kept_change}
use Rattle.array_failures.proofs.SeatRuns.{SeatsIn, seated_unless, seats_begin, seats_step}
use Rattle.array_failures.proofs.Served.{served_effect}
use Rattle.array_failures.proofs.AckRuns.{answers_alone, pass_answers_none, seated_open}
use Rattle.array_answers.specs.Whole.{DoneIsWhole, JobsAreOpen}
use Rattle.array_answers.proofs.OpenJobs.{open_effect}
use Rattle.array_answers.proofs.WholeNow.{AtAnswer, done_is_whole}

module _ (S : Setting) (P : Premises S) where
  -- what each effect keeps, with what its turn has still to do
  record Keeps (w : World) (more : List Change) : Type 0 where
    stamps : Stamps w
    told : Tells S w.control w.journal
    leads : LastLeads S (disks_by S w.log) w.control
    kept : FailuresAreKept S w.control
    seats : SeatsIn S w.control more
    served : ReadyAreServed w.control
    jobs : JobsAreOpen S w.control
    law : AtEach (λ front e. DoneIsWhole S.start S.asked (take e.stamp w.log) front e.event) w.journal

  -- an entry that is no answer
  other_whole : (log : List Call) (journal : List Entry) (e : Event) → IsOther (Some e)
      → DoneIsWhole S.start S.asked log journal e
  other_whole log journal (Ack i answer) other = absurd other
  other_whole log journal _ other = tt

  module _ (t : InTurn) (w : World) (call : Option Call) (x : Ended) (a : Change) (more : List Change)
      (o : OverBase S P t w call x a) (k : Keeps w (a ∷ more)) where
    abbrev longer : List Call
    longer = log_after w.log call

    abbrev n : ℕ
    n = calls_after w.calls call

    stamps : Stamps (after_effect S w call a)
    stamps = stamps_effect S w call a k.stamps

    whole : take n longer ≡ longer
    whole = take_all n longer (let count = stamps.calls in omega (arith, count))

    at_answer : (i : ℕ) (answer : Answer) → entry_of S a ≡ Some (Ack i answer) → AtAnswer S P w.log w.control w.journal
    at_answer i answer is = record {
      core = o.before.core;
      told = k.told;
      ready = o.ready;
      there = k.kept.there;
      seated = seated_unless S w.control a more (λ v slots new word same.
          pass_answers_none S v word i answer (ap (entry_of S) (sym same) ∙ is)) k.seats;
      served = k.served;
      jobs = k.jobs;
    }

    -- by the kind of its entry
    entry_whole : (entry : Option Event) → GateEntry S w.control entry → (e : Event) → entry ≡ Some e
        → (entry_of S a ≡ entry) → DoneIsWhole S.start S.asked w.log w.journal e
    entry_whole entry (is_other _ other) e is same = other_whole w.log w.journal e (subst IsOther is other)
    entry_whole entry (is_active v rest ended dirty) e is same =
        let own : Active (record { 0 = v }) ≡ e = cc is in subst (DoneIsWhole S.start S.asked w.log w.journal) own tt
    entry_whole entry (is_answer c i new answer move) e is same =
        let own : Ack i answer ≡ e = cc is in
        subst (DoneIsWhole S.start S.asked w.log w.journal) own
        (done_is_whole S P w.log w.control w.journal (at_answer i answer same) c i new answer move)

    done_whole : (e : Event) → entry_of S a ≡ Some e → DoneIsWhole S.start S.asked (take n longer) w.journal e
    done_whole e is = elim (answers_alone S t w.control o.effect) [
      | inl none ↦
          subst (λ l. DoneIsWhole S.start S.asked l w.journal e) (sym (whole ∙ ap (log_after w.log) none))
          (entry_whole (entry_of S a) (effect_gate S w.control t o.effect) e is refl)
      | inr other ↦ other_whole (take n longer) w.journal e (subst IsOther is other)
    ]

    keeps_effect : Keeps (after_effect S w call a) more
    keeps_effect = record {
      stamps = stamps;
      told = tells_effect S t w.control call x a o.effect n w.journal k.told;
      leads = leads_effect S P t w call x a o k.leads;
      kept = kept_change S P (disks_by S longer) w.control o.between leads k.kept t o.effect;
      seats = seats_step S P (disks_by S longer) w.control o.between o.ready leads t more o.effect k.seats;
      served = served_effect S P (disks_by S longer) t w.control o.between k.served o.effect;
      jobs = open_effect S t w.control k.jobs o.effect;
      law = at_each_more Whole w.journal (entered n (entry_of S a)) before
          (at_entered Whole w.journal n (entry_of S a) done_whole);
    }
      where
        Whole : List Entry → Entry → Type 0
        Whole front e = DoneIsWhole S.start S.asked (take e.stamp longer) front e.event

        leads : LastLeads S (disks_by S longer) w.control
        leads = leads_call S P t w call x a o k.leads

        before : AtEach Whole w.journal
        before = at_each_before (λ l front e. DoneIsWhole S.start S.asked l front e.event) w.log call w.journal
            (subst (λ m. AllBelow m w.journal) k.stamps.calls k.stamps.below) k.law

  -- A RUN

  module _ (volumes : List Volume) (spares : List ℕ) (opening : Opening S P volumes spares) where
    no_job : (k : ℕ) → job_of (begins_at S volumes spares).control k ≡ NoJob
    no_job k =
        no_jobs S P volumes spares opening (λ j. with_job (ops_of S.asked.ops j) NoJob) (λ j. refl)
        (range_with_len 0 CLIENTS) k

    keeps_open : Keeps (begins_at S volumes spares) []
    keeps_open = record {
      stamps = stamps_open S volumes spares;
      told = tells_open S volumes spares (λ v. (opening.volumes_are v).state);
      leads = leads_open S P volumes spares opening;
      kept = record { there = λ d f. absurd cc; last = λ d f. absurd cc; going = tt; living = tt };
      seats = record { last = tt; seated = inl (seated_open S P volumes spares opening) };
      served = λ v awake. absurd (awake (opening.volumes_are v).state);
      jobs = λ k i r is reading. absurd (let idle = no_job k in let bad = sym idle ∙ is in cc bad);
      law = tt;
    }

    follows : FollowsRest S P volumes spares (λ t w more. Keeps w more)
    follows = record {
      opens = λ who. keeps_open;
      begins = λ t w a k. record {
        stamps = k.stamps;
        told = k.told;
        leads = k.leads;
        kept = k.kept;
        seats = seats_begin S w.control a k.seats;
        served = k.served;
        jobs = k.jobs;
        law = k.law;
      };
      step = λ t w call x a more o k. keeps_effect t w call x a more o k;
    }

    -- the law, of each answer in the journal
    pub dones_are_whole : (w : World) → Reached S volumes spares w
        → AtEach (λ front e. DoneIsWhole S.start S.asked (take e.stamp w.log) front e.event) w.journal
    dones_are_whole w run = (along_rest S P volumes spares (λ t w more. Keeps w more) follows opening w run).1.law
