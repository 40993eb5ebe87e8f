-- Answers stand over recorded failures, in each world of each run.
use Rattle.std.proofs.Common.{◌≡◌, ℕ, Bool, true, false, cond, List, [], ◌∷◌, ◌++◌, map, take, refl, ap, sym, ◌∙◌, subst, arith, Option, Some, None, ◌⊎◌, inl, inr}
use Rattle.std.specs.List.{AllZip, range_with_len}
use Rattle.std.proofs.lemmas.List.{take_all}
use Rattle.units.specs.declared.disk.Sector.{Sector}
use Rattle.units.specs.declared.bounds.TheConstants.{CLIENTS}
use Rattle.device_log.specs.Log.{Call, What}
use Rattle.array_model.specs.declared.journal.Entry.{Entry}
use Rattle.array_model.specs.declared.journal.Event.{Event}
use Rattle.array_model.specs.declared.journal.Event.TheVariants.{Ack}
use Rattle.array_model.specs.declared.journal.Answer.{Answer}
use Rattle.array_model.specs.Blocks.{Laid, SlotWords}
use Rattle.array_model.specs.Events.{AtEach}
use Rattle.array_model.specs.Moments.{AllBelow, Always}
use Rattle.array_model.specs.Rounds.{IsFinished}
use Rattle.array_model.specs.FailureLaw.{AckOverFaults}
use Rattle.array_model.proofs.Journals.{at_each_more}
use Rattle.array_machine.specs.Setting.{Setting}
use Rattle.array_machine.specs.Volumes.{Volume}
use Rattle.array_machine.specs.Operations.{ops_of}
use Rattle.array_machine.specs.Clients.{NoJob, with_job}
use Rattle.array_machine.specs.Rounds.{Ended}
use Rattle.array_machine.specs.Control.{Control}
use Rattle.array_machine.specs.Changes.{Change, PassWord, GoesOnQuietly, OpensAt, Reaches, Closes, pass_entry, entry_of}
use Rattle.array_machine.specs.Puts.{put}
use Rattle.array_machine.specs.Machine.{World, Reached, begins_at, calls_after, log_after, entered}
use Rattle.array_machine.specs.TakeoverTurns.{has_all}
use Rattle.array_paths.specs.InTurn.{InTurn, job_of}
use Rattle.array_paths.specs.AtRows.{AtRows, by_client, by_pass, by_monitor, after_read}
use Rattle.array_paths.specs.Effects.{Effect, quiet, row, row_fails, steps, step_fails, after_effect}
use Rattle.array_base.specs.Premises.{Premises}
use Rattle.array_base.specs.Opening.{slot_opened, Opening}
use Rattle.array_base.specs.Laws.{OverBase, FollowsRest}
use Rattle.array_base.specs.Base.{disks_by}
use Rattle.array_base.proofs.Opens.{no_jobs}
use Rattle.array_base.proofs.AlongRest.{along_rest}
use Rattle.array_told.specs.Told.{Tells, Stamps}
use Rattle.array_told.proofs.Tells.{tells_effect, tells_open}
use Rattle.array_told.proofs.Stamps.{stamps_effect, stamps_open, at_each_before}
use Rattle.array_told.proofs.Moments.{always_none}
use Rattle.array_gate.specs.Gate.{WritersWait}
use Rattle.array_gate.proofs.Writers.{writers_effect}
use Rattle.array_gate.proofs.Entries.{IsOther, effect_gate, at_entered}
use Rattle.array_failures.specs.Members.{LastLeads}
use Rattle.array_failures.specs.Recorded.{HasSeat, AreSeated, FailuresAreKept, WasFinished, ReadyAreServed}
use Rattle.array_failures.proofs.Leads.{leads_call, leads_effect}
use Rattle.array_failures.proofs.RoundRuns.{leads_open}
use Rattle.array_failures.proofs.BlockedRuns.{kept_change}
use Rattle.array_failures.proofs.SeatRuns.{SeatsIn, seated_unless, seats_begin, seats_step}
use Rattle.array_failures.proofs.Served.{served_effect}
use Rattle.array_failures.proofs.Past.{was_last, always_past}
use Rattle.array_failures.proofs.AckEntries.{AtAnswers, entry_acked}

module _ (S : Setting) where
  -- WHO ANSWERS

  other_read : (c : Control) (d : ℕ) (left : List ℕ) (seen : List Sector) (found : List ℕ) (all : Bool)
      → IsOther (entry_of S (after_read S c d left seen found all))
  other_read c d left seen found true = tt
  other_read c d left seen found false = tt

  other_rows : (c : Control) (d : ℕ) (what : What) (x : Ended) (a : Change) → AtRows S c d what x a
      → IsOther (entry_of S a)
  other_rows c d _ x _ (by_client k i r need _ _ call) = tt
  other_rows c d _ x _ (by_pass v p need _ _ call) = tt
  other_rows c d _ x _ (by_monitor left seen found _ life) =
      other_read c d left (seen ++ x.got ∷ []) found (has_all S (seen ++ x.got ∷ []))

  -- an answer comes without a call
  pub answers_alone : (t : InTurn) (c : Control) {call : Option Call} {x : Ended} {a : Change} → Effect S t c call x a
      → (call ≡ None) ⊎ IsOther (entry_of S a)
  answers_alone t c (quiet x a comes) = inl refl
  answers_alone t c (row d what x a may calls went at) = inr (other_rows c d what x a at)
  answers_alone t c (row_fails d what x may calls failed lost) = inr tt
  answers_alone t c (steps d m step x target went) = inr tt
  answers_alone t c (step_fails d m step x target failed) = inr tt

  pub pass_answers_none : (v : ℕ) (word : PassWord) (i : ℕ) (answer : Answer)
      → pass_entry v word ≡ Some (Ack i answer) → ⊥
  pass_answers_none v GoesOnQuietly i answer is = cc is
  pass_answers_none v (OpensAt first) i answer is = cc is
  pass_answers_none v (Reaches unit) i answer is = cc is
  pass_answers_none v Closes i answer is = cc is

  module _ (P : Premises S) where
    -- what each effect keeps, with what its turn has still to do
    record Keeps (w : World) (more : List Change) : Type 0 where
      stamps : Stamps w
      told : Tells S w.control w.journal
      leads : LastLeads S (disks_by S w.log) w.control
      kept : FailuresAreKept S w.control
      seats : SeatsIn S w.control more
      served : ReadyAreServed w.control
      writers : WritersWait S w.control
      past : Always (λ log front. (m : Laid) → IsFinished S.start log front m
          → WasFinished S (disks_by S w.log) w.control m) w.log w.journal
      acks : AtEach (λ front e. AckOverFaults S.start S.asked.ops (take e.stamp w.log) front e.event) w.journal

    -- ONE EFFECT

    module _ (t : InTurn) (w : World) (call : Option Call) (x : Ended) (a : Change) (more : List Change)
        (o : OverBase S P t w call x a) (k : Keeps w (a ∷ more)) where
      abbrev longer : List Call
      longer = log_after w.log call

      abbrev n : ℕ
      n = calls_after w.calls call

      stamps : Stamps (after_effect S w call a)
      stamps = stamps_effect S w call a k.stamps

      whole : take n longer ≡ longer
      whole = take_all n longer (let count = stamps.calls in omega (arith, count))

      at_answers : (i : ℕ) (answer : Answer) → entry_of S a ≡ Some (Ack i answer)
          → AtAnswers S P w.log w.control w.journal
      at_answers i answer is = record {
        core = o.before.core;
        told = k.told;
        ready = o.ready;
        kept = k.kept;
        seated = seated_unless S w.control a more (λ v slots new word same.
            pass_answers_none v word i answer (ap (entry_of S) (sym same) ∙ is)) k.seats;
        served = k.served;
        writers = k.writers;
        past = k.past;
      }

      acked_alone : call ≡ None → (e : Event) → entry_of S a ≡ Some e
          → AckOverFaults S.start S.asked.ops (take n longer) w.journal e
      acked_alone none (Ack i answer) is =
          subst (λ l. AckOverFaults S.start S.asked.ops l w.journal (Ack i answer))
          (sym (whole ∙ ap (log_after w.log) none))
          (entry_acked S P w.log w.control w.journal (at_answers i answer is) (entry_of S a)
          (effect_gate S w.control t o.effect) (Ack i answer) is)
      acked_alone none _ is = tt

      other_acked : (e : Event) → IsOther (Some e) → AckOverFaults S.start S.asked.ops (take n longer) w.journal e
      other_acked (Ack i answer) other = absurd other
      other_acked _ other = tt

      acked : (e : Event) → entry_of S a ≡ Some e → AckOverFaults S.start S.asked.ops (take n longer) w.journal e
      acked e is = elim (answers_alone t w.control o.effect) [
        | inl none ↦ acked_alone none e is
        | inr other ↦ other_acked e (subst IsOther is other)
      ]

      keeps_effect : Keeps (after_effect S w call a) more
      keeps_effect = record {
        stamps = stamps;
        told = told;
        leads = leads_effect S P t w call x a o k.leads;
        kept = kept_change S P (disks_by S longer) w.control o.between leads k.kept t o.effect;
        seats = seats_step S P (disks_by S longer) w.control o.between o.ready leads t more o.effect k.seats;
        served = served_effect S P (disks_by S longer) t w.control o.between k.served o.effect;
        writers = writers_effect S t w.control o.effect k.writers;
        past = always_past S P t w call x a o leads k.kept k.stamps stamps k.told told k.past;
        acks = at_each_more Over w.journal (entered n (entry_of S a)) before
            (at_entered Over w.journal n (entry_of S a) acked);
      }
        where
          Over : List Entry → Entry → Type 0
          Over front e = AckOverFaults S.start S.asked.ops (take e.stamp longer) front e.event

          told : Tells S (put S a w.control) (w.journal ++ entered n (entry_of S a))
          told = tells_effect S t w.control call x a o.effect n w.journal k.told

          leads : LastLeads S (disks_by S longer) w.control
          leads = leads_call S P t w call x a o k.leads

          before : AtEach Over w.journal
          before = at_each_before (λ l front e. AckOverFaults S.start S.asked.ops l front e.event) w.log call w.journal
              (subst (λ m. AllBelow m w.journal) k.stamps.calls k.stamps.below) k.acks

    -- A RUN

    module _ (volumes : List Volume) (spares : List ℕ) (opening : Opening S P volumes spares) where
      opened_seats : (ws : List SlotWords) → AllZip (HasSeat S) ws (map (slot_opened S) ws)
      opened_seats [] = tt
      opened_seats (w ∷ ws) = ((λ d seat. seat), opened_seats ws)

      pub seated_open : AreSeated S (begins_at S volumes spares).control
      seated_open v started =
          let ws = S.start.words.slots S.start.newest v in
          let slots = (opening.volumes_are v).slots ∙ ap (λ b. cond b (map (slot_opened S) ws) []) started in
          subst (AllZip (HasSeat S) ws) (sym slots) (opened_seats ws)

      keeps_open : Keeps (begins_at S volumes spares) []
      keeps_open = record {
        stamps = stamps_open S volumes spares;
        told = tells_open S volumes spares (λ v. (opening.volumes_are v).state);
        leads = leads_open S P volumes spares opening;
        kept = record { there = λ d f. absurd cc; last = λ d f. absurd cc; going = tt; living = tt };
        seats = record { last = tt; seated = inl seated_open };
        served = λ v awake. absurd (awake (opening.volumes_are v).state);
        writers = λ k i r is writes sound. absurd (let idle = no_job k in let bad = sym idle ∙ is in cc bad);
        past = always_none (λ log front. (m : Laid) → IsFinished S.start log front m
            → WasFinished S (disks_by S []) (begins_at S volumes spares).control m) (λ m is.
            subst (WasFinished S (disks_by S []) (begins_at S volumes spares).control) (sym is)
            (was_last S P (disks_by S []) (begins_at S volumes spares).control opening.newest));
        acks = tt;
      }
        where
          no_job : (k : ℕ) → job_of (begins_at S volumes spares).control k ≡ NoJob
          no_job k =
              no_jobs S P volumes spares opening (λ j. with_job (ops_of S.asked.ops j) NoJob) (λ j. refl)
              (range_with_len 0 CLIENTS) k

      follows : FollowsRest S P volumes spares (λ t w more. Keeps w more)
      follows = record {
        opens = λ who. keeps_open;
        begins = λ t w a k. record {
          stamps = k.stamps;
          told = k.told;
          leads = k.leads;
          kept = k.kept;
          seats = seats_begin S w.control a k.seats;
          served = k.served;
          writers = k.writers;
          past = k.past;
          acks = k.acks;
        };
        step = λ t w call x a more o k. keeps_effect t w call x a more o k;
      }

      -- the law, of each answer in the journal
      pub acks_stand : (w : World) → Reached S volumes spares w
          → AtEach (λ front e. AckOverFaults S.start S.asked.ops (take e.stamp w.log) front e.event) w.journal
      acks_stand w run = (along_rest S P volumes spares (λ t w more. Keeps w more) follows opening w run).1.acks
