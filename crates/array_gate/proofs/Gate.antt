-- The write gate law of each world of each run.
use Rattle.std.proofs.Common.{◌≡◌, ℕ, ◌||◌, ◌&&◌, Bool, true, false, List, ◌++◌, take, refl, ap, sym, ◌∙◌, subst, arith, Option, Some, None}
use Rattle.std.specs.List.{range_with_len}
use Rattle.std.proofs.lemmas.List.{take_all}
use Rattle.units.specs.declared.bounds.TheConstants.{CLIENTS}
use Rattle.device_log.specs.Log.{Call}
use Rattle.array_model.specs.declared.script.OpKind.{OpKind}
use Rattle.array_model.specs.declared.script.OpKind.TheVariants.{Write as OpWrite, Read as OpRead, Whole as OpWhole}
use Rattle.array_model.specs.declared.journal.Entry.{Entry}
use Rattle.array_model.specs.declared.journal.Event.{Event}
use Rattle.array_model.specs.declared.journal.Event.TheVariants.{Active, Ack}
use Rattle.array_model.specs.declared.journal.Answer.{Answer}
use Rattle.array_model.specs.Script.{kind_at, write_in, write_at}
use Rattle.array_model.specs.Events.{AtEach, is_done, is_live as is_live_told}
use Rattle.array_model.specs.Moments.{AllBelow}
use Rattle.array_model.specs.WriteGate.{IsDirty, ActiveOver, AckWhileLive, IsLiveFor, DirtyWhileLive, WriteGate}
use Rattle.array_model.proofs.Journals.{at_each_more}
use Rattle.array_disks.proofs.Members.{durable}
use Rattle.array_machine.specs.Setting.{Setting}
use Rattle.array_machine.specs.Numbers.{has}
use Rattle.array_machine.specs.States.{State, IsReadonly, IsReadAuto, IsClean, IsPending, IsActive, IsIdle, is_pending, is_live}
use Rattle.array_machine.specs.Volumes.{Volume, volume_at}
use Rattle.array_machine.specs.Operations.{volume_of, ops_of, is_write}
use Rattle.array_machine.specs.Clients.{Client, NoJob, with_job}
use Rattle.array_machine.specs.Rounds.{Ended, expects, works}
use Rattle.array_machine.specs.ClientTurns.{is_held}
use Rattle.array_machine.specs.Control.{Control}
use Rattle.array_machine.specs.Changes.{Change, Acknowledges, entry_of}
use Rattle.array_machine.specs.Puts.{put}
use Rattle.array_machine.specs.Machine.{World, Reached, begins_at, calls_after, log_after, entered}
use Rattle.array_paths.specs.InTurn.{InTurn, state_of, job_of}
use Rattle.array_paths.specs.ClientMove.{TakesWrites, ClientMove, is_past, answers, fails, is_whole, has_no_spare}
use Rattle.array_paths.specs.Effects.{after_effect}
use Rattle.array_base.specs.Premises.{Premises}
use Rattle.array_base.specs.Opening.{Opening}
use Rattle.array_base.specs.Laws.{OverBase}
use Rattle.array_base.specs.Base.{ledger, disks_by, IsTrusted, Between}
use Rattle.array_base.proofs.Opens.{no_jobs}
use Rattle.array_base.proofs.AfterCalls.{between_of}
use Rattle.array_base.proofs.Finished.{finished_later}
use Rattle.array_base.proofs.Runs.{along_base}
use Rattle.array_told.specs.Told.{finished_generation, Tells, Stamps}
use Rattle.array_told.proofs.Tells.{tells_effect, tells_open}
use Rattle.array_told.proofs.Stamps.{stamps_effect, stamps_open, at_each_before}
use Rattle.array_told.proofs.Moments.{always_more, always_none}
use Rattle.array_gate.specs.Gate.{SaysDirty, IsDirtyAll, LiveAreDirty, WritersWait}
use Rattle.array_gate.proofs.Dirty.{works_trusted, live_call, active_dirty, live_change}
use Rattle.array_gate.proofs.Writers.{writers_effect}
use Rattle.array_gate.proofs.Entries.{GateEntry, is_other, is_active, is_answer, IsOther, effect_gate, at_entered}

-- AN ANSWER

takes_live : (state : State) → TakesWrites state → is_pending state ≡ false → is_live state ≡ true
takes_live IsReadonly takes free = absurd takes
takes_live IsReadAuto takes free = absurd takes
takes_live IsClean takes free = absurd takes
takes_live IsPending takes free = absurd cc
takes_live IsActive takes free = refl
takes_live IsIdle takes free = absurd takes

module _ (S : Setting) where
  -- a write that isn't held back finds its volume active
  write_live : (c : Control) (k i : ℕ) → is_write S i ≡ true → is_held S c k i ≡ false
      → TakesWrites (state_of c (volume_of S i)) → is_live (state_of c (volume_of S i)) ≡ true
  write_live c k i writes free takes =
      let state = state_of c (volume_of S i) in
      takes_live state takes (at (is_write S i) (is_pending state) _ writes free)
    where
      at : (w p held : Bool) → w ≡ true → ((w && p) || held) ≡ false → p ≡ false
      at true true held w h = absurd cc
      at true false held w h = refl
      at false p held w h = absurd cc

  live_for : (c : Control) (journal : List Entry) (i : ℕ) → Tells S c journal
      → (is_write S i ≡ true → is_live (state_of c (volume_of S i)) ≡ true)
      → IsLiveFor (write_at S.asked.ops i) journal
  live_for c journal i told live = at (kind_at S.asked.ops i) refl
    where
      at : (kind : Option OpKind) → kind_at S.asked.ops i ≡ kind → IsLiveFor (write_in kind) journal
      at None is = tt
      at (Some (OpRead v s)) is = tt
      at (Some (OpWhole v)) is = tt
      at (Some (OpWrite v s value)) is =
          let writes : is_write S i ≡ true = rw is refl in
          let there : volume_of S i ≡ v.0 = rw is refl in
          let alive : is_live_told (volume_of S i) journal ≡ true = told.lives (volume_of S i) ∙ live writes in
          subst (λ w. is_live_told w journal ≡ true) there alive

  done_live : (c : Control) (journal : List Entry) (k i : ℕ) (new : Client) (answer : Answer)
      → ClientMove S c k new (Acknowledges i answer) → WritersWait S c → Tells S c journal → is_done answer ≡ true
      → IsLiveFor (write_at S.asked.ops i) journal
  done_live c journal k _ _ _ (is_past i left left_is job nowhere names) wait told done = absurd cc
  done_live c journal k _ _ _ (answers i r answer left left_is needs) wait told done =
      live_for c journal i told (λ writes. write_live c k i writes needs.free (wait k i r needs.has writes needs.sound))
  done_live c journal k _ _ _ (fails i r left left_is job broken) wait told done = absurd cc
  done_live c journal k _ _ _ (is_whole i r left left_is job kind unbroken whole) wait told done =
      subst (λ o. IsLiveFor (write_in o) journal) (sym kind) tt
  done_live c journal k _ _ _ (has_no_spare i r left left_is job kind unbroken whole lacks) wait told done = absurd cc

  -- WHAT IS DURABLE

  module _ (P : Premises S) where
    -- what is dirty in the control state is durable on each working member
    dirty_on_members : (log : List Call) (c : Control) (journal : List Entry) (v : ℕ)
        → Between S P (disks_by S log) (ledger c.round) c.round.phase → Tells S c journal
        → IsDirtyAll S (disks_by S log) (ledger c.round) c.round.phase v → IsDirty S.start log journal v
    dirty_on_members log c journal v b told dirty m finished d working =
        let generation = told.ends ∙ ap (λ f. finished_generation S f c.round) dirty.later in
        let same = finished_later S P log journal (ledger c.round) b.core m finished dirty.later generation in
        let expected : expects S c.round.last d ≡ true = ap (λ x. expects S x d) (sym same) ∙ working.expected in
        let sound : has d c.round.faults ≡ false = sym (told.faults d) ∙ working.sound in
        let works_now : works S c.round d ≡ true = rw (expected, sound) refl in
        let trusted : IsTrusted S (ledger c.round) d = works_trusted S c.round d dirty.later works_now in
        let holds = b.core.working d trusted in
        durable (λ a. SaysDirty S a v) (disks_by S log d) holds.some (λ a i.
        let current = holds.candidates a i in
        dirty.known d trusted d a ((b.core.known.account d).known a i) current.container current.young)

    dirty_now : (log : List Call) (c : Control) (journal : List Entry)
        → Between S P (disks_by S log) (ledger c.round) c.round.phase → Tells S c journal
        → LiveAreDirty S (disks_by S log) c → DirtyWhileLive S.start log journal
    dirty_now log c journal b told live v alive =
        dirty_on_members log c journal v b told (live v (sym (told.lives v) ∙ alive))

    -- ENTRIES

    other_over : (log : List Call) (front : List Entry) (e : Event) → IsOther (Some e) → ActiveOver S.start log front e
    other_over log front (Active v) other = absurd other
    other_over log front _ other = tt

    other_acked : (front : List Entry) (e : Event) → IsOther (Some e) → AckWhileLive S.asked.ops front e
    other_acked front (Ack i answer) other = absurd other
    other_acked front _ other = tt

    over_entry : (log : List Call) (c : Control) (journal : List Entry)
        → Between S P (disks_by S log) (ledger c.round) c.round.phase → Tells S c journal → (o : Option Event)
        → GateEntry S c o → (e : Event) → o ≡ Some e → ActiveOver S.start log journal e
    over_entry log c journal b told _ (is_other o other) e is = other_over log journal e (subst IsOther is other)
    over_entry log c journal b told _ (is_active v rest ended now) e is =
        let same : Active (record { 0 = v }) ≡ e = cc is in
        subst (ActiveOver S.start log journal) same
        (dirty_on_members log c journal v b told (active_dirty S P (disks_by S log) c v rest ended now b))
    over_entry log c journal b told _ (is_answer k i new answer move) e is =
        let same : Ack i answer ≡ e = cc is in subst (ActiveOver S.start log journal) same tt

    acked_entry : (c : Control) (journal : List Entry) → WritersWait S c → Tells S c journal → (o : Option Event)
        → GateEntry S c o → (e : Event) → o ≡ Some e → AckWhileLive S.asked.ops journal e
    acked_entry c journal wait told _ (is_other o other) e is = other_acked journal e (subst IsOther is other)
    acked_entry c journal wait told _ (is_active v rest ended now) e is =
        let same : Active (record { 0 = v }) ≡ e = cc is in subst (AckWhileLive S.asked.ops journal) same tt
    acked_entry c journal wait told _ (is_answer k i new answer move) e is =
        let same : Ack i answer ≡ e = cc is in
        subst (AckWhileLive S.asked.ops journal) same (done_live c journal k i new answer move wait told)

    -- A RUN

    -- what each effect keeps
    pub record Keeps (w : World) : Type 0 where
      pub stamps : Stamps w
      pub told : Tells S w.control w.journal
      pub live : LiveAreDirty S (disks_by S w.log) w.control
      pub writers : WritersWait S w.control
      pub law : WriteGate S.start S.asked.ops w.log w.journal

    keeps_effect : (t : InTurn) (w : World) (call : Option Call) (x : Ended) (a : Change) → OverBase S P t w call x a
        → Keeps w → Keeps (after_effect S w call a)
    keeps_effect t w call x a o k = record {
      stamps = stamps;
      told = told;
      live = live;
      writers = writers_effect S t w.control o.effect k.writers;
      law = record {
        at_active = at_each_more Over w.journal new before (at_entered Over w.journal n (entry_of S a) (λ e is.
            let over = over_entry log w.control w.journal o.between k.told (entry_of S a) entry e is in
            let whole : take n log ≡ log = take_all n log (let count = stamps.calls in omega (arith, count)) in
            subst (λ l. ActiveOver S.start l w.journal e) (sym whole) over));
        at_ack = at_each_more Acked w.journal new k.law.at_ack (at_entered Acked w.journal n (entry_of S a)
            (acked_entry w.control w.journal k.writers k.told (entry_of S a) entry));
        always = always_more (DirtyWhileLive S.start) w.log call w.journal w.calls (entry_of S a) k.stamps.calls
            stamps.calls k.stamps.below k.law.always (dirty_now log w.control w.journal o.between k.told between)
            (dirty_now log (put S a w.control) (w.journal ++ new)
            (between_of S P (disks_by S log) (ledger (put S a w.control).round) (put S a w.control).round.phase
            o.behind)
            told live);
      };
    }
      where
        log : List Call
        log = log_after w.log call

        n : ℕ
        n = calls_after w.calls call

        new : List Entry
        new = entered n (entry_of S a)

        Over : List Entry → Entry → Type 0
        Over front e = ActiveOver S.start (take e.stamp log) front e.event

        Acked : List Entry → Entry → Type 0
        Acked front e = AckWhileLive S.asked.ops front e.event

        stamps : Stamps (after_effect S w call a)
        stamps = stamps_effect S w call a k.stamps

        told : Tells S (put S a w.control) (w.journal ++ new)
        told = tells_effect S t w.control call x a o.effect n w.journal k.told

        entry : GateEntry S w.control (entry_of S a)
        entry = effect_gate S w.control t o.effect

        between : LiveAreDirty S (disks_by S log) w.control
        between = live_call S P (disks_by S w.log) (disks_by S log) w.control o.does o.before.goes k.live

        live : LiveAreDirty S (disks_by S log) (put S a w.control)
        live = live_change S P (disks_by S log) t w.control o.effect o.between between

        before : AtEach Over w.journal
        before = at_each_before (λ l front e. ActiveOver S.start l front e.event) w.log call w.journal
            (subst (λ m. AllBelow m w.journal) k.stamps.calls k.stamps.below) k.law.at_active

    module _ (volumes : List Volume) (spares : List ℕ) (opening : Opening S P volumes spares) where
      shut : (v : ℕ) → (volume_at volumes v).state ≡ IsReadonly
      shut v = (opening.volumes_are v).state

      no_job : (k : ℕ) → job_of (begins_at S volumes spares).control k ≡ NoJob
      no_job k =
          no_jobs S P volumes spares opening (λ j. with_job (ops_of S.asked.ops j) NoJob) (λ j. refl)
          (range_with_len 0 CLIENTS) k

      keeps_open : Keeps (begins_at S volumes spares)
      keeps_open = record {
        stamps = stamps_open S volumes spares;
        told = tells_open S volumes spares shut;
        live = λ v alive. absurd (let dead = ap is_live (shut v) in cc (dead, alive));
        writers = λ k i r is writes sound. absurd (let idle = no_job k in let bad = sym idle ∙ is in cc bad);
        law = record {
          at_active = tt;
          at_ack = tt;
          always = always_none (DirtyWhileLive S.start) (λ v alive. absurd cc);
        };
      }

      pub run_keeps : (w : World) → Reached S volumes spares w → Keeps w
      run_keeps w run =
          (along_base S P volumes spares opening (λ t w. Keeps w) (record {
            opens = λ who. keeps_open;
            begins = λ t w who k. k;
            step = λ t w call x a o k. keeps_effect t w call x a o k;
          }) w run).1
