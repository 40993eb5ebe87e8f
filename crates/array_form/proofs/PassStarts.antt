-- In each run a pass begins right behind its volume's ready, or where an activation was applied.
use Rattle.std.proofs.Common.{◌≡◌, ℕ, ◌+◌, ◌||◌, nat_lt, nat_le, Bool, true, false, List, [], ◌∷◌, ◌++◌, map, length, refl, ap, sym, ◌∙◌, subst, arith, Option, Some, None, ◌⊎◌, inl, inr, slice_get}
use Rattle.std.specs.List.{AllByRecursion, last_or}
use Rattle.std.proofs.lemmas.Bool.{eq-eqb, and_parts}
use Rattle.std.proofs.lemmas.Bool.Decides.{nat_tests}
use Rattle.std.proofs.lemmas.List.{length-map}
use Rattle.device_log.specs.Log.{Call}
use Rattle.array_model.specs.Blocks.{Laid}
use Rattle.array_model.specs.declared.script.Ask.{Ask}
use Rattle.array_model.specs.declared.script.Ask.TheVariants.{Add, Rename, Remove}
use Rattle.array_model.specs.declared.journal.Entry.{Entry}
use Rattle.array_model.specs.declared.journal.Event.{Event}
use Rattle.array_model.specs.declared.journal.Event.TheVariants.{Begin, Spare, Pass as PassOpens, Ready, Applied}
use Rattle.array_model.specs.Renewal.{FitsGeneration}
use Rattle.array_model.specs.Events.{AtEachFrom, has, is_applied_from}
use Rattle.array_model.proofs.Journals.{at_each_more, has-append}
use Rattle.array_machine.specs.Setting.{Setting, Edit, TakesGeneration, RemovesDisk, NamesVolume}
use Rattle.array_machine.specs.EditWords.{AreApt}
use Rattle.array_machine.specs.EditFacts.{facts_of}
use Rattle.array_machine.specs.MonitorTurns.{is_due}
use Rattle.array_machine.specs.States.{ToReady, ToActiveAgain}
use Rattle.array_machine.specs.Volumes.{Slot, Pass, Volume}
use Rattle.array_machine.specs.Rounds.{Ended}
use Rattle.array_machine.specs.Managers.{IsUnposted, Want, OfAsk, OfSpareDisk, Update}
use Rattle.array_machine.specs.Updates.{EditsBook, WritesSpare, rename_refusals, remove_refusals, add_refusals, ask_verdict, verdict_of, applied_block}
use Rattle.array_machine.specs.Control.{Control}
use Rattle.array_machine.specs.Changes.{Change, RoundBegins, SpareEnds, StateGoes, ClientMoves, PassMoves, ManagerMoves, IsSilent, GoesOnQuietly, OpensAt, SaysNothing, Applies, entry_of}
use Rattle.array_machine.specs.Puts.{put}
use Rattle.array_machine.specs.Machine.{World, begins_at, entered, calls_after, Reached}
use Rattle.array_paths.specs.InTurn.{InTurn}
use Rattle.array_paths.specs.PassMove.{slots_of}
use Rattle.array_paths.specs.Effects.{Effect, after_effect}
use Rattle.array_base.specs.Premises.{generation_of, Premises}
use Rattle.array_base.specs.Opening.{Opening}
use Rattle.array_base.specs.Base.{Base}
use Rattle.array_base.specs.Laws.{OverBase}
use Rattle.array_form.specs.Behind.{Behind, BeginsUpdate}
use Rattle.array_form.specs.Follow.{FollowsTurns}
use Rattle.array_form.specs.Passes.{gives_others, NoneGives}
use Rattle.array_form.specs.PassStarts.{WasActivated, IsReadyOf, StartsAfter, PassesStartSo, ArePostedBelow, IsNumberedFor, AskNumbers, SaysReady, SaysApplied, PassStarts}
use Rattle.array_form.proofs.Counting.{sees}
use Rattle.array_form.proofs.Uncalled.{uncalled}
use Rattle.array_form.proofs.Waits.{last_behind}
use Rattle.array_form.proofs.Others.{IsPlain, edited_less}
use Rattle.array_form.proofs.NoOthers.{started_of, next_of, settled_step, due_gives_none, BringsNone, none_stays}
use Rattle.array_form.proofs.PassRuns.{none_at_opening}
use Rattle.array_form.specs.RoundCounts.{in_spare}
use Rattle.array_form.specs.SpareCauses.{SparesKnown}
use Rattle.array_form.proofs.SpareCauses.{not_refused, not_false, has_one, spares_step, spare_ended}
use Rattle.array_form.proofs.AskNumbers.{numbers_step}
use Rattle.array_form.proofs.AlongTurns.{along_turns}

-- WHAT AN ASK EDITS

module _ (S : Setting) where
  -- plain edits, which fit
  abbrev ArePlainAndApt : Control → List Edit → Type 0
  ArePlainAndApt c edits =
      AllByRecursion (IsPlain S) (edits ++ TakesGeneration (c.round.note + 1) ∷ [])
      × AreApt S (facts_of S c) c.round.book (edits ++ TakesGeneration (c.round.note + 1) ∷ [])

  ask_edits : (c : Control) → FitsGeneration (c.round.note + 1) → (ask : Option Ask) (edits : List Edit)
      → ask_verdict S c ask ≡ EditsBook edits → ArePlainAndApt c edits
  ask_edits c fits None edits is = absurd cc
  ask_edits c fits (Some (Add d)) edits is =
      absurd (let done = (not_refused (add_refusals S c d) (WritesSpare d) (EditsBook edits) (λ kind e. cc e) is).1 in
      cc done)
  ask_edits c fits (Some (Rename v name)) edits is =
      let passed = not_refused (rename_refusals S c v name) (EditsBook (NamesVolume v name ∷ []))
      (EditsBook edits) (λ kind e. cc e) is in
      let same : NamesVolume v name ∷ [] ≡ edits = (let done = passed.1 in cc done) in
      let there = not_false _ passed.0.0 in
      subst (ArePlainAndApt c) same ((tt, (tt, tt)), (there, (fits, tt)))
  ask_edits c fits (Some (Remove d)) edits is =
      let passed = not_refused (remove_refusals S c d)
      (EditsBook (RemovesDisk (S.start.disks.serial d) ∷ [])) (EditsBook edits) (λ kind e. cc e) is in
      let same : RemovesDisk (S.start.disks.serial d) ∷ [] ≡ edits = (let done = passed.1 in cc done) in
      let there = not_false _ passed.0.0 in
      let known = (and_parts (nat_lt d S.start.disks.count) _ there).1 in
      subst (ArePlainAndApt c) same ((tt, (tt, tt)), ((known, passed.0.1.0), (fits, tt)))

  -- ENTRIES

  abbrev asks : ℕ
  asks = length S.asked.asks

  abbrev Holds : List Entry → Entry → Type 0
  Holds front e = StartsAfter S.start S.asked front e.stamp e.event

  abbrev is_pass_entry : Event → Bool
  is_pass_entry (PassOpens v first) = true
  is_pass_entry _ = false

  none_starts : (n : ℕ) (front : List Entry) (o : Option Event) → sees is_pass_entry o ≡ false
      → AtEachFrom Holds front (entered n o)
  none_starts n front None no_pass = tt
  none_starts n front (Some (PassOpens v first)) no_pass = absurd cc
  none_starts n front (Some _) no_pass = (tt, tt)

  -- an activation is entered
  abbrev activated : List Entry → Bool
  activated journal = has (is_applied_from asks) journal

  abbrev Activated : List Entry → Type 0
  Activated journal = WasActivated S.start S.asked journal

  still_activated : (journal new : List Entry) → Activated journal → Activated (journal ++ new)
  still_activated journal new is = record {
    number = has-append (is_applied_from asks) journal new ∙ ap (λ b. b || activated new) is.number;
    spare = is.spare;
  }

  says_ready : (w : World) (call : Option Call) (a : Change) → SaysReady (Some a) (after_effect S w call a)
  says_ready w call (StateGoes v ToReady) =
      last_behind None w.journal (record { stamp = calls_after w.calls call; event = Ready (record { 0 = v }) })
  says_ready w call _ = tt

  or_true : (b : Bool) → (b || true) ≡ true
  or_true true = refl
  or_true false = refl

  says_applied : (journal : List Entry) (n : ℕ) (a : Change)
      → SaysApplied asks (Some a) (journal ++ entered n (entry_of S a))
  says_applied journal n (ManagerMoves new (Applies u)) = λ le.
      let here : nat_le asks u ≡ true = grind (arith, nat_tests, le) in
      let one : activated (record { stamp = n; event = Applied u } ∷ []) ≡ true = rw here refl in
      has-append (is_applied_from asks) journal (record { stamp = n; event = Applied u } ∷ [])
      ∙ ap (λ b. activated journal || b) one ∙ or_true (activated journal)
  says_applied journal n _ = tt

  module _ (P : Premises S) where
    -- A ROUND THAT BEGINS FOR AN UPDATE

    -- what an ask edits brings no other disks
    ask_brings : (v : ℕ) (b c : Control) (m : Laid) (edits : List Edit) (ask : Option Ask)
        → FitsGeneration (b.round.note + 1) → ask_verdict S b ask ≡ EditsBook edits → m ≡ applied_block S b edits
        → c.round.book ≡ b.round.book → P.edits.formed c.round.book ≡ true → S.start.is_started v ≡ true
        → (slots : List Slot) → gives_others S c.round.book v slots ≡ false → gives_others S m v slots ≡ false
    ask_brings v b c m edits ask fits verdict is book formed started slots none =
        let good = ask_edits b fits ask edits verdict in
        ap (λ x. gives_others S x v slots) is
        ∙ edited_less S P (facts_of S b) v started slots b.round.book
        (edits ++ TakesGeneration (b.round.note + 1) ∷ []) good.0 good.1
        (subst (λ x. P.edits.formed x ≡ true) book formed)
        (subst (λ x. gives_others S x v slots ≡ false) book none)

    -- it is an ask's, and brings no other disks, or an activation's, which is entered
    update_brings : (v : ℕ) (t : InTurn) (prev : Option Change) (w : World) (m : Laid) → PassStarts S t prev w
        → FitsGeneration (t.before.round.note + 1) → Base S P w.log w.control
        → BeginsUpdate S t.before w.control prev m
        → Activated w.journal
        ⊎ (S.start.is_started v ≡ true → BringsNone S P v w.control (RoundBegins m))
    update_brings v t prev w m had fits base update =
        let takes = update.update.takes in
        at takes.update.want update.update.verdict_is (first_of had.before.queued)
      where
        u : Update
        u = update.update.takes.update

        first_of : AllByRecursion (λ (x : Update). IsNumberedFor asks t.before.manager.posted x.want x.number)
            t.before.manager.queue → IsNumberedFor asks t.before.manager.posted u.want u.number
        first_of all = (subst (λ q. AllByRecursion (λ (x : Update). IsNumberedFor asks t.before.manager.posted x.want
            x.number) q) update.update.takes.first all).0

        at : (want : Want) → verdict_of S t.before u.seen want ≡ EditsBook update.edits
            → IsNumberedFor asks t.before.manager.posted want u.number
            → Activated w.journal
            ⊎ (S.start.is_started v ≡ true → BringsNone S P v w.control (RoundBegins m))
        at (OfAsk i) verdict numbered = inr (λ started.
            ask_brings v t.before w.control m update.edits (slice_get S.asked.asks i) fits verdict update.block
            (ap (λ (c : Control). c.round.book) update.update.now) base.core.hand.book.form started
            (slots_of w.control v))
        at (OfSpareDisk d i) verdict numbered =
            let says = subst (λ p. SaysApplied asks p w.journal) update.update.behind had.applied in
            let same = update.update.takes.number in
            inl (record {
              number = says (omega (arith, numbered, same));
              spare = has_one S t.before u.seen d i update.edits had.spares_before verdict;
            })

    -- EFFECTS

    numbers_of : (t : InTurn) (prev : Option Change) (more : List Change) (w : World) (a : Change)
        → Behind S t.before w.control prev more a → AskNumbers asks w.control.manager
        → AskNumbers asks (put S a w.control).manager
    numbers_of t prev more w a behind had = numbers_step S asks t.before w.control prev more a behind had

    none_of : (v : ℕ) (t : InTurn) (prev : Option Change) (more : List Change) (w : World) (call : Option Call)
        (x : Ended) (a : Change) → OverBase S P t w call x a → Behind S t.before w.control prev more a
        → PassStarts S t prev w
        → Activated w.journal ⊎ (S.start.is_started v ≡ true → NoneGives S v w.control)
        → Activated (after_effect S w call a).journal
        ⊎ (S.start.is_started v ≡ true → NoneGives S v (put S a w.control))
    none_of v t prev more w call x a over behind had (inl is) = inl (still_activated w.journal _ is)
    none_of v t prev more w call x (RoundBegins m) over (inl due) had (inr none) =
        let next = next_of S t w.control m (uncalled S t w.control call x (RoundBegins m) over.effect
        (Begin (generation_of S m)) refl refl).1 in
        let is_now : is_due S w.control ≡ true = subst (λ c. is_due S c ≡ true) (sym due.now) due.due in
        inr (λ started. none_stays S P v t prev more w call x (RoundBegins m) over (inl due)
        (due_gives_none S P v t w m next is_now over.before started) (none started))
    none_of v t prev more w call x (RoundBegins m) over (inr update) had (inr none) =
        elim (update_brings v t prev w m had over.fits over.before update) [
          | inl is ↦ inl (still_activated w.journal _ is)
          | inr brings ↦ inr (λ started. none_stays S P v t prev more w call x (RoundBegins m) over (inr update)
              (brings started) (none started))
        ]
    none_of v t prev more w call x a over behind had (inr none) =
        inr (λ started. none_stays S P v t prev more w call x a over behind tt (none started))

    ready_before : (t : InTurn) (prev : Option Change) (w : World) (call : Option Call) (x : Ended) (v first : ℕ)
        (slots : List Slot) (new : Option Pass)
        → Effect S t w.control call x (PassMoves v slots new (OpensAt first)) → prev ≡ Some (StateGoes v ToReady)
        → SaysReady prev w → IsReadyOf v (calls_after w.calls call) (last_or None w.journal)
    ready_before t prev w (Some call) x v first slots new effect is says =
        absurd (let none = (uncalled S t w.control (Some call) x (PassMoves v slots new (OpensAt first)) effect
        (PassOpens (record { 0 = v }) first) refl refl).0 in cc none)
    ready_before t prev w None x v first slots new effect is says =
        let last = subst (λ p. SaysReady p w) is says in
        subst (λ e. IsReadyOf v w.calls e) (sym last) (refl, eq-eqb v v refl)

    one_starts : (t : InTurn) (prev : Option Change) (more : List Change) (w : World) (call : Option Call) (x : Ended)
        (a : Change) → OverBase S P t w call x a → Behind S t.before w.control prev more a → PassStarts S t prev w
        → AtEachFrom Holds w.journal (entered (calls_after w.calls call) (entry_of S a))
    one_starts t prev more w call x (PassMoves v slots new (OpensAt first)) over (inl ready) had =
        (inl (ready_before t prev w call x v first slots new over.effect ready.behind had.ready), tt)
    one_starts t prev more w call x (PassMoves v slots new (OpensAt first)) over (inr seated) had = (
      inr (elim (had.none v) [
        | inl is ↦ is
        | inr none ↦
            let started = started_of S t w.control v first slots new (uncalled S t w.control call x
            (PassMoves v slots new (OpensAt first)) over.effect (PassOpens (record { 0 = v }) first) refl refl).1 in
            let last = (none (over.ready.started v started)).in_last in
            let other = seated.other in
            absurd (cc (last, other))
      ]),
      tt,
    )
    one_starts t prev more w call x (PassMoves v slots new GoesOnQuietly) over behind had = tt
    one_starts t prev more w call x (StateGoes v ToActiveAgain) over behind had = tt
    one_starts t prev more w call x (ClientMoves k client IsSilent) over behind had = tt
    one_starts t prev more w call x (ManagerMoves new SaysNothing) over behind had = tt
    one_starts t prev more w call x a over behind had =
        none_starts (calls_after w.calls call) w.journal (entry_of S a) refl

    -- RUNS

    all_unposted : (place : ℕ) (xs : List Ask) → ArePostedBelow place (map (λ ask. IsUnposted) xs) 0
    all_unposted place [] = tt
    all_unposted place (x ∷ xs) = (tt, all_unposted (place + 1) xs)

    module _ (volumes : List Volume) (spares : List ℕ) (o : Opening S P volumes spares) where
      numbers_at_opening : AskNumbers asks (begins_at S volumes spares).control.manager
      numbers_at_opening = record {
        long = length-map S.asked.asks _;
        below = all_unposted 0 S.asked.asks;
        queued = tt;
      }

      spares_at_opening : SparesKnown S (begins_at S volumes spares).control
      spares_at_opening = record {
        spares = λ d is. inl (sym (o.spares_are d) ∙ is);
        written = λ is. absurd cc;
      }

      ends_one : (t : InTurn) (w : World) (call : Option Call) (x : Ended) (a : Change) → OverBase S P t w call x a
          → (d : ℕ) → a ≡ SpareEnds d → in_spare w.control.round.phase ≡ true
      ends_one t w call x a over d is =
          let effect = subst (λ b. Effect S t w.control call x b) is over.effect in
          spare_ended S t w.control d
          (uncalled S t w.control call x (SpareEnds d) effect (Spare (record { 0 = d })) refl refl).1

      abbrev Q : InTurn → Option Change → List Change → World → Type 0
      Q t prev more w = PassStarts S t prev w

      follows : FollowsTurns S P volumes spares Q
      follows = record {
        opens = record {
          law = tt;
          ready = tt;
          applied = tt;
          settled = λ went_on now. absurd cc;
          before = numbers_at_opening;
          numbers = numbers_at_opening;
          spares_before = spares_at_opening;
          spares = spares_at_opening;
          none = λ v. inr (λ started. none_at_opening S P volumes spares o v);
        };
        begins = λ t prev w who more had. record {
          law = had.law;
          ready = tt;
          applied = tt;
          settled = λ went_on now. absurd cc;
          before = had.numbers;
          numbers = had.numbers;
          spares_before = had.spares;
          spares = had.spares;
          none = had.none;
        };
        step = λ t prev more w call x a over behind had. record {
          law = at_each_more Holds w.journal _ had.law (one_starts t prev more w call x a over behind had);
          ready = says_ready w call a;
          applied = says_applied w.journal (calls_after w.calls call) a;
          settled = settled_step S P t prev more w call x a over behind had.settled;
          before = had.before;
          numbers = numbers_of t prev more w a behind had.numbers;
          spares_before = had.spares_before;
          spares = spares_step S t.before w.control prev more a behind (ends_one t w call x a over) had.spares;
          none = λ v. none_of v t prev more w call x a over behind had (had.none v);
        };
      }

      pub starts_in_each : (w : World) → Reached S volumes spares w → PassesStartSo S.start S.asked w.journal
      starts_in_each w run = (along_turns S P volumes spares o Q follows w run).1.2.law
