-- In each run blocks back the slots that volumes have, and each read of a row is of a member in sync.
use Rattle.std.proofs.Common.{◌≡◌, ℕ, ◌+◌, ◌<◌, ◌≤◌, nat_le, Bool, true, false, cond, if◌then◌else◌, List, [], ◌∷◌, ◌++◌, length, map, take, refl, ap, sym, ◌∙◌, subst, arith, Option, Some, None, inl}
use Rattle.std.proofs.lemmas.Bool.Decides.{nat_tests}
use Rattle.std.proofs.lemmas.List.{append-nil, take-append-le, take_all}
use Rattle.std.proofs.lemmas.List.Elements.{filter-append}
use Rattle.device_log.specs.Log.{Call, What, Read, Write, Sync}
use Rattle.array_model.specs.declared.journal.Entry.{Entry}
use Rattle.array_model.specs.declared.journal.Event.{Event}
use Rattle.array_model.specs.Blocks.{Laid}
use Rattle.array_model.specs.Events.{up_to, is_faulty}
use Rattle.array_model.specs.Moments.{AllBelow, EachCall, EachCallFrom}
use Rattle.array_model.specs.Rounds.{IsFinished}
use Rattle.array_model.specs.AnswerLaw.{IsSyncAt, ReadsInSync}
use Rattle.array_machine.specs.Setting.{Setting}
use Rattle.array_machine.specs.Numbers.{has}
use Rattle.array_machine.specs.Volumes.{Volume, volume_at}
use Rattle.array_machine.specs.Rounds.{Ended}
use Rattle.array_machine.specs.Control.{Control}
use Rattle.array_machine.specs.Changes.{Change, entry_of}
use Rattle.array_machine.specs.Puts.{put}
use Rattle.array_machine.specs.Machine.{Actor, World, Reached, begins_at, calls_after, log_after, entered}
use Rattle.array_paths.specs.InTurn.{InTurn}
use Rattle.array_paths.specs.Follows.{in_turn}
use Rattle.array_paths.specs.Effects.{after_effect}
use Rattle.array_base.specs.Premises.{Premises}
use Rattle.array_base.specs.Opening.{slot_opened, Opening}
use Rattle.array_base.specs.Laws.{OverBase}
use Rattle.array_base.specs.Base.{ledger, disks_by, Core}
use Rattle.array_base.proofs.Finished.{finished_first, finished_later}
use Rattle.array_base.proofs.Runs.{along_base}
use Rattle.array_failures.proofs.ToldCalls.{each_call_more}
use Rattle.array_told.specs.Told.{finished_generation, Tells, Stamps}
use Rattle.array_told.proofs.Tells.{tells_effect, tells_open}
use Rattle.array_told.proofs.Stamps.{stamps_effect, stamps_open}
use Rattle.array_answers.specs.Slots.{words_at, IsAhead, SlotsHold, AllSlotsHold, SlotsInTurn}
use Rattle.array_answers.specs.Takeovers.{ReadsMetadata}
use Rattle.array_answers.proofs.Moved.{said_backed, said_counted}
use Rattle.array_answers.proofs.Holds.{GoesByBook, goes_by_book, slots_effect}
use Rattle.array_answers.proofs.RowReads.{ReadOf, ReadBy, effect_short, effect_reads}

-- A JOURNAL THAT GROWS

-- what is entered later isn't of this moment
up_to_entry : (n before : ℕ) (e : Option Event) → before < n → up_to before (entered n e) ≡ []
up_to_entry n before None lt = refl
up_to_entry n before (Some e) lt = at (nat_le n before) refl
  where
    one : List Entry
    one = record { stamp = n; event = e } ∷ []

    at : (b : Bool) → nat_le n before ≡ b → cond b one [] ≡ []
    at true is = absurd (let le : n ≤ before = grind (arith, nat_tests, is) in omega (arith, le, lt))
    at false is = refl

up_to_before : (n before : ℕ) (journal : List Entry) (e : Option Event) → before < n
    → up_to before (journal ++ entered n e) ≡ up_to before journal
up_to_before n before journal e lt =
    filter-append (λ (x : Entry). nat_le x.stamp before) journal (entered n e)
    ∙ ap (λ more. up_to before journal ++ more) (up_to_entry n before e lt) ∙ append-nil (up_to before journal)

up_to_all : (n : ℕ) (journal : List Entry) → AllBelow n journal → up_to n journal ≡ journal
up_to_all n [] below = refl
up_to_all n (x ∷ xs) below =
    let le = below.0 in
    let is : nat_le x.stamp n ≡ true = grind (arith, nat_tests, le) in
    rw is (ap (λ more. x ∷ more) (up_to_all n xs below.1))

module _ (S : Setting) where
  -- CALLS MADE BEFORE

  read_before : (log : List Call) (call : Option Call) (journal : List Entry) (n : ℕ) (e : Option Event) (before d : ℕ)
      (what : What) → before < length log → before < n → ReadsInSync S.start log journal before d what
      → ReadsInSync S.start (log_after log call) (journal ++ entered n e) before d what
  read_before log call journal n e before d (Write place sectors stored) inside lt had = tt
  read_before log call journal n e before d Sync inside lt had = tt
  read_before log call journal n e before d (Read place) inside lt had = λ v has_row room.
      let old = had v has_row room in
      record {
        sound = subst (λ es. is_faulty d es ≡ false) (sym (up_to_before n before journal e lt)) old.sound;
        in_sync = λ m finished. old.in_sync m (subst (λ es. IsFinished S.start (take before log) es m)
            (up_to_before n before journal e lt)
            (subst (λ l. IsFinished S.start l (up_to before (journal ++ entered n e)) m) (same_calls call) finished));
      }
    where
      same_calls : (call : Option Call) → take before (log_after log call) ≡ take before log
      same_calls None = refl
      same_calls (Some x) = take-append-le before log (x ∷ []) (omega (arith, inside))

  reads_before : (log : List Call) (call : Option Call) (journal : List Entry) (n : ℕ) (e : Option Event)
      → length log ≤ n → (k : ℕ) (calls : List Call) → k + length calls ≤ length log
      → EachCallFrom (λ before x. ReadsInSync S.start log journal before x.disk x.what) k calls
      → EachCallFrom
      (λ before x. ReadsInSync S.start (log_after log call) (journal ++ entered n e) before x.disk x.what) k calls
  reads_before log call journal n e enough k [] inside each = tt
  reads_before log call journal n e enough k (x ∷ xs) inside each = (
    read_before log call journal n e k x.disk x.what (omega (arith, inside)) (omega (arith, inside, enough)) each.0,
    reads_before log call journal n e enough (k + 1) xs (omega (arith, inside)) each.1,
  )

  -- THE CALL OF AN EFFECT

  module _ (P : Premises S) (log : List Call) (journal : List Entry) (c : Control)
      (core : Core S P (disks_by S log) (ledger c.round)) (told : Tells S c journal) where
    pub last_only : (m : Laid) → IsFinished S.start log journal m → m ≡ c.round.last
    last_only m finished = at c.round.first refl
      where
        at : (first : Bool) → c.round.first ≡ first → m ≡ c.round.last
        at true is =
            finished_first S P log journal (ledger c.round) core m finished is
            (told.ends ∙ ap (λ f. finished_generation S f c.round) is)
        at false is =
            finished_later S P log journal (ledger c.round) core m finished is
            (told.ends ∙ ap (λ f. finished_generation S f c.round) is)

    read_now : (call : Call) (e : Option Event) → AllBelow (length log) journal → ReadOf S c call.disk call.what
        → ReadsInSync S.start (log ++ call ∷ []) (journal ++ entered (length log + 1) e) (length log) call.disk
        call.what
    read_now call e below of = at call.what of
      where
        calls : take (length log) (log ++ call ∷ []) ≡ log
        calls =
            take-append-le (length log) log (call ∷ []) (omega arith) ∙ take_all (length log) log (omega arith)

        entries : up_to (length log) (journal ++ entered (length log + 1) e) ≡ journal
        entries =
            up_to_before (length log + 1) (length log) journal e (omega arith) ∙ up_to_all (length log) journal below

        at : (what : What) → ReadOf S c call.disk what
            → ReadsInSync S.start (log ++ call ∷ []) (journal ++ entered (length log + 1) e) (length log) call.disk what
        at (Write place sectors stored) of = tt
        at Sync of = tt
        at (Read place) of = λ v has_row room.
            let own = of room in
            record {
              sound = subst (λ es. is_faulty call.disk es ≡ false) (sym entries) (told.faults call.disk ∙ own.0);
              in_sync = λ m finished.
                  let here = subst (λ es. IsFinished S.start log es m) entries
                  (subst (λ l. IsFinished S.start l (up_to (length log) (journal ++ entered (length log + 1) e)) m)
                  calls
                  finished) in
                  subst (λ x. IsSyncAt S.start x call.disk place) (sym (last_only m here)) own.1;
            }

    reads_more : (call : Option Call) (n : ℕ) (e : Option Event) → calls_after n call ≡ calls_after (length log) call
        → AllBelow (length log) journal → ReadBy S c call
        → EachCall (λ before x. ReadsInSync S.start log journal before x.disk x.what) log
        → EachCall (λ before x. ReadsInSync S.start (log_after log call)
        (journal ++ entered (calls_after n call) e) before x.disk x.what) (log_after log call)
    reads_more None n e is below of each =
        reads_before log None journal n e (omega (arith, is)) 0 log (omega arith) each
    reads_more (Some x) n e is below of each =
        subst (λ stamp. EachCall (λ before y. ReadsInSync S.start (log ++ x ∷ []) (journal ++ entered stamp e)
        before y.disk y.what) (log ++ x ∷ [])) (sym is)
        (each_call_more _ 0 log x
        (reads_before log (Some x) journal (length log + 1) e (omega arith) 0 log (omega arith) each)
        (let here : 0 + length log ≡ length log = omega arith in
        subst (λ before. ReadsInSync S.start (log ++ x ∷ []) (journal ++ entered (length log + 1) e) before x.disk
        x.what) (sym here) (read_now x e below of)))

  -- RUNS

  -- what each effect keeps
  pub record Keeps (t : InTurn) (w : World) : Type 0 where
    pub stamps : Stamps w
    pub told : Tells S w.control w.journal
    pub slots : SlotsInTurn S t w.control
    pub goes : GoesByBook S w.control
    pub short : ReadsMetadata S w.control.round.life
    pub law : EachCall (λ before x. ReadsInSync S.start w.log w.journal before x.disk x.what) w.log

  module _ (P : Premises S) where
    pub keeps_effect : (t : InTurn) (w : World) (call : Option Call) (x : Ended) (a : Change)
        → OverBase S P t w call x a
        → Keeps t w → Keeps t (after_effect S w call a)
    keeps_effect t w call x a o k = record {
      stamps = stamps_effect S w call a k.stamps;
      told = tells_effect S t w.control call x a o.effect (calls_after w.calls call) w.journal k.told;
      slots = slots_effect S P w.log w.control o.before t o.ready k.slots o.effect;
      goes = goes_by_book S P (log_after w.log call) (put S a w.control) o.behind;
      short = effect_short S w.control t k.short o.effect;
      law = reads_more P w.log w.journal w.control o.before.core k.told call w.calls (entry_of S a)
          (ap (λ n. calls_after n call) k.stamps.calls)
          (subst (λ n. AllBelow n w.journal) k.stamps.calls k.stamps.below)
          (effect_reads S P w.control o.ready k.slots.now k.short t o.effect) k.law;
    }

    module _ (volumes : List Volume) (spares : List ℕ) (opening : Opening S P volumes spares) where
      abbrev start : Control
      start = (begins_at S volumes spares).control

      open_ahead : (v : ℕ) → IsAhead S true [] S.start.newest v (map (slot_opened S) (words_at S S.start.newest v))
          S.start.newest
      open_ahead v = record {
        has = said_backed S [] true (words_at S S.start.newest v);
        said = said_backed S [] true (words_at S S.start.newest v);
        closed = λ kind was none. absurd (cc (was, none));
      }

      slots_open : AllSlotsHold S start
      slots_open v started =
          let opens = opening.volumes_are v in
          let slots : (volume_at volumes v).slots ≡ map (slot_opened S) (words_at S S.start.newest v) =
          opens.slots ∙ ap (λ b. if b then map (slot_opened S) (words_at S S.start.newest v) else []) started in
          subst (SlotsHold S true [] S.start.newest S.start.newest (λ d. S.start.newest) v) (sym slots)
          (record {
            of_book = open_ahead v;
            of_last = open_ahead v;
            of_given = λ d young. open_ahead v;
            counted = λ first. said_counted S (words_at S S.start.newest v);
          })

      in_turn_now : (c : Control) → AllSlotsHold S c → GoesByBook S c → (t : InTurn) → t.before ≡ c
          → SlotsInTurn S t c
      in_turn_now c now goes t same = record {
        before = subst (AllSlotsHold S) (sym same) now;
        now = now;
        faults = λ d sound. subst (λ b. has d b.round.faults ≡ false) (sym same) sound;
        started = λ v is. subst (λ (b : Control). (volume_at b.volumes v).started ≡ true) (sym same) is;
        ended = inl (ap (λ (b : Control). b.round.last) (sym same));
        round = subst (GoesByBook S) (sym same) goes;
      }

      none_goes : GoesByBook S start
      none_goes m step left late done is = absurd (cc is)

      pub keeps_open : (who : Actor) → Keeps (in_turn start who) (begins_at S volumes spares)
      keeps_open who = record {
        stamps = stamps_open S volumes spares;
        told = tells_open S volumes spares (λ v. (opening.volumes_are v).state);
        slots = in_turn_now start slots_open none_goes _ refl;
        goes = none_goes;
        short = tt;
        law = tt;
      }

      pub keeps_begin : (t : InTurn) (w : World) (who : Actor) → Keeps t w → Keeps (in_turn w.control who) w
      keeps_begin t w who k = record {
        stamps = k.stamps;
        told = k.told;
        slots = in_turn_now w.control k.slots.now k.goes _ refl;
        goes = k.goes;
        short = k.short;
        law = k.law;
      }

      keeps_run : (w : World) → Reached S volumes spares w → (t : InTurn) × Keeps t w
      keeps_run =
          along_base S P volumes spares opening Keeps (record {
            opens = keeps_open;
            begins = keeps_begin;
            step = keeps_effect;
          })

      pub reads_in_sync : (w : World) → Reached S volumes spares w
          → EachCall (λ before x. ReadsInSync S.start w.log w.journal before x.disk x.what) w.log
      reads_in_sync w run = (keeps_run w run).1.law

      pub slots_hold : (w : World) → Reached S volumes spares w → AllSlotsHold S w.control
      slots_hold w run = (keeps_run w run).1.slots.now
