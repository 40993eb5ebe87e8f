-- The last finished round of journal and log, over every run.
use Rattle.std.proofs.Common.{◌≡◌, ℕ, ◌+◌, ◌<◌, ◌≤◌, ◌==◌, Bool, true, false, List, [], ◌∷◌, ◌++◌, length, drop, refl, ap, sym, ◌∙◌, subst, arith, length-append, ◌⊎◌, inl, inr, Option, Some, None}
use Rattle.std.specs.Prelude.{⊤}
use Rattle.std.specs.List.{AllByRecursion}
use Rattle.std.proofs.lemmas.Bool.Decides.{nat_tests}
use Rattle.std.proofs.lemmas.List.{append-nil}
use Rattle.units.specs.declared.disk.Sector.{Sector}
use Rattle.device_log.specs.Log.{Call}
use Rattle.array_model.specs.declared.journal.Entry.{Entry}
use Rattle.array_model.specs.declared.journal.Event.{Event}
use Rattle.array_model.specs.declared.journal.Event.TheVariants.{Begin, End, Submit, Ack, Ready, Active, Clean, Idle}
use Rattle.array_model.specs.declared.journal.Answer.TheVariants.{Past}
use Rattle.array_model.specs.Blocks.{Laid, is_container}
use Rattle.array_model.specs.Candidates.{In, writes}
use Rattle.array_model.specs.Moments.{Always}
use Rattle.array_model.specs.Rounds.{IsFinished, IsFinishedBy, HasFinished, ended, ended_from, ended_at, begun, begun_from, begun_at}
use Rattle.array_model.specs.Renewal.{FitsGeneration}
use Rattle.stage_machine.specs.Setting.{Setting, Renews}
use Rattle.stage_machine.specs.Opens.{StandsOnAll, IsFirstVolume}
use Rattle.stage_machine.specs.Rounds.{Step, AtAnchor, AtSync, Phase, Rest, Going, Round}
use Rattle.stage_machine.specs.States.{State, IsReadonly, IsReadAuto, IsClean, IsPending, IsActive, IsIdle, the_volume, asked_events, next_dirty}
use Rattle.stage_machine.specs.Machine.{Control, World, Action, Reached, opens, goes, happens, call_of, got_of, turned, stamped, calls_after, log_after}
use Rattle.stage_machine.proofs.Turns.{Turns, turns_of, nothing, fails, anchors, settles, ends, begins, readies, actives, cleans, rests, pasts, asks_read, asks_write, puts, syncs, gets, acks}
use Rattle.stage_machine.proofs.Moments.{always_more, always_none, EachFront, counted_reached}
use Rattle.stage_machine.proofs.Clients.{Mine, mine_reached}
use Rattle.stage_machine.proofs.Stands.{GoodRound, same_container, going_good, good_reached, renewed, fitted}
use Rattle.stage_machine.proofs.Finished.{LeftIn, left_reached}
use Rattle.stage_machine.proofs.Marks.{AllMarks, all_marks_map, written_marks}
use Rattle.round_law.proofs.Facts.{gen, KindOf, kind_turns, marks_more, writes_grow, writes_anchor, longer}
use Rattle.array_model.proofs.Journals.{fronts_of_one}

-- WORDS

ended-append : (o : Option ℕ) (xs ys : List Entry) → ended_from o (xs ++ ys) ≡ ended_from (ended_from o xs) ys
ended-append o [] ys = refl
ended-append o (x ∷ xs) ys = ended-append (ended_at o x.event) xs ys

begun-append : (g : ℕ) (o : Option ℕ) (xs ys : List Entry) → begun_from g o (xs ++ ys) ≡ begun_from g (begun_from g o xs) ys
begun-append g o [] ys = refl
begun-append g o (x ∷ xs) ys = begun-append g (begun_at g o x.stamp x.event) xs ys

-- entries that end no round, and begin none of generation g
record Hush (g : ℕ) (new : List Entry) : Type 0 where
  ends : (o : Option ℕ) → ended_from o new ≡ o
  begins : (o : Option ℕ) → begun_from g o new ≡ o

hush_none : (g : ℕ) → Hush g []
hush_none g = record { ends = λ o. refl; begins = λ o. refl }

-- THE LAST FINISHED ROUND

pub record Done (S : Setting) (last : Laid) (log : List Call) (journal : List Entry) : Type 0 where
  pub stamp : ℕ
  pub begun_at : begun (gen S last) journal ≡ Some stamp
  pub short : stamp ≤ length log
  pub ended_as : ended journal ≡ Some (gen S last)
  pub disk : ℕ
  pub written : In last (writes S.start.words S.start.disks disk (drop stamp log))
  pub container : is_container S.start.words last ≡ true

pub record Facts (S : Setting) (last : Laid) (started : Bool) (log : List Call) (journal : List Entry) : Type 0 where
  pub before : started ≡ false → (last ≡ S.start.newest) × (ended journal ≡ None)
  pub done : started ≡ true → Done S last log journal
  pub one : started ≡ true → AllMarks S (λ m. gen S m ≡ gen S last → m ≡ last) log

-- THE ROUND THAT IS GOING ON

pub record Under (S : Setting) (note : ℕ) (last : Laid) (started : Bool) (m : Laid) (log : List Call) (journal : List Entry) : Type 0 where
  pub gen_is : gen S m ≡ note
  pub stamp : ℕ
  pub begun_at : begun note journal ≡ Some stamp
  pub short : stamp ≤ length log
  pub above : started ≡ true → gen S last < note
  pub one : AllMarks S (λ a. gen S a ≡ note → a ≡ m) log

-- the first target left has the anchor once it is to be synced
abbrev pub FirstWritten : Setting → Laid → List Call → ℕ → List ℕ → Step → Type 0
FirstWritten S m log stamp [] AtAnchor = ⊤
FirstWritten S m log stamp (d ∷ ds) AtAnchor = ⊤
FirstWritten S m log stamp [] AtSync = ⊤
FirstWritten S m log stamp (d ∷ ds) AtSync = In m (writes S.start.words S.start.disks d (drop stamp log))

abbrev pub GoingFacts : Setting → Round → List Call → List Entry → Phase → Type 0
GoingFacts S r log journal Rest = ⊤
GoingFacts S r log journal (Going m step left) = (u : Under S r.note r.last r.started m log journal) × FirstWritten S m log u.stamp left step

pub record Kept (S : Setting) (r : Round) (log : List Call) (journal : List Entry) : Type 0 where
  pub facts : Facts S r.last r.started log journal
  pub low : gen S r.last ≤ r.note
  pub all : AllMarks S (λ m. gen S m ≤ r.note) log
  pub going : GoingFacts S r log journal r.phase

module _ (S : Setting) (volume : IsFirstVolume S) where
  -- what is kept as the last finished round is that of journal and log
  pub is_finished : (last : Laid) (started : Bool) (log : List Call) (journal : List Entry) → Facts S last started log journal → IsFinished S.start log journal last
  is_finished last false log journal facts = let was = facts.before refl in subst (IsFinishedBy S.start log journal last) (sym was.1) was.0
  is_finished last true log journal facts =
      let done = facts.done refl in
      subst (IsFinishedBy S.start log journal last) (sym done.ended_as) (done.stamp, done.begun_at, record { disk = done.disk; written = done.written; generation = refl; container = done.container })

  -- one block, and no other
  pub has_finished : (last : Laid) (started : Bool) (log : List Call) (journal : List Entry) → Facts S last started log journal → HasFinished S.start log journal
  has_finished last false log journal facts =
      let was = facts.before refl in
      record {
        block = last;
        is = is_finished last false log journal facts;
        one = λ m fin. let newest : m ≡ S.start.newest = subst (IsFinishedBy S.start log journal m) was.1 fin in newest ∙ sym was.0;
      }
  has_finished last true log journal facts =
      let done = facts.done refl in
      record {
        block = last;
        is = is_finished last true log journal facts;
        one = λ m fin. only m (subst (IsFinishedBy S.start log journal m) done.ended_as fin);
      }
    where
      only : (m : Laid) → IsFinishedBy S.start log journal m (Some (gen S last)) → m ≡ last
      only m (stamp, at_begin, round) =
          written_marks S volume (λ a. gen S a ≡ gen S last → a ≡ last) log stamp round.disk m (facts.one refl) round.written round.generation

  -- A CALL, AND HUSHED ENTRIES

  module _ (c : Control) (good : GoodRound S c.round) (left : LeftIn S c.round.phase) (log : List Call) (journal : List Entry) (old : Kept S c.round log journal) where
    -- the anchor of the round that is going on
    anchor_is : (m : Laid) (rest : List ℕ) → c.round.phase ≡ Going m AtAnchor rest → Under S c.round.note c.round.last c.round.started m log journal
    anchor_is m rest is = (subst (GoingFacts S c.round log journal) is old.going).0

    facts_more : (x : Option Call) (new : List Entry) → KindOf S c x → Hush (gen S c.round.last) new → Facts S c.round.last c.round.started (log_after log x) (journal ++ new)
    facts_more x new kind hush = record {
      before = λ not_yet. let was = old.facts.before not_yet in (was.0, ended-append None journal new ∙ hush.ends (ended journal) ∙ was.1);
      done = λ yet.
          let d = old.facts.done yet in
          record {
            stamp = d.stamp;
            begun_at = begun-append (gen S c.round.last) None journal new ∙ hush.begins (begun (gen S c.round.last) journal) ∙ d.begun_at;
            short = let more = longer log x in let short = d.short in omega (arith, more, short);
            ended_as = ended-append None journal new ∙ hush.ends (ended journal) ∙ d.ended_as;
            disk = d.disk;
            written = writes_grow S volume d.disk d.stamp c.round.last log x d.short d.written;
            container = d.container;
          };
      one = λ yet. marks_more S (λ m. gen S m ≡ gen S c.round.last → m ≡ c.round.last) c good left
          (λ m rest is. let u = anchor_is m rest is in λ same. absurd (let above = u.above yet in let of_round = u.gen_is in omega (arith, above, of_round, same)))
          log x kind (old.facts.one yet);
    }

    all_more : (x : Option Call) → KindOf S c x → AllMarks S (λ m. gen S m ≤ c.round.note) (log_after log x)
    all_more x kind = marks_more S (λ m. gen S m ≤ c.round.note) c good left (λ m rest is. let u = anchor_is m rest is in let of_round = u.gen_is in omega (arith, of_round)) log x kind old.all

    under_more : (m : Laid) (step : Step) (rest : List ℕ) (x : Option Call) (new : List Entry) → c.round.phase ≡ Going m step rest → KindOf S c x → Hush c.round.note new
        → Under S c.round.note c.round.last c.round.started m log journal → Under S c.round.note c.round.last c.round.started m (log_after log x) (journal ++ new)
    under_more m step rest x new is kind hush u = record {
      gen_is = u.gen_is;
      stamp = u.stamp;
      begun_at = begun-append c.round.note None journal new ∙ hush.begins (begun c.round.note journal) ∙ u.begun_at;
      short = let more = longer log x in let short = u.short in omega (arith, more, short);
      above = u.above;
      one = marks_more S (λ a. gen S a ≡ c.round.note → a ≡ m) c good left (λ a left2 is2. λ same. same_block c.round.phase a m step rest left2 is is2) log x kind u.one;
    }
      where
        same_block : (p : Phase) (a m : Laid) (step : Step) (rest left2 : List ℕ) → p ≡ Going m step rest → p ≡ Going a AtAnchor left2 → a ≡ m
        same_block p a m step rest left2 is is2 = let same : Going a AtAnchor left2 ≡ Going m step rest = sym is2 ∙ is in cc same

    going_more : (x : Option Call) (new : List Entry) → KindOf S c x → Hush c.round.note new → (phase : Phase) → c.round.phase ≡ phase → GoingFacts S c.round log journal phase → GoingFacts S c.round (log_after log x) (journal ++ new) phase
    unfolding under_more
    going_more x new kind hush Rest is h = tt
    going_more x new kind hush (Going m AtAnchor []) is h = (under_more m AtAnchor [] x new is kind hush h.0, tt)
    going_more x new kind hush (Going m AtAnchor (d ∷ ds)) is h = (under_more m AtAnchor (d ∷ ds) x new is kind hush h.0, tt)
    going_more x new kind hush (Going m AtSync []) is h = (under_more m AtSync [] x new is kind hush h.0, tt)
    going_more x new kind hush (Going m AtSync (d ∷ ds)) is h = (under_more m AtSync (d ∷ ds) x new is kind hush h.0, writes_grow S volume d h.0.stamp m log x h.0.short h.1)

    -- the round is the same
    kept_more : (x : Option Call) (new : List Entry) → KindOf S c x → ((g : ℕ) → Hush g new) → Kept S c.round (log_after log x) (journal ++ new)
    kept_more x new kind hush = record {
      facts = facts_more x new kind (hush (gen S c.round.last));
      low = old.low;
      all = all_more x kind;
      going = going_more x new kind (hush c.round.note) c.round.phase refl old.going;
    }

-- EACH TURN

-- an event that ends no round, and begins none of generation g
record HushEvent (g : ℕ) (e : Event) : Type 0 where
  ends : (o : Option ℕ) → ended_at o e ≡ o
  begins : (o : Option ℕ) (n : ℕ) → begun_at g o n e ≡ o

abbrev HushList : ℕ → List Event → Type 0
HushList g es = AllByRecursion (HushEvent g) es

hush_front : (g n : ℕ) (es : List Event) (p q : List Entry) → HushList g es → stamped n es ≡ p ++ q → Hush g p
hush_front g n es [] q h is = hush_none g
hush_front g n [] (x ∷ p) q h is = absurd cc
hush_front g n (e ∷ es) (x ∷ p) q h is =
    let first : record { stamp = n; event = e } ≡ x = cc is in
    let head : e ≡ x.event = ap (λ (y : Entry). y.event) first in
    let here = subst (HushEvent g) head h.0 in
    let rest = hush_front g n es p q h.1 (cc is) in
    record {
      ends = λ o. ap (λ z. ended_from z p) (here.ends o) ∙ rest.ends o;
      begins = λ o. ap (λ z. begun_from g z p) (here.begins o x.stamp) ∙ rest.begins o;
    }

hush_all : (g n : ℕ) (es : List Event) → HushList g es → Hush g (stamped n es)
hush_all g n es h = hush_front g n es (stamped n es) [] h (sym (append-nil (stamped n es)))

hush_asked : (g : ℕ) (state : State) → HushList g (asked_events state)
hush_asked g IsReadonly = tt
hush_asked g IsReadAuto = (record { ends = λ o. refl; begins = λ o n. refl }, tt)
hush_asked g IsClean = (record { ends = λ o. refl; begins = λ o n. refl }, tt)
hush_asked g IsPending = tt
hush_asked g IsActive = tt
hush_asked g IsIdle = tt

one_more : (note g : ℕ) → g ≤ note → (note + 1 == g) ≡ false
one_more note g le = grind (arith, nat_tests, le)

-- a turn's entries are hushed for generations that were begun, but for the end of a round
hush_turns : (S : Setting) (c : Control) (got : Sector) (g : ℕ) → g ≤ c.round.note → {call : Option Call} {es : List Event} {next : Control} → Turns S c got call es next → HushList g es ⊎ ((e : Event) × (es ≡ e ∷ []))
hush_turns S c got g le nothing = inl tt
hush_turns S c got g le (fails d what asked) = inl tt
hush_turns S c got g le (anchors m d ds is) = inl tt
hush_turns S c got g le (settles m d e ds is) = inl tt
hush_turns S c got g le (ends m d is) = inr (End (gen S m), refl)
hush_turns S c got g le (begins d ds is some why) = inl (record { ends = λ o. refl; begins = λ o n. rw (one_more c.round.note g le) refl }, tt)
hush_turns S c got g le (readies is s t) = inl (record { ends = λ o. refl; begins = λ o n. refl }, tt)
hush_turns S c got g le (actives is s t r) = inl (record { ends = λ o. refl; begins = λ o n. refl }, tt)
hush_turns S c got g le (cleans is s t) = inl (record { ends = λ o. refl; begins = λ o n. refl }, tt)
hush_turns S c got g le (rests t calm) = inl (record { ends = λ o. refl; begins = λ o n. refl }, tt)
hush_turns S c got g le (pasts k i rest here none) = inl (record { ends = λ o. refl; begins = λ o n. refl }, (record { ends = λ o. refl; begins = λ o n. refl }, tt))
hush_turns S c got g le (asks_read k i rest place here is w ready) = inl (record { ends = λ o. refl; begins = λ o n. refl }, tt)
hush_turns S c got g le (asks_write k i rest place here is w ready) = inl (record { ends = λ o. refl; begins = λ o n. refl }, hush_asked g c.state)
hush_turns S c got g le (puts k i left step d ds here need) = inl tt
hush_turns S c got g le (syncs k i left step d ds here need) = inl tt
hush_turns S c got g le (gets k i left step d here need) = inl tt
hush_turns S c got g le (acks k i left step answer here need) = inl (record { ends = λ o. refl; begins = λ o n. refl }, tt)

module _ (S : Setting) (renews : Renews S) (on : StandsOnAll S) (volume : IsFirstVolume S) (c : Control) (mine : Mine S c) (good : GoodRound S c.round) (left : LeftIn S c.round.phase) (log : List Call) (journal : List Entry) (n : ℕ) (count : n ≡ length log) (old : Kept S c.round log journal) where
  same_round : (x : Option Call) (m : ℕ) (es : List Event) → KindOf S c x → ((g : ℕ) → HushList g es) → Kept S c.round (log_after log x) (journal ++ stamped m es)
  same_round x m es kind hush = kept_more S volume c good left log journal old x (stamped m es) kind (λ g. hush_all g m es (hush g))

  same_call : (x : Call) → KindOf S c (Some x) → Kept S c.round (log ++ x ∷ []) (journal ++ [])
  same_call x kind = same_round (Some x) (n + 1) [] kind (λ g. tt)

  quiet : (e : Event) → ((g : ℕ) → HushEvent g e) → (g : ℕ) → HushList g (e ∷ [])
  quiet e h g = (h g, tt)

  -- the last target is synced
  round_ends : (m : Laid) (d : ℕ) → c.round.phase ≡ Going m AtSync (d ∷ []) → (x : Call) → KindOf S c (Some x)
      → Kept S (record c.round { book = m; last = m; started = true; phase = Rest }) (log ++ x ∷ []) (journal ++ record { stamp = n + 1; event = End (gen S m) } ∷ [])
  round_ends m d is x kind =
      let going : GoingFacts S c.round log journal (Going m AtSync (d ∷ [])) = subst (GoingFacts S c.round log journal) is old.going in
      let u = under_more S volume c good left log journal old m AtSync (d ∷ []) (Some x) [] is kind (hush_none c.round.note) going.0 in
      record {
        facts = record {
          before = λ never. absurd cc;
          done = λ yet. record {
            stamp = going.0.stamp;
            begun_at = begun-append (gen S m) None journal (record { stamp = n + 1; event = End (gen S m) } ∷ []) ∙ subst (λ g. begun g journal ≡ Some going.0.stamp) (sym going.0.gen_is) going.0.begun_at;
            short = let short = going.0.short in omega (arith, short, length-append log (x ∷ []));
            ended_as = ended-append None journal (record { stamp = n + 1; event = End (gen S m) } ∷ []);
            disk = d;
            written = writes_grow S volume d going.0.stamp m log (Some x) going.0.short going.1;
            container = same_container S on m (going_good S c.round m AtSync (d ∷ []) good is).same;
          };
          one = λ yet. all_marks_map S (λ a. gen S a ≡ c.round.note → a ≡ m) (λ a. gen S a ≡ gen S m → a ≡ m) (λ a f same. f (same ∙ going.0.gen_is)) (log ++ x ∷ []) u.one;
        };
        low = let of_round = going.0.gen_is in omega (arith, of_round);
        all = all_more S volume c good left log journal old (Some x) kind;
        going = tt;
      }

  -- a round begins
  round_begins : (m : Laid) (d : ℕ) (ds : List ℕ) → gen S m ≡ c.round.note + 1
      → Kept S (record c.round { note = c.round.note + 1; phase = Going m AtAnchor (d ∷ ds) }) log (journal ++ record { stamp = n; event = Begin (c.round.note + 1) } ∷ [])
  round_begins m d ds is =
      let low = old.low in
      record {
        facts = facts_more S volume c good left log journal old None (record { stamp = n; event = Begin (c.round.note + 1) } ∷ []) tt
            (record { ends = λ o. refl; begins = λ o. rw (one_more c.round.note (gen S c.round.last) low) refl });
        low = omega (arith, low);
        all = all_marks_map S (λ a. gen S a ≤ c.round.note) (λ a. gen S a ≤ c.round.note + 1) (λ a le. omega (arith, le)) log old.all;
        going = (
          record {
            gen_is = is;
            stamp = n;
            begun_at = let here : (c.round.note + 1 == c.round.note + 1) ≡ true = grind (arith, nat_tests) in begun-append (c.round.note + 1) None journal (record { stamp = n; event = Begin (c.round.note + 1) } ∷ []) ∙ rw here refl;
            short = omega (arith, count);
            above = λ yet. omega (arith, low);
            one = all_marks_map S (λ a. gen S a ≤ c.round.note) (λ a. gen S a ≡ c.round.note + 1 → a ≡ m) (λ a le same. absurd (omega (arith, le, same))) log old.all;
          },
          tt,
        );
      }

  round_anchors : (m : Laid) (d : ℕ) (ds : List ℕ) → c.round.phase ≡ Going m AtAnchor (d ∷ ds) → (x : Call) → KindOf S c (Some x)
      → ((u : Under S c.round.note c.round.last c.round.started m log journal) → In m (writes S.start.words S.start.disks d (drop u.stamp (log ++ x ∷ []))))
      → Kept S (record c.round { phase = Going m AtSync (d ∷ ds) }) (log ++ x ∷ []) (journal ++ [])
  unfolding under_more
  round_anchors m d ds is x kind written =
      let u = anchor_is S volume c good left log journal old m (d ∷ ds) is in
      let more = kept_more S volume c good left log journal old (Some x) [] kind hush_none in
      record {
        facts = more.facts;
        low = more.low;
        all = more.all;
        going = (under_more S volume c good left log journal old m AtAnchor (d ∷ ds) (Some x) [] is kind (hush_none c.round.note) u, written u);
      }

  round_settles : (m : Laid) (d e : ℕ) (ds : List ℕ) → c.round.phase ≡ Going m AtSync (d ∷ e ∷ ds) → (x : Call) → KindOf S c (Some x)
      → Kept S (record c.round { phase = Going m AtAnchor (e ∷ ds) }) (log ++ x ∷ []) (journal ++ [])
  round_settles m d e ds is x kind =
      let going : GoingFacts S c.round log journal (Going m AtSync (d ∷ e ∷ ds)) = subst (GoingFacts S c.round log journal) is old.going in
      let more = kept_more S volume c good left log journal old (Some x) [] kind hush_none in
      record {
        facts = more.facts;
        low = more.low;
        all = more.all;
        going = (under_more S volume c good left log journal old m AtSync (d ∷ e ∷ ds) (Some x) [] is kind (hush_none c.round.note) going.0, tt);
      }

  pub kept_turns : (got : Sector) {call : Option Call} {es : List Event} {next : Control} → Turns S c got call es next → FitsGeneration next.round.note → Kept S next.round (log_after log call) (journal ++ stamped (calls_after n call) es)
  kept_turns got t fits = at t fits (kind_turns S volume c mine got t)
    where
      at : {call : Option Call} {es : List Event} {next : Control} → Turns S c got call es next → FitsGeneration next.round.note → KindOf S c call → Kept S next.round (log_after log call) (journal ++ stamped (calls_after n call) es)
      at nothing fits kind = same_round None n [] tt (λ g. tt)
      at (fails d what asked) fits kind = same_call _ kind
      at (anchors m d ds is) fits kind = round_anchors m d ds is _ kind (λ u. writes_anchor S volume d u.stamp 1 m true log u.short (subst (LeftIn S) is left).0 (going_good S c.round m AtAnchor (d ∷ ds) good is))
      at (settles m d e ds is) fits kind = round_settles m d e ds is _ kind
      at (ends m d is) fits kind = round_ends m d is _ kind
      at (begins d ds is some why) fits kind = round_begins _ d ds (renewed S renews on c.round d ds (next_dirty c.state) some fits good).generation
      at (readies is s t) fits kind = same_round None n (Ready the_volume ∷ []) tt (quiet (Ready the_volume) (λ g. record { ends = λ o. refl; begins = λ o n. refl }))
      at (actives is s t r) fits kind = same_round None n (Active the_volume ∷ []) tt (quiet (Active the_volume) (λ g. record { ends = λ o. refl; begins = λ o n. refl }))
      at (cleans is s t) fits kind = same_round None n (Clean the_volume ∷ []) tt (quiet (Clean the_volume) (λ g. record { ends = λ o. refl; begins = λ o n. refl }))
      at (rests t calm) fits kind = same_round None n (Idle the_volume ∷ []) tt (quiet (Idle the_volume) (λ g. record { ends = λ o. refl; begins = λ o n. refl }))
      at (pasts k i rest here none) fits kind = same_round None n (Submit i ∷ Ack i Past ∷ []) tt (λ g. (record { ends = λ o. refl; begins = λ o n. refl }, (record { ends = λ o. refl; begins = λ o n. refl }, tt)))
      at (asks_read k i rest place here is w ready) fits kind = same_round None n (Submit i ∷ []) tt (quiet (Submit i) (λ g. record { ends = λ o. refl; begins = λ o n. refl }))
      at (asks_write k i rest place here is w ready) fits kind = same_round None n (Submit i ∷ asked_events c.state) tt (λ g. (record { ends = λ o. refl; begins = λ o n. refl }, hush_asked g c.state))
      at (puts k i more step d ds here need) fits kind = same_call _ kind
      at (syncs k i more step d ds here need) fits kind = same_call _ kind
      at (gets k i more step d here need) fits kind = same_call _ kind
      at (acks k i more step answer here need) fits kind = same_round None n (Ack i answer ∷ []) tt (quiet (Ack i answer) (λ g. record { ends = λ o. refl; begins = λ o n. refl }))

-- RUNS

module _ (S : Setting) (renews : Renews S) (on : StandsOnAll S) (volume : IsFirstVolume S) where
  pub kept_reached : (w : World) → FitsGeneration w.control.round.note → Reached S w → Kept S w.control.round w.log w.journal
  kept_reached w fits opens = record {
    facts = record { before = λ not_yet. (refl, refl); done = λ yet. absurd cc; one = λ yet. tt };
    low = omega arith;
    all = tt;
    going = tt;
  }
  kept_reached w fits (goes {w = v} r a) =
      let before = fitted S v a fits in
      kept_turns S renews on volume v.control (mine_reached S v r) (good_reached S renews on v before r) (left_reached S renews on v before r) v.log v.journal v.calls (counted_reached S v r).calls (kept_reached v before r) (got_of a) (turns_of S v.control a) fits

  fronts : (w : World) (r : Reached S w) (a : Action) → FitsGeneration (happens S w a).control.round.note → EachFront (HasFinished S.start) (happens S w a).log w.journal (stamped (happens S w a).calls (turned S w.control a).events)
  fronts w r a fits p q parts =
      let before = fitted S w a fits in
      let c = w.control in
      let old = kept_reached w before r in
      let x = call_of S c a in
      let t = turns_of S c a in
      let kind = kind_turns S volume c (mine_reached S w r) (got_of a) t in
      let hushed : Hush (gen S c.round.last) p → HasFinished S.start (log_after w.log x) (w.journal ++ p) = λ hush.
      has_finished S volume c.round.last c.round.started (log_after w.log x) (w.journal ++ p)
      (facts_more S volume c (good_reached S renews on w before r) (left_reached S renews on w before r) w.log w.journal old x p kind hush) in
      elim (hush_turns S c (got_of a) (gen S c.round.last) old.low t) [
        | inl hush ↦ hushed (hush_front (gen S c.round.last) (happens S w a).calls (turned S c a).events p q hush parts)
        | inr one ↦ elim (fronts_of_one (record { stamp = (happens S w a).calls; event = one.0 }) p q (sym (ap (stamped (happens S w a).calls) one.1) ∙ parts)) [
          | inl none ↦ hushed (subst (Hush (gen S c.round.last)) (sym none) (hush_none (gen S c.round.last)))
          | inr whole ↦
              let new = kept_reached (happens S w a) fits (goes r a) in
              subst (λ z. HasFinished S.start (log_after w.log x) (w.journal ++ z)) (ap (stamped (happens S w a).calls) one.1 ∙ sym whole)
              (has_finished S volume (happens S w a).control.round.last (happens S w a).control.round.started (log_after w.log x) (happens S w a).journal new.facts)
        ]
      ]

  pub round_reached : (w : World) → FitsGeneration w.control.round.note → Reached S w → Always (HasFinished S.start) w.log w.journal
  round_reached w fits opens = always_none (HasFinished S.start) (has_finished S volume S.start.newest false [] [] (kept_reached w fits opens).facts)
  round_reached w fits (goes {w = v} r a) =
      let counted = counted_reached S v r in
      always_more (HasFinished S.start) v.log v.journal v.calls (call_of S v.control a) (turned S v.control a).events counted.calls counted.below (round_reached v (fitted S v a fits) r) (fronts v r a fits)

  pub last_reached : (w : World) → FitsGeneration w.control.round.note → Reached S w → IsFinished S.start w.log w.journal w.control.round.last
  last_reached w fits r = is_finished S volume w.control.round.last w.control.round.started w.log w.journal (kept_reached w fits r).facts
