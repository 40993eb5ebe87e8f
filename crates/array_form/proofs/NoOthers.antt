-- Which changes leave it so that no block gives a volume other disks than it has: all but an activation's round.
use Rattle.std.proofs.Common.{◌≡◌, ℕ, ◌+◌, ◌≤◌, ◌==◌, Bool, true, false, List, [], ◌∷◌, ◌++◌, refl, ap, sym, ◌∙◌, subst, arith, Option, Some, inl, inr, nat_lt, cond, ◌⊎◌}
use Rattle.std.specs.Prelude.{⊤}
use Rattle.std.specs.List.{AllByRecursion}
use Rattle.std.proofs.lemmas.Bool.Decides.{nat_tests}
use Rattle.device_log.specs.Log.{Call, What}
use Rattle.array_model.specs.Blocks.{Laid}
use Rattle.array_model.specs.declared.journal.Event.TheVariants.{End}
use Rattle.array_machine.specs.Setting.{Setting, TakesGeneration}
use Rattle.array_machine.specs.EditFacts.{facts_of}
use Rattle.array_machine.specs.MonitorTurns.{is_due}
use Rattle.array_machine.specs.States.{state_after}
use Rattle.array_machine.specs.Volumes.{Slot, Pass, Volume, volume_at}
use Rattle.array_machine.specs.Rounds.{Ended, OfRound, AtAnchor, Phase, Going, gives}
use Rattle.array_machine.specs.RoundEnds.{has_other, seated, all_in_sync}
use Rattle.array_machine.specs.Control.{Control}
use Rattle.array_machine.specs.Changes.{Change, StepsOn, RoundBegins, RoundEnds, DiskFails, StateGoes, PassMoves, MonitorResumes, PassWord, GoesOnQuietly, OpensAt, Reaches, Closes}
use Rattle.array_machine.specs.TakeoverTurns.{has_all}
use Rattle.array_machine.specs.Puts.{put}
use Rattle.array_machine.specs.Machine.{World}
use Rattle.array_paths.specs.InTurn.{InTurn}
use Rattle.array_paths.specs.MayEdit.{IsNext}
use Rattle.array_paths.specs.PassMove.{slots_of, PassMove, opens, seats, reaches, closes, comes_to_its_end, loses}
use Rattle.array_paths.specs.Comes.{Comes, begins, ends, pass, resumes}
use Rattle.array_paths.specs.AtRows.{AtRows, by_client, by_pass, by_monitor, after_read}
use Rattle.array_paths.specs.Effects.{Effect, quiet, row}
use Rattle.array_base.specs.Premises.{generation_of, Premises}
use Rattle.array_base.specs.Base.{disks_by, ledger, Goes, RoundGoes, Base, Ledger}
use Rattle.array_base.specs.Laws.{OverBase}
use Rattle.array_form.specs.Behind.{goes_on, Behind, is_loud, awaits}
use Rattle.array_form.specs.Passes.{gives_others, GivesNoOthers, NoneGives, EndsSettled, ends_now}
use Rattle.array_form.proofs.Uncalled.{uncalled}
use Rattle.array_form.proofs.Others.{other_synced, IsPlain, edited_less, round_plain}
use Rattle.std.proofs.lemmas.Bool.{eq-eqb, and_parts}
use Rattle.array_model.specs.Candidates.{Disk}
use Rattle.array_machine.specs.Faults.{round_without}
use Rattle.array_paths.proofs.ClientPaths.{slots_kept}
use Rattle.array_told.proofs.Tells.{set_at}
use Rattle.array_form.proofs.EndsBehind.{slots_stay}

-- AROUND THE END OF A ROUND

pub awaits_ends : (v : ℕ) (prev : Option Change) → awaits v prev ≡ true → ends_now prev ≡ true
awaits_ends v (Some (RoundEnds m)) is = refl
awaits_ends v (Some (PassMoves w slots new word)) is = (and_parts (is_loud word) (nat_lt w v) is).0
awaits_ends v _ is = absurd cc

module _ (S : Setting) where
  -- WHAT A CHANGE SAYS OF ITSELF

  -- a pass of which nothing is said keeps the slots of its volume
  abbrev KeepsSlots : Control → Change → Type 0
  KeepsSlots c (PassMoves v slots new GoesOnQuietly) = slots ≡ slots_of c v
  KeepsSlots c _ = ⊤

  move_keeps : (t : InTurn) (c : Control) (v : ℕ) (slots : List Slot) (new : Option Pass) (word : PassWord)
      → PassMove S t c v slots new word → KeepsSlots c (PassMoves v slots new word)
  move_keeps t c v _ _ _ (opens kind started was is has) = tt
  move_keeps t c v _ _ _ (seats now started other) = tt
  move_keeps t c v _ _ _ (reaches was is now started before after above) = tt
  move_keeps t c v _ _ _ (closes was now started before after) = tt
  move_keeps t c v _ _ _ (comes_to_its_end p going over) = refl
  move_keeps t c v _ _ _ (loses d p need what stored call is) = refl

  rows_keep : (c : Control) (d : ℕ) (what : What) (x : Ended) (a : Change) → AtRows S c d what x a → KeepsSlots c a
  rows_keep c d _ _ _ (by_client k i r need what x call) = tt
  rows_keep c d _ _ _ (by_pass v p need what x call) = refl
  rows_keep c d _ _ _ (by_monitor left seen found x life) = at (has_all S (seen ++ x.got ∷ []))
    where
      at : (all : Bool) → KeepsSlots c (after_read S c d left (seen ++ x.got ∷ []) found all)
      at true = tt
      at false = tt

  quiet_keeps : (t : InTurn) (c : Control) (v : ℕ) (slots : List Slot) (new : Option Pass)
      → Comes S t c (PassMoves v slots new GoesOnQuietly) → slots ≡ slots_of c v
  quiet_keeps t c _ _ _ (pass v slots new _ move) = move_keeps t c v slots new GoesOnQuietly move

  pub effect_keeps : (t : InTurn) (c : Control) (call : Option Call) (x : Ended) (v : ℕ) (slots : List Slot)
      (new : Option Pass) → Effect S t c call x (PassMoves v slots new GoesOnQuietly) → slots ≡ slots_of c v
  effect_keeps t c _ _ v slots new (quiet x _ come) = quiet_keeps t c v slots new come
  effect_keeps t c _ _ v slots new (row d what x _ may ok went why) =
      rows_keep c d what x (PassMoves v slots new GoesOnQuietly) why

  -- a takeover goes on from a block that isn't below the last finished round's
  abbrev Resumes : Change → Type 0
  Resumes (MonitorResumes d) = ⊤
  Resumes _ = ⊥

  rows_resume_none : (c : Control) (d : ℕ) (what : What) (x : Ended) (a : Change) → AtRows S c d what x a → Resumes a
      → ⊥
  rows_resume_none c d _ _ _ (by_client k i r need what x call) resumed = resumed
  rows_resume_none c d _ _ _ (by_pass v p need what x call) resumed = resumed
  rows_resume_none c d _ _ _ (by_monitor left seen found x life) resumed = at (has_all S (seen ++ x.got ∷ [])) resumed
    where
      at : (all : Bool) → Resumes (after_read S c d left (seen ++ x.got ∷ []) found all) → ⊥
      at true resumed = resumed
      at false resumed = resumed

  comes_rises : (t : InTurn) (c : Control) (d : ℕ) → Comes S t c (MonitorResumes d)
      → generation_of S c.round.last ≤ generation_of S (c.round.given d)
  comes_rises t c d (resumes _ taking young) = grind (arith, nat_tests, young)

  pub resumed_rises : (t : InTurn) (c : Control) (call : Option Call) (x : Ended) (d : ℕ)
      → Effect S t c call x (MonitorResumes d)
      → generation_of S c.round.last ≤ generation_of S (c.round.given d)
  resumed_rises t c _ _ d (quiet x _ come) = comes_rises t c d come
  resumed_rises t c _ _ d (row e what x _ may ok went why) =
      absurd (rows_resume_none c e what x (MonitorResumes d) why tt)

  -- a pass opens over a volume that was started
  pub started_of : (t : InTurn) (c : Control) (v at : ℕ) (slots : List Slot) (new : Option Pass)
      → Comes S t c (PassMoves v slots new (OpensAt at)) → (volume_at c.volumes v).started ≡ true
  started_of t c _ _ _ _ (pass v slots new _ (opens kind started was is has)) = started
  started_of t c _ _ _ _ (pass v slots new _ (seats now started other)) = started

  pub next_of : (t : InTurn) (c : Control) (m : Laid) → Comes S t c (RoundBegins m) → IsNext S t c m
  next_of t c _ (begins m life rest target next) = next

  -- a block that a disk was given last is the one before, or the book
  pub given_is : (ks : ℕ → Disk) (l : Ledger) (phase : Phase) → Goes S ks l phase → (e : ℕ)
      → (gives phase l.given e ≡ l.given e) ⊎ (gives phase l.given e ≡ l.book)
  given_is ks l (Going OfRound m AtAnchor (d ∷ ds) late done) goes e = at (d == e)
    where
      at : (b : Bool) → (cond b m (l.given e) ≡ l.given e) ⊎ (cond b m (l.given e) ≡ l.book)
      at true = inr (sym goes.book)
      at false = inl refl
  given_is ks l _ goes e = inl refl

  module _ (P : Premises S) where
    -- THE END OF A ROUND

    round_of : (t : InTurn) (w : World) (m : Laid) → Comes S t w.control (RoundEnds m) → Base S P w.log w.control
        → RoundGoes S (disks_by S w.log) (ledger w.control.round) m [] [] true
    round_of t w _ (ends m step is) base =
        subst (Goes S (disks_by S w.log) (ledger w.control.round)) is base.goes

    pub is_end : (t : InTurn) (w : World) (call : Option Call) (x : Ended) (m : Laid)
        → OverBase S P t w call x (RoundEnds m)
        → RoundGoes S (disks_by S w.log) (ledger w.control.round) m [] [] true
    is_end t w call x m over =
        round_of t w m (uncalled S t w.control call x (RoundEnds m) over.effect (End (generation_of S m)) refl refl).1
        over.before

    pub settled_step : (t : InTurn) (prev : Option Change) (more : List Change) (w : World) (call : Option Call)
        (x : Ended)
        (a : Change) → OverBase S P t w call x a → Behind S t.before w.control prev more a
        → EndsSettled S t.before prev w.control → EndsSettled S t.before (Some a) (put S a w.control)
    settled_step t prev more w call x (RoundEnds m) over behind had went_on now =
        let goes = is_end t w call x m over in (goes.book, sym goes.top)
    settled_step t prev more w call x (PassMoves v slots new GoesOnQuietly) over behind had went_on now = absurd cc
    settled_step t prev more w call x (PassMoves v slots new (OpensAt first)) over (inl ready) had went_on now =
        absurd (let rested = ap goes_on ready.rested in cc (rested, went_on))
    settled_step t prev more w call x (PassMoves v slots new (OpensAt first)) over (inr seated) had went_on now =
        had went_on (awaits_ends v prev seated.behind)
    settled_step t prev more w call x (PassMoves v slots new (Reaches unit)) over behind had went_on now =
        had went_on (awaits_ends v prev behind.ends.behind)
    settled_step t prev more w call x (PassMoves v slots new Closes) over behind had went_on now =
        had went_on (awaits_ends v prev behind.ends.behind)
    settled_step t prev more w call x _ over behind had went_on now = absurd cc

    module _ (v : ℕ) where
      -- what is due in the book brings no other disks
      pub due_gives_none : (t : InTurn) (w : World) (m : Laid) → IsNext S t w.control m → is_due S w.control ≡ true
          → Base S P w.log w.control → S.start.is_started v ≡ true
          → gives_others S w.control.round.book v (slots_of w.control v) ≡ false
          → gives_others S m v (slots_of w.control v) ≡ false
      due_gives_none t w m next due base started none = elim next.order [
        | inl order ↦
            let g = w.control.round.note + 1 in
            let plain = subst (λ es. AllByRecursion (IsPlain S) (es ++ TakesGeneration g ∷ [])) (sym order)
            (round_plain S w.control g) in
            ap (λ b. gives_others S b v (slots_of w.control v)) next.is
            ∙ edited_less S P (facts_of S w.control) v started (slots_of w.control v) w.control.round.book
            (next.edits ++ TakesGeneration g ∷ []) plain next.apt base.core.hand.book.form none
        | inr update ↦ absurd (let not_due = update.1 in cc (not_due, due))
      ]

      -- right behind the end of a round, no block gives other disks than its own
      pub none_behind : (w : World) → Base S P w.log w.control
          → (w.control.round.book ≡ w.control.round.last)
          × (w.control.round.note ≡ generation_of S w.control.round.last)
          → (slots : List Slot) → gives_others S w.control.round.last v slots ≡ false
          → GivesNoOthers S v slots w.control.round.book w.control.round.last w.control.round.given
      none_behind w base settled slots none = record {
        in_book = ap (λ m. gives_others S m v slots) settled.0 ∙ none;
        in_last = none;
        in_given = one;
      }
        where
          one : (d : ℕ) → generation_of S w.control.round.last ≤ generation_of S (w.control.round.given d)
              → gives_others S (w.control.round.given d) v slots ≡ false
          one d le =
              let r = w.control.round in
              let hand = base.core.hand in
              let given = hand.given_known d in
              let last = hand.last_known in
              let noted = base.core.known.noted given.disk (r.given d) given.there (hand.given d).container in
              let note = settled.1 in
              let same : generation_of S (r.given d) ≡ generation_of S r.last = omega (arith, le, noted, note) in
              let twins = base.core.known.twins given.disk last.disk (r.given d) r.last given.there last.there
              (hand.given d).container hand.last.container same in
              ap (λ ws. has_other S ws slots) (twins.says.slots v) ∙ none

      -- WHAT STAYS SO

      -- a round that begins must bring none
      abbrev pub BringsNone : Control → Change → Type 0
      BringsNone c (RoundBegins m) =
          gives_others S c.round.book v (slots_of c v) ≡ false → gives_others S m v (slots_of c v) ≡ false
      BringsNone c _ = ⊤

      module _ (c : Control) where
        -- with these slots
        abbrev pub GivenNone : List Slot → Type 0
        GivenNone slots = GivesNoOthers S v slots c.round.book c.round.last c.round.given

        pub behind_move : (w : ℕ) (slots : List Slot) (new : Option Pass) (word : PassWord)
            → ((w == v) ≡ true → NoneGives S v c → GivenNone slots) → NoneGives S v c
            → NoneGives S v (put S (PassMoves w slots new word) c)
        behind_move w slots new word none had =
            elim (set_at c.volumes w (record (volume_at c.volumes w) { slots = slots; pass = new }) v) [
              | inl here ↦
                  subst GivenNone (sym (ap (λ (x : Volume). x.slots) here.1)) (none (eq-eqb w v here.0) had)
              | inr there ↦ subst GivenNone (sym (ap (λ (x : Volume). x.slots) there)) had
            ]

        pub own_slots : (w : ℕ) (slots : List Slot) → slots ≡ slots_of c w → (w == v) ≡ true → NoneGives S v c
            → GivenNone slots
        own_slots w slots is same none =
            let one : w ≡ v = grind (arith, nat_tests, same) in
            subst GivenNone (sym (is ∙ ap (slots_of c) one)) none

        closed_slots : (w : ℕ) (slots : List Slot) → slots ≡ all_in_sync c.round.faults (slots_of c w)
            → (w == v) ≡ true → NoneGives S v c → GivenNone slots
        closed_slots w slots is same none =
            let one : w ≡ v = grind (arith, nat_tests, same) in
            record {
              in_book = others c.round.book v one ∙ none.in_book;
              in_last = others c.round.last v one ∙ none.in_last;
              in_given = λ d le. others (c.round.given d) v one ∙ none.in_given d le;
            }
          where
            others : (m : Laid) (k : ℕ) → w ≡ k → gives_others S m k slots ≡ gives_others S m k (slots_of c k)
            others m k one =
                subst (λ k. gives_others S m k slots ≡ gives_others S m k (slots_of c k)) one
                (ap (λ s. gives_others S m w s) is
                ∙ other_synced S c.round.faults (S.start.words.slots m w) (slots_of c w))

        -- the last finished round's block gives none
        other_volume : (w : ℕ) (slots : List Slot) → gives_others S c.round.last w (slots_of c w) ≡ true
            → (w == v) ≡ true → NoneGives S v c → GivenNone slots
        other_volume w slots gives_some same none =
            let one : w ≡ v = grind (arith, nat_tests, same) in
            let bad = subst (λ u. gives_others S c.round.last u (slots_of c u) ≡ true) one gives_some in
            let last = none.in_last in
            absurd (cc (last, bad))

        given_one : NoneGives S v c → (e : ℕ) → (gives c.round.phase c.round.given e ≡ c.round.given e)
            ⊎ (gives c.round.phase c.round.given e ≡ c.round.book)
            → generation_of S c.round.last ≤ generation_of S (gives c.round.phase c.round.given e)
            → gives_others S (gives c.round.phase c.round.given e) v (slots_of c v) ≡ false
        given_one none e (inl is) le =
            ap (λ m. gives_others S m v (slots_of c v)) is
            ∙ none.in_given e (subst (λ m. generation_of S c.round.last ≤ generation_of S m) is le)
        given_one none e (inr is) le = ap (λ m. gives_others S m v (slots_of c v)) is ∙ none.in_book

        same_slots : (slots : List Slot) → slots ≡ slots_of c v → NoneGives S v c → GivenNone slots
        same_slots slots is none = subst GivenNone (sym is) none

      pub none_stays : (t : InTurn) (prev : Option Change) (more : List Change) (w : World) (call : Option Call)
          (x : Ended) (a : Change) → OverBase S P t w call x a → Behind S t.before w.control prev more a
          → BringsNone w.control a → NoneGives S v w.control → NoneGives S v (put S a w.control)
      none_stays t prev more w call x (RoundBegins m) over behind brings none = record {
        in_book = brings none.in_book;
        in_last = none.in_last;
        in_given = none.in_given;
      }
      none_stays t prev more w call x (RoundEnds m) over behind brings none =
          let goes = is_end t w call x m over in
          let rises : generation_of S w.control.round.last ≤ generation_of S m =
          (let top = goes.top in let last = over.before.core.generations.last in omega (arith, top, last)) in
          record {
            in_book = none.in_book;
            in_last = subst (λ b. gives_others S b v (slots_of w.control v) ≡ false) goes.book none.in_book;
            in_given = λ d le. none.in_given d (omega (arith, le, rises));
          }
      none_stays t prev more w call x StepsOn over behind brings none =
          let which = given_is (disks_by S w.log) (ledger w.control.round) w.control.round.phase over.before.goes in
          record {
            in_book = none.in_book;
            in_last = none.in_last;
            in_given = λ e le. given_one w.control none e (which e) le;
          }
      none_stays t prev more w call x (DiskFails d) over behind brings none =
          same_slots w.control _ (slots_kept S d (round_without S d w.control.round) 0 w.control.volumes v) none
      none_stays t prev more w call x (MonitorResumes d) over behind brings none = record {
        in_book = none.in_given d (resumed_rises t w.control call x d over.effect);
        in_last = none.in_last;
        in_given = none.in_given;
      }
      none_stays t prev more w call x (StateGoes u word) over behind brings none =
          same_slots w.control _ (slots_stay w.control.volumes u (state_after word) v) none
      none_stays t prev more w call x (PassMoves u slots new GoesOnQuietly) over behind brings none =
          behind_move w.control u slots new GoesOnQuietly
          (own_slots w.control u slots (effect_keeps t w.control call x u slots new over.effect)) none
      none_stays t prev more w call x (PassMoves u slots new (Reaches unit)) over behind brings none =
          behind_move w.control u slots new (Reaches unit) (own_slots w.control u slots behind.slots_are) none
      none_stays t prev more w call x (PassMoves u slots new Closes) over behind brings none =
          behind_move w.control u slots new Closes (closed_slots w.control u slots behind.slots_are) none
      none_stays t prev more w call x (PassMoves u slots new (OpensAt first)) over (inl ready) brings none =
          behind_move w.control u slots new (OpensAt first) (own_slots w.control u slots ready.slots_are) none
      none_stays t prev more w call x (PassMoves u slots new (OpensAt first)) over (inr seated) brings none =
          behind_move w.control u slots new (OpensAt first) (other_volume w.control u slots seated.other) none
      none_stays t prev more w call x _ over behind brings none = none
