-- Each round that began has its block, and keeps members: through each effect.
use Rattle.std.proofs.Common.{◌≡◌, ℕ, ◌≤◌, Bool, true, false, List, [], ◌∷◌, ◌++◌, length, take, refl, ap, sym, ◌∙◌, subst, arith, Option, Some, None, ◌⊎◌, inl, inr, eq-eqb}
use Rattle.std.proofs.lemmas.List.{take_all, take-append-le}
use Rattle.units.specs.declared.disk.Sector.{Sector}
use Rattle.device_log.specs.Log.{Call, What}
use Rattle.array_model.specs.declared.journal.Entry.{Entry}
use Rattle.array_model.specs.declared.journal.Event.{Event}
use Rattle.array_model.specs.declared.journal.Event.TheVariants.{Begin}
use Rattle.array_model.specs.Blocks.{Laid}
use Rattle.array_model.specs.Candidates.{Disk, In}
use Rattle.array_model.specs.Events.{AtEach}
use Rattle.array_model.specs.Rounds.{IsFinished}
use Rattle.array_model.specs.FailureLaw.{KeepsMembers, BeginKeeps}
use Rattle.array_model.proofs.Journals.{at_each_map, at_each_more}
use Rattle.array_disks.proofs.Rounds.{round_known}
use Rattle.array_machine.specs.Setting.{Setting}
use Rattle.array_machine.specs.Rounds.{Ended, AtAnchor, Step, Aim, OfRound, OfSpare, Going}
use Rattle.array_machine.specs.Control.{Control}
use Rattle.array_machine.specs.Changes.{Change, RoundBegins, entry_of}
use Rattle.array_machine.specs.Puts.{put}
use Rattle.array_machine.specs.Machine.{World, calls_after, log_after, entered}
use Rattle.array_machine.specs.TakeoverTurns.{has_all}
use Rattle.array_paths.specs.InTurn.{InTurn}
use Rattle.array_paths.specs.MayEdit.{IsNext}
use Rattle.array_paths.specs.Comes.{Comes, begins, begins_spare, ends, ends_spare, lapses, fails, unblocks, readies, pends, activates, again, idles, cleans, client, pass, manages, kills, takes_over, resumes, dies}
use Rattle.array_paths.specs.AtRows.{AtRows, by_client, by_pass, by_monitor, after_read}
use Rattle.array_paths.specs.Effects.{Effect, quiet, row, row_fails, steps, step_fails, after_effect}
use Rattle.array_base.specs.Premises.{generation_of, IsContainer, MayBeBook, Premises}
use Rattle.array_base.specs.CallDoes.{CallDoes, narrows, brings}
use Rattle.array_base.specs.Laws.{OverBase}
use Rattle.array_base.specs.Base.{ledger, disks_by, Goes}
use Rattle.array_base.proofs.NextBlock.{next_generation}
use Rattle.array_told.specs.Told.{Tells, Stamps}
use Rattle.array_told.proofs.Stamps.{later}
use Rattle.array_gate.specs.Gate.{round_of, round_in}
use Rattle.array_gate.proofs.Dirty.{in_on_with, in_stepped, in_dropped}
use Rattle.array_gate.proofs.Entries.{at_entered}
use Rattle.array_finished.proofs.Begun.{BeginsNone, Leaves, leaves_all}
use Rattle.array_failures.specs.Members.{LeadsTo, LastLeads}
use Rattle.array_failures.specs.Begun.{IsOnlyRound, HasBegun, HasBegunAt}
use Rattle.array_failures.proofs.Kept.{keeps_members, finished_last}

-- what was said of the calls before is said of them behind a call more
pub take_before : (log : List Call) (call : Option Call) (n : ℕ) → n ≤ length log
    → take n (log_after log call) ≡ take n log
take_before log None n le = refl
take_before log (Some call) n le = take-append-le n log (call ∷ []) le

module _ (S : Setting) where
  -- WHAT GOES ON

  -- the note rises, and no other round of the generation goes on
  record StaysBegun (old new : Control) (g : ℕ) (m : Laid) : Type 0 where
    below : g ≤ new.round.note
    going : IsOnlyRound S (round_in new.round.phase) g m

  abbrev KeepsBegun : Control → Control → Type 0
  KeepsBegun old new =
      (g : ℕ) (m : Laid) → g ≤ old.round.note → IsOnlyRound S (round_in old.round.phase) g m
      → StaysBegun old new g m

  module _ (P : Premises S) (t : InTurn) (c : Control) (book : MayBeBook S P.edits.formed c.round.book) where
    same_begun : (new : Control) → new.round.note ≡ c.round.note → round_in new.round.phase ≡ round_in c.round.phase
        → KeepsBegun c new
    same_begun new note phase g m below going = record {
      below = subst (λ n. g ≤ n) (sym note) below;
      going = subst (λ o. IsOnlyRound S o g m) (sym phase) going;
    }

    none_begun : (new : Control) → new.round.note ≡ c.round.note → round_in new.round.phase ≡ None
        → KeepsBegun c new
    none_begun new note phase g m below going = record {
      below = subst (λ n. g ≤ n) (sym note) below;
      going = subst (λ o. IsOnlyRound S o g m) (sym phase) tt;
    }

    begun_next : (n : Laid) → IsNext S t c n → KeepsBegun c (put S (RoundBegins n) c)
    begun_next n next g m below going = record {
      below = omega (arith, below);
      going = subst (λ o. IsOnlyRound S o g m) (sym (in_on_with OfRound n _ _ false)) (λ is.
          absurd (let top = next_generation S P t c n next book in omega (arith, top, is, below)));
    }

    begun_comes : (a : Change) → Comes S t c a → KeepsBegun c (put S a c)
    begun_comes _ (begins m life rest target next) = begun_next m next
    begun_comes a (begins_spare d m life rest target may is unlisted room) =
        none_begun (put S a c) refl (in_on_with (OfSpare d) m (d ∷ []) [] false)
    begun_comes a (ends m step is) = none_begun (put S a c) refl refl
    begun_comes a (ends_spare d m step is) = none_begun (put S a c) refl refl
    begun_comes a (lapses aim m step late is) = none_begun (put S a c) refl refl
    begun_comes a (fails d who may) = same_begun (put S a c) refl (in_dropped d c.round.phase)
    begun_comes a (kills who awake) = none_begun (put S a c) refl refl
    begun_comes a (resumes d taking young) = none_begun (put S a c) refl refl
    begun_comes a (unblocks d rest blocked ended unexpected) = same_begun (put S a c) refl refl
    begun_comes a (readies v started state rest ended) = same_begun (put S a c) refl refl
    begun_comes a (pends v sound state submitted) = same_begun (put S a c) refl refl
    begun_comes a (activates v runs state rest ended dirty) = same_begun (put S a c) refl refl
    begun_comes a (again v sound state submitted) = same_begun (put S a c) refl refl
    begun_comes a (idles v who runs state none) = same_begun (put S a c) refl refl
    begun_comes a (cleans v runs state rest) = same_begun (put S a c) refl refl
    begun_comes a (client k new word move) = same_begun (put S a c) refl refl
    begun_comes a (pass v slots new word move) = same_begun (put S a c) refl refl
    begun_comes a (manages new word move) = same_begun (put S a c) refl refl
    begun_comes a (takes_over who life) = same_begun (put S a c) refl refl
    begun_comes a (dies taking) = same_begun (put S a c) refl refl

    begun_read : (d : ℕ) (left : List ℕ) (seen : List Sector) (found : List ℕ) (all : Bool)
        → KeepsBegun c (put S (after_read S c d left seen found all) c)
    begun_read d left seen found true = same_begun (put S (after_read S c d left seen found true) c) refl refl
    begun_read d left seen found false = same_begun (put S (after_read S c d left seen found false) c) refl refl

    begun_rows : (d : ℕ) (what : What) (x : Ended) (a : Change) → AtRows S c d what x a → KeepsBegun c (put S a c)
    begun_rows d _ x a (by_client k i r need _ _ call) = same_begun (put S a c) refl refl
    begun_rows d _ x a (by_pass v p need _ _ call) = same_begun (put S a c) refl refl
    begun_rows d _ x _ (by_monitor left seen found _ life) =
        begun_read d left (seen ++ x.got ∷ []) found (has_all S (seen ++ x.got ∷ []))

    begun_change : {call : Option Call} {x : Ended} {a : Change} → Effect S t c call x a → KeepsBegun c (put S a c)
    begun_change (quiet x a comes) = begun_comes a comes
    begun_change (row d what x a may calls went at) = begun_rows d what x a at
    begun_change {a = a} (row_fails d what x may calls failed lost) =
        same_begun (put S a c) refl (in_dropped d c.round.phase)
    begun_change {a = a} (steps d m step x target went) = same_begun (put S a c) refl (in_stepped c.round.phase)
    begun_change {a = a} (step_fails d m step x target failed) =
        same_begun (put S a c) refl (in_dropped d c.round.phase)

  -- THE CALL

  module _ (P : Premises S) (c : Control) (ks ls : ℕ → Disk) where
    only_brought : (a m : Laid) (g : ℕ) (block : Laid) (aim : Aim) (step : Step) (left late : List ℕ) (done : Bool)
        → Goes S ks (ledger c.round) (Going aim m step left late done) → IsContainer S a → a ≡ m
        → IsOnlyRound S (round_of aim m) g block → generation_of S a ≡ g → a ≡ block
    only_brought a m g block OfRound step left late done goes container same only is =
        same ∙ only (ap (generation_of S) (sym same) ∙ is)
    only_brought a m g block (OfSpare x) step left late done goes container same only is =
        absurd (let spare = goes.block.spare in cc (spare, same, container))

    only_behind : CallDoes S c.round.phase ks ls → Goes S ks (ledger c.round) c.round.phase → (g : ℕ) (block : Laid)
        → ((e : ℕ) (a : Laid) → In a (ks e).known → IsContainer S a → generation_of S a ≡ g → a ≡ block)
        → IsOnlyRound S (round_in c.round.phase) g block
        → (e : ℕ) (a : Laid) → In a (ls e).known → IsContainer S a → generation_of S a ≡ g → a ≡ block
    only_behind (narrows n) goes g block only going e a i container same =
        only e a (subst (In a) (n.known e) i) container same
    only_behind (brings aim m f ds late done is adds) goes g block only going e a i container same =
        elim (adds.known e a i) [
          | inl old ↦ only e a old container same
          | inr new ↦
              only_brought a m g block aim AtAnchor (f ∷ ds) late done (subst (Goes S ks (ledger c.round)) is goes)
              container new.1 (subst (λ p. IsOnlyRound S (round_in p) g block) is going) same
        ]

  -- WHICH CHANGE BEGINS A ROUND

  abbrev BeginsOrNot : InTurn → Control → Change → Type 0
  BeginsOrNot t c a = ((m : Laid) × (a ≡ RoundBegins m) × IsNext S t c m) ⊎ BeginsNone a

  comes_begins : (t : InTurn) (c : Control) (a : Change) → Comes S t c a → BeginsOrNot t c a
  comes_begins t c _ (begins m life rest target next) = inl (m, refl, next)
  comes_begins t c _ (begins_spare d m life rest target may is unlisted room) = inr tt
  comes_begins t c _ (ends m step is) = inr tt
  comes_begins t c _ (ends_spare d m step is) = inr tt
  comes_begins t c _ (lapses aim m step late is) = inr tt
  comes_begins t c _ (fails d who may) = inr tt
  comes_begins t c _ (kills who awake) = inr tt
  comes_begins t c _ (resumes d taking young) = inr tt
  comes_begins t c _ (unblocks d rest blocked ended unexpected) = inr tt
  comes_begins t c _ (readies v started state rest ended) = inr tt
  comes_begins t c _ (pends v sound state submitted) = inr tt
  comes_begins t c _ (activates v runs state rest ended dirty) = inr tt
  comes_begins t c _ (again v sound state submitted) = inr tt
  comes_begins t c _ (idles v who runs state none) = inr tt
  comes_begins t c _ (cleans v runs state rest) = inr tt
  comes_begins t c _ (client k new word move) = inr tt
  comes_begins t c _ (pass v slots new word move) = inr tt
  comes_begins t c _ (manages new word move) = inr tt
  comes_begins t c _ (takes_over who life) = inr tt
  comes_begins t c _ (dies taking) = inr tt

  read_begins_none : (c : Control) (d : ℕ) (left : List ℕ) (seen : List Sector) (found : List ℕ) (all : Bool)
      → BeginsNone (after_read S c d left seen found all)
  read_begins_none c d left seen found true = tt
  read_begins_none c d left seen found false = tt

  rows_begin_none : (c : Control) (d : ℕ) (what : What) (x : Ended) (a : Change) → AtRows S c d what x a → BeginsNone a
  rows_begin_none c d _ x _ (by_client k i r need _ _ call) = tt
  rows_begin_none c d _ x _ (by_pass v p need _ _ call) = tt
  rows_begin_none c d _ x _ (by_monitor left seen found _ life) =
      read_begins_none c d left (seen ++ x.got ∷ []) found (has_all S (seen ++ x.got ∷ []))

  effect_begins : (t : InTurn) (c : Control) {call : Option Call} {x : Ended} {a : Change} → Effect S t c call x a
      → BeginsOrNot t c a
  effect_begins t c (quiet x a comes) = comes_begins t c a comes
  effect_begins t c (row d what x a may calls went at) = inr (rows_begin_none c d what x a at)
  effect_begins t c (row_fails d what x may calls failed lost) = inr tt
  effect_begins t c (steps d m step x target went) = inr tt
  effect_begins t c (step_fails d m step x target failed) = inr tt

  -- EFFECTS

  module _ (P : Premises S) (t : InTurn) (w : World) (call : Option Call) (x : Ended) (a : Change)
      (o : OverBase S P t w call x a) where
    abbrev log : List Call
    log = log_after w.log call

    abbrev new : Control
    new = put S a w.control

    -- a round that began before has its block still
    pub old_begun : (front : List Entry) (stamp g : ℕ) → HasBegun S (disks_by S w.log) w.control w.log front stamp g
        → stamp ≤ length log → HasBegun S (disks_by S log) new log front stamp g
    old_begun front stamp g b inside =
        let stays =
        begun_change P t w.control o.before.core.hand.book o.effect g b.block b.below b.going in
        record {
          block = b.block;
          below = stays.below;
          only = only_behind P w.control (disks_by S w.log) (disks_by S log) o.does o.before.goes g b.block b.only
              b.going;
          going = stays.going;
          inside = inside;
          keeps = λ last finished. b.keeps last
              (subst (λ l. IsFinished S.start l front last) (take_before w.log call stamp b.inside) finished);
        }

    pub old_block : (front : List Entry) (stamp g : ℕ)
        (b : HasBegun S (disks_by S w.log) w.control w.log front stamp g) (inside : stamp ≤ length log)
        → (old_begun front stamp g b inside).block ≡ b.block
    unfolding old_begun
    old_block front stamp g b inside = refl

    module _ (stamps : Stamps w) (behind : Stamps (after_effect S w call a)) where
      abbrev n : ℕ
      n = calls_after w.calls call

      whole : take n log ≡ log
      whole = take_all n log (let count = behind.calls in omega (arith, count))

      -- the round that begins
      pub new_begun : (m : Laid) → IsNext S t w.control m → Tells S w.control w.journal
          → LeadsTo S w.control.round.faults w.control.round.last m
          → HasBegun S (disks_by S log) (put S (RoundBegins m) w.control) log w.journal n (generation_of S m)
      new_begun m next told leads =
          let top = next_generation S P t w.control m next o.before.core.hand.book in
          record {
            block = m;
            below = omega (arith, top);
            only = λ e b i container same.
                absurd (let most = o.between.core.known.noted e b i container in omega (arith, most, top, same));
            going = subst (λ r. IsOnlyRound S r (generation_of S m) m) (sym (in_on_with OfRound m _ _ false))
                (λ is. refl);
            inside = let count = behind.calls in omega (arith, count);
            keeps = λ last finished.
                let here = subst (λ l. IsFinished S.start l w.journal last) whole finished in
                let is = finished_last S P log w.journal w.control o.between.core told last here in
                subst (λ z. KeepsMembers S.start w.journal z m) (sym is)
                (keeps_members S w.control w.journal m told leads);
          }

      pub new_block : (m : Laid) (next : IsNext S t w.control m) (told : Tells S w.control w.journal)
          (leads : LeadsTo S w.control.round.faults w.control.round.last m) → (new_begun m next told leads).block ≡ m
      unfolding new_begun
      new_block m next told leads = refl

      other_entry : BeginsNone a → (e : Event) → entry_of S a ≡ Some e
          → HasBegunAt S (disks_by S log) new log w.journal n e
      other_entry none (Begin g) is =
          let leaves : Leaves g (Some (Begin g)) = subst (Leaves g) is (leaves_all g S a none) in
          absurd (let same = eq-eqb g g refl in cc (leaves, same))
      other_entry none _ is = tt

      entry_begun : Tells S w.control w.journal → LastLeads S (disks_by S log) new → (e : Event)
          → entry_of S a ≡ Some e → HasBegunAt S (disks_by S log) new log w.journal n e
      entry_begun told leads e is = elim (effect_begins t w.control o.effect) [
        | inl (m, same, next) ↦
            let there = subst (λ z. LastLeads S (disks_by S log) (put S z w.control)) same leads in
            let event : Begin (generation_of S m) ≡ e = let told_so = ap (entry_of S) (sym same) ∙ is in cc told_so in
            subst (HasBegunAt S (disks_by S log) new log w.journal n) event
            (subst (λ z. HasBegun S (disks_by S log) (put S z w.control) log w.journal n (generation_of S m)) (sym same)
            (new_begun m next told there.of_book))
        | inr none ↦ other_entry none e is
      ]

      old_entry : (front : List Entry) (stamp : ℕ) (e : Event)
          → HasBegunAt S (disks_by S w.log) w.control w.log front stamp e
          → HasBegunAt S (disks_by S log) new log front stamp e
      old_entry front stamp (Begin g) b =
          let before = b.inside in
          let counts = stamps.calls in
          let more = later w.calls call in
          let count = behind.calls in
          old_begun front stamp g b (omega (arith, before, counts, more, count))
      old_entry front stamp _ b = tt

      -- of each entry of the journal
      pub begun_effect : Tells S w.control w.journal → LastLeads S (disks_by S log) new
          → AtEach (λ f e. HasBegunAt S (disks_by S w.log) w.control w.log f e.stamp e.event) w.journal
          → AtEach (λ f e. HasBegunAt S (disks_by S log) new log f e.stamp e.event)
          (w.journal ++ entered n (entry_of S a))
      begun_effect told leads begun =
          at_each_more (λ f e. HasBegunAt S (disks_by S log) new log f e.stamp e.event) w.journal
          (entered n (entry_of S a))
          (at_each_map (λ f e. HasBegunAt S (disks_by S w.log) w.control w.log f e.stamp e.event)
          (λ f e. HasBegunAt S (disks_by S log) new log f e.stamp e.event)
          (λ f e had. old_entry f e.stamp e.event had) [] w.journal begun)
          (at_entered (λ f e. HasBegunAt S (disks_by S log) new log f e.stamp e.event) w.journal n (entry_of S a)
          (entry_begun told leads))

  -- THE LAW

  begin_keeps : (log : List Call) (c : Control) (front : List Entry) (stamp g : ℕ)
      → HasBegun S (disks_by S log) c log front stamp g → BeginKeeps S.start log front stamp (Begin g)
  begin_keeps calls c front stamp g b m last round finished =
      let same = b.only round.disk m (round_known S.start calls stamp g m round) round.container round.generation in
      subst (KeepsMembers S.start front last) (sym same) (b.keeps last finished)

  entry_keeps : (log : List Call) (c : Control) (front : List Entry) (stamp : ℕ) (e : Event)
      → HasBegunAt S (disks_by S log) c log front stamp e → BeginKeeps S.start log front stamp e
  entry_keeps calls c front stamp (Begin g) b = begin_keeps calls c front stamp g b
  entry_keeps calls c front stamp _ b = tt

  -- so each round keeps members
  pub begins_keep : (log : List Call) (c : Control) (journal : List Entry)
      → AtEach (λ f e. HasBegunAt S (disks_by S log) c log f e.stamp e.event) journal
      → AtEach (λ f e. BeginKeeps S.start log f e.stamp e.event) journal
  begins_keep log c journal begun =
      at_each_map (λ f e. HasBegunAt S (disks_by S log) c log f e.stamp e.event)
      (λ f e. BeginKeeps S.start log f e.stamp e.event) (λ f e had. entry_keeps log c f e.stamp e.event had) []
      journal begun
