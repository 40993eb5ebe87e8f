-- What holds in each world of each run, that every law of causes leans on: what the journal says of failures and of the
-- monitor's life, and which entry stands last where a change left a link.
use Rattle.std.proofs.Common.{◌≡◌, ℕ, List, [], ◌∷◌, ◌++◌, refl, sym, ◌∙◌, subst, Option, Some, None}
use Rattle.std.specs.Prelude.{⊤}
use Rattle.std.specs.List.{last_or}
use Rattle.device_log.specs.Log.{Call}
use Rattle.array_model.specs.declared.journal.Entry.{Entry}
use Rattle.array_model.specs.declared.journal.Event.TheVariants.{Submit, Ready, Applied}
use Rattle.array_machine.specs.Setting.{Setting}
use Rattle.array_machine.specs.Volumes.{Volume}
use Rattle.array_machine.specs.Rounds.{Ended}
use Rattle.array_machine.specs.States.{StateWord, ToPending, ToActiveAgain}
use Rattle.array_machine.specs.Clients.{Job, NoJob, Submitted, Busy}
use Rattle.array_machine.specs.Changes.{Change, RoundEnds, StateGoes, ClientMoves, PassMoves, ManagerMoves, PassWord, entry_of, state_entry, pass_entry}
use Rattle.array_machine.specs.Machine.{Actor, Monitor, World, begins_at, calls_after, entered, Reached, opens, goes}
use Rattle.array_paths.specs.InTurn.{InTurn}
use Rattle.array_paths.specs.Effects.{after_effect}
use Rattle.array_paths.specs.Follows.{in_turn}
use Rattle.array_base.specs.Premises.{Premises}
use Rattle.array_base.specs.Opening.{Opening}
use Rattle.array_causes.specs.Links.{Link, First, Fresh, BehindSubmit, BehindEnd, BehindReady, BehindApplied, BehindAsk, behind_submit, behind_ask, behind_pass, link_after, IsSettled, IsFirst}
use Rattle.array_causes.specs.Before.{IsRightBehind, end_at, end_from, IsBehindEnd}
use Rattle.array_causes.specs.Follow.{AllActors, OverLink, FollowsLinks}
use Rattle.array_causes.proofs.Words.{each_state, each_client, each_pass, each_update}
use Rattle.array_causes.proofs.Follow.{along_links}
use Rattle.array_causes.proofs.Failures.{means}
use Rattle.array_causes.proofs.FailureLaw.{FailuresTold, failures_open, told_on}

-- LONGER JOURNALS

pub last-append : (o : Option Entry) (journal : List Entry) (e : Entry) → last_or o (journal ++ e ∷ []) ≡ Some e
last-append o [] e = refl
last-append o (x ∷ xs) e = last-append (Some x) xs e

pub end-append : (end : Option ℕ) (xs ys : List Entry) → end_from end (xs ++ ys) ≡ end_from (end_from end xs) ys
end-append end [] ys = refl
end-append end (x ∷ xs) ys = end-append (end_at x.stamp end x.event) xs ys

-- WHAT A LINK SAYS

-- the change that left it entered this, or just ended a round
abbrev pub LinkTold : (stamp : ℕ) → List Entry → Link → Type 0
LinkTold stamp journal First = ⊤
LinkTold stamp journal Fresh = ⊤
LinkTold stamp journal (BehindSubmit k i) = IsRightBehind journal stamp (Submit i)
LinkTold stamp journal (BehindAsk k) = ⊤
LinkTold stamp journal BehindEnd = IsBehindEnd journal stamp
LinkTold stamp journal (BehindReady v) = IsRightBehind journal stamp (Ready (record { 0 = v }))
LinkTold stamp journal BehindApplied = (n : ℕ) × IsRightBehind journal stamp (Applied n)

-- no call comes behind a link, so the turn's stamp stays
pub told_now : (w : World) (call : Option Call) (link : Link) → IsFirst link call → LinkTold w.calls w.journal link
    → LinkTold (calls_after w.calls call) w.journal link
told_now w None link first told = told
told_now w (Some call) link first told =
    subst (LinkTold (calls_after w.calls (Some call)) w.journal) (sym first) tt

module _ (S : Setting) where
  behind_passes : (stamp : ℕ) (journal : List Entry) (link : Link) (v : ℕ) (word : PassWord)
      → LinkTold stamp journal link → LinkTold stamp (journal ++ entered stamp (pass_entry v word)) (behind_pass link)
  behind_passes stamp journal First v word had = tt
  behind_passes stamp journal Fresh v word had = tt
  behind_passes stamp journal (BehindSubmit k i) v word had = tt
  behind_passes stamp journal (BehindAsk k) v word had = tt
  behind_passes stamp journal (BehindReady w) v word had = tt
  behind_passes stamp journal BehindApplied v word had = tt
  behind_passes stamp journal BehindEnd v word had =
      each_pass (λ word. LinkTold stamp (journal ++ entered stamp (pass_entry v word)) BehindEnd)
      (end-append None journal [] ∙ had) (λ row. end-append None journal _ ∙ had)
      (λ unit. end-append None journal _ ∙ had) (end-append None journal _ ∙ had) word

  -- behind an effect with a call only a change that leaned on nothing stands
  link_on : (w : World) (call : Option Call) (link : Link) (a : Change) → IsFirst link call
      → LinkTold w.calls w.journal link
      → LinkTold (calls_after w.calls call)
      (w.journal ++ entered (calls_after w.calls call) (entry_of S a)) (link_after link a)
  link_on w call link (RoundEnds m) first had = end-append None w.journal _
  link_on w call link (StateGoes v word) first had =
      each_state (λ word. LinkTold (calls_after w.calls call)
      (w.journal ++ entered (calls_after w.calls call) (entry_of S (StateGoes v word)))
      (link_after link (StateGoes v word))) (last-append None w.journal _) (asks link ToPending) tt
      (asks link ToActiveAgain) tt tt word
    where
      asks : (link : Link) (word : StateWord) → LinkTold (calls_after w.calls call)
          (w.journal ++ entered (calls_after w.calls call) (state_entry v word)) (behind_ask link)
      asks First word = tt
      asks Fresh word = tt
      asks (BehindSubmit k i) word = tt
      asks (BehindAsk k) word = tt
      asks BehindEnd word = tt
      asks (BehindReady v) word = tt
      asks BehindApplied word = tt
  link_on w call link (ClientMoves k new word) first had =
      each_client (λ word. LinkTold (calls_after w.calls call)
      (w.journal ++ entered (calls_after w.calls call) (entry_of S (ClientMoves k new word)))
      (link_after link (ClientMoves k new word))) tt (λ i. submitted new.job i) (λ i answer. tt) word
    where
      submitted : (job : Job) (i : ℕ) → LinkTold (calls_after w.calls call)
          (w.journal ++ entered (calls_after w.calls call) (Some (Submit i))) (behind_submit job k i)
      submitted NoJob i = tt
      submitted (Submitted j) i = last-append None w.journal _
      submitted (Busy j r) i = tt
  link_on w call link (ManagerMoves new word) first had =
      each_update (λ word. LinkTold (calls_after w.calls call)
      (w.journal ++ entered (calls_after w.calls call) (entry_of S (ManagerMoves new word)))
      (link_after link (ManagerMoves new word))) tt (λ n. tt)
      (λ n. (n, last-append None w.journal _)) (λ n kind. tt) word
  link_on w None link (PassMoves v slots pass word) first had =
      behind_passes w.calls w.journal link v word had
  link_on w (Some call) link (PassMoves v slots pass word) first had =
      subst (λ l. LinkTold (calls_after w.calls (Some call))
      (w.journal ++ entered (calls_after w.calls (Some call)) (pass_entry v word)) (behind_pass l)) (sym first) tt
  link_on w call link _ first had = tt

  -- behind a change of the turn it is no more the first
  never_first : (link : Link) (a : Change) → link_after link a ≡ First → ⊥
  never_first link (RoundEnds m) is = absurd cc
  never_first link (StateGoes v word) is =
      each_state (λ word. link_after link (StateGoes v word) ≡ First → ⊥) (λ e. absurd cc) (ask link)
      (λ e. absurd cc) (ask link) (λ e. absurd cc) (λ e. absurd cc) word is
    where
      ask : (link : Link) → behind_ask link ≡ First → ⊥
      ask First e = absurd cc
      ask Fresh e = absurd cc
      ask (BehindSubmit k i) e = absurd cc
      ask (BehindAsk k) e = absurd cc
      ask BehindEnd e = absurd cc
      ask (BehindReady v) e = absurd cc
      ask BehindApplied e = absurd cc
  never_first link (ClientMoves k new word) is =
      each_client (λ word. link_after link (ClientMoves k new word) ≡ First → ⊥) (λ e. absurd cc)
      (λ i e. submitted new.job i e) (λ i answer e. absurd cc) word is
    where
      submitted : (job : Job) (i : ℕ) → behind_submit job k i ≡ First → ⊥
      submitted NoJob i e = absurd cc
      submitted (Submitted j) i e = absurd cc
      submitted (Busy j r) i e = absurd cc
  never_first link (ManagerMoves new word) is =
      each_update (λ word. link_after link (ManagerMoves new word) ≡ First → ⊥) (λ e. absurd cc) (λ u e. absurd cc)
      (λ u e. absurd cc) (λ u kind e. absurd cc) word is
  never_first First (PassMoves v slots pass word) is = absurd cc
  never_first Fresh (PassMoves v slots pass word) is = absurd cc
  never_first (BehindSubmit k i) (PassMoves v slots pass word) is = absurd cc
  never_first (BehindAsk k) (PassMoves v slots pass word) is = absurd cc
  never_first BehindEnd (PassMoves v slots pass word) is = absurd cc
  never_first (BehindReady w) (PassMoves v slots pass word) is = absurd cc
  never_first BehindApplied (PassMoves v slots pass word) is = absurd cc
  never_first link _ is = absurd cc

  -- THE GROUNDS

  -- of a turn, of the link that its last change left, and of a world
  pub record Grounds (t : InTurn) (link : Link) (w : World) : Type 0 where
    pub first : link ≡ First → w.control ≡ t.before
    pub told : FailuresTold S (λ d. ⊤) w
    pub behind : LinkTold w.calls w.journal link

  -- a fact of the turn, of the last link and of the world that a law follows along runs, over the grounds
  pub record FollowsGrounds (P : Premises S) (volumes : List Volume) (spares : List ℕ)
      (Q : InTurn → Link → World → Type 0) : Type 0 where
    pub opens : Q (in_turn (begins_at S volumes spares).control Monitor) First (begins_at S volumes spares)
    pub begins : (t : InTurn) (link : Link) (w : World) (who : Actor) → IsSettled link → Q t link w
        → Q (in_turn w.control who) First w
    pub step : (t : InTurn) (link : Link) (w : World) (call : Option Call) (x : Ended) (a : Change)
        → OverLink S P t link w call x a → Grounds t link w → Grounds t (link_after link a) (after_effect S w call a)
        → Q t link w → Q t (link_after link a) (after_effect S w call a)

  -- whoever takes the turns
  all_actors : (volumes : List Volume) (spares : List ℕ) (A : Actor → Type 0) → ((who : Actor) → A who) → (w : World)
      → (run : Reached S volumes spares w) → AllActors S volumes spares A w run
  all_actors volumes spares A each w opens = tt
  all_actors volumes spares A each w (goes {w = v} run a fits) =
      (each a.actor, all_actors volumes spares A each v run)

  grounds_on : (P : Premises S) (t : InTurn) (link : Link) (w : World) (call : Option Call) (x : Ended) (a : Change)
      → OverLink S P t link w call x a → Grounds t link w → Grounds t (link_after link a) (after_effect S w call a)
  grounds_on P t link w call x a over g = record {
    first = λ is. absurd (never_first link a is);
    told = told_on S (λ d. ⊤) w call a (means S (λ d. ⊤) t w.control call x a (λ d is. tt) over.effect) g.told;
    behind = link_on w call link a over.first g.behind;
  }

  -- it holds in each world of each run, in some turn and behind some link
  pub along_grounds : (P : Premises S) (volumes : List Volume) (spares : List ℕ) → Opening S P volumes spares
      → (Q : InTurn → Link → World → Type 0) → FollowsGrounds P volumes spares Q → (w : World)
      → Reached S volumes spares w → (t : InTurn) × (link : Link) × Q t link w
  along_grounds P volumes spares o Q law w run =
      let found = along_links S P volumes spares o (λ who. ⊤) (λ t link w. Grounds t link w × Q t link w) follows w run
      (all_actors volumes spares (λ who. ⊤) (λ who. tt) w run) in
      (found.0, found.1, found.3.1)
    where
      follows : FollowsLinks S P volumes spares (λ who. ⊤) (λ t link w. Grounds t link w × Q t link w)
      follows = record {
        opens = (
          record { first = λ is. refl; told = failures_open S (λ d. ⊤) volumes spares; behind = tt },
          law.opens,
        );
        begins = λ t link w who may settled had. (
          record { first = λ is. refl; told = had.0.told; behind = tt },
          law.begins t link w who settled had.1,
        );
        step = λ t link w call x a over had. (
          grounds_on P t link w call x a over had.0,
          law.step t link w call x a over had.0 (grounds_on P t link w call x a over had.0) had.1,
        );
      }
