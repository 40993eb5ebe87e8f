-- When a pass began, in a journal that grows by one entry.
use Rattle.std.proofs.Common.{◌≡◌, ℕ, ◌==◌, Bool, true, false, cond, List, [], ◌∷◌, ◌++◌, refl, ap, sym, ◌∙◌, subst, Option, Some, None, ◌⊎◌, inl, inr, arith}
use Rattle.std.specs.Prelude.{⊤}
use Rattle.std.proofs.lemmas.Bool.Decides.{nat_tests}
use Rattle.std.proofs.lemmas.List.{append-nil}
use Rattle.array_model.specs.declared.journal.Entry.{Entry}
use Rattle.array_model.specs.declared.journal.Event.{Event}
use Rattle.array_model.specs.declared.journal.Event.TheVariants.{Pass as PassOpens}
use Rattle.array_model.specs.FailureLaw.{pass_at, pass_from}
use Rattle.array_machine.specs.Setting.{Setting}
use Rattle.array_machine.specs.Volumes.{Slot, Pass}
use Rattle.array_machine.specs.States.{ToReady, ToPending, ToActive, ToActiveAgain, ToIdle, ToClean}
use Rattle.array_machine.specs.Changes.{Change, StepsOn, RoundBegins, SpareBegins, RoundEnds, SpareEnds, RoundLapses, DiskFails, DiskUnblocks, StateGoes, ClientMoves, PassMoves, ManagerMoves, MonitorKilled, TakeoverStarts, TakeoverReads, MonitorResumes, MonitorDies, IsSilent, Submits, Acknowledges, GoesOnQuietly, OpensAt, Reaches, Closes, SaysNothing, Posts, Applies, Declines, entry_of}
use Rattle.array_machine.specs.Machine.{entered}

from-append : (v : ℕ) (found : Option ℕ) (xs ys : List Entry)
    → pass_from v found (xs ++ ys) ≡ pass_from v (pass_from v found xs) ys
from-append v found [] ys = refl
from-append v found (x ∷ xs) ys = from-append v (pass_at v found x.stamp x.event) xs ys

-- an update, a failure, a kill or a takeover: from here on no pass counts until one begins
abbrev pub Resets : Change → Type 0
Resets (DiskFails d) = ⊤
Resets (ManagerMoves manager (Applies n)) = ⊤
Resets MonitorKilled = ⊤
Resets (TakeoverStarts left) = ⊤
Resets _ = ⊥

-- a pass opens
abbrev pub OpensPass : Change → Type 0
OpensPass (PassMoves v slots new (OpensAt row)) = ⊤
OpensPass _ = ⊥

module _ (S : Setting) (v n : ℕ) (journal : List Entry) (stamp : ℕ) where
  abbrev was : Option ℕ
  was = pass_from v None journal

  abbrev now : Change → Option ℕ
  now a = pass_from v None (journal ++ entered stamp (entry_of S a))

  by_event : (e : Event) → pass_from v None (journal ++ entered stamp (Some e)) ≡ pass_at v was stamp e
  by_event e = from-append v None journal (entered stamp (Some e))

  by_none : pass_from v None (journal ++ []) ≡ was
  by_none = ap (pass_from v None) (append-nil journal)

  pub since_reset : (a : Change) → Resets a → now a ≡ None
  since_reset (DiskFails d) resets = by_event _
  since_reset (ManagerMoves manager (Applies k)) resets = by_event _
  since_reset MonitorKilled resets = by_event _
  since_reset (TakeoverStarts left) resets = by_event _
  since_reset _ resets = absurd resets

  -- a pass of this volume that opens begins now; of another one it is nothing
  pub since_opened : (u : ℕ) (slots : _) (new : _) (row : ℕ) → now (PassMoves u slots new (OpensAt row)) ≡ Some n
      → ((u ≡ v) × (n ≡ stamp)) ⊎ ((u ≡ v → ⊥) × (was ≡ Some n))
  since_opened u slots new row is = at (u == v) refl (sym (by_event (PassOpens (record { 0 = u }) row)) ∙ is)
    where
      at : (b : Bool) → (u == v) ≡ b → cond b (Some stamp) was ≡ Some n
          → ((u ≡ v) × (n ≡ stamp)) ⊎ ((u ≡ v → ⊥) × (was ≡ Some n))
      at true same is = inl (grind (arith, nat_tests, same), cc is)
      at false other is = inr ((λ same. grind (arith, nat_tests, other, same)), is)

  -- any other change leaves it, or takes it away
  pub since_kept : (a : Change) → (OpensPass a → ⊥) → (Resets a → ⊥) → now a ≡ Some n → was ≡ Some n
  since_kept (DiskFails d) opens resets is = absurd (resets tt)
  since_kept (ManagerMoves manager (Applies k)) opens resets is = absurd (resets tt)
  since_kept (ManagerMoves manager SaysNothing) opens resets is = sym by_none ∙ is
  since_kept (ManagerMoves manager (Posts k)) opens resets is = sym (by_event _) ∙ is
  since_kept (ManagerMoves manager (Declines k kind)) opens resets is = sym (by_event _) ∙ is
  since_kept MonitorKilled opens resets is = absurd (resets tt)
  since_kept (TakeoverStarts left) opens resets is = absurd (resets tt)
  since_kept (PassMoves u slots new (OpensAt row)) opens resets is = absurd (opens tt)
  since_kept (PassMoves u slots new GoesOnQuietly) opens resets is = sym by_none ∙ is
  since_kept (PassMoves u slots new (Reaches unit)) opens resets is = sym (by_event _) ∙ is
  since_kept (PassMoves u slots new Closes) opens resets is = sym (by_event _) ∙ is
  since_kept StepsOn opens resets is = sym by_none ∙ is
  since_kept (RoundBegins m) opens resets is = sym (by_event _) ∙ is
  since_kept (SpareBegins d m) opens resets is = sym by_none ∙ is
  since_kept (RoundEnds m) opens resets is = sym (by_event _) ∙ is
  since_kept (SpareEnds d) opens resets is = sym (by_event _) ∙ is
  since_kept RoundLapses opens resets is = sym by_none ∙ is
  since_kept (DiskUnblocks d) opens resets is = sym (by_event _) ∙ is
  since_kept (StateGoes u ToReady) opens resets is = sym (by_event _) ∙ is
  since_kept (StateGoes u ToPending) opens resets is = sym (by_event _) ∙ is
  since_kept (StateGoes u ToActive) opens resets is = sym (by_event _) ∙ is
  since_kept (StateGoes u ToActiveAgain) opens resets is = sym by_none ∙ is
  since_kept (StateGoes u ToIdle) opens resets is = sym (by_event _) ∙ is
  since_kept (StateGoes u ToClean) opens resets is = sym (by_event _) ∙ is
  since_kept (ClientMoves k client IsSilent) opens resets is = sym by_none ∙ is
  since_kept (ClientMoves k client (Submits i)) opens resets is = sym (by_event _) ∙ is
  since_kept (ClientMoves k client (Acknowledges i answer)) opens resets is = sym (by_event _) ∙ is
  since_kept (TakeoverReads left seen found) opens resets is = sym by_none ∙ is
  since_kept (MonitorResumes d) opens resets is = sym by_none ∙ is
  since_kept MonitorDies opens resets is = sym by_none ∙ is

  -- WHICH IT IS

  pub record IsOpening (a : Change) : Type 0 where
    pub volume : ℕ
    pub slots : List Slot
    pub pass : Option Pass
    pub row : ℕ
    pub is : a ≡ PassMoves volume slots pass (OpensAt row)

  splits : (a : Change) → IsOpening a ⊎ (Resets a ⊎ ((OpensPass a → ⊥) × (Resets a → ⊥)))
  splits (DiskFails d) = inr (inl tt)
  splits (ManagerMoves manager (Applies k)) = inr (inl tt)
  splits MonitorKilled = inr (inl tt)
  splits (TakeoverStarts left) = inr (inl tt)
  splits (PassMoves u slots new (OpensAt row)) =
      inl (record { volume = u; slots = slots; pass = new; row = row; is = refl })
  splits _ = inr (inr ((λ h. h), (λ h. h)))

  -- a pass that counts begins now, or counted before
  pub since_or : (a : Change) → now a ≡ Some n → (n ≡ stamp) ⊎ (was ≡ Some n)
  since_or a is = elim (splits a) [
    | inl opening ↦
        let told : now (PassMoves opening.volume opening.slots opening.pass (OpensAt opening.row)) ≡ Some n =
        ap now (sym opening.is) ∙ is in
        elim (since_opened opening.volume opening.slots opening.pass opening.row told) [
          | inl fresh ↦ inl fresh.1
          | inr old ↦ inr old.1
        ]
    | inr other ↦ elim other [
      | inl resets ↦ absurd (let none = since_reset a resets in cc (none, is))
      | inr plain ↦ inr (since_kept a plain.0 plain.1 is)
    ]
  ]

  -- what says nothing changes nothing
  pub since_silent : (a : Change) → entry_of S a ≡ None → now a ≡ Some n → was ≡ Some n
  since_silent a none is =
      sym (subst (λ o. pass_from v None (journal ++ entered stamp o) ≡ was) (sym none) by_none) ∙ is
