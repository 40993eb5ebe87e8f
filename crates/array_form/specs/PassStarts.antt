-- Where a pass begins: right behind its volume's ready, in the same turn, or where a spare was activated. An activation
-- has a number that isn't below the number of asks, since it is posted only where each ask was. Source: sync_action of
-- the kernel's md.rst and imsm_activate_spare of super-intel.c; the order of numbers is this project's own.
use Rattle.std.specs.Prelude.{⊤, ◌≡◌, ℕ, ◌+◌, ◌<◌, ◌≤◌, true, List, [], ◌∷◌, length, Option, Some, None, ◌⊎◌}
use Rattle.std.specs.List.{AllByRecursion, last_or}
use Rattle.array_model.specs.declared.journal.Entry.{Entry}
use Rattle.array_model.specs.declared.journal.Event.{Event}
use Rattle.array_model.specs.declared.journal.Event.TheVariants.{Pass, Ready}
use Rattle.array_model.specs.Script.{Asked}
use Rattle.array_model.specs.Start.{Start}
use Rattle.array_model.specs.Counts.{has_spare}
use Rattle.array_model.specs.Events.{AtEach, has, is_ready, is_applied_from}
use Rattle.array_machine.specs.Setting.{Setting}
use Rattle.array_machine.specs.States.{ToReady}
use Rattle.array_machine.specs.Managers.{AskState, IsUnposted, Want, OfAsk, OfSpareDisk, Update, Manager}
use Rattle.array_machine.specs.Changes.{Change, StateGoes, ManagerMoves, Applies}
use Rattle.array_machine.specs.Machine.{World}
use Rattle.array_paths.specs.InTurn.{InTurn}
use Rattle.array_form.specs.Passes.{NoneGives, EndsSettled}
use Rattle.array_form.specs.SpareCauses.{SparesKnown}

-- THE LAW

-- the entry before, of the same turn, says that the volume is ready
abbrev pub IsReadyOf : ℕ → ℕ → Option Entry → Type 0
IsReadyOf v stamp None = ⊥
IsReadyOf v stamp (Some e) = (e.stamp ≡ stamp) × (is_ready v e.event ≡ true)

-- an update was applied whose number isn't below the number of asks, and there is a spare: some disk was one at
-- opening, or an ask makes one
pub record WasActivated (start : Start) (asked : Asked) (front : List Entry) : Type 0 where
  pub number : has (is_applied_from (length asked.asks)) front ≡ true
  pub spare : has_spare start asked ≡ true

abbrev pub StartsAfter : Start → Asked → List Entry → ℕ → Event → Type 0
StartsAfter start asked front stamp (Pass v first) =
    IsReadyOf v.0 stamp (last_or None front) ⊎ WasActivated start asked front
StartsAfter start asked front stamp _ = ⊤

abbrev pub PassesStartSo : Start → Asked → List Entry → Type 0
PassesStartSo start asked journal = AtEach (λ front e. StartsAfter start asked front e.stamp e.event) journal

-- WHAT A RUN KEEPS

-- an ask that was posted has a place below the number of updates that were
abbrev pub IsPostedBelow : AskState → (place posted : ℕ) → Type 0
IsPostedBelow IsUnposted place posted = ⊤
IsPostedBelow _ place posted = place < posted

-- those from this place on
abbrev pub ArePostedBelow : (place : ℕ) → List AskState → (posted : ℕ) → Type 0
ArePostedBelow place [] posted = ⊤
ArePostedBelow place (a ∷ more) posted = IsPostedBelow a place posted × ArePostedBelow (place + 1) more posted

-- an update of an ask has the ask's place below, one of a spare has a number that isn't below the number of asks
abbrev pub IsNumberedFor : (asks posted : ℕ) → Want → (number : ℕ) → Type 0
IsNumberedFor asks posted (OfAsk i) number = i < posted
IsNumberedFor asks posted (OfSpareDisk d i) number = asks ≤ number

pub record AskNumbers (asks : ℕ) (m : Manager) : Type 0 where
  pub long : length m.asks ≡ asks
  pub below : ArePostedBelow 0 m.asks m.posted
  pub queued : AllByRecursion (λ (u : Update). IsNumberedFor asks m.posted u.want u.number) m.queue

-- that a volume was made ready by the last change of this turn is the last entry
abbrev pub SaysReady : Option Change → World → Type 0
SaysReady (Some (StateGoes v ToReady)) w =
    last_or None w.journal ≡ Some (record { stamp = w.calls; event = Ready (record { 0 = v }) })
SaysReady _ w = ⊤

-- an activation that was applied by the last change of this turn is entered
abbrev pub SaysApplied : (asks : ℕ) → Option Change → List Entry → Type 0
SaysApplied asks (Some (ManagerMoves new (Applies n))) journal =
    asks ≤ n → has (is_applied_from asks) journal ≡ true
SaysApplied asks _ journal = ⊤

-- until a spare is activated, no block gives a volume other disks
pub record PassStarts (S : Setting) (t : InTurn) (prev : Option Change) (w : World) : Type 0 where
  pub law : PassesStartSo S.start S.asked w.journal
  pub ready : SaysReady prev w
  pub applied : SaysApplied (length S.asked.asks) prev w.journal
  pub settled : EndsSettled S t.before prev w.control
  pub before : AskNumbers (length S.asked.asks) t.before.manager
  pub numbers : AskNumbers (length S.asked.asks) w.control.manager
  pub spares_before : SparesKnown S t.before
  pub spares : SparesKnown S w.control
  pub none : (v : ℕ) → WasActivated S.start S.asked w.journal
      ⊎ (S.start.is_started v ≡ true → NoneGives S v w.control)
