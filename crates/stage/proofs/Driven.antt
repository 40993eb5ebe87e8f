-- What a turn leaves as it was, what it spends, and why it ends a drive.
use Rattle.std.proofs.Common.{◌≡◌, ℕ, ◌+◌, ◌<◌, Bool, true, false, List, [], ◌∷◌, length, Option, Some, None, ◌⊎◌, inl, inr, refl, ap, sym, subst, ◌∙◌, arith, length-append}
use Rattle.std.proofs.lemmas.Bool.{cases_order}
use Rattle.units.specs.declared.disk.Sector.{Sector}
use Rattle.device_log.specs.Log.{Call}
use Rattle.array_model.specs.declared.journal.Entry.{Entry}
use Rattle.array_model.specs.declared.journal.Event.{Event}
use Rattle.stage_machine.specs.Rounds.{Ended}
use Rattle.stage_machine.specs.Machine.{Action, Asks, Quiets, Out, turned, call_of, calls_after, stamped}
use Rattle.control_state.specs.Still.{does_nothing, is_silent, is_still}
use Rattle.stage.specs.declared.ends.Cycle.TheVariants.{Rested}
use Rattle.stage.specs.declared.turned.Turned.{Turned}
use Rattle.stage.specs.declared.turned.Turned.TheVariants.{Moved, Idle, JournalFull, Member}
use Rattle.stage.specs.Stages.{Seen, Turns, Acted, Answered, setting_of}
use Rattle.stage.specs.Drives.{Follows, Spends, ClientsStill, Cycled, AllStill, spent, budget}
use Rattle.stage.proofs.Staged.{not_full, length-stamped}

follows_same : {B : Type 0} (a b : Seen B) → b ≡ a → Follows a b
follows_same {B} a b is = subst (λ (x : Seen B). Follows a x) (sym is) (record { given = refl; room = refl; spends = omega arith })

-- something is called or entered
does : (made : ℕ) (call : Option Call) (out : Out) → does_nothing call out ≡ false → made < calls_after made call + length out.events
does made None out is = by out.events is
  where
    by : (es : List Event) → is_silent es ≡ false → made < made + length es
    by [] is = absurd (cc is)
    by (e ∷ es) is = omega arith
does made (Some call) out is = omega arith

longer : {B : Type 0} (a b : Seen B) (act : Action) → Turns a b act → length b.journal ≡ length a.journal + length (turned (setting_of a.given) a.control act).events
longer a b act t =
    ap (λ (xs : List Entry). length xs) t.journal ∙ length-append a.journal (stamped b.calls (turned (setting_of a.given) a.control act).events)
    ∙ ap (λ (k : ℕ). length a.journal + k) (length-stamped b.calls (turned (setting_of a.given) a.control act).events)

pub acted_spends : {B : Type 0} (a b : Seen B) (act : Action) → Acted a b act → (spent a < budget a) × (spent a < spent b)
acted_spends a b act acted =
    let room = not_full a.room (length a.journal) a.calls acted.3 in
    let one = room.0 in
    let two = room.1 in
    let more = does a.calls (call_of (setting_of a.given) a.control act) (turned (setting_of a.given) a.control act) acted.2 in
    let count = acted.0.calls in
    let long = longer a b act acted.0 in
    (omega (arith, one, two), omega (arith, more, count, long))

acted_follows : {B : Type 0} (a b : Seen B) (act : Action) → Acted a b act → Follows a b
acted_follows a b act acted = let more = (acted_spends a b act acted).1 in record { given = acted.0.given; room = acted.0.room; spends = omega (arith, more) }

pub answered_follows : {B : Type 0} (a b : Seen B) (act : Action) (r : Turned) → Answered a b act r → Follows a b
answered_follows a b act Moved answered = acted_follows a b act answered.0
answered_follows a b act Idle answered = follows_same a b answered.0
answered_follows a b act JournalFull answered = follows_same a b answered.0
answered_follows {B} a b act (Member d) answered = by answered.1
  where
    by : (b ≡ a) ⊎ Acted a b act → Follows a b
    by (inl same) = follows_same a b same
    by (inr acted) = acted_follows a b act acted

pub follows_on : {B : Type 0} (a b c : Seen B) → Follows a b → Follows b c → Follows a c
follows_on a b c one two =
    let first = one.spends in
    let second = two.spends in
    record { given = two.given ∙ one.given; room = two.room ∙ one.room; spends = omega (arith, first, second) }

-- A CYCLE

pub spends_moved : {B : Type 0} (a b n : Seen B) (act : Action) (went : Bool) → (went ≡ true → Spends a b) → (went ≡ false → b ≡ a) → Acted b n act → Spends a n
spends_moved a b n act true spends rests acted =
    let first = spends refl in
    let one = first.1 in
    let two = (acted_spends b n act acted).1 in
    (first.0, omega (arith, one, two))
spends_moved {B} a b n act false spends rests acted = subst (λ (x : Seen B). Spends x n) (rests refl) (acted_spends b n act acted)

either : (j k : ℕ) → j < k + 1 → (j < k) ⊎ (j ≡ k)
either j k below = by (cases_order j k)
  where
    by : (j ≡ k) ⊎ ((j < k) ⊎ (k < j)) → (j < k) ⊎ (j ≡ k)
    by (inl same) = inr same
    by (inr (inl less)) = inl less
    by (inr (inr more)) = absurd (omega (arith, below, more))

pub still_more : {B : Type 0} (a : Seen B) (k : ℕ) (x : Ended) (got : Sector) → ClientsStill a k → is_still (setting_of a.given) a.control (Asks k x got) ≡ true → ClientsStill a (k + 1)
still_more {B} a k x got still one = λ j below. at j (either j k below)
  where
    at : (j : ℕ) → (j < k) ⊎ (j ≡ k) → (y : Ended) × (g : Sector) × (is_still (setting_of a.given) a.control (Asks j y g) ≡ true)
    at j (inl less) = still j less
    at j (inr same) = (x, got, subst (λ (i : ℕ). is_still (setting_of a.given) a.control (Asks i x got) ≡ true) (sym same) one)

pub rests_idle : {B : Type 0} (a b n : Seen B) (k : ℕ) (x : Ended) (got : Sector) → (b ≡ a) × ClientsStill b k → Answered b n (Asks k x got) Idle → (n ≡ a) × ClientsStill n (k + 1)
rests_idle {B} a b n k x got rests idle =
    (idle.0 ∙ rests.0, subst (λ (y : Seen B). ClientsStill y (k + 1)) (sym idle.0) (still_more b k x got rests.1 idle.2))

pub spends_idle : {B : Type 0} (a b n : Seen B) → n ≡ b → Spends a b → Spends a n
spends_idle {B} a b n same spends = subst (λ (y : Seen B). Spends a y) (sym same) spends

pub live_idle : {B : Type 0} (b n : Seen B) → n ≡ b → b.control.failed ≡ None → n.control.failed ≡ None
live_idle {B} b n same live = subst (λ (y : Seen B). y.control.failed ≡ None) (sym same) live

-- where a cycle rested and quiet changes nothing, no actor has anything to do
pub all_still : {B : Type 0} (a b n : Seen B) → Cycled a b Rested → Answered b n Quiets Idle → AllStill n
all_still {B} a b n rested idle = subst (λ (x : Seen B). AllStill x) (sym idle.0) (record { live = rested.1; monitor = rested.2; clients = rested.3; quiet = idle.2 })
