-- The state of the volume, by what the journal says and by what the clients do.
use Rattle.std.proofs.Common.{◌≡◌, ℕ, zero, suc, ◌==◌, ◌||◌, ◌&&◌, Bool, true, false, List, [], ◌∷◌, ◌++◌, refl, ap, sym, ◌∙◌, subst, inl, inr, Option}
use Rattle.std.specs.Prelude.{⊤}
use Rattle.std.proofs.lemmas.Bool.{or_right}
use Rattle.units.specs.declared.disk.Sector.{Sector}
use Rattle.device_log.specs.Log.{Call}
use Rattle.array_model.specs.declared.journal.Entry.{Entry}
use Rattle.array_model.specs.declared.journal.Event.{Event}
use Rattle.array_model.specs.Events.{has, is_active, is_live, live_at, live_from}
use Rattle.array_model.proofs.SmallFacts.{never_live}
use Rattle.stage_machine.specs.Setting.{Setting}
use Rattle.stage_machine.specs.Rounds.{AtAnchor, AtSync, Phase, Rest, Going}
use Rattle.stage_machine.specs.States.{State, IsReadonly, IsReadAuto, IsClean, IsPending, IsActive, IsIdle, is_readonly, is_pending_state, asked_state, asked_events, is_due}
use Rattle.stage_machine.specs.Jobs.{JobStep, Waiting, Writing, Syncing, Written, Got, Job, NoJob, Busy, Client, client_at, is_write, is_writing, any_writing, is_locked, row_at, Need, NoNeed}
use Rattle.stage_machine.specs.Machine.{Control, need_now, need_unless, World, Reached, opens, goes, call_of, got_of, turned, stamped, calls_after}
use Rattle.stage_machine.proofs.Turns.{Turns, turns_of, Has, nothing, fails, anchors, settles, ends, begins, readies, actives, cleans, rests, pasts, asks_read, asks_write, puts, syncs, gets, acks}
use Rattle.stage_machine.proofs.Clients.{Each, each_set, there_left, there_busy, at_start}
use Rattle.stage_machine.proofs.Ours.{AreOurs, no_active}

-- THE JOURNAL'S WORD

-- of ready, pending, active and clean the last was active
abbrev pub live : State → Bool
live IsReadonly = false
live IsReadAuto = false
live IsClean = false
live IsPending = false
live IsActive = true
live IsIdle = true

pub live-append : (v : ℕ) (b : Bool) (xs ys : List Entry) → live_from v b (xs ++ ys) ≡ live_from v (live_from v b xs) ys
live-append v b [] ys = refl
live-append v b (x ∷ xs) ys = live-append v (live_at v b x.event) xs ys

live_turns : (S : Setting) (c : Control) (got : Sector) (n : ℕ) {call : Option Call} {es : List Event} {next : Control} → Turns S c got call es next → live_from 0 (live c.state) (stamped n es) ≡ live next.state
live_turns S c got n nothing = refl
live_turns S c got n (fails d what asked) = refl
live_turns S c got n (anchors m d ds is) = refl
live_turns S c got n (settles m d e ds is) = refl
live_turns S c got n (ends m d is) = refl
live_turns S c got n (begins d ds is some why) = refl
live_turns S c got n (readies is s t) = refl
live_turns S c got n (actives is s t r) = refl
live_turns S c got n (cleans is s t) = refl
live_turns S c got n (rests t calm) = ap live t
live_turns S c got n (pasts k i rest has none) = refl
live_turns S c got n (asks_read k i rest place has is w ready) = refl
live_turns S c got n (asks_write k i rest place has is w ready) = at c.state
  where
    at : (state : State) → live_from 0 (live state) (stamped n (asked_events state)) ≡ live (asked_state state)
    at IsReadonly = refl
    at IsReadAuto = refl
    at IsClean = refl
    at IsPending = refl
    at IsActive = refl
    at IsIdle = refl
live_turns S c got n (puts k i left step d ds has need) = refl
live_turns S c got n (syncs k i left step d ds has need) = refl
live_turns S c got n (gets k i left step d has need) = refl
live_turns S c got n (acks k i left step answer has need) = refl

pub live_reached : (S : Setting) (w : World) → Reached S w → is_live 0 w.journal ≡ live w.control.state
live_reached S w opens = refl
live_reached S w (goes {w = v} r a) =
    let n = calls_after v.calls (call_of S v.control a) in
    live-append 0 false v.journal (stamped n (turned S v.control a).events)
    ∙ ap (λ b. live_from 0 b (stamped n (turned S v.control a).events)) (live_reached S v r)
    ∙ live_turns S v.control (got_of a) n (turns_of S v.control a)

has_none : (v : ℕ) → (0 == v) ≡ false → (journal : List Entry) → AreOurs journal → has (is_active v) journal ≡ false
has_none v other [] ours = refl
has_none v other (x ∷ xs) ours = rw (no_active v other x.event ours.0) (has_none v other xs ours.1)

-- no other volume is ever active
pub others_dead : (v : ℕ) → (0 == v) ≡ false → (journal : List Entry) → AreOurs journal → is_live v journal ≡ false
others_dead v other journal ours = never_live v journal (has_none v other journal ours)

-- WHAT AN ACTIVE VOLUME IS

pub record Safe (S : Setting) (c : Control) : Type 0 where
  pub rest : c.round.phase ≡ Rest
  pub started : c.round.started ≡ true
  pub dirty : S.start.words.is_dirty c.round.last 0 ≡ true

abbrev pub SafeWhileLive : Setting → Control → Type 0
SafeWhileLive S c = live c.state ≡ true → Safe S c

busy_round : (S : Setting) (c : Control) (m : _) (step : _) (left : List ℕ) → c.round.phase ≡ Going m step left → SafeWhileLive S c → live c.state ≡ true → ⊥
busy_round S c m step left is safe alive = apart c.round.phase (safe alive).rest is
  where
    apart : (p : Phase) → p ≡ Rest → p ≡ Going m step left → ⊥
    apart Rest a b = absurd cc
    apart (Going m step left) a b = absurd cc

safe_turns : (S : Setting) (c : Control) (got : Sector) {call : Option Call} {es : List Event} {next : Control} → Turns S c got call es next → SafeWhileLive S c → SafeWhileLive S next
safe_turns S c got nothing safe = safe
safe_turns S c got (fails d what asked) safe = λ alive. let s = safe alive in record { rest = s.rest; started = s.started; dirty = s.dirty }
safe_turns S c got (anchors m d ds is) safe = λ alive. absurd (busy_round S c m AtAnchor (d ∷ ds) is safe alive)
safe_turns S c got (settles m d e ds is) safe = λ alive. absurd (busy_round S c m AtSync (d ∷ e ∷ ds) is safe alive)
safe_turns S c got (ends m d is) safe = λ alive. absurd (busy_round S c m AtSync (d ∷ []) is safe alive)
safe_turns S c got (begins d ds is some why) safe = λ alive. absurd (elim why [
  | inl new ↦ let s = (safe alive).started in cc (new, s)
  | inr due ↦ no_due c.state (S.start.words.is_dirty c.round.book 0) alive due
])
  where
    no_due : (state : State) (dirty : Bool) → live state ≡ true → is_due state dirty ≡ true → ⊥
    no_due IsReadonly dirty a d = absurd cc
    no_due IsReadAuto dirty a d = absurd cc
    no_due IsClean dirty a d = absurd cc
    no_due IsPending dirty a d = absurd cc
    no_due IsActive dirty a d = absurd cc
    no_due IsIdle dirty a d = absurd cc
safe_turns S c got (readies is s t) safe = λ alive. absurd cc
safe_turns S c got (actives is s t r) safe = λ alive. record { rest = is; started = s; dirty = r }
safe_turns S c got (cleans is s t) safe = λ alive. absurd cc
safe_turns S c got (rests t calm) safe = λ alive. let s = safe (ap live t) in record { rest = s.rest; started = s.started; dirty = s.dirty }
safe_turns S c got (pasts k i rest has none) safe = λ alive. let s = safe alive in record { rest = s.rest; started = s.started; dirty = s.dirty }
safe_turns S c got (asks_read k i rest place has is w ready) safe = λ alive. let s = safe alive in record { rest = s.rest; started = s.started; dirty = s.dirty }
safe_turns S c got (asks_write k i rest place has is w ready) safe = λ alive. let s = safe (at c.state alive) in record { rest = s.rest; started = s.started; dirty = s.dirty }
  where
    at : (state : State) → live (asked_state state) ≡ true → live state ≡ true
    at IsReadonly a = a
    at IsReadAuto a = a
    at IsClean a = a
    at IsPending a = a
    at IsActive a = a
    at IsIdle a = refl
safe_turns S c got (puts k i left step d ds has need) safe = λ alive. let s = safe alive in record { rest = s.rest; started = s.started; dirty = s.dirty }
safe_turns S c got (syncs k i left step d ds has need) safe = λ alive. let s = safe alive in record { rest = s.rest; started = s.started; dirty = s.dirty }
safe_turns S c got (gets k i left step d has need) safe = λ alive. let s = safe alive in record { rest = s.rest; started = s.started; dirty = s.dirty }
safe_turns S c got (acks k i left step answer has need) safe = λ alive. let s = safe alive in record { rest = s.rest; started = s.started; dirty = s.dirty }

pub safe_reached : (S : Setting) (w : World) → Reached S w → SafeWhileLive S w.control
safe_reached S w opens = λ alive. absurd cc
safe_reached S w (goes {w = v} r a) = safe_turns S v.control (got_of a) (turns_of S v.control a) (safe_reached S v r)

-- WRITES THAT WERE SUBMITTED

-- a write's job waits while the volume is write-pending, and goes on only while it is active
abbrev pub Writable : State → JobStep → Type 0
Writable IsReadonly step = ⊥
Writable IsReadAuto step = ⊥
Writable IsClean step = ⊥
Writable IsPending Waiting = ⊤
Writable IsPending (Writing left) = ⊥
Writable IsPending (Syncing left) = ⊥
Writable IsPending Written = ⊥
Writable IsPending (Got value) = ⊥
Writable IsActive step = ⊤
Writable IsIdle step = ⊥

abbrev pub JobWritable : Setting → State → Job → Type 0
JobWritable S state NoJob = ⊤
JobWritable S state (Busy i step) = is_write S i ≡ true → Writable state step

abbrev pub WritesLive : Setting → State → List Client → Type 0
WritesLive S state clients = Each (λ k client. JobWritable S state client.job) clients

not_pending : (S : Setting) (c : Control) (k i : ℕ) (step : JobStep) (need : Need) → need_now S c k i step ≡ need → (NoNeed ≡ need → ⊥) → is_write S i ≡ true → is_pending_state c.state ≡ false
not_pending S c k i step need is some w = at (is_write S i) w (is_pending_state c.state) refl (is_locked S (row_at S i) k c.clients) is
  where
    at : (a : Bool) → a ≡ true → (b : Bool) → is_pending_state c.state ≡ b → (l : Bool) → need_unless S i step ((a && b) || l) ≡ need → is_pending_state c.state ≡ false
    at true yes_w true p l is = absurd (some is)
    at true yes_w false p l is = p
    at false yes_w b p l is = absurd cc

writable_active : (state : State) (step : JobStep) → Writable state step → is_pending_state state ≡ false → state ≡ IsActive
writable_active IsReadonly step h p = absurd h
writable_active IsReadAuto step h p = absurd h
writable_active IsClean step h p = absurd h
writable_active IsPending step h p = absurd cc
writable_active IsActive step h p = refl
writable_active IsIdle step h p = absurd h

-- a write's job that goes on finds the volume active
pub goes_active : (S : Setting) (c : Control) (k i : ℕ) (left : List ℕ) (step : JobStep) (need : Need) → WritesLive S c.state c.clients → Has c k left (Busy i step) → need_now S c k i step ≡ need → (NoNeed ≡ need → ⊥)
    → is_write S i ≡ true → c.state ≡ IsActive
goes_active S c k i left step need live has is some w =
    writable_active c.state step (subst (λ (x : Client). JobWritable S c.state x.job) has (live k) w) (not_pending S c k i step need is some w)

pub writing_there : (S : Setting) (clients : List Client) (k : ℕ) → is_writing S (client_at clients k).job ≡ true → any_writing S clients ≡ true
writing_there S [] k h = absurd cc
writing_there S (x ∷ xs) zero h = rw h refl
writing_there S (x ∷ xs) (suc k) h = or_right (is_writing S x.job) (any_writing S xs) (writing_there S xs k h)

-- all go over to another state
over : (S : Setting) (clients : List Client) (from to : State) → ((step : JobStep) → Writable from step → Writable to step) → WritesLive S from clients → WritesLive S to clients
over S clients from to f live k = at (client_at clients k).job (live k)
  where
    at : (job : Job) → JobWritable S from job → JobWritable S to job
    at NoJob h = tt
    at (Busy i step) h = λ w. f step (h w)

asked_over : (state : State) (step : JobStep) → Writable state step → Writable (asked_state state) step
asked_over IsReadonly step h = absurd h
asked_over IsReadAuto step h = absurd h
asked_over IsClean step h = absurd h
asked_over IsPending step h = h
asked_over IsActive step h = tt
asked_over IsIdle step h = absurd h

asked_waiting : (state : State) → is_readonly state ≡ false → Writable (asked_state state) Waiting
asked_waiting IsReadonly ready = absurd cc
asked_waiting IsReadAuto ready = tt
asked_waiting IsClean ready = tt
asked_waiting IsPending ready = tt
asked_waiting IsActive ready = tt
asked_waiting IsIdle ready = tt

active_any : (state : State) (step : JobStep) → state ≡ IsActive → Writable state step
active_any state step is = subst (λ z. Writable z step) (sym is) tt

writes_turns : (S : Setting) (c : Control) (got : Sector) {call : Option Call} {es : List Event} {next : Control} → Turns S c got call es next → WritesLive S c.state c.clients → WritesLive S next.state next.clients
writes_turns S c got nothing live = live
writes_turns S c got (fails d what asked) live = live
writes_turns S c got (anchors m d ds is) live = live
writes_turns S c got (settles m d e ds is) live = live
writes_turns S c got (ends m d is) live = live
writes_turns S c got (begins d ds is some why) live = live
writes_turns S c got (readies is s t) live = over S c.clients c.state IsReadAuto (λ step h. absurd (subst (λ z. Writable z step) t h)) live
writes_turns S c got (actives is s t r) live = over S c.clients c.state IsActive (λ step h. tt) live
writes_turns S c got (cleans is s t) live = over S c.clients c.state IsClean (λ step h. absurd (subst (λ z. Writable z step) t h)) live
writes_turns S c got (rests t calm) live = λ k. at k (client_at c.clients k).job refl
  where
    at : (k : ℕ) (job : Job) → (client_at c.clients k).job ≡ job → JobWritable S IsIdle job
    at k NoJob is = tt
    at k (Busy i step) is = λ w. absurd (let busy : any_writing S c.clients ≡ true = writing_there S c.clients k (ap (is_writing S) is ∙ w) in cc (busy, calm))
writes_turns S c got (pasts k i rest has none) live = each_set (λ k client. JobWritable S c.state client.job) c.clients k _ (there_left c k i rest NoJob has) live tt
writes_turns S c got (asks_read k i rest place has is w ready) live =
    each_set (λ k client. JobWritable S c.state client.job) c.clients k _ (there_left c k i rest NoJob has) live (λ a_write. absurd cc)
writes_turns S c got (asks_write k i rest place has is w ready) live =
    each_set (λ k client. JobWritable S (asked_state c.state) client.job) c.clients k _ (there_left c k i rest NoJob has)
    (over S c.clients c.state (asked_state c.state) (asked_over c.state) live) (λ a_write. asked_waiting c.state ready)
writes_turns S c got (puts k i left step d ds has need) live =
    each_set (λ k client. JobWritable S c.state client.job) c.clients k _ (there_busy c k i left step has) live
    (λ a_write. active_any c.state _ (goes_active S c k i left step _ live has need (λ none. absurd cc) a_write))
writes_turns S c got (syncs k i left step d ds has need) live =
    each_set (λ k client. JobWritable S c.state client.job) c.clients k _ (there_busy c k i left step has) live
    (λ a_write. active_any c.state _ (goes_active S c k i left step _ live has need (λ none. absurd cc) a_write))
writes_turns S c got (gets k i left step d has need) live =
    each_set (λ k client. JobWritable S c.state client.job) c.clients k _ (there_busy c k i left step has) live
    (λ a_write. active_any c.state _ (goes_active S c k i left step _ live has need (λ none. absurd cc) a_write))
writes_turns S c got (acks k i left step answer has need) live =
    each_set (λ k client. JobWritable S c.state client.job) c.clients k _ (there_busy c k i left step has) live tt

pub writes_reached : (S : Setting) (w : World) → Reached S w → WritesLive S w.control.state w.control.clients
writes_reached S w opens = λ k. elim (at_start S k) [
  | inl first ↦ subst (λ (x : Client). JobWritable S IsReadonly x.job) (sym first.1) tt
  | inr past ↦ subst (λ (x : Client). JobWritable S IsReadonly x.job) (sym past.1) tt
]
writes_reached S w (goes {w = v} r a) = writes_turns S v.control (got_of a) (turns_of S v.control a) (writes_reached S v r)
