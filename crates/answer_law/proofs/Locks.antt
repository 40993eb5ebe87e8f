-- No row is held by two clients.
use Rattle.std.proofs.Common.{◌≡◌, ◌≢◌, ℕ, zero, suc, ◌+◌, ◌<◌, ◌==◌, ◌||◌, ◌&&◌, not, Bool, true, false, List, [], ◌∷◌, length, refl, ap, sym, ◌∙◌, subst, arith, inl, inr, Option, slice_set}
use Rattle.std.proofs.lemmas.Bool.Decides.{nat_tests}
use Rattle.std.proofs.lemmas.Bool.{or_parts}
use Rattle.units.specs.declared.disk.Sector.{Sector}
use Rattle.device_log.specs.Log.{Call}
use Rattle.array_model.specs.declared.journal.Event.{Event}
use Rattle.stage_machine.specs.Setting.{Setting}
use Rattle.stage_machine.specs.States.{is_pending_state}
use Rattle.stage_machine.specs.Jobs.{JobStep, Waiting, Writing, Syncing, Written, Got, Job, NoJob, Busy, Client, client_at, row_at, is_write, holds, holds_by, locked_from, is_locked, Need, NoNeed}
use Rattle.stage_machine.specs.Machine.{Control, need_now, need_unless, World, Reached, opens, goes, got_of}
use Rattle.stage_machine.proofs.Turns.{Turns, turns_of, Has, nothing, fails, anchors, settles, ends, begins, readies, actives, cleans, rests, pasts, asks_read, asks_write, puts, syncs, gets, acks}
use Rattle.stage_machine.proofs.Clients.{at_set, there_left, there_busy, at_start}

abbrev pub job_of : List Client → ℕ → Job
job_of clients k = (client_at clients k).job

abbrev pub Exclusive : Setting → List Client → Type 0
Exclusive S clients = (j k row : ℕ) → holds S row (job_of clients j) ≡ true → holds S row (job_of clients k) ≡ true → j ≡ k

-- no other client holds the row
abbrev pub Alone : Setting → List Client → ℕ → ℕ → Type 0
Alone S clients k row = (j : ℕ) → j ≢ k → holds S row (job_of clients j) ≡ false

locked_other : (S : Setting) (row k from : ℕ) (clients : List Client) (t : ℕ) → locked_from S row k from clients ≡ false → from + t ≢ k → holds S row (job_of clients t) ≡ false
locked_other S row k from [] t free apart = refl
locked_other S row k from (x ∷ xs) zero free apart = at (from == k) refl (holds S row x.job) refl free
  where
    at : (a : Bool) → (from == k) ≡ a → (b : Bool) → holds S row x.job ≡ b → ((not a && b) || locked_from S row k (from + 1) xs) ≡ false → holds S row x.job ≡ false
    at true is b h free = absurd (apart (let same : from ≡ k = grind (arith, nat_tests, is) in omega (arith, same)))
    at false is true h free = absurd cc
    at false is false h free = h
locked_other S row k from (x ∷ xs) (suc t) free apart =
    let moved : from + 1 + t ≢ k = λ e. apart (omega (arith, e)) in
    locked_other S row k (from + 1) xs t (or_parts (not (from == k) && holds S row x.job) (locked_from S row k (from + 1) xs) free).1 moved

-- a job that needs something isn't held, so nobody else holds its row
pub alone_now : (S : Setting) (c : Control) (k i : ℕ) (step : JobStep) (need : Need) → need_now S c k i step ≡ need → (NoNeed ≡ need → ⊥) → Alone S c.clients k (row_at S i)
alone_now S c k i step need is some j apart =
    locked_other S (row_at S i) k 0 c.clients j (at (is_write S i && is_pending_state c.state) (is_locked S (row_at S i) k c.clients) refl is) (λ e. apart (omega (arith, e)))
  where
    at : (a b : Bool) → is_locked S (row_at S i) k c.clients ≡ b → need_unless S i step (a || b) ≡ need → is_locked S (row_at S i) k c.clients ≡ false
    at true b l is = absurd (some is)
    at false true l is = absurd (some is)
    at false false l is = l

set_exclusive : (S : Setting) (clients : List Client) (k : ℕ) (x : Client) → k < length clients → Exclusive S clients → ((row : ℕ) → holds S row x.job ≡ true → Alone S clients k row) → Exclusive S (slice_set clients k x)
set_exclusive S clients k x lt old alone i j row a b = elim (at_set clients k x i lt) [
  | inl here_i ↦ elim (at_set clients k x j lt) [
    | inl here_j ↦ here_i.0 ∙ sym here_j.0
    | inr other_j ↦ absurd (
        let held : holds S row x.job ≡ true = sym (ap (λ (y : Client). holds S row y.job) here_i.1) ∙ a in
        let free : holds S row (job_of clients j) ≡ false = alone row held j other_j.0 in
        let taken : holds S row (job_of clients j) ≡ true = sym (ap (λ (y : Client). holds S row y.job) other_j.1) ∙ b in
        cc (free, taken))
  ]
  | inr other_i ↦ elim (at_set clients k x j lt) [
    | inl here_j ↦ absurd (
        let held : holds S row x.job ≡ true = sym (ap (λ (y : Client). holds S row y.job) here_j.1) ∙ b in
        let free : holds S row (job_of clients i) ≡ false = alone row held i other_i.0 in
        let taken : holds S row (job_of clients i) ≡ true = sym (ap (λ (y : Client). holds S row y.job) other_i.1) ∙ a in
        cc (free, taken))
    | inr other_j ↦ old i j row (sym (ap (λ (y : Client). holds S row y.job) other_i.1) ∙ a) (sym (ap (λ (y : Client). holds S row y.job) other_j.1) ∙ b)
  ]
]

-- a job holds no row but that of its operation
pub holds_own : (S : Setting) (i row : ℕ) (step : JobStep) → holds_by S row i step ≡ true → row_at S i ≡ row
holds_own S i row Waiting h = absurd cc
holds_own S i row (Writing left) h = grind (arith, nat_tests, h)
holds_own S i row (Syncing left) h = grind (arith, nat_tests, h)
holds_own S i row Written h = grind (arith, nat_tests, h)
holds_own S i row (Got value) h = grind (arith, nat_tests, h)

goes_on : (S : Setting) (c : Control) (k i : ℕ) (left : List ℕ) (step next : JobStep) (need : Need) → Has c k left (Busy i step) → need_now S c k i step ≡ need → (NoNeed ≡ need → ⊥)
    → Exclusive S c.clients → Exclusive S (slice_set c.clients k (record { left = left; job = Busy i next }))
goes_on S c k i left step next need has is some old =
    set_exclusive S c.clients k _ (there_busy c k i left step has) old
    (λ row held. subst (Alone S c.clients k) (holds_own S i row next held) (alone_now S c k i step need is some))

exclusive_turns : (S : Setting) (c : Control) (got : Sector) {call : Option Call} {es : List Event} {next : Control} → Turns S c got call es next → Exclusive S c.clients → Exclusive S next.clients
exclusive_turns S c got nothing old = old
exclusive_turns S c got (fails d what asked) old = old
exclusive_turns S c got (anchors m d ds is) old = old
exclusive_turns S c got (settles m d e ds is) old = old
exclusive_turns S c got (ends m d is) old = old
exclusive_turns S c got (begins d ds is some why) old = old
exclusive_turns S c got (readies is s t) old = old
exclusive_turns S c got (actives is s t r) old = old
exclusive_turns S c got (cleans is s t) old = old
exclusive_turns S c got (rests t calm) old = old
exclusive_turns S c got (pasts k i rest has none) old = set_exclusive S c.clients k _ (there_left c k i rest NoJob has) old (λ row held. absurd cc)
exclusive_turns S c got (asks_read k i rest place has is w ready) old = set_exclusive S c.clients k _ (there_left c k i rest NoJob has) old (λ row held. absurd cc)
exclusive_turns S c got (asks_write k i rest place has is w ready) old = set_exclusive S c.clients k _ (there_left c k i rest NoJob has) old (λ row held. absurd cc)
exclusive_turns S c got (puts k i left step d ds has need) old = goes_on S c k i left step _ _ has need (λ none. absurd cc) old
exclusive_turns S c got (syncs k i left step d ds has need) old = goes_on S c k i left step _ _ has need (λ none. absurd cc) old
exclusive_turns S c got (gets k i left step d has need) old = goes_on S c k i left step _ _ has need (λ none. absurd cc) old
exclusive_turns S c got (acks k i left step answer has need) old = set_exclusive S c.clients k _ (there_busy c k i left step has) old (λ row held. absurd cc)

pub exclusive_reached : (S : Setting) (w : World) → Reached S w → Exclusive S w.control.clients
exclusive_reached S w opens = λ i j row a b. absurd (elim (at_start S i) [
  | inl first ↦ let free : holds S row (job_of w.control.clients i) ≡ false = ap (λ (y : Client). holds S row y.job) first.1 in cc (free, a)
  | inr past ↦ let free : holds S row (job_of w.control.clients i) ≡ false = ap (λ (y : Client). holds S row y.job) past.1 in cc (free, a)
])
exclusive_reached S w (goes {w = v} r a) = exclusive_turns S v.control (got_of a) (turns_of S v.control a) (exclusive_reached S v r)
