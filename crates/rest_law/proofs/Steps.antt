-- A job that writes or syncs has a member left.
use Rattle.std.proofs.Common.{ℕ, ◌≤◌, List, [], ◌∷◌, length, sym, subst, arith, inl, inr, Option}
use Rattle.std.specs.Prelude.{⊤}
use Rattle.units.specs.declared.disk.Sector.{Sector}
use Rattle.device_log.specs.Log.{Call}
use Rattle.array_model.specs.declared.journal.Event.{Event}
use Rattle.stage_machine.specs.Setting.{Setting}
use Rattle.stage_machine.specs.Jobs.{JobStep, Waiting, Writing, Syncing, Written, Got, Job, NoJob, Busy, Client, after_write, after_sync}
use Rattle.stage_machine.specs.Machine.{Control, World, Reached, opens, goes, got_of}
use Rattle.stage_machine.proofs.Turns.{Turns, turns_of, nothing, fails, anchors, settles, ends, begins, readies, actives, cleans, rests, pasts, asks_read, asks_write, puts, syncs, gets, acks}
use Rattle.stage_machine.proofs.Clients.{Each, each_set, there_left, there_busy, at_start}

abbrev pub HasMember : JobStep → Type 0
HasMember Waiting = ⊤
HasMember (Writing left) = 1 ≤ length left
HasMember (Syncing left) = 1 ≤ length left
HasMember Written = ⊤
HasMember (Got value) = ⊤

abbrev pub JobHasMember : Job → Type 0
JobHasMember NoJob = ⊤
JobHasMember (Busy i step) = HasMember step

abbrev pub HaveMembers : List Client → Type 0
HaveMembers clients = Each (λ k client. JobHasMember client.job) clients

after_write_some : (S : Setting) → 1 ≤ length S.members → (ds : List ℕ) → HasMember (after_write S ds)
after_write_some S member [] = member
after_write_some S member (d ∷ ds) = omega arith

after_sync_some : (ds : List ℕ) → HasMember (after_sync ds)
after_sync_some [] = tt
after_sync_some (d ∷ ds) = omega arith

steps_turns : (S : Setting) → 1 ≤ length S.members → (c : Control) (got : Sector) {call : Option Call} {es : List Event} {next : Control} → Turns S c got call es next → HaveMembers c.clients → HaveMembers next.clients
steps_turns S member c got nothing old = old
steps_turns S member c got (fails d what asked) old = old
steps_turns S member c got (anchors m d ds is) old = old
steps_turns S member c got (settles m d e ds is) old = old
steps_turns S member c got (ends m d is) old = old
steps_turns S member c got (begins d ds is some why) old = old
steps_turns S member c got (readies is s t) old = old
steps_turns S member c got (actives is s t r) old = old
steps_turns S member c got (cleans is s t) old = old
steps_turns S member c got (rests t calm) old = old
steps_turns S member c got (pasts k i rest has none) old = each_set (λ k client. JobHasMember client.job) c.clients k _ (there_left c k i rest NoJob has) old tt
steps_turns S member c got (asks_read k i rest place has is w ready) old = each_set (λ k client. JobHasMember client.job) c.clients k _ (there_left c k i rest NoJob has) old tt
steps_turns S member c got (asks_write k i rest place has is w ready) old = each_set (λ k client. JobHasMember client.job) c.clients k _ (there_left c k i rest NoJob has) old tt
steps_turns S member c got (puts k i left step d ds has need) old = each_set (λ k client. JobHasMember client.job) c.clients k _ (there_busy c k i left step has) old (after_write_some S member ds)
steps_turns S member c got (syncs k i left step d ds has need) old = each_set (λ k client. JobHasMember client.job) c.clients k _ (there_busy c k i left step has) old (after_sync_some ds)
steps_turns S member c got (gets k i left step d has need) old = each_set (λ k client. JobHasMember client.job) c.clients k _ (there_busy c k i left step has) old tt
steps_turns S member c got (acks k i left step answer has need) old = each_set (λ k client. JobHasMember client.job) c.clients k _ (there_busy c k i left step has) old tt

pub steps_reached : (S : Setting) → 1 ≤ length S.members → (w : World) → Reached S w → HaveMembers w.control.clients
steps_reached S member w opens = λ k. elim (at_start S k) [
  | inl first ↦ subst (λ (x : Client). JobHasMember x.job) (sym first.1) tt
  | inr past ↦ subst (λ (x : Client). JobHasMember x.job) (sym past.1) tt
]
steps_reached S member w (goes {w = v} r a) = steps_turns S member v.control (got_of a) (turns_of S v.control a) (steps_reached S member v r)
