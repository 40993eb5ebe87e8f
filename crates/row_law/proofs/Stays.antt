-- A row that a job has written is written by no other call while the job is under way.
use Rattle.std.proofs.Common.{◌≡◌, ◌≢◌, ℕ, zero, suc, ◌+◌, ◌<◌, ◌≤◌, ◌==◌, Bool, true, false, List, [], ◌∷◌, ◌++◌, length, refl, ap, sym, ◌∙◌, subst, arith, ◌⊎◌, inl, inr, Option, Some, None, slice_get}
use Rattle.std.specs.Prelude.{⊤}
use Rattle.std.proofs.lemmas.Bool.Decides.{nat_tests}
use Rattle.units.specs.Places.{anchor_place}
use Rattle.device_log.specs.Log.{Call, What, Write}
use Rattle.array_model.specs.RowCalls.{Spares}
use Rattle.stage_machine.specs.Setting.{Setting, has_disk}
use Rattle.stage_machine.specs.Opens.{IsFirstVolume}
use Rattle.stage_machine.specs.Jobs.{JobStep, Waiting, Writing, Syncing, Written, Got, Job, Busy, client_at, row_at, holds, holds_by, Need, NoNeed, Writes}
use Rattle.stage_machine.specs.Machine.{Control, need_now, log_after}
use Rattle.stage_machine.proofs.Turns.{AsksFor, anchor, settle, put, sync, get}
use Rattle.stage_machine.proofs.Clients.{Mine, of_job, IsJob, row_below}
use Rattle.answer_law.proofs.Locks.{job_of, alone_now}
use Rattle.answer_law.proofs.Rows.{at_row, Spares as SparesRow, spares_read, spares_sync, spares_write, other_row, anchor_spares, slice_get-append}
use Rattle.answer_law.proofs.Values.{needs, writes_from}
use Rattle.answer_law.proofs.Law.{job_is}

-- ONE PLACE

on_a_side : (at place : ℕ) → (at == place) ≡ false → (place < at) ⊎ (at + 1 ≤ place)
on_a_side at place apart = grind (arith, nat_tests, apart)

spares_of : (place : ℕ) (what : What) → SparesRow place what → Spares place what
spares_of place _ (spares_read at) = tt
spares_of place _ spares_sync = tt
spares_of place _ (spares_write at stored s apart) = on_a_side at place apart

-- A LONGER LOG

-- a call, where one is made, doesn't write operation i's row on disk d
abbrev pub Leaves : Setting → Option Call → (i d : ℕ) → Type 0
Leaves S None i d = ⊤
Leaves S (Some y) i d = y.disk ≡ d → Spares (at_row S (row_at S i)) y.what

-- nor does any call of the log behind one
abbrev pub Stays : Setting → List Call → (i write d : ℕ) → Type 0
Stays S log i write d =
    (k : ℕ) (call : Call) → write < k → slice_get log k ≡ Some call → call.disk ≡ d
    → Spares (at_row S (row_at S i)) call.what

old_or_last : (log : List Call) (y : Call) (k : ℕ) (call : Call) → slice_get (log ++ y ∷ []) k ≡ Some call → (slice_get log k ≡ Some call) ⊎ (y ≡ call)
old_or_last [] y zero call is = inr (cc is)
old_or_last [] y (suc k) call is = absurd cc
old_or_last (x ∷ log) y zero call is = inl is
old_or_last (x ∷ log) y (suc k) call is = old_or_last log y k call is

pub stays_more : (S : Setting) (log : List Call) (x : Option Call) (i write d : ℕ) → Leaves S x i d → Stays S log i write d → Stays S (log_after log x) i write d
stays_more S log None i write d leaves old = old
stays_more S log (Some y) i write d leaves old = λ k call behind is on. elim (old_or_last log y k call is) [
  | inl before ↦ old k call behind before on
  | inr last ↦ subst (λ (z : Call). (z.disk ≡ d → Spares (at_row S (row_at S i)) z.what)) last leaves on
]

-- a call of the longer log that was made before
pub made_before : (log : List Call) (x : Option Call) (k : ℕ) (call : Call) → k < length log → slice_get (log_after log x) k ≡ Some call → slice_get log k ≡ Some call
made_before log None k call lt is = is
made_before log (Some y) k call lt is = sym (slice_get-append log (y ∷ []) k lt) ∙ is

-- WHAT IS ASKED FOR

-- the members that a job hasn't written yet
abbrev pub unwritten : JobStep → List ℕ
unwritten Waiting = []
unwritten (Writing left) = left
unwritten (Syncing left) = []
unwritten Written = []
unwritten (Got value) = []

module _ (S : Setting) (volume : IsFirstVolume S) (c : Control) (mine : Mine S c) where
  -- a job that needs something isn't of a row that another client's job holds
  other_job : (k i : ℕ) (step : JobStep) (need : Need) → need_now S c k i step ≡ need → (NoNeed ≡ need → ⊥)
      → (j m : ℕ) (held : JobStep) → job_of c.clients j ≡ Busy m held → holds_by S (row_at S m) m held ≡ true → j ≢ k → (row_at S i == row_at S m) ≡ false
  other_job k i step need is some j m held busy holding apart = at (row_at S i == row_at S m) refl
    where
      at : (b : Bool) → (row_at S i == row_at S m) ≡ b → (row_at S i == row_at S m) ≡ false
      at true e = absurd (
          let same : row_at S i ≡ row_at S m = grind (arith, nat_tests, e) in
          let free : holds S (row_at S m) (job_of c.clients j) ≡ false = subst (λ z. holds S z (job_of c.clients j) ≡ false) same (alone_now S c k i step need is some j apart) in
          let taken : holds S (row_at S m) (job_of c.clients j) ≡ true = ap (holds S (row_at S m)) busy ∙ holding in
          cc (free, taken))
      at false e = e

  -- a job writes the members that it hasn't written
  own_job : (k i : ℕ) (step : JobStep) (d : ℕ) (ds : List ℕ) → need_now S c k i step ≡ Writes d ds → holds_by S (row_at S i) i step ≡ true → has_disk d (unwritten step) ≡ true
  own_job k i step d ds need holding = elim (writes_from S c k i step d ds (needs S c k i step _ need (λ none. absurd cc))) [
    | inl waits ↦ absurd (let free : holds_by S (row_at S i) i step ≡ false = ap (holds_by S (row_at S i) i) waits.0 in cc (free, holding))
    | inr writes ↦
        let first : (d == d) ≡ true = grind (arith, nat_tests) in
        subst (λ z. has_disk d (unwritten z) ≡ true) (sym writes) (rw first refl)
  ]

  -- what is asked of a member that a job has written doesn't write the job's row
  pub asked_leaves : (e : ℕ) (what : What) → AsksFor S c e what → (j m : ℕ) (step : JobStep) → job_of c.clients j ≡ Busy m step → holds_by S (row_at S m) m step ≡ true
      → (d : ℕ) → has_disk d S.members ≡ true → has_disk d (unwritten step) ≡ false → e ≡ d → Spares (at_row S (row_at S m)) what
  asked_leaves _ _ (anchor b e ds stored is) j m step busy holding d member out same =
      let job : IsJob S j m step = of_job S c j m (client_at c.clients j).left step mine (ap (λ (z : Job). record { left = (client_at c.clients j).left; job = z }) busy) in
      let below = row_below S volume.level m job.place job.placed in
      spares_of (at_row S (row_at S m)) (Write (anchor_place (S.start.disks.sectors e)) (b.anchor ∷ []) stored)
      (subst (λ z. SparesRow (at_row S (row_at S m)) (Write (anchor_place (S.start.disks.sectors z)) (b.anchor ∷ []) stored)) (sym same)
      (anchor_spares S volume d (row_at S m) stored b.anchor below (volume.members d member).target))
  asked_leaves _ _ (settle b e ds is) j m step busy holding d member out same = tt
  asked_leaves _ _ (put k i left own e ds stored here need) j m step busy holding d member out same = at (j == k) refl
    where
      at : (b : Bool) → (j == k) ≡ b → (at_row S (row_at S m) < at_row S (row_at S i)) ⊎ (at_row S (row_at S i) + 1 ≤ at_row S (row_at S m))
      at true is = absurd (
          let equal : j ≡ k = grind (arith, nat_tests, is) in
          let is_own : Busy m step ≡ Busy i own = sym busy ∙ ap (job_of c.clients) equal ∙ job_is c k left (Busy i own) here in
          let op : m ≡ i = cc is_own in
          let at_step : step ≡ own = cc is_own in
          let holds_own : holds_by S (row_at S i) i own ≡ true = subst (λ z. holds_by S (row_at S z) z own ≡ true) op (subst (λ z. holds_by S (row_at S m) m z ≡ true) at_step holding) in
          let inside : has_disk e (unwritten own) ≡ true = own_job k i own e ds need holds_own in
          let outside : has_disk e (unwritten own) ≡ false = subst (λ z. has_disk z (unwritten own) ≡ false) (sym same) (subst (λ z. has_disk d (unwritten z) ≡ false) at_step out) in
          cc (inside, outside))
      at false is =
          let unlike : j ≢ k = λ equal. absurd (let yes_same : (j == k) ≡ true = grind (arith, nat_tests, equal) in cc (yes_same, is)) in
          on_a_side (at_row S (row_at S i)) (at_row S (row_at S m))
          (other_row S (row_at S i) (row_at S m) (other_job k i own _ need (λ none. absurd cc) j m step busy holding unlike))
  asked_leaves _ _ (sync k i left own e ds here need) j m step busy holding d member out same = tt
  asked_leaves _ _ (get k i left own e here need) j m step busy holding d member out same = tt
