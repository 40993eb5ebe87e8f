-- A log with one call more: the disk that makes the call, and the disks that stay.
use Rattle.std.proofs.Common.{◌≡◌, ℕ, ◌==◌, Bool, true, false, cond, List, [], ◌∷◌, ◌++◌, refl, sym, ◌∙◌, subst}
use Rattle.std.proofs.lemmas.Bool.{eqb-true, eq-eqb}
use Rattle.device_log.specs.Log.{Call, What}
use Rattle.array_model.specs.Blocks.{Words}
use Rattle.array_model.specs.Start.{Disks}
use Rattle.array_model.specs.Candidates.{Disk, disk_called, disk_from, disk_after, opened}
use Rattle.array_disks.specs.Calls.{call_on, behind, after_call}

module _ (W : Words) (disks : Disks) where
  -- a longer log goes on from where the shorter one left the disk
  pub disk_from-append : (d : ℕ) (k : Disk) (log more : List Call)
      → disk_from W disks d k (log ++ more) ≡ disk_from W disks d (disk_from W disks d k log) more
  disk_from-append d k [] more = refl
  disk_from-append d k (call ∷ log) more = disk_from-append d (disk_called W disks d k call) log more

  -- so it does from the opening
  pub disk_after-append : (d : ℕ) (log more : List Call)
      → disk_after W disks (log ++ more) d ≡ disk_from W disks d (disk_after W disks log d) more
  disk_after-append d log more = disk_from-append d (opened W disks d) log more

  -- one call more is one step more
  pub disk_after_call : (d : ℕ) (log : List Call) (call : Call)
      → disk_after W disks (log ++ call ∷ []) d ≡ disk_called W disks d (disk_after W disks log d) call
  disk_after_call d log call = disk_after-append d log (call ∷ [])

  -- the disk that is called, and any other
  pub called_here : (d : ℕ) (k : Disk) (what : What) (went : Bool)
      → disk_called W disks d k (call_on d what went) ≡ behind W disks d k what went
  called_here d k what went = let here : (d == d) ≡ true = eq-eqb d d refl in rw here refl

  -- any other stays
  pub called_other : (d : ℕ) (k : Disk) (call : Call) → (call.disk == d) ≡ false → disk_called W disks d k call ≡ k
  called_other d k call other = rw other refl

  -- a call on one disk changes nothing of another
  pub other_stays : (d : ℕ) (log : List Call) (call : Call) → (call.disk == d) ≡ false
      → disk_after W disks (log ++ call ∷ []) d ≡ disk_after W disks log d
  other_stays d log call other = disk_after_call d log call ∙ called_other d (disk_after W disks log d) call other

  -- the disk that is called makes one step
  pub here_changes : (log : List Call) (d : ℕ) (what : What) (went : Bool)
      → after_call W disks log d what went d ≡ behind W disks d (disk_after W disks log d) what went
  here_changes log d what went =
      disk_after_call d log (call_on d what went) ∙ called_here d (disk_after W disks log d) what went

  -- what holds of the disk that is called, and of each that stays, holds of each disk
  pub each_called : (P : ℕ → Disk → Disk → Type 0) (call : Call)
      → ((d : ℕ) → call.disk ≡ d → (k : Disk) → P d k (behind W disks d k call.what call.went))
      → ((d : ℕ) (k : Disk) → P d k k) → (d : ℕ) (k : Disk) → P d k (disk_called W disks d k call)
  each_called P call here other d k = at (call.disk == d) refl
    where
      at : (b : Bool) → (call.disk == d) ≡ b → P d k (cond b (behind W disks d k call.what call.went) k)
      at true is = here d (eqb-true call.disk d is) k
      at false is = other d k

  -- the same from a log on, which is all that most lemmas need of logs
  pub each_disk : (P : ℕ → Disk → Disk → Type 0) (log : List Call) (d : ℕ) (what : What) (went : Bool)
      → P d (disk_after W disks log d) (behind W disks d (disk_after W disks log d) what went)
      → ((e : ℕ) (k : Disk) → P e k k)
      → (e : ℕ) → P e (disk_after W disks log e) (after_call W disks log d what went e)
  each_disk P log d what went here other e = at (d == e) refl
    where
      at : (b : Bool) → (d == e) ≡ b → P e (disk_after W disks log e) (after_call W disks log d what went e)
      at true is =
          subst (λ x. P x (disk_after W disks log x) (after_call W disks log d what went x)) (eqb-true d e is)
          (subst (P d (disk_after W disks log d)) (sym (here_changes log d what went)) here)
      at false is =
          subst (P e (disk_after W disks log e)) (sym (other_stays e log (call_on d what went) is))
          (other e (disk_after W disks log e))

  -- what holds of the disk that is called
  pub called_has : (P : Disk → Type 0) (log : List Call) (d : ℕ) (what : What) (went : Bool)
      → P (behind W disks d (disk_after W disks log d) what went) → P (after_call W disks log d what went d)
  called_has P log d what went h = subst P (sym (here_changes log d what went)) h
