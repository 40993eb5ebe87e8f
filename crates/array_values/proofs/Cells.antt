-- What stands at a place of a disk behind a call of a run.
use Rattle.std.proofs.Common.{◌≡◌, ℕ, ◌+◌, ◌<◌, ◌==◌, Bool, true, false, List, [], ◌∷◌, length, refl, ap, ◌∙◌, arith, Some, cond, nat_lt}
use Rattle.std.proofs.lemmas.Bool.Decides.{nat_tests}
use Rattle.std.proofs.lemmas.Bool.{eqb-true}
use Rattle.units.specs.declared.disk.Sector.{Sector}
use Rattle.units.specs.declared.bounds.TheConstants.{METADATA_SECTORS}
use Rattle.device_log.specs.Log.{Call, What, Read, Write, Sync}
use Rattle.device_log.specs.Cells.{Cell, cell_at, brought}
use Rattle.device_log.proofs.Cells.{synced_stood}
use Rattle.array_model.specs.Blocks.{Laid}
use Rattle.array_model.specs.Candidates.{Disk, disk_called, disk_after}
use Rattle.array_disks.specs.Calls.{call_on, FitsEnd}
use Rattle.array_disks.proofs.Logs.{disk_after_call}
use Rattle.array_disks.proofs.Places.{extended_leaves, anchor_leaves}
use Rattle.array_machine.specs.Setting.{Setting}
use Rattle.array_machine.specs.Rounds.{Ended, Step, AtExtended, AtAnchor, AtSync, what_of, stored_of}
use Rattle.array_machine.specs.Machine.{log_after}
use Rattle.array_paths.specs.Honest.{stood_at}

-- a call leaves what stands at a place of its disk
abbrev pub Spares : ℕ → What → (went : Bool) → Type 0
Spares p what went = (x : Cell) → (cell_at p x what went).stood ≡ x.stood

pub read_spares : (p place : ℕ) (went : Bool) → Spares p (Read place) went
read_spares p place went x = refl

pub sync_spares : (p : ℕ) (went : Bool) → Spares p Sync went
sync_spares p went x = synced_stood x went

pub write_spares : (p place : ℕ) (s : Sector) (stored : ℕ) (went : Bool) → (place == p) ≡ false
    → Spares p (Write place (s ∷ []) stored) went
write_spares p place s stored went other x =
    ap (λ b. (cond b (brought x s (nat_lt 0 stored)) x).stood) other

-- a write of a block is behind all rows
pub step_spares : (S : Setting) (x : Ended) (m : Laid) (step : Step) (d p : ℕ) (went : Bool)
    → FitsEnd S.start.words m → p + METADATA_SECTORS < S.start.disks.sectors d → Spares p (what_of S x m step d) went
step_spares S x m AtExtended d p went fits lt c =
    ap (λ (y : Cell). y.stood)
    (extended_leaves S.start.words (S.start.disks.sectors d) c m (stored_of x (length m.extended)) went fits p lt)
step_spares S x m AtAnchor d p went fits lt c =
    ap (λ (y : Cell). y.stood)
    (anchor_leaves (S.start.disks.sectors d) c m (stored_of x 1) went p (omega (arith, lt)))
step_spares S x m AtSync d p went fits lt c = synced_stood c went

module _ (S : Setting) (log : List Call) (d : ℕ) (what : What) (went : Bool) where
  abbrev behind : List Call
  behind = log_after log (Some (call_on d what went))

  called : (e p : ℕ) → stood_at S behind e p
      ≡ ((disk_called S.start.words S.start.disks e (disk_after S.start.words S.start.disks log e)
      (call_on d what went)).cells p).stood
  called e p = ap (λ (k : Disk). (k.cells p).stood)
      (disk_after_call S.start.words S.start.disks e log (call_on d what went))

  -- on another disk it stays
  pub other_disk : (e p : ℕ) → (d == e) ≡ false → stood_at S behind e p ≡ stood_at S log e p
  other_disk e p other = called e p ∙ rw other refl

  pub same_disk_called : (e p : ℕ) → (d == e) ≡ true → stood_at S behind e p
      ≡ (cell_at p ((disk_after S.start.words S.start.disks log e).cells p) what went).stood
  same_disk_called e p same = called e p ∙ rw same refl

  -- where the call leaves it, it stays
  pub spared : (e p : ℕ) → (d ≡ e → Spares p what went) → stood_at S behind e p ≡ stood_at S log e p
  spared e p spares = at (d == e) refl
    where
      at : (b : Bool) → (d == e) ≡ b → stood_at S behind e p ≡ stood_at S log e p
      at true same = same_disk_called e p same ∙ spares (eqb-true d e same) _
      at false other = other_disk e p other

-- a write that goes through brings its sector
pub brings : (S : Setting) (log : List Call) (d p : ℕ) (s : Sector) (went : Bool)
    → stood_at S (log_after log (Some (call_on d (Write p (s ∷ []) 1) went))) d p ≡ s
brings S log d p s went =
    let here : (d == d) ≡ true = grind (arith, nat_tests) in
    let place : (p == p) ≡ true = grind (arith, nat_tests) in
    same_disk_called S log d (Write p (s ∷ []) 1) went d p here ∙ rw place refl
