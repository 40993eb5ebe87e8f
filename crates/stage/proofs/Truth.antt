-- A read that the bank says to be true is one of an honest run.
use Rattle.std.proofs.Common.{◌≡◌, ℕ, List, [], ◌∷◌, ◌++◌, Option, Some, None, refl, ap, sym, subst, ◌∙◌}
use Rattle.std.specs.Prelude.{slice_get, slice_index_or}
use Rattle.std.specs.Option.{IsSomeAnd}
use Rattle.std.proofs.lemmas.Option.{get_or_from_slice_get}
use Rattle.units.specs.declared.disk.Sector.{Sector}
use Rattle.device_log.specs.Log.{Call, Read, IsReadCall, OnlyReads}
use Rattle.device_log.specs.Cells.{Cell, Stands, resting, cell_after}
use Rattle.array_model.specs.Candidates.{disk_after}
use Rattle.stage_machine.specs.Setting.{Setting}
use Rattle.stage_machine.proofs.Cells.{cells_after}
use Rattle.stage.specs.Runs.{holding}
use Rattle.device_log.proofs.Cells.{cell_after-append, cell_called-read, cell_after-reads}

-- a read that ends a log, and reads before it, are passed over
cell_between : (d p : ℕ) (c : Cell) (before log : List Call) (call : Call) → OnlyReads before → IsReadCall call.what
    → cell_after d p c ((before ++ log) ++ call ∷ []) ≡ cell_after d p c log
cell_between d p c before log call first last =
    cell_after-append d p c (before ++ log) (call ∷ [])
    ∙ cell_called-read d p (cell_after d p c (before ++ log)) call last
    ∙ cell_after-append d p c before log
    ∙ ap (λ (k : Cell). cell_after d p k log) (cell_after-reads d p c before first)

-- what the bank says to stand there, stands there in the model
pub stands_true : (S : Setting) (opening : List (List Sector)) (before log all : List Call) (call : Call) (place : ℕ) (s : Sector)
    → OnlyReads before → call.what ≡ Read place → all ≡ (before ++ log) ++ call ∷ [] → Stands opening all call.disk place s
    → s ≡ ((disk_after (holding S opening).start.words (holding S opening).start.disks log call.disk).cells place).stood
stands_true S opening before log all call place s reads read is stands = at (slice_get (slice_index_or opening call.disk []) place) refl stands
  where
    last : IsReadCall call.what
    last = subst IsReadCall (sym read) tt

    at : (first : Option Sector) → slice_get (slice_index_or opening call.disk []) place ≡ first → IsSomeAnd first (λ (f : Sector). (cell_after call.disk place (resting f) all).stood ≡ s)
        → s ≡ ((disk_after (holding S opening).start.words (holding S opening).start.disks log call.disk).cells place).stood
    at None there stood = absurd stood
    at (Some f) there stood =
        let same : slice_index_or (slice_index_or opening call.disk []) place (record { 0 = [] }) ≡ f = get_or_from_slice_get (slice_index_or opening call.disk []) place f (record { 0 = [] }) there in
        sym stood
        ∙ ap (λ (c : Cell). c.stood)
        (ap (cell_after call.disk place (resting f)) is
        ∙ cell_between call.disk place (resting f) before log call reads last
        ∙ ap (λ (x : Sector). cell_after call.disk place (resting x) log) (sym same)
        ∙ sym (cells_after (holding S opening).start.words (holding S opening).start.disks log call.disk place))
