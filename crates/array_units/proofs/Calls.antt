-- A call that reads a row of a volume which no operation names is one of the volume's pass, and that has come past the
-- row's checkpoint.
use Rattle.std.proofs.Common.{◌≡◌, ℕ, ◌+◌, ◌<◌, ◌==◌, ◌&&◌, Bool, true, false, ◌∷◌, slice_set, refl, ap, sym, ◌∙◌, subst, arith, Option, Some, None}
use Rattle.std.proofs.lemmas.Bool.Decides.{nat_tests}
use Rattle.device_log.specs.Log.{What}
use Rattle.array_model.specs.declared.script.OpKind.{OpKind}
use Rattle.array_model.specs.declared.script.OpKind.TheVariants.{Write as OpWrite, Read as OpRead, Whole as OpWhole}
use Rattle.array_model.specs.Script.{kind_at, names_sector}
use Rattle.array_model.specs.Placement.{Placement, placement_of}
use Rattle.array_model.specs.FailureLaw.{IsNotAt, IsElsewhere}
use Rattle.array_disks.specs.Calls.{call_on}
use Rattle.array_machine.specs.Setting.{Setting}
use Rattle.array_machine.specs.Volumes.{slot_at, disk_in, Pass, Volume, volume_at, source_if, source_in}
use Rattle.array_machine.specs.Operations.{volume_of, volume_in, shape_of, sector_in, place_at, place_or, the_place}
use Rattle.array_machine.specs.Clients.{Row}
use Rattle.array_machine.specs.RowJobs.{Need, Reads}
use Rattle.array_machine.specs.Rounds.{Ended, Lives}
use Rattle.array_machine.specs.Control.{Control}
use Rattle.array_machine.specs.Changes.{Change, PassMoves, GoesOnQuietly}
use Rattle.array_machine.specs.Puts.{put}
use Rattle.array_paths.specs.Ready.{Ready, RowsInside}
use Rattle.array_paths.specs.ClientMove.{fits_kind, fits_op, NamesSector, ClientCall, reads as client_reads, writes as client_writes, syncs as client_syncs, client_went}
use Rattle.array_paths.specs.PassMove.{slots_of, work_at, PassCall, reads, writes, syncs, pass_after}
use Rattle.array_paths.specs.AtRows.{AtRows, by_client, by_pass, by_monitor}
use Rattle.array_units.specs.Passes.{StandsAt, HasPassed}
use Rattle.array_units.specs.EditUnits.{RowsLieApart}
use Rattle.array_units.specs.Counted.{PassesStand, IsPassed, IsCounted}
use Rattle.array_units.proofs.Passes.{reads_row, passed_here, passed_on}
use Rattle.array_units.proofs.Life.{not_reading}
use Rattle.array_units.proofs.Stand.{goes_moved, call_moved, row_below}
use Rattle.array_units.proofs.Seated.{set_there}

-- what may be read is of a started volume
source_started : (y : Volume) (s d : ℕ) → source_in y s ≡ Some d → y.started ≡ true
source_started y s d is = at y.started (slot_at y.slots s).in_sync (disk_in y.slots s) refl is
  where
    at : (a b : Bool) (disk : Option ℕ) → y.started ≡ a → source_if (a && b) disk ≡ Some d → y.started ≡ true
    at true b disk started is = started
    at false b disk started is = absurd (cc is)

module _ (S : Setting) where
  -- OPERATIONS

  -- the row of an operation that has a place is one that an operation names
  named_row : (v i row : ℕ) → NamesSector (kind_at S.asked.ops i) → fits_op S i ≡ true → volume_of S i ≡ v
      → (the_place S i).row ≡ row → IsElsewhere S.start S.asked.ops S.start.newest v row → ⊥
  named_row v i row names fits on here elsewhere =
      at (kind_at S.asked.ops i) refl names fits on here
    where
      by_place : (kind : OpKind) (s : ℕ) → kind_at S.asked.ops i ≡ Some kind → names_sector v kind ≡ Some s
          → (place : Option Placement) → placement_of (shape_of S v) s ≡ place → (place ≡ None → ⊥)
          → (place_or place).row ≡ row → ⊥
      by_place kind s is named None at some here = some refl
      by_place kind s is named (Some place) at some here =
          (subst (λ o. IsNotAt o row) at (elsewhere i s kind is named)) here

      at : (kind : Option OpKind) → kind_at S.asked.ops i ≡ kind → NamesSector kind
          → fits_kind (placement_of (shape_of S (volume_in kind)) (sector_in kind)) kind ≡ true → volume_in kind ≡ v
          → (place_or (placement_of (shape_of S (volume_in kind)) (sector_in kind))).row ≡ row → ⊥
      at None is names fits on here = names
      at (Some (OpWhole w)) is names fits on here = names
      at (Some (OpWrite w s value)) is names fits on here =
          let same : (w.0 == v) ≡ true = grind (arith, nat_tests, on) in
          by_place (OpWrite w s value) s is (rw same refl) (placement_of (shape_of S v) s) refl
          (λ none. cc (fits_at w.0 s on fits none))
          (subst (λ k. (place_or (placement_of (shape_of S k) s)).row ≡ row) on here)
        where
          fits_at : (k s : ℕ) → k ≡ v → fits_kind (placement_of (shape_of S k) s) (Some (OpWrite w s value)) ≡ true
              → placement_of (shape_of S v) s ≡ None → false ≡ true
          fits_at k s on fits none =
              let fit = subst (λ k. fits_kind (placement_of (shape_of S k) s) (Some (OpWrite w s value)) ≡ true) on fits
              in subst (λ o. fits_kind o (Some (OpWrite w s value)) ≡ true) none fit
      at (Some (OpRead w s)) is names fits on here =
          let same : (w.0 == v) ≡ true = grind (arith, nat_tests, on) in
          by_place (OpRead w s) s is (rw same refl) (placement_of (shape_of S v) s) refl
          (λ none. cc (fits_at w.0 s on fits none))
          (subst (λ k. (place_or (placement_of (shape_of S k) s)).row ≡ row) on here)
        where
          fits_at : (k s : ℕ) → k ≡ v → fits_kind (placement_of (shape_of S k) s) (Some (OpRead w s)) ≡ true
              → placement_of (shape_of S v) s ≡ None → false ≡ true
          fits_at k s on fits none =
              let fit = subst (λ k. fits_kind (placement_of (shape_of S k) s) (Some (OpRead w s)) ≡ true) on fits
              in subst (λ o. fits_kind o (Some (OpRead w s)) ≡ true) none fit

  -- and is one of its volume's rows
  place_inside : RowsInside S → (i : ℕ) → NamesSector (kind_at S.asked.ops i) → fits_op S i ≡ true
      → (the_place S i).row < (shape_of S (volume_of S i)).rows
  place_inside inside i names fits = at (place_at S i) refl (kind_at S.asked.ops i) names fits
    where
      at : (place : Option Placement) → place_at S i ≡ place → (kind : Option OpKind) → NamesSector kind
          → fits_kind place kind ≡ true → (place_or place).row < (shape_of S (volume_of S i)).rows
      at (Some place) is kind names fits = inside i place is
      at None is None names fits = absurd names
      at None is (Some (OpWhole w)) names fits = absurd names
      at None is (Some (OpWrite w s value)) names fits = absurd (cc fits)
      at None is (Some (OpRead w s)) names fits = absurd (cc fits)

  -- A CALL

  module _ (apart : RowsLieApart S) (inside : RowsInside S) (c : Control) (ready : Ready S c) (stand : PassesStand S c)
      (v : ℕ) (begun : S.start.is_started v ≡ true) where
    same_row : (u m n : ℕ) → u ≡ v → (shape_of S u).pba + m ≡ (shape_of S v).pba + n → m ≡ n
    same_row u m n same is =
        let there = subst (λ k. (shape_of S k).pba + m ≡ (shape_of S v).pba + n) same is in omega (arith, there)

    client_counted : (k d i : ℕ) (r : Row) (need : Need) (what : What) (stored : ℕ)
        → ClientCall S c k d i r need what stored → (new : Control) → IsCounted S new v (call_on d what true)
    client_counted k d _ _ _ _ _ (client_reads i r s stored needs on) new n is below elsewhere =
        at (volume_of S i == v) refl
      where
        place : (shape_of S (volume_of S i)).pba + (the_place S i).row ≡ (shape_of S v).pba + n
        place = cc is

        fits : fits_op S i ≡ true
        fits = ready.jobs k i r needs.has

        at : (b : Bool) → (volume_of S i == v) ≡ b → IsPassed S new v n
        at true same =
            let on : volume_of S i ≡ v = grind (arith, nat_tests, same) in
            absurd (named_row v i n needs.names fits on (same_row (volume_of S i) (the_place S i).row n on place)
            elsewhere)
        at false other =
            let started = source_started (volume_at c.volumes (volume_of S i)) s d on in
            absurd (apart (volume_of S i) v (the_place S i).row n (ready.started (volume_of S i) started) begun
            (λ same. grind (arith, nat_tests, other, same)) (place_inside inside i needs.names fits) below place)
    client_counted k d _ _ _ _ _ (client_writes i r s stored needs on) new n is below elsewhere = absurd (cc is)
    client_counted k d _ _ _ _ _ (client_syncs i r s stored needs on) new n is below elsewhere = absurd (cc is)

    pass_counted : (u d : ℕ) (p : Pass) (need : Need) (what : What) (x : Ended) (call : PassCall S c u d p need what 1)
        → IsCounted S (put S (PassMoves u (slots_of c u) (Some (pass_after S c u p need x)) GoesOnQuietly) c) v
        (call_on d what true)
    pass_counted u d _ _ _ x (reads p s _ needs free on) n is below elsewhere = at (u == v) refl
      where
        place : (shape_of S u).pba + p.row ≡ (shape_of S v).pba + n
        place = cc is

        started : (volume_at c.volumes u).started ≡ true
        started = source_started (volume_at c.volumes u) s d on

        new : Pass
        new = pass_after S c u p (Reads s) x

        y : Volume
        y = record (volume_at c.volumes u) { slots = slots_of c u; pass = Some new }

        there : volume_at (slice_set c.volumes u y) u ≡ y
        there = set_there c.volumes u y started

        stands : StandsAt (shape_of S u).rows p
        stands = (goes_moved S c u p needs.goes_on stand).stands

        passed : HasPassed (shape_of S u).rows new p.row
        passed =
            passed_on (shape_of S u) p new p.row
            (call_moved S c u d p (Reads s) _ 1 x (reads p s 1 needs free on) stands).comes
            (passed_here (shape_of S u) p stands (reads_row (shape_of S u) p (work_at S c u p.row) s needs.is)
            (row_below S c u p.row free))

        here : IsPassed S (put S (PassMoves u (slots_of c u) (Some new) GoesOnQuietly) c) u p.row
        here = record {
          sound = ap (λ (z : Volume). z.broken) there ∙ needs.goes_on.sound;
          passed = λ q at.
              let one : new ≡ q = (let whose = ap (λ (z : Volume). z.pass) (sym there) ∙ at in cc whose) in
              subst (λ z. HasPassed (shape_of S u).rows z p.row) one passed;
        }

        at : (b : Bool) → (u == v) ≡ b
            → IsPassed S (put S (PassMoves u (slots_of c u) (Some new) GoesOnQuietly) c) v n
        at true same =
            let on : u ≡ v = grind (arith, nat_tests, same) in
            let equal = same_row u p.row n on place in
            subst (λ k. IsPassed S (put S (PassMoves u (slots_of c u) (Some new) GoesOnQuietly) c) k n) on
            (subst (IsPassed S (put S (PassMoves u (slots_of c u) (Some new) GoesOnQuietly) c) u) equal here)
        at false other =
            absurd (apart u v p.row n (ready.started u started) begun (λ same. grind (arith, nat_tests, other, same))
            (row_below S c u p.row free) below place)
    pass_counted u d _ _ _ x (writes p s _ needs free on) n is below elsewhere = absurd (cc is)
    pass_counted u d _ _ _ x (syncs p s _ needs on) n is below elsewhere = absurd (cc is)

    -- a call at rows, of whoever makes it
    pub rows_counted : c.round.life ≡ Lives → (d : ℕ) (what : What) (x : Ended) (a : Change) → AtRows S c d what x a
        → IsCounted S (put S a c) v (call_on d what true)
    rows_counted lives d _ x _ (by_client k i r need what _ call) =
        client_counted k d i r need what 1 call (put S (client_went S c k i r need x) c)
    rows_counted lives d _ x _ (by_pass u p need what _ call) = pass_counted u d p need what x call
    rows_counted lives d _ x a (by_monitor left seen found _ life) =
        absurd (not_reading c.round.life (d ∷ left) seen found life lives)
