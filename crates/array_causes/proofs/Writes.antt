-- Writes to a sector that a volume has, as clients' jobs see them.
use Rattle.std.proofs.Common.{◌≡◌, ℕ, ◌==◌, ◌&&◌, Bool, true, false, refl, ap, sym, ◌∙◌, subst, arith, is_some, Option, Some, None, eq-eqb}
use Rattle.std.proofs.lemmas.Bool.Decides.{nat_tests}
use Rattle.array_model.specs.declared.script.OpKind.{OpKind}
use Rattle.array_model.specs.declared.script.OpKind.TheVariants.{Write as OpWrite, Read as OpRead, Whole as OpWhole}
use Rattle.array_model.specs.Script.{VolumeWrite, kind_at, write_in, write_at, is_in_volume, is_write_in}
use Rattle.array_model.specs.Placement.{placement_of}
use Rattle.array_machine.specs.Setting.{Setting}
use Rattle.array_machine.specs.Operations.{volume_in, volume_of, shape_of, sector_in, place_at, is_write_kind, is_write}
use Rattle.array_causes.specs.Writes.{is_there, is_write_there}

both : (a b : Bool) → (a && b) ≡ true → (a ≡ true) × (b ≡ true)
both true b h = (refl, h)
both false b h = absurd cc

module _ (S : Setting) where
  pub there_in : (v i : ℕ) → is_write_there S.start S.asked.ops v i ≡ true → is_write_in S.asked.ops v i ≡ true
  there_in v i = at (write_at S.asked.ops i)
    where
      at : (w : Option VolumeWrite) → is_there S.start v w ≡ true → is_in_volume v w ≡ true
      at None h = absurd cc
      at (Some t) h = (both (t.volume == v) (is_some (placement_of (shape_of S v) t.sector)) h).0

  -- by what the operation asks for
  pub there_volume : (v i : ℕ) → is_write_there S.start S.asked.ops v i ≡ true → volume_of S i ≡ v
  there_volume v i = at (kind_at S.asked.ops i)
    where
      at : (kind : Option OpKind) → is_there S.start v (write_in kind) ≡ true → volume_in kind ≡ v
      at None h = absurd cc
      at (Some (OpRead w s)) h = absurd cc
      at (Some (OpWhole w)) h = absurd cc
      at (Some (OpWrite w s value)) h =
          let same : (w.0 == v) ≡ true = (both (w.0 == v) (is_some (placement_of (shape_of S v) s)) h).0 in
          grind (arith, nat_tests, same)

  pub there_writes : (v i : ℕ) → is_write_there S.start S.asked.ops v i ≡ true → is_write S i ≡ true
  there_writes v i = at (kind_at S.asked.ops i)
    where
      at : (kind : Option OpKind) → is_there S.start v (write_in kind) ≡ true → is_write_kind kind ≡ true
      at None h = absurd cc
      at (Some (OpRead w s)) h = absurd cc
      at (Some (OpWhole w)) h = absurd cc
      at (Some (OpWrite w s value)) h = refl

  pub there_place : (v i : ℕ) → is_write_there S.start S.asked.ops v i ≡ true → is_some (place_at S i) ≡ true
  there_place v i = at (kind_at S.asked.ops i)
    where
      at : (kind : Option OpKind) → is_there S.start v (write_in kind) ≡ true
          → is_some (placement_of (shape_of S (volume_in kind)) (sector_in kind)) ≡ true
      at None h = absurd cc
      at (Some (OpRead w s)) h = absurd cc
      at (Some (OpWhole w)) h = absurd cc
      at (Some (OpWrite w s value)) h =
          let parts = both (w.0 == v) (is_some (placement_of (shape_of S v) s)) h in
          let same : w.0 ≡ v = let test = parts.0 in grind (arith, nat_tests, test) in
          subst (λ u. is_some (placement_of (shape_of S u) s) ≡ true) (sym same) parts.1

  -- and back
  pub writes_there : (i : ℕ) (kind : Option OpKind) → kind_at S.asked.ops i ≡ kind → is_write_kind kind ≡ true
      → is_some (placement_of (shape_of S (volume_in kind)) (sector_in kind)) ≡ true
      → is_write_there S.start S.asked.ops (volume_of S i) i ≡ true
  writes_there i kind is writes there =
      ap (λ k. is_there S.start (volume_in k) (write_in k)) is ∙ at kind writes there
    where
      at : (kind : Option OpKind) → is_write_kind kind ≡ true
          → is_some (placement_of (shape_of S (volume_in kind)) (sector_in kind)) ≡ true
          → is_there S.start (volume_in kind) (write_in kind) ≡ true
      at None w there = absurd cc
      at (Some (OpRead v s)) w there = absurd cc
      at (Some (OpWhole v)) w there = absurd cc
      at (Some (OpWrite v s value)) w there =
          let here : (v.0 == v.0) ≡ true = eq-eqb v.0 v.0 refl in rw (here, there) refl
