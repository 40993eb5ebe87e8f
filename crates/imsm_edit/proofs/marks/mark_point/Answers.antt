use Rattle.std.proofs.Common.{◌≡◌, ◌<◌, ℕ, List, Bool, length, map, refl, sym, ◌∙◌, ap, subst, arith}
use Rattle.std.proofs.lemmas.List.{length-map}
use Rattle.imsm_base.specs.Layout.{Block, Volume, migration_type_of, state_lengths}
use Rattle.imsm_base.specs.EditsOfTables.{with_volume, volume_with_pass}
use Rattle.imsm_codec.specs.Laid.{IsLaid}
use Rattle.imsm_codec.specs.Mpb.{volume_at}
use Rattle.imsm_codec.proofs.Found.{volumes_counted}
use Rattle.imsm_buffer.specs.Buffer.{parts_of}
use Rattle.imsm_buffer.proofs.Placed.{volume_is}
use Rattle.imsm_edit.specs.Meanings.{with_states, is_told, at_point}
use Rattle.imsm_edit.proofs.Changes.{block_as}
use Rattle.imsm_edit.proofs.Told.{told_by, edit_done, point_pass}
use Rattle.imsm_edit.proofs.marks.mark_point.Goals as goal

-- the type that was read, written again
made_by : (b read mid : Block) (k kind unit : ℕ) → kind ≡ migration_type_of (volume_at k read) → read ≡ b → mid ≡ with_volume k (volume_with_pass kind unit) b → mid ≡ with_volume k (at_point unit) b
made_by b read mid k kind unit is same made =
    made ∙ block_as b k (volume_with_pass kind unit) (at_point unit)
    (ap (λ (n : ℕ). volume_with_pass n unit (volume_at k b)) (is ∙ ap (λ (x : Block). migration_type_of (volume_at k x)) same))

pub set_states-requires-clause-told : goal.set_states-requires-clause-told
set_states-requires-clause-told c =
    let b : Block = parts_of c.args.book.now in
    let v : Volume = volume_at c.args.v.0 b in
    let count = volumes_counted c.args.book.now.bytes in
    let below : c.args.v.0 < length b.volumes = omega arith in
    let laid : IsLaid c.args.book.now.bytes = subst IsLaid c.parts.ensures.bytes c.parts.result.laid in
    let fields : map (λ (f : List ℕ). length f) v.state ≡ state_lengths = (volume_is c.args.book.now.bytes c.args.v.0 laid c.requires.volume).state in
    let long : length v.state ≡ 10 = sym (length-map v.state (λ (f : List ℕ). length f)) ∙ ap (λ (ns : List ℕ). length ns) fields in
    let kind : c.migr_type-kind.result ≡ migration_type_of v = c.migr_type-kind.ensures ∙ ap (λ (x : Block). migration_type_of (volume_at c.args.v.0 x)) c.parts.ensures.parts in
    let small : migration_type_of v < 256 = subst (λ (n : ℕ). n < 256) kind c.migr_type-kind.type_inv in
    told_by b (parts_of c.set_pass.new.self) c.args.v.0 (at_point c.args.unit) c.view_of-view.result c.view_of-view.ensures below
    (made_by b _ (parts_of c.set_pass.new.self) c.args.v.0 c.migr_type-kind.result c.args.unit c.migr_type-kind.ensures c.parts.ensures.parts c.set_pass.ensures.block)
    (point_pass c.args.unit v long small) refl

pub returns-clause-block : goal.returns-clause-block
returns-clause-block c =
    let b : Block = parts_of c.args.book.now in
    let mid : Block = parts_of c.set_pass.new.self in
    edit_done b mid (parts_of c.set_states.new.book) c.args.v.0 (is_told c.args.facts.now.broken.items c.args.v.0) (at_point c.args.unit)
    (made_by b _ mid c.args.v.0 c.migr_type-kind.result c.args.unit c.migr_type-kind.ensures c.parts.ensures.parts c.set_pass.ensures.block)
    (subst (λ (t : Bool). parts_of c.set_states.new.book ≡ with_volume c.args.v.0 (with_states mid t) mid) c.is_broken.ensures c.set_states.ensures.block)
