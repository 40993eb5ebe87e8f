use Rattle.std.proofs.Common.{◌≡◌, ◌/◌, ◌%◌, ◌^◌, ◌==◌, ◌||◌, ℕ, Bool, true, false, take, refl, sym, ◌∙◌, ap, arith}
use Rattle.std.specs.List.{list_any}
use Rattle.std.proofs.lemmas.Bool.{eq-eqb, ne_eqb}
use Rattle.imsm_base.specs.Layout.{Block, Volume, member_count_of}
use Rattle.imsm_base.specs.Volumes.{Member, first_map, member, members, order_at}
use Rattle.imsm_codec.specs.Mpb.{volume_at}
use Rattle.imsm_codec.proofs.Found.{maps_counted}
use Rattle.imsm_codec.proofs.Mirror.{one_map, out_by_one}
use Rattle.imsm_buffer.specs.Buffer.{parts_of}
use Rattle.imsm_view.proofs.Members.{any_more, any_here, all_taken}
use Rattle.imsm_edit.proofs.slots.has_out.Goals as goal

-- what was read of a slot's entry says whether the slot is out of sync
out_as : (read b : Block) (k slot order : ℕ) (t : Bool) → order ≡ order_at slot (first_map (volume_at k read)) → read ≡ b → (member (volume_at k b) slot).is_out ≡ ((order_at slot (first_map (volume_at k b)) / 2 ^ 24 % 2 == 1) || false) →
    (order / 2 ^ 24 % 2 == 1) ≡ t → (member (volume_at k b) slot).is_out ≡ (t || false)
out_as read b k slot order t is same out told =
    out ∙ ap (λ (n : ℕ). (n / 2 ^ 24 % 2 == 1) || false) (sym (is ∙ ap (λ (x : Block). order_at slot (first_map (volume_at k x))) same)) ∙ ap (λ (x : Bool). x || false) told

pub loop-slot-preserved : goal.loop-slot-preserved
loop-slot-preserved c =
    let b : Block = parts_of c.args.book.now in
    let v : Volume = volume_at c.args.v.0 b in
    let count : c.map_members-slot-end.result ≡ member_count_of (first_map v) = c.map_members-slot-end.ensures ∙ ap (λ (x : Block). member_count_of (first_map (volume_at c.args.v.0 x))) c.parts-mpb.ensures.parts in
    let out = out_by_one v c.loop-slot.slot (one_map v (maps_counted c.args.book.now.bytes c.args.v.0 c.requires.volume) c.requires.closed) in
    any_more (λ (m : Member). m.is_out) v c.loop-slot.slot (omega arith) c.loop-slot.invariant
    (out_as _ b c.args.v.0 c.loop-slot.slot c.map_ord.result false c.map_ord.ensures c.parts-mpb.ensures.parts out (ne_eqb (c.map_ord.result / 2 ^ 24 % 2) 1 c.if-map_ord-eq1.false))

pub returns : goal.returns
returns c =
    let b : Block = parts_of c.args.book.now in
    let v : Volume = volume_at c.args.v.0 b in
    let count : c.map_members-slot-end.result ≡ member_count_of (first_map v) = c.map_members-slot-end.ensures ∙ ap (λ (x : Block). member_count_of (first_map (volume_at c.args.v.0 x))) c.parts-mpb.ensures.parts in
    sym c.loop-slot.invariant ∙ ap (λ (n : ℕ). list_any (λ m. m.is_out) (take n (members v))) (omega arith) ∙ ap (list_any (λ (m : Member). m.is_out)) (all_taken v (member_count_of (first_map v)) refl)

pub returns-then-map_ord-eq1 : goal.returns-then-map_ord-eq1
returns-then-map_ord-eq1 c =
    let b : Block = parts_of c.args.book.now in
    let v : Volume = volume_at c.args.v.0 b in
    let count : c.map_members-slot-end.result ≡ member_count_of (first_map v) = c.map_members-slot-end.ensures ∙ ap (λ (x : Block). member_count_of (first_map (volume_at c.args.v.0 x))) c.parts-mpb.ensures.parts in
    let out = out_by_one v c.loop-slot.slot (one_map v (maps_counted c.args.book.now.bytes c.args.v.0 c.requires.volume) c.requires.closed) in
    sym (ap (list_any (λ (m : Member). m.is_out)) (sym (all_taken v (member_count_of (first_map v)) refl))
    ∙ any_here (λ (m : Member). m.is_out) v c.loop-slot.slot (member_count_of (first_map v)) (omega arith) (omega arith)
    (out_as _ b c.args.v.0 c.loop-slot.slot c.map_ord.result true c.map_ord.ensures c.parts-mpb.ensures.parts out (eq-eqb (c.map_ord.result / 2 ^ 24 % 2) 1 c.if-map_ord-eq1.true)))
