use Rattle.std.proofs.Common.{◌≡◌, ◌%◌, ℕ, List, bytes_eq, sym, ◌∙◌, ap, arith}
use Rattle.std.specs.List.{position}
use Rattle.imsm_base.specs.Layout.{Block}
use Rattle.imsm_base.specs.Volumes.{member}
use Rattle.imsm_codec.specs.Mpb.{block_bytes, block_of, volume_at}
use Rattle.image_verdict.specs.declared.images.ImageRead.{ImageRead}
use Rattle.image_verdict.specs.Reports.{is_there}
use Rattle.image_start.proofs.Found.{HasSlots, has-slots, slot-serial}
use Rattle.image_start.proofs.disks.member_of.Goals as goal

pub map_ord-requires-clause-slot : goal.map_ord-requires-clause-slot
map_ord-requires-clause-slot c =
    let h : HasSlots c.args.images.now (block_of c.args.mpb.now) = has-slots c.args.images.now (block_bytes c.args.mpb.now) c.requires.starts c.requires.block in
    omega (arith, h.slots, c.requires.slot)

pub overflow_cast-index : goal.overflow_cast-index
overflow_cast-index c =
    let h : HasSlots c.args.images.now (block_of c.args.mpb.now) = has-slots c.args.images.now (block_bytes c.args.mpb.now) c.requires.starts c.requires.block in
    let is : c.map_ord.result % 16777216 ≡ (member (volume_at 0 (block_of c.args.mpb.now)) c.args.slot.0).index = ap (λ (n : ℕ). n % 16777216) c.map_ord.ensures in
    omega (arith, is, h.below c.args.slot.0 c.requires.slot)

pub disk_serial-requires : goal.disk_serial-requires
disk_serial-requires c =
    let h : HasSlots c.args.images.now (block_of c.args.mpb.now) = has-slots c.args.images.now (block_bytes c.args.mpb.now) c.requires.starts c.requires.block in
    let is : c.map_ord.result % 16777216 ≡ (member (volume_at 0 (block_of c.args.mpb.now)) c.args.slot.0).index = ap (λ (n : ℕ). n % 16777216) c.map_ord.ensures in
    omega (arith, is, h.below c.args.slot.0 c.requires.slot, h.disks)

pub image_of-requires-clause-there : goal.image_of-requires-clause-there
image_of-requires-clause-there c =
    let b : Block = block_of c.args.mpb.now in
    let h : HasSlots c.args.images.now b = has-slots c.args.images.now (block_bytes c.args.mpb.now) c.requires.starts c.requires.block in
    let is : c.map_ord.result % 16777216 ≡ (member (volume_at 0 b) c.args.slot.0).index = ap (λ (n : ℕ). n % 16777216) c.map_ord.ensures in
    ap (λ (s : List ℕ). is_there c.args.images.now s) (c.disk_serial.ensures ∙ slot-serial c.args.images.now b c.args.slot.0 _ h c.requires.slot is)
    ∙ h.there c.args.slot.0 c.requires.slot

pub returns : goal.returns
returns c =
    let b : Block = block_of c.args.mpb.now in
    let h : HasSlots c.args.images.now b = has-slots c.args.images.now (block_bytes c.args.mpb.now) c.requires.starts c.requires.block in
    let is : c.map_ord.result % 16777216 ≡ (member (volume_at 0 b) c.args.slot.0).index = ap (λ (n : ℕ). n % 16777216) c.map_ord.ensures in
    ap (λ (s : List ℕ). position (λ (i : ImageRead). bytes_eq i.serial.0 s) c.args.images.now) (sym (c.disk_serial.ensures ∙ slot-serial c.args.images.now b c.args.slot.0 _ h c.requires.slot is))
    ∙ c.image_of.ensures
