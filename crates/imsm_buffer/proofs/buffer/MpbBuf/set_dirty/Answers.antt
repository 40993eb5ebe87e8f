use Rattle.std.proofs.Common.{◌≡◌, ◌<◌, ◌+◌, Bool, true, false, if◌then◌else◌, List, ℕ, refl, sym, ◌∙◌, ap, subst}
use mir.Val.{bool_byte}
use Rattle.imsm_base.specs.Fields.{number_at}
use Rattle.imsm_base.specs.Layout.{volume_count_of}
use Rattle.imsm_base.specs.Parts.{block_in}
use Rattle.imsm_base.specs.Edits.{dirty_place, with_dirty, block_with_dirty}
use Rattle.imsm_buffer.specs.Buffer.{Buffer, IsKept, parts_of}
use Rattle.imsm_buffer.specs.Places.{volume_place}
use Rattle.imsm_buffer.proofs.Placed.{dirty_there}
use Rattle.imsm_buffer.proofs.Kept.{written, volumes-counted, length-dirty, dirty-kept, dirty-block, dirty-made}
use Rattle.imsm_buffer.proofs.buffer.MpbBuf.set_dirty.Goals as goal

-- the condition, on the bytes
there : (s : Buffer) (bytes : List ℕ) (v : ℕ) → v < volume_count_of (parts_of s) → s.bytes ≡ bytes → v < number_at 1 57 bytes
there s bytes v below same = subst (λ (n : ℕ). v < n) (volumes-counted s.bytes ∙ ap (number_at 1 57) same) below

bit : (on : Bool) → bool_byte on ≡ (if on then 1 else 0)
bit true = refl
bit false = refl

-- the code's place is that of the dirty byte
found : (s : Buffer) (first : List ℕ) (v at : ℕ) → v < volume_count_of (parts_of s) → s.bytes ≡ first → at ≡ volume_place v (block_in first) → at + 90 ≡ dirty_place first v
found s first v at below same place = dirty_there first v at (there s first v below same) place

pub invariant_of-self : goal.invariant_of-self
invariant_of-self c =
    let items : List ℕ = c.self.inside.bytes.items in
    let v : ℕ = c.args.v.0 in
    let on : Bool = c.args.on in
    let below = there c.args.self.now items v c.requires (sym (ap (λ (s : Buffer). s.bytes) c.self.view_is)) in
    let new = dirty-made c.put_u8.new.bytes c.deref_mut.result.now c.deref.result.now c.deref-2.result.now items (c.volume_place-at.result + 90) c.get_u8-byte.result c.from.result v on
    c.put_u8.ensures c.deref_mut.ensures.value (found c.args.self.now c.deref.result.now v c.volume_place-at.result c.requires (sym (ap (λ (s : Buffer). s.bytes) c.self.view_is) ∙ sym c.deref.ensures.value) c.volume_place-at.ensures.place) c.deref.ensures.value c.get_u8-byte.ensures c.deref-2.ensures.value (c.from.ensures ∙ bit on) in
    subst (λ (x : List ℕ). IsKept x c.self.inside.room c.self.inside.bytes.cap)
    (sym (written c.self.inside.bytes c.put_u8.new.bytes (with_dirty items v on) new (length-dirty items v on c.self.invariant.laid below)))
    (dirty-kept items v on c.self.inside.room c.self.inside.bytes.cap c.self.invariant below)

pub returns-clause-bytes : goal.returns-clause-bytes
returns-clause-bytes c =
    let items : List ℕ = c.self.inside.bytes.items in
    let v : ℕ = c.args.v.0 in
    let on : Bool = c.args.on in
    let below = there c.args.self.now items v c.requires (sym (ap (λ (s : Buffer). s.bytes) c.self.view_is)) in
    let new = dirty-made c.put_u8.new.bytes c.deref_mut.result.now c.deref.result.now c.deref-2.result.now items (c.volume_place-at.result + 90) c.get_u8-byte.result c.from.result v on
    c.put_u8.ensures c.deref_mut.ensures.value (found c.args.self.now c.deref.result.now v c.volume_place-at.result c.requires (sym (ap (λ (s : Buffer). s.bytes) c.self.view_is) ∙ sym c.deref.ensures.value) c.volume_place-at.ensures.place) c.deref.ensures.value c.get_u8-byte.ensures c.deref-2.ensures.value (c.from.ensures ∙ bit on) in
    ap (with_bytes c.self.inside.room) (written c.self.inside.bytes c.put_u8.new.bytes (with_dirty items v on) new (length-dirty items v on c.self.invariant.laid below))
    ∙ ap (λ (x : Buffer). record x { bytes = with_dirty x.bytes v on }) c.self.view_is
  where
    with_bytes : ℕ → List ℕ → Buffer
    with_bytes room xs = record { bytes = xs; room = room }

pub returns-clause-block : goal.returns-clause-block
returns-clause-block c =
    let items : List ℕ = c.self.inside.bytes.items in
    let v : ℕ = c.args.v.0 in
    let on : Bool = c.args.on in
    let below = there c.args.self.now items v c.requires (sym (ap (λ (s : Buffer). s.bytes) c.self.view_is)) in
    let new = dirty-made c.put_u8.new.bytes c.deref_mut.result.now c.deref.result.now c.deref-2.result.now items (c.volume_place-at.result + 90) c.get_u8-byte.result c.from.result v on
    c.put_u8.ensures c.deref_mut.ensures.value (found c.args.self.now c.deref.result.now v c.volume_place-at.result c.requires (sym (ap (λ (s : Buffer). s.bytes) c.self.view_is) ∙ sym c.deref.ensures.value) c.volume_place-at.ensures.place) c.deref.ensures.value c.get_u8-byte.ensures c.deref-2.ensures.value (c.from.ensures ∙ bit on) in
    ap block_in (written c.self.inside.bytes c.put_u8.new.bytes (with_dirty items v on) new (length-dirty items v on c.self.invariant.laid below))
    ∙ dirty-block items v on c.self.invariant.laid below
    ∙ ap (λ (x : Buffer). block_with_dirty (parts_of x) v on) c.self.view_is
