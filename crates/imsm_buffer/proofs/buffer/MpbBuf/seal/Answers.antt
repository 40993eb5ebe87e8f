use Rattle.std.proofs.Common.{◌≡◌, ◌<◌, ◌^◌, List, length, ℕ, sym, ◌∙◌, ap, subst, arith}
use Rattle.imsm_base.specs.Fields.{with_number_at}
use Rattle.imsm_base.specs.Layout.{size_of, checksum_of}
use Rattle.imsm_base.specs.Parts.{block_in}
use Rattle.imsm_base.specs.Whole.{IsSize, block_sum}
use Rattle.imsm_base.specs.Edits.{sized, block_sealed}
use Rattle.imsm_buffer.specs.Buffer.{Buffer, IsKept, parts_of}
use Rattle.imsm_buffer.proofs.Kept.{sealed-kept, sealed-block, sealed-parts, sealed-size, seal-made}
use Rattle.imsm_buffer.proofs.buffer.MpbBuf.seal.Goals as goal

-- the write of the size
sized_as : (first now items : List ℕ) (n len : ℕ) → first ≡ with_number_at 4 36 n now → now ≡ items → n ≡ len → len ≡ length items → first ≡ sized items
sized_as first now items n len made is a b = made ∙ ap (with_number_at 4 36 n) is ∙ ap (λ (i : ℕ). with_number_at 4 36 i items) (a ∙ b)

short : (items : List ℕ) (room capacity : ℕ) → IsKept items room capacity → length items < 2 ^ 32
short items room capacity k = let fits = k.fits in let most = k.most in omega arith

pub invariant_of-self : goal.invariant_of-self
invariant_of-self c =
    let items : List ℕ = c.self.inside.bytes.items in
    let first = sized_as c.put_u32.new.bytes c.deref_mut.result.now items c.len-size.result c.self.inside.bytes.len c.put_u32.ensures c.deref_mut.ensures.value c.len-size.ensures c.self.inside.bytes.ok.0 in
    let new = seal-made c.self.inside.bytes c.put_u32.new.bytes c.put_u32-2.new.bytes c.deref_mut-2.result.now c.sum_of-sum.result c.self.invariant.laid first c.deref_mut-2.ensures.value
    (c.sum_of-sum.ensures ∙ ap block_sum (c.deref.ensures.value ∙ sym c.deref_mut-2.ensures.value)) c.put_u32-2.ensures in
    subst (λ (x : List ℕ). IsKept x c.self.inside.room c.self.inside.bytes.cap) (sym new) (sealed-kept items c.self.inside.room c.self.inside.bytes.cap c.self.invariant)

pub returns-clause-block : goal.returns-clause-block
returns-clause-block c =
    let items : List ℕ = c.self.inside.bytes.items in
    let first = sized_as c.put_u32.new.bytes c.deref_mut.result.now items c.len-size.result c.self.inside.bytes.len c.put_u32.ensures c.deref_mut.ensures.value c.len-size.ensures c.self.inside.bytes.ok.0 in
    let new = seal-made c.self.inside.bytes c.put_u32.new.bytes c.put_u32-2.new.bytes c.deref_mut-2.result.now c.sum_of-sum.result c.self.invariant.laid first c.deref_mut-2.ensures.value
    (c.sum_of-sum.ensures ∙ ap block_sum (c.deref.ensures.value ∙ sym c.deref_mut-2.ensures.value)) c.put_u32-2.ensures in
    ap block_in new ∙ sealed-block items c.self.invariant.laid
    ∙ ap (λ (x : Buffer). block_sealed (parts_of x) (length x.bytes) (block_sum (sized x.bytes))) c.self.view_is

pub returns-clause-sized : goal.returns-clause-sized
returns-clause-sized c =
    let items : List ℕ = c.self.inside.bytes.items in
    let first = sized_as c.put_u32.new.bytes c.deref_mut.result.now items c.len-size.result c.self.inside.bytes.len c.put_u32.ensures c.deref_mut.ensures.value c.len-size.ensures c.self.inside.bytes.ok.0 in
    let new = seal-made c.self.inside.bytes c.put_u32.new.bytes c.put_u32-2.new.bytes c.deref_mut-2.result.now c.sum_of-sum.result c.self.invariant.laid first c.deref_mut-2.ensures.value
    (c.sum_of-sum.ensures ∙ ap block_sum (c.deref.ensures.value ∙ sym c.deref_mut-2.ensures.value)) c.put_u32-2.ensures in
    subst (λ (x : List ℕ). IsSize (size_of (block_in x))) (sym new) (sealed-size items c.self.inside.room c.self.inside.bytes.cap c.self.invariant)

pub returns-clause-given : goal.returns-clause-given
returns-clause-given c =
    let items : List ℕ = c.self.inside.bytes.items in
    let first = sized_as c.put_u32.new.bytes c.deref_mut.result.now items c.len-size.result c.self.inside.bytes.len c.put_u32.ensures c.deref_mut.ensures.value c.len-size.ensures c.self.inside.bytes.ok.0 in
    let new = seal-made c.self.inside.bytes c.put_u32.new.bytes c.put_u32-2.new.bytes c.deref_mut-2.result.now c.sum_of-sum.result c.self.invariant.laid first c.deref_mut-2.ensures.value
    (c.sum_of-sum.ensures ∙ ap block_sum (c.deref.ensures.value ∙ sym c.deref_mut-2.ensures.value)) c.put_u32-2.ensures in
    subst (λ (x : List ℕ). size_of (block_in x) ≡ length x) (sym new) (sealed-parts items c.self.invariant.laid (short items c.self.inside.room c.self.inside.bytes.cap c.self.invariant)).given

pub returns-clause-summed : goal.returns-clause-summed
returns-clause-summed c =
    let items : List ℕ = c.self.inside.bytes.items in
    let first = sized_as c.put_u32.new.bytes c.deref_mut.result.now items c.len-size.result c.self.inside.bytes.len c.put_u32.ensures c.deref_mut.ensures.value c.len-size.ensures c.self.inside.bytes.ok.0 in
    let new = seal-made c.self.inside.bytes c.put_u32.new.bytes c.put_u32-2.new.bytes c.deref_mut-2.result.now c.sum_of-sum.result c.self.invariant.laid first c.deref_mut-2.ensures.value
    (c.sum_of-sum.ensures ∙ ap block_sum (c.deref.ensures.value ∙ sym c.deref_mut-2.ensures.value)) c.put_u32-2.ensures in
    subst (λ (x : List ℕ). checksum_of (block_in x) ≡ block_sum x) (sym new) (sealed-parts items c.self.invariant.laid (short items c.self.inside.room c.self.inside.bytes.cap c.self.invariant)).summed
