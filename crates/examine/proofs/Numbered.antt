-- The lines of elements with their numbers, one element more.
use Rattle.std.proofs.Common.{◌≡◌, ℕ, ◌+◌, ◌<◌, ◌≤◌, List, [], ◌∷◌, ◌++◌, length, take, get_or, refl, sym, ◌∙◌, ap, arith}
use Rattle.std.specs.List.{flat_map, enumerate_from}
use Rattle.std.proofs.lemmas.List.{length-map, take_more, take_all, flat_map_more}
use Rattle.std.proofs.lemmas.List.FromFn.{length-enumerate_from, get_or-enumerate_from}
use Rattle.imsm_base.specs.Fields.{number}
use Rattle.imsm_base.specs.Layout.{volume_count_of, map_count_of, member_count_of, orders_of}
use Rattle.imsm_base.specs.Parts.{block_in}
use Rattle.imsm_codec.specs.Laid.{IsLaid}
use Rattle.imsm_codec.specs.Mpb.{volume_at, map_at}
use Rattle.imsm_buffer.specs.Buffer.{Buffer}
use Rattle.imsm_buffer.proofs.Lowered.{there_of}
use Rattle.examine.specs.Lines.{numbered}

-- the lines of the first k elements
abbrev pub first_numbered : {A : Type 0} → ℕ → (ℕ → A → List ℕ) → List A → List ℕ
first_numbered {A} k lines xs = flat_map (λ ((i, x) : ℕ × A). lines i x) (take k (enumerate_from 0 xs))

pub numbered_more : {A : Type 0} (k : ℕ) (lines : ℕ → A → List ℕ) (xs : List A) (d : A) (first before after : List ℕ) → k < length xs
    → before ≡ first ++ first_numbered k lines xs → after ≡ before ++ lines k (get_or xs k d) → after ≡ first ++ first_numbered (k + 1) lines xs
numbered_more {A} k lines xs d first before after below so_far here =
    let f : ℕ × A → List ℕ = λ (i, x). lines i x in
    let es : List (ℕ × A) = enumerate_from 0 xs in
    let len : length es ≡ length xs = length-enumerate_from 0 xs in
    let at : get_or es k (0, d) ≡ (0 + k, get_or xs k d) = get_or-enumerate_from 0 xs k (0, d) below in
    here ∙ ap (λ (b : List ℕ). b ++ lines k (get_or xs k d)) so_far
    ∙ flat_map_more f first (take k es) (k, get_or xs k d)
    ∙ ap (λ (ys : List (ℕ × A)). first ++ flat_map f ys) (sym (take_more es k (0, d) (omega arith) ∙ ap (λ (y : ℕ × A). take k es ++ y ∷ []) (at ∙ ap (λ (i : ℕ). (i, get_or xs k d)) (omega arith))))

pub numbered_all : {A : Type 0} (k : ℕ) (lines : ℕ → A → List ℕ) (xs : List A) (first out : List ℕ) → length xs ≤ k
    → out ≡ first ++ first_numbered k lines xs → out ≡ first ++ numbered lines xs
numbered_all {A} k lines xs first out all is =
    let len : length (enumerate_from 0 xs) ≡ length xs = length-enumerate_from 0 xs in
    is ∙ ap (λ (ys : List (ℕ × A)). first ++ flat_map (λ ((i, x) : ℕ × A). lines i x) ys) (take_all k (enumerate_from 0 xs) (omega arith))

-- a map has an entry for each of its members
pub orders_counted : (v m : ℕ) (bytes : List ℕ) → IsLaid bytes → v < volume_count_of (block_in bytes) → m < map_count_of (volume_at v (block_in bytes))
    → length (orders_of (map_at m (volume_at v (block_in bytes)))) ≡ member_count_of (map_at m (volume_at v (block_in bytes)))
orders_counted v m bytes laid volume map =
    let buffer : Buffer = record { bytes = bytes; room = 0 } in
    length-map (map_at m (volume_at v (block_in bytes))).entries number ∙ (there_of v m buffer bytes laid refl volume map).entries
