-- The content that the first copy gives, where no other differs.
use Rattle.std.proofs.Common.{◌≡◌, ℕ, zero, suc, ◌+◌, ◌<◌, ◌==◌, ◌||◌, not, Bool, true, false, List, [], ◌∷◌, length, map, slice_get, slice_index, slice_index_or, Option, Some, refl, sym, ◌∙◌, ap, subst, arith}
use Rattle.std.specs.List.{list_any}
use Rattle.std.specs.Option.{option_map_or}
use Rattle.std.proofs.lemmas.Bool.{or_parts, false≢true, eqb-true, true_from_ne_false}
use Rattle.std.proofs.lemmas.Option.{get_or_from_slice_get, slice_get-get_or}
use Rattle.std.proofs.lemmas.Slice.Eq.{bytes_eq-Decides}
use Rattle.units.specs.declared.disk.Sector.{Sector}
use Rattle.imsm_base.specs.Layout.{Volume, volume_size_of, pba_of}
use Rattle.imsm_base.specs.Parts.{block_in}
use Rattle.imsm_base.specs.Volumes.{first_map}
use Rattle.array_model.specs.Blocks.{sector_eq}
use Rattle.array_model.specs.Placement.{Shape}
use Rattle.array_model.specs.Script.{Asked}
use Rattle.block_meaning.specs.Reading.{block_words}
use Rattle.stage_machine.specs.Setting.{has_disk}
use Rattle.stage_machine.specs.Opens.{HoldsContent}
use Rattle.first_opening.specs.Opened.{Opened, IsOpening, newest_of, block_of, numbers_of, setting_of}
use Rattle.first_opening.specs.Copies.{HoldsCopies, AreCopies, copy_on, first_copy, differs}
use Rattle.first_opening.proofs.Numbers.{range-has}
use Rattle.first_opening.proofs.Volume.{IsMirror, the-volume, mirror, in-volume, room-on, rows-are}

-- WHERE THE CONTENTS ARE COPIES

pub holds-content : (o : Opened) (asked : Asked) (content : ℕ → ℕ → Sector) (unsure : ℕ → ℕ → Bool) → IsOpening o → HoldsCopies o content unsure → HoldsContent (setting_of o asked content unsure)
holds-content o asked content unsure is copies s d below sure member =
    let v : Volume = the-volume o is in
    let m : IsMirror o v = mirror o is in
    let there : slice_get (block_in (block_of o)).volumes 0 ≡ Some v = ap (λ (vs : List Volume). slice_get vs 0) m.one in
    let inside : s < volume_size_of v = subst (λ (x : Shape). s < x.size) m.shape below in
    let stands : slice_get (slice_index_or o.contents d []) (pba_of (first_map v) + s) ≡ Some (content 0 s) = copies 0 v there s d inside sure (in-volume o d member).below in
    ap (λ (x : Shape). slice_index_or (slice_index_or o.contents d []) (x.pba + s) (record { 0 = [] })) m.shape
    ∙ get_or_from_slice_get (slice_index_or o.contents d []) (pba_of (first_map v) + s) (content 0 s) (record { 0 = [] }) stands

-- THE FIRST COPY

none-passes : (p : ℕ → Bool) (d : ℕ) (xs : List ℕ) → list_any p xs ≡ false → has_disk d xs ≡ true → p d ≡ false
none-passes p d [] none there = absurd (false≢true there)
none-passes p d (x ∷ xs) none there =
    let parts = or_parts (p x) (list_any p xs) none in at (x == d) refl there parts.0 (none-passes p d xs parts.1)
  where
    at : (b : Bool) → (x == d) ≡ b → (b || has_disk d xs) ≡ true → p x ≡ false → (has_disk d xs ≡ true → p d ≡ false) → p d ≡ false
    at true same there first rest = subst (λ (k : ℕ). p k ≡ false) (eqb-true x d same) first
    at false other there first rest = rest there

same-sector : (a b : Sector) → not (sector_eq a b) ≡ false → a ≡ b
same-sector a b e =
    let same : a.0 ≡ b.0 = (bytes_eq-Decides a.0 b.0).0 (true_from_ne_false (sector_eq a b) (λ other. false≢true (sym e ∙ ap not other))) in
    ap (λ (x : List ℕ). let s : Sector = record { 0 = x } in s) same

size-at : (contents : List (List Sector)) (d : ℕ) → slice_index (map (λ (sectors : List Sector). length sectors) contents) d ≡ length (slice_index_or contents d [])
size-at [] d = refl
size-at (c ∷ cs) zero = refl
size-at (c ∷ cs) (suc d) = size-at cs d

-- a sector of the volume is there on each disk
copy-there : (o : Opened) (is : IsOpening o) (d s : ℕ) → d < length o.serials → s < volume_size_of (the-volume o is) →
    slice_get (slice_index_or o.contents d []) (pba_of (first_map (the-volume o is)) + s) ≡ Some (copy_on o d 0 s)
copy-there o is d s below inside =
    let m : IsMirror o (the-volume o is) = mirror o is in
    let place : ℕ = (block_words.shape (newest_of o) 0).pba + s in
    let size : slice_index o.sizes d ≡ length (slice_index_or o.contents d []) = ap (λ (ns : List ℕ). slice_index ns d) is.sizes ∙ size-at o.contents d in
    let small : s < (block_words.shape (newest_of o) 0).size = subst (λ (x : Shape). s < x.size) (sym m.shape) inside in
    let within : place < length (slice_index_or o.contents d []) = omega (arith, size, small, room-on o is d below, rows-are o is) in
    ap (λ (x : Shape). slice_get (slice_index_or o.contents d []) (x.pba + s)) (sym m.shape)
    ∙ slice_get-get_or (slice_index_or o.contents d []) place (record { 0 = [] }) within

first-copies : (o : Opened) → (is : IsOpening o) → AreCopies o (the-volume o is) (first_copy o 0) (differs o 0)
first-copies o is s d inside sure below =
    let passes : not (sector_eq (first_copy o 0 s) (copy_on o d 0 s)) ≡ false =
    none-passes (λ k. not (sector_eq (first_copy o 0 s) (copy_on o k 0 s))) d (numbers_of o) sure (range-has d 0 (length o.serials) (omega arith) (omega (arith, below))) in
    copy-there o is d s below inside ∙ ap Some (sym (same-sector (first_copy o 0 s) (copy_on o d 0 s) passes))

pub copies-are-held : (o : Opened) → IsOpening o → HoldsCopies o (first_copy o) (differs o)
copies-are-held o is number v there = at number (sym (ap (λ (vs : List Volume). slice_get vs number) (mirror o is).one) ∙ there)
  where
    at : (k : ℕ) → slice_get (the-volume o is ∷ []) k ≡ Some v → AreCopies o v (first_copy o k) (differs o k)
    at zero e = subst (λ (x : Volume). AreCopies o x (first_copy o 0) (differs o 0)) (ap (λ (x : Option Volume). option_map_or (λ y. y) x v) e) (first-copies o is)
    at (suc k) e = cc
