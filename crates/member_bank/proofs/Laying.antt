-- What sectors leave on a disk that are laid onto it, and what the cell of each place says of them.
use Rattle.std.proofs.Common.{◌≡◌, ◌≢◌, ◌≤◌, ◌<◌, ◌+◌, ◌-◌, ℕ, zero, suc, Bool, true, false, List, [], ◌∷◌, length, set, get_or, take, Some, refl, sym, ◌∙◌, ap, subst, arith}
use Rattle.std.specs.Prelude.{slice_get, nat_lt, ◌==◌, if◌then◌else◌}
use Rattle.std.proofs.lemmas.List.{length-append, length-take, length-drop, length-set, take-append-drop, take_more_set, drop-set-lt, append_assoc, append-nil, get_or-set_same, length-map, map-set, get_or-map, with_items_is}
use Rattle.std.proofs.Math.Seq.{map-set_same}
use Rattle.std.specs.Vec.{with_items, vec_len}
use Rattle.units.specs.declared.disk.Serial.{Serial}
use Rattle.member_bank.specs.declared.disks.MemDisk.{MemDisk}
use Rattle.std.proofs.lemmas.Option.{slice_get-get_or, same_Some}
use Rattle.std.proofs.lemmas.Grind.{common_steps}
use Rattle.units.specs.declared.disk.Sector.{Sector}
use Rattle.device_log.specs.Cells.{Cell, brought, cell_written}
use Rattle.member_bank.specs.Contents.{Contents, contents_of, overwritten, overwritten_on}

pub length-laid : (disk : List Sector) (place : ℕ) (new : List Sector) → place + length new ≤ length disk → length (overwritten disk place new) ≡ length disk
length-laid disk place new within = simp (length-append, length-take, length-drop) (omega arith)

pub laid_nothing : (disk : List Sector) (place : ℕ) → overwritten disk place [] ≡ disk
laid_nothing disk place =
    let at : place + 0 ≡ place = omega arith in
    rw (at, append-nil (take place disk), take-append-drop place disk) refl

pub laid_more : (disk : List Sector) (place : ℕ) (x : Sector) (xs : List Sector) → place < length disk
    → overwritten disk place (x ∷ xs) ≡ overwritten (set disk place x) (place + 1) xs
laid_more disk place x xs within =
    let far : place < place + 1 + length xs = omega arith in
    let same : place + 1 + length xs ≡ place + length (x ∷ xs) = omega arith in
    rw (take_more_set disk place x within, append_assoc (take place disk) (x ∷ []) xs, drop-set-lt (place + 1 + length xs) disk place x far, same) refl

pub slice_get-set_other : (xs : List Sector) (i p : ℕ) (x : Sector) → p ≢ i → slice_get (set xs i x) p ≡ slice_get xs p
slice_get-set_other [] i p x other = refl
slice_get-set_other (y ∷ ys) zero zero x other = absurd (other refl)
slice_get-set_other (y ∷ ys) zero (suc p) x other = refl
slice_get-set_other (y ∷ ys) (suc i) zero x other = refl
slice_get-set_other (y ∷ ys) (suc i) (suc p) x other =
    let apart : p ≢ i = λ e. other (ap suc e) in
    slice_get-set_other ys i p x apart

pub slice_get-set_same : (xs : List Sector) (i : ℕ) (x : Sector) → i < length xs → slice_get (set xs i x) i ≡ Some x
slice_get-set_same xs i x within =
    let still : i < length (set xs i x) = omega (arith, length-set xs i x) in
    slice_get-get_or (set xs i x) i x still ∙ ap Some (get_or-set_same xs i x x within)

not_brought : (here : Bool) (c : Cell) (x : Sector) → (if here then brought c x false else c).stood ≡ c.stood
not_brought true c x = refl
not_brought false c x = refl

-- a place that has what its cell says has it after one more sector
one_brought : (here : Bool) (c : Cell) (disk : List Sector) (place p : ℕ) (x t : Sector) → (place == p) ≡ here → place < length disk
    → ((u : Sector) → slice_get disk p ≡ Some u → c.stood ≡ u) → slice_get (set disk place x) p ≡ Some t → (if here then brought c x true else c).stood ≡ t
one_brought true c disk place p x t same within was now =
    let at : place ≡ p = grind (arith, common_steps) in
    let there : slice_get (set disk place x) p ≡ Some x = subst (λ (q : ℕ). slice_get (set disk place x) q ≡ Some x) at (slice_get-set_same disk place x within) in
    same_Some x t (sym there ∙ now)
one_brought false c disk place p x t same within was now =
    let apart : p ≢ place = grind (arith, common_steps) in
    was t (sym (slice_get-set_other disk place p x apart) ∙ now)

-- what stands at a place after a write is what the cell says
pub stood_written : (c : Cell) (disk : List Sector) (place : ℕ) (new : List Sector) (stored p : ℕ) (s : Sector) → place + length new ≤ length disk
    → ((u : Sector) → slice_get disk p ≡ Some u → c.stood ≡ u) → slice_get (overwritten disk place (take stored new)) p ≡ Some s → (cell_written c place new stored p).stood ≡ s
stood_written c disk place [] zero p s within was now = was s (rw laid_nothing at now)
stood_written c disk place [] (suc n) p s within was now = was s (rw laid_nothing at now)
stood_written c disk place (x ∷ xs) zero p s within was now =
    let rest : place + 1 + length xs ≤ length disk = omega arith in
    let still : slice_get (overwritten disk (place + 1) []) p ≡ Some s = rw (laid_nothing disk (place + 1)) (rw (laid_nothing disk place) at now) in
    stood_written (if place == p then brought c x false else c) disk (place + 1) xs zero p s rest
    (λ u here. not_brought (place == p) c x ∙ was u here) still
stood_written c disk place (x ∷ xs) (suc n) p s within was now =
    let inside : place < length disk = omega arith in
    let rest : place + 1 + length xs ≤ length (set disk place x) = omega (arith, length-set disk place x) in
    let moved : slice_get (overwritten (set disk place x) (place + 1) (take n xs)) p ≡ Some s = rw (laid_more disk place x (take n xs) inside) at now in
    let less : n ≡ suc n - 1 = omega arith in
    let some : true ≡ nat_lt 0 (suc n) = grind (arith, common_steps) in
    subst (λ (b : Bool). (cell_written (if place == p then brought c x b else c) (place + 1) xs (suc n - 1) p).stood ≡ s) some
    (subst (λ (m : ℕ). (cell_written (if place == p then brought c x true else c) (place + 1) xs m p).stood ≡ s) less
    (stood_written (if place == p then brought c x true else c) (set disk place x) (place + 1) xs n p s rest
    (λ u here. one_brought (place == p) c disk place p x u refl inside was here) moved))

same_contents : (a b : List Serial) (c d : List (List Sector)) → a ≡ b → c ≡ d
    → let left : Contents = record { serials = a; sectors = c } in let right : Contents = record { serials = b; sectors = d } in left ≡ right
same_contents a b c d one two = rw (one, two) refl

-- a disk whose sectors change keeps its serial, and all others stay
pub put_contents : (disks : List MemDisk) (d place : ℕ) (disk : MemDisk) (new from was : List Sector) (old : Contents) → contents_of disks ≡ old → d < length old.sectors
    → disk ≡ get_or disks d disk → was ≡ disk.sectors.items → new ≡ overwritten was place from → length new ≡ vec_len disk.sectors
    → contents_of (set disks d (record { serial = disk.serial; sectors = with_items disk.sectors new })) ≡ record { serials = old.serials; sectors = overwritten_on old.sectors d place from }
put_contents disks d place disk new from was old seen within found same laid_is fits =
    let small : d < length disks = omega (arith, length-map disks (λ (m : MemDisk). m.sectors.items), ap (λ (c : Contents). length c.sectors) seen) in
    let items : (with_items disk.sectors new).items ≡ new = with_items_is disk.sectors new fits in
    let there : get_or (contents_of disks).sectors d [] ≡ disk.sectors.items =
    get_or-map (λ (m : MemDisk). m.sectors.items) disks d disk [] small ∙ ap (λ (m : MemDisk). m.sectors.items) (sym found) in
    let serials : (contents_of (set disks d (record { serial = disk.serial; sectors = with_items disk.sectors new }))).serials ≡ old.serials =
    map-set_same (λ (m : MemDisk). m.serial) disks d (record { serial = disk.serial; sectors = with_items disk.sectors new }) disk (ap (λ (m : MemDisk). m.serial) found) ∙ ap (λ (c : Contents). c.serials) seen in
    let sectors : (contents_of (set disks d (record { serial = disk.serial; sectors = with_items disk.sectors new }))).sectors ≡ overwritten_on old.sectors d place from =
    map-set (λ (m : MemDisk). m.sectors.items) disks d (record { serial = disk.serial; sectors = with_items disk.sectors new })
    ∙ rw (items, laid_is, same, ← there, ← seen) refl in
    same_contents (contents_of (set disks d (record { serial = disk.serial; sectors = with_items disk.sectors new }))).serials old.serials
    (contents_of (set disks d (record { serial = disk.serial; sectors = with_items disk.sectors new }))).sectors (overwritten_on old.sectors d place from) serials sectors
