-- What a block says but for its generation and its dirty bits doesn't rest on them.
use Rattle.std.proofs.Common.{◌≡◌, ℕ, zero, suc, ◌+◌, ◌*◌, ◌/◌, ◌<◌, ◌==◌, ◌&&◌, ◌||◌, not, Bool, true, false, cond, if◌then◌else◌, List, [], ◌∷◌, length, get_or, Option, Some, None, refl, ◌∙◌, ap, arith}
use Rattle.std.specs.Prelude.{find, is_none, slice_get}
use Rattle.std.specs.List.{list_any, range_with_len, AllByRecursion}
use Rattle.std.specs.Option.{option_map, option_map_or}
use Rattle.std.specs.Int.{bit_at}
use Rattle.std.proofs.lemmas.List.{get_or-set_same}
use Rattle.byteorder.specs.Endian.{little_bytes}
use Rattle.imsm_base.specs.Fields.{Part, number}
use Rattle.imsm_base.specs.Layout.{Block, Volume, IsVolume, state_lengths, disk_count_of, dirty_byte_of, level_byte_of, member_count_of, policy_of}
use Rattle.imsm_base.specs.Volumes.{Fault, first_map, members, slots_of, is_dirty, has_policy, has_geometry, volume_level, is_bad_slot, is_over, overlaps, geometry_fault, volume_fault, bad_slot, pass_of}
use Rattle.imsm_base.specs.Volumes.Fault.{BadLevel, BadPolicy, BadMigration, BadGeometry, Overlaps}
use Rattle.imsm_base.specs.Edits.{with_lowest_bit, volume_with_dirty, volumes_with_dirty}
use Rattle.imsm_base.proofs.Edited.{fields_of, other_state, length-volumes_with_dirty}

-- A word of a volume that doesn't rest on the dirty byte. Where the block's own words differ, so do the functions.
get-same : {X : Type 0} (f g : Volume → X) (none : X) (vs : List Volume) (v : ℕ) → ((x : Volume) → f x ≡ g x) → option_map_or f (slice_get vs v) none ≡ option_map_or g (slice_get vs v) none
get-same f g none [] v same = refl
get-same f g none (x ∷ xs) zero same = same x
get-same f g none (x ∷ xs) (suc v) same = get-same f g none xs v same

pub get-dirty : {X : Type 0} (y : Bool) (f g : Volume → X) (none : X) (vs : List Volume) (v : ℕ) → ((x : Volume) → f (volume_with_dirty y x) ≡ g x) → ((x : Volume) → f x ≡ g x) →
    option_map_or f (slice_get (volumes_with_dirty 0 y vs) v) none ≡ option_map_or g (slice_get vs v) none
get-dirty y f g none [] v first same = refl
get-dirty y f g none (x ∷ xs) zero first same = first x
get-dirty y f g none (x ∷ xs) (suc v) first same = get-same f g none xs v same

-- THE PASS

pub pass-dirty : (y : Bool) (x : Volume) → pass_of (volume_with_dirty y x) ≡ pass_of x
pass-dirty y x =
    ap (λ (n : ℕ). if not (n == 0) then Some (number (get_or (volume_with_dirty y x).state 3 [])) else None) (other_state y x 2 (λ e. omega arith))
    ∙ ap (λ (n : ℕ). if not (number (get_or x.state 2 []) == 0) then Some n else None) (other_state y x 3 (λ e. omega arith))

-- THE FAULT

-- a volume with another state
abbrev with_state : Part → Volume → Volume
with_state s x = record { device = x.device; state = s; maps = x.maps }

-- a block of other header and other dirty bits
abbrev pub block_like : Part → Bool → Block → Block
block_like h y b = record { header = h; disks = b.disks; volumes = volumes_with_dirty 0 y b.volumes; gap = b.gap; tail = b.tail }

find-same : (p q : ℕ → Bool) (xs : List ℕ) → ((n : ℕ) → p n ≡ q n) → find p xs ≡ find q xs
find-same p q [] same = refl
find-same p q (x ∷ xs) same =
    ap (λ (b : Bool). cond b (Some x) (find p xs)) (same x) ∙ ap (cond (q x) (Some x)) (find-same p q xs same)

overlaps-same : (h : Part) (y : Bool) (b : Block) (k : ℕ) (s : Part) (x : Volume) (other : ℕ) → overlaps (block_like h y b) k (with_state s x) other ≡ overlaps b k x other
overlaps-same h y b k s x other =
    ap (λ (t : Bool). not (other == k) && t) (get-dirty y (is_over (with_state s x)) (is_over x) false b.volumes other (λ o. refl) (λ o. refl))

geometry-same : (h : Part) (y : Bool) (b : Block) (k : ℕ) (s : Part) (x : Volume) (o : Option ℕ) → geometry_fault (block_like h y b) k (with_state s x) o ≡ geometry_fault b k x o
geometry-same h y b k s x (Some slot) = refl
geometry-same h y b k s x None =
    ap (λ (f : Option ℕ). if not (has_geometry b x) then Some BadGeometry else option_map (λ o. Overlaps o) f) (
    find-same (overlaps (block_like h y b) k (with_state s x)) (overlaps b k x) (range_with_len 0 (length (volumes_with_dirty 0 y b.volumes))) (overlaps-same h y b k s x)
    ∙ ap (λ (n : ℕ). find (overlaps b k x) (range_with_len 0 n)) (length-volumes_with_dirty 0 y b.volumes)
    )

slot-same : (h : Part) (y : Bool) (b : Block) (s : Part) (x : Volume) → number (get_or h 8 []) ≡ disk_count_of b → bad_slot (block_like h y b) (with_state s x) ≡ bad_slot b x
slot-same h y b s x count =
    find-same (is_bad_slot (block_like h y b) (members x)) (is_bad_slot b (members x)) (slots_of x) (λ slot. same slot)
  where
    same : (slot : ℕ) → is_bad_slot (block_like h y b) (members x) slot ≡ is_bad_slot b (members x) slot
    same slot = rw count refl

-- the fault, by what it reads of the state
abbrev faulted : Block → ℕ → Volume → (migration type : ℕ) → Option Fault → Option Fault
faulted b k x migration type last =
    if is_none (volume_level x) then Some (BadLevel (level_byte_of (first_map x)) (member_count_of (first_map x)))
    else (if not (has_policy x) then Some (BadPolicy (policy_of x))
    else (if not (not (not (migration == 0)) || (not (migration == 0) && list_any (λ t. t == type) (0 ∷ 1 ∷ 2 ∷ 5 ∷ []))) then Some (BadMigration type)
    else last))

pub fault-same : (h : Part) (y : Bool) (b : Block) (k : ℕ) (s : Part) (x : Volume) → number (get_or h 8 []) ≡ disk_count_of b →
    number (get_or s 2 []) ≡ number (get_or x.state 2 []) → number (get_or s 3 []) ≡ number (get_or x.state 3 []) →
    volume_fault (block_like h y b) k (with_state s x) ≡ volume_fault b k x
fault-same h y b k s x count migration type =
    let before : Option Fault = geometry_fault (block_like h y b) k (with_state s x) (bad_slot (block_like h y b) (with_state s x)) in
    let last : before ≡ geometry_fault b k x (bad_slot b x) =
    geometry-same h y b k s x (bad_slot (block_like h y b) (with_state s x)) ∙ ap (geometry_fault b k x) (slot-same h y b s x count) in
    ap (λ (n : ℕ). faulted b k x n (number (get_or s 3 [])) before) migration
    ∙ ap (λ (n : ℕ). faulted b k x (number (get_or x.state 2 [])) n before) type
    ∙ ap (faulted b k x (number (get_or x.state 2 [])) (number (get_or x.state 3 []))) last

pub fault-dirty : (h : Part) (y : Bool) (b : Block) (k : ℕ) (x : Volume) → number (get_or h 8 []) ≡ disk_count_of b → volume_fault (block_like h y b) k (volume_with_dirty y x) ≡ volume_fault b k x
fault-dirty h y b k x count = fault-same h y b k (volume_with_dirty y x).state x count (other_state y x 2 (λ e. omega arith)) (other_state y x 3 (λ e. omega arith))

pub fault-other : (h : Part) (y : Bool) (b : Block) (k : ℕ) (x : Volume) → number (get_or h 8 []) ≡ disk_count_of b → volume_fault (block_like h y b) k x ≡ volume_fault b k x
fault-other h y b k x count = fault-same h y b k x.state x count refl refl

-- THE DIRTY BIT

lowest : (n bit : ℕ) → bit < 2 → bit_at (number (little_bytes 1 (n / 2 * 2 + bit))) 0 ≡ bit
lowest n bit small = omega arith

bit-is : (y : Bool) (n : ℕ) → (bit_at (number (little_bytes 1 (with_lowest_bit n y))) 0 == 1) ≡ y
bit-is true n = ap (λ (i : ℕ). i == 1) (lowest n 1 (omega arith))
bit-is false n = ap (λ (i : ℕ). i == 1) (lowest n 0 (omega arith))

dirty-is : (y : Bool) (x : Volume) → IsVolume x → is_dirty (volume_with_dirty y x) ≡ y
dirty-is y x is =
    let count : length x.state ≡ 10 = fields_of state_lengths x.state is.state in
    ap (λ (f : List ℕ). bit_at (number f) 0 == 1) (get_or-set_same x.state 4 (little_bytes 1 (with_lowest_bit (dirty_byte_of x) y)) [] (omega arith))
    ∙ bit-is y (dirty_byte_of x)

pub first-dirty : (y : Bool) (vs : List Volume) → AllByRecursion IsVolume vs → 0 < length vs → option_map_or is_dirty (slice_get (volumes_with_dirty 0 y vs) 0) false ≡ y
first-dirty y [] all below = absurd (omega arith)
first-dirty y (x ∷ xs) all below = dirty-is y x all.0
