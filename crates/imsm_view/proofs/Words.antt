-- What a view answers are the words of its volume.
use Rattle.std.proofs.Common.{◌≡◌, ℕ, ◌*◌, ◌<◌, ◌==◌, ◌&&◌, ◌||◌, not, Bool, true, false, if◌then◌else◌, List, [], ◌∷◌, length, map, Option, Some, None, refl, sym, ◌∙◌, ap, arith}
use Rattle.std.specs.Prelude.{nat_le, slice_get}
use Rattle.std.specs.Option.{option_map_or}
use Rattle.std.specs.List.{list_any}
use Rattle.std.proofs.lemmas.List.{length-map, get_or-map}
use Rattle.std.proofs.lemmas.Option.{slice_get-get_or}
use Rattle.imsm_base.specs.Layout.{Block, Volume, member_count_of, migration_type_of, map_state_of, unit_of, checkpoint_of}
use Rattle.imsm_base.specs.Volumes.{Member, first_map, member, members, has_pass, is_dirty, volume_level, volume_rows}
use Rattle.units.specs.Levels.{suffices}
use Rattle.imsm_base.specs.Volumes as word
use Rattle.imsm_view.specs.declared.volume.Volume.{Volume as View}
use Rattle.imsm_view.specs.declared.volume.SlotView.{SlotView}
use Rattle.imsm_view.specs.Views.{IsVolume, slot_view}
use Rattle.imsm_view.specs.Questions.{is_slot_in_sync, is_in_sync_at, is_resync, is_unfinished, can_run, pass_start, HasWords}
use Rattle.imsm_view.proofs.Members.{length_members, member_here}

pub list_any-map : {X Y : Type 0} (p : Y → Bool) (h : X → Y) (xs : List X) → list_any p (map h xs) ≡ list_any (λ x. p (h x)) xs
list_any-map p h [] = refl
list_any-map p h (x ∷ xs) = ap (λ (t : Bool). p (h x) || t) (list_any-map p h xs)

map_twice : {X Y Z : Type 0} (g : Y → Z) (h : X → Y) (xs : List X) → map g (map h xs) ≡ map (λ x. g (h x)) xs
map_twice g h [] = refl
map_twice g h (x ∷ xs) = ap (λ (t : List _). g (h x) ∷ t) (map_twice g h xs)

open_pass : (p : Bool) (f : ℕ → Bool) (t : ℕ) → option_map_or f (if p then Some t else None) false ≡ (p && f t)
open_pass true f t = refl
open_pass false f t = refl

of_pass : (b : Block) (v : Volume) (view : View) (f : ℕ → Bool) → IsVolume b v view → option_map_or f view.pass false ≡ (has_pass v && f (migration_type_of v))
of_pass b v view f is = ap (λ (o : Option ℕ). option_map_or f o false) is.pass ∙ open_pass (has_pass v) f (migration_type_of v)

of_slots : (b : Block) (v : Volume) (view : View) (p : SlotView → Bool) → IsVolume b v view → list_any p view.slots.items ≡ list_any (λ m. p (slot_view b m)) (members v)
of_slots b v view p is = ap (list_any p) is.slots ∙ list_any-map p (slot_view b) (members v)

blank : Member
blank = record { index = 0; is_out = false }

in_sync_word : (b : Block) (v : Volume) (view : View) → IsVolume b v view → (slot : ℕ) → slot < member_count_of (first_map v) → is_in_sync_at view slot ≡ word.is_in_sync b (member v slot)
in_sync_word b v view is slot below =
    let len = length_members v in
    let there : slot < length (members v) = omega arith in
    let mapped : length (map (slot_view b) (members v)) ≡ length (members v) = length-map (members v) (slot_view b) in
    ap (λ (ss : List SlotView). option_map_or is_slot_in_sync (slice_get ss slot) false) is.slots
    ∙ ap (λ (o : Option SlotView). option_map_or is_slot_in_sync o false) (slice_get-get_or (map (slot_view b) (members v)) slot (slot_view b blank) (omega arith))
    ∙ ap is_slot_in_sync (get_or-map (slot_view b) (members v) slot blank (slot_view b blank) there)
    ∙ ap (λ (m : Member). word.is_in_sync b m) (member_here v slot blank below)

unfinished_word : (b : Block) (v : Volume) (view : View) → IsVolume b v view → is_unfinished view ≡ word.is_unfinished v
unfinished_word b v view is =
    ap (λ (d : Bool). d || view.state == 1 || option_map_or is_resync view.pass false) is.dirty
    ∙ ap (λ (s : ℕ). is_dirty v || s == 1 || option_map_or is_resync view.pass false) is.state
    ∙ ap (λ (t : Bool). is_dirty v || map_state_of (first_map v) == 1 || t) (of_pass b v view is_resync is)

runs_word : (b : Block) (v : Volume) (view : View) → IsVolume b v view → can_run view ≡ word.can_run b v
runs_word b v view is =
    ap (λ (l : Option _). suffices l (map is_slot_in_sync view.slots.items) && not (view.state == 3)) (sym is.geometry.level)
    ∙ ap (λ (ss : List SlotView). suffices (volume_level v) (map is_slot_in_sync ss) && not (view.state == 3)) is.slots
    ∙ ap (λ (ts : List Bool). suffices (volume_level v) ts && not (view.state == 3)) (map_twice is_slot_in_sync (slot_view b) (members v))
    ∙ ap (λ (s : ℕ). suffices (volume_level v) (map (word.is_in_sync b) (members v)) && not (s == 3)) is.state

start_by : (p h : Bool) (unit rows : ℕ) (p2 h2 : Bool) (unit2 rows2 : ℕ) → p ≡ p2 → h ≡ h2 → unit ≡ unit2 → rows ≡ rows2 →
    (if p && h && nat_le (unit * 128) rows then unit * 128 else 0) ≡ (if p2 && h2 && nat_le (unit2 * 128) rows2 then unit2 * 128 else 0)
start_by p h unit rows p2 h2 unit2 rows2 ep eh eu er =
    ap (λ (x : Bool). if x && h && nat_le (unit * 128) rows then unit * 128 else 0) ep
    ∙ ap (λ (x : Bool). if p2 && x && nat_le (unit * 128) rows then unit * 128 else 0) eh
    ∙ ap (λ (x : ℕ). if p2 && h2 && nat_le (x * 128) rows then x * 128 else 0) eu
    ∙ ap (λ (x : ℕ). if p2 && h2 && nat_le (unit2 * 128) x then unit2 * 128 else 0) er

start_word : (b : Block) (v : Volume) (view : View) → IsVolume b v view → pass_start view ≡ word.pass_start v
start_word b v view is =
    start_by (option_map_or (λ t. not (t == 2)) view.pass false) (view.checkpoint == 0x494d0001 && not view.dirty) view.unit view.geometry.rows
    (has_pass v && not (migration_type_of v == 2)) (word.is_honoured v) (unit_of v) (volume_rows v)
    (of_pass b v view (λ t. not (t == 2)) is)
    (ap (λ (n : ℕ). n == 0x494d0001 && not view.dirty) is.checkpoint ∙ ap (λ (d : Bool). checkpoint_of v == 0x494d0001 && not d) is.dirty)
    is.unit is.geometry.rows

pub words_from : (b : Block) (v : Volume) (view : View) → IsVolume b v view → HasWords b v view
words_from b v view is = record {
  in_sync = in_sync_word b v view is;
  unfinished = unfinished_word b v view is;
  degraded = of_slots b v view (λ s. not (is_slot_in_sync s)) is;
  runs = runs_word b v view is;
  start = start_word b v view is;
  wants = ap (λ (t : Bool). t || list_any (λ s. s.out && s.expected) view.slots.items) (unfinished_word b v view is)
      ∙ ap (λ (t : Bool). word.is_unfinished v || t) (of_slots b v view (λ s. s.out && s.expected) is);
}
