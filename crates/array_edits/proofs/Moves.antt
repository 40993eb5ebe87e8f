-- A started volume stays supported where its slots keep records of the table that have its sectors, and no slot comes to
-- share a record with one that it didn't share it with.
use Rattle.std.proofs.Common.{◌≡◌, ℕ, ◌+◌, ◌<◌, ◌==◌, ◌&&◌, ◌||◌, max, not, Bool, true, false, length, Option, None, refl, sym, ◌∙◌, ap, subst, arith}
use Rattle.std.specs.Prelude.{nat_lt, is_none}
use Rattle.std.specs.Option.{option_map_or}
use Rattle.std.specs.List.{list_any, AllZip}
use Rattle.std.proofs.lemmas.Bool.{and_parts, and_from, eqb-true, eq-eqb, false≢true}
use Rattle.std.proofs.lemmas.List.Elements.{AllZip-get_or, length_all_zip}
use Rattle.std.proofs.lemmas.List.Folds.{list_any_at}
use Rattle.std.proofs.lemmas.Option.{slice_get-get_or}
use Rattle.imsm_base.specs.Layout.{Block, Volume, disk_count_of, volume_size_of, pba_of, blocks_per_member_of, strip_of, level_byte_of, member_count_of}
use Rattle.imsm_base.specs.Volumes.{Member, first_map, member, members, volume_level, level_of, has_migration, has_sectors, has_index, do_meet, is_over, overlaps, volume_fault}
use Rattle.units.specs.Levels.{rows_of}
use Rattle.imsm_codec.specs.Mpb.{volume_at, blank_volume}
use Rattle.imsm_view.proofs.Members.{length_members, member_here, find_none, find_none_each, blank}
use Rattle.array_edits.proofs.Steady.{Steady}
use Rattle.array_edits.proofs.Supports.{Passes, any_some, Supports, supports, no_fault, SlotsApart, slots_apart, no_bad_slot, is_sized, sized_volume, needed, Fits, fits, good_geometry}

-- the index of a slot of a volume of a block, and how many slots it has
abbrev pub index_at : Block → ℕ → ℕ → ℕ
index_at b k s = (member (volume_at k b) s).index

abbrev pub slots_at : Block → ℕ → ℕ
slots_at b k = member_count_of (first_map (volume_at k b))

-- what an edit of a block leaves of the slots of volume k
pub record MovesAt (b c : Block) (k : ℕ) : Type 0 where
  pub migration : has_migration (volume_at k b) ≡ true → has_migration (volume_at k c) ≡ true
  pub bound : (s : ℕ) → s < slots_at b k → index_at b k s < disk_count_of b → index_at c k s < disk_count_of c
  pub sectors : (s : ℕ) → s < slots_at b k → has_sectors b (needed (volume_at k b)) (member (volume_at k b) s) ≡ true
      → has_sectors c (needed (volume_at k b)) (member (volume_at k c) s) ≡ true
  pub apart : (o s t : ℕ) → o < length b.volumes → s < slots_at b k → t < slots_at b o → index_at c k s ≡ index_at c o t → index_at b k s ≡ index_at b o t

-- a volume that is there and supported
pub record IsServed (b : Block) (k : ℕ) : Type 0 where
  pub below : k < length b.volumes
  pub supported : volume_fault b k (volume_at k b) ≡ None

pub steady_at : (b c : Block) (k : ℕ) → AllZip Steady b.volumes c.volumes → k < length b.volumes → Steady (volume_at k b) (volume_at k c)
steady_at b c k zip below = AllZip-get_or Steady b.volumes c.volumes k blank_volume blank_volume zip below

-- WORDS OF A STEADY VOLUME

pub level_same : (v x : Volume) → Steady v x → volume_level x ≡ volume_level v
level_same v x st =
    ap (λ (n : ℕ). level_of n (member_count_of (first_map x))) st.first.level ∙ ap (level_of (level_byte_of (first_map v))) st.first.count

pub sized_same : (v x : Volume) → Steady v x → sized_volume x ≡ sized_volume v
sized_same v x st =
    ap (λ (n : ℕ). is_sized n (level_byte_of (first_map x)) (member_count_of (first_map x)) (strip_of (first_map x)) (blocks_per_member_of (first_map x))) st.size
    ∙ ap (λ (n : ℕ). is_sized (volume_size_of v) n (member_count_of (first_map x)) (strip_of (first_map x)) (blocks_per_member_of (first_map x))) st.first.level
    ∙ ap (λ (n : ℕ). is_sized (volume_size_of v) (level_byte_of (first_map v)) n (strip_of (first_map x)) (blocks_per_member_of (first_map x))) st.first.count
    ∙ ap (λ (n : ℕ). is_sized (volume_size_of v) (level_byte_of (first_map v)) (member_count_of (first_map v)) n (blocks_per_member_of (first_map x))) st.first.strip
    ∙ ap (is_sized (volume_size_of v) (level_byte_of (first_map v)) (member_count_of (first_map v)) (strip_of (first_map v))) st.first.blocks

abbrev needed_by : (pba size level count strip : ℕ) → ℕ
needed_by pba size level count strip = pba + rows_of (level_of level count) count size strip + 18

pub needed_same : (v x : Volume) → Steady v x → needed x ≡ needed v
needed_same v x st =
    ap (λ (n : ℕ). needed_by n (volume_size_of x) (level_byte_of (first_map x)) (member_count_of (first_map x)) (strip_of (first_map x))) st.first.pba
    ∙ ap (λ (n : ℕ). needed_by (pba_of (first_map v)) n (level_byte_of (first_map x)) (member_count_of (first_map x)) (strip_of (first_map x))) st.size
    ∙ ap (λ (n : ℕ). needed_by (pba_of (first_map v)) (volume_size_of v) n (member_count_of (first_map x)) (strip_of (first_map x))) st.first.level
    ∙ ap (λ (n : ℕ). needed_by (pba_of (first_map v)) (volume_size_of v) (level_byte_of (first_map v)) n (strip_of (first_map x))) st.first.count
    ∙ ap (needed_by (pba_of (first_map v)) (volume_size_of v) (level_byte_of (first_map v)) (member_count_of (first_map v))) st.first.strip

abbrev meet_by : (p n q m : ℕ) → Bool
meet_by p n q m = nat_lt (max p q) (p + n) && nat_lt (max p q) (q + m)

meet_same : (v x w y : Volume) → Steady v x → Steady w y → do_meet (first_map x) (first_map y) ≡ do_meet (first_map v) (first_map w)
meet_same v x w y a b =
    ap (λ (n : ℕ). meet_by n (blocks_per_member_of (first_map x)) (pba_of (first_map y)) (blocks_per_member_of (first_map y))) a.first.pba
    ∙ ap (λ (n : ℕ). meet_by (pba_of (first_map v)) n (pba_of (first_map y)) (blocks_per_member_of (first_map y))) a.first.blocks
    ∙ ap (λ (n : ℕ). meet_by (pba_of (first_map v)) (blocks_per_member_of (first_map v)) n (blocks_per_member_of (first_map y))) b.first.pba
    ∙ ap (meet_by (pba_of (first_map v)) (blocks_per_member_of (first_map v)) (pba_of (first_map w))) b.first.blocks

-- ANOTHER VOLUME

-- two slots of one record
pub record Shares (v w : Volume) : Type 0 where
  pub slot : ℕ
  pub other : ℕ
  pub inside : slot < member_count_of (first_map v)
  pub within : other < member_count_of (first_map w)
  pub same : (member v slot).index ≡ (member w other).index

shares : (v w : Volume) → list_any (has_index w) (members v) ≡ true → Shares v w
shares v w e =
    let p : Passes (has_index w) (members v) blank = any_some (has_index w) (members v) blank e in
    let inside : p.at < member_count_of (first_map v) = omega (arith, length_members v, p.below) in
    let here : has_index w (member v p.at) ≡ true = sym (ap (has_index w) (member_here v p.at blank inside)) ∙ p.passes in
    let q : Passes (λ (o : Member). o.index == (member v p.at).index) (members w) blank = any_some (λ o. o.index == (member v p.at).index) (members w) blank here in
    let within : q.at < member_count_of (first_map w) = omega (arith, length_members w, q.below) in
    record {
      slot = p.at;
      other = q.at;
      inside = inside;
      within = within;
      same = sym (eqb-true _ _ (sym (ap (λ (o : Member). o.index == (member v p.at).index) (member_here w q.at blank within)) ∙ q.passes));
    }

pub any_index : (i : ℕ) (w : Volume) (t : ℕ) → t < member_count_of (first_map w) → (member w t).index ≡ i → list_any (λ (o : Member). o.index == i) (members w) ≡ true
any_index i w t within same =
    list_any_at (λ (o : Member). o.index == i) (members w) t blank (omega (arith, length_members w))
    (ap (λ (o : Member). o.index == i) (member_here w t blank within) ∙ eq-eqb _ _ same)

shared : (v w : Volume) (s t : ℕ) → s < member_count_of (first_map v) → t < member_count_of (first_map w) → (member v s).index ≡ (member w t).index → list_any (has_index w) (members v) ≡ true
shared v w s t inside within same =
    list_any_at (has_index w) (members v) s blank (omega (arith, length_members v))
    (ap (has_index w) (member_here v s blank inside) ∙ any_index (member v s).index w t within (sym same))

-- one test follows from another
not_over : (n t u : Bool) → (n && u) ≡ false → (t ≡ true → u ≡ true) → (n && t) ≡ false
not_over false t u e f = refl
not_over true false u e f = refl
not_over true true u e f = absurd (false≢true (sym e ∙ f refl))

over_before : (v x w y : Volume) → Steady v x → Steady w y →
    ((s t : ℕ) → s < member_count_of (first_map v) → t < member_count_of (first_map w) → (member x s).index ≡ (member y t).index → (member v s).index ≡ (member w t).index) →
    is_over x y ≡ true → is_over v w ≡ true
over_before v x w y a b apart over =
    let parts = and_parts (list_any (has_index y) (members x)) (do_meet (first_map x) (first_map y)) over in
    let two : Shares x y = shares x y parts.0 in
    let inside : two.slot < member_count_of (first_map v) = subst (λ (n : ℕ). two.slot < n) a.first.count two.inside in
    let within : two.other < member_count_of (first_map w) = subst (λ (n : ℕ). two.other < n) b.first.count two.within in
    and_from _ _ (shared v w two.slot two.other inside within (apart two.slot two.other inside within two.same))
    (sym (meet_same v x w y a b) ∙ parts.1)

over_at : (b : Block) (k o : ℕ) (v : Volume) → o < length b.volumes → overlaps b k v o ≡ (not (o == k) && is_over v (volume_at o b))
over_at b k o v below = ap (λ (w : Option Volume). not (o == k) && option_map_or (is_over v) w false) (slice_get-get_or b.volumes o blank_volume below)

-- ALL OF IT

pub supports_moved : (b c : Block) (k : ℕ) → AllZip Steady b.volumes c.volumes → k < length b.volumes → MovesAt b c k → Supports b k (volume_at k b) → Supports c k (volume_at k c)
supports_moved b c k zip below moves s =
    let v : Volume = volume_at k b in
    let x : Volume = volume_at k c in
    let st : Steady v x = steady_at b c k zip below in
    let a : SlotsApart b v = slots_apart b v s.slots in
    let f : Fits b v = fits b v s.geometry in
    let count : length b.volumes ≡ length c.volumes = length_all_zip Steady b.volumes c.volumes zip in
    let slots : member_count_of (first_map x) ≡ member_count_of (first_map v) = st.first.count in
    record {
      level = ap is_none (level_same v x st) ∙ s.level;
      policy = ap (λ (n : ℕ). n == 0 || n == 5) st.policy ∙ s.policy;
      migration = moves.migration s.migration;
      slots = no_bad_slot c x (record {
        below = λ i inside. moves.bound i (omega (arith, slots)) (a.below i (omega (arith, slots)));
        apart = λ i j before inside same. a.apart i j before (omega (arith, slots)) (moves.apart k i j below (omega (arith, slots)) (omega (arith, slots)) same);
      });
      geometry = good_geometry c x (record {
        sized = sized_same v x st ∙ f.sized;
        sectors = λ i inside. ap (λ (n : ℕ). has_sectors c n (member x i)) (needed_same v x st) ∙ moves.sectors i (omega (arith, slots)) (f.sectors i (omega (arith, slots)));
        alike = st.alike f.alike;
      });
      over = find_none (overlaps c k x) (length c.volumes) (λ o there.
          let within : o < length b.volumes = omega (arith, count) in
          over_at c k o x there
          ∙ not_over (not (o == k)) (is_over x (volume_at o c)) (is_over v (volume_at o b))
          (sym (over_at b k o v within) ∙ find_none_each (overlaps b k v) (length b.volumes) o s.over within)
          (over_before v x (volume_at o b) (volume_at o c) st (steady_at b c o zip within) (λ i j inside other same. moves.apart o i j within inside other same)));
    }

pub served_moved : (b c : Block) (k : ℕ) → AllZip Steady b.volumes c.volumes → MovesAt b c k → IsServed b k → IsServed c k
served_moved b c k zip moves s =
    let within = s.below in
    record {
      below = omega (arith, length_all_zip Steady b.volumes c.volumes zip);
      supported = no_fault c k (volume_at k c) (supports_moved b c k zip s.below moves (supports b k (volume_at k b) s.supported));
    }

-- WHERE SLOTS KEEP THEIR INDICES

-- a record of each index has the sectors that it had
abbrev pub SameSectors : Block → Block → Type 0
SameSectors b c =
    (i n : ℕ) → has_sectors b n (record { index = i; is_out = false }) ≡ true → has_sectors c n (record { index = i; is_out = false }) ≡ true

pub moves_none : (b c : Block) (k : ℕ) → k < length b.volumes → disk_count_of c ≡ disk_count_of b → SameSectors b c →
    ((o s : ℕ) → o < length b.volumes → s < slots_at b o → index_at c o s ≡ index_at b o s) → (has_migration (volume_at k b) ≡ true → has_migration (volume_at k c) ≡ true) → MovesAt b c k
moves_none b c k below count sectors same migration = record {
  migration = migration;
  bound = λ s inside low. subst (λ (n : ℕ). n < disk_count_of c) (sym (same k s below inside)) (omega (arith, count));
  sectors = λ s inside has.
      ap (λ (i : ℕ). has_sectors c (needed (volume_at k b)) (record { index = i; is_out = false })) (same k s below inside)
      ∙ sectors (index_at b k s) (needed (volume_at k b)) has;
  apart = λ o s t there inside within e. sym (same k s below inside) ∙ e ∙ same o t there within;
}
