-- What the activation of a spare means.
use Rattle.std.proofs.Common.{◌≡◌, ℕ, ◌+◌, ◌<◌, ◌&&◌, ◌⊎◌, not, if◌then◌else◌, Bool, true, false, List, [], ◌∷◌, length, refl, sym, ◌∙◌, ap, subst, inl, inr, arith}
use Rattle.std.proofs.lemmas.Bool.{and_parts}
use Rattle.std.proofs.lemmas.List.{get_or-set_other, length-append}
use Rattle.byteorder.specs.Endian.{little_bytes}
use Rattle.imsm_base.specs.Fields.{Part}
use Rattle.imsm_base.specs.Layout.{Block, Volume, IsVolume, header_lengths, serial_of, disk_count_of, IsBlock}
use Rattle.imsm_base.specs.Volumes.{member, is_expected_at, is_dirty, has_pass}
use Rattle.imsm_base.specs.Whole.{is_expected}
use Rattle.imsm_base.specs.EditsOfTables.{block_with_disk}
use Rattle.imsm_base.proofs.Spliced.{set-lengths}
use Rattle.imsm_base.proofs.Edited.{other_field}
use Rattle.imsm_codec.specs.Mpb.{volume_at}
use Rattle.imsm_edit.specs.Meanings.{with_states}
use Rattle.imsm_edit.specs.Slots.{changed_each}
use Rattle.array_model.specs.Start.{Start}
use Rattle.block_meaning.specs.Meaning.{slot_words}
use Rattle.array_machine.specs.Setting.{Facts, ActivatesDisk, RemovesDisk}
use Rattle.array_machine.specs.EditWords.{KeepsSlot, TakesSlot}
use Rattle.array_edits.specs.Records.{rebuilt, has_slot, has_sectors_for, takes_spare, with_spare}
use Rattle.array_edits.proofs.Steady.{Steady}
use Rattle.array_edits.proofs.Steps.{if_either}
use Rattle.array_edits.proofs.Supports.{Supports, supports, SlotsApart, slots_apart}
use Rattle.array_edits.proofs.Moves.{IsServed, served_moved, steady_at, index_at, slots_at}
use Rattle.array_edits.proofs.Sound.{IsSound, made_sound}
use Rattle.array_edits.proofs.Slots.{slots_by}
use Rattle.array_edits.proofs.Means.{Means}
use Rattle.array_edits.proofs.Marks.{volume_is}
use Rattle.array_edits.proofs.Disks.{serial_at}
use Rattle.array_edits.proofs.Added.{added_before, added_last, added_lengths, added_apart, added_expects, added_own}
use Rattle.array_edits.proofs.Wide.{alike_in}
use Rattle.array_edits.proofs.Spares.{IsLeft, IsTaken, Gives, gives_none, gives_rebuilt, HasRoom, spared, AllGive, spared_at, spared_zip, spared_slot, spared_count, spared_moves}
use Rattle.array_edits.proofs.Idle.{pass_none, kept_zip}

-- THE SLOTS

-- a slot of a supported volume has a record of the table
index_inside : (b : Block) (k s : ℕ) → IsBlock b → IsServed b k → s < slots_at b k → index_at b k s < length b.disks
index_inside b k s is served inside =
    let parts : Supports b k (volume_at k b) = supports b k (volume_at k b) served.supported in
    let apart : SlotsApart b (volume_at k b) = slots_apart b (volume_at k b) parts.slots in
    let low = apart.below s inside in
    omega (arith, is.disk_count)

slot_left : (b : Block) (s : ℕ) (disk : Part) (h : ℕ → Volume → Volume) (v x : Volume) → (member v s).index < length b.disks → IsLeft v x s →
    KeepsSlot (slot_words b (member v s)) (slot_words (spared b disk h) (member x s))
slot_left b s disk h v x low l =
    let c : Block = spared b disk h in
    let expected : is_expected_at c (member x s).index ≡ is_expected_at b (member v s).index = ap (is_expected_at c) l.index ∙ added_before is_expected false b disk (member v s).index low in
    record {
      serial = ap (serial_at c) l.index ∙ added_before serial_of [] b disk (member v s).index low;
      expected = expected;
      in_sync = ap (λ (t : Bool). not (member x s).is_out && t) expected ∙ ap (λ (t : Bool). not t && is_expected_at b (member v s).index) l.out;
    }

slot_after : (f : Facts) (b : Block) (i k s : ℕ) (disk : Part) (h : ℕ → Volume → Volume) (v x : Volume) → is_expected disk ≡ true → (member v s).index < length b.disks → IsLeft v x s ⊎ IsTaken b i (length b.disks) disk v x s →
    KeepsSlot (slot_words b (member v s)) (slot_words (spared b disk h) (member x s)) ⊎ TakesSlot (serial_of disk) i (slot_words b (member v s)) (slot_words (spared b disk h) (member x s))
slot_after f b i k s disk h v x known low (inl l) = inl (slot_left b s disk h v x low l)
slot_after f b i k s disk h v x known low (inr t) =
    let c : Block = spared b disk h in
    inr (record {
      index = t.index;
      failed = ap (is_expected_at b) t.index ∙ t.failed;
      serial = ap (serial_at c) t.new ∙ added_last serial_of [] b disk;
      expected = ap (is_expected_at c) t.new ∙ added_last is_expected false b disk ∙ known;
      in_sync = ap (λ (u : Bool). not u && is_expected_at c (member x s).index) t.out;
    })

-- THE BLOCK

spared_means : (start : Start) (f : Facts) (b : Block) (i : ℕ) (disk : Part) (h : ℕ → Volume → Volume) → IsSound start b → is_expected disk ≡ true → HasRoom b disk → AllGive b i disk h →
    Means start f (ActivatesDisk (serial_of disk) i) b (spared b disk h)
spared_means start f b i disk h s known room gives =
    let c : Block = spared b disk h in
    let bytes : List ℕ = little_bytes 1 (length b.disks + 1) in
    let counted = s.counted in
    let few = room.few in
    let small = room.small in
    let count : disk_count_of c ≡ length b.disks + 1 = spared_count b disk h start s room in
    let zip = spared_zip b i disk h gives in
    let served : (v : ℕ) → IsServed b v → IsServed c v = λ v is.
    served_moved b c v zip (spared_moves start b i disk h v s room gives is.below) is in
    record {
      sound = made_sound start b c s (record {
        header = set-lengths header_lengths b.header 8 bytes s.is.header refl;
        signed = get_or-set_other b.header 8 0 bytes [] (λ e. omega arith);
        volume_count = other_field b 8 9 bytes (λ e. omega arith);
        tail_size = other_field b 8 13 bytes (λ e. omega arith);
        gap = refl;
        tail = refl;
        disks = added_lengths b disk s.is room.lengths;
        disk_count = length-append b.disks (disk ∷ []) ∙ sym count;
        volumes = zip;
      }) (omega (arith, count)) (omega (arith, count, s.is.disk_count)) (omega (arith, count, s.is.disk_count)) (added_apart b disk room.unknown s.apart)
          (λ v started. served v (s.served v started));
      served = served;
      volumes = zip;
      generation = other_field b 8 5 bytes (λ e. omega arith);
      dirty = λ v below. ap is_dirty (spared_at b disk h v below) ∙ (gives v below).dirty;
      past = λ v past. refl;
      expects = λ other. added_expects b disk other known;
      slots = λ v is.
          let steady : Steady (volume_at v b) (volume_at v c) = steady_at b c v zip is.below in
          slots_by f (ActivatesDisk (serial_of disk) i) v b c (volume_at v b) (volume_at v c) steady.first.count
          (λ n inside. slot_after f b i v n disk h (volume_at v b) (volume_at v c) known (index_inside b v n s.is is inside) (spared_slot b i disk h v n gives is.below inside));
      pass = λ v is idle.
          let steady : Steady (volume_at v b) (volume_at v c) = steady_at b c v zip is.below in
          let at : volume_at v c ≡ h v (volume_at v b) = spared_at b disk h v is.below in
          let none = (gives v is.below).idle (ap has_pass (sym at) ∙ idle) in
          let left : (n : ℕ) → n < slots_at b v → IsLeft (volume_at v b) (volume_at v c) n = λ n inside.
          subst (λ (x : Volume). IsLeft (volume_at v b) x n) (sym at) (none.1 n inside) in (
            pass_none (volume_at v b) none.0,
            kept_zip f (serial_of disk) v _ _ (slots_by f (RemovesDisk (serial_of disk)) v b c (volume_at v b) (volume_at v c) steady.first.count
                (λ n inside. slot_left b n disk h (volume_at v b) (volume_at v c) (index_inside b v n s.is is inside) (left n inside))),
          );
      own = added_own b disk known room.unknown;
    }

each_none : (vs : List Volume) → changed_each (λ k v. v) vs ≡ vs
each_none [] = refl
each_none (v ∷ vs) = ap (λ (ws : List Volume). v ∷ ws) (each_none vs)

-- the volumes that take the spare
abbrev taking : Start → Facts → ℕ → Part → Block → ℕ → Volume → Volume
taking start f i disk b k v =
    if takes_spare start.is_started f.is_broken i disk k v then with_states (block_with_disk b disk) false (rebuilt i (length b.disks) v) else v

taking_gives : (start : Start) (f : Facts) (b : Block) (i : ℕ) (disk : Part) → IsSound start b → HasRoom b disk → is_expected_at b i ≡ false → AllGive b i disk (taking start f i disk b)
taking_gives start f b i disk s room failed k below =
    let v : Volume = volume_at k b in
    let n : ℕ = length b.disks in
    let added : Block = block_with_disk b disk in
    let is : IsVolume v = volume_is start b k s below in
    let few = room.few in
    if_either (Gives b i n disk v) (takes_spare start.is_started f.is_broken i disk k v) (with_states added false (rebuilt i n v)) v
    (λ takes.
    let three = and_parts (start.is_started k && not (f.is_broken k) && has_slot i v) (has_sectors_for v disk) takes in
    let two = and_parts (start.is_started k && not (f.is_broken k)) (has_slot i v) three.0 in
    let one = and_parts (start.is_started k) (not (f.is_broken k)) two.0 in
    gives_rebuilt b added i n disk v (omega (arith, s.is.disk_count)) is (alike_in b k v (s.served k one.0).supported) three.1 failed)
    (λ e. gives_none b i n disk v is)

pub activation_means : (start : Start) (f : Facts) (b : Block) (i : ℕ) (disk : Part) → IsSound start b → is_expected disk ≡ true → HasRoom b disk →
    Means start f (ActivatesDisk (serial_of disk) i) b (with_spare start.is_started f.is_broken i disk b)
activation_means start f b i disk s known room = by_expected (is_expected_at b i) refl
  where
    added : Block
    added = block_with_disk b disk

    by_expected : (t : Bool) → is_expected_at b i ≡ t → Means start f (ActivatesDisk (serial_of disk) i) b (if t then added else spared b disk (taking start f i disk b))
    by_expected true e =
        subst (λ (vs : List Volume). Means start f (ActivatesDisk (serial_of disk) i) b (record added { volumes = vs })) (each_none b.volumes)
        (spared_means start f b i disk (λ k v. v) s known room (λ k below. gives_none b i (length b.disks) disk (volume_at k b) (volume_is start b k s below)))
    by_expected false e = spared_means start f b i disk (taking start f i disk b) s known room (taking_gives start f b i disk s room e)
