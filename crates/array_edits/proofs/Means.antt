-- What an edit of the parts of a block means, and the edits that change one volume.
use Rattle.std.proofs.Common.{◌≡◌, ◌≢◌, ℕ, zero, suc, ◌≤◌, ◌<◌, inl, inr, Bool, true, false, List, [], ◌∷◌, length, map, get_or, refl, sym, ◌∙◌, ap, subst, arith, Option, None}
use Rattle.std.specs.Option.{IsSomeAnd}
use Rattle.std.specs.List.{AllByRecursion, AllZip}
use Rattle.std.proofs.lemmas.Bool.{cases_eq}
use Rattle.imsm_base.specs.Layout.{Block, Volume, IsVolume, generation_of, total_blocks_of, member_count_of}
use Rattle.imsm_base.specs.Volumes.{first_map, member, members, has_migration, is_dirty, is_unfinished, has_pass, pass_of}
use Rattle.imsm_base.specs.Whole.{expected_serials, own_record}
use Rattle.imsm_base.specs.EditsOfTables.{changed_at, with_volume}
use Rattle.imsm_codec.specs.Mpb.{volume_at, blank_volume}
use Rattle.imsm_buffer.proofs.Lowered.{at_changed}
use Rattle.array_model.specs.Blocks.{SlotWords}
use Rattle.array_model.specs.Start.{Start}
use Rattle.block_meaning.specs.Meaning.{has_serial, slot_words}
use Rattle.array_machine.specs.Setting.{Facts, Edit}
use Rattle.array_machine.specs.EditWords.{generation_after, dirty_after, expects_after, SlotAfter, SlotsAfter, HasNoPass}
use Rattle.array_edits.proofs.Steady.{Steady, steady_itself}
use Rattle.array_edits.proofs.Moves.{IsServed, moves_none, served_moved, index_at, slots_at}
use Rattle.array_edits.proofs.Sound.{IsSound, made_sound}
use Rattle.array_edits.proofs.Slots.{slots_by}
use Rattle.array_edits.proofs.Idle.{words_of, pass_none}

-- an expected disk keeps a record that asks for no more sectors than so many
abbrev pub KeepsOwn : Block → Block → Type 0
KeepsOwn b c =
    (serial : List ℕ) (n : ℕ) → has_serial (expected_serials c) serial ≡ true → IsSomeAnd (own_record serial b) (λ d. total_blocks_of d ≤ n)
    → IsSomeAnd (own_record serial c) (λ d. total_blocks_of d ≤ n)

pub record Means (start : Start) (f : Facts) (e : Edit) (b c : Block) : Type 0 where
  pub sound : IsSound start c
  pub volumes : AllZip Steady b.volumes c.volumes
  pub generation : generation_of c ≡ generation_after e (generation_of b)
  pub dirty : (v : ℕ) → v < length b.volumes → is_dirty (volume_at v c) ≡ dirty_after e v (is_unfinished (volume_at v b)) (is_dirty (volume_at v b))
  pub past : (v : ℕ) → length b.volumes ≤ v → dirty_after e v false false ≡ false
  pub expects : (serial : List ℕ) → has_serial (expected_serials c) serial ≡ expects_after e serial (has_serial (expected_serials b) serial)
  pub served : (v : ℕ) → IsServed b v → IsServed c v
  pub slots : (v : ℕ) → IsServed b v → SlotsAfter f e v (map (slot_words b) (members (volume_at v b))) (map (slot_words c) (members (volume_at v c)))
  pub pass : (v : ℕ) → IsServed b v → has_pass (volume_at v c) ≡ false → HasNoPass e v (pass_of (volume_at v b)) (words_of b (volume_at v b)) (words_of c (volume_at v c))
  pub own : KeepsOwn b c

-- ONE VOLUME

pub at_other : {A : Type 0} (k : ℕ) (g : A → A) (xs : List A) (v : ℕ) (d : A) → v ≢ k → get_or (changed_at k g xs) v d ≡ get_or xs v d
at_other k g [] v d other = refl
at_other zero g (x ∷ xs) zero d other = absurd (other refl)
at_other zero g (x ∷ xs) (suc v) d other = refl
at_other (suc k) g (x ∷ xs) zero d other = refl
at_other (suc k) g (x ∷ xs) (suc v) d other = at_other k g xs v d (λ e. other (ap suc e))

steady_changed : (k : ℕ) (g : Volume → Volume) (vs : List Volume) → AllByRecursion IsVolume vs → (k < length vs → Steady (get_or vs k blank_volume) (g (get_or vs k blank_volume))) → AllZip Steady vs (changed_at k g vs)
steady_changed k g [] all here = tt
steady_changed zero g (v ∷ vs) all here = (here (omega arith), rest vs all.1)
  where
    rest : (ws : List Volume) → AllByRecursion IsVolume ws → AllZip Steady ws ws
    rest [] each = tt
    rest (w ∷ ws) each = (steady_itself w each.0, rest ws each.1)
steady_changed (suc k) g (v ∷ vs) all here = (steady_itself v all.0, steady_changed k g vs all.1 (λ below. here (omega arith)))

-- an edit that changes volume k alone does there what its name says, and elsewhere nothing
pub record AtVolume (f : Facts) (e : Edit) (b : Block) (k : ℕ) (g : Volume → Volume) : Type 0 where
  pub below : k < length b.volumes
  pub steady : Steady (volume_at k b) (g (volume_at k b))
  pub migration : has_migration (volume_at k b) ≡ true → has_migration (g (volume_at k b)) ≡ true
  pub index : (s : ℕ) → s < slots_at b k → (member (g (volume_at k b)) s).index ≡ index_at b k s
  pub slot : (s : ℕ) → s < slots_at b k → SlotAfter f e k (slot_words b (member (volume_at k b) s)) (slot_words b (member (g (volume_at k b)) s))
  pub pass : has_pass (g (volume_at k b)) ≡ false → HasNoPass e k (pass_of (volume_at k b)) (words_of b (volume_at k b)) (words_of b (g (volume_at k b)))
  pub dirty : is_dirty (g (volume_at k b)) ≡ dirty_after e k (is_unfinished (volume_at k b)) (is_dirty (volume_at k b))
  pub generation : (n : ℕ) → generation_after e n ≡ n
  pub expects : (serial : List ℕ) (y : Bool) → expects_after e serial y ≡ y
  pub other_slot : (v : ℕ) → v ≢ k → (w : SlotWords) → SlotAfter f e v w w
  pub other_pass : (v : ℕ) → v ≢ k → (was : Option ℕ) (ws : List SlotWords) → was ≡ None → HasNoPass e v was ws ws
  pub other_dirty : (v : ℕ) → v ≢ k → (u y : Bool) → dirty_after e v u y ≡ y

-- by whether a volume is the one
by_case : (k v : ℕ) (P : Type 0) → (v ≡ k → P) → (v ≢ k → P) → P
by_case k v P here other = elim (cases_eq v k) [
  | inl same ↦ here same
  | inr apart ↦ other apart
]

pub one_volume : (start : Start) (f : Facts) (e : Edit) (b : Block) (k : ℕ) (g : Volume → Volume) → IsSound start b → AtVolume f e b k g → Means start f e b (with_volume k g b)
one_volume start f e b k g s a =
    let c : Block = with_volume k g b in
    let counted = s.counted in
    let bounds = s.bounds in
    let zip : AllZip Steady b.volumes c.volumes = steady_changed k g b.volumes s.is.volumes (λ below. a.steady) in
    let here : volume_at k c ≡ g (volume_at k b) = at_changed k g b.volumes blank_volume a.below in
    let there : (v : ℕ) → v ≢ k → volume_at v c ≡ volume_at v b = λ v other. at_other k g b.volumes v blank_volume other in
    let index : (o i : ℕ) → o < length b.volumes → i < slots_at b o → index_at c o i ≡ index_at b o i = λ o i below inside.
    by_case k o (index_at c o i ≡ index_at b o i)
    (λ same. subst (λ (w : ℕ). (i < slots_at b w) → index_at c w i ≡ index_at b w i) (sym same) (λ within. ap (λ (x : Volume). (member x i).index) here ∙ a.index i within) inside)
    (λ other. ap (λ (x : Volume). (member x i).index) (there o other)) in
    let migration : (v : ℕ) → has_migration (volume_at v b) ≡ true → has_migration (volume_at v c) ≡ true = λ v good.
    by_case k v (has_migration (volume_at v c) ≡ true)
    (λ same. ap (λ (w : ℕ). has_migration (volume_at w c)) same ∙ ap has_migration here ∙ a.migration (ap (λ (w : ℕ). has_migration (volume_at w b)) (sym same) ∙ good))
    (λ other. ap has_migration (there v other) ∙ good) in
    let served : (v : ℕ) → IsServed b v → IsServed c v = λ v is.
    served_moved b c v zip (moves_none b c v is.below refl (λ i n has. has) index (migration v)) is in
    record {
      sound = made_sound start b c s (record {
        header = s.is.header;
        signed = refl;
        volume_count = refl;
        tail_size = refl;
        gap = refl;
        tail = refl;
        disks = s.is.disks;
        disk_count = s.is.disk_count;
        volumes = zip;
      }) counted.some_disk counted.few_disks (omega arith) s.apart
          (λ v started. served v (s.served v started));
      served = served;
      volumes = zip;
      generation = sym (a.generation (generation_of b));
      dirty = λ v below. by_case k v (is_dirty (volume_at v c) ≡ dirty_after e v (is_unfinished (volume_at v b)) (is_dirty (volume_at v b)))
          (λ same. subst (λ (w : ℕ). is_dirty (volume_at w c) ≡ dirty_after e w (is_unfinished (volume_at w b)) (is_dirty (volume_at w b))) (sym same) (ap is_dirty here ∙ a.dirty))
          (λ other. ap is_dirty (there v other) ∙ sym (a.other_dirty v other (is_unfinished (volume_at v b)) (is_dirty (volume_at v b))));
      past = λ v past. let below = a.below in a.other_dirty v (λ same. omega arith) false false;
      expects = λ serial. sym (a.expects serial (has_serial (expected_serials b) serial));
      slots = λ v is. by_case k v (SlotsAfter f e v (map (slot_words b) (members (volume_at v b))) (map (slot_words c) (members (volume_at v c))))
          (λ same. subst (λ (w : ℕ). SlotsAfter f e w (map (slot_words b) (members (volume_at w b))) (map (slot_words c) (members (volume_at w c)))) (sym same)
          (slots_by f e k b c (volume_at k b) (volume_at k c) (ap (λ (x : Volume). member_count_of (first_map x)) here ∙ a.steady.first.count)
          (λ i inside. subst (λ (x : Volume). SlotAfter f e k (slot_words b (member (volume_at k b) i)) (slot_words b (member x i))) (sym here) (a.slot i inside))))
          (λ other. slots_by f e v b c (volume_at v b) (volume_at v c) (ap (λ (x : Volume). member_count_of (first_map x)) (there v other))
          (λ i inside. subst (λ (x : Volume). SlotAfter f e v (slot_words b (member (volume_at v b) i)) (slot_words b (member x i))) (sym (there v other)) (a.other_slot v other (slot_words b (member (volume_at v b) i)))));
      pass = λ v is none. by_case k v (HasNoPass e v (pass_of (volume_at v b)) (words_of b (volume_at v b)) (words_of c (volume_at v c)))
          (λ same. subst (λ (w : ℕ). HasNoPass e w (pass_of (volume_at w b)) (words_of b (volume_at w b)) (words_of c (volume_at w c))) (sym same)
          (subst (λ (x : Volume). HasNoPass e k (pass_of (volume_at k b)) (words_of b (volume_at k b)) (words_of b x)) (sym here)
          (a.pass (ap has_pass (sym here) ∙ ap (λ (w : ℕ). has_pass (volume_at w c)) (sym same) ∙ none))))
          (λ other. subst (λ (x : Volume). HasNoPass e v (pass_of (volume_at v b)) (words_of b (volume_at v b)) (words_of b x)) (sym (there v other))
          (a.other_pass v other (pass_of (volume_at v b)) (words_of b (volume_at v b)) (pass_none (volume_at v b) (ap has_pass (sym (there v other)) ∙ none))));
      own = λ serial n expected own. own;
    }
