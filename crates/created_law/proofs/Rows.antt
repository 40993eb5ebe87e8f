-- The rows of a volume are sound where blank sectors stand in them and all slots are in sync.
use Rattle.std.proofs.Common.{◌≡◌, ℕ, zero, suc, ◌+◌, ◌<◌, ◌≤◌, ◌==◌, not, nat_lt, Bool, true, false, cond, if◌then◌else◌, List, [], ◌∷◌, filter, Option, Some, None, refl, sym, ap, ◌∙◌, arith, inl, inr}
use Rattle.std.specs.List.{AllByRecursion, range_with_len}
use Rattle.std.proofs.lemmas.Bool.{cases_lt}
use Rattle.std.proofs.lemmas.Bool.Decides.{nat_tests}
use Rattle.std.proofs.lemmas.List.{get_or_past}
use Rattle.units.specs.declared.disk.Sector.{Sector}
use Rattle.units.specs.declared.volume.Level.{Level}
use Rattle.units.specs.declared.volume.Level.TheVariants.{One, Five, Ten}
use Rattle.units.specs.Levels.{rows_of}
use Rattle.mpb_store.specs.Banks.{blank_sector}
use Rattle.array_model.specs.Blocks.{Laid, Words, SlotWords}
use Rattle.array_model.specs.Placement.{Placement, SlotPair, others}
use Rattle.raid_map.specs.Layouts.{mirror_pair, sector_placement}
use Rattle.raid_map.proofs.Items.{length_others}
use Rattle.raid_map.proofs.Stripes.{lies_at, mirror_is, five_below, ten_pair, rows_hold}
use Rattle.sound_images.specs.Images.{Image}
use Rattle.sound_images.specs.Volumes.{slot_at, AgreesOnVolumes, HasMembers}
use Rattle.sound_images.specs.Rows.{stands_in, xor_in, first_in_sync, slots_read_at, slots_telling_at, given, IsRight}
use Rattle.sound_images.specs.Sound.{SoundRows}
use Rattle.created_law.proofs.Blank.{xor_blank}

all_kept : (P : ℕ → Type 0) (test : ℕ → Bool) (a n : ℕ) → ((k : ℕ) → k < a + n → P k) → AllByRecursion P (filter test (range_with_len a n))
all_kept P test a zero each = tt
all_kept P test a (suc n) each = at (test a) (all_kept P test (a + 1) n (λ k below. each k (omega (arith, below))))
  where
    at : (b : Bool) → AllByRecursion P (filter test (range_with_len (a + 1) n)) → AllByRecursion P (cond b (a ∷ filter test (range_with_len (a + 1) n)) (filter test (range_with_len (a + 1) n)))
    at true more = (each a (omega arith), more)
    at false more = more

module _ (W : Words) (images : List Image) (m : Laid) (v : ℕ) (agrees : AgreesOnVolumes W m) (supported : W.is_supported m v ≡ true)
    (in_sync : (k : ℕ) → k < (W.shape m v).members → (slot_at W m v k).is_in_sync ≡ true)
    (blank : (row slot : ℕ) → row < (W.shape m v).rows → (slot_at W m v slot).is_in_sync ≡ true → stands_in W images m v row slot ≡ blank_sector)
    (rows : (W.shape m v).rows ≡ rows_of (W.shape m v).level (W.shape m v).members (W.shape m v).size (W.shape m v).strip)
    (start : W.pass_start m v ≡ 0) where
  abbrev n : ℕ
  n = (W.shape m v).members

  members : HasMembers (W.shape m v).level n
  members = agrees.members v supported

  -- a slot in sync is one of the members
  below : (slot : ℕ) → (slot_at W m v slot).is_in_sync ≡ true → slot < n
  below slot sync = elim (cases_lt slot n) [
    | inl lt ↦ lt
    | inr past ↦ absurd (
        let out : (slot_at W m v slot).is_in_sync ≡ false = ap (λ (s : SlotWords). s.is_in_sync) (get_or_past (W.slots m v) slot _ (omega (arith, past, agrees.count v supported))) in
        cc (sync, out))
  ]

  -- what stands on one slot, and of two copies the first one's
  one_blank : (row slot : ℕ) → row < (W.shape m v).rows → slot < n → xor_in W images m v row (slot ∷ []) ≡ blank_sector.0
  one_blank row slot lt inside = ap (λ (s : Sector). s.0) (blank row slot lt (in_sync slot inside))

  first_is : (pair : SlotPair) → pair.main < n → first_in_sync W m v pair ≡ pair.main
  first_is pair inside = ap (λ (b : Bool). if b then pair.main else pair.other) (in_sync pair.main inside)

  first_blank : (row : ℕ) (pair : SlotPair) → row < (W.shape m v).rows → pair.main < n → xor_in W images m v row (first_in_sync W m v pair ∷ []) ≡ blank_sector.0
  first_blank row pair lt inside = ap (λ (k : ℕ). xor_in W images m v row (k ∷ [])) (first_is pair inside) ∙ one_blank row pair.main lt inside

  -- the slot of a sector is one of the members, and is the one that is read
  read_blank : (s : ℕ) (lies : Placement) → sector_placement (W.shape m v) s ≡ Some lies → given W images m v lies ≡ blank_sector.0
  read_blank s lies placed = at (W.shape m v).level refl members
    where
      row : lies.row < (W.shape m v).rows
      row = rows_hold (W.shape m v) s lies rows placed

      at : (o : Option Level) → (W.shape m v).level ≡ o → HasMembers o n → xor_in W images m v lies.row (slots_read_at o W m v lies) ≡ blank_sector.0
      at None is none = absurd none
      at (Some One) is two =
          let main : lies.main ≡ 0 = ap (λ (p : Placement). p.main) (mirror_is n (W.shape m v).strip s lies (lies_at (W.shape m v) One s lies is placed)) in
          first_blank lies.row (record { main = lies.main; other = lies.other }) row (omega (arith, main, two))
      at (Some Five) is few =
          let inside = five_below n (W.shape m v).strip s lies (lies_at (W.shape m v) Five s lies is placed) in
          ap (λ (b : Bool). xor_in W images m v lies.row (if b then lies.main ∷ [] else others n lies.main)) (in_sync lies.main inside) ∙ one_blank lies.row lies.main row inside
      at (Some Ten) is four = first_blank lies.row (record { main = lies.main; other = lies.other }) row (elim (ten_pair n (W.shape m v).strip s lies (lies_at (W.shape m v) Ten s lies is placed)) [
        | inl pair ↦ omega (arith, pair.0, four)
        | inr pair ↦ omega (arith, pair.0, four)
      ])

  abbrev first_slot : SlotPair → ℕ
  first_slot pair = pair.main

  main_inside : (slot : ℕ) → slot < n → (mirror_pair slot).main < n
  main_inside slot inside = at (nat_lt slot 2) refl
    where
      at : (b : Bool) → nat_lt slot 2 ≡ b → first_slot (if b then record { main = 0; other = 1 } else record { main = 2; other = 3 }) < n
      at true is = omega (arith, inside)
      at false is = let past : 2 ≤ slot = grind (arith, nat_tests, is) in omega (arith, inside, past)

  -- what those tell that tell what a slot is to hold
  told_blank : (row slot : ℕ) → row < (W.shape m v).rows → slot < n → xor_in W images m v row (slots_telling_at (W.shape m v).level W m v slot) ≡ blank_sector.0
  told_blank row slot lt inside = at (W.shape m v).level members
    where
      at : (o : Option Level) → HasMembers o n → xor_in W images m v row (slots_telling_at o W m v slot) ≡ blank_sector.0
      at None none = absurd none
      at (Some One) two = first_blank row (mirror_pair slot) lt (main_inside slot inside)
      at (Some Five) few =
          xor_blank (stands_in W images m v row) (others n slot) (omega (arith, few, length_others 0 n slot (omega arith) (omega (arith, inside))))
          (all_kept (λ k. stands_in W images m v row k ≡ blank_sector) (λ k. not (k == slot)) 0 n (λ k until. blank row k lt (in_sync k (omega (arith, until)))))
      at (Some Ten) four = first_blank row (mirror_pair slot) lt (main_inside slot inside)

  right : (row slot : ℕ) → row < (W.shape m v).rows → (slot_at W m v slot).is_in_sync ≡ true → IsRight W images m v row slot
  right row slot lt sync = ap (λ (s : Sector). s.0) (blank row slot lt sync) ∙ sym (told_blank row slot lt (below slot sync))

  none_behind : (row : ℕ) → row < W.pass_start m v → ⊥
  none_behind row lt = omega (arith, lt, start)

  pub blank_rows : SoundRows W images (λ v s. blank_sector) (λ v s. false) m v
  blank_rows = record {
    copies = λ s lies placed sure slot copy sync. blank lies.row slot (rows_hold (W.shape m v) s lies rows placed) sync;
    gives = λ s lies placed sure. read_blank s lies placed;
    finished = λ done whole row slot lt sync. right row slot lt sync;
    behind_pass = λ expected row slot lt is. absurd (none_behind row lt);
  }
