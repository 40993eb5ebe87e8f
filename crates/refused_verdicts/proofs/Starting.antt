-- Whether a volume starts is told by its words; and one that is torn doesn't.
use Rattle.std.proofs.Common.{◌≡◌, ◌<◌, ◌^◌, ℕ, Bool, true, false, not, ◌&&◌, ◌||◌, List, [], ◌∷◌, ◌⊎◌, inl, inr, map, drop, bytes_eq, Option, Some, refl, sym, ◌∙◌, ap}
use Rattle.std.specs.Prelude.{Contains, codes, slice_get, slice_index_or}
use Rattle.std.specs.List.{list_any}
use Rattle.std.specs.Option.{option_map_or}
use Rattle.std.proofs.lemmas.Bool.{false≢true}
use Rattle.std.proofs.lemmas.Fmt.{decimal_injective}
use Rattle.std.proofs.lemmas.Slice.Eq.{bytes_eq-Decides}
use Rattle.units.specs.declared.volume.Level.{Level}
use Rattle.units.specs.declared.volume.Level.TheVariants.{Five}
use Rattle.imsm_base.specs.Fields.{Part}
use Rattle.imsm_base.specs.Layout.{Block, Volume, serial_of}
use Rattle.imsm_base.specs.Volumes.{Member, is_degraded as degraded_by, is_expected_at, is_in_sync, is_unfinished, members, volume_level}
use Rattle.imsm_base.specs.Whole.{is_expected}
use Rattle.container.specs.declared.missing.Missing.{Missing}
use Rattle.container.specs.declared.volume.VolumeVerdict.{VolumeVerdict}
use Rattle.container.specs.declared.volume.VolumeVerdict.TheVariants.{Unsupported, Broken, Unfinished, Degraded, Started}
use Rattle.container.specs.Volumes.{IsVolumeVerdict, can_run, counted, counted_out, is_degraded, is_listed, is_listed_as, pass_from, starts, verdict_by, verdict_with, wants_pass}
use Rattle.imsm_base.specs.Volumes.{pass_start}
use Rattle.verdict_text.specs.Lines.{volume_words}
use Rattle.verdict_lines_law.specs.Words.{volume_says}
use Rattle.refused_verdicts.proofs.Places.{in_cons, in_nil}

-- WORDS

abbrev starting : List (List ℕ) → Bool
starting words = bytes_eq (slice_index_or words 0 []) (codes "degraded") || bytes_eq (slice_index_or words 0 []) (codes "started")

start_told : (v : VolumeVerdict) → starting (volume_words v) ≡ starts v
start_told (Unsupported fault) = refl
start_told Broken = refl
start_told Unfinished = refl
start_told (Degraded pass) = refl
start_told (Started pass) = refl

pub same_start : (i k : ℕ) (v w : VolumeVerdict) → volume_says i v ≡ volume_says k w → starts w ≡ true → starts v ≡ true
same_start i k v w same is = sym (start_told v) ∙ ap (λ (ws : List (List ℕ)). starting (drop 2 ws)) same ∙ start_told w ∙ is

pub same_number : (i k : ℕ) (v w : VolumeVerdict) → i < 2 ^ 64 → k < 2 ^ 64 → volume_says i v ≡ volume_says k w → i ≡ k
same_number i k v w i_below k_below same = decimal_injective i k i_below k_below (ap (λ (ws : List (List ℕ)). slice_index_or ws 1 []) same)

-- LISTS

pub any_in : {X : Type 0} (p : X → Bool) (xs : List X) (x : X) → Contains xs x → p x ≡ true → list_any p xs ≡ true
any_in p [] x there is = absurd (in_nil x there)
any_in {X} p (y ∷ xs) x there is = at (in_cons y xs x there) (λ more. any_in p xs x more is) where
  either : (a b : Bool) → b ≡ true → (a || b) ≡ true
  either true b is = refl
  either false b is = is

  at : (y ≡ x) ⊎ Contains xs x → (Contains xs x → list_any p xs ≡ true) → (p y || list_any p xs) ≡ true
  at (inl same) more = ap (λ (t : Bool). t || list_any p xs) (ap p same ∙ is)
  at (inr behind) more = either (p y) (list_any p xs) (more behind)

any_mapped : {X Y : Type 0} (p : X → Bool) (q : Y → Bool) (f : X → Y) (xs : List X) → ((x : X) → p x ≡ true → q (f x) ≡ true) → list_any p xs ≡ true → list_any q (map f xs) ≡ true
any_mapped p q f [] goes is = is
any_mapped {X} {Y} p q f (x ∷ xs) goes is = at (p x) refl is (λ more. any_mapped p q f xs goes more) where
  either : (a b : Bool) → b ≡ true → (a || b) ≡ true
  either true b is = refl
  either false b is = is

  at : (t : Bool) → p x ≡ t → (t || list_any p xs) ≡ true → (list_any p xs ≡ true → list_any q (map f xs) ≡ true) → (q (f x) || list_any q (map f xs)) ≡ true
  at true here is more = ap (λ (t : Bool). t || list_any q (map f xs)) (goes x here)
  at false here is more = either (q (f x)) (list_any q (map f xs)) (more is)

any_at : {X Y : Type 0} (q : Y → Bool) (f : X → Y) (xs : List X) (x : X) → Contains xs x → q (f x) ≡ true → list_any q (map f xs) ≡ true
any_at q f [] x there is = absurd (in_nil x there)
any_at {X} {Y} q f (y ∷ xs) x there is = at (in_cons y xs x there) (λ more. any_at q f xs x more is) where
  either : (a b : Bool) → b ≡ true → (a || b) ≡ true
  either true b is = refl
  either false b is = is

  at : (y ≡ x) ⊎ Contains xs x → (Contains xs x → list_any q (map f xs) ≡ true) → (q (f y) || list_any q (map f xs)) ≡ true
  at (inl same) more = ap (λ (t : Bool). t || list_any q (map f xs)) (ap (λ (z : X). q (f z)) same ∙ is)
  at (inr behind) more = either (q (f y)) (list_any q (map f xs)) (more behind)

-- DEGRADED

still_out : (gone listed expected : Bool) → not (not gone && expected) ≡ true → not (not (gone || listed) && expected) ≡ true
still_out true listed expected is = refl
still_out false true expected is = refl
still_out false false expected is = is

now_out : (gone listed expected : Bool) → listed ≡ true → not (not (gone || listed) && expected) ≡ true
now_out true listed expected is = refl
now_out false true expected is = refl
now_out false false expected is = absurd (false≢true is)

pub degraded_still : (b : Block) (v : Volume) (out : ℕ → Bool) → degraded_by b v ≡ true → is_degraded b (counted out v) ≡ true
degraded_still b v out is =
    any_mapped (λ m. not (is_in_sync b m)) (λ m. not (is_in_sync b m)) (counted_out out) (members v) (λ m gone. still_out m.is_out (out m.index) (is_expected_at b m.index) gone) is

pub degraded_now : (b : Block) (v : Volume) (out : ℕ → Bool) (m : Member) → Contains (members v) m → out m.index ≡ true → is_degraded b (counted out v) ≡ true
degraded_now b v out m there is =
    any_at (λ m. not (is_in_sync b m)) (counted_out out) (members v) m there (now_out m.is_out (out m.index) (is_expected_at b m.index) is)

-- the disk of a record that is listed counts out
pub listed_out : (b : Block) (list : List Missing) (i : ℕ) (entry : Part) (m : Missing) → slice_get b.disks i ≡ Some entry → is_expected entry ≡ true → Contains list m → m.serial.0 ≡ serial_of entry
    → is_listed b list i ≡ true
listed_out b list i entry m at expected there named =
    ap (λ (o : Option Part). option_map_or (is_listed_as list) o false) at
    ∙ ap (λ (t : Bool). t && list_any (λ (x : Missing). bytes_eq x.serial.0 (serial_of entry)) list) expected
    ∙ any_in (λ (x : Missing). bytes_eq x.serial.0 (serial_of entry)) list m there ((bytes_eq-Decides m.serial.0 (serial_of entry)).1 named)

-- TORN

torn_by : (runs : Bool) (pass : Option ℕ) → starts (verdict_by runs true true (Some Five) pass) ≡ false
torn_by true pass = refl
torn_by false pass = refl

pub torn_stays : (b : Block) (v : Volume) (slots : List Member) → volume_level v ≡ Some Five → is_unfinished v ≡ true → is_degraded b slots ≡ true → starts (verdict_with b v slots) ≡ false
torn_stays b v slots level unfinished degraded =
    let pass = pass_from (wants_pass b v slots) (pass_start v) in
    ap (λ (l : Option Level). starts (verdict_by (can_run b v slots) (is_unfinished v) (is_degraded b slots) l pass)) level
    ∙ ap (λ (t : Bool). starts (verdict_by (can_run b v slots) t (is_degraded b slots) (Some Five) pass)) unfinished
    ∙ ap (λ (t : Bool). starts (verdict_by (can_run b v slots) true t (Some Five) pass)) degraded
    ∙ torn_by (can_run b v slots) pass

-- where members are out or their disks listed, the verdict on a torn volume is no start
pub torn_refused : (b : Block) (out : ℕ → Bool) (k : ℕ) (v : Volume) (says : VolumeVerdict) → volume_level v ≡ Some Five → is_unfinished v ≡ true → is_degraded b (counted out v) ≡ true
    → IsVolumeVerdict b out k v says → starts says ≡ true → ⊥
torn_refused b out k v says level unfinished degraded (inl (fault, has, is)) start = false≢true (sym (ap starts is) ∙ start)
torn_refused b out k v says level unfinished degraded (inr (none, is)) start = false≢true (sym (ap starts is ∙ torn_stays b v (counted out v) level unfinished degraded) ∙ start)
