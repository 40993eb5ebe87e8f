-- A verdict on disks is one on others that were seen alike, but for the room of their blocks.
use Rattle.std.proofs.Common.{◌≡◌, ◌≢◌, ◌<◌, ◌≤◌, ◌==◌, ℕ, zero, suc, Bool, cond, List, [], ◌∷◌, ◌++◌, length, take, Option, Some, None, inl, inr, refl, sym, ◌∙◌, ap, subst}
use Rattle.std.specs.Prelude.{Contains, slice_get, ⊤}
use Rattle.std.specs.List.{AllByRecursion}
use Rattle.std.specs.Option.{IsSomeAnd}
use Rattle.std.proofs.lemmas.List.Elements.{All-contains, All-from_recursion}
use Rattle.units.specs.declared.disk.DiskNo.{DiskNo}
use Rattle.units.specs.declared.disk.Serial.{Serial}
use Rattle.imsm_base.specs.Fields.{Part}
use Rattle.imsm_base.specs.Layout.{Block, serial_of, total_blocks_of, volume_count_of}
use Rattle.imsm_base.specs.Parts.{block_in}
use Rattle.mpb_store.specs.declared.answer.Found.{Found}
use Rattle.mpb_store.specs.declared.answer.Found.TheVariants as found
use Rattle.mpb_store.specs.declared.answer.StoreFault.{StoreFault}
use Rattle.mpb_store.specs.declared.answer.StoreFault.TheVariants.{Mpb, NoOwn, Small}
use Rattle.generation_pick.specs.declared.found.Pick.{Pick}
use Rattle.container.specs.declared.missing.Lack.{Lack}
use Rattle.container.specs.declared.missing.Lack.TheVariants as lack
use Rattle.container.specs.declared.missing.Missing.{Missing}
use Rattle.container.specs.declared.role.DiskRole.{DiskRole}
use Rattle.container.specs.declared.role.DiskRole.TheVariants as role
use Rattle.container.specs.declared.seen.Seen.{Seen}
use Rattle.container.specs.declared.seen.SeenAs.{SeenAs}
use Rattle.container.specs.declared.seen.SeenAs.TheVariants.{Whole, Blank, Torn, Unread}
use Rattle.container.specs.declared.verdict.Verdict.{Verdict}
use Rattle.container.specs.declared.verdict.Verdict.TheVariants.{Refused, Large, GenerationEnd, Waiting, Ready}
use Rattle.container.specs.Lacking.{AreMissing, IsGood, IsMissing, IsServed, IsTooSmall, Lacks}
use Rattle.container.specs.Roles.{AreRoles, Expects, HasNone, IsFirst, IsRole, IsRoleBy, Names}
use Rattle.container.specs.Seen.{Container, HasDisk, IsContainer, IsSpare, container_by, containers_of}
use Rattle.container.specs.Verdicts.{IsNewest, IsVerdict, IsVerdictBy}
use Rattle.assembly.specs.Seen.{bytes_of, found_of}
use Rattle.refused_verdicts.proofs.Later.{all_there}
use Rattle.refused_verdicts.proofs.Newest.{as_unread, as_whole}
use Rattle.refused_verdicts.proofs.Places.{at_contains, at_place}

-- ALIKE

-- but for their numbers
pub record AreAlike (s t : Seen) : Type 0 where
  pub serial : s.serial ≡ t.serial
  pub sectors : s.sectors ≡ t.sectors
  pub found : found_of s.holds ≡ found_of t.holds
  pub bytes : bytes_of s.holds ≡ bytes_of t.holds

-- one after the other, with their numbers
abbrev pub AllAlike : List Seen → List Seen → Type 0
AllAlike [] [] = ⊤
AllAlike [] (t ∷ others) = ⊥
AllAlike (s ∷ seen) [] = ⊥
AllAlike (s ∷ seen) (t ∷ others) = ((s.disk ≡ t.disk) × AreAlike s t) × AllAlike seen others

as_blank : (holds : SeenAs) → found_of holds ≡ found.Blank → holds ≡ Blank
as_blank (Whole block) is = absurd (cc is)
as_blank Blank is = refl
as_blank (Torn fault) is = absurd (cc is)
as_blank Unread is = absurd (cc is)

as_torn : (holds : SeenAs) (fault : StoreFault) → found_of holds ≡ found.Torn fault → holds ≡ Torn fault
as_torn (Whole block) fault is = absurd (cc is)
as_torn Blank fault is = absurd (cc is)
as_torn (Torn other) fault is = ap Torn (let same : found.Torn other ≡ found.Torn fault = is in cc same)
as_torn Unread fault is = absurd (cc is)

-- what the blocks of containers are by
abbrev block_by : ℕ → Found → List ℕ → List Container
block_by d found.Whole bytes = cond (volume_count_of (block_in bytes) == 0) [] (record { disk = d; bytes = bytes } ∷ [])
block_by d found.Blank bytes = []
block_by d (found.Torn fault) bytes = []
block_by d found.Unread bytes = []

block_is : (d : ℕ) (holds : SeenAs) → container_by d holds ≡ block_by d (found_of holds) (bytes_of holds)
block_is d (Whole block) = refl
block_is d Blank = refl
block_is d (Torn fault) = refl
block_is d Unread = refl

same_block : (s t : Seen) → s.disk ≡ t.disk → AreAlike s t → container_by s.disk.0 s.holds ≡ container_by t.disk.0 t.holds
same_block s t disk like =
    block_is s.disk.0 s.holds
    ∙ ap (λ (d : DiskNo). block_by d.0 (found_of s.holds) (bytes_of s.holds)) disk
    ∙ ap (λ (f : Found). block_by t.disk.0 f (bytes_of s.holds)) like.found
    ∙ ap (block_by t.disk.0 (found_of t.holds)) like.bytes
    ∙ sym (block_is t.disk.0 t.holds)

same_blocks : (seen others : List Seen) → AllAlike seen others → containers_of seen ≡ containers_of others
same_blocks [] [] like = refl
same_blocks [] (t ∷ others) like = absurd like
same_blocks (s ∷ seen) [] like = absurd like
same_blocks (s ∷ seen) (t ∷ others) like =
    ap (λ (l : List Container). l ++ containers_of seen) (same_block s t like.0.0 like.0.1) ∙ ap (λ (l : List Container). container_by t.disk.0 t.holds ++ l) (same_blocks seen others like.1)

module _ (s t : Seen) (like : AreAlike s t) where
  pub container_moves : IsContainer s.holds → IsContainer t.holds
  container_moves c =
      let whole = as_whole t.holds (sym like.found ∙ ap found_of c.whole) in
      record {
        block = whole.0;
        whole = whole.1;
        volume = subst (λ (b : List ℕ). 0 < volume_count_of (block_in b)) (sym (ap bytes_of c.whole) ∙ like.bytes ∙ ap bytes_of whole.1) c.volume;
      }

  spare_moves : IsSpare s.holds → IsSpare t.holds
  spare_moves c =
      let whole = as_whole t.holds (sym like.found ∙ ap found_of c.whole) in
      record {
        block = whole.0;
        whole = whole.1;
        none = subst (λ (b : List ℕ). volume_count_of (block_in b) ≡ 0) (sym (ap bytes_of c.whole) ∙ like.bytes ∙ ap bytes_of whole.1) c.none;
      }

  blank_moves : s.holds ≡ Blank → t.holds ≡ Blank
  blank_moves is = as_blank t.holds (sym like.found ∙ ap found_of is)

  torn_moves : (fault : StoreFault) → s.holds ≡ Torn fault → t.holds ≡ Torn fault
  torn_moves fault is = as_torn t.holds fault (sym like.found ∙ ap found_of is)

  unread_moves : s.holds ≡ Unread → t.holds ≡ Unread
  unread_moves is = as_unread t.holds (sym like.found ∙ ap found_of is)

  good_moves : (entry : Part) → IsGood entry s → IsGood entry t
  good_moves entry good = record { container = container_moves good.container; large = subst (λ (n : ℕ). total_blocks_of entry ≤ n) like.sectors good.large }

  small_moves : (entry : Part) (fault : StoreFault) → IsTooSmall entry s fault → IsTooSmall entry t fault
  small_moves entry (Mpb e) small = small
  small_moves entry NoOwn small = small
  small_moves entry (Small named has) small = record { container = container_moves small.container; named_is = small.named_is; has_is = small.has_is ∙ like.sectors; less = small.less }

  role_by_moves : (r : DiskRole) → IsRoleBy s.holds r → IsRoleBy t.holds r
  role_by_moves (role.Member i) is = is
  role_by_moves (role.Failed i) is = is
  role_by_moves role.Spare is = spare_moves is
  role_by_moves role.Stranger is = container_moves is
  role_by_moves role.Blank is = blank_moves is
  role_by_moves (role.Torn fault) is = torn_moves fault is
  role_by_moves role.Unread is = unread_moves is

  unnamed_moves : (b : Block) → HasNone (Names s.serial.0) b.disks → HasNone (Names t.serial.0) b.disks
  unnamed_moves b none = subst (λ (x : Serial). HasNone (Names x.0) b.disks) like.serial none

  pub role_moves : (b : Block) (r : DiskRole) → IsRole b s r → IsRole b t r
  role_moves b (role.Member i) is = subst (λ (x : Serial). IsFirst (Expects x.0) b.disks i) like.serial is
  role_moves b (role.Failed i) is = (subst (λ (x : Serial). HasNone (Expects x.0) b.disks) like.serial is.0, subst (λ (x : Serial). IsFirst (Names x.0) b.disks i) like.serial is.1)
  role_moves b role.Spare is = (unnamed_moves b is.0, role_by_moves role.Spare is.1)
  role_moves b role.Stranger is = (unnamed_moves b is.0, role_by_moves role.Stranger is.1)
  role_moves b role.Blank is = (unnamed_moves b is.0, role_by_moves role.Blank is.1)
  role_moves b (role.Torn fault) is = (unnamed_moves b is.0, role_by_moves (role.Torn fault) is.1)
  role_moves b role.Unread is = (unnamed_moves b is.0, role_by_moves role.Unread is.1)

-- DISKS

pub alike_front : (n : ℕ) (seen others : List Seen) → AllAlike seen others → AllAlike (take n seen) (take n others)
alike_front zero seen others like = tt
alike_front (suc n) [] [] like = tt
alike_front (suc n) [] (t ∷ others) like = absurd like
alike_front (suc n) (s ∷ seen) [] like = absurd like
alike_front (suc n) (s ∷ seen) (t ∷ others) like = (like.0, alike_front n seen others like.1)

alike_at : (seen others : List Seen) → AllAlike seen others → (k : ℕ) (s : Seen) → slice_get seen k ≡ Some s → (t : Seen) × (slice_get others k ≡ Some t) × AreAlike s t
alike_at [] others like k s at = absurd (cc at)
alike_at (x ∷ seen) [] like k s at = absurd like
alike_at (x ∷ seen) (y ∷ others) like zero s at = let same : x ≡ s = cc at in (y, refl, subst (λ (z : Seen). AreAlike z y) same like.0.1)
alike_at (x ∷ seen) (y ∷ others) like (suc k) s at = alike_at seen others like.1 k s at

alike_back : (seen others : List Seen) → AllAlike seen others → (k : ℕ) (t : Seen) → slice_get others k ≡ Some t → (s : Seen) × (slice_get seen k ≡ Some s) × AreAlike s t
alike_back [] [] like k t at = absurd (cc at)
alike_back [] (y ∷ others) like k t at = absurd like
alike_back (x ∷ seen) [] like k t at = absurd like
alike_back (x ∷ seen) (y ∷ others) like zero t at = let same : y ≡ t = cc at in (x, refl, subst (AreAlike x) same like.0.1)
alike_back (x ∷ seen) (y ∷ others) like (suc k) t at = alike_back seen others like.1 k t at

alike_count : (seen others : List Seen) → AllAlike seen others → length seen ≡ length others
alike_count [] [] like = refl
alike_count [] (y ∷ others) like = absurd like
alike_count (x ∷ seen) [] like = absurd like
alike_count (x ∷ seen) (y ∷ others) like = ap suc (alike_count seen others like.1)

-- DISKS THAT LACK

-- whatever their order
module _ (seen others : List Seen) (forth : (s : Seen) → Contains seen s → (t : Seen) × Contains others t × AreAlike s t) (back : (t : Seen) → Contains others t → (s : Seen) × Contains seen s × AreAlike s t) where
  has_moves : (serial : List ℕ) (P Q : Seen → Type 0) → ((s t : Seen) → AreAlike s t → P s → Q t) → HasDisk seen serial P → HasDisk others serial Q
  has_moves serial P Q goes has =
      let t = forth has.disk has.there in
      record { disk = t.0; there = t.1; named = sym (ap (λ (x : Serial). x.0) t.2.serial) ∙ has.named; holds = goes has.disk t.0 t.2 has.holds }

  absent_moves : (serial : List ℕ) → AllByRecursion (λ (s : Seen). s.serial.0 ≢ serial) seen → AllByRecursion (λ (s : Seen). s.serial.0 ≢ serial) others
  absent_moves serial none =
      all_there (λ (s : Seen). s.serial.0 ≢ serial) others (λ t there.
      let s = back t there in
      subst (λ (z : Serial). z.0 ≢ serial) s.2.serial (All-contains (λ (x : Seen). x.serial.0 ≢ serial) seen s.0 (All-from_recursion (λ (x : Seen). x.serial.0 ≢ serial) seen none) s.1))

  served_moves : (entry : Part) → IsServed seen entry → IsServed others entry
  served_moves entry (inl out) = inl out
  served_moves entry (inr good) = inr (has_moves (serial_of entry) (IsGood entry) (IsGood entry) (λ s t alike is. good_moves s t alike entry is) good)

  lacks_move : (entry : Part) (cause : Lack) → Lacks seen entry cause → Lacks others entry cause
  lacks_move entry lack.Absent is = absent_moves (serial_of entry) is
  lacks_move entry lack.Blank is = has_moves (serial_of entry) (λ s. s.holds ≡ Blank) (λ s. s.holds ≡ Blank) blank_moves is
  lacks_move entry lack.Spare is = has_moves (serial_of entry) (λ s. IsSpare s.holds) (λ s. IsSpare s.holds) spare_moves is
  lacks_move entry lack.Unread is = has_moves (serial_of entry) (λ s. s.holds ≡ Unread) (λ s. s.holds ≡ Unread) unread_moves is
  lacks_move entry (lack.Torn fault) is =
      has_moves (serial_of entry) _ _ (λ s t alike torn. elim torn [
        | inl holds ↦ inl (torn_moves s t alike fault holds)
        | inr small ↦ inr (small_moves s t alike entry fault small)
      ]) is

  lacking_moves : (entry : Part) (m : Missing) → IsMissing seen entry m → IsMissing others entry m
  lacking_moves entry m is = record { expected = is.expected; serial = is.serial; cause = lacks_move entry m.cause is.cause }

  pub missing_move : (disks : List Part) (list : List Missing) → AreMissing seen disks list → AreMissing others disks list
  missing_move [] [] are = tt
  missing_move [] (m ∷ list) are = are
  missing_move (d ∷ disks) [] are = (served_moves d are.0, missing_move disks [] are.1)
  missing_move (d ∷ disks) (m ∷ list) (inl (served, rest)) = inl (served_moves d served, missing_move disks (m ∷ list) rest)
  missing_move (d ∷ disks) (m ∷ list) (inr (lacks, rest)) = inr (lacking_moves d m lacks, missing_move disks list rest)

-- VERDICTS

module _ (seen others : List Seen) (like : AllAlike seen others) where
  forth : (s : Seen) → Contains seen s → (t : Seen) × Contains others t × AreAlike s t
  forth s there = let k = at_place seen s there in let t = alike_at seen others like k.0 s k.1 in (t.0, at_contains others k.0 t.0 t.1, t.2)

  back : (t : Seen) → Contains others t → (s : Seen) × Contains seen s × AreAlike s t
  back t there = let k = at_place others t there in let s = alike_back seen others like k.0 t k.1 in (s.0, at_contains seen k.0 s.0 s.1, s.2)

  some_moves : (o : Option DiskRole) (b : Block) (s t : Seen) → AreAlike s t → IsSomeAnd o (IsRole b s) → IsSomeAnd o (IsRole b t)
  some_moves None b s t alike is = is
  some_moves (Some r) b s t alike is = role_moves s t alike b r is

  roles_move : (b : Block) (roles : List DiskRole) → AreRoles b seen roles → AreRoles b others roles
  roles_move b roles are = record {
    count = are.count ∙ alike_count seen others like;
    each = λ k t at. let s = alike_back seen others like k t at in some_moves (slice_get roles k) b s.0 t s.2 (are.each k s.0 s.1);
  }

  by_moves : (bytes : List ℕ) (p : Pick) (run : Bool) (missing : List Missing) (v : Verdict) → IsVerdictBy bytes p seen run missing v → IsVerdictBy bytes p others run missing v
  by_moves bytes p run missing (Refused fault) is = is
  by_moves bytes p run missing (Large f g size) is = is
  by_moves bytes p run missing (GenerationEnd f g) is = is
  by_moves bytes p run missing (Waiting f g list) is = is
  by_moves bytes p run missing (Ready o) is =
      (is.0, is.1, record { book = is.2.book; family = is.2.family; generation = is.2.generation; volumes = is.2.volumes; disks = roles_move (block_in bytes) o.disks.items is.2.disks })

  newest_moves : (p : Pick) (bytes : List ℕ) → IsNewest seen p bytes → IsNewest others p bytes
  newest_moves p bytes n = record {
    entries = n.entries;
    are = n.are ∙ same_blocks seen others like;
    picked = n.picked;
    there = subst (λ (l : List Container). Contains l (record { disk = p.disk.0; bytes = bytes })) (same_blocks seen others like) n.there;
    generation = n.generation;
  }

  pub verdict_moves : (run : Bool) (v : Verdict) → IsVerdict seen run v → IsVerdict others run v
  verdict_moves run v (inl (fault, none, is)) = inl (fault, record { entries = none.entries; are = none.are ∙ same_blocks seen others like; cause = none.cause }, is)
  verdict_moves run v (inr by) = inr (record {
    pick = by.pick;
    bytes = by.bytes;
    newest = newest_moves by.pick by.bytes by.newest;
    missing = by.missing;
    lack = missing_move seen others forth back (block_in by.bytes).disks by.missing by.lack;
    says = by_moves by.bytes by.pick run by.missing v by.says;
  })
