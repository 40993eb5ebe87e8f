-- What is seen of a disk, and that it stays so while other disks are looked at.
use Rattle.std.proofs.Common.{◌≡◌, ◌≢◌, ◌≤◌, ◌<◌, ◌+◌, ℕ, suc, Bool, List, [], ◌∷◌, ◌++◌, length, Option, Some, refl, sym, ◌∙◌, ap, append_assoc, subst, arith}
use Rattle.std.proofs.lemmas.List.{append-nil, length-append}
use Rattle.std.specs.Prelude.{IfSome, slice_get, slice_index, ◌↔◌}
use Rattle.units.specs.declared.disk.Sector.{Sector}
use Rattle.units.specs.declared.disk.Serial.{Serial}
use Rattle.imsm_base.specs.Parts.{block_in}
use Rattle.imsm_base.specs.Whole.{IsWholeDisk}
use Rattle.device_log.specs.Log.{Call}
use Rattle.member_bank.specs.Faults.{Rose}
use Rattle.member_bank.specs.Told.{Keeps}
use Rattle.mpb_store.specs.declared.answer.Found.{Found}
use Rattle.mpb_store.specs.declared.answer.Found.TheVariants as found
use Rattle.mpb_store.specs.Answers.{IsFound, bytes_on}
use Rattle.mpb_store.specs.Banks.{IsAnswerOn, LogsLook, sector_after}
use Rattle.container.specs.declared.seen.Seen.{Seen}
use Rattle.container.specs.declared.seen.SeenAs.{SeenAs}
use Rattle.container.specs.declared.seen.SeenAs.TheVariants.{Whole, Blank, Torn, Unread}
use Rattle.container.specs.Seen.{AreSound, IsSound}
use Rattle.assembly.specs.Seen.{IsSeen, Looks, LooksAtFront, bytes_of, found_of}

pub told_at : {A C : Type 0} (a : Option A) (b : Option C) (P : A → C → Type 0) → IfSome a (λ x. IfSome b (P x)) → (x : A) (y : C) → a ≡ Some x → b ≡ Some y → P x y
told_at {A} {C} a b P told x y is known =
    subst (λ (o : Option C). IfSome o (P x)) known (subst (λ (o : Option A). IfSome o (λ x. IfSome b (P x))) is told)

pub answer_by : (own : List ℕ) (n : ℕ) (at : ℕ → Sector) (answer : Found) (block : List ℕ) (holds : SeenAs) → found_of holds ≡ answer → (answer ≡ found.Whole → bytes_of holds ≡ block)
    → IsAnswerOn own n at answer block → IsAnswerOn own n at (found_of holds) (bytes_of holds)
answer_by own n at answer block holds same bytes is = record {
  exact = subst (λ (f : Found). f ≢ found.Unread → (g : Found) → (f ≡ g) ↔ IsFound own n (bytes_on n at) g) (sym same) is.exact;
  loaded = λ whole. bytes (sym same ∙ whole) ∙ is.loaded (sym same ∙ whole);
}

-- a disk is seen as blank where blank was found
pub blank_by : (holds : SeenAs) → found_of holds ≡ found.Blank → holds ≡ Blank
blank_by (Whole block) is = absurd (cc is)
blank_by Blank is = refl
blank_by (Torn fault) is = absurd (cc is)
blank_by Unread is = absurd (cc is)

rose_on : (a b c d : ℕ) → a ≤ b → Rose b c → c ≤ d → Rose a d
rose_on a b c d low rose high = omega arith

-- a log that is told after a look at a disk was told before it
look_more : (n d : ℕ) (opening : Option (List (List Sector))) (old new : Option (List Call)) (failed : Bool) → LogsLook n d opening old new failed
    → (all : List Call) → new ≡ Some all → (first reads : List Call) × (old ≡ Some first) × (all ≡ first ++ reads)
look_more n d opening old new failed look all is = let (first, reads, anchor, was, laid, each, stood) = look all is in (first, reads, was, laid)

-- what was seen stays seen while a disk is looked at
pub seen_later : {serials : List Serial} {sizes : List ℕ} {opening next : Option (List (List Sector))} {old log more : Option (List Call)} {before mid now : ℕ → ℕ} {k : ℕ} {s : Seen} (n d : ℕ) (failed : Bool)
    → Keeps opening next → LogsLook n d next log more failed → ((j : ℕ) → mid j ≤ now j) → IsSeen serials sizes opening old log before mid k s → IsSeen serials sizes next old more before now k s
seen_later {next = next} {log = log} {more} {before} {mid} {now} {k} n d failed keeps look later seen = record {
  disk = seen.disk;
  serial = seen.serial;
  sectors = seen.sectors;
  whole = seen.whole;
  possible = seen.possible;
  small = seen.small;
  unread = λ is. rose_on (before k) (before k) (mid k) (now k) (omega arith) (seen.unread is) (later k);
  told = λ o all is known.
      let (all_before, reads, was, laid) = look_more n d next log more failed look all known in
      let (first, since, rest, told, split, answer) = seen.told o all_before (keeps o is) was in
      (first, since, rest ++ reads, told, laid ∙ ap (λ (l : List Call). l ++ reads) split ∙ append_assoc (first ++ since) rest reads, answer);
}

-- it was seen since an earlier moment too, behind which there are calls
pub seen_since : {serials other : List Serial} {sizes others : List ℕ} {opening : Option (List (List Sector))} {earlier old log : Option (List Call)} {before mid now : ℕ → ℕ} {k : ℕ} {s : Seen}
    → other ≡ serials → others ≡ sizes → ((all : List Call) → old ≡ Some all → (first since : List Call) × (earlier ≡ Some first) × (all ≡ first ++ since)) → ((j : ℕ) → before j ≤ mid j)
    → IsSeen other others opening old log mid now k s → IsSeen serials sizes opening earlier log before now k s
seen_since {before = before} {mid} {now} {k} {s} named sized behind later seen = record {
  disk = seen.disk;
  serial = subst (λ (l : List Serial). slice_get l k ≡ Some s.serial) named seen.serial;
  sectors = seen.sectors ∙ ap (λ (l : List ℕ). slice_index l k) sized;
  whole = seen.whole;
  possible = seen.possible;
  small = seen.small;
  unread = λ is. rose_on (before k) (mid k) (now k) (now k) (later k) (seen.unread is) (omega arith);
  told = λ o all is known.
      let (first, since, rest, told, split, answer) = seen.told o all is known in
      let (front, more, was, laid) = behind first told in
      let joined : first ++ since ≡ front ++ (more ++ since) = ap (λ (l : List Call). l ++ since) laid ∙ append_assoc front more since in (
        front,
        more ++ since,
        rest,
        was,
        split ∙ ap (λ (l : List Call). l ++ rest) joined,
        subst (λ (l : List Call). IsAnswerOn s.serial.0 s.sectors (sector_after o l k) (found_of s.holds) (bytes_of s.holds)) joined answer,
      );
}

-- LOOKS

-- of an opening that is told later too
look_later : (n d : ℕ) (opening next : Option (List (List Sector))) (old new : Option (List Call)) (failed : Bool) → Keeps opening next → LogsLook n d opening old new failed → LogsLook n d next old new failed
look_later n d opening next old new failed keeps look = λ all is. let (first, reads, anchor, was, laid, each, stood) = look all is in (first, reads, anchor, was, laid, each, λ o told. stood o (keeps o told))

looks_later : (sizes : List ℕ) (opening next : Option (List (List Sector))) (k : ℕ) (old new : Option (List Call)) (failed : List Bool) → Keeps opening next → Looks sizes opening k old failed new → Looks sizes next k old failed new
looks_later sizes opening next k old new [] keeps looks = looks
looks_later sizes opening next k old new (f ∷ failed) keeps (between, look, rest) = (between, look_later (slice_index sizes k) k opening next old between f keeps look, looks_later sizes opening next (k + 1) between new failed keeps rest)

-- the calls of looks stand behind those before
pub looks_behind : (sizes : List ℕ) (opening : Option (List (List Sector))) (k : ℕ) (old new : Option (List Call)) (failed : List Bool) → Looks sizes opening k old failed new
    → (all : List Call) → new ≡ Some all → (first since : List Call) × (old ≡ Some first) × (all ≡ first ++ since)
looks_behind sizes opening k old new [] keeps all is = (all, [], keeps all is, sym (append-nil all))
looks_behind sizes opening k old new (f ∷ failed) (between, look, rest) all is =
    let (mid, more, told, laid) = looks_behind sizes opening (k + 1) between new failed rest all is in
    let (first, reads, was, split) = look_more (slice_index sizes k) k opening old between f look mid told in
    (first, reads ++ more, was, laid ∙ ap (λ (l : List Call). l ++ more) split ∙ append_assoc first reads more)

-- a look behind what is kept
look_from : (n d : ℕ) (opening : Option (List (List Sector))) (old mid new : Option (List Call)) (failed : Bool) → Keeps old mid → LogsLook n d opening mid new failed → LogsLook n d opening old new failed
look_from n d opening old mid new failed keeps look = λ all is. let (first, reads, anchor, was, laid, each, stood) = look all is in (first, reads, anchor, keeps first was, laid, each, stood)

one_further : (k n : ℕ) → k + suc n ≡ k + 1 + n
one_further k n = omega arith

last_look : (sizes : List ℕ) (opening : Option (List (List Sector))) (k : ℕ) (old mid new : Option (List Call)) (failed : List Bool) (f : Bool)
    → Looks sizes opening k old failed mid → LogsLook (slice_index sizes (k + length failed)) (k + length failed) opening mid new f → Looks sizes opening k old (failed ++ f ∷ []) new
last_look sizes opening k old mid new [] f keeps look =
    let here : k + 0 ≡ k = omega arith in
    (new, look_from (slice_index sizes k) k opening old mid new f keeps (subst (λ (d : ℕ). LogsLook (slice_index sizes d) d opening mid new f) here look), λ told is. is)
last_look sizes opening k old mid new (g ∷ failed) f (between, first, rest) look =
    (between, first, last_look sizes opening (k + 1) between mid new failed f rest (subst (λ (d : ℕ). LogsLook (slice_index sizes d) d opening mid new f) (one_further k (length failed)) look))

-- one look more, at the next disk
pub looks_more : (sizes others : List ℕ) (opening next : Option (List (List Sector))) (old mid new : Option (List Call)) (failed : List Bool) (d : ℕ) (f : Bool)
    → others ≡ sizes → length failed ≡ d → Keeps opening next → Looks sizes opening 0 old failed mid → LogsLook (slice_index others d) d next mid new f → Looks sizes next 0 old (failed ++ f ∷ []) new
looks_more sizes others opening next old mid new failed d f sized count keeps looks look =
    let here : d ≡ 0 + length failed = omega (arith, count) in
    last_look sizes next 0 old mid new failed f (looks_later sizes opening next 0 old mid failed keeps looks)
    (subst (λ (k : ℕ). LogsLook (slice_index sizes k) k next mid new f) here (subst (λ (l : List ℕ). LogsLook (slice_index l d) d next mid new f) sized look))

-- so many disks were looked at
pub front_of : (sizes others : List ℕ) (opening next : Option (List (List Sector))) (old mid new : Option (List Call)) (failed : List Bool) (d : ℕ) (f : Bool)
    → d < length sizes → others ≡ sizes → length failed ≡ d → Keeps opening next → Looks sizes opening 0 old failed mid → LogsLook (slice_index others d) d next mid new f → LooksAtFront sizes next old new
front_of sizes others opening next old mid new failed d f below sized count keeps looks look = record {
  failed = failed ++ f ∷ [];
  few = let long = length-append failed (f ∷ []) in omega (arith, below, count, long);
  looks = looks_more sizes others opening next old mid new failed d f sized count keeps looks look;
}

-- the blocks of all disks that were seen are whole
sound_by : (holds : SeenAs) (own : List ℕ) (n : ℕ) → (found_of holds ≡ found.Whole → IsWholeDisk own n (bytes_of holds) (block_in (bytes_of holds))) → IsSound holds
sound_by (Whole b) own n whole = (whole refl).whole
sound_by Blank own n whole = tt
sound_by (Torn fault) own n whole = tt
sound_by Unread own n whole = tt

pub all_sound : {serials : List Serial} {sizes : List ℕ} {opening : Option (List (List Sector))} {old log : Option (List Call)} {before now : ℕ → ℕ} (place : ℕ → ℕ) (seen : List Seen)
    → ((k : ℕ) (s : Seen) → slice_get seen k ≡ Some s → IsSeen serials sizes opening old log before now (place k) s) → AreSound seen
all_sound place [] each = tt
all_sound place (s ∷ seen) each = (sound_by s.holds s.serial.0 s.sectors (each 0 s refl).whole, all_sound (λ k. place (suc k)) seen (λ k t at. each (suc k) t at))
