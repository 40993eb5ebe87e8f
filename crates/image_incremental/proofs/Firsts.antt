-- The first disks of a bank as they were seen, and the verdicts on them, one disk more.
use Rattle.std.proofs.Common.{◌≡◌, ◌≢◌, ◌≤◌, ◌<◌, ◌+◌, ◌-◌, ◌⊎◌, inl, inr, ℕ, Bool, true, false, List, [], ◌∷◌, ◌++◌, length, take, get_or, Option, Some, Result, Ok, Err, refl, sym, ◌∙◌, ap, subst, arith}
use Rattle.std.specs.Prelude.{slice_get, slice_index, ◌↔◌}
use Rattle.std.specs.List.{All}
use Rattle.std.proofs.lemmas.Bool.{le-ltb, lt-ltb}
use Rattle.std.proofs.lemmas.List.{length-append, length-map, map-append, take_all, take-append-le}
use Rattle.std.proofs.lemmas.List.Elements.{All-head, All-tail}
use Rattle.std.proofs.lemmas.Option.{slice_get-get_or, slice_get_within}
use Rattle.units.specs.declared.disk.DiskNo.{DiskNo}
use Rattle.units.specs.declared.disk.Serial.{Serial}
use Rattle.device_log.specs.Log.{Call}
use Rattle.member_bank.specs.Told.{Keeps}
use Rattle.mpb_store.specs.Banks.{LogsLook, is_unread}
use Rattle.container.specs.declared.seen.Seen.{Seen}
use Rattle.container.specs.declared.verdict.Verdict.{Verdict}
use Rattle.container.specs.Verdicts.{IsVerdict}
use Rattle.container.proofs.Lists.{each_more}
use Rattle.assembly.specs.Seen.{IsSeen, Looks, LooksAtFront, are_unread, found_of}
use Rattle.assembly.proofs.Seen.{front_of, looks_behind, looks_more, seen_later, seen_since}
use Rattle.incremental.specs.declared.fault.AddFault.{AddFault}
use Rattle.incremental.specs.declared.fault.AddFault.TheVariants.{Memory, Twice, Started}
use Rattle.incremental.specs.Arrivals.{Arrived, higher, is_ready, lower, with_disk}
use Rattle.image_outside.specs.Endings.{EndsIfMemory, Prints}
use Rattle.image_outside.specs.Told.{BankTold, SinkTold}
use Rattle.image_outside.proofs.Ended.{ends_map}
use Rattle.image_assemble.specs.Endings.{HasLookedFirst, IsEmpty}
use Rattle.image_incremental.specs.Endings.{AreVerdicts, Arrives, HasSeenFirst}
use Rattle.image_incremental.specs.Lines.{all_lines}
use Rattle.verdict_text.specs.Status.{verdict_status}

-- THE DISK OF THE HIGHEST NUMBER IS PUT LAST

all_lower : (d : DiskNo) (seen : List Seen) → All (λ (s : Seen). s.disk.0 < d.0) seen → lower d seen ≡ seen
all_lower d [] all = refl
all_lower d (s ∷ seen) all =
    let Below : Seen → Type 0 = λ s. s.disk.0 < d.0 in
    rw (lt-ltb s.disk.0 d.0 (All-head Below s seen all)) (ap (λ (l : List Seen). s ∷ l) (all_lower d seen (All-tail Below s seen all)))

none_higher : (d : DiskNo) (seen : List Seen) → All (λ (s : Seen). s.disk.0 < d.0) seen → higher d seen ≡ []
none_higher d [] all = refl
none_higher d (s ∷ seen) all =
    let Below : Seen → Type 0 = λ s. s.disk.0 < d.0 in
    let low : s.disk.0 < d.0 = All-head Below s seen all in
    rw (le-ltb d.0 s.disk.0 (omega arith)) (none_higher d seen (All-tail Below s seen all))

put_last : (s : Seen) (seen : List Seen) → All (λ (t : Seen). t.disk.0 < s.disk.0) seen → with_disk s seen ≡ seen ++ s ∷ []
put_last s seen all = ap (λ (l : List Seen). l ++ s ∷ higher s.disk seen) (all_lower s.disk seen all) ∙ ap (λ (l : List Seen). seen ++ s ∷ l) (none_higher s.disk seen all)

all_below : (bank : BankTold) (before : Option (List Call)) (seen : List Seen) (d : DiskNo) → HasSeenFirst bank before seen → d.0 ≡ length seen → All (λ (t : Seen). t.disk.0 < d.0) seen
all_below bank before seen d first next = λ k e within.
    let is = (first.each k (get_or seen k e) (slice_get-get_or seen k e within)).disk in
    omega (arith, is, next, within)

-- WHAT WAS SEEN

first_more : (old new : BankTold) (before : Option (List Call)) (seen : List Seen) (s : Seen) → new.serials ≡ old.serials → new.sizes ≡ old.sizes → Keeps old.opening new.opening
    → ((k : ℕ) → old.faults k ≤ new.faults k) → length seen < length old.serials → IsSeen old.serials old.sizes new.opening old.log new.log old.faults new.faults (length seen) s
    → LogsLook (slice_index old.sizes (length seen)) (length seen) new.opening old.log new.log (is_unread (found_of s.holds)) → HasSeenFirst old before seen → HasSeenFirst new before (seen ++ s ∷ [])
first_more old new before seen s named sized opening later below is look first =
    let unread : Seen → Bool = λ t. is_unread (found_of t.holds) in
    let Is : ℕ → Seen → Type 0 = λ k t. IsSeen old.serials old.sizes new.opening before new.log (λ d. 0) new.faults k t in
    let last : Is (length seen) s = seen_since refl refl (looks_behind old.sizes old.opening 0 before old.log (are_unread seen) first.looks) (λ j. omega arith) is in
    let each : (k : ℕ) (t : Seen) → slice_get (seen ++ s ∷ []) k ≡ Some t → Is k t =
    each_more Is seen s (λ k t at. seen_later _ (length seen) _ opening look later (first.each k t at)) last in
    let looks = looks_more old.sizes old.sizes old.opening new.opening before old.log new.log (are_unread seen) (length seen) (unread s) refl (length-map seen unread) opening first.looks look in
    let counted = ap (λ (l : List Serial). length l) named in
    let longer = length-append seen (s ∷ []) in
    record {
      few = omega (arith, counted, longer, below);
      each = λ k t at. subst (λ (l : List ℕ). IsSeen new.serials l new.opening before new.log (λ d. 0) new.faults k t) (sym sized)
          (subst (λ (l : List Serial). IsSeen l old.sizes new.opening before new.log (λ d. 0) new.faults k t) (sym named) (each k t at));
      looks = subst (λ (l : List ℕ). Looks l new.opening 0 before (are_unread (seen ++ s ∷ [])) new.log) (sym sized)
          (subst (λ (l : List Bool). Looks old.sizes new.opening 0 before l new.log) (sym (map-append unread seen (s ∷ []))) looks);
    }

-- the looks alone
pub looked_first : (bank : BankTold) (before : Option (List Call)) (seen : List Seen) → IsEmpty before → length bank.serials ≡ length bank.sizes → HasSeenFirst bank before seen → HasLookedFirst bank
looked_first bank before seen fresh count first = record {
  before = before;
  fresh = fresh;
  looks = record {
    failed = are_unread seen;
    few = let same = length-map seen (λ (s : Seen). is_unread (found_of s.holds)) in let few = first.few in omega (arith, same, few, count);
    looks = first.looks;
  };
}

-- and one more, of a disk that wasn't kept
pub looked_more : (old new : BankTold) (before : Option (List Call)) (seen : List Seen) (d : ℕ) (failed : Bool) → IsEmpty before → d < length old.sizes → length seen ≡ d → new.sizes ≡ old.sizes
    → Keeps old.opening new.opening → LogsLook (slice_index old.sizes d) d new.opening old.log new.log failed → HasSeenFirst old before seen → HasLookedFirst new
looked_more old new before seen d failed fresh below count sized opening look first = record {
  before = before;
  fresh = fresh;
  looks = subst (λ (l : List ℕ). LooksAtFront l new.opening before new.log) (sym sized)
      (front_of old.sizes old.sizes old.opening new.opening before old.log new.log (are_unread seen) d failed below refl (length-map seen (λ (s : Seen). is_unread (found_of s.holds)) ∙ count) opening first.looks look);
}

-- THE VERDICTS

verdicts_more : (run : Bool) (seen : List Seen) (s : Seen) (verdicts : List Verdict) (v : Verdict) → ((k : ℕ) (w : Verdict) → slice_get verdicts k ≡ Some w → is_ready w ≡ false)
    → IsVerdict (seen ++ s ∷ []) run v → AreVerdicts run seen verdicts → AreVerdicts run (seen ++ s ∷ []) (verdicts ++ v ∷ [])
verdicts_more run seen s verdicts v none says are =
    let Says : ℕ → Verdict → Type 0 = λ k w. IsVerdict (take (k + 1) (seen ++ s ∷ [])) run w in
    let Waits : ℕ → Verdict → Type 0 = λ k w. k + 1 < length (verdicts ++ v ∷ []) → is_ready w ≡ false in
    let count = are.count in
    let longer = length-append seen (s ∷ []) in
    let further = length-append verdicts (v ∷ []) in
    let all : take (length verdicts + 1) (seen ++ s ∷ []) ≡ seen ++ s ∷ [] = take_all (length verdicts + 1) (seen ++ s ∷ []) (omega (arith, count, longer)) in
    let front : (k : ℕ) (w : Verdict) → slice_get verdicts k ≡ Some w → Says k w = λ k w at.
    let within = slice_get_within verdicts k w at in
    subst (λ (l : List Seen). IsVerdict l run w) (sym (take-append-le (k + 1) seen (s ∷ []) (omega (arith, count, within)))) (are.each k w at) in
    record {
      count = omega (arith, count, longer, further);
      each = each_more Says verdicts v front (subst (λ (l : List Seen). IsVerdict l run v) (sym all) says);
      waits = each_more Waits verdicts v (λ k w at below. none k w at) (λ below. absurd (omega (arith, below, further)));
    }

last_at : (xs : List Verdict) (v : Verdict) → slice_get (xs ++ v ∷ []) (length (xs ++ v ∷ []) - 1) ≡ Some v
last_at xs v =
    let place : length (xs ++ v ∷ []) - 1 ≡ length xs = let longer = length-append xs (v ∷ []) in omega (arith, longer) in
    ap (λ (n : ℕ). slice_get (xs ++ v ∷ []) n) place ∙ behind xs
  where
    behind : (xs : List Verdict) → slice_get (xs ++ v ∷ []) (length xs) ≡ Some v
    behind [] = refl
    behind (x ∷ xs) = behind xs

some_last : (xs : List Verdict) → 1 ≤ length xs → (last : Verdict) × (slice_get xs (length xs - 1) ≡ Some last)
some_last [] some = absurd (omega (arith, some))
some_last (x ∷ xs) some = (get_or (x ∷ xs) (length (x ∷ xs) - 1) x, slice_get-get_or (x ∷ xs) (length (x ∷ xs) - 1) x (omega (arith, some)))

-- SO FAR

-- the disks that have arrived were seen so, with these verdicts; only the last may have opened the container
pub record IsSoFar (run : Bool) (bank : BankTold) (before : Option (List Call)) (arrivals : Arrived) (verdicts : List Verdict) : Type 0 where
  pub sees : HasSeenFirst bank before arrivals.seen
  pub are : AreVerdicts run arrivals.seen verdicts
  pub closed : arrivals.started ≡ false → (k : ℕ) (v : Verdict) → slice_get verdicts k ≡ Some v → is_ready v ≡ false
  pub opened : arrivals.started ≡ true → (last : Verdict) × (slice_get verdicts (length verdicts - 1) ≡ Some last) × (is_ready last ≡ true)

pub so_far_more : (run : Bool) (old new : BankTold) (before : Option (List Call)) (a b : Arrived) (verdicts more : List Verdict) (d : DiskNo) (s : Seen) (v : Verdict)
    → new.serials ≡ old.serials → new.sizes ≡ old.sizes → Keeps old.opening new.opening → ((k : ℕ) → old.faults k ≤ new.faults k) → length verdicts ≡ d.0 → d.0 < length old.serials
    → IsSeen old.serials old.sizes new.opening old.log new.log old.faults new.faults d.0 s → LogsLook (slice_index old.sizes d.0) d.0 new.opening old.log new.log (is_unread (found_of s.holds))
    → a.started ≡ false → b ≡ record { seen = with_disk s a.seen; started = is_ready v } → IsVerdict b.seen run v → more ≡ verdicts ++ v ∷ [] → IsSoFar run old before a verdicts → IsSoFar run new before b more
so_far_more run old new before a b verdicts more d s v named sized opening later count below is look closed added says pushed so_far =
    let here : d.0 ≡ length a.seen = sym count ∙ so_far.are.count in
    let seen : with_disk s a.seen ≡ a.seen ++ s ∷ [] = put_last s a.seen (all_below old before a.seen s.disk so_far.sees (is.disk ∙ here)) in
    let same : b ≡ record { seen = a.seen ++ s ∷ []; started = is_ready v } = added ∙ ap (λ (l : List Seen). record { seen = l; started = is_ready v }) seen in
    let verdict : IsVerdict (a.seen ++ s ∷ []) run v = subst (λ (x : Arrived). IsVerdict x.seen run v) same says in
    let none = so_far.closed closed in
    subst (λ (x : Arrived). IsSoFar run new before x more) (sym same)
    (subst (λ (l : List Verdict). IsSoFar run new before (record { seen = a.seen ++ s ∷ []; started = is_ready v }) l) (sym pushed) (record {
      sees = first_more old new before a.seen s named sized opening later (subst (λ (n : ℕ). n < length old.serials) here below)
          (subst (λ (n : ℕ). IsSeen old.serials old.sizes new.opening old.log new.log old.faults new.faults n s) here is)
          (subst (λ (n : ℕ). LogsLook (slice_index old.sizes n) n new.opening old.log new.log (is_unread (found_of s.holds))) here look) so_far.sees;
      are = verdicts_more run a.seen s verdicts v none verdict so_far.are;
      closed = λ waits. each_more (λ (k : ℕ) (w : Verdict). is_ready w ≡ false) verdicts v none waits;
      opened = λ ready. (v, last_at verdicts v, ready);
    }))

pub memory_or : (fault : AddFault) → (fault ≡ Memory) ⊎ (fault ≢ Memory)
memory_or Memory = inl refl
memory_or (Twice d) = inr (λ is. absurd (cc is))
memory_or Started = inr (λ is. absurd (cc is))

-- a disk that was added found the container closed
pub closed_before : (r : Result Verdict AddFault) (v : Verdict) (Here : Type 0) (d : DiskNo) (started : Bool) → r ≡ Ok v → ((k : DiskNo) → r ≡ Err (Twice k) ↔ (Here × (k ≡ d)))
    → (r ≡ Err Started ↔ (¬ Here × (started ≡ true))) → started ≡ false
closed_before r v Here d true is twice starts =
    let new : ¬ Here = λ here. absurd (cc (is, (twice d).1 (here, refl))) in
    absurd (cc (is, starts.1 (new, refl)))
closed_before r v Here d false is twice starts = refl

-- THE END

-- all have arrived
pub arrives_all : (run : Bool) (bank : BankTold) (before : Option (List Call)) (arrivals : Arrived) (verdicts : List Verdict) → IsEmpty before → IsSoFar run bank before arrivals verdicts → 1 ≤ length bank.serials
    → length verdicts ≡ length bank.serials → (last : Verdict) × (slice_get verdicts (length verdicts - 1) ≡ Some last) × Arrives run bank (all_lines bank.serials verdicts) (verdict_status last)
arrives_all run bank before arrivals verdicts fresh so_far some all =
    let (last, at) = some_last verdicts (omega (arith, some, all)) in (
      last,
      at,
      record {
        before = before;
        fresh = fresh;
        seen = arrivals.seen;
        sees = so_far.sees;
        verdicts = verdicts;
        are = so_far.are;
        last = last;
        last_is = at;
        over = inr (sym so_far.are.count ∙ all);
        lines_are = refl;
        status_is = refl;
      },
    )

-- what is printed of the verdicts is what is owed
pub ends_arrived : (old new : SinkTold) (run : Bool) (bank : BankTold) (given : List Serial) (verdicts shown : List Verdict) (status : ℕ) → given ≡ bank.serials → shown ≡ verdicts
    → (last : Verdict) × (slice_get verdicts (length verdicts - 1) ≡ Some last) × Arrives run bank (all_lines bank.serials verdicts) (verdict_status last)
    → (last : Verdict) × (slice_get shown (length shown - 1) ≡ Some last) × EndsIfMemory old new (Prints (all_lines given shown) (verdict_status last)) status → EndsIfMemory old new (Arrives run bank) status
ends_arrived old new run bank given verdicts shown status named same (last, at, arrives) (other, is, ends) =
    let there : Some other ≡ Some last = sym is ∙ ap (λ (l : List Verdict). slice_get l (length l - 1)) same ∙ at in
    let one : other ≡ last = cc there in
    ends_map old new (Prints (all_lines given shown) (verdict_status other)) (Arrives run bank) status
    (λ lines s printed.
    let text : lines ≡ all_lines bank.serials verdicts = printed.lines_are ∙ ap (λ (l : List Serial). all_lines l shown) named ∙ ap (λ (l : List Verdict). all_lines bank.serials l) same in
    let number : s ≡ verdict_status last = printed.status_is ∙ ap verdict_status one in
    subst (λ (l : List ℕ). Arrives run bank l s) (sym text) (subst (λ (n : ℕ). Arrives run bank (all_lines bank.serials verdicts) n) (sym number) arrives))
    ends
