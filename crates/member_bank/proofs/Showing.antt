-- Disks go on being what the log leaves, call by call.
use Rattle.std.proofs.Common.{◌≡◌, ◌≢◌, ◌≤◌, ◌<◌, ◌+◌, ℕ, Bool, true, false, List, [], ◌∷◌, ◌++◌, length, get_or, take, Option, Some, None, refl, sym, ◌∙◌, ap, subst, arith, ◌⊎◌, inl, inr}
use Rattle.std.specs.Prelude.{slice_get, slice_index_or, ◌==◌, if◌then◌else◌, IfSome, IsSomeAnd, is_none}
use Rattle.std.specs.List.{AllByRecursion}
use Rattle.std.proofs.Math.ListN.{get_or-map}
use Rattle.std.proofs.Math.Seq.{map-set_same}
use Rattle.std.proofs.lemmas.List.{get_or-set_same, get_or-set_other, get_or_append_left, get_or-append_right, length-set, length-map, length-take, length_push, map_push}
use Rattle.std.proofs.lemmas.List.Quantifiers.{all_pairs_push}
use Rattle.std.proofs.lemmas.List.Elements.{All-get_or}
use Rattle.std.proofs.lemmas.Bool.{cases_lt, false≢true}
use Rattle.std.specs.Prelude.{All, Vec}
use Rattle.std.specs.declared.alloc.Global.{Global}
use Rattle.units.specs.declared.bounds.TheConstants.{MAX_DISKS}
use Rattle.units.specs.declared.disk.Serial.{Serial}
use Rattle.std.proofs.lemmas.Option.{slice_get-get_or, slice_get_within, same_Some, none-some}
use Rattle.std.proofs.lemmas.Grind.{common_steps}
use Rattle.units.specs.declared.disk.Sector.{Sector}
use Rattle.device_log.specs.Log.{Call, What, Write}
use Rattle.device_log.specs.Cells.{Cell, Stands, cell_at, cell_called, cell_after, resting}
use Rattle.member_bank.specs.declared.history.LogRoom.{LogRoom}
use Rattle.member_bank.specs.declared.history.NotedCall.{NotedCall}
use Rattle.member_bank.specs.declared.history.NotedCall.TheVariants as asked
use Rattle.member_bank.specs.Told.{Logs, LogsWrite}
use Rattle.member_bank.specs.Contents.{Shows, overwritten, overwritten_on, sectors_of, sizes_of}
use Rattle.member_bank.specs.History.{LogState, has_room, log_with, what_of}
use Rattle.member_bank.specs.Memory.{MemState, IsLog, IsMemory, kept_next, stored_of, written}
use Rattle.member_bank.proofs.Laying.{length-laid, stood_written}
use Rattle.device_log.proofs.Cells.{synced_stood}

pub after_append : (d p : ℕ) (c : Cell) (log : List Call) (call : Call) → cell_after d p c (log ++ call ∷ []) ≡ cell_called d p (cell_after d p c log) call
after_append d p c [] call = refl
after_append d p c (first ∷ log) call = after_append d p (cell_called d p c first) log call

some_then : {A : Type 0} (o : Option A) (P Q : A → Type 0) → IsSomeAnd o P → ((x : A) → P x → Q x) → IsSomeAnd o Q
some_then None P Q has goes = has
some_then (Some x) P Q has goes = goes x has

-- a place's sector after one more call, from what the cell says
stands_more : (opening : List (List Sector)) (log : List Call) (call : Call) (d p : ℕ) (t s : Sector) → Stands opening log d p t
    → ((c : Cell) → c.stood ≡ t → (cell_called d p c call).stood ≡ s) → Stands opening (log ++ call ∷ []) d p s
stands_more opening log call d p t s was goes =
    some_then (slice_get (slice_index_or opening d []) p) (λ first. (cell_after d p (resting first) log).stood ≡ t) (λ first. (cell_after d p (resting first) (log ++ call ∷ [])).stood ≡ s)
    was (λ first e. ap (λ (c : Cell). c.stood) (after_append d p (resting first) log call) ∙ goes (cell_after d p (resting first) log) e)

pub all_append : (P : Call → Type 0) (log : List Call) (call : Call) → AllByRecursion P log → P call → AllByRecursion P (log ++ call ∷ [])
all_append P [] call all one = (one, tt)
all_append P (first ∷ log) call all one = (all.0, all_append P log call all.1 one)

-- a call with no sectors leaves what stands
quiet_at : (p : ℕ) (c : Cell) (a : NotedCall) (went : Bool) → (cell_at p c (what_of a []) went).stood ≡ c.stood
quiet_at p c (asked.Read place) went = refl
quiet_at p c (asked.Write place count stored) went = refl
quiet_at p c asked.Sync went = synced_stood c went

when_here : (here : Bool) (a b : Cell) (s : Sector) → a.stood ≡ s → b.stood ≡ s → (if here then a else b).stood ≡ s
when_here true a b s one other = one
when_here false a b s one other = other

pub quiet_log : (opening present : List (List Sector)) (log : List Call) (k : ℕ) (a : NotedCall) (went : Bool) → IsLog opening present log → k < length present
    → IsLog opening present (log ++ record { disk = k; what = what_of a []; went = went } ∷ [])
quiet_log opening present log k a went was there = record {
  named = all_append (λ (c : Call). c.disk < length present) log (record { disk = k; what = what_of a []; went = went }) was.named there;
  shown = λ d p s here.
      stands_more opening log (record { disk = k; what = what_of a []; went = went }) d p s s (was.shown d p s here)
      (λ c e. when_here (k == d) (cell_at p c (what_of a []) went) c s (quiet_at p c a went ∙ e) e);
}

here_called : (k d p : ℕ) (c : Cell) (what : What) (went : Bool) (s : Sector) → (k == d) ≡ true → (cell_at p c what went).stood ≡ s
    → (cell_called d p c (record { disk = k; what = what; went = went })).stood ≡ s
here_called k d p c what went s same stood = rw same stood

told_room : (P Q : List Call → Type 0) (room : Bool) (log : List Call) (call : Call) → P log → ((l : List Call) → P l → Q (l ++ call ∷ []))
    → IfSome (if room then Some (log ++ call ∷ []) else None) Q
told_room P Q true log call was goes = goes log was
told_room P Q false log call was goes = tt

shown_on : (same : Bool) (opening present : List (List Sector)) (log : List Call) (k place : ℕ) (new : List Sector) (stored : ℕ) (went : Bool) (d p : ℕ) (s : Sector)
    → (k == d) ≡ same → Shows opening log present → k < length present → place + length new ≤ length (get_or present k [])
    → slice_get (get_or (overwritten_on present k place (take stored new)) d []) p ≡ Some s
    → Stands opening (log ++ record { disk = k; what = Write place new stored; went = went } ∷ []) d p s
shown_on true opening present log k place new stored went d p s same was there within now =
    let at : k ≡ d = grind (arith, common_steps) in
    let disk : List Sector = get_or present k [] in
    let fits : place + length (take stored new) ≤ length disk = omega (arith, length-take stored new) in
    let here : get_or (overwritten_on present k place (take stored new)) d [] ≡ overwritten disk place (take stored new) =
    subst (λ (q : ℕ). get_or (overwritten_on present k place (take stored new)) q [] ≡ overwritten disk place (take stored new)) at
    (get_or-set_same present k (overwritten disk place (take stored new)) [] there) in
    let written : slice_get (overwritten disk place (take stored new)) p ≡ Some s = subst (λ (l : List Sector). slice_get l p ≡ Some s) here now in
    let low : p < length disk = omega (arith, slice_get_within (overwritten disk place (take stored new)) p s written, length-laid disk place (take stored new) fits) in
    let stood : slice_get disk p ≡ Some (get_or disk p s) = slice_get-get_or disk p s low in
    let same_disk : slice_get (get_or present d []) p ≡ Some (get_or disk p s) = subst (λ (q : ℕ). slice_get (get_or present q []) p ≡ Some (get_or disk p s)) at stood in
    stands_more opening log (record { disk = k; what = Write place new stored; went = went }) d p (get_or disk p s) s (was d p (get_or disk p s) same_disk)
    (λ c e. here_called k d p c (Write place new stored) went s same
    (stood_written c disk place new stored p s within (λ u h. e ∙ same_Some (get_or disk p s) u (sym stood ∙ h)) written))
shown_on false opening present log k place new stored went d p s same was there within now =
    let apart : d ≢ k = grind (arith, common_steps) in
    let stood : slice_get (get_or present d []) p ≡ Some s =
    subst (λ (l : List Sector). slice_get l p ≡ Some s) (get_or-set_other present k d (overwritten (get_or present k []) place (take stored new)) [] apart) now in
    stands_more opening log (record { disk = k; what = Write place new stored; went = went }) d p s s (was d p s stood)
    (λ c e. rw same e)

named_write : (present : List (List Sector)) (k place : ℕ) (new : List Sector) (log : List Call) → AllByRecursion (λ (c : Call). c.disk < length present) log
    → AllByRecursion (λ (c : Call). c.disk < length (overwritten_on present k place new)) log
named_write present k place new log named = rw (length-set present k (overwritten (get_or present k []) place new)) named

pub write_log : (opening present : List (List Sector)) (log : List Call) (k place : ℕ) (new : List Sector) (stored : ℕ) (went : Bool) → IsLog opening present log → k < length present
    → place + length new ≤ length (get_or present k [])
    → IsLog opening (overwritten_on present k place (take stored new)) (log ++ record { disk = k; what = Write place new stored; went = went } ∷ [])
write_log opening present log k place new stored went was there within = record {
  named = all_append (λ (c : Call). c.disk < length (overwritten_on present k place (take stored new))) log (record { disk = k; what = Write place new stored; went = went })
      (named_write present k place (take stored new) log was.named) (omega (arith, length-set present k (overwritten (get_or present k []) place (take stored new))));
  shown = λ d p s here. shown_on (k == d) opening present log k place new stored went d p s refl was.shown there within here;
}

-- the log with one more call, where it is told
pub told_with : (P Q : List Call → Type 0) (room : LogRoom) (log : Option (List Call)) (call : Call) → IfSome log P
    → ((l : List Call) → P l → Q (l ++ call ∷ [])) → IfSome (log_with room log call) Q
told_with P Q room None call was goes = tt
told_with P Q room (Some log) call was goes = told_room P Q (has_room room log call) log call was goes

logs_room : (room : Bool) (log : List Call) (call : Call) (now : List Call) → (if room then Some (log ++ call ∷ []) else None) ≡ Some now
    → (before : List Call) × (Some log ≡ Some before) × (now ≡ before ++ call ∷ [])
logs_room true log call now is = (log, refl, sym (same_Some (log ++ call ∷ []) now is))
logs_room false log call now is = absurd (none-some now is)

pub sizes_put : (disks : List (List Sector)) (d place : ℕ) (new : List Sector) → place + length new ≤ length (get_or disks d [])
    → sizes_of (overwritten_on disks d place new) ≡ sizes_of disks
sizes_put disks d place new within =
    map-set_same (λ (x : List Sector). length x) disks d (overwritten (get_or disks d []) place new) [] (length-laid (get_or disks d []) place new within)

-- calls that are not on a disk leave its cells
other_calls : (n d p : ℕ) (c : Cell) (log : List Call) → n ≤ d → AllByRecursion (λ (k : Call). k.disk < n) log → cell_after d p c log ≡ c
other_calls n d p c [] past named = refl
other_calls n d p c (call ∷ log) past named =
    let apart : (call.disk == d) ≡ false = grind (arith, common_steps, named.0) in
    let same : cell_called d p c call ≡ c = rw apart refl in
    ap (λ (k : Cell). cell_after d p k log) same ∙ other_calls n d p c log past named.1

named_more : (n : ℕ) (log : List Call) → AllByRecursion (λ (k : Call). k.disk < n) log → AllByRecursion (λ (k : Call). k.disk < n + 1) log
named_more n [] named = tt
named_more n (call ∷ log) named = (omega (arith, named.0), named_more n log named.1)

added_at : (opening present : List (List Sector)) (new : List Sector) (log : List Call) (d p : ℕ) (s : Sector) → length opening ≡ length present → IsLog opening present log
    → (d < length present) ⊎ (length present ≤ d) → slice_get (get_or (present ++ new ∷ []) d []) p ≡ Some s → Stands (opening ++ new ∷ []) log d p s
added_at opening present new log d p s same was (inl low) here =
    let old : d < length opening = omega arith in
    let stood : slice_get (get_or present d []) p ≡ Some s =
    subst (λ (l : List Sector). slice_get l p ≡ Some s) (get_or_append_left present (new ∷ []) [] d low) here in
    subst (λ (l : List Sector). IsSomeAnd (slice_get l p) (λ first. (cell_after d p (resting first) log).stood ≡ s)) (sym (get_or_append_left opening (new ∷ []) [] d old))
    (was.shown d p s stood)
added_at opening present new log d p s same was (inr high) here =
    let alike : get_or (present ++ new ∷ []) d [] ≡ get_or (opening ++ new ∷ []) d [] =
    get_or-append_right present (new ∷ []) (length present) d [] refl high ∙ sym (get_or-append_right opening (new ∷ []) (length present) d [] same high) in
    let first : slice_get (get_or (opening ++ new ∷ []) d []) p ≡ Some s = subst (λ (l : List Sector). slice_get l p ≡ Some s) alike here in
    subst (λ (o : Option Sector). IsSomeAnd o (λ first. (cell_after d p (resting first) log).stood ≡ s)) (sym first)
    (ap (λ (c : Cell). c.stood) (other_calls (length present) d p (resting s) log high was.named))

-- a disk that is added later stands as it was added
added_log : (opening present : List (List Sector)) (new : List Sector) (log : List Call) → length opening ≡ length present → IsLog opening present log
    → IsLog (opening ++ new ∷ []) (present ++ new ∷ []) log
added_log opening present new log same was = record {
  named = rw (length_push present new) (named_more (length present) log was.named);
  shown = λ d p s here. added_at opening present new log d p s same was (cases_lt d (length present)) here;
}

some_log : (P Q : List Call → Type 0) (log : Option (List Call)) → IfSome log P → ((l : List Call) → P l → Q l) → IfSome log Q
some_log P Q None was goes = tt
some_log P Q (Some l) was goes = goes l was

pub grown : (serials : List Serial) (opening present : List (List Sector)) (faults : List ℕ) (log : Option (List Call)) (serial : Serial) (new : List Sector)
    → IsMemory serials opening present faults log → length serials < MAX_DISKS → All (λ s. s ≢ serial) serials
    → IsMemory (serials ++ serial ∷ []) (opening ++ new ∷ []) (present ++ new ∷ []) (faults ++ 0 ∷ []) log
grown serials opening present faults log serial new was few apart =
    let size : List Sector → ℕ = λ d. length d in
    let same : length opening ≡ length present = sym (length-map opening size) ∙ (ap length was.sized ∙ length-map present size) in
    record {
      told = some_log (IsLog opening present) (IsLog (opening ++ new ∷ []) (present ++ new ∷ [])) log was.told (λ l h. added_log opening present new l same h);
      few = omega (arith, length_push present new, was.named);
      named = omega (arith, length_push present new, length_push serials serial, was.named);
      counted = omega (arith, length_push present new, length_push faults 0, was.counted);
      sized = map_push size opening new ∙ (ap (λ (sizes : List ℕ). sizes ++ length new ∷ []) was.sized ∙ sym (map_push size present new));
      distinct = all_pairs_push (λ a b. a ≢ b) serials serial was.distinct (λ k d low. All-get_or (λ s. s ≢ serial) serials k d low apart);
    }

pub asked_memory : (serials : List Serial) (opening present : List (List Sector)) (faults counts : List ℕ) (log : LogState) (k : ℕ) (a : NotedCall) (went : Bool)
    → IsMemory serials opening present faults log.log → k < length present → length counts ≡ length faults
    → IsMemory serials opening present counts (log_with log.room log.log (record { disk = k; what = what_of a []; went = went }))
asked_memory serials opening present faults counts log k a went was there same = record {
  told = told_with (IsLog opening present) (IsLog opening present) log.room log.log (record { disk = k; what = what_of a []; went = went }) was.told
      (λ l h. quiet_log opening present l k a went h there);
  few = was.few;
  named = was.named;
  counted = same ∙ was.counted;
  sized = was.sized;
  distinct = was.distinct;
}

pub stored_memory : (serials : List Serial) (opening present : List (List Sector)) (faults counts : List ℕ) (log : LogState) (k place : ℕ) (new : List Sector) (stored : ℕ) (went : Bool)
    → IsMemory serials opening present faults log.log → k < length present → place + length new ≤ length (get_or present k []) → length counts ≡ length faults
    → IsMemory serials opening (overwritten_on present k place (take stored new)) counts
    (log_with log.room log.log (record { disk = k; what = Write place new stored; went = went }))
stored_memory serials opening present faults counts log k place new stored went was there within same =
    let less : place + length (take stored new) ≤ length (get_or present k []) = omega (arith, length-take stored new) in
    let long : length (overwritten_on present k place (take stored new)) ≡ length present = length-set present k (overwritten (get_or present k []) place (take stored new)) in
    record {
      told = told_with (IsLog opening present) (IsLog opening (overwritten_on present k place (take stored new))) log.room log.log
          (record { disk = k; what = Write place new stored; went = went }) was.told (λ l h. write_log opening present l k place new stored went h there within);
      few = omega (arith, was.few);
      named = was.named ∙ sym long;
      counted = same ∙ (was.counted ∙ sym long);
      sized = was.sized ∙ sym (sizes_put present k place (take stored new) less);
      distinct = was.distinct;
    }

-- a log with one more call is logged
pub logs_with : (room : LogRoom) (log : Option (List Call)) (call : Call) → Logs log (log_with room log call) call
logs_with room None call now is = absurd (none-some now is)
logs_with room (Some log) call now is = logs_room (has_room room log call) log call now is

stored_few : (kept : Option ℕ) (count : ℕ) → stored_of kept count ≤ count
stored_few None count = omega arith
stored_few (Some k) count = omega arith

stored_all : (kept : Option ℕ) (count : ℕ) → is_none kept ≡ true → stored_of kept count ≡ count
stored_all None count none = refl
stored_all (Some k) count none = absurd (false≢true none)

-- a write is logged with what the fail list lets it store
pub logs_written : (b new : MemState) (d place : ℕ) (sectors : List Sector) (went : Bool) → went ≡ is_none (kept_next b) → new ≡ written b d place sectors went
    → LogsWrite b.log new.log d place sectors went (stored_of (kept_next b) (length sectors))
logs_written b new d place sectors went answer is = record {
  few = stored_few (kept_next b) (length sectors);
  all = λ all. stored_all (kept_next b) (length sectors) (sym answer ∙ all);
  logs = rw is (logs_with b.room b.log (record { disk = d; what = Write place sectors (stored_of (kept_next b) (length sectors)); went = went }));
}

pub sizes_written : (b new : MemState) (d place : ℕ) (sectors : List Sector) (went : Bool) → new ≡ written b d place sectors went → place + length sectors ≤ get_or (sizes_of b.present) d 0
    → sizes_of new.present ≡ sizes_of b.present
sizes_written b new d place sectors went is within =
    let size : get_or (sizes_of b.present) d 0 ≡ length (get_or b.present d []) = get_or-map (λ (x : List Sector). length x) b.present d [] in
    let less : place + length (take (stored_of (kept_next b) (length sectors)) sectors) ≤ length (get_or b.present d []) = omega (arith, length-take (stored_of (kept_next b) (length sectors)) sectors) in
    rw is (sizes_put b.present d place (take (stored_of (kept_next b) (length sectors)) sectors) less)

pub sectors_push : (vs ws : List (Vec Sector Global)) (v : Vec Sector Global) (new : List Sector) → ws ≡ vs ++ v ∷ [] → v.items ≡ new → sectors_of ws ≡ sectors_of vs ++ new ∷ []
sectors_push vs ws v new more same = rw (more, map_push (λ (w : Vec Sector Global). w.items) vs v, same) refl
