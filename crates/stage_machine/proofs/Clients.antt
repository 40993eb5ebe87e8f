-- The clients' operations are their own.
use Rattle.std.proofs.Common.{◌≡◌, ◌≢◌, ℕ, zero, suc, ◌+◌, ◌<◌, ◌≤◌, ◌==◌, ◌||◌, Bool, true, false, cond, if◌then◌else◌, nat_lt, List, [], ◌∷◌, length, refl, ap, sym, ◌∙◌, subst, arith, ◌⊎◌, inl, inr, Option, Some, None, slice_set, map}
use Rattle.std.specs.Prelude.{⊤, filter}
use Rattle.std.specs.List.{AllByRecursion, range_with_len}
use Rattle.std.proofs.lemmas.Bool.Decides.{nat_tests}
use Rattle.std.proofs.lemmas.List.{get_or-set_other, get_or-set_same}
use Rattle.std.proofs.lemmas.Bool.{cases_lt}
use Rattle.units.specs.declared.disk.Sector.{Sector}
use Rattle.device_log.specs.Log.{Call}
use Rattle.array_model.specs.declared.script.Op.{Op}
use Rattle.array_model.specs.declared.journal.Event.{Event}
use Rattle.array_model.specs.Script.{is_of_client, kind_at}
use Rattle.array_model.specs.Placement.{Placement, placement_by}
use Rattle.units.specs.declared.volume.Level.TheVariants.{One}
use Rattle.array_model.specs.declared.script.OpKind.{OpKind}
use Rattle.array_model.specs.declared.script.OpKind.TheVariants.{Write as OpWrite, Read as OpRead, Whole as OpWhole}
use Rattle.stage_machine.specs.Setting.{Setting, has_disk}
use Rattle.stage_machine.specs.Jobs.{JobStep, Waiting, Writing, Syncing, Written, Got, Job, NoJob, Busy, Client, no_client, client_at, ops_of, placement_at, row_at, row_in, sector_in, the_shape, Need, NoNeed, Reads, Writes, Syncs, Answers, need_of, first_need, read_need, write_need, sync_need, after_write, after_sync}
use Rattle.stage_machine.specs.Machine.{Control, need_now, need_unless, is_held, World, Reached, opens, goes, clients_of, got_of, stamped}
use Rattle.stage_machine.proofs.Turns.{Turns, Has, turns_of, nothing, fails, anchors, settles, ends, begins, readies, actives, cleans, rests, pasts, asks_read, asks_write, puts, syncs, gets, acks}
use Rattle.stage_machine.specs.Opens.{IsInFirst}
use Rattle.stage_machine.specs.States.{State, IsReadonly, IsReadAuto, IsClean, IsPending, IsActive, IsIdle, asked_events}
use Rattle.array_model.specs.Events.{has as has_event, is_submit}
use Rattle.array_model.specs.declared.journal.Event.TheVariants.{Submit}

-- A LIST OF CLIENTS, ONE OF THEM CHANGED

pub there : (clients : List Client) (k : ℕ) (y : Client) → client_at clients k ≡ y → (y ≡ no_client → ⊥) → k < length clients
there [] k y is other = absurd (other (sym is))
there (x ∷ xs) zero y is other = omega arith
there (x ∷ xs) (suc k) y is other = let more : k < length xs = there xs k y is other in omega arith

abbrev pub AtSet : List Client → ℕ → Client → ℕ → Type 0
AtSet clients k x j =
    ((j ≡ k) × (client_at (slice_set clients k x) j ≡ x)) ⊎ ((j ≢ k) × (client_at (slice_set clients k x) j ≡ client_at clients j))

pub same : (n : ℕ) → (n == n) ≡ true
same n = grind (arith, nat_tests)

pub at_set : (clients : List Client) (k : ℕ) (x : Client) (j : ℕ) → k < length clients → AtSet clients k x j
at_set clients k x j lt = at (j == k) refl
  where
    at : (b : Bool) → (j == k) ≡ b → AtSet clients k x j
    at true is =
        let here : j ≡ k = grind (arith, nat_tests) in
        inl (here, subst (λ z. client_at (slice_set clients k x) z ≡ x) (sym here) (get_or-set_same clients k x no_client lt))
    at false is =
        let apart : j ≡ k → ⊥ = λ e. absurd (cc (is, ap (λ z. z == k) e, same k)) in
        inr (apart, get_or-set_other clients k j x no_client apart)

abbrev is_busy : Job → Bool
is_busy NoJob = false
is_busy (Busy i step) = true

abbrev is_some_list : List ℕ → Bool
is_some_list [] = false
is_some_list (x ∷ xs) = true

-- a client with an operation left, or with a job, is one of the list
pub there_left : (c : Control) (k i : ℕ) (rest : List ℕ) (job : Job) → Has c k (i ∷ rest) job → k < length c.clients
there_left c k i rest job has_disk = there c.clients k _ has_disk (λ e. absurd (let is : true ≡ false = ap (λ (x : Client). is_some_list x.left) e in cc is))

pub there_busy : (c : Control) (k i : ℕ) (left : List ℕ) (step : JobStep) → Has c k left (Busy i step) → k < length c.clients
there_busy c k i left step has_disk = there c.clients k _ has_disk (λ e. absurd (let is : true ≡ false = ap (λ (x : Client). is_busy x.job) e in cc is))

-- EACH CLIENT

abbrev pub Each : (ℕ → Client → Type 0) → List Client → Type 0
Each P clients = (j : ℕ) → P j (client_at clients j)

pub each_set : (P : ℕ → Client → Type 0) (clients : List Client) (k : ℕ) (x : Client) → k < length clients → Each P clients → P k x → Each P (slice_set clients k x)
each_set P clients k x lt old new j = elim (at_set clients k x j lt) [
  | inl here ↦ subst (P j) (sym here.1) (subst (λ z. P z x) (sym here.0) new)
  | inr other ↦ subst (P j) (sym other.1) (old j)
]

-- AT THE START

start_at : (f : ℕ → Client) (a n k : ℕ) → k < n → client_at (map f (range_with_len a n)) k ≡ f (a + k)
start_at f a zero k lt = absurd (omega arith)
start_at f a (suc n) zero lt = let is : a ≡ a + 0 = omega arith in ap f is
start_at f a (suc n) (suc k) lt = let is : a + 1 + k ≡ a + suc k = omega arith in start_at f (a + 1) n k (omega arith) ∙ ap f is

start_past : (f : ℕ → Client) (a n k : ℕ) → n ≤ k → client_at (map f (range_with_len a n)) k ≡ no_client
start_past f a zero k le = refl
start_past f a (suc n) zero le = absurd (omega arith)
start_past f a (suc n) (suc k) le = start_past f (a + 1) n k (omega arith)

abbrev pub first_client : Setting → ℕ → Client
first_client S k = record { left = ops_of S.asked.ops k; job = NoJob }

pub at_start : (S : Setting) (k : ℕ) → ((k < 16) × (client_at (clients_of S) k ≡ first_client S k)) ⊎ ((16 ≤ k) × (client_at (clients_of S) k ≡ no_client))
at_start S k = elim (cases_lt k 16) [
  | inl lt ↦ let zero_plus : 0 + k ≡ k = omega arith in inl (lt, start_at (first_client S) 0 16 k lt ∙ ap (first_client S) zero_plus)
  | inr le ↦ inr (le, start_past (first_client S) 0 16 k le)
]

-- WHOSE OPERATIONS THEY ARE

abbrev pub AllIn : List ℕ → List ℕ → Type 0
AllIn ms ds = AllByRecursion (λ d. has_disk d ms ≡ true) ds

-- the members that are left are members of the volume
abbrev pub StepIn : List ℕ → JobStep → Type 0
StepIn ms Waiting = ⊤
StepIn ms (Writing left) = AllIn ms left
StepIn ms (Syncing left) = AllIn ms left
StepIn ms Written = ⊤
StepIn ms (Got value) = ⊤

-- an operation of the client, at a place of the volume
pub record IsJob (S : Setting) (k i : ℕ) (step : JobStep) : Type 0 where
  pub mine : is_of_client S.asked.ops k i ≡ true
  pub place : Placement
  pub placed : placement_at S i ≡ Some place
  pub inside : StepIn S.members step

abbrev pub IsJobOf : Setting → ℕ → Job → Type 0
IsJobOf S k NoJob = ⊤
IsJobOf S k (Busy i step) = IsJob S k i step

pub record IsOf (S : Setting) (k : ℕ) (client : Client) : Type 0 where
  pub left : AllByRecursion (λ i. is_of_client S.asked.ops k i ≡ true) client.left
  pub job : IsJobOf S k client.job

abbrev pub Mine : Setting → Control → Type 0
Mine S c = Each (IsOf S) c.clients

-- WHAT A JOB NEEDS IS OF A MEMBER

abbrev pub NeedIn : List ℕ → Need → Type 0
NeedIn ms NoNeed = ⊤
NeedIn ms (Reads d) = has_disk d ms ≡ true
NeedIn ms (Writes d ds) = (has_disk d ms ≡ true) × AllIn ms ds
NeedIn ms (Syncs d ds) = (has_disk d ms ≡ true) × AllIn ms ds
NeedIn ms (Answers answer) = ⊤

has_more : (d x : ℕ) (xs : List ℕ) → has_disk d xs ≡ true → has_disk d (x ∷ xs) ≡ true
has_more d x xs h = at (x == d)
  where
    at : (b : Bool) → (b || has_disk d xs) ≡ true
    at true = refl
    at false = h

all_in_more : (x : ℕ) (xs ds : List ℕ) → AllIn xs ds → AllIn (x ∷ xs) ds
all_in_more x xs [] h = tt
all_in_more x xs (d ∷ ds) h = (has_more d x xs h.0, all_in_more x xs ds h.1)

pub all_in_self : (ms : List ℕ) → AllIn ms ms
all_in_self [] = tt
all_in_self (x ∷ xs) = (rw (same x) refl, all_in_more x xs xs (all_in_self xs))

write_in : (ms ds : List ℕ) → AllIn ms ds → NeedIn ms (write_need ds)
write_in ms [] h = tt
write_in ms (d ∷ ds) h = h

sync_in : (ms ds : List ℕ) → AllIn ms ds → NeedIn ms (sync_need ds)
sync_in ms [] h = tt
sync_in ms (d ∷ ds) h = h

read_in : (ms ds : List ℕ) → AllIn ms ds → NeedIn ms (read_need ds)
read_in ms [] h = tt
read_in ms (d ∷ ds) h = h.0

first_in : (S : Setting) (kind : Option OpKind) → NeedIn S.members (first_need S kind)
first_in S None = tt
first_in S (Some (OpWrite v s value)) = write_in S.members S.members (all_in_self S.members)
first_in S (Some (OpRead v s)) = read_in S.members S.members (all_in_self S.members)
first_in S (Some (OpWhole v)) = tt

pub need_in : (S : Setting) (c : Control) (k i : ℕ) (step : JobStep) → StepIn S.members step → NeedIn S.members (need_now S c k i step)
need_in S c k i step inside = at (is_held S c k i)
  where
    by : (step : JobStep) → StepIn S.members step → NeedIn S.members (need_of S i step)
    by Waiting h = first_in S (kind_at S.asked.ops i)
    by (Writing left) h = write_in S.members left h
    by (Syncing left) h = sync_in S.members left h
    by Written h = tt
    by (Got value) h = tt

    at : (b : Bool) → NeedIn S.members (need_unless S i step b)
    at true = tt
    at false = by step inside

after_write_in : (S : Setting) (ds : List ℕ) → AllIn S.members ds → StepIn S.members (after_write S ds)
after_write_in S [] h = all_in_self S.members
after_write_in S (d ∷ ds) h = h

after_sync_in : (S : Setting) (ds : List ℕ) → AllIn S.members ds → StepIn S.members (after_sync ds)
after_sync_in S [] h = tt
after_sync_in S (d ∷ ds) h = h

-- a row of the volume
pub row_below : (S : Setting) → (the_shape S).level ≡ Some One → (i : ℕ) (place : Placement) → placement_at S i ≡ Some place → row_at S i < (the_shape S).size
row_below S one i place is =
    let by_level : placement_by (Some One) (the_shape S) (sector_in (kind_at S.asked.ops i)) ≡ Some place = ap (λ l. placement_by l (the_shape S) (sector_in (kind_at S.asked.ops i))) (sym one) ∙ is in
    at (nat_lt (sector_in (kind_at S.asked.ops i)) (the_shape S).size) refl by_level
  where
    at : (b : Bool) → nat_lt (sector_in (kind_at S.asked.ops i)) (the_shape S).size ≡ b
        → (if b then Some (record { main = 0; other = 1; row = sector_in (kind_at S.asked.ops i) }) else None) ≡ Some place → row_at S i < (the_shape S).size
    at true lt here =
        let lower : sector_in (kind_at S.asked.ops i) < (the_shape S).size = grind (arith, nat_tests, lt) in
        let row_is : row_at S i ≡ sector_in (kind_at S.asked.ops i) = ap row_in is ∙ sym (ap row_in here) in
        subst (λ z. z < (the_shape S).size) (sym row_is) lower
    at false lt here = absurd cc

filter_passes : (test : ℕ → Bool) (xs : List ℕ) → AllByRecursion (λ i. test i ≡ true) (filter test xs)
filter_passes test [] = tt
filter_passes test (x ∷ xs) = at (test x) refl (filter_passes test xs)
  where
    at : (b : Bool) → test x ≡ b → AllByRecursion (λ i. test i ≡ true) (filter test xs) → AllByRecursion (λ i. test i ≡ true) (cond b (x ∷ filter test xs) (filter test xs))
    at true is more = (is, more)
    at false is more = more

pub of_left : (S : Setting) (c : Control) (k i : ℕ) (rest : List ℕ) (job : Job) → Mine S c → Has c k (i ∷ rest) job → is_of_client S.asked.ops k i ≡ true
of_left S c k i rest job mine has_disk = (subst (IsOf S k) has_disk (mine k)).left.0

pub of_job : (S : Setting) (c : Control) (k i : ℕ) (left : List ℕ) (step : JobStep) → Mine S c → Has c k left (Busy i step) → IsJob S k i step
of_job S c k i left step mine has_disk = (subst (IsOf S k) has_disk (mine k)).job

taken : (S : Setting) (c : Control) (k i : ℕ) (rest : List ℕ) (job : Job) → Mine S c → Has c k (i ∷ rest) NoJob → IsJobOf S k job → Each (IsOf S) (slice_set c.clients k (record { left = rest; job = job }))
taken S c k i rest job mine has_disk is =
    each_set (IsOf S) c.clients k _ (there_left c k i rest NoJob has_disk) mine (record { left = (subst (IsOf S k) has_disk (mine k)).left.1; job = is })

gone_on : (S : Setting) (c : Control) (k i : ℕ) (left : List ℕ) (step : JobStep) (job : Job) → Mine S c → Has c k left (Busy i step) → IsJobOf S k job → Each (IsOf S) (slice_set c.clients k (record { left = left; job = job }))
gone_on S c k i left step job mine has_disk is =
    each_set (IsOf S) c.clients k _ (there_busy c k i left step has_disk) mine (record { left = (subst (IsOf S k) has_disk (mine k)).left; job = is })

goes_to : (S : Setting) (k i : ℕ) (step next : JobStep) → IsJob S k i step → StepIn S.members next → IsJob S k i next
goes_to S k i step next job inside = record { mine = job.mine; place = job.place; placed = job.placed; inside = inside }

mine_turns : (S : Setting) (c : Control) (got : Sector) {call : Option Call} {es : List Event} {next : Control} → Turns S c got call es next → Mine S c → Mine S next
mine_turns S c got nothing mine = mine
mine_turns S c got (fails d what asked) mine = mine
mine_turns S c got (anchors m d ds is) mine = mine
mine_turns S c got (settles m d e ds is) mine = mine
mine_turns S c got (ends m d is) mine = mine
mine_turns S c got (begins d ds is some why) mine = mine
mine_turns S c got (readies is s t) mine = mine
mine_turns S c got (actives is s t r) mine = mine
mine_turns S c got (cleans is s t) mine = mine
mine_turns S c got (rests t calm) mine = mine
mine_turns S c got (pasts k i rest has_disk none) mine = taken S c k i rest NoJob mine has_disk tt
mine_turns S c got (asks_read k i rest place has_disk is w live) mine = taken S c k i rest _ mine has_disk (record { mine = of_left S c k i rest NoJob mine has_disk; place = place; placed = is; inside = tt })
mine_turns S c got (asks_write k i rest place has_disk is w live) mine = taken S c k i rest _ mine has_disk (record { mine = of_left S c k i rest NoJob mine has_disk; place = place; placed = is; inside = tt })
mine_turns S c got (puts k i left step d ds has_disk need) mine = let job = of_job S c k i left step mine has_disk in
    gone_on S c k i left step _ mine has_disk (goes_to S k i step _ job (after_write_in S ds (subst (NeedIn S.members) need (need_in S c k i step job.inside)).1))
mine_turns S c got (syncs k i left step d ds has_disk need) mine = let job = of_job S c k i left step mine has_disk in
    gone_on S c k i left step _ mine has_disk (goes_to S k i step _ job (after_sync_in S ds (subst (NeedIn S.members) need (need_in S c k i step job.inside)).1))
mine_turns S c got (gets k i left step d has_disk need) mine = gone_on S c k i left step _ mine has_disk (goes_to S k i step _ (of_job S c k i left step mine has_disk) tt)
mine_turns S c got (acks k i left step answer has_disk need) mine = gone_on S c k i left step NoJob mine has_disk tt

pub mine_reached : (S : Setting) (w : World) → Reached S w → Mine S w.control
mine_reached S w opens = λ k. elim (at_start S k) [
  | inl first ↦ subst (IsOf S k) (sym first.1) (record { left = filter_passes (is_of_client S.asked.ops k) _; job = tt })
  | inr past ↦ subst (IsOf S k) (sym past.1) (record { left = tt; job = tt })
]
mine_reached S w (goes {w = v} r a) = mine_turns S v.control (got_of a) (turns_of S v.control a) (mine_reached S v r)

-- an operation of a client is one of the script
pub op_below : (ops : List Op) (k i : ℕ) → is_of_client ops k i ≡ true → i < length ops
op_below [] k i h = absurd cc
op_below (op ∷ ops) k zero h = omega arith
op_below (op ∷ ops) k (suc i) h = let more : i < length ops = op_below ops k i h in omega arith

-- what a script asks for reads or writes volume 0
pub kind_first : (ops : List Op) (i : ℕ) (kind : OpKind) → AllByRecursion (λ op. IsInFirst op.kind) ops → kind_at ops i ≡ Some kind → IsInFirst kind
kind_first [] i kind all is = absurd cc
kind_first (op ∷ ops) zero kind all is = let same : op.kind ≡ kind = cc is in subst IsInFirst same all.0
kind_first (op ∷ ops) (suc i) kind all is = kind_first ops i kind all.1 is

-- a submit, with what it enters beside, submits one operation
pub one_submit : (n i : ℕ) (state : State) (m : ℕ) → (i == m) ≡ false → has_event (is_submit m) (record { stamp = n; event = Submit i } ∷ stamped n (asked_events state)) ≡ false
one_submit n i IsReadonly m apart = rw apart refl
one_submit n i IsReadAuto m apart = rw apart refl
one_submit n i IsClean m apart = rw apart refl
one_submit n i IsPending m apart = rw apart refl
one_submit n i IsActive m apart = rw apart refl
one_submit n i IsIdle m apart = rw apart refl
