-- A journal that keeps its counts is at least four entries shorter than the length that is said to be enough.
use Rattle.std.proofs.Common.{◌≡◌, ℕ, zero, suc, ◌+◌, ◌*◌, ◌≤◌, ◌==◌, ◌||◌, ◌&&◌, Bool, true, false, cond, List, [], ◌∷◌, ◌++◌, length, refl, ap, subst, arith, Option, Some, None, is_some, ◌⊎◌, inl, inr}
use Rattle.std.specs.List.{AllByRecursion}
use Rattle.std.proofs.lemmas.Nat.{mul-le}
use Rattle.std.proofs.lemmas.Bool.{eq-eqb}
use Rattle.std.proofs.lemmas.Bool.Decides.{nat_tests}
use Rattle.array_model.specs.declared.script.Op.{Op}
use Rattle.array_model.specs.declared.journal.Entry.{Entry}
use Rattle.array_model.specs.declared.journal.Event.{Event}
use Rattle.array_model.specs.declared.journal.Event.TheVariants.{Ready, Pass, Point, PassEnd, Active, Clean, Unblock, Submit, Pending, Idle, Fault}
use Rattle.array_model.specs.Script.{Asked, VolumeWrite, write_at, is_in_volume}
use Rattle.array_model.specs.Events.{AtEachFrom, count, is_begin, is_end, is_spare, is_ready, is_any_ready, is_pass, is_any_point, is_pass_end, is_any_pass_end, is_active, is_clean, is_any_clean, is_unblock, is_posted, is_applied, is_pending, is_any_pending, is_idle, is_fault, is_any_fault, is_kill, is_takeover, is_submit_in}
use Rattle.array_model.specs.Start.{Start}
use Rattle.array_model.specs.Counts.{PassAfter, rounds_of_rows, has_spare, checkpoints_of, checkpoints_below, IsShort}
use Rattle.array_model.proofs.Steps.{number, is_any_step, steps_most}
use Rattle.array_form.specs.Names.{NamesThere}
use Rattle.array_form.specs.Short.{PassHasRoom, KeepsToRoom}
use Rattle.array_form.specs.Passes.{is_point}
use Rattle.array_form.proofs.Tallies.{is_any_pass, is_any_active, is_any_idle, is_any_unblock, is_declined, all_kinds, more, length_counted, settled_counted, total, total_sum, total_le, total_ones, counted_there, there_once}
use Rattle.array_form.proofs.Points.{PassOwes, points_most}

-- THE SUM

-- how often each kind comes, in a journal of so many operations, asks and disks, with so many points
record Bounds (ops asks disks most : ℕ) (f : (Event → Bool) → ℕ) : Type 0 where
  submits : f (is_any_step false) ≤ ops
  acks : f (is_any_step true) ≤ ops
  pending : f is_any_pending ≤ f (is_any_step false)
  active : f is_any_active ≤ f (is_any_step false)
  idle : f is_any_idle ≤ f (is_any_step false)
  clean : f is_any_clean ≤ f (is_any_step false)
  ready : f is_any_ready ≤ 2
  passes : f is_any_pass ≤ 2 + 2 * f is_applied
  pass_ends : f is_any_pass_end ≤ 4 + 2 * f is_applied + 2 * f is_takeover
  points : f is_any_point ≤ most
  begins : f is_begin ≤ 2 + (f is_kill + f is_takeover + f is_any_fault + f is_any_pending + f is_any_ready
      + f is_any_clean + f is_any_point + f is_any_pass_end + f is_applied)
  ends : f is_end ≤ f is_begin
  spares : f is_spare ≤ f is_applied
  settled : f is_applied + f is_declined ≤ f is_posted
  posts : f is_posted ≤ asks + disks + f is_any_fault + 2 * f is_kill
  faults : f is_any_fault ≤ disks
  unblocks : f is_any_unblock ≤ disks
  takeovers : f is_takeover ≤ f is_kill

all_short : (ops asks disks most : ℕ) (f : (Event → Bool) → ℕ) → Bounds ops asks disks most f
    → all_kinds f + 4 ≤ 64 + 10 * ops + 16 * asks + 32 * disks + 40 * f is_kill + 3 * most
all_short ops asks disks most f b =
    omega (
      arith,
      b.submits,
      b.acks,
      b.pending,
      b.active,
      b.idle,
      b.clean,
      b.ready,
      b.passes,
      b.pass_ends,
      b.points,
      b.begins,
      b.ends,
      b.spares,
      b.settled,
      b.posts,
      b.faults,
      b.unblocks,
      b.takeovers,
    )

-- VOLUMES AND DISKS

two_most : (f : ℕ → ℕ) (n : ℕ) → n ≤ 2 → total f n ≤ f 0 + f 1
two_most f zero le = omega arith
two_most f (suc zero) le = omega arith
two_most f (suc (suc zero)) le = omega arith
two_most f (suc (suc (suc n))) le = absurd (omega (arith, le))

none_equal : (a n : ℕ) → n ≤ a → total (λ k. number (a == k)) n ≡ 0
none_equal a zero le = refl
none_equal a (suc n) le =
    let other : (a == n) ≡ false = grind (arith, nat_tests, le) in
    let last : number (a == n) ≡ 0 = ap number other in
    let less = none_equal a n (omega (arith, le)) in
    omega (arith, last, less)

one_equal : (a n : ℕ) → total (λ k. number (a == k)) n ≤ 1
one_equal a zero = omega arith
one_equal a (suc n) = at (a == n) refl (one_equal a n)
  where
    at : (b : Bool) → (a == n) ≡ b → total (λ k. number (a == k)) n ≤ 1
        → total (λ k. number (a == k)) n + number (a == n) ≤ 1
    at true is rest =
        let here : a ≡ n = grind (arith, nat_tests, is) in
        let less = none_equal a n (omega (arith, here)) in
        let last : number (a == n) ≡ 1 = ap number is in
        omega (arith, less, last)
    at false is rest = let last : number (a == n) ≡ 0 = ap number is in omega (arith, rest, last)

none_false : (n : ℕ) → total (λ k. 0) n ≤ 0
none_false zero = omega arith
none_false (suc n) = let less = none_false n in omega (arith, less)

-- a submit is of a write to one volume at most
submit_once : (ops : List Op) (n : ℕ) (e : Event)
    → total (λ v. number (is_submit_in ops v e)) n ≤ number (is_any_step false e)
submit_once ops n (Submit i) = at (write_at ops i)
  where
    at : (t : Option VolumeWrite) → total (λ v. number (is_in_volume v t)) n ≤ 1
    at None = let none = none_false n in omega (arith, none)
    at (Some t) = one_equal t.volume n
submit_once ops n _ = none_false n

submits_once : (ops : List Op) (n : ℕ) (journal : List Entry)
    → total (λ v. count (is_submit_in ops v) journal) n ≤ count (is_any_step false) journal
submits_once ops n [] = none_false n
submits_once ops n (x ∷ xs) =
    omega (
      arith,
      total_sum (λ v. number (is_submit_in ops v x.event)) (λ v. count (is_submit_in ops v) xs)
          (λ v. count (is_submit_in ops v) (x ∷ xs)) (λ v. more (is_submit_in ops v) x xs) n,
      more (is_any_step false) x xs,
      submit_once ops n x.event,
      submits_once ops n xs,
    )

both_at : (P : List Entry → Entry → Type 0) (Q : Event → Type 0) (front xs : List Entry) → AtEachFrom P front xs
    → AllByRecursion (λ e. Q e.event) xs → AtEachFrom (λ f e. P f e × Q e.event) front xs
both_at P Q front [] p q = tt
both_at P Q front (x ∷ xs) p q = ((p.0, q.0), both_at P Q (front ++ x ∷ []) xs p.1 q.1)

module _ (start : Start) (asked : Asked) (journal : List Entry) (k : KeepsToRoom start asked journal) where
  abbrev volumes : ℕ
  volumes = start.words.volumes start.newest

  abbrev any : Bool
  any = has_spare start asked

  abbrev disks : ℕ
  disks = start.disks.count

  abbrev tally : (Event → Bool) → ℕ
  tally test = count test journal

  abbrev of_each : (ℕ → Event → Bool) → ℕ
  of_each one = total (λ v. count (one v) journal) volumes

  -- WHAT NAMES A VOLUME OR A DISK

  there : (one : ℕ → Event → Bool) (e : Event) (v : ℕ) → start.is_started v ≡ true → one v e ≡ true
      → 1 ≤ total (λ v. number (one v e)) volumes
  there one e v started is = there_once one e v volumes (k.few.started v started) is

  ready_there : (e : Event) → NamesThere start e → number (is_any_ready e) ≤ total (λ v. number (is_ready v e)) volumes
  ready_there (Ready v) named = there is_ready (Ready v) v.0 named (eq-eqb v.0 v.0 refl)
  ready_there _ named = omega arith

  pass_there : (e : Event) → NamesThere start e → number (is_any_pass e) ≤ total (λ v. number (is_pass v e)) volumes
  pass_there (Pass v first) named = there is_pass (Pass v first) v.0 named (eq-eqb v.0 v.0 refl)
  pass_there _ named = omega arith

  point_there : (e : Event) → NamesThere start e → number (is_any_point e) ≤ total (λ v. number (is_point v e)) volumes
  point_there (Point v unit) named = there is_point (Point v unit) v.0 named (eq-eqb v.0 v.0 refl)
  point_there _ named = omega arith

  end_there : (e : Event) → NamesThere start e
      → number (is_any_pass_end e) ≤ total (λ v. number (is_pass_end v e)) volumes
  end_there (PassEnd v) named = there is_pass_end (PassEnd v) v.0 named (eq-eqb v.0 v.0 refl)
  end_there _ named = omega arith

  pending_there : (e : Event) → NamesThere start e
      → number (is_any_pending e) ≤ total (λ v. number (is_pending v e)) volumes
  pending_there (Pending v) named = there is_pending (Pending v) v.0 named (eq-eqb v.0 v.0 refl)
  pending_there _ named = omega arith

  active_there : (e : Event) → NamesThere start e
      → number (is_any_active e) ≤ total (λ v. number (is_active v e)) volumes
  active_there (Active v) named = there is_active (Active v) v.0 named (eq-eqb v.0 v.0 refl)
  active_there _ named = omega arith

  idle_there : (e : Event) → NamesThere start e → number (is_any_idle e) ≤ total (λ v. number (is_idle v e)) volumes
  idle_there (Idle v) named = there is_idle (Idle v) v.0 named (eq-eqb v.0 v.0 refl)
  idle_there _ named = omega arith

  clean_there : (e : Event) → NamesThere start e → number (is_any_clean e) ≤ total (λ v. number (is_clean v e)) volumes
  clean_there (Clean v) named = there is_clean (Clean v) v.0 named (eq-eqb v.0 v.0 refl)
  clean_there _ named = omega arith

  fault_there : (e : Event) → NamesThere start e → number (is_any_fault e) ≤ total (λ d. number (is_fault d e)) disks
  fault_there (Fault d) named = there_once is_fault (Fault d) d.0 disks named (eq-eqb d.0 d.0 refl)
  fault_there _ named = omega arith

  unblock_there : (e : Event) → NamesThere start e
      → number (is_any_unblock e) ≤ total (λ d. number (is_unblock d e)) disks
  unblock_there (Unblock d) named = there_once is_unblock (Unblock d) d.0 disks named (eq-eqb d.0 d.0 refl)
  unblock_there _ named = omega arith

  each : (any : Event → Bool) (one : ℕ → Event → Bool) (n : ℕ)
      → ((e : Event) → NamesThere start e → number (any e) ≤ total (λ v. number (one v e)) n)
      → tally any ≤ total (λ v. count (one v) journal) n
  each any one n in_one = counted_there any one n (NamesThere start) in_one journal k.there

  -- STATES

  by_submits : (one : ℕ → Event → Bool) → ((v : ℕ) → count (one v) journal ≤ count (is_submit_in asked.ops v) journal)
      → of_each one ≤ tally (is_any_step false)
  by_submits one le =
      let less = total_le (λ v. count (one v) journal) (λ v. count (is_submit_in asked.ops v) journal) volumes
      (λ v lt. le v) in
      let once = submits_once asked.ops volumes journal in
      omega (arith, less, once)

  -- POINTS

  -- how many passes and takeovers a volume has at most
  abbrev parts : ℕ
  parts = 1 + tally is_applied + tally is_kill

  passes_in : (v : ℕ) → count (is_pass v) journal ≤ 1 + tally is_applied
  passes_in v =
      let counts = k.counts.volumes v in
      let ready = counts.ready in
      let pass = counts.pass in
      omega (arith, ready, pass)

  room_in : (v : ℕ) → AllByRecursion (λ e. PassOwes start asked v (checkpoints_of start any v) e.event) journal
  room_in v = all journal k.there k.passes
    where
      has_room : (started : Bool) (from spare : Bool) → started ≡ true → (from ≡ true) ⊎ (spare ≡ true) → (n : ℕ)
          → n ≤ cond (started && (spare || from)) n 0
      has_room true true spare is (inl from) n = at spare
        where
          at : (b : Bool) → n ≤ cond (b || true) n 0
          at true = omega arith
          at false = omega arith
      has_room true from true is (inr some) n = omega arith
      has_room true false spare is (inl bad) n = absurd cc
      has_room true from false is (inr bad) n = absurd cc
      has_room false from spare is some n = absurd cc

      one : (e : Event) → NamesThere start e → PassHasRoom start asked e
          → PassOwes start asked v (checkpoints_of start any v) e
      one (Pass w first) named room = λ here.
          let same : w.0 ≡ v = grind (arith, nat_tests, here) in
          has_room (start.is_started v) (is_some (start.pass_from v)) any
          (subst (λ u. start.is_started u ≡ true) same named)
          (subst (λ u. (is_some (start.pass_from u) ≡ true) ⊎ (any ≡ true)) same room)
          (rounds_of_rows (start.words.shape start.newest v).rows)
      one _ named room = tt

      all : (xs : List Entry) → AllByRecursion (λ e. NamesThere start e.event) xs
          → AllByRecursion (λ e. PassHasRoom start asked e.event) xs
          → AllByRecursion (λ e. PassOwes start asked v (checkpoints_of start any v) e.event) xs
      all [] named room = tt
      all (x ∷ xs) named room = (one x.event named.0 room.0, all xs named.1 room.1)

  points_in : (v : ℕ) → count (is_point v) journal ≤ checkpoints_of start any v * parts
  points_in v =
      let most = points_most start asked v (checkpoints_of start any v) journal
      (both_at (λ f e. PassAfter start asked f e.event) (PassOwes start asked v (checkpoints_of start any v)) [] journal
      k.counts.passes (room_in v)) in
      let passes = passes_in v in
      let kills = k.counts.takeovers in
      let few : count (is_pass v) journal + tally is_takeover ≤ parts = omega (arith, passes, kills) in
      let all = mul-le (checkpoints_of start any v) (count (is_pass v) journal + tally is_takeover)
      (checkpoints_of start any v) parts (omega arith) few in
      omega (arith, most, all)

  below_is : (n : ℕ) → total (λ v. checkpoints_of start any v * parts) n ≡ checkpoints_below start any n * parts
  below_is zero = grind arith
  below_is (suc n) = spread (checkpoints_below start any n) (checkpoints_of start any n) parts _ (below_is n)
    where
      spread : (a b s t : ℕ) → t ≡ a * s → t + b * s ≡ (a + b) * s
      spread a b s t is = grind (arith, is)

  abbrev causes_of_points : ℕ
  causes_of_points = length asked.asks + 2 * disks + 3 * tally is_kill + 2

  faults_few : tally is_any_fault ≤ disks
  faults_few =
      let all = each is_any_fault is_fault disks fault_there in
      let ones = total_ones (λ d. count (is_fault d) journal) disks (λ d. (k.counts.disks d).fault) in
      omega (arith, all, ones)

  settled_few : tally is_applied + tally is_declined ≤ tally is_posted
  settled_few = let both = settled_counted journal in let le = k.counts.settled in omega (arith, both, le)

  parts_few : parts ≤ causes_of_points
  parts_few =
      let faults = faults_few in
      let settled = settled_few in
      let posts = k.counts.posts in
      omega (arith, faults, settled, posts)

  points_few : tally is_any_point ≤ checkpoints_below start any volumes * causes_of_points
  points_few =
      let all = each is_any_point is_point volumes point_there in
      let each_one = total_le (λ v. count (is_point v) journal) (λ v. checkpoints_of start any v * parts) volumes
      (λ v lt. points_in v) in
      let sum = below_is volumes in
      let most = mul-le (checkpoints_below start any volumes) parts (checkpoints_below start any volumes)
      causes_of_points (omega arith) parts_few in
      omega (arith, all, each_one, sum, most)

  -- ALL OF THEM

  bounds : Bounds (length asked.ops) (length asked.asks) disks
      (checkpoints_below start any volumes * causes_of_points) tally
  bounds = record {
    submits = steps_most asked.ops journal k.named k.order false;
    acks = steps_most asked.ops journal k.named k.order true;
    pending =
        let all = each is_any_pending is_pending volumes pending_there in
        let le = by_submits is_pending (λ v. (k.counts.volumes v).pending) in
        omega (arith, all, le);
    active =
        let all = each is_any_active is_active volumes active_there in
        let le = by_submits is_active (λ v. let counts = k.counts.volumes v in let active = counts.active in
        let pending = counts.pending in omega (arith, active, pending)) in
        omega (arith, all, le);
    idle =
        let all = each is_any_idle is_idle volumes idle_there in
        let le = by_submits is_idle (λ v. (k.counts.volumes v).idle) in
        omega (arith, all, le);
    clean =
        let all = each is_any_clean is_clean volumes clean_there in
        let le = by_submits is_clean (λ v. let counts = k.counts.volumes v in let clean = counts.clean in
        let idle = counts.idle in omega (arith, clean, idle)) in
        omega (arith, all, le);
    ready =
        let all = each is_any_ready is_ready volumes ready_there in
        let two = two_most (λ v. count (is_ready v) journal) volumes k.few.few in
        let first = (k.counts.volumes 0).ready in
        let second = (k.counts.volumes 1).ready in
        omega (arith, all, two, first, second);
    passes =
        let all = each is_any_pass is_pass volumes pass_there in
        let two = two_most (λ v. count (is_pass v) journal) volumes k.few.few in
        let first = passes_in 0 in
        let second = passes_in 1 in
        omega (arith, all, two, first, second);
    pass_ends =
        let all = each is_any_pass_end is_pass_end volumes end_there in
        let two = two_most (λ v. count (is_pass_end v) journal) volumes k.few.few in
        let first = (k.counts.volumes 0).pass_end in
        let second = (k.counts.volumes 1).pass_end in
        let passes = passes_in 0 in
        let others = passes_in 1 in
        omega (arith, all, two, first, second, passes, others);
    points = points_few;
    begins = k.counts.begins;
    ends = k.counts.ends;
    spares = k.counts.spares;
    settled = settled_few;
    posts = k.counts.posts;
    faults = faults_few;
    unblocks =
        let all = each is_any_unblock is_unblock disks unblock_there in
        let ones = total_ones (λ d. count (is_unblock d) journal) disks (λ d. (k.counts.disks d).unblock) in
        omega (arith, all, ones);
    takeovers = k.counts.takeovers;
  }

  three_times : (c y : ℕ) → 3 * c * y ≡ 3 * (c * y)
  three_times c y = grind arith

  pub short : IsShort start asked journal
  short =
      let most = all_short (length asked.ops) (length asked.asks) disks
      (checkpoints_below start any volumes * causes_of_points) tally bounds in
      let long = length_counted journal in
      let times = three_times (checkpoints_below start any volumes) causes_of_points in
      omega (arith, most, long, times)
