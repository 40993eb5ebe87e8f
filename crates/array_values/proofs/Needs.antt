-- What a job's need says of its row, and whom a lock keeps out.
use Rattle.std.proofs.Common.{◌≡◌, ℕ, zero, suc, ◌+◌, ◌<◌, ◌==◌, ◌||◌, ◌&&◌, not, nat_lt, Bool, true, false, List, [], ◌∷◌, ◌++◌, length, refl, ap, sym, ◌∙◌, arith, Option, Some, cond}
use Rattle.std.specs.Prelude.{filter}
use Rattle.std.specs.Option.{option_map_or}
use Rattle.std.proofs.lemmas.Bool.Decides.{nat_tests}
use Rattle.units.specs.declared.bounds.TheConstants.{CLIENTS}
use Rattle.array_model.specs.declared.journal.Answer.{Answer}
use Rattle.array_model.specs.declared.journal.Answer.TheVariants.{Done, Value}
use Rattle.array_machine.specs.Setting.{Setting}
use Rattle.array_machine.specs.Numbers.{has}
use Rattle.array_machine.specs.Volumes.{slot_at, disk_in, Member, member_at, Pass, Volume, source_if, source_in}
use Rattle.array_machine.specs.Operations.{volume_of, shape_of}
use Rattle.array_machine.specs.Clients.{Row, Job, Busy, Client, client_at}
use Rattle.array_machine.specs.RowJobs.{Need, Reads, Writes, Syncs, Answers, read_or, write_or, sync_or, answer_if, any_blocked, unwritten, unsynced, after_reads, targets_in, xor_got}
use Rattle.array_machine.specs.ClientTurns.{is_held}
use Rattle.array_machine.specs.Locks.{holds, locked_from, pass_holds, is_locked}
use Rattle.array_machine.specs.SyncTurns.{is_free_row}
use Rattle.array_machine.specs.Control.{Control}
use Rattle.array_paths.specs.InTurn.{job_of}
use Rattle.array_values.specs.Copies.{row_at}
use Rattle.array_values.proofs.Rows.{pass_of}

-- FILTERS

pub filter_first : (f : ℕ → Bool) (xs : List ℕ) (s : ℕ) (more : List ℕ) → filter f xs ≡ s ∷ more
    → (f s ≡ true) × (has s xs ≡ true)
filter_first f [] s more is = absurd cc
filter_first f (x ∷ xs) s more is = at (f x) refl is (filter_first f xs s more)
  where
    at : (b : Bool) → f x ≡ b → cond b (x ∷ filter f xs) (filter f xs) ≡ s ∷ more
        → (filter f xs ≡ s ∷ more → (f s ≡ true) × (has s xs ≡ true)) → (f s ≡ true) × (((x == s) || has s xs) ≡ true)
    at true t e rest =
        let same : x ≡ s = cc e in
        let here : (x == s) ≡ true = grind (arith, nat_tests, same) in
        (ap f (sym same) ∙ t, rw here refl)
    at false t e rest = let m = rest e in (m.0, right (x == s) (has s xs) m.1)
      where
        right : (a b : Bool) → b ≡ true → (a || b) ≡ true
        right true b e = refl
        right false b e = e

pub filter_none : (f : ℕ → Bool) (xs : List ℕ) (s : ℕ) → filter f xs ≡ [] → has s xs ≡ true → f s ≡ false
filter_none f [] s is i = absurd cc
filter_none f (x ∷ xs) s is i = at (f x) refl is (x == s) refl i (filter_none f xs s)
  where
    at : (b : Bool) → f x ≡ b → cond b (x ∷ filter f xs) (filter f xs) ≡ [] → (u : Bool) → (x == s) ≡ u
        → (u || has s xs) ≡ true → (filter f xs ≡ [] → has s xs ≡ true → f s ≡ false) → f s ≡ false
    at true t e u here i rest = absurd cc
    at false t e true here i rest = let same : x ≡ s = grind (arith, nat_tests, here) in ap f (sym same) ∙ t
    at false t e false here i rest = rest e i

pub to_filter : (f : ℕ → Bool) (xs : List ℕ) (s : ℕ) → has s xs ≡ true → f s ≡ true → has s (filter f xs) ≡ true
to_filter f [] s h t = absurd cc
to_filter f (y ∷ ys) s h t = by (f y) refl (y == s) refl h (λ k. to_filter f ys s k t)
  where
    tail : (u : Bool) → (y == s) ≡ u → (u || has s ys) ≡ true → (has s ys ≡ true → has s (filter f ys) ≡ true)
        → ((y == s) || has s (filter f ys)) ≡ true
    tail true yu h more = rw yu refl
    tail false yu h more = rw yu (more h)

    by : (b : Bool) → f y ≡ b → (u : Bool) → (y == s) ≡ u → (u || has s ys) ≡ true
        → (has s ys ≡ true → has s (filter f ys) ≡ true) → has s (cond b (y ∷ filter f ys) (filter f ys)) ≡ true
    by true fy u yu h more = tail u yu h more
    by false fy true yu h more =
        absurd (let same : y ≡ s = grind (arith, nat_tests, yu) in let eq = ap f same in cc (eq, fy, t))
    by false fy false yu h more = more h

pub from_filter : (f : ℕ → Bool) (xs : List ℕ) (s : ℕ) → has s (filter f xs) ≡ true → has s xs ≡ true
from_filter f [] s h = absurd cc
from_filter f (x ∷ xs) s h = at (f x) h (from_filter f xs s)
  where
    right : (a b : Bool) → b ≡ true → (a || b) ≡ true
    right true b e = refl
    right false b e = e

    left_too : (a b c : Bool) → (a || b) ≡ true → (b ≡ true → c ≡ true) → (a || c) ≡ true
    left_too true b c e more = refl
    left_too false b c e more = more e

    at : (b : Bool) → has s (cond b (x ∷ filter f xs) (filter f xs)) ≡ true
        → (has s (filter f xs) ≡ true → has s xs ≡ true) → ((x == s) || has s xs) ≡ true
    at true h more = left_too (x == s) (has s (filter f xs)) (has s xs) h more
    at false h more = right (x == s) (has s xs) (more h)

pub not_true : (b : Bool) → not b ≡ true → b ≡ false
not_true true h = absurd cc
not_true false h = refl

pub not_false : (b : Bool) → not b ≡ false → b ≡ true
not_false true h = refl
not_false false h = absurd cc

pub or_none : (a b : Bool) → (a || b) ≡ false → (a ≡ false) × (b ≡ false)
or_none true b h = absurd cc
or_none false b h = (refl, h)

pub both_true : (a b : Bool) → (a && b) ≡ true → (a ≡ true) × (b ≡ true)
both_true true b h = (refl, h)
both_true false b h = absurd cc

-- a slot that may be read is in sync
pub source_is : (x : Volume) (s d : ℕ) → source_in x s ≡ Some d
    → ((slot_at x.slots s).in_sync ≡ true) × (disk_in x.slots s ≡ Some d)
source_is x s d is = at x.started (slot_at x.slots s).in_sync refl is
  where
    at : (a b : Bool) → (slot_at x.slots s).in_sync ≡ b → source_if (a && b) (disk_in x.slots s) ≡ Some d
        → ((slot_at x.slots s).in_sync ≡ true) × (disk_in x.slots s ≡ Some d)
    at true true sync is = (sync, is)
    at true false sync is = absurd cc
    at false b sync is = absurd cc

-- one more at the end
pub has_last : (xs : List ℕ) (s t : ℕ) → has t (xs ++ s ∷ []) ≡ (has t xs || (s == t))
has_last [] s t = at (s == t)
  where
    at : (b : Bool) → (b || false) ≡ b
    at true = refl
    at false = refl
has_last (x ∷ xs) s t = ap (λ b. (x == t) || b) (has_last xs s t) ∙ sym (assoc (x == t) (has t xs) (s == t))
  where
    assoc : (a b e : Bool) → ((a || b) || e) ≡ (a || (b || e))
    assoc true b e = refl
    assoc false b e = refl

-- NEEDS

-- what is left to read decides
pub need_reads : (left : List ℕ) (after : Need) (s : ℕ) → read_or left after ≡ Reads s
    → ((t : ℕ) → after ≡ Reads t → ⊥) → (more : List ℕ) × (left ≡ s ∷ more)
need_reads [] after s is never = absurd (never s is)
need_reads (x ∷ xs) after s is never = let same : x ≡ s = cc is in (xs, ap (λ n. n ∷ xs) same)

answers_only : (b : Bool) (answer : Answer) (s : ℕ) → (answer_if b answer ≡ Reads s → ⊥)
    × (answer_if b answer ≡ Writes s → ⊥)
answers_only true answer s = ((λ e. absurd cc), (λ e. absurd cc))
answers_only false answer s = ((λ e. absurd cc), (λ e. absurd cc))

syncs_only : (left : List ℕ) (b : Bool) (s : ℕ) → (sync_or left (answer_if b Done) ≡ Reads s → ⊥)
    × (sync_or left (answer_if b Done) ≡ Writes s → ⊥)
syncs_only [] b s = answers_only b Done s
syncs_only (x ∷ xs) b s = ((λ e. absurd cc), (λ e. absurd cc))

writes_only : (left rest : List ℕ) (b : Bool) (s : ℕ) → write_or left (sync_or rest (answer_if b Done)) ≡ Reads s → ⊥
writes_only [] rest b s is = (syncs_only rest b s).0 is
writes_only (x ∷ xs) rest b s is = absurd cc

write_first : (left rest : List ℕ) (b : Bool) (s : ℕ) → write_or left (sync_or rest (answer_if b Done)) ≡ Writes s
    → (more : List ℕ) × (left ≡ s ∷ more)
write_first [] rest b s is = absurd ((syncs_only rest b s).1 is)
write_first (x ∷ xs) rest b s is = let same : x ≡ s = cc is in (xs, ap (λ n. n ∷ xs) same)

answer_last : (b : Bool) (given answer : Answer) → answer_if b given ≡ Answers answer → answer ≡ given
answer_last true given answer is = absurd cc
answer_last false given answer is = let same : given ≡ answer = cc is in sym same

sync_last : (left : List ℕ) (b : Bool) (answer : Answer) → sync_or left (answer_if b Done) ≡ Answers answer
    → answer ≡ Done
sync_last [] b answer is = answer_last b Done answer is
sync_last (x ∷ xs) b answer is = absurd cc

write_last : (left rest : List ℕ) (b : Bool) (answer : Answer)
    → write_or left (sync_or rest (answer_if b Done)) ≡ Answers answer → (left ≡ []) × (answer ≡ Done)
write_last [] rest b answer is = (refl, sync_last rest b answer is)
write_last (x ∷ xs) rest b answer is = absurd cc

read_past : (left : List ℕ) (after need : Need) → read_or left after ≡ need → ((s : ℕ) → need ≡ Reads s → ⊥)
    → (left ≡ []) × (after ≡ need)
read_past [] after need is never = (refl, is)
read_past (x ∷ xs) after need is never = absurd (never x (sym is))

module _ (S : Setting) (ms : List Member) (pair left : List ℕ) (r : Row) where
  -- after its reads no job reads
  pub reads_left : (w : Bool) (s : ℕ) → read_or left (after_reads S ms pair w r) ≡ Reads s
      → (more : List ℕ) × (left ≡ s ∷ more)
  reads_left w s is = need_reads left (after_reads S ms pair w r) s is (never w)
    where
      never : (w : Bool) → (t : ℕ) → after_reads S ms pair w r ≡ Reads t → ⊥
      never false t e = (answers_only (any_blocked ms pair) (Value (xor_got S r.got)) t).0 e
      never true t e = writes_only (unwritten ms pair r) (unsynced ms pair r) (any_blocked ms pair) t e

  -- a write goes to a slot of the pair
  pub writes_in : (w : Bool) (s : ℕ) → read_or left (after_reads S ms pair w r) ≡ Writes s
      → (w ≡ true) × (has s pair ≡ true)
  writes_in w s is = by w (read_past left (after_reads S ms pair w r) (Writes s) is (λ t e. absurd cc)).1
    where
      among : has s (targets_in ms pair) ≡ true → has s pair ≡ true
      among h = from_filter (λ t. (member_at ms t).working) pair s h

      by : (w : Bool) → after_reads S ms pair w r ≡ Writes s → (w ≡ true) × (has s pair ≡ true)
      by false e = absurd ((answers_only (any_blocked ms pair) (Value (xor_got S r.got)) s).1 e)
      by true e =
          let first = write_first (unwritten ms pair r) (unsynced ms pair r) (any_blocked ms pair) s e in
          (refl, among (filter_first (λ t. not (has t r.written)) (targets_in ms pair) s first.0 first.1).1)

  -- only a write syncs
  pub syncs_write : (w : Bool) (s : ℕ) → read_or left (after_reads S ms pair w r) ≡ Syncs s → w ≡ true
  syncs_write true s is = refl
  syncs_write false s is = absurd (never (any_blocked ms pair)
      (read_past left (after_reads S ms pair false r) (Syncs s) is (λ t e. absurd cc)).1)
    where
      never : (b : Bool) → answer_if b (Value (xor_got S r.got)) ≡ Syncs s → ⊥
      never true e = absurd cc
      never false e = absurd cc

  -- an answer to a write: each slot of the pair that works was written
  pub done_is : (answer : Answer) → read_or left (after_reads S ms pair true r) ≡ Answers answer
      → (answer ≡ Done) × ((s : ℕ) → has s pair ≡ true → (member_at ms s).working ≡ true → has s r.written ≡ true)
  done_is answer is =
      let past = read_past left (after_reads S ms pair true r) (Answers answer) is (λ t e. absurd cc) in
      let last = write_last (unwritten ms pair r) (unsynced ms pair r) (any_blocked ms pair) answer past.1 in (
        last.1,
        λ s h w. not_false (has s r.written)
            (filter_none (λ t. not (has t r.written)) (targets_in ms pair) s last.0
            (to_filter (λ t. (member_at ms t).working) pair s h w)),
      )

  -- to a read: nothing is left to read, and it is what was read
  pub value_is : (answer : Answer) → read_or left (after_reads S ms pair false r) ≡ Answers answer
      → (left ≡ []) × (answer ≡ Value (xor_got S r.got))
  value_is answer is =
      let past = read_past left (after_reads S ms pair false r) (Answers answer) is (λ t e. absurd cc) in
      (past.0, answer_last (any_blocked ms pair) (Value (xor_got S r.got)) answer past.1)

-- LOCKS

module _ (S : Setting) (v row : ℕ) where
  holds_it : (job : Job) (i : ℕ) (r : Row) → job ≡ Busy i r → r.begun ≡ true → volume_of S i ≡ v → row_at S i ≡ row
      → holds S v row job ≡ true
  holds_it job i r is begun volume same =
      let one : (volume_of S i == v) ≡ true = grind (arith, nat_tests, volume) in
      let two : (row_at S i == row) ≡ true = grind (arith, nat_tests, same) in
      ap (holds S v row) is ∙ rw (begun, one, two) refl

  -- who holds it is the client that is left out
  only_one : (k j : ℕ) (cs : List Client) → locked_from S v row k j cs ≡ false → (n i : ℕ) (r : Row)
      → (client_at cs n).job ≡ Busy i r → r.begun ≡ true → volume_of S i ≡ v → row_at S i ≡ row → j + n ≡ k
  only_one k j [] free n i r is begun volume same = absurd cc
  only_one k j (x ∷ xs) free zero i r is begun volume same =
      let held = holds_it x.job i r is begun volume same in
      at (j == k) refl (or_none (not (j == k) && holds S v row x.job) (locked_from S v row k (j + 1) xs) free).0 held
    where
      at : (b : Bool) → (j == k) ≡ b → (not b && holds S v row x.job) ≡ false → holds S v row x.job ≡ true → j + 0 ≡ k
      at true e no_one held = grind (arith, nat_tests, e)
      at false e no_one held = absurd (cc (no_one, held))
  only_one k j (x ∷ xs) free (suc n) i r is begun volume same =
      let more = only_one k (j + 1) xs
      (or_none (not (j == k) && holds S v row x.job) (locked_from S v row k (j + 1) xs) free).1 n i r is begun volume same in
      omega (arith, more)

pub there_by_job : (cs : List Client) (k i : ℕ) (r : Row) → (client_at cs k).job ≡ Busy i r → k < length cs
there_by_job [] k i r is = absurd cc
there_by_job (x ∷ xs) zero i r is = omega arith
there_by_job (x ∷ xs) (suc k) i r is = let more : k < length xs = there_by_job xs k i r is in omega arith

module _ (S : Setting) (c : Control) where
  -- no job has begun in the row
  abbrev pub IsFreeRow : (v row : ℕ) → Type 0
  IsFreeRow v row =
      (k i : ℕ) (r : Row) → job_of c k ≡ Busy i r → r.begun ≡ true → volume_of S i ≡ v → row_at S i ≡ row → ⊥

  -- a job that isn't held: no other has begun in its row, and the pass doesn't hold it
  module _ (k i : ℕ) (free : is_held S c k i ≡ false) where
    unlocked : is_locked S c (volume_of S i) (row_at S i) k ≡ false
    unlocked = (or_none _ (is_locked S c (volume_of S i) (row_at S i) k) free).1

    pub alone : (n j : ℕ) (r : Row) → job_of c n ≡ Busy j r → r.begun ≡ true → volume_of S j ≡ volume_of S i
        → row_at S j ≡ row_at S i → n ≡ k
    alone n j r is begun volume same =
        let it = only_one S (volume_of S i) (row_at S i) k 0 c.clients (or_none _ _ unlocked).0 n j r is begun volume same in
        omega (arith, it)

    pub no_pass : (p : Pass) → pass_of c (volume_of S i) ≡ Some p → p.lock ≡ Some (row_at S i) → ⊥
    no_pass p is lock = cc (held, free_pass)
      where
        same : (row_at S i == row_at S i) ≡ true
        same = grind (arith, nat_tests)

        free_pass : pass_holds (row_at S i) (pass_of c (volume_of S i)) ≡ false
        free_pass =
            (or_none (locked_from S (volume_of S i) (row_at S i) k 0 c.clients)
            (pass_holds (row_at S i) (pass_of c (volume_of S i))) unlocked).1

        held : pass_holds (row_at S i) (pass_of c (volume_of S i)) ≡ true
        held = ap (pass_holds (row_at S i)) is
            ∙ ap (λ (o : Option ℕ). option_map_or (λ r. r == row_at S i) o false) lock ∙ same

  -- a row that is free for a pass
  pub free_row : (v row : ℕ) → length c.clients ≡ CLIENTS → is_free_row S c v row ≡ true
      → (row < (shape_of S v).rows) × IsFreeRow v row
  free_row v row few free =
      let parts = both_true (nat_lt row (shape_of S v).rows) (not (locked_from S v row CLIENTS 0 c.clients)) free in
      let below = parts.0 in (
        grind (arith, nat_tests, below),
        λ k i r is begun volume same.
            let it = only_one S v row CLIENTS 0 c.clients (not_true _ parts.1) k i r is begun volume same in
            let there = there_by_job c.clients k i r is in
            omega (arith, it, there, few),
      )
