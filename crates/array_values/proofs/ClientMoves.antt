-- The rows where a client moves without a call: it submits, begins, loses a call, or is answered.
use Rattle.std.proofs.Common.{◌≡◌, ℕ, zero, suc, ◌<◌, Bool, true, false, List, [], ◌∷◌, ◌++◌, length, refl, ap, sym, ◌∙◌, subst, arith, Option, Some, None, ◌⊎◌, inl, inr}
use Rattle.std.specs.List.{AllByRecursion}
use Rattle.std.proofs.lemmas.Bool.Decides.{nat_tests}
use Rattle.device_log.specs.Log.{Call}
use Rattle.array_model.specs.declared.journal.Entry.{Entry}
use Rattle.array_model.specs.declared.journal.Answer.{Answer}
use Rattle.array_model.specs.declared.script.Op.{Op}
use Rattle.array_model.specs.Script.{is_of_client_in}
use Rattle.array_model.specs.Events.{is_done}
use Rattle.array_machine.specs.Setting.{Setting}
use Rattle.array_machine.specs.Numbers.{has}
use Rattle.array_machine.specs.Volumes.{Slot, disk_in, disks_of, same_disk, member_at, member_of}
use Rattle.array_machine.specs.Operations.{volume_of, value_at, is_write}
use Rattle.array_machine.specs.Clients.{Row, Job, NoJob, Busy, Client, client_at, with_job}
use Rattle.array_machine.specs.RowJobs.{seen_as, members_since, disks_begun}
use Rattle.array_machine.specs.Control.{Control}
use Rattle.array_machine.specs.Changes.{ClientMoves, ClientWord, Acknowledges, client_entry}
use Rattle.array_machine.specs.Puts.{put}
use Rattle.array_machine.specs.Machine.{entered}
use Rattle.array_paths.specs.InTurn.{is_broken, job_of, left_of}
use Rattle.array_paths.specs.PassMove.{slots_of}
use Rattle.array_order.specs.ClientSteps.{op_in}
use Rattle.array_order.specs.ClientOrder.{IsOwn, InOrder}
use Rattle.array_values.specs.Copies.{sector_at, IsCopied}
use Rattle.array_values.proofs.Journal.{IsNoAnswer, SubmitsOther, content_stays, unsure_stays, submitted_stays, content_unwritten, unsure_unwritten}
use Rattle.array_values.proofs.Rows.{disk_then, content_at, is_unsure_at, stood, Counts, WriterHolds, ReaderHolds, RowsHold}
use Rattle.array_values.proofs.Pairs.{working_by}
use Rattle.array_values.proofs.ClientRows.{client_rows}

-- CLIENTS AND DISKS

pub there_by_job : (cs : List Client) (k : ℕ) (job : Job) → (client_at cs k).job ≡ job → (job ≡ NoJob → ⊥)
    → k < length cs
there_by_job [] k job is some = absurd (some (sym is))
there_by_job (x ∷ xs) zero job is some = omega arith
there_by_job (x ∷ xs) (suc k) job is some =
    let more : k < length xs = there_by_job xs k job is some in omega arith

pub there_by_left : (cs : List Client) (k i : ℕ) (rest : List ℕ) → (client_at cs k).left ≡ i ∷ rest → k < length cs
there_by_left [] k i rest is = absurd cc
there_by_left (x ∷ xs) zero i rest is = omega arith
there_by_left (x ∷ xs) (suc k) i rest is =
    let more : k < length xs = there_by_left xs k i rest is in omega arith

pub disks_then : (slots : List Slot) (s : ℕ) → disk_then (disks_of slots) s ≡ disk_in slots s
disks_then [] s = refl
disks_then (x ∷ xs) zero = refl
disks_then (x ∷ xs) (suc s) = disks_then xs s

-- a slot whose disk is the one that the job saw works for it
pub since_works : (faults blocked : List ℕ) (disks : List (Option ℕ)) (slots : List Slot) (s d : ℕ)
    → disk_then disks s ≡ Some d → disk_in slots s ≡ Some d → has d faults ≡ false
    → (member_at (members_since disks faults blocked slots) s).working ≡ true
since_works faults blocked [] slots s d was is works = absurd cc
since_works faults blocked (o ∷ os) [] s d was is works = absurd cc
since_works faults blocked (o ∷ os) (x ∷ xs) zero d was is works =
    let both : same_disk o x.disk ≡ true =
    subst (λ (a : Option ℕ). same_disk a x.disk ≡ true) (sym was)
    (subst (λ (b : Option ℕ). same_disk (Some d) b ≡ true) (sym is) (grind (arith, nat_tests))) in
    ap (λ b. (seen_as b (member_of faults blocked x)).working) both ∙ working_by faults blocked (x ∷ []) 0 d is works
since_works faults blocked (o ∷ os) (x ∷ xs) (suc s) d was is works =
    since_works faults blocked os xs s d was is works

pub one_job : (i j : ℕ) (r q : Row) → Busy i r ≡ Busy j q → (i ≡ j) × (r ≡ q)
one_job i j r q e = (cc e, cc e)

module _ (S : Setting) where
  one_owner : (k m i j : ℕ) → IsOwn S k i → IsOwn S m j → i ≡ j → m ≡ k
  one_owner k m i j own other same = at (slice_get_op i) own (subst (λ n. IsOwn S m n) (sym same) other)
    where
      slice_get_op : ℕ → Option Op
      slice_get_op n = Rattle.std.specs.Prelude.slice_get S.asked.ops n

      at : (op : Option Op) → is_of_client_in k op ≡ true → is_of_client_in m op ≡ true → m ≡ k
      at None a b = absurd cc
      at (Some op) a b = grind (arith, nat_tests, a, b)

  module _ (c : Control) (log : List Call) (journal : List Entry) (n : ℕ) (order : InOrder S c journal)
      (rows : RowsHold S c log journal) (k : ℕ) where
    abbrev NoHit : ℕ → Type 0
    NoHit j = ⊥

    abbrev after : ClientWord → List Entry
    after word = journal ++ entered n (client_entry word)

    -- THE JOB BEHIND A CALL THAT WROTE NOTHING

    -- a write that has begun by now, and has written what it had
    pub begun_writer : (i : ℕ) (r q : Row) → job_of c k ≡ Busy i r → is_write S i ≡ true → IsCopied S i
        → q.begun ≡ true → q.written ≡ r.written
        → q.disks ≡ disks_begun r.begun r.disks (slots_of c (volume_of S i)) → WriterHolds S c log i q
    begun_writer i r q has_it writes copied begun written disks = record {
      early = λ not_begun. absurd (cc (begun, not_begun));
      wrote = λ b s d counts h. wrote r.begun refl s d counts (sym (ap (has s) written) ∙ h);
      saw = λ b s d counts h. saw r.begun refl s d counts (sym (ap (has s) written) ∙ h);
    }
      where
        old : WriterHolds S c log i r
        old = rows.writers k i r has_it writes copied

        wrote : (b : Bool) → r.begun ≡ b → (s d : ℕ) → Counts S c i s d → has s r.written ≡ true
            → stood S log i d ≡ value_at S i
        wrote true is s d counts h = old.wrote is s d counts h
        wrote false is s d counts h =
            absurd (let none : has s r.written ≡ false = ap (has s) (old.early is) in cc (none, h))

        saw : (b : Bool) → r.begun ≡ b → (s d : ℕ) → Counts S c i s d → has s r.written ≡ false
            → disk_then q.disks s ≡ Some d
        saw true is s d counts h =
            ap (λ ds. disk_then ds s)
            (disks ∙ ap (λ b. disks_begun b r.disks (slots_of c (volume_of S i))) is)
            ∙ old.saw is s d counts h
        saw false is s d counts h =
            ap (λ ds. disk_then ds s)
            (disks ∙ ap (λ b. disks_begun b r.disks (slots_of c (volume_of S i))) is)
            ∙ disks_then (slots_of c (volume_of S i)) s ∙ counts.disk

    -- SILENT MOVES

    -- contents stay
    pub silent : (new : Client) (word : ClientWord) → k < length c.clients
        → ((j : ℕ) → (content_at S (after word) j ≡ content_at S journal j)
        × (is_unsure_at S (after word) j ≡ is_unsure_at S journal j))
        → ((m j : ℕ) (r : Row) → (m ≡ k → ⊥) → job_of c m ≡ Busy j r → SubmitsOther j (client_entry word))
        → ((op : ℕ) (r : Row) → job_of c k ≡ Busy op r → r.begun ≡ true → is_write S op ≡ true
        → is_broken c (volume_of S op) ≡ false → (q : Row) × (new.job ≡ Busy op q) × (q.begun ≡ true))
        → ((i : ℕ) (q : Row) → new.job ≡ Busy i q → is_write S i ≡ true → IsCopied S i → WriterHolds S c log i q)
        → ((i : ℕ) (q : Row) → new.job ≡ Busy i q → is_write S i ≡ false → IsCopied S i
        → ReaderHolds S log (after word) i q)
        → RowsHold S (put S (ClientMoves k new word) c) log (after word)
    silent new word there content submitted goes_on writes reads =
        client_rows S c k new word log None journal (after word) NoHit (record {
          there = there;
          kept_out = λ m j r other is begun hit. hit;
          no_pass = λ v j p is volume row lock hit. hit;
          cell = λ j s d copied sound pair disk works. inl refl;
          content = λ j. inl (content j);
          submitted = λ m j r other is. submitted_stays S journal n j (client_entry word) (submitted m j r other is);
          hit = λ j s d copied counts hit. absurd hit;
          goes_on = λ op r is begun w sound. inr (goes_on op r is begun w sound);
          writes = writes;
          reads = reads;
        }) rows

    pub quiet : (word : ClientWord) → IsNoAnswer (client_entry word) → (j : ℕ)
        → (content_at S (after word) j ≡ content_at S journal j)
        × (is_unsure_at S (after word) j ≡ is_unsure_at S journal j)
    quiet word calm j = (
      content_stays S journal n (client_entry word) calm (volume_of S j) (sector_at S j),
      unsure_stays S journal n (client_entry word) calm (volume_of S j) (sector_at S j),
    )

    -- an answer that says of no write that it is done
    undone : (i : ℕ) (answer : Answer) → (is_write S i ≡ false) ⊎ (is_done answer ≡ false) → (j : ℕ)
        → (content_at S (after (Acknowledges i answer)) j ≡ content_at S journal j)
        × (is_unsure_at S (after (Acknowledges i answer)) j ≡ is_unsure_at S journal j)
    undone i answer none j = (
      content_unwritten S journal n i answer none (volume_of S j) (sector_at S j),
      unsure_unwritten S journal n i answer none (volume_of S j) (sector_at S j),
    )

    pub submits_other : (i : ℕ) (rest : List ℕ) → left_of c k ≡ i ∷ rest → (m j : ℕ) (r : Row) → (m ≡ k → ⊥)
        → job_of c m ≡ Busy j r → i ≡ j → ⊥
    submits_other i rest left m j r other is same =
        let own : IsOwn S k i = (subst (AllByRecursion (IsOwn S k)) left (order.own k)).0 in
        other (one_owner k m i j own (order.has m j (ap op_in is)) same)

    -- ends with an answer, no write of its own going on
    pub answered : (i : ℕ) (answer : Answer) (left : List ℕ) → k < length c.clients
        → (is_write S i ≡ false) ⊎ (is_done answer ≡ false)
        → ((op : ℕ) (r : Row) → job_of c k ≡ Busy op r → r.begun ≡ true → is_write S op ≡ true
        → is_broken c (volume_of S op) ≡ false → ⊥)
        → RowsHold S (put S (ClientMoves k (with_job left NoJob) (Acknowledges i answer)) c) log
        (after (Acknowledges i answer))
    answered i answer left there none over =
        silent (with_job left NoJob) (Acknowledges i answer) there (undone i answer none) (λ m j r other is. tt)
        (λ op r is begun w sound. absurd (over op r is begun w sound)) (λ j q is. absurd cc) (λ j q is. absurd cc)
