-- The rows where one client moves: what it leaves alone, and what it may change while it holds its row alone.
use Rattle.std.proofs.Common.{◌≡◌, ℕ, zero, suc, ◌<◌, true, false, List, [], ◌∷◌, length, refl, ap, sym, ◌∙◌, subst, arith, length-set, Option, Some, ◌⊎◌, inl, inr, slice_set}
use Rattle.device_log.specs.Log.{Call}
use Rattle.array_model.specs.declared.journal.Entry.{Entry}
use Rattle.array_model.specs.AnswerLaw.{submitted_from}
use Rattle.array_machine.specs.Setting.{Setting}
use Rattle.array_machine.specs.Numbers.{has}
use Rattle.array_machine.specs.Volumes.{Pass}
use Rattle.array_machine.specs.Operations.{volume_of, the_place, is_write}
use Rattle.array_machine.specs.Clients.{Row, Busy, Client, client_at}
use Rattle.array_machine.specs.Control.{Control}
use Rattle.array_machine.specs.Changes.{ClientMoves, ClientWord}
use Rattle.array_machine.specs.Puts.{put}
use Rattle.array_machine.specs.Machine.{log_after}
use Rattle.array_paths.specs.InTurn.{is_broken, job_of}
use Rattle.array_values.specs.Copies.{sector_at, row_at, IsCopied, InPair}
use Rattle.array_values.proofs.Rows.{pass_of, disk_of, read_of, content_at, is_unsure_at, stood, Counts, IsWriting, Tells, WriterHolds, HasRead, ReaderHolds, ReadOnce, PassHolds, MayRead, RowsHold}
use Rattle.array_values.proofs.Stays.{given_later}

-- a client that is set in a list, or another one
pub client_set : (cs : List Client) (k : ℕ) (x : Client) (n : ℕ) → k < length cs
    → ((n ≡ k) × (client_at (slice_set cs k x) n ≡ x))
    ⊎ ((n ≡ k → ⊥) × (client_at (slice_set cs k x) n ≡ client_at cs n))
client_set [] k x n lt = absurd (omega (arith, lt))
client_set (y ∷ ys) zero x zero lt = inl (refl, refl)
client_set (y ∷ ys) zero x (suc n) lt = inr ((λ e. omega (arith, e)), refl)
client_set (y ∷ ys) (suc k) x zero lt = inr ((λ e. omega (arith, e)), refl)
client_set (y ∷ ys) (suc k) x (suc n) lt = elim (client_set ys k x n (omega (arith, lt))) [
  | inl here ↦ inl (ap suc here.0, here.1)
  | inr there ↦ inr ((λ e. there.0 (omega (arith, e))), there.1)
]

-- What a client's move rests on: no other job has begun where a sector is hit, and no pass holds the row; all else stays.
-- The client's own write that had begun goes on, unless its sector is hit.
pub record ClientStep (S : Setting) (c : Control) (k : ℕ) (new : Client) (word : ClientWord) (log : List Call)
    (call : Option Call) (journal now : List Entry) (Hit : ℕ → Type 0) : Type 0 where
  pub there : k < length c.clients
  pub kept_out : (m j : ℕ) (r : Row) → (m ≡ k → ⊥) → job_of c m ≡ Busy j r → r.begun ≡ true → Hit j → ⊥
  pub no_pass : (v j : ℕ) (p : Pass) → pass_of c v ≡ Some p → volume_of S j ≡ v → row_at S j ≡ p.row
      → p.lock ≡ Some p.row → Hit j → ⊥
  pub cell : (j s d : ℕ) → IsCopied S j → is_broken c (volume_of S j) ≡ false → InPair (the_place S j) s
      → disk_of c (volume_of S j) s ≡ Some d → has d c.round.faults ≡ false
      → (stood S (log_after log call) j d ≡ stood S log j d) ⊎ Hit j
  pub content : (j : ℕ) → ((content_at S now j ≡ content_at S journal j)
      × (is_unsure_at S now j ≡ is_unsure_at S journal j)) ⊎ Hit j
  pub submitted : (m j : ℕ) (r : Row) → (m ≡ k → ⊥) → job_of c m ≡ Busy j r
      → submitted_from j 0 now ≡ submitted_from j 0 journal
  pub hit : (j s d : ℕ) → IsCopied S j → Counts S c j s d → Hit j
      → Tells S (log_after log call) now j d ⊎ IsWriting S (put S (ClientMoves k new word) c) j
  pub goes_on : (op : ℕ) (r : Row) → job_of c k ≡ Busy op r → r.begun ≡ true → is_write S op ≡ true
      → is_broken c (volume_of S op) ≡ false
      → ((j : ℕ) → volume_of S op ≡ volume_of S j → sector_at S op ≡ sector_at S j → Hit j)
      ⊎ ((q : Row) × (new.job ≡ Busy op q) × (q.begun ≡ true))
  pub writes : (i : ℕ) (q : Row) → new.job ≡ Busy i q → is_write S i ≡ true → IsCopied S i
      → WriterHolds S c (log_after log call) i q
  pub reads : (i : ℕ) (q : Row) → new.job ≡ Busy i q → is_write S i ≡ false → IsCopied S i
      → ReaderHolds S (log_after log call) now i q

module _ (S : Setting) (c : Control) (k : ℕ) (new : Client) (word : ClientWord) (log : List Call) (call : Option Call)
    (journal now : List Entry) (Hit : ℕ → Type 0) (step : ClientStep S c k new word log call journal now Hit)
    (rows : RowsHold S c log journal) where
  abbrev moved : Control
  moved = put S (ClientMoves k new word) c

  abbrev later : List Call
  later = log_after log call

  job_now : (m : ℕ) → ((m ≡ k) × (job_of moved m ≡ new.job)) ⊎ ((m ≡ k → ⊥) × (job_of moved m ≡ job_of c m))
  job_now m = elim (client_set c.clients k new m step.there) [
    | inl here ↦ inl (here.0, ap (λ (x : Client). x.job) here.1)
    | inr there ↦ inr (there.0, ap (λ (x : Client). x.job) there.1)
  ]

  own_job : job_of moved k ≡ new.job
  own_job = elim (job_now k) [ inl here ↦ here.1 | inr there ↦ absurd (there.0 refl) ]

  tells_on : (j d : ℕ) → stood S later j d ≡ stood S log j d → content_at S now j ≡ content_at S journal j
      → is_unsure_at S now j ≡ is_unsure_at S journal j → Tells S log journal j d → Tells S later now j d
  tells_on j d cell content unsure old h = cell ∙ old (sym unsure ∙ h) ∙ sym content

  writing_on : (j s d : ℕ) → IsCopied S j → Counts S c j s d → IsWriting S c j
      → Tells S later now j d ⊎ IsWriting S moved j
  writing_on j s d copied counts w = elim (job_now w.client) [
    | inl own ↦ by (step.goes_on w.op w.row (subst (λ m. job_of c m ≡ Busy w.op w.row) own.0 w.has) w.begun w.writes
        (subst (λ v. is_broken c v ≡ false) (sym w.volume) counts.sound))
    | inr other ↦ inr (record {
      client = w.client;
      op = w.op;
      row = w.row;
      has = other.1 ∙ w.has;
      begun = w.begun;
      writes = w.writes;
      volume = w.volume;
      sector = w.sector;
    })
  ]
    where
      by : ((i : ℕ) → volume_of S w.op ≡ volume_of S i → sector_at S w.op ≡ sector_at S i → Hit i)
          ⊎ ((q : Row) × (new.job ≡ Busy w.op q) × (q.begun ≡ true))
          → Tells S later now j d ⊎ IsWriting S moved j
      by (inl hits) = step.hit j s d copied counts (hits j w.volume w.sector)
      by (inr goes) = inr (record {
        client = k;
        op = w.op;
        row = goes.0;
        has = own_job ∙ goes.1;
        begun = goes.2;
        writes = w.writes;
        volume = w.volume;
        sector = w.sector;
      })

  holds_on : (j s d : ℕ) → IsCopied S j → Counts S c j s d → Tells S later now j d ⊎ IsWriting S moved j
  holds_on j s d copied counts =
      at (step.cell j s d copied counts.sound counts.pair counts.disk counts.works) (step.content j)
      (rows.holds j s d copied counts)
    where
      at : (stood S later j d ≡ stood S log j d) ⊎ Hit j
          → ((content_at S now j ≡ content_at S journal j) × (is_unsure_at S now j ≡ is_unsure_at S journal j)) ⊎ Hit j
          → Tells S log journal j d ⊎ IsWriting S c j → Tells S later now j d ⊎ IsWriting S moved j
      at (inr hit) content old = step.hit j s d copied counts hit
      at (inl cell) (inr hit) old = step.hit j s d copied counts hit
      at (inl cell) (inl content) (inl old) = inl (tells_on j d cell content.0 content.1 old)
      at (inl cell) (inl content) (inr w) = writing_on j s d copied counts w

  -- ANOTHER'S JOB

  other_writer : (m i : ℕ) (r : Row) → (m ≡ k → ⊥) → job_of c m ≡ Busy i r → IsCopied S i → WriterHolds S c log i r
      → WriterHolds S c later i r
  other_writer m i r other is copied w = record {
    early = w.early;
    wrote = λ begun s d counts has_it. cell begun s d counts ∙ w.wrote begun s d counts has_it;
    saw = w.saw;
  }
    where
      cell : r.begun ≡ true → (s d : ℕ) → Counts S c i s d → stood S later i d ≡ stood S log i d
      cell begun s d counts = elim (step.cell i s d copied counts.sound counts.pair counts.disk counts.works) [
        | inl same ↦ same
        | inr hit ↦ absurd (step.kept_out m i r other is begun hit)
      ]

  other_reader : (m i : ℕ) (r : Row) → (m ≡ k → ⊥) → job_of c m ≡ Busy i r → ReaderHolds S log journal i r
      → ReaderHolds S later now i r
  other_reader m i r other is w = record { plan = w.plan; got = at w.got }
    where
      content : r.begun ≡ true → (content_at S now i ≡ content_at S journal i) × (is_unsure_at S now i ≡ is_unsure_at S journal i)
      content begun = elim (step.content i) [
        | inl same ↦ same
        | inr hit ↦ absurd (step.kept_out m i r other is begun hit)
      ]

      at : (r.got ≡ []) ⊎ HasRead S log journal i r → (r.got ≡ []) ⊎ HasRead S later now i r
      at (inl none) = inl none
      at (inr h) = inr (record {
        got = h.got;
        is = h.is;
        plan = h.plan;
        begun = h.begun;
        sure = λ x. let same = content h.begun in h.sure (sym same.1 ∙ x) ∙ sym same.0;
        given = rw (step.submitted m i r other is)
            (given_later S.start log call (volume_of S i) (row_at S i) _ h.got.sector h.given);
      })

  -- PASSES

  pass_on : (v : ℕ) (p : Pass) → is_broken c v ≡ false → pass_of c v ≡ Some p → PassHolds S c log journal v p
      → PassHolds S moved later now v p
  pass_on v p sound is h = record {
    lock = h.lock;
    over = h.over;
    got = λ s. got s (h.got s);
    written = λ i s d volume copied row pair has_it disk works.
        wrote i s d volume copied row pair has_it disk works h.lock;
  }
    where
      once : (s : ℕ) → p.lock ≡ Some p.row → ReadOnce S journal v p.row s p.got → ReadOnce S now v p.row s p.got
      once s lock o = record {
        one = o.one;
        is = o.is;
        tells = λ i volume copied row pair x. elim (step.content i) [
          | inl same ↦ o.tells i volume copied row pair (sym same.1 ∙ x) ∙ sym same.0
          | inr hit ↦ absurd (step.no_pass v i p is volume row lock hit)
        ];
      }

      got_by : (s : ℕ) → (p.lock ≡ Some p.row) ⊎ ((p.got ≡ []) × (p.written ≡ []))
          → ReadOnce S journal v p.row s p.got → (read_of s p.got ≡ []) ⊎ ReadOnce S now v p.row s p.got
      got_by s (inl lock) o = inr (once s lock o)
      got_by s (inr none) o = inl (ap (read_of s) none.0)

      got : (s : ℕ) → (read_of s p.got ≡ []) ⊎ ReadOnce S journal v p.row s p.got
          → (read_of s p.got ≡ []) ⊎ ReadOnce S now v p.row s p.got
      got s (inl none) = inl none
      got s (inr o) = got_by s h.lock o

      wrote : (i s d : ℕ) → volume_of S i ≡ v → IsCopied S i → row_at S i ≡ p.row → InPair (the_place S i) s
          → has s p.written ≡ true → disk_of c v s ≡ Some d → has d c.round.faults ≡ false
          → (p.lock ≡ Some p.row) ⊎ ((p.got ≡ []) × (p.written ≡ [])) → Tells S later now i d
      wrote i s d volume copied row pair has_it disk works (inr none) =
          absurd (let not_it : has s p.written ≡ false = ap (has s) none.1 in cc (not_it, has_it))
      wrote i s d volume copied row pair has_it disk works (inl lock) =
          by (step.cell i s d copied (subst (λ x. is_broken c x ≡ false) (sym volume) sound) pair
          (subst (λ x. disk_of c x s ≡ Some d) (sym volume) disk) works) (step.content i)
        where
          by : (stood S later i d ≡ stood S log i d) ⊎ Hit i
              → ((content_at S now i ≡ content_at S journal i) × (is_unsure_at S now i ≡ is_unsure_at S journal i)) ⊎ Hit i
              → Tells S later now i d
          by (inr hit) content = absurd (step.no_pass v i p is volume row lock hit)
          by (inl cell) (inr hit) = absurd (step.no_pass v i p is volume row lock hit)
          by (inl cell) (inl same) =
              tells_on i d cell same.0 same.1 (h.written i s d volume copied row pair has_it disk works)

  -- ALL

  counted : (i s d : ℕ) → Counts S moved i s d → Counts S c i s d
  counted i s d h =
      record { sound = h.sound; pair = h.pair; disk = h.disk; works = h.works; why = h.why }

  writer_moved : (i : ℕ) (r : Row) → WriterHolds S c later i r → WriterHolds S moved later i r
  writer_moved i r w = record {
    early = w.early;
    wrote = λ begun s d counts. w.wrote begun s d (counted i s d counts);
    saw = λ begun s d counts. w.saw begun s d (counted i s d counts);
  }

  may_read : (i : ℕ) → MayRead S c i → MayRead S moved i
  may_read i m = record {
    slot = m.slot;
    disk = m.disk;
    pair = m.pair;
    is = m.is;
    works = m.works;
    in_sync = m.in_sync;
  }

  pub client_rows : RowsHold S moved later now
  client_rows = record {
    holds = λ j s d copied counts. holds_on j s d copied (counted j s d counts);
    writers = λ m i r is writes copied. elim (job_now m) [
      | inl own ↦ writer_moved i r (step.writes i r (sym own.1 ∙ is) writes copied)
      | inr other ↦ let old = sym other.1 ∙ is in
          writer_moved i r (other_writer m i r other.0 old copied (rows.writers m i r old writes copied))
    ];
    readers = λ m i r is reads copied. elim (job_now m) [
      | inl own ↦ step.reads i r (sym own.1 ∙ is) reads copied
      | inr other ↦ let old = sym other.1 ∙ is in
          other_reader m i r other.0 old (rows.readers m i r old reads copied)
    ];
    passes = λ v p sound is. pass_on v p sound is (rows.passes v p sound is);
    runs = λ i copied begun sound. may_read i (rows.runs i copied begun sound);
    clients = length-set c.clients k new ∙ rows.clients;
  }
