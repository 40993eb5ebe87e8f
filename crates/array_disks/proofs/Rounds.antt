-- Rounds that journal and log tell, where either has one entry or one call more.
use Rattle.std.proofs.Common.{◌≡◌, ℕ, ◌≤◌, ◌==◌, if◌then◌else◌, Bool, true, false, List, [], ◌∷◌, ◌++◌, drop, length, refl, sym, ◌∙◌, subst, arith, Option, Some, None, ◌⊎◌, inl, inr}
use Rattle.std.specs.Prelude.{⊤}
use Rattle.std.proofs.lemmas.Bool.{eq-eqb}
use Rattle.std.proofs.lemmas.List.{drop_all}
use Rattle.device_log.specs.Log.{Call}
use Rattle.array_model.specs.declared.journal.Entry.{Entry}
use Rattle.array_model.specs.declared.journal.Event.{Event}
use Rattle.array_model.specs.declared.journal.Event.TheVariants.{Begin, End}
use Rattle.array_model.specs.Blocks.{Laid}
use Rattle.array_model.specs.Candidates.{In, disk_after, writes}
use Rattle.array_model.specs.Start.{Start}
use Rattle.array_model.specs.Rounds.{IsRound, IsFinished, IsFinishedBy, ended, ended_at, ended_from, begun, begun_at, begun_from}
use Rattle.array_model.specs.Moments.{AllBelow}
use Rattle.array_model.specs.Events.{is_begin, is_end}
use Rattle.array_disks.specs.Brought.{disk_since, brought_to}
use Rattle.array_disks.proofs.Known.{since_known, since_grows, since_call}

-- IN THE JOURNAL

abbrev pub entry_at : (stamp : ℕ) → Event → Entry
entry_at stamp event = record { stamp = stamp; event = event }

-- the stamp of a round, looked up in a longer journal
pub begun-append : (g : ℕ) (found : Option ℕ) (journal more : List Entry)
    → begun_from g found (journal ++ more) ≡ begun_from g (begun_from g found journal) more
begun-append g found [] more = refl
begun-append g found (e ∷ journal) more = begun-append g (begun_at g found e.stamp e.event) journal more

-- the last round that ended, by a longer journal
pub ended-append : (last : Option ℕ) (journal more : List Entry)
    → ended_from last (journal ++ more) ≡ ended_from (ended_from last journal) more
ended-append last [] more = refl
ended-append last (e ∷ journal) more = ended-append (ended_at last e.event) journal more

-- the stamp of a round, by one entry more
pub begun_entry : (g : ℕ) (journal : List Entry) (e : Entry)
    → begun g (journal ++ e ∷ []) ≡ begun_at g (begun g journal) e.stamp e.event
begun_entry g journal e = begun-append g None journal (e ∷ [])

-- the last round that ended, by one entry more
pub ended_entry : (journal : List Entry) (e : Entry) → ended (journal ++ e ∷ []) ≡ ended_at (ended journal) e.event
ended_entry journal e = ended-append None journal (e ∷ [])

-- a round that begins has the stamp of its entry
pub begun_now : (g stamp : ℕ) (journal : List Entry) → begun g (journal ++ entry_at stamp (Begin g) ∷ []) ≡ Some stamp
begun_now g stamp journal =
    let here : (g == g) ≡ true = eq-eqb g g refl in
    begun_entry g journal (entry_at stamp (Begin g)) ∙ rw here refl

-- another round that begins leaves the stamp of this one
pub begun_other : (g h stamp : ℕ) (journal : List Entry) → (h == g) ≡ false
    → begun g (journal ++ entry_at stamp (Begin h) ∷ []) ≡ begun g journal
begun_other g h stamp journal other = begun_entry g journal (entry_at stamp (Begin h)) ∙ rw other refl

-- an entry that isn't a begin or an end leaves both
pub begun_quiet : (g : ℕ) (journal : List Entry) (e : Entry) → is_begin e.event ≡ false
    → begun g (journal ++ e ∷ []) ≡ begun g journal
begun_quiet g journal e quiet = begun_entry g journal e ∙ at e.event quiet
  where
    at : (event : Event) → is_begin event ≡ false → begun_at g (begun g journal) e.stamp event ≡ begun g journal
    at (Begin h) quiet = absurd cc
    at _ quiet = refl

-- nor does it change which round ended last
pub ended_quiet : (journal : List Entry) (e : Entry) → is_end e.event ≡ false
    → ended (journal ++ e ∷ []) ≡ ended journal
ended_quiet journal e quiet = ended_entry journal e ∙ at e.event quiet
  where
    at : (event : Event) → is_end event ≡ false → ended_at (ended journal) event ≡ ended journal
    at (End g) quiet = absurd cc
    at _ quiet = refl

-- a stamp that was found isn't above c
abbrev IsWithin : ℕ → Option ℕ → Type 0
IsWithin c None = ⊤
IsWithin c (Some stamp) = stamp ≤ c

begun_at_within : (c g : ℕ) (found : Option ℕ) (stamp : ℕ) (event : Event) → stamp ≤ c → IsWithin c found
    → IsWithin c (begun_at g found stamp event)
begun_at_within c g found stamp (Begin h) le within = at (h == g)
  where
    at : (b : Bool) → IsWithin c (if b then Some stamp else found)
    at true = le
    at false = within
begun_at_within c g found stamp _ le within = within

begun_from_within : (c g : ℕ) (found : Option ℕ) (journal : List Entry) → AllBelow c journal → IsWithin c found
    → IsWithin c (begun_from g found journal)
begun_from_within c g found [] below within = within
begun_from_within c g found (e ∷ journal) below within =
    let first = begun_at_within c g found e.stamp e.event below.0 within in
    begun_from_within c g (begun_at g found e.stamp e.event) journal below.1 first

-- the stamp of a round isn't above c where that of no entry is
pub begun_within : (c g stamp : ℕ) (journal : List Entry) → AllBelow c journal
    → begun g journal ≡ Some stamp → stamp ≤ c
begun_within c g stamp journal below is = subst (IsWithin c) is (begun_from_within c g None journal below tt)

-- IN THE LOG

module _ (start : Start) where
  -- the block of a round is known on the disk that it was written to
  pub round_known : (log : List Call) (stamp g : ℕ) (m : Laid) (r : IsRound start log stamp g m)
      → In m (disk_after start.words start.disks log r.disk).known
  round_known log stamp g m r = since_known start.words start.disks r.disk stamp log m r.written

  -- a block of a round is one by a longer log
  pub round_more : (log more : List Call) (stamp g : ℕ) (m : Laid) → stamp ≤ length log
      → IsRound start log stamp g m → IsRound start (log ++ more) stamp g m
  round_more log more stamp g m le r =
      let grown : In m (writes start.words start.disks r.disk (drop stamp (log ++ more))) =
      since_grows start.words start.disks r.disk log more stamp m le r.written in
      search grown

  -- no block is one of a round that begins now
  pub no_round_yet : (log : List Call) (g : ℕ) (m : Laid) → IsRound start log (length log) g m → ⊥
  no_round_yet log g m r =
      subst (λ calls. In m (writes start.words start.disks r.disk calls)) (drop_all (length log) log (omega arith))
      r.written

  -- with one call more: a block that was one of the round, or that the call completes
  pub round_call : (log : List Call) (call : Call) (stamp g : ℕ) (m : Laid) → stamp ≤ length log
      → (r : IsRound start (log ++ call ∷ []) stamp g m)
      → IsRound start log stamp g m
      ⊎ In m (brought_to start.words start.disks r.disk (disk_since start.words start.disks log stamp r.disk).pend call)
  round_call log call stamp g m le r =
      elim (since_call start.words start.disks r.disk log stamp call m le r.written) [
        | inl old ↦ inl (of_old old)
        | inr new ↦ inr new
      ]
    where
      of_old : In m (writes start.words start.disks r.disk (drop stamp log)) → IsRound start log stamp g m
      of_old old = search old

  -- THE LAST FINISHED ROUND

  -- a block of it is one by a longer log
  pub finished_more : (log more : List Call) (journal : List Entry) (m : Laid) → AllBelow (length log) journal
      → IsFinished start log journal m → IsFinished start (log ++ more) journal m
  finished_more log more journal m below finished = at (ended journal) finished
    where
      at : (last : Option ℕ) → IsFinishedBy start log journal m last → IsFinishedBy start (log ++ more) journal m last
      at None is = is
      at (Some g) (stamp, is, r) =
          let le = begun_within (length log) g stamp journal below is in
          (stamp, is, round_more log more stamp g m le r)

  -- and by a journal with one entry more, where that ends no round, and doesn't begin this one anew
  pub finished_entry : (log : List Call) (journal : List Entry) (e : Entry) (m : Laid)
      → ended (journal ++ e ∷ []) ≡ ended journal
      → ((g : ℕ) → ended journal ≡ Some g → begun g (journal ++ e ∷ []) ≡ begun g journal)
      → IsFinished start log journal m → IsFinished start log (journal ++ e ∷ []) m
  finished_entry log journal e m same_end same_begin finished =
      subst (IsFinishedBy start log (journal ++ e ∷ []) m) (sym same_end)
      (at (ended journal) refl finished)
    where
      at : (last : Option ℕ) → ended journal ≡ last
          → IsFinishedBy start log journal m last → IsFinishedBy start log (journal ++ e ∷ []) m last
      at None is same = same
      at (Some g) is (stamp, found, r) = (stamp, same_begin g is ∙ found, r)

  -- so by an entry that is neither a begin nor an end
  pub finished_quiet : (log : List Call) (journal : List Entry) (e : Entry) (m : Laid) → is_begin e.event ≡ false
      → is_end e.event ≡ false → IsFinished start log journal m → IsFinished start log (journal ++ e ∷ []) m
  finished_quiet log journal e m no_begin no_end =
      finished_entry log journal e m (ended_quiet journal e no_end) (λ g is. begun_quiet g journal e no_begin)

  -- where a round ends its block is that of the last finished round
  pub finished_now : (log : List Call) (journal : List Entry) (now stamp g : ℕ) (m : Laid)
      → begun g journal ≡ Some stamp → IsRound start log stamp g m
      → IsFinished start log (journal ++ entry_at now (End g) ∷ []) m
  finished_now log journal now stamp g m is r =
      subst (IsFinishedBy start log (journal ++ entry_at now (End g) ∷ []) m)
      (sym (ended_entry journal (entry_at now (End g)))) (stamp, begun_entry g journal (entry_at now (End g)) ∙ is, r)

  -- where a round has ended, the block of the last finished is known on some disk
  pub finished_known : (log : List Call) (journal : List Entry) (g : ℕ) (m : Laid) → ended journal ≡ Some g
      → IsFinished start log journal m → (d : ℕ) × In m (disk_after start.words start.disks log d).known
  finished_known log journal g m is finished = at (subst (IsFinishedBy start log journal m) is finished)
    where
      at : IsFinishedBy start log journal m (Some g)
          → (d : ℕ) × In m (disk_after start.words start.disks log d).known
      at (stamp, found, r) = (r.disk, round_known log stamp g m r)
