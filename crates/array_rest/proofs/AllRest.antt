-- Where a run rests, a job that reads or writes tells that some job was outrun; and of a volume that isn't broken.
use Rattle.std.proofs.Common.{◌≡◌, ℕ, zero, suc, ◌+◌, ◌<◌, ◌==◌, ◌&&◌, not, nat_lt, Bool, true, false, List, [], ◌∷◌, ◌++◌, length, refl, ap, sym, ◌∙◌, subst, arith, Option, Some, None, inl, inr, cond}
use Rattle.std.specs.Prelude.{⊤, flat_map, is_some}
use Rattle.std.specs.List.{range_with_len}
use Rattle.std.specs.Option.{option_map_or}
use Rattle.array_model.specs.declared.script.OpKind.{OpKind}
use Rattle.array_model.specs.declared.script.OpKind.TheVariants.{Write as OpWrite, Read as OpRead, Whole as OpWhole}
use Rattle.array_model.specs.Script.{kind_at}
use Rattle.array_machine.specs.Setting.{Edit, MakesDirty, MakesClean, RecordsUnit, ClosesPass, Setting}
use Rattle.array_machine.specs.States.{IsReadonly, is_readonly, is_pending, is_idle, is_resting}
use Rattle.array_machine.specs.Volumes.{Pass, Volume, volume_at}
use Rattle.array_machine.specs.Operations.{volume_of, the_place, is_write}
use Rattle.array_machine.specs.Clients.{Row, Busy}
use Rattle.array_machine.specs.Rounds.{Ended}
use Rattle.array_machine.specs.Control.{Control}
use Rattle.array_machine.specs.EditFacts.{is_sound}
use Rattle.array_machine.specs.Locks.{locked_from, pass_holds, is_locked}
use Rattle.array_machine.specs.RoundEnds.{has_other}
use Rattle.array_machine.specs.MonitorTurns.{is_unready, may_activate, may_clean, edit_if, owes_dirty, owes_clean, has_own_pass, pass_edits, volume_edits}
use Rattle.array_machine.specs.ClientTurns.{is_shut, is_held, busy_unless, client_by}
use Rattle.array_machine.specs.Machine.{Actor, Client as ClientOf}
use Rattle.array_paths.specs.InTurn.{job_of, left_of}
use Rattle.array_paths.specs.ClientMove.{NamesSector, fits_kind}
use Rattle.array_paths.specs.Ready.{JobsFit}
use Rattle.array_base.proofs.Targets.{or_cases}
use Rattle.array_rest.specs.Between.{Kept, TurnIsOver}
use Rattle.array_rest.specs.Jobs.{JobsStand}
use Rattle.array_rest.specs.Rests.{IsStill, IsAtRest, NothingIsDue, IsSound, SomeIsOutrun}
use Rattle.array_rest.specs.Round.{RoundStands}
use Rattle.array_rest.specs.Seats.{VolumesRun}
use Rattle.array_rest.proofs.JobsRest.{begun_free, row_outrun}
use Rattle.array_rest.proofs.Parts.{not_true}
use Rattle.array_rest.proofs.PassRest.{Holder, holder_of, some_holds, pass_rests}
use Rattle.array_rest.proofs.Resting.{started_below, no_volume_passes, rules}
use Rattle.array_rest.proofs.Stopped.{AreStopped}

-- LISTS OF EDITS

both_none : (xs ys : List Edit) → xs ++ ys ≡ [] → (xs ≡ []) × (ys ≡ [])
both_none [] ys is = (refl, is)
both_none (x ∷ xs) ys is = absurd (cc is)

flat_none : (f : ℕ → List Edit) (a n d : ℕ) → flat_map f (range_with_len a n) ≡ [] → d < n → f (a + d) ≡ []
flat_none f a zero d none lt = absurd (omega (arith, lt))
flat_none f a (suc n) zero none lt =
    let same : a ≡ a + 0 = omega arith in
    ap f (sym same) ∙ (both_none (f a) (flat_map f (range_with_len (a + 1) n)) none).0
flat_none f a (suc n) (suc d) none lt =
    let same : a + 1 + d ≡ a + suc d = omega arith in
    ap f (sym same)
    ∙ flat_none f (a + 1) n d (both_none (f a) (flat_map f (range_with_len (a + 1) n)) none).1 (omega (arith, lt))

edit_none : (b : Bool) (e : Edit) → edit_if b e ≡ [] → b ≡ false
edit_none true e is = absurd (cc is)
edit_none false e is = refl

module _ (S : Setting) (c : Control) (ends : Actor → Ended) (rest : IsAtRest S c ends) (kept : Kept S c)
    (over : TurnIsOver S c) (stands : RoundStands S c.round) (stopped : AreStopped c.volumes)
    (jobs : JobsStand S ⊤ c) (run : VolumesRun S c.round c.volumes) (fits : JobsFit S c)
    (due : (v : ℕ) → IsSound c v → NothingIsDue S c) where
  -- STATES

  module _ (v : ℕ) (sound : IsSound c v) where
    abbrev x : Volume
    x = volume_at c.volumes v

    abbrev d : NothingIsDue S c
    d = due v sound

    is_sound_now : is_sound x ≡ true
    is_sound_now = let a = sound.started in let b = sound.sound in rw (a, b) refl

    pub not_readonly : is_readonly x.state ≡ false
    not_readonly = not_true (is_readonly x.state) (λ is.
        let none = no_volume_passes (is_unready c.round) c.volumes v
        (rules S c ends rest over stands).none_unready sound.started in
        let a = sound.started in
        let b = d.ended in
        let bad : (x.started && is_readonly x.state && c.round.ended) ≡ true = rw (a, is, b) refl in
        cc (none, bad))

    record OwesNothing : Type 0 where
      dirty : owes_dirty S c.round.book v x ≡ false
      clean : owes_clean S c.round.book v x ≡ false
      pass : has_own_pass S c.round.book v x ≡ true → pass_edits S c.round.book v x.pass ≡ []

    owes_nothing : OwesNothing
    owes_nothing =
        let same : 0 + v ≡ v = omega arith in
        let mine = ap (λ n. volume_edits S c.round.book n (volume_at c.volumes n)) (sym same)
        ∙ flat_none (λ n. volume_edits S c.round.book n (volume_at c.volumes n)) 0 (length c.volumes) v d.owes
        (started_below c.volumes v sound.started) in
        let outer = both_none _ (cond (has_own_pass S c.round.book v x) (pass_edits S c.round.book v x.pass) []) mine in
        let inner = both_none (edit_if (owes_dirty S c.round.book v x) (MakesDirty v)) _ outer.0 in
        record {
          dirty = edit_none (owes_dirty S c.round.book v x) (MakesDirty v) inner.0;
          clean = edit_none (owes_clean S c.round.book v x) (MakesClean v) inner.1;
          pass = λ has_own. ap (λ b. cond b (pass_edits S c.round.book v x.pass) []) (sym has_own) ∙ outer.1;
        }

    pub not_pending : is_pending x.state ≡ false
    not_pending = not_true (is_pending x.state) (λ is.
        let none = no_volume_passes (may_activate S c.round) c.volumes v
        (rules S c ends rest over stands).none_active sound.started in
        let now = is_sound_now in
        let ended = d.ended in
        at (S.start.words.is_dirty c.round.last v) refl is none now ended)
      where
        at : (b : Bool) → S.start.words.is_dirty c.round.last v ≡ b → is_pending x.state ≡ true
            → may_activate S c.round v x ≡ false → is_sound x ≡ true → c.round.ended ≡ true → ⊥
        at true dirty is none now ended =
            let bad : (is_sound x && is_pending x.state && c.round.ended && S.start.words.is_dirty c.round.last v) ≡ true
            = rw (now, is, ended, dirty) refl in
            cc (none, bad)
        at false clean is none now ended =
            let owed = owes_nothing.dirty in
            let book = ap (λ m. S.start.words.is_dirty m v) d.book ∙ clean in
            let bad : (is_sound x && is_pending x.state && not (S.start.words.is_dirty c.round.book v)) ≡ true
            = rw (now, is, book) refl in
            cc (owed, bad)

    pub not_idle : is_idle x.state ≡ false
    not_idle = not_true (is_idle x.state) (λ is.
        let none = no_volume_passes may_clean c.volumes v (rules S c ends rest over stands).none_idle sound.started in
        let now = is_sound_now in
        let bad : (is_sound x && is_idle x.state) ≡ true = rw (now, is) refl in
        cc (none, bad))

    pub clean_now : is_resting x.state ≡ true → S.start.words.is_dirty c.round.last v ≡ false
    clean_now is =
        ap (λ m. S.start.words.is_dirty m v) (sym d.book)
        ∙ not_true (S.start.words.is_dirty c.round.book v) (λ dirty.
        let owed = owes_nothing.clean in
        let now = is_sound_now in
        let bad : (is_sound x && is_resting x.state && S.start.words.is_dirty c.round.book v) ≡ true
        = rw (now, is, dirty) refl in
        cc (owed, bad))

    -- a pass that is over is closed in the last finished round
    pub closed : (p : Pass) → x.pass ≡ Some p → p.over ≡ true → S.start.words.pass c.round.last v ≡ None
    closed p has_it is = at (S.start.words.pass c.round.last v) refl
      where
        at : (o : Option ℕ) → S.start.words.pass c.round.last v ≡ o → o ≡ None
        at None none = refl
        at (Some kind) some =
            let now = is_sound_now in
            let book = ap (λ m. is_some (S.start.words.pass m v)) d.book ∙ ap is_some some in
            let seats = ap (λ m. has_other S (S.start.words.slots m v) x.slots) d.book ∙ kept.seated v sound.started in
            let own : has_own_pass S c.round.book v x ≡ true = rw (now, book, seats) refl in
            let none = ap (pass_edits S c.round.book v) (sym has_it) ∙ owes_nothing.pass own in
            absurd (edits is none)
          where
            edits : p.over ≡ true → pass_edits S c.round.book v (Some p) ≡ [] → ⊥
            edits is none = let bad = ap (λ b. cond b (ClosesPass v ∷ [])
                (edit_if (nat_lt (S.start.words.unit c.round.book v) p.ready) (RecordsUnit v p.ready))) (sym is) ∙ none in
                cc bad

  -- JOBS

  -- a job on a volume is of one that was started
  job_started : (k i : ℕ) (r : Row) → job_of c k ≡ Busy i r → (volume_at c.volumes (volume_of S i)).started ≡ true
  job_started k i r is = at (volume_at c.volumes (volume_of S i)).started refl
    where
      at : (b : Bool) → (volume_at c.volumes (volume_of S i)).started ≡ b → b ≡ true
      at true started = refl
      at false never =
          let shut = (jobs k i r is).open_to in
          let was = stopped (volume_of S i) never in
          let bad : is_shut (volume_at c.volumes (volume_of S i)) ≡ true = shut_by was.0 was.1 in
          absurd (cc (shut, bad))
        where
          shut_by : (volume_at c.volumes (volume_of S i)).state ≡ IsReadonly
              → (volume_at c.volumes (volume_of S i)).broken ≡ false
              → is_shut (volume_at c.volumes (volume_of S i)) ≡ true
          shut_by state sound = let only = ap is_readonly state in rw (only, sound) refl

  -- and one that isn't broken, where each operation is answered at once
  pub job_sound : (k i : ℕ) (r : Row) → job_of c k ≡ Busy i r → IsSound c (volume_of S i)
  job_sound k i r is = record { started = job_started k i r is; sound = at (volume_at c.volumes (volume_of S i)).broken refl }
    where
      still : IsStill (client_by S c k (ends (ClientOf k)) (left_of c k) (Busy i r))
      still = subst (λ job. IsStill (client_by S c k (ends (ClientOf k)) (left_of c k) job)) is (rest.still (ClientOf k) tt)

      at : (b : Bool) → (volume_at c.volumes (volume_of S i)).broken ≡ b → b ≡ false
      at false sound = refl
      at true broken =
          let now = subst (λ b. IsStill (busy_unless S c k (left_of c k) i r (ends (ClientOf k)) b)) broken still in
          absurd (let none = now.changes in cc none)

  -- a job that reads or writes and isn't held was outrun
  free_outrun : (k i : ℕ) (r : Row) → job_of c k ≡ Busy i r → NamesSector (kind_at S.asked.ops i)
      → is_held S c k i ≡ false → SomeIsOutrun S c
  free_outrun k i r is names free = at (kind_at S.asked.ops i) refl names
    where
      out : (kind : OpKind) → kind_at S.asked.ops i ≡ Some kind → fits_kind None (Some kind) ≡ false → SomeIsOutrun S c
      out kind kind_is never =
          let sound = job_sound k i r is in
          let stand = jobs k i r is in
          record {
            client = k;
            op = i;
            row = r;
            is = is;
            outrun =
                row_outrun S c ends rest (due (volume_of S i) sound) kept k i r is sound.started sound.sound
                (run.able (volume_of S i) sound.started sound.sound) (run.slots (volume_of S i) sound.started)
                (fits k i r is) (stand.plan tt sound.started sound.sound) kind kind_is never free;
          }

      at : (o : Option OpKind) → kind_at S.asked.ops i ≡ o → NamesSector o → SomeIsOutrun S c
      at None kind_is names = absurd names
      at (Some (OpWrite v s value)) kind_is names = out (OpWrite v s value) kind_is refl
      at (Some (OpRead v s)) kind_is names = out (OpRead v s) kind_is refl
      at (Some (OpWhole v)) kind_is names = absurd names

  write_waits : (k i : ℕ) (r : Row) → job_of c k ≡ Busy i r
      → (is_write S i && is_pending (volume_at c.volumes (volume_of S i)).state) ≡ false
  write_waits k i r is = at (is_write S i) (not_pending (volume_of S i) (job_sound k i r is))
    where
      at : (b : Bool) → is_pending (volume_at c.volumes (volume_of S i)).state ≡ false
          → (b && is_pending (volume_at c.volumes (volume_of S i)).state) ≡ false
      at true none = none
      at false none = refl

  -- a job that holds a row was outrun
  holder_outrun : (v : ℕ) → Holder S c v → SomeIsOutrun S c
  holder_outrun v h =
      let free = begun_free S c kept.locks h.client h.op h.row h.is h.begun in
      let waits = write_waits h.client h.op h.row h.is in
      free_outrun h.client h.op h.row h.is ((jobs h.client h.op h.row h.is).names h.begun) (rw (waits, free) refl)

  -- so a pass that isn't over waits for one
  pub pass_outrun : (v : ℕ) → IsSound c v → (p : Pass) → (volume_at c.volumes v).pass ≡ Some p → p.over ≡ false
      → SomeIsOutrun S c
  pass_outrun v sound p has_it goes =
      holder_outrun v (pass_rests S c ends rest (due v sound) kept v sound.sound p has_it goes)

  -- and so does any job that reads or writes
  pub row_job : (k i : ℕ) (r : Row) → job_of c k ≡ Busy i r → NamesSector (kind_at S.asked.ops i) → SomeIsOutrun S c
  row_job k i r is names = at (is_held S c k i) refl
    where
      v : ℕ
      v = volume_of S i

      row : ℕ
      row = (the_place S i).row

      locked : is_held S c k i ≡ true → is_locked S c v row k ≡ true
      locked held = elim (or_cases (is_write S i && is_pending (volume_at c.volumes v).state) (is_locked S c v row k) held) [
        | inl bad ↦ absurd (let none = write_waits k i r is in cc (none, bad))
        | inr lock ↦ lock
      ]

      by_pass : (o : Option Pass) → (volume_at c.volumes v).pass ≡ o → pass_holds row o ≡ true → SomeIsOutrun S c
      by_pass None none h = absurd (cc h)
      by_pass (Some p) some h = lock p.lock refl h
        where
          lock : (l : Option ℕ) → p.lock ≡ l → option_map_or (λ n. n == row) l false ≡ true → SomeIsOutrun S c
          lock None none h = absurd (cc h)
          lock (Some n) is_lock h =
              pass_outrun v (job_sound k i r is) p some ((kept.passes v p some).locked n is_lock).1

      at : (b : Bool) → is_held S c k i ≡ b → SomeIsOutrun S c
      at false free = free_outrun k i r is names free
      at true held =
          elim (or_cases (locked_from S v row k 0 c.clients) (pass_holds row (volume_at c.volumes v).pass) (locked held)) [
            | inl other ↦
                let one = some_holds S v row k 0 c.clients other in
                holder_outrun v (holder_of S c v row one.0 one.1)
            | inr mine ↦ by_pass (volume_at c.volumes v).pass refl mine
          ]
