-- The end of a round keeps what holds of locks, passes, updates and slots, and seats each slot as its block says.
use Rattle.std.proofs.Common.{◌≡◌, ℕ, zero, suc, ◌+◌, ◌<◌, ◌==◌, ◌||◌, nat_lt, Bool, true, false, List, [], ◌∷◌, ◌++◌, filter, refl, ap, sym, ◌∙◌, subst, arith, Option, Some, None, inl, inr, slice_set, cond, eq-eqb}
use Rattle.std.specs.List.{range_with_len}
use Rattle.std.specs.Str.{bytes_eq}
use Rattle.std.proofs.lemmas.Bool.Decides.{nat_tests}
use Rattle.array_model.specs.Blocks.{Laid, SlotWords}
use Rattle.array_machine.specs.Numbers.{first_of}
use Rattle.array_machine.specs.Setting.{Setting}
use Rattle.array_machine.specs.Volumes.{Slot, disk_in, Pass, Volume, volume_at}
use Rattle.array_machine.specs.Control.{Control}
use Rattle.array_machine.specs.Changes.{OpensAt, Reaches, Closes, PassWord, RoundEnds, PassMoves}
use Rattle.array_machine.specs.Locks.{pass_holds}
use Rattle.array_machine.specs.Puts.{put, puts}
use Rattle.array_machine.specs.RoundEnds.{disk_by, seat_of, is_other, has_other, seated_if, seated, all_in_sync, pass_from, PassRun, all_runs, pass_ended, slots_ended, volume_ended, volumes_ended}
use Rattle.array_paths.proofs.RoundPaths.{other_volume}
use Rattle.array_base.proofs.Slots.{volume_set}
use Rattle.array_rest.specs.Between.{PassStands, Kept}
use Rattle.array_rest.proofs.Parts.{not_true}
use Rattle.array_rest.proofs.Changes.{posted_ended}
use Rattle.array_rest.proofs.PassSteps.{opened_stands}

-- SEATS

-- the first of some numbers below a bound is below it
pub first_below : (test : ℕ → Bool) (a n d : ℕ) → first_of (filter test (range_with_len a n)) ≡ Some d → d < a + n
first_below test a zero d is = absurd cc
first_below test a (suc n) d is = at (test a) is (first_below test (a + 1) n d)
  where
    at : (b : Bool)
        → first_of (cond b (a ∷ filter test (range_with_len (a + 1) n)) (filter test (range_with_len (a + 1) n)))
        ≡ Some d
        → (first_of (filter test (range_with_len (a + 1) n)) ≡ Some d → d < a + 1 + n) → d < a + suc n
    at true is more = let same : a ≡ d = cc is in omega (arith, same)
    at false is more = let lt = more is in omega (arith, lt)

module _ (S : Setting) where
  pub seat_there : (w : SlotWords) (d : ℕ) → seat_of S w ≡ Some d → nat_lt d S.start.disks.count ≡ true
  seat_there w d is = at w.is_expected is
    where
      at : (b : Bool) → cond b (disk_by S w.serial) None ≡ Some d → nat_lt d S.start.disks.count ≡ true
      at true is =
          let lt = first_below (λ e. bytes_eq (S.start.disks.serial e) w.serial) 0 S.start.disks.count d is in
          grind (arith, nat_tests, lt)
      at false is = absurd cc

  seated_there : (ws : List SlotWords) (slots : List Slot)
      → ((s d : ℕ) → disk_in slots s ≡ Some d → nat_lt d S.start.disks.count ≡ true)
      → (s d : ℕ) → disk_in (seated S ws slots) s ≡ Some d → nat_lt d S.start.disks.count ≡ true
  seated_there [] slots there s d is = there s d is
  seated_there (w ∷ ws) [] there s d is = there s d is
  seated_there (w ∷ ws) (x ∷ xs) there zero d is = at (is_other (seat_of S w) x.disk) is
    where
      at : (b : Bool) → (seated_if b (seat_of S w) x).disk ≡ Some d → nat_lt d S.start.disks.count ≡ true
      at true is = seat_there w d is
      at false is = there 0 d is
  seated_there (w ∷ ws) (x ∷ xs) there (suc s) d is = seated_there ws xs (λ n. there (suc n)) s d is

  pub seated_same : (disk : Option ℕ) → is_other disk disk ≡ false
  seated_same None = refl
  seated_same (Some d) = let same : (d == d) ≡ true = eq-eqb d d refl in rw same refl

  -- no slot is given another disk once each has the one that it is given
  seated_none : (ws : List SlotWords) (slots : List Slot) → has_other S ws (seated S ws slots) ≡ false
  seated_none [] slots = refl
  seated_none (w ∷ ws) [] = refl
  seated_none (w ∷ ws) (x ∷ xs) = at (is_other (seat_of S w) x.disk) refl (seated_none ws xs)
    where
      at : (b : Bool) → is_other (seat_of S w) x.disk ≡ b → has_other S ws (seated S ws xs) ≡ false
          → (is_other (seat_of S w) (seated_if b (seat_of S w) x).disk || has_other S ws (seated S ws xs)) ≡ false
      at true is more = let none = seated_same (seat_of S w) in rw (none, more) refl
      at false is more = rw (is, more) refl

  synced_other : (faults : List ℕ) (ws : List SlotWords) (slots : List Slot)
      → has_other S ws (all_in_sync faults slots) ≡ has_other S ws slots
  synced_other faults [] slots = refl
  synced_other faults (w ∷ ws) [] = refl
  synced_other faults (w ∷ ws) (x ∷ xs) = ap (λ b. is_other (seat_of S w) x.disk || b) (synced_other faults ws xs)

  pub synced_there : (faults : List ℕ) (slots : List Slot) (s : ℕ) → disk_in (all_in_sync faults slots) s ≡ disk_in slots s
  synced_there faults [] s = refl
  synced_there faults (x ∷ xs) zero = refl
  synced_there faults (x ∷ xs) (suc s) = synced_there faults xs s

  module _ (faults : List ℕ) (last m : Laid) where
    -- ONE VOLUME

    -- what the end of a round does to volume v: nothing, or it gives slots to other disks, closes its pass, or tells how
    -- far that has come
    pub data VolumeEnds (v : ℕ) (x : Volume) : List PassRun → Type 0 where
      is_stopped : x.started ≡ false → VolumeEnds v x []
      stays : x.started ≡ true → has_other S (S.start.words.slots m v) x.slots ≡ false → VolumeEnds v x []
      seats : x.started ≡ true
          → VolumeEnds v x
          (record {
            volume = v;
            slots = seated S (S.start.words.slots m v) x.slots;
            pass = Some (pass_from 0);
            word = OpensAt 0;
          } ∷ [])
      closes : x.started ≡ true → has_other S (S.start.words.slots m v) x.slots ≡ false
          → VolumeEnds v x (record { volume = v; slots = all_in_sync faults x.slots; pass = None; word = Closes } ∷ [])
      reaches : (unit : ℕ) → x.started ≡ true → has_other S (S.start.words.slots m v) x.slots ≡ false
          → VolumeEnds v x (record { volume = v; slots = x.slots; pass = x.pass; word = Reaches unit } ∷ [])

    volume_ends : (v : ℕ) (x : Volume) → VolumeEnds v x (volume_ended S faults last m v x)
    volume_ends v x = at x.started refl
      where
        pass_ends : (was is : Option ℕ) (old new : ℕ) → x.started ≡ true
            → has_other S (S.start.words.slots m v) x.slots ≡ false
            → VolumeEnds v x (pass_ended faults v x was is old new)
        pass_ends None is old new started other = stays started other
        pass_ends (Some kind) None old new started other = closes started other
        pass_ends (Some kind) (Some now) old new started other = above (nat_lt old new)
          where
            above : (b : Bool)
                → VolumeEnds v x
                (cond b (record { volume = v; slots = x.slots; pass = x.pass; word = Reaches new } ∷ []) [])
            above true = reaches new started other
            above false = stays started other

        slots_end : (b : Bool) → has_other S (S.start.words.slots m v) x.slots ≡ b → x.started ≡ true
            → VolumeEnds v x (slots_ended S faults last m v x b)
        slots_end true is started = seats started
        slots_end false is started =
            pass_ends (S.start.words.pass last v) (S.start.words.pass m v) (S.start.words.unit last v)
            (S.start.words.unit m v) started is

        at : (b : Bool) → x.started ≡ b
            → VolumeEnds v x
            (cond b (slots_ended S faults last m v x (has_other S (S.start.words.slots m v) x.slots)) [])
        at true is = slots_end (has_other S (S.start.words.slots m v) x.slots) refl is
        at false is = is_stopped is

    -- the volume behind it
    abbrev pub ended : List PassRun → Volume → Volume
    ended [] x = x
    ended (r ∷ rs) x = record x { slots = r.slots; pass = r.pass }

    pub end_started : (v : ℕ) (x : Volume) (runs : List PassRun) → VolumeEnds v x runs → (ended runs x).started ≡ x.started
    end_started v x _ (is_stopped is) = refl
    end_started v x _ (stays is other) = refl
    end_started v x _ (seats is) = refl
    end_started v x _ (closes is other) = refl
    end_started v x _ (reaches unit is other) = refl

    end_there : (v : ℕ) (x : Volume) (runs : List PassRun) → VolumeEnds v x runs
        → ((s d : ℕ) → disk_in x.slots s ≡ Some d → nat_lt d S.start.disks.count ≡ true)
        → (s d : ℕ) → disk_in (ended runs x).slots s ≡ Some d → nat_lt d S.start.disks.count ≡ true
    end_there v x _ (is_stopped is) there s d has_it = there s d has_it
    end_there v x _ (stays is other) there s d has_it = there s d has_it
    end_there v x _ (seats is) there s d has_it = seated_there (S.start.words.slots m v) x.slots there s d has_it
    end_there v x _ (closes is other) there s d has_it = there s d (sym (synced_there faults x.slots s) ∙ has_it)
    end_there v x _ (reaches unit is other) there s d has_it = there s d has_it

    end_holds : (v : ℕ) (x : Volume) (runs : List PassRun) → VolumeEnds v x runs → (row : ℕ)
        → pass_holds row (ended runs x).pass ≡ true → pass_holds row x.pass ≡ true
    end_holds v x _ (is_stopped is) row held = held
    end_holds v x _ (stays is other) row held = held
    end_holds v x _ (seats is) row held = absurd cc
    end_holds v x _ (closes is other) row held = absurd cc
    end_holds v x _ (reaches unit is other) row held = held

    end_stands : (v : ℕ) (x : Volume) (runs : List PassRun) → VolumeEnds v x runs
        → ((p : Pass) → x.pass ≡ Some p → PassStands S faults x.slots v p) → (p : Pass)
        → (ended runs x).pass ≡ Some p → PassStands S faults (ended runs x).slots v p
    end_stands v x _ (is_stopped is) stand p has_it = stand p has_it
    end_stands v x _ (stays is other) stand p has_it = stand p has_it
    end_stands v x _ (seats is) stand p has_it =
        let same : pass_from 0 ≡ p = cc has_it in
        subst (PassStands S faults (seated S (S.start.words.slots m v) x.slots) v) same
        (opened_stands S faults (seated S (S.start.words.slots m v) x.slots) v (pass_from 0) refl refl refl)
    end_stands v x _ (closes is other) stand p has_it = absurd cc
    end_stands v x _ (reaches unit is other) stand p has_it = stand p has_it

    end_none : (v : ℕ) (x : Volume) (runs : List PassRun) → VolumeEnds v x runs → x.started ≡ false → x.pass ≡ None
        → (ended runs x).pass ≡ None
    end_none v x _ (is_stopped is) stopped none = none
    end_none v x _ (stays is other) stopped none = none
    end_none v x _ (seats is) stopped none = absurd (cc (is, stopped))
    end_none v x _ (closes is other) stopped none = refl
    end_none v x _ (reaches unit is other) stopped none = none

    end_seated : (v : ℕ) (x : Volume) (runs : List PassRun) → VolumeEnds v x runs → x.started ≡ true
        → has_other S (S.start.words.slots m v) (ended runs x).slots ≡ false
    end_seated v x _ (is_stopped is) started = absurd (cc (is, started))
    end_seated v x _ (stays is other) started = other
    end_seated v x _ (seats is) started = seated_none (S.start.words.slots m v) x.slots
    end_seated v x _ (closes is other) started = synced_other faults (S.start.words.slots m v) x.slots ∙ other
    end_seated v x _ (reaches unit is other) started = other

    -- ALL VOLUMES

    -- a volume that is there is set
    set_there : (xs : List Volume) (v : ℕ) (x : Volume) → (volume_at xs v).started ≡ true
        → volume_at (slice_set xs v x) v ≡ x
    set_there [] v x is = absurd cc
    set_there (y ∷ ys) zero x is = refl
    set_there (y ∷ ys) (suc v) x is = set_there ys v x is

    before_set : (xs : List Volume) (v : ℕ) (x : Volume) (w : ℕ) → w < v
        → volume_at (slice_set xs v x) w ≡ volume_at xs w
    before_set xs v x w lt = elim (volume_set xs v x w) [
      | inl here ↦ absurd (let same = here.0 in omega (arith, same, lt))
      | inr other ↦ other
    ]

    -- the volumes below number n stay; from there on each is as its end leaves it
    record Left (n : ℕ) (some before behind : List Volume) : Type 0 where
      below : (w : ℕ) → w < n → volume_at behind w ≡ volume_at before w
      from : (j : ℕ) → volume_at behind (n + j)
          ≡ ended (volume_ended S faults last m (n + j) (volume_at some j)) (volume_at some j)

    leave_one : (n : ℕ) (x : Volume) (xs before behind : List Volume) → volume_at before n ≡ x
        → volume_ended S faults last m n x ≡ [] → Left (n + 1) xs before behind → Left n (x ∷ xs) before behind
    leave_one n x xs before behind here none left = record {
      below = λ w lt. left.below w (omega (arith, lt));
      from = each;
    }
      where
        each : (j : ℕ)
            → volume_at behind (n + j)
            ≡ ended (volume_ended S faults last m (n + j) (volume_at (x ∷ xs) j)) (volume_at (x ∷ xs) j)
        each zero =
            let same : n + 0 ≡ n = omega arith in
            subst (λ k. volume_at behind k ≡ ended (volume_ended S faults last m k x) x) (sym same)
            (left.below n (omega arith) ∙ here ∙ ap (λ runs. ended runs x) (sym none))
        each (suc j) =
            let same : n + 1 + j ≡ n + suc j = omega arith in
            subst
            (λ k. volume_at behind k ≡ ended (volume_ended S faults last m k (volume_at xs j)) (volume_at xs j)) same
            (left.from j)

    leave_set : (n : ℕ) (x : Volume) (xs before behind : List Volume) (slots : List Slot) (pass : Option Pass)
        (word : PassWord) → volume_at before n ≡ x → x.started ≡ true
        → volume_ended S faults last m n x ≡ record { volume = n; slots = slots; pass = pass; word = word } ∷ []
        → Left (n + 1) xs (slice_set before n (record (volume_at before n) { slots = slots; pass = pass })) behind
        → Left n (x ∷ xs) before behind
    leave_set n x xs before behind slots pass word here started one left = record {
      below = λ w lt. left.below w (omega (arith, lt)) ∙ before_set before n _ w lt;
      from = each;
    }
      where
        each : (j : ℕ)
            → volume_at behind (n + j)
            ≡ ended (volume_ended S faults last m (n + j) (volume_at (x ∷ xs) j)) (volume_at (x ∷ xs) j)
        each zero =
            let same : n + 0 ≡ n = omega arith in
            subst (λ k. volume_at behind k ≡ ended (volume_ended S faults last m k x) x) (sym same)
            (left.below n (omega arith)
            ∙ set_there before n (record (volume_at before n) { slots = slots; pass = pass })
            (ap (λ (y : Volume). y.started) here ∙ started)
            ∙ ap (λ (y : Volume). record y { slots = slots; pass = pass }) here ∙ ap (λ runs. ended runs x) (sym one))
        each (suc j) =
            let same : n + 1 + j ≡ n + suc j = omega arith in
            subst
            (λ k. volume_at behind k ≡ ended (volume_ended S faults last m k (volume_at xs j)) (volume_at xs j)) same
            (left.from j)

    runs_leave : (n : ℕ) (some : List Volume) (c : Control)
        → ((j : ℕ) → volume_at c.volumes (n + j) ≡ volume_at some j)
        → Left n some c.volumes (puts S (all_runs (volumes_ended S faults last m n some)) c).volumes
    runs_leave n [] c same = record { below = λ w lt. refl; from = same }
    runs_leave n (x ∷ xs) c same =
        at (volume_ended S faults last m n x) refl (volume_ends n x)
        (λ d next. runs_leave (n + 1) xs d next)
      where
        here : volume_at c.volumes n ≡ x
        here = let eq : n + 0 ≡ n = omega arith in ap (volume_at c.volumes) (sym eq) ∙ same 0

        next : (j : ℕ) → volume_at c.volumes (n + 1 + j) ≡ volume_at xs j
        next j = let eq : n + 1 + j ≡ n + suc j = omega arith in ap (volume_at c.volumes) eq ∙ same (suc j)

        one : (slots : List Slot) (pass : Option Pass) (word : PassWord) → x.started ≡ true
            → volume_ended S faults last m n x ≡ record { volume = n; slots = slots; pass = pass; word = word } ∷ []
            → ((d : Control) → ((j : ℕ) → volume_at d.volumes (n + 1 + j) ≡ volume_at xs j)
            → Left (n + 1) xs d.volumes (puts S (all_runs (volumes_ended S faults last m (n + 1) xs)) d).volumes)
            → Left n (x ∷ xs) c.volumes
            (puts S (all_runs (volumes_ended S faults last m (n + 1) xs)) (put S (PassMoves n slots pass word) c)).volumes
        one slots pass word started is more =
            let new = record (volume_at c.volumes n) { slots = slots; pass = pass } in
            leave_set n x xs c.volumes _ slots pass word here started is
            (more (put S (PassMoves n slots pass word) c)
            (λ j. other_volume c.volumes n (n + 1 + j) new (omega arith) ∙ next j))

        at : (runs : List PassRun) → volume_ended S faults last m n x ≡ runs → VolumeEnds n x runs
            → ((d : Control) → ((j : ℕ) → volume_at d.volumes (n + 1 + j) ≡ volume_at xs j)
            → Left (n + 1) xs d.volumes (puts S (all_runs (volumes_ended S faults last m (n + 1) xs)) d).volumes)
            → Left n (x ∷ xs) c.volumes
            (puts S (all_runs (runs ++ volumes_ended S faults last m (n + 1) xs)) c).volumes
        at _ is (is_stopped stopped) more = leave_one n x xs c.volumes _ here is (more c next)
        at _ is (stays started other) more = leave_one n x xs c.volumes _ here is (more c next)
        at _ is (seats started) more = one _ _ _ started is more
        at _ is (closes started other) more = one _ _ _ started is more
        at _ is (reaches unit started other) more = one _ _ _ started is more

  -- THE END

  -- runs of passes change volumes alone
  pub runs_only : (runs : List PassRun) (c : Control)
      → puts S (all_runs runs) c ≡ record c { volumes = (puts S (all_runs runs) c).volumes }
  runs_only [] c = refl
  runs_only (r ∷ rs) c = runs_only rs (put S (PassMoves r.volume r.slots r.pass r.word) c)

  module _ (c : Control) (m : Laid) where
    abbrev pub runs : List PassRun
    runs = volumes_ended S c.round.faults c.round.last m 0 c.volumes

    abbrev pub behind : List Volume
    behind = (puts S (all_runs runs) (put S (RoundEnds m) c)).volumes

    -- volume v behind the end
    pub record EndsTo (v : ℕ) : Type 0 where
      pub made : List PassRun
      pub by : VolumeEnds c.round.faults c.round.last m v (volume_at c.volumes v) made
      pub is : volume_at behind v ≡ ended c.round.faults c.round.last m made (volume_at c.volumes v)

    pub ends_to : (v : ℕ) → EndsTo v
    ends_to v =
        let x = volume_at c.volumes v in
        let first : 0 + v ≡ v = omega arith in
        let left = runs_leave c.round.faults c.round.last m 0 c.volumes (put S (RoundEnds m) c)
        (λ j. let eq : 0 + j ≡ j = omega arith in ap (volume_at c.volumes) eq) in
        record {
          made = volume_ended S c.round.faults c.round.last m v x;
          by = volume_ends c.round.faults c.round.last m v x;
          is = subst
              (λ n. volume_at behind n
              ≡ ended c.round.faults c.round.last m (volume_ended S c.round.faults c.round.last m n x) x)
              first (left.from v);
        }

    pub kept_round_end : Kept S c → Kept S (puts S (all_runs runs) (put S (RoundEnds m) c))
    kept_round_end k = subst (Kept S) (sym (runs_only runs (put S (RoundEnds m) c))) (record {
      count = k.count;
      queued = λ i is. k.queued i (posted_ended c.manager.asks i is);
      there = λ v s d is.
          let e = ends_to v in
          end_there c.round.faults c.round.last m v (volume_at c.volumes v) e.made e.by (k.there v) s d
          (sym (ap (λ (y : Volume). disk_in y.slots s) e.is) ∙ is);
      locks = record {
        one = k.locks.one;
        pass = λ v row j held. not_true (pass_holds row (volume_at behind v).pass) (λ is.
            let e = ends_to v in
            let old = end_holds c.round.faults c.round.last m v (volume_at c.volumes v) e.made e.by row
            (sym (ap (λ (y : Volume). pass_holds row y.pass) e.is) ∙ is) in
            let none = k.locks.pass v row j held in
            cc (none, old));
      };
      passes = λ v p is.
          let e = ends_to v in
          subst (λ (y : Volume). PassStands S c.round.faults y.slots v p) (sym e.is)
          (end_stands c.round.faults c.round.last m v (volume_at c.volumes v) e.made e.by (k.passes v) p
          (sym (ap (λ (y : Volume). y.pass) e.is) ∙ is));
      started = λ v is.
          let e = ends_to v in
          let x = volume_at c.volumes v in
          let was : x.started ≡ false
          = sym (ap (λ (y : Volume). y.started) e.is
          ∙ end_started c.round.faults c.round.last m v x e.made e.by) ∙ is in
          ap (λ (y : Volume). y.pass) e.is
          ∙ end_none c.round.faults c.round.last m v x e.made e.by was (k.started v was);
      seated = λ v is.
          let e = ends_to v in
          let x = volume_at c.volumes v in
          let was : x.started ≡ true
          = sym (ap (λ (y : Volume). y.started) e.is
          ∙ end_started c.round.faults c.round.last m v x e.made e.by) ∙ is in
          ap (λ (y : Volume). has_other S (S.start.words.slots m v) y.slots) e.is
          ∙ end_seated c.round.faults c.round.last m v x e.made e.by was;
    })
