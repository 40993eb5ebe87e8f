-- Where a round ends each started volume gets the disks that its block gives to slots: by the moves that follow the
-- end.
use Rattle.std.proofs.Common.{◌≡◌, ℕ, zero, suc, ◌+◌, ◌<◌, not, nat_lt, Bool, true, false, cond, List, [], ◌∷◌, ◌++◌, length, refl, ap, sym, ◌∙◌, subst, arith, Option, Some, None, inl, inr, eqb-true}
use Rattle.std.specs.List.{AllByRecursion, AllZip}
use Rattle.std.proofs.lemmas.List.{get_or-set_same}
use Rattle.array_model.specs.Blocks.{Laid, SlotWords}
use Rattle.array_machine.specs.Setting.{Setting}
use Rattle.array_machine.specs.Volumes.{Slot, same_disk, Volume, no_volume, volume_at}
use Rattle.array_machine.specs.Rounds.{Round}
use Rattle.array_machine.specs.Control.{Control}
use Rattle.array_machine.specs.Changes.{RoundEnds, PassMoves, Reaches}
use Rattle.array_machine.specs.Puts.{put, puts, set_pass}
use Rattle.array_machine.specs.RoundEnds.{all_in_sync, seat_of, is_other, has_other, seated_if, seated, PassRun, all_runs, pass_ended, slots_ended, volume_ended, volumes_ended}
use Rattle.array_base.proofs.Slots.{volume_set}
use Rattle.array_base.proofs.Targets.{or_neither}
use Rattle.array_failures.specs.Recorded.{HasSeat, IsSeated, AreSeated}

-- lists that are zipped are as long
pub zip_length : {X Y : Type 0} (R : X → Y → Type 0) (xs : List X) (ys : List Y) → AllZip R xs ys
    → length xs ≡ length ys
zip_length R [] [] zip = refl
zip_length R [] (y ∷ ys) zip = absurd zip
zip_length R (x ∷ xs) [] zip = absurd zip
zip_length R (x ∷ xs) (y ∷ ys) zip = ap suc (zip_length R xs ys zip.1)

same_disk_is : (a : Option ℕ) (d : ℕ) → same_disk (Some d) a ≡ true → a ≡ Some d
same_disk_is None d h = absurd cc
same_disk_is (Some e) d h = let same : d ≡ e = eqb-true d e h in ap Some (sym same)

not_false : (b : Bool) → not b ≡ false → b ≡ true
not_false true h = refl
not_false false h = absurd cc

module _ (S : Setting) where
  -- SLOTS

  -- a slot that isn't given another disk has the one that it is given
  not_other : (w : SlotWords) (x : Slot) → is_other (seat_of S w) x.disk ≡ false → HasSeat S w x
  not_other w x other d seat =
      let mine : is_other (Some d) x.disk ≡ false = subst (λ z. is_other z x.disk ≡ false) seat other in
      same_disk_is x.disk d (not_false (same_disk (Some d) x.disk) mine)

  seated_one : (w : SlotWords) (x : Slot) → HasSeat S w (seated_if (is_other (seat_of S w) x.disk) (seat_of S w) x)
  seated_one w x = at (is_other (seat_of S w) x.disk) refl
    where
      at : (b : Bool) → is_other (seat_of S w) x.disk ≡ b → HasSeat S w (seated_if b (seat_of S w) x)
      at true is = λ d seat. seat
      at false is = not_other w x is

  -- all slots, by as many words
  pub seated_all : (ws : List SlotWords) (xs : List Slot) → length ws ≡ length xs
      → AllZip (HasSeat S) ws (seated S ws xs)
  seated_all [] [] same = tt
  seated_all [] (x ∷ xs) same = absurd (cc same)
  seated_all (w ∷ ws) [] same = absurd (cc same)
  seated_all (w ∷ ws) (x ∷ xs) same = (seated_one w x, seated_all ws xs (cc same))

  none_other : (ws : List SlotWords) (xs : List Slot) → length ws ≡ length xs → has_other S ws xs ≡ false
      → AllZip (HasSeat S) ws xs
  none_other [] [] same none = tt
  none_other [] (x ∷ xs) same none = absurd (cc same)
  none_other (w ∷ ws) [] same none = absurd (cc same)
  none_other (w ∷ ws) (x ∷ xs) same none =
      let both = or_neither (is_other (seat_of S w) x.disk) (has_other S ws xs) none in
      (not_other w x both.0, none_other ws xs (cc same) both.1)

  -- a pass that closes leaves disks where they are
  pub synced_all : (faults : List ℕ) (ws : List SlotWords) (xs : List Slot) → AllZip (HasSeat S) ws xs
      → AllZip (HasSeat S) ws (all_in_sync faults xs)
  synced_all faults [] [] zip = tt
  synced_all faults [] (x ∷ xs) zip = absurd zip
  synced_all faults (w ∷ ws) [] zip = absurd zip
  synced_all faults (w ∷ ws) (x ∷ xs) zip = (zip.0, synced_all faults ws xs zip.1)

  -- ONE VOLUME

  module _ (faults : List ℕ) (last m : Laid) (v : ℕ) (x : Volume) where
    abbrev words : List SlotWords
    words = S.start.words.slots m v

    -- what the end of the round does to the volume: nothing, and it is seated, or it moves its slots to seats
    data EndsSeated : List PassRun → Type 0 where
      stays : AllZip (HasSeat S) words x.slots → EndsSeated []
      moves : (r : PassRun) → r.volume ≡ v → AllZip (HasSeat S) words r.slots → EndsSeated (r ∷ [])

    pass_seated : (before now : Option ℕ) (old new : ℕ) → AllZip (HasSeat S) words x.slots
        → EndsSeated (pass_ended faults v x before now old new)
    pass_seated None now old new zip = stays zip
    pass_seated (Some kind) None old new zip = moves _ refl (synced_all faults words x.slots zip)
    pass_seated (Some kind) (Some now) old new zip = at (nat_lt old new)
      where
        at : (b : Bool) → EndsSeated (cond b (record {
          volume = v;
          slots = x.slots;
          pass = x.pass;
          word = Reaches new;
        } ∷ []) [])
        at true = moves _ refl zip
        at false = stays zip

    ended_seated : x.started ≡ true → length words ≡ length x.slots → EndsSeated (volume_ended S faults last m v x)
    ended_seated started long =
        subst (λ b. EndsSeated (cond b (slots_ended S faults last m v x (has_other S words x.slots)) [])) (sym started)
        (at (has_other S words x.slots) refl)
      where
        at : (b : Bool) → has_other S words x.slots ≡ b → EndsSeated (slots_ended S faults last m v x b)
        at true is = moves _ refl (seated_all words x.slots long)
        at false is =
            pass_seated (S.start.words.pass last v) (S.start.words.pass m v) (S.start.words.unit last v)
            (S.start.words.unit m v) (none_other words x.slots long is)

  -- ALL VOLUMES

  abbrev run_one : List Volume → PassRun → List Volume
  run_one volumes r = set_pass volumes r.volume r.slots r.pass

  abbrev run_all : List PassRun → List Volume → List Volume
  run_all [] volumes = volumes
  run_all (r ∷ rs) volumes = run_all rs (run_one volumes r)

  run_more : (rs more : List PassRun) (volumes : List Volume)
      → run_all (rs ++ more) volumes ≡ run_all more (run_all rs volumes)
  run_more [] more volumes = refl
  run_more (r ∷ rs) more volumes = run_more rs more (run_one volumes r)

  -- what the moves leave
  puts_runs : (rs : List PassRun) (c : Control) → ((puts S (all_runs rs) c).volumes ≡ run_all rs c.volumes)
      × ((puts S (all_runs rs) c).round ≡ c.round)
  puts_runs [] c = (refl, refl)
  puts_runs (r ∷ rs) c = puts_runs rs (put S (PassMoves r.volume r.slots r.pass r.word) c)

  -- a started volume is one of the list
  there : (volumes : List Volume) (v : ℕ) → (volume_at volumes v).started ≡ true → v < length volumes
  there [] v h = absurd (cc h)
  there (x ∷ xs) zero h = omega arith
  there (x ∷ xs) (suc v) h = let more : v < length xs = there xs v h in omega (arith, more)

  module _ (faults : List ℕ) (last m : Laid) where
    -- the moves of volume n are its own, and leave the others
    abbrev AreOf : ℕ → List PassRun → Type 0
    AreOf n rs = AllByRecursion (λ (r : PassRun). r.volume ≡ n) rs

    one_is_own : (n : ℕ) (x : Volume) → AreOf n (volume_ended S faults last m n x)
    one_is_own n x = at x.started
      where
        reached : (b : Bool) (new : ℕ) → AreOf n (cond b (record {
          volume = n;
          slots = x.slots;
          pass = x.pass;
          word = Reaches new;
        } ∷ []) [])
        reached true new = (refl, tt)
        reached false new = tt

        passed : (before now : Option ℕ) (old new : ℕ) → AreOf n (pass_ended faults n x before now old new)
        passed None now old new = tt
        passed (Some kind) None old new = (refl, tt)
        passed (Some kind) (Some goes) old new = reached (nat_lt old new) new

        slots : (b : Bool) → AreOf n (slots_ended S faults last m n x b)
        slots true = (refl, tt)
        slots false =
            passed (S.start.words.pass last n) (S.start.words.pass m n) (S.start.words.unit last n)
            (S.start.words.unit m n)

        at : (b : Bool) → AreOf n (cond b (slots_ended S faults last m n x
            (has_other S (S.start.words.slots m n) x.slots)) [])
        at true = slots (has_other S (S.start.words.slots m n) x.slots)
        at false = tt

    others_stay : (n v : ℕ) → ((n ≡ v) → ⊥) → (rs : List PassRun) → AreOf n rs → (volumes : List Volume)
        → volume_at (run_all rs volumes) v ≡ volume_at volumes v
    others_stay n v apart [] own volumes = refl
    others_stay n v apart (r ∷ rs) own volumes =
        others_stay n v apart rs own.1 (run_one volumes r)
        ∙ elim (volume_set volumes r.volume
        (record (volume_at volumes r.volume) { slots = r.slots; pass = r.pass }) v) [
          | inl here ↦ absurd (apart (sym own.0 ∙ here.0))
          | inr other ↦ other
        ]

    one_leaves : (n : ℕ) (x : Volume) (volumes : List Volume) (v : ℕ) → ((n ≡ v) → ⊥)
        → volume_at (run_all (volume_ended S faults last m n x) volumes) v ≡ volume_at volumes v
    one_leaves n x volumes v apart =
        others_stay n v apart (volume_ended S faults last m n x) (one_is_own n x) volumes

    -- those of the volumes from number n on leave the volumes before
    runs_leave : (n : ℕ) (xs volumes : List Volume) (v : ℕ) → v < n
        → volume_at (run_all (volumes_ended S faults last m n xs) volumes) v ≡ volume_at volumes v
    runs_leave n [] volumes v below = refl
    runs_leave n (x ∷ xs) volumes v below =
        ap (λ vs. volume_at vs v)
        (run_more (volume_ended S faults last m n x) (volumes_ended S faults last m (n + 1) xs) volumes)
        ∙ runs_leave (n + 1) xs (run_all (volume_ended S faults last m n x) volumes) v (omega (arith, below))
        ∙ one_leaves n x volumes v (λ same. omega (arith, same, below))

    one_seats : (n : ℕ) (x : Volume) (volumes : List Volume) → volume_at volumes n ≡ x
        → (x.started ≡ true → length (S.start.words.slots m n) ≡ length x.slots)
        → IsSeated S m n (volume_at (run_all (volume_ended S faults last m n x) volumes) n)
    one_seats n x volumes is long = at x.started refl
      where
        moved : (r : PassRun) → r.volume ≡ n → x.started ≡ true
            → volume_at (run_one volumes r) n ≡ record x { slots = r.slots; pass = r.pass }
        moved r same started =
            let below : n < length volumes =
            there volumes n (ap (λ (y : Volume). y.started) is ∙ started) in
            subst (λ k. volume_at (set_pass volumes k r.slots r.pass) n ≡ record x { slots = r.slots; pass = r.pass })
            (sym same)
            (get_or-set_same volumes n (record (volume_at volumes n) { slots = r.slots; pass = r.pass }) no_volume below
            ∙ ap (λ (y : Volume). record y { slots = r.slots; pass = r.pass }) is)

        by : (rs : List PassRun) → EndsSeated faults last m n x rs → x.started ≡ true
            → IsSeated S m n (volume_at (run_all rs volumes) n)
        by rs (stays zip) started = λ s.
            subst (λ (y : Volume). AllZip (HasSeat S) (S.start.words.slots m n) y.slots) (sym is) zip
        by rs (moves r same zip) started = λ s.
            subst (λ (y : Volume). AllZip (HasSeat S) (S.start.words.slots m n) y.slots) (sym (moved r same started))
            zip

        at : (b : Bool) → x.started ≡ b
            → IsSeated S m n (volume_at (run_all (volume_ended S faults last m n x) volumes) n)
        at true started =
            by (volume_ended S faults last m n x) (ended_seated faults last m n x started (long started)) started
        at false started = λ s. absurd cc

    runs_seat : (n : ℕ) (xs volumes : List Volume)
        → ((i : ℕ) → volume_at volumes (n + i) ≡ volume_at xs i)
        → ((i : ℕ) → (volume_at xs i).started ≡ true
        → length (S.start.words.slots m (n + i)) ≡ length (volume_at xs i).slots)
        → (i : ℕ) → IsSeated S m (n + i) (volume_at (run_all (volumes_ended S faults last m n xs) volumes) (n + i))
    runs_seat n [] volumes is long i = λ started.
        absurd (let none = ap (λ (y : Volume). y.started) (is i) in cc (none, started))
    runs_seat n (x ∷ xs) volumes is long zero =
        let here : n + 0 ≡ n = omega arith in
        let first = one_seats n x volumes (subst (λ k. volume_at volumes k ≡ x) here (is 0))
        (λ started. subst (λ k. length (S.start.words.slots m k) ≡ length x.slots) here (long 0 started)) in
        let same : volume_at (run_all (volume_ended S faults last m n x ++ volumes_ended S faults last m (n + 1) xs)
        volumes) n
        ≡ volume_at (run_all (volume_ended S faults last m n x) volumes) n = ap (λ vs. volume_at vs n)
        (run_more (volume_ended S faults last m n x) (volumes_ended S faults last m (n + 1) xs) volumes)
        ∙ runs_leave (n + 1) xs (run_all (volume_ended S faults last m n x) volumes) n (omega arith) in
        subst (λ k. IsSeated S m k (volume_at (run_all (volume_ended S faults last m n x
        ++ volumes_ended S faults last m (n + 1) xs) volumes) k)) (sym here)
        (subst (IsSeated S m n) (sym same) first)
    runs_seat n (x ∷ xs) volumes is long (suc i) =
        let there : n + 1 + i ≡ n + suc i = omega arith in
        let behind = run_all (volume_ended S faults last m n x) volumes in
        let later = runs_seat (n + 1) xs behind
        (λ j. let same : n + 1 + j ≡ n + suc j = omega arith in
        one_leaves n x volumes (n + 1 + j) (λ e. omega (arith, e))
        ∙ subst (λ k. volume_at volumes k ≡ volume_at xs j) (sym same) (is (suc j)))
        (λ j started. let same : n + 1 + j ≡ n + suc j = omega arith in
        subst (λ k. length (S.start.words.slots m k) ≡ length (volume_at xs j).slots) (sym same)
        (long (suc j) started)) i in
        subst (λ k. IsSeated S m k (volume_at (run_all (volume_ended S faults last m n x
        ++ volumes_ended S faults last m (n + 1) xs) volumes) k)) there
        (subst (λ vs. IsSeated S m (n + 1 + i) (volume_at vs (n + 1 + i)))
        (sym (run_more (volume_ended S faults last m n x) (volumes_ended S faults last m (n + 1) xs) volumes)) later)

  -- behind the end of a round, and the moves that follow it, volumes are seated by its block
  pub end_seats : (c : Control) (m : Laid)
      → ((v : ℕ) → (volume_at c.volumes v).started ≡ true
      → length (S.start.words.slots m v) ≡ length (volume_at c.volumes v).slots)
      → AreSeated S (puts S (all_runs (volumes_ended S c.round.faults c.round.last m 0 c.volumes))
      (put S (RoundEnds m) c))
  end_seats c m long v =
      let rs = volumes_ended S c.round.faults c.round.last m 0 c.volumes in
      let left = puts_runs rs (put S (RoundEnds m) c) in
      let last : (puts S (all_runs rs) (put S (RoundEnds m) c)).round.last ≡ m = ap (λ (r : Round). r.last) left.1 in
      subst (λ l. IsSeated S l v (volume_at (puts S (all_runs rs) (put S (RoundEnds m) c)).volumes v)) (sym last)
      (subst (λ vs. IsSeated S m v (volume_at vs v)) (sym left.0)
      (subst (λ k. IsSeated S m k (volume_at (run_all rs c.volumes) k)) (from v)
      (runs_seat c.round.faults c.round.last m 0 c.volumes c.volumes
      (λ i. subst (λ k. volume_at c.volumes k ≡ volume_at c.volumes i) (sym (from i)) refl)
      (λ i started. subst (λ k. length (S.start.words.slots m k) ≡ length (volume_at c.volumes i).slots) (sym (from i))
      (long i started)) v)))
    where
      from : (i : ℕ) → 0 + i ≡ i
      from i = omega arith
