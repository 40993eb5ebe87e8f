-- What holds of the disks at opening, and of volumes that open as the newest block says.
use Rattle.std.proofs.Common.{◌≡◌, ℕ, zero, suc, ◌-◌, ◌≤◌, ◌&&◌, not, Bool, true, false, if◌then◌else◌, List, [], ◌∷◌, map, refl, ap, sym, ◌∙◌, subst, arith, Some}
use Rattle.std.specs.List.{range_with_len}
use Rattle.units.specs.declared.bounds.TheConstants.{CLIENTS}
use Rattle.units.specs.Places.{anchor_place}
use Rattle.device_log.specs.Cells.{Cell, resting}
use Rattle.array_model.specs.Blocks.{Laid, is_container}
use Rattle.array_model.specs.Candidates.{In}
use Rattle.array_disks.specs.Held.{IsWholeOn}
use Rattle.array_disks.proofs.Places.{standing_length}
use Rattle.array_disks.proofs.Openings.{opened_known_is, opened_candidates, opened_has, account_opened, each_known_opened}
use Rattle.array_machine.specs.Setting.{Setting}
use Rattle.array_machine.specs.Volumes.{Volume, volume_at, disk_in}
use Rattle.array_machine.specs.Operations.{ops_of}
use Rattle.array_machine.specs.Clients.{Client, client_at, with_job, NoJob}
use Rattle.array_machine.specs.Rounds.{expects}
use Rattle.array_machine.specs.Machine.{first_round, begins_at}
use Rattle.array_paths.specs.Ready.{HasRoomFor, Ready}
use Rattle.array_model.specs.Blocks.{SaysAlike}
use Rattle.array_base.specs.Premises.{generation_of, IsContainer, IsBlock, Premises}
use Rattle.array_base.specs.Opening.{first_at, HoldsContainer, counts_out, slot_opened, Opening}
use Rattle.array_base.specs.Base.{Ledger, ledger, IsTrusted, disks_by, AreTwins, KnownAreSound, HoldsCurrent, IsKnown, Core, Base}
use Rattle.array_base.proofs.Seats.{slot_of_words, seat_room}

module _ (S : Setting) (P : Premises S) (volumes : List Volume) (spares : List ℕ) (o : Opening S P volumes spares) where
  abbrev opening_ledger : Ledger
  opening_ledger = ledger (first_round S)

  -- KNOWN BLOCKS

  -- only what stood there is known of a disk
  known_is : (d : ℕ) (a : Laid) → In a (disks_by S [] d).known
      → (a ≡ first_at S d) × IsWholeOn S.start.words S.start.disks d (first_at S d)
  known_is d a i = opened_known_is S.start.words S.start.disks d a i

  holds : (d : ℕ) (a : Laid) → In a (disks_by S [] d).known → IsContainer S a → HoldsContainer S d
  holds d a i is =
      let known = known_is d a i in
      record { whole = known.1; container = ap (is_container S.start.words) (sym known.0) ∙ is }

  at_most : (d : ℕ) (a : Laid) → In a (disks_by S [] d).known → IsContainer S a
      → generation_of S a ≤ generation_of S S.start.newest
  at_most d a i is =
      let le = o.top d (holds d a i is) in
      let same = ap (generation_of S) (known_is d a i).0 in
      omega (arith, le, same)

  twins : (d e : ℕ) (a b : Laid) → In a (disks_by S [] d).known → In b (disks_by S [] e).known → IsContainer S a
      → IsContainer S b → generation_of S a ≡ generation_of S b → AreTwins S a b
  twins d e a b i j p q equal =
      let first = (known_is d a i).0 in
      let other = (known_is e b j).0 in
      let says = o.alike d e (holds d a i p) (holds e b j q)
      (ap (generation_of S) (sym first) ∙ equal ∙ ap (generation_of S) other) in
      record {
        says = subst (λ x. SaysAlike S.start.words x b) (sym first)
            (subst (SaysAlike S.start.words (first_at S d)) (sym other) says);
        same = λ above. absurd (let le = at_most d a i p in omega (arith, le, above));
      }

  known_at_opening : KnownAreSound S (disks_by S []) opening_ledger
  known_at_opening = record {
    account = account_opened S.start.words S.start.disks;
    blocks = each_known_opened S.start.words S.start.disks (λ d a. IsBlock S a) (λ d whole. record {
      extra =
          let n = S.start.disks.sectors d in
          let cells : ℕ → Cell = λ p. resting (S.start.disks.opening d p) in
          let count = S.start.words.extra (first_at S d).anchor in
          sym (standing_length cells (anchor_place n - count) count);
      serial = S.start.disks.serial d;
      sectors = S.start.disks.sectors d;
      whole = whole;
    });
    noted = at_most;
    twins = twins;
  }

  newest_known : IsKnown S (disks_by S []) S.start.newest
  newest_known = record {
    disk = o.disk;
    there = subst (λ m. In m (disks_by S [] o.disk).known) o.stands
        (subst (In (first_at S o.disk)) (opened_candidates S.start.words S.start.disks o.disk)
        (opened_has S.start.words S.start.disks o.disk o.there.whole));
  }

  -- TRUSTED DISKS

  trusted_is : (d : ℕ) → IsTrusted S opening_ledger d
      → (expects S S.start.newest d ≡ true) × (counts_out S d ≡ false)
  trusted_is d trusted = at (expects S S.start.newest d) (counts_out S d) trusted
    where
      at : (e out : Bool) → (e && true && not out) ≡ true → (e ≡ true) × (out ≡ false)
      at true true h = absurd cc
      at true false h = (refl, refl)
      at false out h = absurd cc

  current_at_opening : (d : ℕ) → IsTrusted S opening_ledger d → HoldsCurrent S (disks_by S []) opening_ledger d
  current_at_opening d trusted =
      let is = trusted_is d trusted in
      let there = o.members d is.0 is.1 in
      record {
        some = (first_at S d, opened_has S.start.words S.start.disks d there.whole);
        candidates = λ a i.
            let known = known_is d a (subst (In a) (opened_candidates S.start.words S.start.disks d) i) in
            record {
              container = ap (is_container S.start.words) known.0 ∙ there.container;
              young =
                  let same = ap (generation_of S) known.0 ∙ o.level d is.0 is.1 in
                  omega (arith, same);
            };
        expected = λ e a i current.
            let le = at_most e a i current.container in
            let equal = twins e newest_known.disk a S.start.newest i newest_known.there current.container
            o.newest.container (omega (arith, le, current.young)) in
            equal.says.expects (S.start.disks.serial d) ∙ is.0;
        in_book = is.0;
      }

  pub core_at_opening : Core S P (disks_by S []) opening_ledger
  core_at_opening = record {
    known = known_at_opening;
    working = current_at_opening;
    generations = record {
      last = omega arith;
      newest = omega arith;
      above = λ h. absurd cc;
      first = λ h. refl;
      none_ended = λ h. refl;
    };
    hand = record {
      book = o.newest;
      last = o.newest;
      last_known = newest_known;
      given = λ d. o.newest;
      given_known = λ d. newest_known;
    };
  }

  pub base_at_opening : Base S P [] (begins_at S volumes spares).control
  base_at_opening = record { core = core_at_opening; goes = λ ended. absurd cc; next = tt }

  -- VOLUMES

  -- no client has a job yet
  pub no_jobs : (f : ℕ → Client) → ((k : ℕ) → (f k).job ≡ NoJob) → (ks : List ℕ) (k : ℕ)
      → (client_at (map f ks) k).job ≡ NoJob
  no_jobs f none [] k = refl
  no_jobs f none (j ∷ js) zero = none j
  no_jobs f none (j ∷ js) (suc k) = no_jobs f none js k

  pub ready_at_opening : Ready S (begins_at S volumes spares).control
  ready_at_opening = record {
    started = λ v is. sym (o.volumes_are v).started ∙ is;
    room = λ v s d sound is. room v s d is;
    jobs = λ k i r is.
        let none = no_jobs (λ k. with_job (ops_of S.asked.ops k) NoJob) (λ k. refl) (range_with_len 0 CLIENTS) k in
        absurd (let bad = sym none ∙ is in cc bad);
  }
    where
      room : (v s d : ℕ) → disk_in (volume_at volumes v).slots s ≡ Some d → HasRoomFor S v d
      room v s d is =
          let opens = o.volumes_are v in
          at (volume_at volumes v).started refl (ap (λ slots. disk_in slots s) (sym opens.slots) ∙ is)
        where
          at : (b : Bool) → (volume_at volumes v).started ≡ b
              → disk_in (if b then map (slot_opened S) (S.start.words.slots S.start.newest v) else []) s ≡ Some d
              → HasRoomFor S v d
          at true started is =
              let found = slot_of_words (slot_opened S) (S.start.words.slots S.start.newest v) s d is in
              let opens = o.volumes_are v in
              seat_room S P S.start.newest v s found.0 d o.newest (sym opens.started ∙ started) found.1 found.2
          at false started is = absurd cc
