-- What a stage's run keeps, over disks that held a container.
use Rattle.std.proofs.Common.{◌≡◌, ℕ, ◌+◌, Bool, true, false, List, [], ◌++◌, length, take, drop, Option, Some, None, refl, ap, sym, subst, ◌∙◌, arith, length-append, ◌*◌, ◌≤◌}
use Rattle.std.specs.List.{AllByRecursion}
use Rattle.std.proofs.lemmas.Bool.Decides.{nat_tests}
use Rattle.std.proofs.lemmas.List.FromFn.{length-range_with_len}
use Rattle.std.proofs.lemmas.List.{append-nil, take_all, drop_at}
use Rattle.units.specs.declared.disk.Sector.{Sector}
use Rattle.device_log.specs.Log.{Call}
use Rattle.array_model.specs.declared.journal.Entry.{Entry}
use Rattle.array_model.specs.Script.{Asked}
use Rattle.array_model.specs.Blocks.{Laid, SlotWords}
use Rattle.array_model.specs.Moments.{AllBelow}
use Rattle.array_model.specs.Rounds.{IsFinished, HasFinished, is_lost}
use Rattle.array_model.specs.Renewal.{FitsGeneration}
use Rattle.block_meaning.specs.Renewed.{renewed}
use Rattle.block_meaning.proofs.Renewal.{renewal}
use Rattle.stage_machine.specs.Setting.{Setting}
use Rattle.stage_machine.specs.Opens.{AsksFirst, StandsOnAll, IsFirstVolume}
use Rattle.array_model.specs.AnswerLaw.{AnswerLaw, IsVolumeWhole}
use Rattle.array_model.specs.FailureLaw.{EndsAtFailure}
use Rattle.array_model.specs.Rests.{HasComeToRest}
use Rattle.array_model.proofs.Journals.{all_map}
use Rattle.stage_machine.specs.Machine.{Control, World, Action, Reached}
use Rattle.stage_machine.proofs.Moments.{counted_reached}
use Rattle.stage_machine.proofs.Ours.{ours_reached, none_lost}
use Rattle.stage_machine.proofs.Failed.{ends_reached}
use Rattle.stage_machine.proofs.Finished.{fine_reached, finished_good}
use Rattle.journal_law.proofs.Form.{is_journal}
use Rattle.gate_law.proofs.Gate.{gate_reached}
use Rattle.failure_law.proofs.Failures.{failures_reached}
use Rattle.round_law.proofs.Law.{round_reached, last_reached}
use Rattle.round_law.proofs.Containers.{containers_reached}
use Rattle.round_law.proofs.Endings.{endings_reached}
use Rattle.round_law.proofs.Renewed.{renewed_reached}
use Rattle.answer_law.proofs.Order.{in_order}
use Rattle.answer_law.proofs.JobKinds.{reads_in_sync}
use Rattle.answer_law.proofs.Runs.{answers_honest}
use Rattle.cause_law.proofs.Law.{caused_reached}
use Rattle.cause_law.proofs.Short.{short_reached}
use Rattle.row_law.proofs.Answers.{answers_reached}
use Rattle.row_law.proofs.Causes.{causes_reached}
use Rattle.rest_law.specs.Rest.{IsAtRest}
use Rattle.rest_law.proofs.Halts.{ended, told_at_rest}
use Rattle.rest_law.proofs.Told.{rests_by_journal}
use Rattle.control_state.specs.Still.{is_still}
use Rattle.rest_law.proofs.Durable.{durably_clean}
use Rattle.first_opening.specs.Opened.{Opened, IsOpening, setting_of}
use Rattle.first_opening.specs.Copies.{HoldsCopies, first_copy, differs}
use Rattle.first_opening.proofs.Found.{stands-on-all, targets-are}
use Rattle.first_opening.proofs.Slots.{two-members}
use Rattle.call_law.proofs.Calls.{few_reached}
use Rattle.first_opening.proofs.Volume.{first-volume, slots-in-sync, no-pass}
use Rattle.first_opening.proofs.Copies.{holds-content}
use Rattle.first_opening.proofs.Asked.{asks-first}
use Rattle.stage.specs.Stages as stages
use Rattle.stage.specs.Stages.{Given}
use Rattle.stage.specs.Runs.{Ran, RanTrue}
use Rattle.stage_law.specs.Runs.{IsRunOn, AsksRows, given_on, start_on, start_of}
use Rattle.stage_law.specs.Laws.{KeepsForm, KeepsLog, KeepsLaws, IsSince, AllAnswered, IsLeftClean}
use Rattle.stage_law.proofs.Opened.{alike_on, reached_on, honest_on}
use Rattle.stage_law.proofs.Ended.{ActorsStill, rests, each_still, still_as, can_end}

-- THE MACHINE OVER THE DISKS

module _ (o : Opened) (asked : Asked) (opens : IsOpening o) (asks : AsksFirst (setting_of o asked (first_copy o) (differs o))) where
  abbrev pub T : Setting
  T = setting_of o asked (first_copy o) (differs o)

  on : StandsOnAll T
  on = stands-on-all o asked (first_copy o) (differs o) opens

  volume : IsFirstVolume T
  volume = first-volume o asked (first_copy o) (differs o) opens

  -- a round writes to each disk, and the volume has two
  targets_few : 2 * length T.targets ≤ 2 * length o.serials + 4
  targets_few =
      let count : length T.targets ≡ length o.serials = ap (λ (ds : List ℕ). length ds) (targets-are o opens) ∙ length-range_with_len 0 (length o.serials) in
      omega (arith, count)

  members_few : 2 * length T.members ≤ 2 * length o.serials + 4
  members_few = let two : length T.members ≡ 2 = two-members o opens in omega (arith, two)

  pub form_of : (w : World) → FitsGeneration w.control.round.note → Reached T w → KeepsForm (start_of o) asked w.calls w.journal
  form_of w fits r = record {
    form = is_journal T asks renewal on w fits r;
    order = in_order T asks w r;
    causes = caused_reached T asks renewal on volume w fits r;
    short = short_reached T asks renewal on w fits r;
    few = few_reached T renewal on (2 * length o.serials + 4) targets_few members_few w fits r;
  }

  pub log_of : (w : World) → FitsGeneration w.control.round.note → Reached T w → KeepsLog renewed (start_of o) asked w.log w.journal
  log_of w fits r = record {
    rounds = round_reached T renewal on volume w fits r;
    blocks = containers_reached T renewal on volume w fits r;
    endings = endings_reached T renewal on volume w fits r;
    renewed = renewed_reached T asks renewal on volume w fits r;
    gate = gate_reached T asks renewal on volume w fits r;
    failures = failures_reached T renewal on volume w fits r;
    reads = reads_in_sync T on volume w.log w.journal (ours_reached T w r) (fine_reached T renewal on volume w fits r);
    rows = answers_reached T asks volume w r;
    calls = causes_reached T asks renewal on volume w fits r;
  }

  -- the last finished round is the one that the machine keeps
  last_is : (w : World) → FitsGeneration w.control.round.note → Reached T w → (m : Laid) → IsFinished T.start w.log w.journal m → m ≡ w.control.round.last
  last_is w fits r m finished =
      let counted = counted_reached T w r in
      let whole : take (length w.log) w.log ≡ w.log = take_all (length w.log) w.log (omega arith) in
      let below : AllBelow (length w.log) w.journal = subst (λ z. AllBelow z w.journal) counted.calls counted.below in
      let at = round_reached T renewal on volume w fits r (length w.log) w.journal [] (record { parts = sym (append-nil w.journal); calls = omega arith; none_above = below; all_below = tt }) in
      let one : HasFinished T.start w.log w.journal = subst (λ l. HasFinished T.start l w.journal) whole at in
      one.one m finished ∙ sym (one.one w.control.round.last (last_reached T renewal on volume w fits r))

  -- the volume is whole in the last finished round
  whole_in : (w : World) → FitsGeneration w.control.round.note → Reached T w → (m : Laid) → IsFinished T.start w.log w.journal m → (v : ℕ) → T.start.is_started v ≡ true → IsVolumeWhole T.start w.journal m v
  whole_in w fits r m finished v started =
      let same = finished_good T volume on w.log w.journal m (fine_reached T renewal on volume w fits r) finished in
      let first : 0 ≡ v = grind (arith, nat_tests, started) in
      let sound : (s : SlotWords) → s.is_in_sync ≡ true → (s.is_in_sync ≡ true) × (is_lost T.start.disks s.serial w.journal ≡ false) =
      λ s in_sync. (in_sync, none_lost T.start.disks s.serial w.journal (ours_reached T w r)) in
      subst (λ n. IsVolumeWhole T.start w.journal m n) first (record {
        slots = subst (AllByRecursion (λ s. (s.is_in_sync ≡ true) × (is_lost T.start.disks s.serial w.journal ≡ false))) (sym (same.slots 0))
            (all_map (λ s. s.is_in_sync ≡ true) (λ s. (s.is_in_sync ≡ true) × (is_lost T.start.disks s.serial w.journal ≡ false)) sound (T.start.words.slots T.start.newest 0) (slots-in-sync o opens));
        idle = same.pass 0 ∙ no-pass o opens;
      })

  -- a run at rest leaves the volume clean
  pub left_clean : (w : World) → FitsGeneration w.control.round.note → Reached T w → AsksRows asked.ops → w.control.failed ≡ None → IsAtRest T w.control → IsLeftClean (start_of o) w.log w.journal
  left_clean w fits r rows alive rest =
      let can = can_end o asked (first_copy o) (differs o) opens rows in
      record {
        clean = λ m finished. ap (λ x. T.start.words.is_dirty x 0) (last_is w fits r m finished) ∙ (ended T asks can w r alive rest).clean;
        durable = durably_clean T w asks can renewal on volume fits r alive rest;
        whole = whole_in w fits r;
      }

  pub all_answered : (w : World) → Reached T w → AsksRows asked.ops → w.control.failed ≡ None → IsAtRest T w.control → AllAnswered asked.ops w.journal
  all_answered w r rows alive rest = (ended T asks (can_end o asked (first_copy o) (differs o) opens rows) w r alive rest).answered

  -- at rest the journal tells it
  rest_told : (w : World) → Reached T w → AsksRows asked.ops → w.control.failed ≡ None → IsAtRest T w.control → HasComeToRest (start_of o) asked.ops w.journal
  rest_told w r rows alive rest = told_at_rest T asks (can_end o asked (first_copy o) (differs o) opens rows) w r alive rest volume (λ v started. grind (arith, nat_tests, started))

-- HOW THE RUN ENDED

-- two ways to cut a list with the same number behind
pub same_behind : {X : Type 0} (xs ys zs ws : List X) → xs ++ ys ≡ zs ++ ws → length ys ≡ length ws → ys ≡ ws
same_behind xs ys zs ws is count =
    let sum : length xs + length ys ≡ length zs + length ws = sym (length-append xs ys) ∙ ap (λ l. length l) is ∙ length-append zs ws in
    let front : length zs ≡ length xs = omega (arith, sum, count) in
    sym (drop_at xs ys (length xs) refl) ∙ ap (drop (length xs)) is ∙ drop_at zs ws (length xs) front

-- the calls of a run, as they stand in the log, end at the one that failed
pub ends_at : (S : Setting) (c : Control) (calls : ℕ) (journal : List Entry) (told : Option (List Call)) → Ran S c calls journal told
    → (all log : List Call) → told ≡ Some all → IsSince calls all log → EndsAtFailure log journal c.failed
ends_at S c calls journal told ran all log known since =
    let count = (counted_reached S (record { control = c; calls = calls; log = ran.log; journal = journal }) ran.run).calls in
    let same : ran.log ≡ log = same_behind ran.before ran.log since.before log (sym (ran.agrees all known) ∙ since.joined) (sym count ∙ sym since.counted) in
    subst (λ l. EndsAtFailure l journal c.failed) same (ends_reached S (record { control = c; calls = calls; log = ran.log; journal = journal }) ran.run)

-- THE STAGE'S RUN

abbrev pub SeenRun : Given → Control → ℕ → List Entry → Option (List (List Sector)) → Option (List Call) → Type 0
SeenRun given c calls journal contents told = RanTrue (stages.setting_of given) c calls journal contents told

module _ (o : Opened) (asked : Asked) (given : Given) (run : IsRunOn o asked given) (c : Control) (calls : ℕ) (journal : List Entry) (contents : Option (List (List Sector))) (told : Option (List Call))
    (fits : FitsGeneration c.round.note) (seen : SeenRun given c calls journal contents told) where
  asks : AsksFirst (setting_of o asked (first_copy o) (differs o))
  asks = asks-first o asked (first_copy o) (differs o) run.asks

  abbrev pub seen_on : SeenRun (given_on o asked.ops) c calls journal contents told
  seen_on = subst (λ g. SeenRun g c calls journal contents told) run.found seen

  abbrev pub world : World
  world = record { control = c; calls = calls; log = seen_on.ran.log; journal = journal }

  reached : Reached (setting_of o asked (first_copy o) (differs o)) world
  reached = reached_on o asked (first_copy o) (differs o) run.opens world seen_on.ran.run

  pub keeps_form : KeepsForm (start_of o) asked calls journal
  keeps_form = form_of o asked run.opens asks world fits reached

  answers : (all : List Call) → told ≡ Some all → contents ≡ Some o.contents → (content : ℕ → ℕ → Sector) (unsure : ℕ → ℕ → Bool) → HoldsCopies o content unsure
      → AnswerLaw (start_on o content unsure) asked seen_on.ran.log journal
  answers all known held content unsure copies =
      let T = setting_of o asked content unsure in
      answers_honest T (asks-first o asked content unsure run.asks) renewal (stands-on-all o asked content unsure run.opens) (first-volume o asked content unsure run.opens)
      (holds-content o asked content unsure run.opens copies) world fits
      (honest_on o asked content unsure run.opens world (seen_on.honest o.contents all held known))

  -- the actors of the stage are still
  at_rest : ActorsStill (stages.setting_of given) c → IsAtRest (setting_of o asked (first_copy o) (differs o)) c
  at_rest still =
      rests (stages.setting_of (given_on o asked.ops)) (setting_of o asked (first_copy o) (differs o)) (alike_on o asked (first_copy o) (differs o) run.opens) c
      (subst (λ g. ActorsStill (stages.setting_of g) c) run.found still)

  pub keeps_laws : (all : List Call) → told ≡ Some all
      → (log : List Call) × IsSince calls all log × KeepsLaws o asked contents log journal
      × (AsksRows asked.ops → (c.failed ≡ None) → ActorsStill (stages.setting_of given) c → IsLeftClean (start_of o) log journal)
  keeps_laws all known = (
    seen_on.ran.log,
    record {
      before = seen_on.ran.before;
      reads = seen_on.ran.reads;
      joined = seen_on.ran.agrees all known;
      counted = sym (counted_reached (setting_of o asked (first_copy o) (differs o)) world reached).calls;
    },
    record { kept = log_of o asked run.opens asks world fits reached; answers = answers all known },
    λ rows alive still. left_clean o asked run.opens asks world fits reached rows alive (at_rest still),
  )

  pub comes_to_rest : AsksRows asked.ops → c.failed ≡ None → ActorsStill (stages.setting_of given) c → HasComeToRest (start_of o) asked.ops journal
  comes_to_rest rows alive still = rest_told o asked run.opens asks world reached rows alive (at_rest still)

  -- while somebody has a turn to take the journal doesn't tell of rest
  pub works_on : (a : Action) → is_still (stages.setting_of given) c a ≡ false → HasComeToRest (start_of o) asked.ops journal → ⊥
  works_on a waits told_rest =
      let T = setting_of o asked (first_copy o) (differs o) in
      let rest : IsAtRest T c = rests_by_journal T asks renewal (on o asked run.opens asks) (volume o asked run.opens asks) world fits reached told_rest in
      let still : is_still (stages.setting_of given) c a ≡ true =
      subst (λ g. is_still (stages.setting_of g) c a ≡ true) (sym run.found) (still_as (stages.setting_of (given_on o asked.ops)) T (alike_on o asked (first_copy o) (differs o) run.opens) c a (each_still T asks world reached rest a)) in
      cc (waits, still)

  pub answers_all : AsksRows asked.ops → c.failed ≡ None → ActorsStill (stages.setting_of given) c → AllAnswered asked.ops journal
  answers_all rows alive still = all_answered o asked run.opens asks world reached rows alive (at_rest still)
