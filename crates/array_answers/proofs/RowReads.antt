-- Each call that reads a row reads it in a slot in sync, on a disk without a fault.
use Rattle.std.proofs.Common.{◌≡◌, ℕ, ◌+◌, ◌<◌, ◌≤◌, ◌==◌, ◌&&◌, nat_le, nat_lt, Bool, true, false, cond, List, [], ◌∷◌, ◌++◌, length, refl, subst, arith, Option, Some, None}
use Rattle.std.specs.Prelude.{⊤}
use Rattle.std.proofs.lemmas.Bool.Decides.{nat_tests}
use Rattle.std.proofs.lemmas.Bool.{and_parts}
use Rattle.units.specs.declared.disk.Sector.{Sector}
use Rattle.units.specs.declared.bounds.TheConstants.{METADATA_SECTORS}
use Rattle.device_log.specs.Log.{Call, What, Read, Write, Sync}
use Rattle.array_model.specs.declared.script.OpKind.{OpKind}
use Rattle.array_model.specs.declared.script.OpKind.TheVariants.{Write as OpWrite, Read as OpRead, Whole as OpWhole}
use Rattle.array_model.specs.Script.{kind_at}
use Rattle.array_model.specs.Placement.{Placement}
use Rattle.array_model.specs.Blocks.{Laid}
use Rattle.array_model.specs.AnswerLaw.{IsSyncAt}
use Rattle.array_machine.specs.Setting.{Setting}
use Rattle.array_machine.specs.Numbers.{has, without}
use Rattle.array_machine.specs.Volumes.{volume_at, slot_at, disk_in, source_if, source_in, Pass}
use Rattle.array_machine.specs.Operations.{volume_of, shape_of, place_at, place_or, the_place}
use Rattle.array_machine.specs.Clients.{Row}
use Rattle.array_machine.specs.RowJobs.{Need}
use Rattle.array_machine.specs.Rounds.{Ended, Life, Lives, Killed, Takes, Dead, Step, AtExtended, AtAnchor, AtSync, what_of}
use Rattle.array_machine.specs.Control.{Control}
use Rattle.array_machine.specs.Changes.{Change}
use Rattle.array_machine.specs.Faults.{life_without}
use Rattle.array_machine.specs.TakeoverTurns.{is_too_long, has_all, read_place}
use Rattle.array_machine.specs.Puts.{put}
use Rattle.array_paths.specs.InTurn.{InTurn}
use Rattle.array_paths.specs.ClientMove.{fits_kind, NamesSector, Needs, ClientCall, reads, writes, syncs}
use Rattle.array_paths.specs.PassMove.{slots_of, PassCall, reads, writes, syncs}
use Rattle.array_paths.specs.Comes.{Comes, begins, begins_spare, ends, ends_spare, lapses, fails, unblocks, readies, pends, activates, again, idles, cleans, client, pass, manages, kills, takes_over, resumes, dies}
use Rattle.array_paths.specs.AtRows.{AtRows, LostAtRows, by_client, by_pass, by_monitor, of_client, of_pass, of_monitor, after_read}
use Rattle.array_paths.specs.Effects.{Effect, quiet, row, row_fails, steps, step_fails}
use Rattle.array_paths.specs.Ready.{Ready}
use Rattle.array_base.specs.Premises.{Premises}
use Rattle.array_base.proofs.Targets.{or_neither}
use Rattle.array_answers.specs.Slots.{words_at, AllSlotsHold}
use Rattle.array_answers.specs.Takeovers.{ReadsMetadata}
use Rattle.array_answers.proofs.Moved.{backed_at}

-- TAKEOVERS

module _ (S : Setting) where
  after_fault : (d : ℕ) (life : Life) → ReadsMetadata S life → ReadsMetadata S (life_without d life)
  after_fault d Lives short = tt
  after_fault d Killed short = tt
  after_fault d Dead short = tt
  after_fault d (Takes [] seen found) short = tt
  after_fault d (Takes (e ∷ es) [] found) short = at (e == d)
    where
      at : (b : Bool) → ReadsMetadata S (cond b (Takes (without d es) [] (without d found))
          (Takes (e ∷ without d es) [] (without d found)))
      at true = tt
      at false = tt
  after_fault d (Takes (e ∷ es) (a ∷ more) found) short = at (e == d)
    where
      at : (b : Bool) → ReadsMetadata S (cond b (Takes (without d es) [] (without d found))
          (Takes (e ∷ without d es) (a ∷ more) (without d found)))
      at true = tt
      at false = short

  module _ (c : Control) (t : InTurn) (short : ReadsMetadata S c.round.life) where
    comes_short : (a : Change) → Comes S t c a → ReadsMetadata S (put S a c).round.life
    comes_short _ (begins m life rest target next) = short
    comes_short _ (begins_spare d m life rest target may is unlisted room) = short
    comes_short _ (ends m step is) = short
    comes_short _ (ends_spare d m step is) = short
    comes_short _ (lapses aim m step late is) = short
    comes_short _ (fails d who may) = after_fault d c.round.life short
    comes_short _ (unblocks d rest blocked ended unexpected) = short
    comes_short _ (readies v started state rest ended) = short
    comes_short _ (pends v sound state submitted) = short
    comes_short _ (activates v runs state rest ended dirty) = short
    comes_short _ (again v sound state submitted) = short
    comes_short _ (idles v who runs state none) = short
    comes_short _ (cleans v runs state rest) = short
    comes_short _ (client k new word move) = short
    comes_short _ (pass v slots new word move) = short
    comes_short _ (manages new word move) = short
    comes_short _ (kills who awake) = tt
    comes_short _ (takes_over who life) = tt
    comes_short _ (resumes d taking young) = tt
    comes_short _ (dies taking) = tt

    read_short : (d : ℕ) (left : List ℕ) (seen : List Sector) (found : List ℕ) (b : Bool) → has_all S seen ≡ b
        → ReadsMetadata S (put S (after_read S c d left seen found b) c).round.life
    read_short d left seen found true all = tt
    read_short d left [] found false all = tt
    read_short d left (a ∷ more) found false all =
        (or_neither (is_too_long S a) (nat_le (S.start.words.extra a) (length more)) all).0

    rows_short : (d : ℕ) (what : What) (x : Ended) (a : Change) → AtRows S c d what x a
        → ReadsMetadata S (put S a c).round.life
    rows_short d _ x _ (by_client k i r need _ _ call) = short
    rows_short d _ x _ (by_pass v p need _ _ call) = short
    rows_short d _ x _ (by_monitor left seen found _ life) =
        read_short d left (seen ++ x.got ∷ []) found (has_all S (seen ++ x.got ∷ [])) refl

    pub effect_short : {call : Option Call} {x : Ended} {a : Change} → Effect S t c call x a
        → ReadsMetadata S (put S a c).round.life
    effect_short (quiet x a comes) = comes_short a comes
    effect_short (row d what x a may calls went at) = rows_short d what x a at
    effect_short (row_fails d what x may calls failed lost) = after_fault d c.round.life short
    effect_short (steps d m step x target went) = short
    effect_short (step_fails d m step x target failed) = after_fault d c.round.life short

  -- CALLS

  -- what a read before the sectors that are kept for metadata is of
  abbrev pub ReadOf : Control → ℕ → What → Type 0
  ReadOf c d (Read place) =
      place + METADATA_SECTORS < S.start.disks.sectors d
      → (has d c.round.faults ≡ false) × IsSyncAt S.start c.round.last d place
  ReadOf c d (Write place sectors stored) = ⊤
  ReadOf c d Sync = ⊤

  abbrev pub ReadBy : Control → Option Call → Type 0
  ReadBy c None = ⊤
  ReadBy c (Some call) = ReadOf c call.disk call.what

  -- a disk that may be read in a slot
  source_parts : (b : Bool) (disk : Option ℕ) (d : ℕ) → source_if b disk ≡ Some d → (b ≡ true) × (disk ≡ Some d)
  source_parts true disk d is = (refl, is)
  source_parts false disk d is = absurd (cc is)

  module _ (P : Premises S) (c : Control) (ready : Ready S c) (hold : AllSlotsHold S c) where
    sync_at : (v s d n : ℕ) → source_in (volume_at c.volumes v) s ≡ Some d → has d c.round.faults ≡ false
        → n < (shape_of S v).rows → IsSyncAt S.start c.round.last d ((shape_of S v).pba + n)
    sync_at v s d n on sound below =
        let x = volume_at c.volumes v in
        let parts = source_parts (x.started && (slot_at x.slots s).in_sync) (disk_in x.slots s) d on in
        let both = and_parts x.started (slot_at x.slots s).in_sync parts.0 in
        let backed = backed_at S c.round.faults (words_at S c.round.last v) (slots_of c v) s d
        (hold v both.0).of_last.has parts.1 sound in
        record {
          volume = v;
          row = record { started = ready.started v both.0; from = omega arith; until = omega (arith, below) };
          slot = s;
          member = record { words = backed.words; there = backed.there; same = backed.tells.serial };
          in_sync = backed.tells.in_sync both.1;
        }

    -- an operation that names a sector has its row in its volume
    row_below : (k i : ℕ) (r : Row) (need : Need) → Needs S c k i r need
        → (the_place S i).row < (shape_of S (volume_of S i)).rows
    row_below k i r need needs =
        at (place_at S i) refl (kind_at S.asked.ops i) needs.names (ready.jobs k i r needs.has)
      where
        at : (place : Option Placement) → place_at S i ≡ place → (kind : Option OpKind) → NamesSector kind
            → fits_kind place kind ≡ true → (place_or place).row < (shape_of S (volume_of S i)).rows
        at (Some p) is kind names fits = P.rows i p is
        at None is None names fits = absurd names
        at None is (Some (OpWrite w s value)) names fits = absurd (cc fits)
        at None is (Some (OpRead w s)) names fits = absurd (cc fits)
        at None is (Some (OpWhole w)) names fits = absurd names

    client_reads : (k d i : ℕ) (r : Row) (need : Need) (what : What) (stored : ℕ) → has d c.round.faults ≡ false
        → ClientCall S c k d i r need what stored → ReadOf c d what
    client_reads k d i r _ _ _ sound (reads _ _ s _ needs on) = λ room. (
      sound,
      sync_at (volume_of S i) s d (the_place S i).row on sound (row_below k i r _ needs),
    )
    client_reads k d i r _ _ _ sound (writes _ _ s _ needs on) = tt
    client_reads k d i r _ _ _ sound (syncs _ _ s _ needs on) = tt

    pass_reads : (v d : ℕ) (p : Pass) (need : Need) (what : What) (stored : ℕ) → has d c.round.faults ≡ false
        → PassCall S c v d p need what stored → ReadOf c d what
    pass_reads v d p _ _ _ sound (reads _ s _ needs free on) = λ room. (
      sound,
      sync_at v s d p.row on sound
          (let within = nat_lt p.row (shape_of S v).rows in
          let lt = (and_parts within _ free).0 in
          grind (arith, nat_tests, lt)),
    )
    pass_reads v d p _ _ _ sound (writes _ s _ needs free on) = tt
    pass_reads v d p _ _ _ sound (syncs _ s _ needs on) = tt

    monitor_reads : (d : ℕ) (left : List ℕ) (seen : List Sector) (found : List ℕ) → ReadsMetadata S c.round.life
        → c.round.life ≡ Takes (d ∷ left) seen found → ReadOf c d (Read (read_place S d seen))
    monitor_reads d left [] found short is = λ room. absurd (omega (arith, room))
    monitor_reads d left (a ∷ more) found short is = λ room.
        let long = subst (ReadsMetadata S) is short in
        let few : S.start.words.extra a + 2 ≤ METADATA_SECTORS = grind (arith, nat_tests, long) in
        absurd (omega (arith, room, few))

    module _ (short : ReadsMetadata S c.round.life) where
      rows_read : (d : ℕ) (what : What) (x : Ended) (a : Change) → has d c.round.faults ≡ false
          → AtRows S c d what x a → ReadOf c d what
      rows_read d _ x _ sound (by_client k i r need what _ call) = client_reads k d i r need what 1 sound call
      rows_read d _ x _ sound (by_pass v p need what _ call) = pass_reads v d p need what 1 sound call
      rows_read d _ x _ sound (by_monitor left seen found _ life) = monitor_reads d left seen found short life

      lost_read : (d : ℕ) (what : What) → has d c.round.faults ≡ false → LostAtRows S c d what → ReadOf c d what
      lost_read d _ sound (of_client k i r need what stored call) = client_reads k d i r need what stored sound call
      lost_read d _ sound (of_pass v p need what stored call) = pass_reads v d p need what stored sound call
      lost_read d _ sound (of_monitor left seen found life) = monitor_reads d left seen found short life

      step_read : (x : Ended) (m : Laid) (step : Step) (d : ℕ) → ReadOf c d (what_of S x m step d)
      step_read x m AtExtended d = tt
      step_read x m AtAnchor d = tt
      step_read x m AtSync d = tt

      pub effect_reads : (t : InTurn) {call : Option Call} {x : Ended} {a : Change} → Effect S t c call x a
          → ReadBy c call
      effect_reads t (quiet x a comes) = tt
      effect_reads t (row d what x a may calls went at) = rows_read d what x a may.sound at
      effect_reads t (row_fails d what x may calls failed lost) = lost_read d what may.sound lost
      effect_reads t (steps d m step x target went) = step_read x m step d
      effect_reads t (step_fails d m step x target failed) = step_read x m step d
