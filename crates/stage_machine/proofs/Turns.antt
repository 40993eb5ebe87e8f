-- What a turn may call, enter and leave: one relation, which all laws go through.
use Rattle.std.proofs.Common.{◌≡◌, ℕ, ◌+◌, not, Bool, true, false, List, [], ◌∷◌, refl, ap, Option, Some, None, ◌⊎◌, inl, inr}
use Rattle.units.specs.declared.disk.Sector.{Sector}
use Rattle.units.specs.Places.{anchor_place}
use Rattle.device_log.specs.Log.{Call, What, Read, Write, Sync}
use Rattle.array_model.specs.declared.script.OpKind.{OpKind}
use Rattle.array_model.specs.declared.script.OpKind.TheVariants.{Write as OpWrite, Read as OpRead, Whole as OpWhole}
use Rattle.array_model.specs.declared.journal.Event.{Event}
use Rattle.array_model.specs.declared.journal.Event.TheVariants.{Begin, End, Ready, Active, Clean, Idle, Submit, Ack}
use Rattle.array_model.specs.declared.journal.Answer.{Answer}
use Rattle.array_model.specs.declared.journal.Answer.TheVariants.{Past}
use Rattle.array_model.specs.Script.{kind_at}
use Rattle.array_model.specs.Placement.{Placement}
use Rattle.array_model.specs.Blocks.{Laid}
use Rattle.stage_machine.specs.Setting.{Setting}
use Rattle.stage_machine.specs.Rounds.{Step, AtAnchor, AtSync, Phase, Rest, Going, Ended, round_call, begin_with}
use Rattle.stage_machine.specs.States.{State, IsReadonly, IsReadAuto, IsClean, IsPending, IsActive, IsIdle, is_readonly, the_volume, asked_state, asked_events, is_due, next_dirty, starts_if, decide}
use Rattle.stage_machine.specs.Jobs.{JobStep, Waiting, Got, Job, NoJob, Busy, client_at, the_shape, placement_at, row_at, value_at, is_write, any_writing, Need, NoNeed, Reads, Writes, Syncs, Answers, after_write, after_sync, need_call}
use Rattle.stage_machine.specs.Machine.{Control, Out, put_round, moved, monitor_at, put_client, submit_write, submit_read, submit_kind, submit_unless, submit_next, meet, need_now, client_by, job_call, quiet_if, quieted, Action, Monitors, Asks, Quiets, turn, turned, turned_unless, turn_call, call_of, call_unless, got_of}

-- the client has these operations left, and this job
abbrev pub Has : Control → ℕ → List ℕ → Job → Type 0
Has c k left job = client_at c.clients k ≡ record { left = left; job = job }

-- what a control state may ask of a disk
pub data AsksFor (S : Setting) (c : Control) : ℕ → What → Type 0 where
  anchor : (m : Laid) (d : ℕ) (ds : List ℕ) (stored : ℕ) → c.round.phase ≡ Going m AtAnchor (d ∷ ds)
      → AsksFor S c d (Write (anchor_place (S.start.disks.sectors d)) (m.anchor ∷ []) stored)
  settle : (m : Laid) (d : ℕ) (ds : List ℕ) → c.round.phase ≡ Going m AtSync (d ∷ ds) → AsksFor S c d Sync
  put : (k i : ℕ) (left : List ℕ) (step : JobStep) (d : ℕ) (ds : List ℕ) (stored : ℕ) → Has c k left (Busy i step) → need_now S c k i step ≡ Writes d ds
      → AsksFor S c d (Write ((the_shape S).pba + row_at S i) (value_at S i ∷ []) stored)
  sync : (k i : ℕ) (left : List ℕ) (step : JobStep) (d : ℕ) (ds : List ℕ) → Has c k left (Busy i step) → need_now S c k i step ≡ Syncs d ds → AsksFor S c d Sync
  get : (k i : ℕ) (left : List ℕ) (step : JobStep) (d : ℕ) → Has c k left (Busy i step) → need_now S c k i step ≡ Reads d
      → AsksFor S c d (Read ((the_shape S).pba + row_at S i))

abbrev pub went : ℕ → What → Option Call
went d what = Some (record { disk = d; what = what; went = true })

abbrev pub is_row_kind : Option OpKind → Bool
is_row_kind None = false
is_row_kind (Some (OpWrite v s value)) = true
is_row_kind (Some (OpRead v s)) = true
is_row_kind (Some (OpWhole v)) = false

-- a read or a write, taken on where the volume is ready
pub record IsRowTaken (S : Setting) (c : Control) (i : ℕ) : Type 0 where
  pub row : is_row_kind (kind_at S.asked.ops i) ≡ true
  pub ready : is_readonly c.state ≡ false

-- the same, of a sector that isn't one of the volume
pub record IsPast (S : Setting) (c : Control) (i : ℕ) : Type 0 where
  pub taken : IsRowTaken S c i
  pub none : placement_at S i ≡ None

-- a turn: its call, its entries, and the control state that it leaves
pub data Turns (S : Setting) (c : Control) (got : Sector) : Option Call → List Event → Control → Type 0 where
  nothing : Turns S c got None [] c
  fails : (d : ℕ) (what : What) → AsksFor S c d what → Turns S c got (Some (record { disk = d; what = what; went = false })) [] (record c { failed = Some d })
  anchors : (m : Laid) (d : ℕ) (ds : List ℕ) → c.round.phase ≡ Going m AtAnchor (d ∷ ds)
      → Turns S c got (went d (Write (anchor_place (S.start.disks.sectors d)) (m.anchor ∷ []) 1)) [] (record c { round = record c.round { phase = Going m AtSync (d ∷ ds) } })
  settles : (m : Laid) (d e : ℕ) (ds : List ℕ) → c.round.phase ≡ Going m AtSync (d ∷ e ∷ ds)
      → Turns S c got (went d Sync) [] (record c { round = record c.round { phase = Going m AtAnchor (e ∷ ds) } })
  ends : (m : Laid) (d : ℕ) → c.round.phase ≡ Going m AtSync (d ∷ [])
      → Turns S c got (went d Sync) (End (S.start.words.generation m.anchor) ∷ []) (record c { round = record c.round { book = m; last = m; started = true; phase = Rest } })
  begins : (d : ℕ) (ds : List ℕ) → c.round.phase ≡ Rest → c.round.working ≡ d ∷ ds
      → (c.round.started ≡ false) ⊎ (is_due c.state (S.start.words.is_dirty c.round.book 0) ≡ true)
      → Turns S c got None (Begin (c.round.note + 1) ∷ [])
      (record c { round = record c.round { note = c.round.note + 1; phase = Going (S.renew c.round.book (c.round.note + 1) (next_dirty c.state)) AtAnchor (d ∷ ds) } })
  readies : c.round.phase ≡ Rest → c.round.started ≡ true → c.state ≡ IsReadonly → Turns S c got None (Ready the_volume ∷ []) (record c { state = IsReadAuto })
  actives : c.round.phase ≡ Rest → c.round.started ≡ true → c.state ≡ IsPending → S.start.words.is_dirty c.round.last 0 ≡ true
      → Turns S c got None (Active the_volume ∷ []) (record c { state = IsActive })
  cleans : c.round.phase ≡ Rest → c.round.started ≡ true → c.state ≡ IsIdle → Turns S c got None (Clean the_volume ∷ []) (record c { state = IsClean })
  rests : c.state ≡ IsActive → any_writing S c.clients ≡ false → Turns S c got None (Idle the_volume ∷ []) (record c { state = IsIdle })
  pasts : (k i : ℕ) (rest : List ℕ) → Has c k (i ∷ rest) NoJob → IsPast S c i → Turns S c got None (Submit i ∷ Ack i Past ∷ []) (put_client c k rest NoJob)
  asks_read : (k i : ℕ) (rest : List ℕ) (place : Placement) → Has c k (i ∷ rest) NoJob → placement_at S i ≡ Some place → is_write S i ≡ false → IsRowTaken S c i
      → Turns S c got None (Submit i ∷ []) (put_client c k rest (Busy i Waiting))
  asks_write : (k i : ℕ) (rest : List ℕ) (place : Placement) → Has c k (i ∷ rest) NoJob → placement_at S i ≡ Some place → is_write S i ≡ true → is_readonly c.state ≡ false
      → Turns S c got None (Submit i ∷ asked_events c.state) (record (put_client c k rest (Busy i Waiting)) { state = asked_state c.state })
  puts : (k i : ℕ) (left : List ℕ) (step : JobStep) (d : ℕ) (ds : List ℕ) → Has c k left (Busy i step) → need_now S c k i step ≡ Writes d ds
      → Turns S c got (went d (Write ((the_shape S).pba + row_at S i) (value_at S i ∷ []) 1)) [] (put_client c k left (Busy i (after_write S ds)))
  syncs : (k i : ℕ) (left : List ℕ) (step : JobStep) (d : ℕ) (ds : List ℕ) → Has c k left (Busy i step) → need_now S c k i step ≡ Syncs d ds
      → Turns S c got (went d Sync) [] (put_client c k left (Busy i (after_sync ds)))
  gets : (k i : ℕ) (left : List ℕ) (step : JobStep) (d : ℕ) → Has c k left (Busy i step) → need_now S c k i step ≡ Reads d
      → Turns S c got (went d (Read ((the_shape S).pba + row_at S i))) [] (put_client c k left (Busy i (Got got)))
  acks : (k i : ℕ) (left : List ℕ) (step : JobStep) (answer : Answer) → Has c k left (Busy i step) → need_now S c k i step ≡ Answers answer
      → Turns S c got None (Ack i answer ∷ []) (put_client c k left NoJob)

abbrev pub TurnsOut : Setting → Control → Sector → Option Call → Out → Type 0
TurnsOut S c got call out = Turns S c got call out.events out.next

-- THE MONITOR

monitor_turns : (S : Setting) (c : Control) (got : Sector) (x : Ended) (phase : Phase) → c.round.phase ≡ phase → TurnsOut S c got (round_call S x phase) (monitor_at S c x phase)
monitor_turns S c got x Rest is = by c.round.started refl c.state refl (S.start.words.is_dirty c.round.last 0) refl (S.start.words.is_dirty c.round.book 0) refl
  where
    due : (c.round.started ≡ false) ⊎ (is_due c.state (S.start.words.is_dirty c.round.book 0) ≡ true) → (working : List ℕ) → c.round.working ≡ working
        → TurnsOut S c got None (put_round c (begin_with c.round (S.renew c.round.book (c.round.note + 1) (next_dirty c.state)) working))
    due why [] none = nothing
    due why (d ∷ ds) some = begins d ds is some why

    if_due : (dirty : Bool) → S.start.words.is_dirty c.round.book 0 ≡ dirty → (b : Bool) → is_due c.state dirty ≡ b → TurnsOut S c got None (moved S c (starts_if b))
    if_due dirty d true why = due (inr (rw d why)) c.round.working refl
    if_due dirty d false why = nothing

    by : (started : Bool) → c.round.started ≡ started → (state : State) → c.state ≡ state → (recorded : Bool) → S.start.words.is_dirty c.round.last 0 ≡ recorded
        → (dirty : Bool) → S.start.words.is_dirty c.round.book 0 ≡ dirty → TurnsOut S c got None (moved S c (decide started state recorded dirty))
    by false s state t recorded r dirty d = due (inl s) c.round.working refl
    by true s IsReadonly t recorded r dirty d = readies is s t
    by true s IsReadAuto t recorded r dirty d = if_due dirty d (is_due IsReadAuto dirty) (ap (λ z. is_due z dirty) t)
    by true s IsClean t recorded r dirty d = if_due dirty d (is_due IsClean dirty) (ap (λ z. is_due z dirty) t)
    by true s IsPending t true r dirty d = actives is s t r
    by true s IsPending t false r dirty d = if_due dirty d (is_due IsPending dirty) (ap (λ z. is_due z dirty) t)
    by true s IsActive t recorded r dirty d = nothing
    by true s IsIdle t recorded r dirty d = cleans is s t
monitor_turns S c got x (Going m step []) is = nothing
monitor_turns S c got x (Going m step (d ∷ ds)) is = at x.went x.stored step ds is
  where
    at : (b : Bool) (n : ℕ) (step : Step) (ds : List ℕ) → c.round.phase ≡ Going m step (d ∷ ds)
        → TurnsOut S c got (round_call S (record { went = b; stored = n }) (Going m step (d ∷ ds))) (monitor_at S c (record { went = b; stored = n }) (Going m step (d ∷ ds)))
    at true n AtAnchor ds is = anchors m d ds is
    at true n AtSync [] is = ends m d is
    at true n AtSync (e ∷ ds) is = settles m d e ds is
    at false n AtAnchor ds is = fails d _ (anchor m d ds n is)
    at false n AtSync ds is = fails d _ (settle m d ds is)

-- THE CLIENTS

submit_turns : (S : Setting) (c : Control) (got : Sector) (k : ℕ) (left : List ℕ) → Has c k left NoJob → TurnsOut S c got None (submit_next S c k left)
submit_turns S c got k [] has = nothing
submit_turns S c got k (i ∷ rest) has = at (is_readonly c.state) refl
  where
    write : is_row_kind (kind_at S.asked.ops i) ≡ true → is_write S i ≡ true → is_readonly c.state ≡ false → (place : Option Placement) → placement_at S i ≡ place → TurnsOut S c got None (submit_write c k i rest place)
    write row w live None is = pasts k i rest has (record { taken = record { row = row; ready = live }; none = is })
    write row w live (Some place) is = asks_write k i rest place has is w live

    read : is_row_kind (kind_at S.asked.ops i) ≡ true → is_write S i ≡ false → is_readonly c.state ≡ false → (place : Option Placement) → placement_at S i ≡ place → TurnsOut S c got None (submit_read c k i rest place)
    read row w live None is = pasts k i rest has (record { taken = record { row = row; ready = live }; none = is })
    read row w live (Some place) is = asks_read k i rest place has is w (record { row = row; ready = live })

    kind : is_readonly c.state ≡ false → (kind : Option OpKind) → kind_at S.asked.ops i ≡ kind → TurnsOut S c got None (submit_kind S c k i rest kind)
    kind live None is = nothing
    kind live (Some (OpWrite v s value)) is = write (rw is refl) (rw is refl) live (placement_at S i) refl
    kind live (Some (OpRead v s)) is = read (rw is refl) (rw is refl) live (placement_at S i) refl
    kind live (Some (OpWhole v)) is = nothing

    at : (b : Bool) → is_readonly c.state ≡ b → TurnsOut S c got None (submit_unless S c k i rest b)
    at true is = nothing
    at false is = kind is (kind_at S.asked.ops i) refl

client_turns : (S : Setting) (c : Control) (k : ℕ) (x : Ended) (got : Sector) (left : List ℕ) (job : Job) → Has c k left job
    → TurnsOut S c got (job_call S c k x job) (client_by S c k x got left job)
client_turns S c k x got left NoJob has = submit_turns S c got k left has
client_turns S c k x got left (Busy i step) has = at (need_now S c k i step) refl
  where
    went_or_not : (b : Bool) (n : ℕ) (need : Need) → need_now S c k i step ≡ need
        → TurnsOut S c got (need_call S (record { went = b; stored = n }) i need) (meet S c k (record { went = b; stored = n }) got left i need)
    went_or_not b n NoNeed is = nothing
    went_or_not true n (Reads d) is = gets k i left step d has is
    went_or_not false n (Reads d) is = fails d _ (get k i left step d has is)
    went_or_not true n (Writes d ds) is = puts k i left step d ds has is
    went_or_not false n (Writes d ds) is = fails d _ (put k i left step d ds n has is)
    went_or_not true n (Syncs d ds) is = syncs k i left step d ds has is
    went_or_not false n (Syncs d ds) is = fails d _ (sync k i left step d ds has is)
    went_or_not b n (Answers answer) is = acks k i left step answer has is

    at : (need : Need) → need_now S c k i step ≡ need → TurnsOut S c got (need_call S x i need) (meet S c k x got left i need)
    at need is = went_or_not x.went x.stored need is

quiet_turns : (S : Setting) (c : Control) (got : Sector) (state : State) → c.state ≡ state → TurnsOut S c got None (quieted S c state)
quiet_turns S c got IsReadonly is = nothing
quiet_turns S c got IsReadAuto is = nothing
quiet_turns S c got IsClean is = nothing
quiet_turns S c got IsPending is = nothing
quiet_turns S c got IsActive is = at (any_writing S c.clients) refl
  where
    at : (b : Bool) → any_writing S c.clients ≡ b → TurnsOut S c got None (quiet_if c (not b))
    at true busy = nothing
    at false calm = rests is calm
quiet_turns S c got IsIdle is = nothing

-- each turn of the machine
pub turns_of : (S : Setting) (c : Control) (a : Action) → TurnsOut S c (got_of a) (call_of S c a) (turned S c a)
turns_of S c a = at c.failed
  where
    by : (a : Action) → TurnsOut S c (got_of a) (turn_call S c a) (turn S c a)
    by (Monitors x) = monitor_turns S c _ x c.round.phase refl
    by (Asks k x got) = client_turns S c k x got (client_at c.clients k).left (client_at c.clients k).job refl
    by Quiets = quiet_turns S c _ c.state refl

    at : (failed : Option ℕ) → TurnsOut S c (got_of a) (call_unless S c a failed) (turned_unless S c a failed)
    at None = by a
    at (Some d) = nothing
