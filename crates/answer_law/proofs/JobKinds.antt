-- A job does what its operation asks for; and what the laws on `whole` and on reads need.
use Rattle.std.proofs.Common.{◌≡◌, ℕ, ◌+◌, ◌<◌, Bool, true, false, List, [], ◌∷◌, ◌++◌, take, refl, ap, sym, ◌∙◌, subst, arith, inl, inr, Option, Some, None, slice_get}
use Rattle.std.specs.Prelude.{⊤}
use Rattle.std.specs.List.{AllByRecursion}
use Rattle.units.specs.declared.disk.Sector.{Sector}
use Rattle.device_log.specs.Log.{Call, What}
use Rattle.array_model.specs.declared.script.OpKind.{OpKind}
use Rattle.array_model.specs.declared.script.OpKind.TheVariants.{Write as OpWrite, Read as OpRead, Whole as OpWhole}
use Rattle.array_model.specs.declared.journal.Entry.{Entry}
use Rattle.array_model.specs.declared.journal.Event.{Event}
use Rattle.array_model.specs.declared.journal.Event.TheVariants.{Ack}
use Rattle.array_model.specs.declared.journal.Answer.{Answer}
use Rattle.array_model.specs.declared.journal.Answer.TheVariants.{Done, Value, Past, Failed, NoSpare}
use Rattle.array_model.specs.Script.{kind_at}
use Rattle.array_model.specs.Events.{AtEachFrom, up_to}
use Rattle.array_model.specs.Moments.{EachCall}
use Rattle.array_model.specs.AnswerLaw.{WholeAt, WholeFor, ReadsInSync, MayRead}
use Rattle.array_model.proofs.Journals.{all-append, each_call}
use Rattle.stage_machine.specs.Setting.{Setting, has_disk}
use Rattle.stage_machine.specs.Opens.{StandsOnAll, IsFirstVolume}
use Rattle.stage_machine.specs.States.{State, IsReadonly, IsReadAuto, IsClean, IsPending, IsActive, IsIdle, asked_events}
use Rattle.stage_machine.specs.Jobs.{JobStep, Waiting, Writing, Syncing, Written, Got, Job, NoJob, Busy, Client, the_shape, is_write, is_write_kind, Need, NoNeed, Reads, Writes, Syncs, Answers, need_of, first_need, read_need, write_need, sync_need, after_write, after_sync}
use Rattle.stage_machine.specs.Machine.{Control, is_held, need_now, need_unless, World, Reached, opens, goes, stamped, calls_after, call_of, got_of, turned}
use Rattle.stage_machine.proofs.Turns.{Turns, turns_of, Has, nothing, fails, anchors, settles, ends, begins, readies, actives, cleans, rests, pasts, asks_read, asks_write, puts, syncs, gets, acks}
use Rattle.stage_machine.proofs.Clients.{Each, each_set, there_left, there_busy, at_start}
use Rattle.stage_machine.proofs.Ours.{AreOurs, none_faulty, ours_up_to}
use Rattle.stage_machine.proofs.Finished.{Fine, fine_anchor, fine_write, fine_read, fine_sync, IsFine, finished_good, all_take}

abbrev pub is_read_kind : Option OpKind → Bool
is_read_kind None = false
is_read_kind (Some (OpWrite v s value)) = false
is_read_kind (Some (OpRead v s)) = true
is_read_kind (Some (OpWhole v)) = false

abbrev pub is_read : Setting → ℕ → Bool
is_read S i = is_read_kind (kind_at S.asked.ops i)

-- a job that writes is of a write, and one that has a value of a read
abbrev pub KindFits : Setting → ℕ → JobStep → Type 0
KindFits S i Waiting = ⊤
KindFits S i (Writing left) = is_write S i ≡ true
KindFits S i (Syncing left) = is_write S i ≡ true
KindFits S i Written = is_write S i ≡ true
KindFits S i (Got value) = is_read S i ≡ true

abbrev pub JobFits : Setting → Job → Type 0
JobFits S NoJob = ⊤
JobFits S (Busy i step) = KindFits S i step

abbrev pub Fits : Setting → Control → Type 0
Fits S c = Each (λ k client. JobFits S client.job) c.clients

pub fits_of : (S : Setting) (c : Control) (k i : ℕ) (left : List ℕ) (step : JobStep) → Fits S c → Has c k left (Busy i step) → KindFits S i step
fits_of S c k i left step fits has_disk = subst (λ (x : Client). JobFits S x.job) has_disk (fits k)

-- what a job that fits may need
abbrev pub NeedFits : Setting → ℕ → Need → Type 0
NeedFits S i NoNeed = ⊤
NeedFits S i (Reads d) = is_read S i ≡ true
NeedFits S i (Writes d ds) = is_write S i ≡ true
NeedFits S i (Syncs d ds) = is_write S i ≡ true
NeedFits S i (Answers Done) = is_write S i ≡ true
NeedFits S i (Answers (Value x)) = is_read S i ≡ true
NeedFits S i (Answers Past) = ⊥
NeedFits S i (Answers Failed) = ⊥
NeedFits S i (Answers NoSpare) = ⊥

write_fits : (S : Setting) (i : ℕ) (ds : List ℕ) → is_write S i ≡ true → NeedFits S i (write_need ds)
write_fits S i [] h = tt
write_fits S i (d ∷ ds) h = h

sync_fits : (S : Setting) (i : ℕ) (ds : List ℕ) → is_write S i ≡ true → NeedFits S i (sync_need ds)
sync_fits S i [] h = tt
sync_fits S i (d ∷ ds) h = h

read_fits : (S : Setting) (i : ℕ) (ds : List ℕ) → is_read S i ≡ true → NeedFits S i (read_need ds)
read_fits S i [] h = tt
read_fits S i (d ∷ ds) h = h

first_fits : (S : Setting) (i : ℕ) (kind : Option OpKind) → kind_at S.asked.ops i ≡ kind → NeedFits S i (first_need S kind)
first_fits S i None is = tt
first_fits S i (Some (OpWrite v s value)) is = write_fits S i S.members (ap is_write_kind is)
first_fits S i (Some (OpRead v s)) is = read_fits S i S.members (ap is_read_kind is)
first_fits S i (Some (OpWhole v)) is = tt

pub need_fits : (S : Setting) (c : Control) (k i : ℕ) (step : JobStep) → KindFits S i step → NeedFits S i (need_now S c k i step)
need_fits S c k i step fits = at (is_held S c k i)
  where
    by : (step : JobStep) → KindFits S i step → NeedFits S i (need_of S i step)
    by Waiting h = first_fits S i (kind_at S.asked.ops i) refl
    by (Writing left) h = write_fits S i left h
    by (Syncing left) h = sync_fits S i left h
    by Written h = h
    by (Got value) h = h

    at : (b : Bool) → NeedFits S i (need_unless S i step b)
    at true = tt
    at false = by step fits

pub need_is : (S : Setting) (c : Control) (k i : ℕ) (left : List ℕ) (step : JobStep) (need : Need) → Fits S c → Has c k left (Busy i step) → need_now S c k i step ≡ need → NeedFits S i need
need_is S c k i left step need fits has_disk is = subst (NeedFits S i) is (need_fits S c k i step (fits_of S c k i left step fits has_disk))

after_write_fits : (S : Setting) (i : ℕ) (ds : List ℕ) → is_write S i ≡ true → KindFits S i (after_write S ds)
after_write_fits S i [] h = h
after_write_fits S i (d ∷ ds) h = h

after_sync_fits : (S : Setting) (i : ℕ) (ds : List ℕ) → is_write S i ≡ true → KindFits S i (after_sync ds)
after_sync_fits S i [] h = h
after_sync_fits S i (d ∷ ds) h = h

fits_turns : (S : Setting) (c : Control) (got : Sector) {call : Option Call} {es : List Event} {next : Control} → Turns S c got call es next → Fits S c → Fits S next
fits_turns S c got nothing fits = fits
fits_turns S c got (fails d what asked) fits = fits
fits_turns S c got (anchors m d ds is) fits = fits
fits_turns S c got (settles m d e ds is) fits = fits
fits_turns S c got (ends m d is) fits = fits
fits_turns S c got (begins d ds is some why) fits = fits
fits_turns S c got (readies is s t) fits = fits
fits_turns S c got (actives is s t r) fits = fits
fits_turns S c got (cleans is s t) fits = fits
fits_turns S c got (rests t calm) fits = fits
fits_turns S c got (pasts k i rest here none) fits = each_set (λ k client. JobFits S client.job) c.clients k _ (there_left c k i rest NoJob here) fits tt
fits_turns S c got (asks_read k i rest place here is w ready) fits = each_set (λ k client. JobFits S client.job) c.clients k _ (there_left c k i rest NoJob here) fits tt
fits_turns S c got (asks_write k i rest place here is w ready) fits = each_set (λ k client. JobFits S client.job) c.clients k _ (there_left c k i rest NoJob here) fits tt
fits_turns S c got (puts k i left step d ds here need) fits =
    each_set (λ k client. JobFits S client.job) c.clients k _ (there_busy c k i left step here) fits (after_write_fits S i ds (need_is S c k i left step _ fits here need))
fits_turns S c got (syncs k i left step d ds here need) fits =
    each_set (λ k client. JobFits S client.job) c.clients k _ (there_busy c k i left step here) fits (after_sync_fits S i ds (need_is S c k i left step _ fits here need))
fits_turns S c got (gets k i left step d here need) fits =
    each_set (λ k client. JobFits S client.job) c.clients k _ (there_busy c k i left step here) fits (need_is S c k i left step _ fits here need)
fits_turns S c got (acks k i left step answer here need) fits = each_set (λ k client. JobFits S client.job) c.clients k _ (there_busy c k i left step here) fits tt

pub fits_reached : (S : Setting) (w : World) → Reached S w → Fits S w.control
fits_reached S w opens = λ k. elim (at_start S k) [
  | inl first ↦ subst (λ (x : Client). JobFits S x.job) (sym first.1) tt
  | inr past ↦ subst (λ (x : Client). JobFits S x.job) (sym past.1) tt
]
fits_reached S w (goes {w = v} r a) = fits_turns S v.control (got_of a) (turns_of S v.control a) (fits_reached S v r)

-- ACKS

-- what is done is a write, and nothing is answered `nospare`
abbrev pub AnswerFits : Setting → ℕ → Answer → Type 0
AnswerFits S i Done = is_write S i ≡ true
AnswerFits S i (Value x) = ⊤
AnswerFits S i Past = ⊤
AnswerFits S i Failed = ⊤
AnswerFits S i NoSpare = ⊥

abbrev pub AckFits : Setting → Event → Type 0
AckFits S (Ack i answer) = AnswerFits S i answer
AckFits S _ = ⊤

ack_of_need : (S : Setting) (i : ℕ) (answer : Answer) → NeedFits S i (Answers answer) → AnswerFits S i answer
ack_of_need S i Done h = h
ack_of_need S i (Value x) h = tt
ack_of_need S i Past h = tt
ack_of_need S i Failed h = tt
ack_of_need S i NoSpare h = h

acks_fit : (S : Setting) (c : Control) (got : Sector) (n : ℕ) → Fits S c → {call : Option Call} {es : List Event} {next : Control} → Turns S c got call es next → AllByRecursion (λ e. AckFits S e.event) (stamped n es)
acks_fit S c got n fits nothing = tt
acks_fit S c got n fits (fails d what asked) = tt
acks_fit S c got n fits (anchors m d ds is) = tt
acks_fit S c got n fits (settles m d e ds is) = tt
acks_fit S c got n fits (ends m d is) = (tt, tt)
acks_fit S c got n fits (begins d ds is some why) = (tt, tt)
acks_fit S c got n fits (readies is s t) = (tt, tt)
acks_fit S c got n fits (actives is s t r) = (tt, tt)
acks_fit S c got n fits (cleans is s t) = (tt, tt)
acks_fit S c got n fits (rests t calm) = (tt, tt)
acks_fit S c got n fits (pasts k i rest here none) = (tt, (tt, tt))
acks_fit S c got n fits (asks_read k i rest place here is w ready) = (tt, tt)
acks_fit S c got n fits (asks_write k i rest place here is w ready) = (tt, at c.state)
  where
    at : (state : State) → AllByRecursion (λ e. AckFits S e.event) (stamped n (asked_events state))
    at IsReadonly = tt
    at IsReadAuto = (tt, tt)
    at IsClean = (tt, tt)
    at IsPending = tt
    at IsActive = tt
    at IsIdle = tt
acks_fit S c got n fits (puts k i left step d ds here need) = tt
acks_fit S c got n fits (syncs k i left step d ds here need) = tt
acks_fit S c got n fits (gets k i left step d here need) = tt
acks_fit S c got n fits (acks k i left step answer here need) = (ack_of_need S i answer (need_is S c k i left step _ fits here need), tt)

pub acks_reached : (S : Setting) (w : World) → Reached S w → AllByRecursion (λ e. AckFits S e.event) w.journal
acks_reached S w opens = tt
acks_reached S w (goes {w = v} r a) =
    let n = calls_after v.calls (call_of S v.control a) in
    all-append (λ (e : Entry). AckFits S e.event) v.journal (stamped n (turned S v.control a).events) (acks_reached S v r) (acks_fit S v.control (got_of a) n (fits_reached S v r) (turns_of S v.control a))

-- no volume is called whole, nor without a spare
pub whole_each : (S : Setting) (log : List Call) (front journal : List Entry) → AllByRecursion (λ e. AckFits S e.event) journal
    → AtEachFrom (λ front e. WholeAt S.start S.asked (take e.stamp log) front e.event) front journal
whole_each S log front [] fit = tt
whole_each S log front (x ∷ xs) fit = (at x.event fit.0, whole_each S log (front ++ x ∷ []) xs fit.1)
  where
    for : (i : ℕ) (answer : Answer) (kind : Option OpKind) → kind_at S.asked.ops i ≡ kind → AnswerFits S i answer → WholeFor S.start S.asked (take x.stamp log) front answer kind
    for i answer None is h = tt
    for i answer (Some (OpWrite v s value)) is h = tt
    for i answer (Some (OpRead v s)) is h = tt
    for i Done (Some (OpWhole v)) is h = absurd (let no_write : is_write S i ≡ false = ap is_write_kind is in cc (no_write, h))
    for i (Value x) (Some (OpWhole v)) is h = λ m finished. tt
    for i Past (Some (OpWhole v)) is h = λ m finished. tt
    for i Failed (Some (OpWhole v)) is h = λ m finished. tt
    for i NoSpare (Some (OpWhole v)) is h = absurd h

    at : (e : Event) → AckFits S e → WholeAt S.start S.asked (take x.stamp log) front e
    at (Ack i answer) h = for i answer (kind_at S.asked.ops i) refl h
    at _ h = tt

-- READS

-- each read is of a member that is in sync in the last finished round
pub reads_in_sync : (S : Setting) → StandsOnAll S → IsFirstVolume S → (log : List Call) (journal : List Entry) → AreOurs journal → AllByRecursion (IsFine S) log
    → EachCall (λ before call. ReadsInSync S.start log journal before call.disk call.what) log
reads_in_sync S on volume log journal ours fine =
    each_call (λ before call. ReadsInSync S.start log journal before call.disk call.what) (IsFine S) (λ before call is. at before call.disk call.what is) 0 log fine
  where
    may : (before d row : ℕ) → row < (the_shape S).size → has_disk d S.members ≡ true → MayRead S.start log journal before d ((the_shape S).pba + row)
    may before d row below member = record {
      sound = none_faulty d (up_to before journal) (ours_up_to before journal ours);
      in_sync = λ m finished.
          let same = finished_good S volume on (take before log) (up_to before journal) m (all_take S before log fine) finished in
          let of = volume.members d member in
          record {
            volume = 0;
            row = record { started = volume.started; from = omega arith; until = let rows = volume.rows in omega (arith, below, rows) };
            slot = of.slot;
            member = record { words = of.member.words; there = ap (λ xs. slice_get xs of.slot) (same.slots 0) ∙ of.member.there; same = of.member.same };
            in_sync = of.in_sync;
          };
    }

    at : (before d : ℕ) (what : What) → Fine S d what → ReadsInSync S.start log journal before d what
    at before d _ (fine_anchor m stored target good) = tt
    at before d _ (fine_write place stored s row) = tt
    at before d _ (fine_read row below member) = λ v here above. may before d row below member
    at before d _ fine_sync = tt
