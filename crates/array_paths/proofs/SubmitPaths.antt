-- A client that submits its next operation takes a path.
use Rattle.std.proofs.Common.{◌≡◌, ℕ, zero, suc, ◌<◌, Bool, true, false, List, [], ◌∷◌, ◌++◌, length, refl, ap, sym, ◌∙◌, subst, arith, Option, Some, None, inl, inr}
use Rattle.std.proofs.lemmas.List.{get_or-set_same}
use Rattle.array_model.specs.declared.script.OpKind.{OpKind}
use Rattle.array_model.specs.declared.script.OpKind.TheVariants.{Write as OpWrite, Read as OpRead, Whole as OpWhole}
use Rattle.array_model.specs.Script.{kind_at}
use Rattle.array_model.specs.Placement.{Placement}
use Rattle.array_machine.specs.Setting.{Setting}
use Rattle.array_machine.specs.States.{State, IsReadonly, IsReadAuto, IsClean, IsPending, IsActive, IsIdle, StateWord, ToPending, ToActiveAgain, state_after}
use Rattle.array_machine.specs.Volumes.{Volume, no_volume, volume_at}
use Rattle.array_machine.specs.Operations.{volume_of, place_at, is_write}
use Rattle.array_machine.specs.Clients.{no_row, NoJob, Submitted, Busy, Client, no_client, client_at, with_job}
use Rattle.array_machine.specs.Control.{Control}
use Rattle.array_machine.specs.Changes.{StateGoes, ClientMoves, Submits}
use Rattle.array_machine.specs.Puts.{put, set_state}
use Rattle.array_machine.specs.Turns.{no_call}
use Rattle.array_machine.specs.ClientTurns.{asks_unless, begins_job, submit_at, submit_kind, is_shut, submit_unless, submit_next, the_volume}
use Rattle.array_paths.specs.InTurn.{InTurn, state_of, is_broken, job_of, left_of}
use Rattle.array_paths.specs.ClientMove.{fits_kind, fits_op, NamesSector, TakesWrites, submits, takes, is_past, starts}
use Rattle.array_paths.specs.Comes.{HasSubmitted, Comes, pends, again, client}
use Rattle.array_paths.specs.Effects.{quiet, Path, ends_here, goes_on}
use Rattle.array_paths.proofs.RoundPaths.{lone}

-- LISTS

-- a client that has something left is in the list
in_clients : (clients : List Client) (k i : ℕ) (rest : List ℕ) → (client_at clients k).left ≡ i ∷ rest
    → k < length clients
in_clients [] k i rest is = absurd cc
in_clients (x ∷ xs) zero i rest is = omega arith
in_clients (x ∷ xs) (suc k) i rest is = let more : k < length xs = in_clients xs k i rest is in omega arith

-- a volume whose state isn't the first is
in_volumes : (volumes : List Volume) (v : ℕ) (state : State) → (volume_at volumes v).state ≡ state
    → (state ≡ IsReadonly → ⊥) → v < length volumes
in_volumes [] v state is other = absurd (other (sym is))
in_volumes (x ∷ xs) zero state is other = omega arith
in_volumes (x ∷ xs) (suc v) state is other =
    let more : v < length xs = in_volumes xs v state is other in omega arith

state_set : (volumes : List Volume) (v : ℕ) (state : State) → v < length volumes
    → (volume_at (set_state volumes v state) v).state ≡ state
state_set volumes v state lt =
    ap (λ (x : Volume). x.state)
    (get_or-set_same volumes v (record (volume_at volumes v) { state = state }) no_volume lt)

-- SUBMITS

module _ (S : Setting) (t : InTurn) (c : Control) (k i : ℕ) (rest : List ℕ) (first : left_of c k ≡ i ∷ rest)
    (free : job_of c k ≡ NoJob) where
  abbrev after_submit : Control
  after_submit = put S (ClientMoves k (with_job rest (Submitted i)) (Submits i)) c

  submitted : client_at after_submit.clients k ≡ with_job rest (Submitted i)
  submitted = get_or-set_same c.clients k (with_job rest (Submitted i)) no_client (in_clients c.clients k i rest first)

  left_is : left_of after_submit k ≡ rest
  left_is = ap (λ (x : Client). x.left) submitted

  job_is : job_of after_submit k ≡ Submitted i
  job_is = ap (λ (x : Client). x.job) submitted

  submit_comes : Comes S t c (ClientMoves k (with_job rest (Submitted i)) (Submits i))
  submit_comes = client k _ _ (submits i rest first free)

  past_path : place_at S i ≡ None → NamesSector (kind_at S.asked.ops i)
      → Path S t c None no_call (submit_at k i rest (volume_of S i) (the_volume S c i) true None)
  past_path nowhere names =
      goes_on (quiet no_call _ submit_comes)
      (lone S t after_submit no_call _ (client k _ _ (is_past i rest left_is job_is nowhere names)))

  -- a write asks its volume for leave first
  module _ (writing : is_write S i ≡ true) (fits : fits_op S i ≡ true) where
    abbrev v : ℕ
    v = volume_of S i

    has_submitted : HasSubmitted S after_submit v
    has_submitted = record { client = k; op = i; is = job_is; writes = writing; on = refl }

    starts_now : (is_broken c v ≡ false → TakesWrites (state_of c v))
        → Path S t after_submit None no_call (begins_job k i rest ∷ [])
    starts_now leave =
        lone S t after_submit no_call _ (client k _ _ (starts i rest left_is job_is writing fits leave))

    starts_after : (word : StateWord) (state : State) → state_of c v ≡ state → (state ≡ IsReadonly → ⊥)
        → TakesWrites (state_after word) → Comes S t after_submit (StateGoes v word)
        → Path S t after_submit None no_call (StateGoes v word ∷ begins_job k i rest ∷ [])
    starts_after word state is other leave comes =
        let new = state_set c.volumes v (state_after word) (in_volumes c.volumes v state is other) in
        goes_on (quiet no_call _ comes)
        (lone S t (put S (StateGoes v word) after_submit) no_call _
        (client k _ _ (starts i rest left_is job_is writing fits (λ sound. subst TakesWrites (sym new) leave))))

    asks_path : (broken : Bool) → is_broken c v ≡ broken → (state : State) → state_of c v ≡ state
        → is_shut (volume_at c.volumes v) ≡ false
        → Path S t after_submit None no_call (asks_unless broken v state ++ begins_job k i rest ∷ [])
    asks_path true broken state is open_now = starts_now (λ sound. absurd (cc (broken, sound)))
    asks_path false sound IsReadonly is open_now =
        absurd (let shut : is_shut (volume_at c.volumes v) ≡ true = rw (is, sound) refl in cc (shut, open_now))
    asks_path false sound IsReadAuto is open_now =
        starts_after ToPending IsReadAuto is (λ e. absurd cc) tt (pends v sound (inl is) has_submitted)
    asks_path false sound IsClean is open_now =
        starts_after ToPending IsClean is (λ e. absurd cc) tt (pends v sound (inr is) has_submitted)
    asks_path false sound IsPending is open_now = starts_now (λ e. subst TakesWrites (sym is) tt)
    asks_path false sound IsActive is open_now = starts_now (λ e. subst TakesWrites (sym is) tt)
    asks_path false sound IsIdle is open_now =
        starts_after ToActiveAgain IsIdle is (λ e. absurd cc) tt (again v sound is has_submitted)

  takes_path : is_write S i ≡ false → fits_op S i ≡ true → is_shut (the_volume S c i) ≡ false
      → Path S t c None no_call (ClientMoves k (with_job rest (Busy i no_row)) (Submits i) ∷ [])
  takes_path reading fits open_now =
      lone S t c no_call _ (client k _ _ (takes i rest first free reading fits open_now))

  submit_at_path : (writing : Bool) → is_write S i ≡ writing → NamesSector (kind_at S.asked.ops i)
      → ((p : Placement) → place_at S i ≡ Some p → fits_op S i ≡ true) → is_shut (the_volume S c i) ≡ false
      → (place : Option Placement) → place_at S i ≡ place
      → Path S t c None no_call (submit_at k i rest (volume_of S i) (the_volume S c i) writing place)
  submit_at_path true w names fits open_now None is = past_path is names
  submit_at_path false w names fits open_now None is = past_path is names
  submit_at_path true w names fits open_now (Some p) is =
      goes_on (quiet no_call _ submit_comes) (asks_path w (fits p is) _ refl _ refl open_now)
  submit_at_path false w names fits open_now (Some p) is = takes_path w (fits p is) open_now

  fits_by : (p : Placement) → place_at S i ≡ Some p → fits_op S i ≡ fits_kind (Some p) (kind_at S.asked.ops i)
  fits_by p there = ap (λ q. fits_kind q (kind_at S.asked.ops i)) there

  submit_path : (shut : Bool) → is_shut (the_volume S c i) ≡ shut
      → Path S t c None no_call (submit_unless S c k i rest shut)
  submit_path true is = ends_here no_call
  submit_path false open_now = at (kind_at S.asked.ops i) refl
    where
      at : (kind : Option OpKind) → kind_at S.asked.ops i ≡ kind
          → Path S t c None no_call (submit_kind S c k i rest kind)
      at None is = ends_here no_call
      at (Some (OpWrite v s value)) is =
          submit_at_path true (rw is refl) (rw is tt) (λ p there. fits_by p there ∙ ap (fits_kind (Some p)) is)
          open_now (place_at S i) refl
      at (Some (OpRead v s)) is =
          submit_at_path false (rw is refl) (rw is tt) (λ p there. fits_by p there ∙ ap (fits_kind (Some p)) is)
          open_now (place_at S i) refl
      at (Some (OpWhole v)) is = takes_path (rw is refl) (rw is refl) open_now

pub next_path : (S : Setting) (t : InTurn) (c : Control) (k : ℕ) → job_of c k ≡ NoJob → (left : List ℕ)
    → left_of c k ≡ left → Path S t c None no_call (submit_next S c k left)
next_path S t c k free [] is = ends_here no_call
next_path S t c k free (i ∷ rest) is = submit_path S t c k i rest is free _ refl
