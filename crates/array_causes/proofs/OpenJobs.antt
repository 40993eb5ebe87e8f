-- Jobs of writes: between turns each operation that was submitted has begun its job or was answered, and no such job is
-- at an idle volume that isn't broken.
use Rattle.std.proofs.Common.{◌≡◌, ℕ, zero, suc, ◌+◌, ◌==◌, ◌||◌, ◌&&◌, Bool, true, false, List, [], ◌∷◌, refl, ap, sym, ◌∙◌, subst, arith, Option, Some, ◌⊎◌, inl, inr, slice_set, cond}
use Rattle.std.proofs.lemmas.Bool.Decides.{nat_tests}
use Rattle.array_model.specs.declared.journal.Entry.{Entry}
use Rattle.array_model.specs.Events.{has, is_ack_of}
use Rattle.array_machine.specs.Setting.{Setting}
use Rattle.array_machine.specs.States.{State, IsIdle, StateWord, ToReady, ToPending, ToActive, ToActiveAgain, ToIdle, ToClean, state_after}
use Rattle.array_machine.specs.Volumes.{Volume, Slot, Pass, volume_at, has_disk}
use Rattle.array_machine.specs.Operations.{volume_of, is_write}
use Rattle.array_machine.specs.Clients.{Row, Job, NoJob, Submitted, Busy, Client, client_at}
use Rattle.array_machine.specs.Rounds.{Round}
use Rattle.array_machine.specs.Faults.{breaks, round_without, job_without, clients_without, volume_lost, volumes_without}
use Rattle.array_machine.specs.OtherTurns.{any_writing}
use Rattle.array_machine.specs.Control.{Control}
use Rattle.array_machine.specs.Changes.{Change, SpareBegins, DiskFails, StateGoes, ClientMoves, PassMoves, ManagerMoves, ClientWord, IsSilent, Submits, Acknowledges, PassWord, GoesOnQuietly, OpensAt, Reaches, Closes, SaysNothing, Posts, Applies, Declines}
use Rattle.array_machine.specs.Puts.{put}
use Rattle.array_paths.specs.InTurn.{state_of, is_broken, job_of}
use Rattle.array_paths.specs.ClientMove.{TakesWrites}
use Rattle.array_base.proofs.Targets.{or_neither}
use Rattle.array_told.proofs.Tells.{state_without, state_with_pass, set_at}
use Rattle.array_order.specs.ClientSteps.{op_in}
use Rattle.array_causes.specs.Links.{Link, First, Fresh, BehindSubmit, BehindAsk, BehindEnd, BehindReady, BehindApplied, behind_submit, behind_ask, link_after, IsSettled, IsOwn, HasAsked, MayOpen, Leans}
use Rattle.array_causes.specs.StateCauses.{AreAnswered}
use Rattle.array_causes.proofs.Words.{field_kept}
use Rattle.array_causes.proofs.StateComes.{JobComes, WordComes, ChangeComes}
use Rattle.array_causes.proofs.OpenOps.{OpsOpen, writes_alike, client_writes}

-- LINKS

-- the operation of this client has still to begin its job
abbrev pub IsAsked : ℕ → Link → Type 0
IsAsked m (BehindSubmit k i) = m ≡ k
IsAsked m (BehindAsk k) = m ≡ k
IsAsked m _ = ⊥

not_settled : (m : ℕ) (link : Link) → IsAsked m link → IsSettled link → (X : Type 0) → X
not_settled m First asked settled X = absurd asked
not_settled m Fresh asked settled X = absurd asked
not_settled m (BehindSubmit k i) asked settled X = absurd settled
not_settled m (BehindAsk k) asked settled X = absurd settled
not_settled m BehindEnd asked settled X = absurd asked
not_settled m (BehindReady v) asked settled X = absurd asked
not_settled m BehindApplied asked settled X = absurd asked

same_client : (k m : ℕ) (link : Link) → IsOwn k link → IsAsked m link → k ≡ m
same_client k m First own asked = absurd asked
same_client k m Fresh own asked = absurd asked
same_client k m (BehindSubmit j i) own asked = own ∙ sym asked
same_client k m (BehindAsk j) own asked = own ∙ sym asked
same_client k m BehindEnd own asked = absurd asked
same_client k m (BehindReady v) own asked = absurd asked
same_client k m BehindApplied own asked = absurd asked

-- JOBS

-- the job of a client that is set is the new one, any other stays
job_moved : (clients : List Client) (k : ℕ) (new : Client) (m : ℕ) (job : Job) → (NoJob ≡ job → ⊥)
    → (client_at (slice_set clients k new) m).job ≡ job
    → ((k ≡ m) × (new.job ≡ job)) ⊎ ((k ≡ m → ⊥) × ((client_at clients m).job ≡ job))
job_moved [] k new m job some is = absurd (some is)
job_moved (x ∷ xs) zero new zero job some is = inl (refl, is)
job_moved (x ∷ xs) zero new (suc m) job some is = inr ((λ e. absurd cc), is)
job_moved (x ∷ xs) (suc k) new zero job some is = inr ((λ e. absurd cc), is)
job_moved (x ∷ xs) (suc k) new (suc m) job some is = elim (job_moved xs k new m job some is) [
  | inl here ↦ inl (ap suc here.0, here.1)
  | inr there ↦ inr ((λ e. there.0 (let one : k ≡ m = cc e in one)), there.1)
]

-- a disk's failure leaves each client's operation as it was
submitted_without : (S : Setting) (d : ℕ) (volumes : List Volume) (clients : List Client) (m i : ℕ)
    → (client_at (clients_without S d volumes clients) m).job ≡ Submitted i → (client_at clients m).job ≡ Submitted i
submitted_without S d volumes [] m i is = is
submitted_without S d volumes (x ∷ xs) zero i is = at x.job is
  where
    at : (job : Job) → job_without S d volumes job ≡ Submitted i → job ≡ Submitted i
    at NoJob is = absurd cc
    at (Submitted j) is = is
    at (Busy j r) is = absurd cc
submitted_without S d volumes (x ∷ xs) (suc m) i is = submitted_without S d volumes xs m i is

busy_without : (S : Setting) (d : ℕ) (volumes : List Volume) (clients : List Client) (m i : ℕ) (r : Row)
    → (client_at (clients_without S d volumes clients) m).job ≡ Busy i r
    → (old : Row) × ((client_at clients m).job ≡ Busy i old)
busy_without S d volumes [] m i r is = absurd cc
busy_without S d volumes (x ∷ xs) zero i r is = at x.job is
  where
    at : (job : Job) → job_without S d volumes job ≡ Busy i r → (old : Row) × (job ≡ Busy i old)
    at NoJob is = absurd cc
    at (Submitted j) is = absurd cc
    at (Busy j old) is = let same : j ≡ i = cc is in (old, ap (λ k. Busy k old) same)
busy_without S d volumes (x ∷ xs) (suc m) i r is = busy_without S d volumes xs m i r is

-- what isn't broken wasn't
pub sound_without : (S : Setting) (d : ℕ) (r : Round) (n : ℕ) (volumes : List Volume) (v : ℕ)
    → (volume_at (volumes_without S d r n volumes) v).broken ≡ false → (volume_at volumes v).broken ≡ false
sound_without S d r n [] v is = is
sound_without S d r n (x ∷ xs) zero is = at (x.started && has_disk d x.slots) is
  where
    at : (b : Bool) → (cond b (volume_lost S d n (x.broken || breaks S r n x.slots) x) x).broken ≡ false
        → x.broken ≡ false
    at true is = (or_neither x.broken (breaks S r n x.slots) is).0
    at false is = is
sound_without S d r n (x ∷ xs) (suc v) is = sound_without S d r (n + 1) xs v is

module _ (S : Setting) where
  -- WHOSE JOB IS STILL TO BEGIN

  abbrev pub AskedBy : Control → Link → Type 0
  AskedBy c link = (m i : ℕ) → job_of c m ≡ Submitted i → IsAsked m link

  module _ (begun c : Control) (link : Link) where
    -- a change that comes where none is
    none_asked : (a : Change) → ((m i : ℕ) → job_of (put S a c) m ≡ Submitted i → job_of c m ≡ Submitted i)
        → IsSettled link → AskedBy c link → AskedBy (put S a c) (link_after link a)
    none_asked a was settled told m i is =
        not_settled m link (told m i (was m i is)) settled (IsAsked m (link_after link a))

    moves_asked : (k : ℕ) (new : Client) (word : ClientWord) → JobComes S c k new word
        → Leans S begun link (ClientMoves k new word) → AskedBy c link
        → AskedBy (put S (ClientMoves k new word) c) (link_after link (ClientMoves k new word))
    moves_asked k new IsSilent comes leans told m i is =
        elim (job_moved c.clients k new m (Submitted i) (λ e. absurd cc) is) [
          | inl here ↦ absurd (comes.asks i here.1)
          | inr there ↦ absurd (there.0 (same_client k m link leans (told m i there.1)))
        ]
    moves_asked k new (Acknowledges j answer) comes leans told m i is =
        elim (job_moved c.clients k new m (Submitted i) (λ e. absurd cc) is) [
          | inl here ↦ absurd (comes.asks i here.1)
          | inr there ↦ absurd (there.0 (same_client k m link leans.0 (told m i there.1)))
        ]
    moves_asked k new (Submits j) comes leans told m i is =
        elim (job_moved c.clients k new m (Submitted i) (λ e. absurd cc) is) [
          | inl here ↦ subst (λ job. IsAsked m (behind_submit job k j)) (sym here.1) (sym here.0)
          | inr there ↦ absurd (subst (IsAsked m) leans.0 (told m i there.1))
        ]

    ask_told : (v m : ℕ) → HasAsked S v link → IsAsked m link → IsAsked m (behind_ask link)
    ask_told v m has asked = at link has asked
      where
        at : (link : Link) → HasAsked S v link → IsAsked m link → IsAsked m (behind_ask link)
        at First has asked = absurd has
        at Fresh has asked = absurd has
        at (BehindSubmit k i) has asked = asked
        at (BehindAsk k) has asked = absurd has
        at BehindEnd has asked = absurd has
        at (BehindReady w) has asked = absurd has
        at BehindApplied has asked = absurd has

    pub opens_settled : (v row : ℕ) → MayOpen v row link → IsSettled link
    opens_settled v row may = at link may
      where
        at : (link : Link) → MayOpen v row link → IsSettled link
        at First may = absurd may
        at Fresh may = absurd may
        at (BehindSubmit k i) may = absurd may
        at (BehindAsk k) may = absurd may
        at BehindEnd may = tt
        at (BehindReady w) may = tt
        at BehindApplied may = absurd may

    pub asked_on : (a : Change) → ChangeComes S c a → Leans S begun link a → AskedBy c link
        → AskedBy (put S a c) (link_after link a)
    asked_on (ClientMoves k new word) comes leans told = moves_asked k new word comes leans told
    asked_on (StateGoes v ToPending) comes leans told = λ m i is. ask_told v m leans (told m i is)
    asked_on (StateGoes v ToActiveAgain) comes leans told = λ m i is. ask_told v m leans (told m i is)
    asked_on (StateGoes v ToReady) comes leans told = none_asked (StateGoes v ToReady) (λ m i is. is) leans told
    asked_on (StateGoes v ToActive) comes leans told = none_asked (StateGoes v ToActive) (λ m i is. is) leans told
    asked_on (StateGoes v ToIdle) comes leans told = none_asked (StateGoes v ToIdle) (λ m i is. is) leans told
    asked_on (StateGoes v ToClean) comes leans told = none_asked (StateGoes v ToClean) (λ m i is. is) leans told
    asked_on (DiskFails d) comes leans told =
        none_asked (DiskFails d) (λ m i is. submitted_without S d c.volumes c.clients m i is) leans told
    asked_on (PassMoves v slots pass GoesOnQuietly) comes leans told =
        none_asked (PassMoves v slots pass GoesOnQuietly) (λ m i is. is) leans told
    asked_on (PassMoves v slots pass (OpensAt row)) comes leans told =
        none_asked (PassMoves v slots pass (OpensAt row)) (λ m i is. is) (opens_settled v row leans) told
    asked_on (PassMoves v slots pass (Reaches unit)) comes leans told =
        none_asked (PassMoves v slots pass (Reaches unit)) (λ m i is. is) (subst IsSettled (sym leans) tt) told
    asked_on (PassMoves v slots pass Closes) comes leans told =
        none_asked (PassMoves v slots pass Closes) (λ m i is. is) (subst IsSettled (sym leans) tt) told
    asked_on (ManagerMoves new SaysNothing) comes leans told =
        none_asked (ManagerMoves new SaysNothing) (λ m i is. is) leans told
    asked_on (ManagerMoves new (Posts n)) comes leans told =
        none_asked (ManagerMoves new (Posts n)) (λ m i is. is) leans told
    asked_on (ManagerMoves new (Applies n)) comes leans told =
        none_asked (ManagerMoves new (Applies n)) (λ m i is. is) (subst IsSettled (sym leans.0) tt) told
    asked_on (ManagerMoves new (Declines n kind)) comes leans told =
        none_asked (ManagerMoves new (Declines n kind)) (λ m i is. is) (subst IsSettled (sym leans.0) tt) told
    asked_on (SpareBegins d m) comes leans told =
        none_asked (SpareBegins d m) (λ m i is. is) (subst IsSettled (sym leans.0) tt) told
    asked_on a comes leans told = none_asked a (λ m i is. is) leans told

  -- between turns none is
  pub asked_at_first : (c : Control) (link : Link) → IsSettled link → AskedBy c link → AskedBy c First
  asked_at_first c link settled told m i is = not_settled m link (told m i is) settled (IsAsked m First)

  -- WRITES AT IDLE VOLUMES

  abbrev pub IdleIsQuiet : Control → Type 0
  IdleIsQuiet c = (v m i : ℕ) (r : Row) → is_broken c v ≡ false → state_of c v ≡ IsIdle → job_of c m ≡ Busy i r
      → (is_write S i && (volume_of S i == v)) ≡ true → ⊥

  module _ (c : Control) (told : IdleIsQuiet c) where
    moves_quiet : (k : ℕ) (new : Client) (word : ClientWord) → JobComes S c k new word
        → IdleIsQuiet (put S (ClientMoves k new word) c)
    moves_quiet k new word comes v m i r sound idle is writes =
        elim (job_moved c.clients k new m (Busy i r) (λ e. absurd cc) is) [
          | inl here ↦ from (comes.goes i r here.1)
          | inr there ↦ told v m i r sound idle there.1 writes
        ]
      where
        on : (volume_of S i == v) ≡ true → volume_of S i ≡ v
        on h = grind (arith, nat_tests, h)

        both : (a b : Bool) → (a && b) ≡ true → (a ≡ true) × (b ≡ true)
        both true b h = (refl, h)
        both false b h = absurd cc

        never : (state : State) → state ≡ IsIdle → TakesWrites state → ⊥
        never state is takes = absurd (subst TakesWrites is takes)

        from : ((old : Row) × (job_of c k ≡ Busy i old)) ⊎ ((is_write S i ≡ false)
            ⊎ (is_broken c (volume_of S i) ≡ false → TakesWrites (state_of c (volume_of S i)))) → ⊥
        from (inl had) = told v k i had.0 sound idle had.1 writes
        from (inr (inl no_write)) =
            let yes : is_write S i ≡ true = (both (is_write S i) (volume_of S i == v) writes).0 in
            absurd (cc (yes, no_write))
        from (inr (inr takes)) =
            let same : volume_of S i ≡ v = on (both (is_write S i) (volume_of S i == v) writes).1 in
            never (state_of c v) idle
            (subst (λ u. is_broken c u ≡ false → TakesWrites (state_of c u)) same takes sound)

    goes_quiet : (w : ℕ) (word : StateWord) → WordComes S c w word → IdleIsQuiet (put S (StateGoes w word) c)
    goes_quiet w word comes v m i r sound idle is writes = elim (set_at c.volumes w x v) [
      | inl here ↦ set (sym (ap (λ (y : Volume). y.state) here.1) ∙ idle) here.0
      | inr there ↦ told v m i r (sym (field_kept (λ (y : Volume). y.broken) c.volumes w x refl v) ∙ sound)
          (sym (ap (λ (y : Volume). y.state) there) ∙ idle) is writes
    ]
      where
        x : Volume
        x = record (volume_at c.volumes w) { state = state_after word }

        set : state_after word ≡ IsIdle → w ≡ v → ⊥
        set idle same = at word comes idle
          where
            at : (word : StateWord) → WordComes S c w word → state_after word ≡ IsIdle → ⊥
            at ToReady comes idle = absurd cc
            at ToPending comes idle = absurd cc
            at ToActive comes idle = absurd cc
            at ToActiveAgain comes idle = absurd cc
            at ToClean comes idle = absurd cc
            at ToIdle comes idle =
                let some : any_writing S v c.clients ≡ true = client_writes S v i c.clients m (ap op_in is) writes in
                let none : any_writing S v c.clients ≡ false =
                subst (λ u. any_writing S u c.clients ≡ false) same comes.1 in
                absurd (cc (some, none))

    passes_quiet : (w : ℕ) (slots : List Slot) (pass : Option Pass) (word : PassWord)
        → IdleIsQuiet (put S (PassMoves w slots pass word) c)
    passes_quiet w slots pass word v m i r sound idle is writes =
        told v m i r (sym (field_kept (λ (y : Volume). y.broken) c.volumes w
        (record (volume_at c.volumes w) { slots = slots; pass = pass }) refl v) ∙ sound)
        (sym (state_with_pass c.volumes w slots pass v) ∙ idle) is writes

    fails_quiet : (d : ℕ) → IdleIsQuiet (put S (DiskFails d) c)
    fails_quiet d v m i r sound idle is writes =
        let had = busy_without S d c.volumes c.clients m i r is in
        told v m i had.0 (sound_without S d (round_without S d c.round) 0 c.volumes v sound)
        (sym (state_without S d (round_without S d c.round) 0 c.volumes v) ∙ idle) had.1 writes

    pub quiet_on : (a : Change) → ChangeComes S c a → IdleIsQuiet (put S a c)
    quiet_on (ClientMoves k new word) comes = moves_quiet k new word comes
    quiet_on (StateGoes w word) comes = goes_quiet w word comes
    quiet_on (PassMoves w slots pass word) comes = passes_quiet w slots pass word
    quiet_on (DiskFails d) comes = fails_quiet d
    quiet_on a comes = told

  -- of an idle volume that isn't broken each write is answered, where no job is still to begin
  pub idle_answered : (v : ℕ) (c : Control) (link : Link) (journal : List Entry) → IsSettled link → AskedBy c link
      → IdleIsQuiet c → is_broken c v ≡ false → state_of c v ≡ IsIdle → OpsOpen S c journal
      → AreAnswered S.asked.ops v journal
  idle_answered v c link journal settled asked quiet sound idle told i writes submitted = elim (told i submitted) [
    | inl acked ↦ acked
    | inr op ↦ at op.client (job_of c op.client) refl op.is
  ]
    where
      at : (k : ℕ) (job : Job) → job_of c k ≡ job → op_in job ≡ Some i → has (is_ack_of i) journal ≡ true
      at k NoJob is op = absurd cc
      at k (Submitted j) is op = not_settled k link (asked k j is) settled (has (is_ack_of i) journal ≡ true)
      at k (Busy j r) is op =
          let same : j ≡ i = cc op in
          absurd (quiet v k j r sound idle is
          (subst (λ u. (is_write S u && (volume_of S u == v)) ≡ true) (sym same) (writes_alike S v i ∙ writes)))
