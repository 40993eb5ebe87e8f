-- What the entry of an effect is to the gate: none of its entries, a volume that becomes active over a finished round
-- that says dirty, or an answer.
use Rattle.std.proofs.Common.{◌≡◌, ℕ, Bool, true, false, List, [], ◌∷◌, ◌++◌, refl, Option, Some, None}
use Rattle.std.specs.Prelude.{⊤}
use Rattle.units.specs.declared.disk.Sector.{Sector}
use Rattle.device_log.specs.Log.{Call, What}
use Rattle.array_model.specs.declared.journal.Entry.{Entry}
use Rattle.array_model.specs.declared.journal.Event.{Event}
use Rattle.array_model.specs.declared.journal.Event.TheVariants.{Active, Ack}
use Rattle.array_model.specs.declared.journal.Answer.{Answer}
use Rattle.array_model.specs.Events.{AtEachFrom}
use Rattle.array_machine.specs.Setting.{Setting}
use Rattle.array_machine.specs.Clients.{Client}
use Rattle.array_machine.specs.Rounds.{Ended, Rest}
use Rattle.array_machine.specs.Control.{Control}
use Rattle.array_machine.specs.Changes.{Change, ClientWord, IsSilent, Submits, Acknowledges, client_entry, PassWord, GoesOnQuietly, OpensAt, Reaches, Closes, pass_entry, UpdateWord, SaysNothing, Posts, Applies, Declines, update_entry, entry_of}
use Rattle.array_machine.specs.Machine.{entered}
use Rattle.array_machine.specs.TakeoverTurns.{has_all}
use Rattle.array_paths.specs.InTurn.{InTurn}
use Rattle.array_paths.specs.ClientMove.{ClientMove}
use Rattle.array_paths.specs.Comes.{Comes, begins, begins_spare, ends, ends_spare, lapses, fails, unblocks, readies, pends, activates, again, idles, cleans, client, pass, manages, kills, takes_over, resumes, dies}
use Rattle.array_paths.specs.AtRows.{AtRows, by_client, by_pass, by_monitor, after_read}
use Rattle.array_paths.specs.Effects.{Effect, quiet, row, row_fails, steps, step_fails}

-- neither active nor an answer
abbrev pub IsOther : Option Event → Type 0
IsOther None = ⊤
IsOther (Some (Active v)) = ⊥
IsOther (Some (Ack i answer)) = ⊥
IsOther (Some _) = ⊤

module _ (S : Setting) (c : Control) where
  pub data GateEntry : Option Event → Type 0 where
    is_other : (e : Option Event) → IsOther e → GateEntry e
    is_active : (v : ℕ) → c.round.phase ≡ Rest → c.round.ended ≡ true → S.start.words.is_dirty c.round.last v ≡ true
        → GateEntry (Some (Active (record { 0 = v })))
    is_answer : (k i : ℕ) (new : Client) (answer : Answer) → ClientMove S c k new (Acknowledges i answer)
        → GateEntry (Some (Ack i answer))

  client_gate : (k : ℕ) (new : Client) (word : ClientWord) → ClientMove S c k new word → GateEntry (client_entry word)
  client_gate k new IsSilent move = is_other _ tt
  client_gate k new (Submits i) move = is_other _ tt
  client_gate k new (Acknowledges i answer) move = is_answer k i new answer move

  pass_gate : (v : ℕ) (word : PassWord) → GateEntry (pass_entry v word)
  pass_gate v GoesOnQuietly = is_other _ tt
  pass_gate v (OpensAt first) = is_other _ tt
  pass_gate v (Reaches unit) = is_other _ tt
  pass_gate v Closes = is_other _ tt

  update_gate : (word : UpdateWord) → GateEntry (update_entry word)
  update_gate SaysNothing = is_other _ tt
  update_gate (Posts n) = is_other _ tt
  update_gate (Applies n) = is_other _ tt
  update_gate (Declines n kind) = is_other _ tt

  comes_gate : (t : InTurn) (a : Change) → Comes S t c a → GateEntry (entry_of S a)
  comes_gate t _ (activates v runs state rest ended now) = is_active v rest ended now
  comes_gate t _ (client k new word move) = client_gate k new word move
  comes_gate t _ (pass v slots new word move) = pass_gate v word
  comes_gate t _ (manages new word move) = update_gate word
  comes_gate t _ (begins m life rest target next) = is_other _ tt
  comes_gate t _ (begins_spare d m life rest target may is unlisted room) = is_other _ tt
  comes_gate t _ (ends m step is) = is_other _ tt
  comes_gate t _ (ends_spare d m step is) = is_other _ tt
  comes_gate t _ (lapses aim m step late is) = is_other _ tt
  comes_gate t _ (fails d who may) = is_other _ tt
  comes_gate t _ (unblocks d rest blocked ended unexpected) = is_other _ tt
  comes_gate t _ (readies v started state rest ended) = is_other _ tt
  comes_gate t _ (pends v unbroken state submitted) = is_other _ tt
  comes_gate t _ (again v unbroken state submitted) = is_other _ tt
  comes_gate t _ (idles v who runs state none) = is_other _ tt
  comes_gate t _ (cleans v runs state rest) = is_other _ tt
  comes_gate t _ (kills who life) = is_other _ tt
  comes_gate t _ (takes_over who life) = is_other _ tt
  comes_gate t _ (resumes d taking young) = is_other _ tt
  comes_gate t _ (dies taking) = is_other _ tt

  read_gate : (d : ℕ) (left : List ℕ) (seen : List Sector) (found : List ℕ) (all : Bool)
      → GateEntry (entry_of S (after_read S c d left seen found all))
  read_gate d left seen found true = is_other _ tt
  read_gate d left seen found false = is_other _ tt

  rows_gate : (d : ℕ) (what : What) (x : Ended) (a : Change) → AtRows S c d what x a → GateEntry (entry_of S a)
  rows_gate d _ x _ (by_client k i r need _ _ call) = is_other _ tt
  rows_gate d _ x _ (by_pass v p need _ _ call) = is_other _ tt
  rows_gate d _ x _ (by_monitor left seen found _ life) =
      read_gate d left (seen ++ x.got ∷ []) found (has_all S (seen ++ x.got ∷ []))

  pub effect_gate : (t : InTurn) {call : Option Call} {x : Ended} {a : Change} → Effect S t c call x a
      → GateEntry (entry_of S a)
  effect_gate t (quiet x a comes) = comes_gate t a comes
  effect_gate t (row d what x a may calls went at) = rows_gate d what x a at
  effect_gate t (row_fails d what x may calls failed lost) = is_other _ tt
  effect_gate t (steps d m step x target went) = is_other _ tt
  effect_gate t (step_fails d m step x target failed) = is_other _ tt

-- what holds of the event of an entry, behind the journal before it
pub at_entered : (P : List Entry → Entry → Type 0) (front : List Entry) (n : ℕ) (e : Option Event)
    → ((event : Event) → e ≡ Some event → P front (record { stamp = n; event = event }))
    → AtEachFrom P front (entered n e)
at_entered P front n None h = tt
at_entered P front n (Some event) h = (h event refl, tt)
