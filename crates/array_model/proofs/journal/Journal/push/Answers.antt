use Rattle.std.proofs.Common.{ℕ, ◌<◌, List, [], ◌∷◌, length, subst, sym, arith}
use Rattle.std.proofs.lemmas.List.Elements.{All-from_recursion}
use Rattle.std.specs.List.{AllByRecursion}
use Rattle.array_model.specs.Fits.{IsByte, FitsEntry}
use Rattle.array_model.specs.Kept.{JournalState}
use Rattle.array_model.specs.declared.journal.Event.{Event}
use Rattle.array_model.specs.declared.journal.Event.TheVariants.{Ack}
use Rattle.array_model.specs.declared.journal.Answer.TheVariants.{Value}
use Rattle.array_model.specs.declared.journal.Entry.{Entry}
use Rattle.array_model.specs.contracts.journal.Entry.{the_type}
use Rattle.array_model.proofs.Journals.{all-append}
use denote.Struct.Declared.{row}
use denote.Struct.Field.{u8-field}
use denote.Array.{each}
use denote.Shadow.{shadow}
use denote.Laws.{Is}
use mir.Val.{Val}
use Rattle.array_model.proofs.journal.Journal.push.Goals as goal

-- elements that are bytes in memory are bytes
are_bytes : (xs : List ℕ) (values : List Val) → shadow (each ℕ u8-field.row.own_val xs values) → AllByRecursion IsByte xs
are_bytes [] values h = tt
are_bytes (x ∷ xs) [] h = absurd h
are_bytes (x ∷ xs) (value ∷ values) h = (assumption h, are_bytes xs values h.1)

-- an entry that is passed by value is of its type
fits_entry : (e : Entry) (values : List Val) → Is (row the_type) e values → FitsEntry e
fits_entry e values h = at e.event h
  where
    at : (event : Event) → Is (row the_type) (record { stamp = e.stamp; event = event }) values → FitsEntry (record { stamp = e.stamp; event = event })
    at (Ack i (Value x)) h =
        let answer = h.1.1.1.0.1.1.1.1.1.0 in
        let bytes = answer.1.1.1.1.0.1.1.0 in
        (assumption h, (assumption h, (bytes.1.0.1, All-from_recursion IsByte x.0 (are_bytes x.0 bytes.0 bytes.1.1))))
    at _ h = assumption h

pub invariant_of-self : goal.invariant_of-self
invariant_of-self c =
    let room : length c.self.inside.entries.items < c.self.inside.room = subst (λ (j : JournalState). length j.entries < j.room) (sym c.self.view_is) c.requires in
    let entry : FitsEntry c.args.entry = fits_entry c.args.entry _ c.well_formed.1.0 in (
      omega (arith, c.push_reserved.ensures.len, room),
      omega (arith, c.push_reserved.ensures.capacity, c.self.invariant.1),
      subst (AllByRecursion FitsEntry) (sym c.push_reserved.ensures.items) (all-append FitsEntry c.self.inside.entries.items (c.args.entry ∷ []) c.self.invariant.2 (entry, tt)),
    )
