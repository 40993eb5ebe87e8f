-- How a command ends, by what became of its lines.
use Rattle.std.proofs.Common.{ℕ, inl, inr, List, subst, sym}
use Rattle.image_outside.specs.Told.{SinkTold}
use Rattle.image_outside.specs.Endings.{Ends, EndsIfMemory, Prints}

-- what comes of one outcome comes of the end with it
pub ends_so : (old new : SinkTold) (One Other : List ℕ → ℕ → Type 0) (status : ℕ) → ((lines : List ℕ) (s : ℕ) → One lines s → Other lines s)
    → Ends old new One status → Ends old new Other status
ends_so old new One Other status goes (inl so) = inl (record { lines = so.lines; ends = goes so.lines status so.ends; adds = so.adds })
ends_so old new One Other status goes (inr (is, cut)) =
    inr (is, record { lines = cut.lines; status = cut.status; ends = goes cut.lines cut.status cut.ends; breaks = cut.breaks })

-- the same of a command that may want memory
pub ends_map : (old new : SinkTold) (One Other : List ℕ → ℕ → Type 0) (status : ℕ) → ((lines : List ℕ) (s : ℕ) → One lines s → Other lines s)
    → EndsIfMemory old new One status → EndsIfMemory old new Other status
ends_map old new One Other status goes (inl so) = inl (ends_so old new One Other status goes so)
ends_map old new One Other status goes (inr none) = inr none

-- what is so of these lines and this status is so of those that are printed
printed : (lines : List ℕ) (status : ℕ) (Outcome : List ℕ → ℕ → Type 0) → Outcome lines status → (told : List ℕ) (result : ℕ) → Prints lines status told result → Outcome told result
printed lines status Outcome so told result is =
    subst (λ (l : List ℕ). Outcome l result) (sym is.lines_are) (subst (Outcome lines) (sym is.status_is) so)

-- a command that prints lines with a status ends so, where these are an outcome
pub ends_as : (old new : SinkTold) (lines : List ℕ) (status : ℕ) (Outcome : List ℕ → ℕ → Type 0) (result : ℕ) → Outcome lines status
    → Ends old new (Prints lines status) result → Ends old new Outcome result
ends_as old new lines status Outcome result so ends = ends_so old new (Prints lines status) Outcome result (printed lines status Outcome so) ends
