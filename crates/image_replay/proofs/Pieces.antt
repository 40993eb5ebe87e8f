-- What a sink has and what is held back of a text, line by line.
use Rattle.std.proofs.Common.{◌≡◌, ℕ, ◌+◌, ◌≤◌, ◌<◌, List, [], ◌∷◌, ◌++◌, length, take, drop, get_or, Option, ap, sym, subst, ◌∙◌, append_assoc}
use Rattle.std.proofs.lemmas.List.{append-nil, take_more, take-append-drop}
use Rattle.std.proofs.lemmas.Grind.{flat_map-append}
use Rattle.array_model.specs.declared.journal.Entry.{Entry}
use Rattle.journal_text.specs.Lines.{entry_line, journal_text}
use Rattle.image_outside.specs.Outside.{Adds, BreaksOff}
use Rattle.image_outside.proofs.Written.{adds_both, breaks_later}
use Rattle.image_replay.specs.Pieces.{AddsFront}

-- nothing is held
pub held_none : (old new : Option (List ℕ)) (bytes : List ℕ) → Adds old new bytes → AddsFront old new bytes []
held_none old new bytes adds = record { front = bytes; are = sym (append-nil bytes); adds = adds }

-- some of what was held is written, and a line is held behind the rest
pub held_more : (first mid new : Option (List ℕ)) (text held still line : List ℕ) → AddsFront first mid text held → AddsFront mid new held still
    → AddsFront first new (text ++ line) (still ++ line)
held_more first mid new text held still line before after = record {
  front = before.front ++ after.front;
  are = ap (λ l. l ++ line) (before.are ∙ ap (λ l. before.front ++ l) after.are ∙ sym (append_assoc before.front after.front still))
      ∙ append_assoc (before.front ++ after.front) still line;
  adds = adds_both first mid new before.front after.front before.adds after.adds;
}

-- a write of what was held failed
pub held_breaks : (first mid new : Option (List ℕ)) (old between now : ℕ) (text held : List ℕ) → AddsFront first mid text held → old ≤ between
    → BreaksOff mid new between now held → BreaksOff first new old now text
held_breaks first mid new old between now text held before later breaks =
    subst (λ l. BreaksOff first new old now l) (sym before.are)
    (breaks_later first mid new old between now before.front held before.adds later breaks)

-- the lines of some first entries and of the next one
pub text_more : (entries : List Entry) (i : ℕ) (d : Entry) → i < length entries → journal_text (take (i + 1) entries) ≡ journal_text (take i entries) ++ entry_line (get_or entries i d)
text_more entries i d below =
    ap journal_text (take_more entries i d below) ∙ flat_map-append entry_line (take i entries) (get_or entries i d ∷ [])
    ∙ ap (λ l. journal_text (take i entries) ++ l) (append-nil (entry_line (get_or entries i d)))

-- the lines of some first entries and of those behind them
pub text_cut : (entries : List Entry) (i : ℕ) → journal_text (take i entries) ++ journal_text (drop i entries) ≡ journal_text entries
text_cut entries i = sym (flat_map-append entry_line (take i entries) (drop i entries)) ∙ ap journal_text (take-append-drop i entries)

-- the next line is held behind what is left of the lines before it
pub held_next : (first mid new : Option (List ℕ)) (entries : List Entry) (i : ℕ) (d : Entry) (held still line now : List ℕ) → i < length entries
    → AddsFront first mid (journal_text (take i entries)) held → AddsFront mid new held still → now ≡ still ++ line → line ≡ entry_line (get_or entries i d)
    → AddsFront first new (journal_text (take (i + 1) entries)) now
held_next first mid new entries i d held still line now below before after is spells =
    subst (λ (l : List ℕ). AddsFront first new l now) (ap (λ (l : List ℕ). journal_text (take i entries) ++ l) spells ∙ sym (text_more entries i d below))
    (subst (λ (l : List ℕ). AddsFront first new (journal_text (take i entries) ++ line) l) (sym is)
    (held_more first mid new (journal_text (take i entries)) held still line before after))
