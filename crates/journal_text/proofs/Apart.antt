-- Two journals with the same text are equal.
use Rattle.std.proofs.Common.{◌≡◌, ℕ, ◌<◌, false, List, [], ◌∷◌, ◌++◌, length, drop, refl, sym, ap, ◌∙◌, arith, append_assoc}
use Rattle.std.specs.Prelude.{slice_index_or}
use Rattle.std.specs.List.{AllByRecursion, slice_split}
use Rattle.std.specs.Fmt.{decimal}
use Rattle.std.proofs.lemmas.Fmt.{decimal_nonempty}
use Rattle.std.proofs.lemmas.List.{length-append}
use Rattle.std.proofs.lemmas.List.Elements.{All-append}
use Rattle.std.proofs.lemmas.List.Splits.{slice_split_at}
use Rattle.array_model.specs.declared.journal.Entry.{Entry}
use Rattle.journal_text.specs.Lines.{event_words, spelled, entry_line, journal_text}
use Rattle.array_model.specs.Fits.{FitsEntry}
use Rattle.journal_text.proofs.Cut.{is_space, is_feed, without, cut_words, unfed}
use Rattle.journal_text.proofs.Plain.{decimal_plain, event_plain}
use Rattle.journal_text.proofs.Told.{number_in, number_told, event_in, event_told}

-- a line without its line feed
abbrev body : Entry → List ℕ
body e = decimal e.stamp ++ spelled (event_words e.event)

body_has : (e : Entry) → FitsEntry e → 0 < length (body e)
body_has e fits =
    omega (arith, length-append (decimal e.stamp) (spelled (event_words e.event)), decimal_nonempty e.stamp fits.0)

cut_line : (e : Entry) (rest : List ℕ) → FitsEntry e → slice_split is_feed (entry_line e ++ rest) ≡ body e ∷ slice_split is_feed rest
cut_line e rest fits =
    let words = spelled (event_words e.event) in
    let laid : entry_line e ++ rest ≡ body e ++ 10 ∷ rest = simp append_assoc in
    let clear = All-append (λ b. is_feed b ≡ false) (decimal e.stamp) words
    (without 10 (omega arith) (decimal e.stamp) (decimal_plain e.stamp fits.0))
    (unfed (event_words e.event) (event_plain e.event fits.1)) in
    ap (λ bs. slice_split is_feed bs) laid ∙ slice_split_at is_feed (body e) 10 rest clear refl

abbrev words_of : Entry → List (List ℕ)
words_of e = decimal e.stamp ∷ event_words e.event

abbrev entry_in : List (List ℕ) → Entry
entry_in words = record { stamp = number_in (slice_index_or words 0 []); event = event_in (drop 1 words) }

entry_told : (e : Entry) → FitsEntry e → entry_in (words_of e) ≡ e
entry_told e fits =
    ap (λ (n : ℕ). let entry : Entry = record { stamp = n; event = event_in (event_words e.event) } in entry) (number_told e.stamp fits.0)
    ∙ ap (λ ev. let entry : Entry = record { stamp = e.stamp; event = ev } in entry) (event_told e.event fits.1)

entry_apart : (e f : Entry) → FitsEntry e → FitsEntry f → body e ≡ body f → e ≡ f
entry_apart e f fits fits' same =
    let words : words_of e ≡ words_of f =
    sym (cut_words (decimal e.stamp) (event_words e.event) (decimal_plain e.stamp fits.0) (event_plain e.event fits.1))
    ∙ (ap (λ bs. slice_split is_space bs) same
    ∙ cut_words (decimal f.stamp) (event_words f.event) (decimal_plain f.stamp fits'.0) (event_plain f.event fits'.1)) in
    sym (entry_told e fits) ∙ (ap (λ ws. entry_in ws) words ∙ entry_told f fits')

no_line : (e : Entry) (rest : List ℕ) → FitsEntry e → [] ∷ [] ≡ slice_split is_feed (entry_line e ++ rest) → ⊥
no_line e rest fits same =
    let first : [] ≡ body e = ap (λ lines. slice_index_or lines 0 []) (same ∙ cut_line e rest fits) in
    absurd (omega (arith, body_has e fits, ap (λ bs. length bs) first))

lines_apart : (a b : List Entry) → AllByRecursion FitsEntry a → AllByRecursion FitsEntry b
    → slice_split is_feed (journal_text a) ≡ slice_split is_feed (journal_text b) → a ≡ b
lines_apart [] [] fits fits' same = refl
lines_apart [] (f ∷ b) fits fits' same = absurd (no_line f (journal_text b) fits'.0 same)
lines_apart (e ∷ a) [] fits fits' same = absurd (no_line e (journal_text a) fits.0 (sym same))
lines_apart (e ∷ a) (f ∷ b) fits fits' same =
    let lines : body e ∷ slice_split is_feed (journal_text a) ≡ body f ∷ slice_split is_feed (journal_text b) =
    sym (cut_line e (journal_text a) fits.0) ∙ (same ∙ cut_line f (journal_text b) fits'.0) in
    let head : e ≡ f = entry_apart e f fits.0 fits'.0 (ap (λ ls. slice_index_or ls 0 []) lines) in
    let tail : a ≡ b = lines_apart a b fits.1 fits'.1 (ap (λ ls. drop 1 ls) lines) in
    ap (λ x. x ∷ a) head ∙ ap (λ xs. f ∷ xs) tail

pub journal_apart : (a b : List Entry) → AllByRecursion FitsEntry a → AllByRecursion FitsEntry b → journal_text a ≡ journal_text b → a ≡ b
journal_apart a b fits fits' same = lines_apart a b fits fits' (ap (λ bs. slice_split is_feed bs) same)

pub line_apart : (a b : Entry) → FitsEntry a → FitsEntry b → entry_line a ≡ entry_line b → a ≡ b
line_apart a b fits fits' same =
    let one : a ∷ [] ≡ b ∷ [] =
    journal_apart (a ∷ []) (b ∷ []) (fits, tt) (fits', tt)
    (ap (λ line. line ++ []) same) in
    ap (λ entries. slice_index_or entries 0 a) one
