-- The words of the lines of a text are found again by cutting it at line feeds and at spaces.
use Rattle.std.proofs.Common.{◌≡◌, ℕ, ◌&&◌, not, Bool, true, false, List, [], ◌∷◌, ◌++◌, map, refl, sym, ap, ◌∙◌, append_assoc}
use Rattle.std.specs.List.{All, flat_map, slice_split}
use Rattle.std.proofs.lemmas.List.{append-nil}
use Rattle.std.proofs.lemmas.List.Elements.{All-nil, All-cons, All-append, All-weaker}
use Rattle.std.proofs.lemmas.List.Splits.{slice_split_none, slice_split_at}
use Rattle.std.proofs.lemmas.List.Sums.{AllPass-from_list_all}
use Rattle.imsm_text.specs.Text.{line_feed, spaced}
use Rattle.verdict_lines_law.specs.Words.{is_feed, is_space, line_of, text_of, words_in}
use Rattle.verdict_lines_law.proofs.Clear.{AreClear, AreLines, IsClear, IsLine, clear}

no_space : (b : ℕ) → clear b ≡ true → is_space b ≡ false
no_space b is = at (is_space b) (is_feed b) is where
  at : (s f : Bool) → (not s && not f) ≡ true → s ≡ false
  at true f is = absurd (cc is)
  at false f is = refl

no_feed : (b : ℕ) → clear b ≡ true → is_feed b ≡ false
no_feed b is = at (is_space b) (is_feed b) is where
  at : (s f : Bool) → (not s && not f) ≡ true → f ≡ false
  at true f is = absurd (cc is)
  at false true is = absurd (cc is)
  at false false is = refl

unspaced : (word : List ℕ) → IsClear word → All (λ b. is_space b ≡ false) word
unspaced word is = All-weaker (λ b. clear b ≡ true) (λ b. is_space b ≡ false) no_space word (AllPass-from_list_all clear word is)

unfed : (word : List ℕ) → IsClear word → All (λ b. is_feed b ≡ false) word
unfed word is = All-weaker (λ b. clear b ≡ true) (λ b. is_feed b ≡ false) no_feed word (AllPass-from_list_all clear word is)

cut_words : (word : List ℕ) (words : List (List ℕ)) → IsClear word → AreClear words → slice_split is_space (word ++ flat_map spaced words) ≡ word ∷ words
cut_words word [] is all = ap (slice_split is_space) (append-nil word) ∙ slice_split_none is_space word (unspaced word is)
cut_words word (next ∷ words) is all =
    slice_split_at is_space word 32 (next ++ flat_map spaced words) (unspaced word is) refl
    ∙ ap (λ (ws : List (List ℕ)). word ∷ ws) (cut_words next words all.0 all.1)

all_unfed : (words : List (List ℕ)) → AreClear words → All (λ b. is_feed b ≡ false) (flat_map spaced words)
all_unfed [] all = All-nil (λ b. is_feed b ≡ false)
all_unfed (word ∷ words) all =
    All-cons (λ b. is_feed b ≡ false) 32 (word ++ flat_map spaced words) refl
    (All-append (λ b. is_feed b ≡ false) word (flat_map spaced words) (unfed word all.0) (all_unfed words all.1))

laid : (xs ys rest : List ℕ) → (xs ++ (ys ++ line_feed)) ++ rest ≡ (xs ++ ys) ++ 10 ∷ rest
laid xs ys rest = simp append_assoc

cut_line : (words : List (List ℕ)) (rest : List ℕ) → IsLine words → words_in (line_of words ++ rest) ≡ words ∷ words_in rest
cut_line [] rest is = absurd is
cut_line (first ∷ words) rest is =
    ap words_in (laid first (flat_map spaced words) rest)
    ∙ ap (map (slice_split is_space)) (slice_split_at is_feed (first ++ flat_map spaced words) 10 rest
    (All-append (λ b. is_feed b ≡ false) first (flat_map spaced words) (unfed first is.0) (all_unfed words is.1)) refl)
    ∙ ap (λ (ws : List (List ℕ)). ws ∷ words_in rest) (cut_words first words is.0 is.1)

pub cut_text : (lines : List (List (List ℕ))) (rest : List ℕ) → AreLines lines → words_in (text_of lines ++ rest) ≡ lines ++ words_in rest
cut_text [] rest all = refl
cut_text (words ∷ lines) rest all =
    ap words_in (append_assoc (line_of words) (text_of lines) rest)
    ∙ cut_line words (text_of lines ++ rest) all.0
    ∙ ap (λ (ls : List (List (List ℕ))). words ∷ ls) (cut_text lines rest all.1)

-- a whole text
pub cut_all : (lines : List (List (List ℕ))) → AreLines lines → words_in (text_of lines) ≡ lines ++ ([] ∷ []) ∷ []
cut_all lines all = ap words_in (sym (append-nil (text_of lines))) ∙ cut_text lines [] all
