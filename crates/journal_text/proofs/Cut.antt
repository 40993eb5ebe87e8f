-- A line's words and a text's lines are found again by cutting at spaces and at line feeds.
use Rattle.std.proofs.Common.{◌≡◌, ℕ, ◌<◌, Bool, true, false, List, [], ◌∷◌, ◌++◌, refl, ap, ◌∙◌, arith}
use Rattle.std.specs.Prelude.{◌==◌, nat_le, ⊤}
use Rattle.std.specs.List.{All, list_all, slice_split}
use Rattle.std.proofs.lemmas.List.{append-nil}
use Rattle.std.proofs.lemmas.List.Elements.{All-nil, All-cons, All-append, All-weaker}
use Rattle.std.proofs.lemmas.List.Splits.{slice_split_none, slice_split_at}
use Rattle.std.proofs.lemmas.List.Sums.{AllPass-from_list_all}
use Rattle.std.proofs.lemmas.Bool.Decides.{nat_tests}
use Rattle.journal_text.specs.Lines.{spelled}

-- each byte is a digit or stands above the digits
abbrev pub IsPlain : List ℕ → Type 0
IsPlain word = list_all (λ b. nat_le 48 b) word ≡ true

abbrev pub ArePlain : List (List ℕ) → Type 0
ArePlain [] = ⊤
ArePlain (word ∷ words) = IsPlain word × ArePlain words

abbrev pub is_space : ℕ → Bool
is_space b = b == 32

abbrev pub is_feed : ℕ → Bool
is_feed b = b == 10

other : (c b : ℕ) → c < 48 → nat_le 48 b ≡ true → (b == c) ≡ false
other c b lt le = grind (arith, nat_tests)

pub without : (c : ℕ) → c < 48 → (word : List ℕ) → IsPlain word → All (λ b. (b == c) ≡ false) word
without c lt word plain =
    All-weaker (λ b. nat_le 48 b ≡ true) (λ b. (b == c) ≡ false) (λ b le. other c b lt le) word
    (AllPass-from_list_all (λ b. nat_le 48 b) word plain)

pub cut_words : (word : List ℕ) (words : List (List ℕ)) → IsPlain word → ArePlain words
    → slice_split is_space (word ++ spelled words) ≡ word ∷ words
cut_words word [] plain all =
    ap (λ bs. slice_split is_space bs) (append-nil word) ∙ slice_split_none is_space word (without 32 (omega arith) word plain)
cut_words word (next ∷ words) plain all =
    slice_split_at is_space word 32 (next ++ spelled words) (without 32 (omega arith) word plain) refl
    ∙ ap (λ ws. word ∷ ws) (cut_words next words all.0 all.1)

pub unfed : (words : List (List ℕ)) → ArePlain words → All (λ b. is_feed b ≡ false) (spelled words)
unfed [] all = All-nil (λ b. is_feed b ≡ false)
unfed (word ∷ words) all =
    All-cons (λ b. is_feed b ≡ false) 32 (word ++ spelled words) refl
    (All-append (λ b. is_feed b ≡ false) word (spelled words) (without 10 (omega arith) word all.0) (unfed words all.1))
