-- A name has no `=`.
use Rattle.std.proofs.Common.{◌≡◌, ◌≢◌, ◌<◌, ℕ, List, true, length, get_or, subst, refl}
use Rattle.std.specs.List.{list_all}
use Rattle.std.proofs.lemmas.List.Sums.{AllPass-from_list_all}
use Rattle.std.proofs.lemmas.Bool.{false≢true, and_parts}
use Rattle.image_words.specs.Words.{ImageWord, is_name, is_name_byte}

pub not_equals : (c : ℕ) → is_name_byte c ≡ true → c ≢ 0x3d
not_equals c byte is = false≢true (subst (λ (b : ℕ). is_name_byte b ≡ true) is byte)

pub bytes_of_name : (name : List ℕ) → is_name name ≡ true → list_all is_name_byte name ≡ true
bytes_of_name name named = (and_parts _ (list_all is_name_byte name) named).1

pub no_equals : (name : List ℕ) → is_name name ≡ true → (i : ℕ) → i < length name → get_or name i 0 ≢ 0x3d
no_equals name named i below =
    not_equals (get_or name i 0) (AllPass-from_list_all is_name_byte name (bytes_of_name name named) i 0 below)

pub same_word : (name file : List ℕ) (w : ImageWord) → name ≡ w.name → file ≡ w.file → (let v : ImageWord = record { name = name; file = file } in v) ≡ w
same_word name file w named filed = rw (named, filed) refl
