-- One more image is opened: its serial is a new one.
use Rattle.std.proofs.Common.{◌≡◌, ◌≢◌, ◌≤◌, ◌<◌, ◌+◌, ◌-◌, ◌&&◌, ℕ, zero, suc, List, [], ◌∷◌, ◌++◌, Bool, true, false, not, length, take, drop, get_or, Option, Some, None, refl, sym, ◌∙◌, ap, subst, arith, append_assoc, length-append}
use Rattle.std.specs.Prelude.{IfSome, nat_le, nat_lt, replicate}
use Rattle.std.specs.List.{AllByRecursion, list_all}
use Rattle.std.specs.Option.{IsSomeAnd, option_map}
use Rattle.std.specs.Str.{bytes_eq}
use Rattle.std.proofs.lemmas.Bool.{false≢true, and_parts}
use Rattle.std.proofs.lemmas.Bool.Decides.{nat_tests}
use Rattle.std.proofs.lemmas.List.{append-nil, map-append, take_more, take-append-drop}
use Rattle.std.proofs.lemmas.List.Elements.{All-from_recursion}
use Rattle.std.proofs.lemmas.Slice.Eq.{bytes_eq-Decides}
use Rattle.units.specs.declared.bounds.TheConstants.{SERIAL_BYTES}
use Rattle.units.specs.declared.disk.Serial.{Serial}
use Rattle.device_log.specs.Log.{Call}
use Rattle.member_bank.specs.Faults.{Rose}
use Rattle.member_bank.specs.Told.{Keeps}
use Rattle.image_outside.specs.Outside.{IsNew}
use Rattle.member_bank.specs.declared.Bank as bank
use Rattle.image_outside.specs.Told.{BankTold, ShelfTold, bank_told}
use Rattle.image_outside.specs.Shelves.{HasOneMore, IsFresh, IsUncalled, IsUnused}
use Rattle.image_words.specs.declared.words.ImageArg.{ImageArg}
use Rattle.image_words.specs.Words.{ImageWord, IsImageWord, is_name, is_name_byte, is_apart_from, are_distinct, serial_named, serials_named}
use Rattle.image_words.specs.Args.{word_of, words_of}
use Rattle.image_words.proofs.Names.{bytes_of_name}
use Rattle.image_run.specs.Lines.{open_line}
use Rattle.image_run.specs.Openings.{OpensAll, OpensFresh, OpensFront, OpensNot, paths_named}
use Rattle.image_words.proofs.Grammar.{length-words}

short_test : (n : ℕ) → nat_le n SERIAL_BYTES ≡ true → n ≤ SERIAL_BYTES
short_test n is = grind (arith, nat_tests)

pub short_name : (name : List ℕ) → is_name name ≡ true → length name ≤ SERIAL_BYTES
short_name name named =
    short_test (length name) (and_parts (nat_le 1 (length name)) _ (and_parts (nat_le 1 (length name) && nat_le (length name) SERIAL_BYTES) _ named).0).1

pub arg_at : (images : List ImageArg) (k : ℕ) (d : ImageArg) → AllByRecursion IsImageWord (words_of images) → k < length images → IsImageWord (word_of (get_or images k d))
arg_at [] k d each below = absurd (omega arith)
arg_at (i ∷ images) zero d each below = each.0
arg_at (i ∷ images) (suc k) d each below = arg_at images k d each.1 (omega arith)

-- names of other bytes make other serials
no_zero : (c : ℕ) → is_name_byte c ≡ true → 0 ≢ c
no_zero c byte is = false≢true (subst (λ (b : ℕ). is_name_byte b ≡ true) (sym is) byte)

padded_same : (xs ys : List ℕ) (n m : ℕ) → list_all is_name_byte xs ≡ true → list_all is_name_byte ys ≡ true → xs ++ replicate n 0 ≡ ys ++ replicate m 0 → xs ≡ ys
padded_same [] [] n m names others same = refl
padded_same [] (y ∷ ys) zero m names others same = absurd (cc)
padded_same [] (y ∷ ys) (suc n) m names others same = absurd (no_zero y (and_parts _ _ others).0 (cc))
padded_same (x ∷ xs) [] n zero names others same = absurd (cc)
padded_same (x ∷ xs) [] n (suc m) names others same = absurd (no_zero x (and_parts _ _ names).0 (cc))
padded_same (x ∷ xs) (y ∷ ys) n m names others same =
    let first : x ≡ y = cc in
    let rest : xs ≡ ys = padded_same xs ys n m (and_parts (is_name_byte x) _ names).1 (and_parts (is_name_byte y) _ others).1 (cc) in
    cc

serial_apart : (w v : ImageWord) → IsImageWord w → IsImageWord v → is_apart_from w v ≡ true → serial_named w ≢ serial_named v
serial_apart w v one other apart same =
    let names : w.name ≡ v.name = padded_same w.name v.name (SERIAL_BYTES - length w.name) (SERIAL_BYTES - length v.name) (bytes_of_name w.name one.named) (bytes_of_name v.name other.named) (ap (λ (s : Serial). s.0) same) in
    let equal : bytes_eq v.name w.name ≡ true = (bytes_eq-Decides v.name w.name).1 (sym names) in
    let left : not (bytes_eq v.name w.name) ≡ true = (and_parts (not (bytes_eq v.name w.name)) _ apart).0 in
    false≢true (sym (ap not equal) ∙ left)

tested_at : (ws : List ImageWord) (p : ImageWord → Bool) (k : ℕ) (d : ImageWord) → list_all p ws ≡ true → k < length ws → p (get_or ws k d) ≡ true
tested_at [] p k d all below = absurd (omega arith)
tested_at (w ∷ ws) p zero d all below = (and_parts (p w) _ all).0
tested_at (w ∷ ws) p (suc k) d all below = tested_at ws p k d (and_parts (p w) _ all).1 (omega arith)

word_valid : (ws : List ImageWord) (k : ℕ) (d : ImageWord) → AllByRecursion IsImageWord ws → k < length ws → IsImageWord (get_or ws k d)
word_valid [] k d each below = absurd (omega arith)
word_valid (w ∷ ws) zero d each below = each.0
word_valid (w ∷ ws) (suc k) d each below = word_valid ws k d each.1 (omega arith)

new_serial : (ws : List ImageWord) (k : ℕ) (d : ImageWord) → AllByRecursion IsImageWord ws → are_distinct ws ≡ true → k < length ws
    → AllByRecursion (λ (s : Serial). s ≢ serial_named (get_or ws k d)) (serials_named (take k ws))
new_serial [] k d each distinct below = absurd (omega arith)
new_serial (w ∷ ws) zero d each distinct below = tt
new_serial (w ∷ ws) (suc k) d each distinct below =
    let apart : is_apart_from w (get_or ws k d) ≡ true = tested_at ws (is_apart_from w) k d (and_parts (list_all (is_apart_from w) ws) _ distinct).0 (omega arith) in
    (serial_apart w (get_or ws k d) each.0 (word_valid ws k d each.1 (omega arith)) apart, new_serial ws k d each.1 (and_parts (list_all (is_apart_from w) ws) _ distinct).1 (omega arith))

word_get : (images : List ImageArg) (k : ℕ) (d : ImageArg) → get_or (words_of images) k (word_of d) ≡ word_of (get_or images k d)
word_get [] k d = refl
word_get (i ∷ images) zero d = refl
word_get (i ∷ images) (suc k) d = word_get images k d

-- what is so of the bank of a shelf is so of it weakened
pub opens_weaker : {images : List ImageWord} {before after : ShelfTold} {P Q : BankTold → Type 0} → ((bank : BankTold) → P bank → Q bank) → OpensAll images before after P → OpensAll images before after Q
opens_weaker {images} {before} {after} {P} {Q} weaker opens = record { paths = opens.paths; bank = weak after.bank opens.bank }
  where
    weak : (held : Option BankTold) → IsSomeAnd held (λ bank. (bank.serials ≡ serials_named images) × P bank) → IsSomeAnd held (λ bank. (bank.serials ≡ serials_named images) × Q bank)
    weak None holds = absurd holds
    weak (Some bank) holds = (holds.0, weaker bank holds.1)

-- the serial of image k is new to a bank that has those before it
pub is_new : (held : Option BankTold) (images : List ImageArg) (k : ℕ) (d : ImageArg) (serial : Serial)
    → AllByRecursion IsImageWord (words_of images) → are_distinct (words_of images) ≡ true → k < length images → serial ≡ serial_named (word_of (get_or images k d))
    → IsSomeAnd held (λ bank. (bank.serials ≡ serials_named (take k (words_of images))) × IsFresh (serials_named (take k (words_of images))) bank)
    → IfSome held (λ bank. IsNew serial bank.serials)
is_new None images k d serial each distinct below is holds = tt
is_new (Some b) images k d serial each distinct below is holds =
    let inside : k < length (words_of images) = omega (arith, length-words images) in
    let same : serial ≡ serial_named (get_or (words_of images) k (word_of d)) = is ∙ ap serial_named (sym (word_get images k d)) in
    subst (λ (xs : List Serial). IsNew serial xs) (sym holds.0)
    (subst (λ (s : Serial). IsNew s (serials_named (take k (words_of images)))) (sym same)
    (All-from_recursion (λ (s : Serial). s ≢ serial_named (get_or (words_of images) k (word_of d))) (serials_named (take k (words_of images))) (new_serial (words_of images) k (word_of d) each distinct inside)))

still_uncalled : (old new : Option (List Call)) → IfSome old (λ l. l ≡ []) → Keeps old new → IfSome new (λ l. l ≡ [])
still_uncalled old None fresh keeps = tt
still_uncalled old (Some l) fresh keeps = subst (λ (o : Option (List Call)). IfSome o (λ l. l ≡ [])) (keeps l refl) fresh

-- the disks of a longer bank are sound, where those before are and the new one is
still_sound : (old new : BankTold) (serial : Serial) → HasOneMore serial old new → ((d : ℕ) → d < length old.serials → old.faults d ≡ 0) → (d : ℕ) → d < length new.serials → new.faults d ≡ 0
still_sound old new serial more sound d below =
    let long : length new.serials ≡ length old.serials + 1 = ap length more.named ∙ length-append old.serials (serial ∷ []) in
    at (nat_lt d (length old.serials)) refl (omega (arith, long, below))
  where
    at : (b : Bool) → nat_lt d (length old.serials) ≡ b → d < length old.serials + 1 → new.faults d ≡ 0
    at true test within = more.counted d (grind (arith, nat_tests)) ∙ sound d (grind (arith, nat_tests))
    at false test within =
        let last : d ≡ length old.serials = grind (arith, nat_tests) in
        subst (λ (n : ℕ). new.faults n ≡ 0) (sym last) more.sound

-- after image k was opened too, the shelf has opened one more
pub one_more_opened : (before old new : ShelfTold) (images : List ImageArg) (k : ℕ) (d : ImageArg) (serial : Serial) (path : List ℕ) → k < length images
    → serial ≡ serial_named (word_of (get_or images k d)) → path ≡ (get_or images k d).file.now
    → OpensFresh (take k (words_of images)) before old → new.paths ≡ old.paths ++ path ∷ []
    → IsSomeAnd old.bank (λ a. IsSomeAnd new.bank (λ b. HasOneMore serial a b))
    → OpensFresh (take (k + 1) (words_of images)) before new
one_more_opened before old new images k d serial path below is path_is opens listed more = record {
  paths = listed ∙ ap (λ (ps : List (List ℕ)). ps ++ path ∷ []) opens.paths ∙ append_assoc before.paths (paths_named (take k words)) (path ∷ []) ∙ ap (λ (ps : List (List ℕ)). before.paths ++ ps) (sym filed);
  bank = longer old.bank new.bank opens.bank more;
}
  where
    words : List ImageWord
    words = words_of images

    inside : k < length words
    inside = omega (arith, length-words images)

    here : get_or words k (word_of d) ≡ word_of (get_or images k d)
    here = word_get images k d

    front : take (k + 1) words ≡ take k words ++ get_or words k (word_of d) ∷ []
    front = take_more words k (word_of d) inside

    filed : paths_named (take (k + 1) words) ≡ paths_named (take k words) ++ path ∷ []
    filed = ap paths_named front ∙ map-append (λ (image : ImageWord). image.file) (take k words) (get_or words k (word_of d) ∷ [])
        ∙ ap (λ (p : List ℕ). paths_named (take k words) ++ p ∷ []) (ap (λ (w : ImageWord). w.file) here ∙ sym path_is)

    named : serials_named (take (k + 1) words) ≡ serials_named (take k words) ++ serial ∷ []
    named = ap serials_named front ∙ map-append serial_named (take k words) (get_or words k (word_of d) ∷ [])
        ∙ ap (λ (s : Serial). serials_named (take k words) ++ s ∷ []) (ap serial_named here ∙ sym is)

    longer : (a b : Option BankTold) → IsSomeAnd a (λ bank. (bank.serials ≡ serials_named (take k words)) × IsFresh (serials_named (take k words)) bank)
        → IsSomeAnd a (λ (o : BankTold). IsSomeAnd b (λ n. HasOneMore serial o n))
        → IsSomeAnd b (λ bank. (bank.serials ≡ serials_named (take (k + 1) words)) × IsFresh (serials_named (take (k + 1) words)) bank)
    longer None b holds adds = absurd holds
    longer (Some o) None holds adds = absurd adds
    longer (Some o) (Some n) holds adds =
        let all : n.serials ≡ serials_named (take (k + 1) words) = adds.named ∙ ap (λ (xs : List Serial). xs ++ serial ∷ []) holds.0 ∙ sym named in
        (all, record { named = all; fresh = still_uncalled o.log n.log holds.1.fresh adds.logged; sound = still_sound o n serial adds holds.1.sound })

-- the images, cut at one of them
split_at : (ws : List ImageWord) (k : ℕ) (d : ImageWord) → k < length ws → ws ≡ take k ws ++ get_or ws k d ∷ drop (suc k) ws
split_at [] k d below = absurd (omega arith)
split_at (w ∷ ws) zero d below = refl
split_at (w ∷ ws) (suc k) d below = ap (λ (l : List ImageWord). w ∷ l) (split_at ws k d (omega arith))

-- image k couldn't be opened, and its line is this
pub opens_not : (images : List ImageArg) (k : ℕ) (d : ImageArg) (name : List ℕ) (before after : ShelfTold)
    → k < length images → name ≡ (get_or images k d).name.now → Rose before.faults after.faults → OpensFresh (take k (words_of images)) before after
    → OpensNot (words_of images) before after (open_line name) 7
opens_not images k d name before after below is rose opens = record {
  front = take k (words_of images);
  image = word_of (get_or images k d);
  rest = drop (suc k) (words_of images);
  are = subst (λ (w : ImageWord). words_of images ≡ take k (words_of images) ++ w ∷ drop (suc k) (words_of images)) (word_get images k d)
      (split_at (words_of images) k (word_of d) (omega (arith, length-words images)));
  opened = opens_weaker (λ bank fresh. fresh.fresh) opens;
  cause = rose;
  status_is = refl;
  line = ap open_line is;
}

-- what a shelf tells of its bank, of the bank itself
pub new_held : {B : Type 0} (g : bank.Ghosts B) (held : Option B) (serial : Serial) → IfSome (option_map (bank_told g) held) (λ b. IsNew serial b.serials) → IfSome held (λ b. IsNew serial (g.serials b))
new_held g None serial new = tt
new_held g (Some b) serial new = new

pub more_told : {B : Type 0} (g : bank.Ghosts B) (old new : Option B) (serial : Serial)
    → IsSomeAnd old (λ a. IsSomeAnd new (λ b. HasOneMore serial (bank_told g a) (bank_told g b)))
    → IsSomeAnd (option_map (bank_told g) old) (λ a. IsSomeAnd (option_map (bank_told g) new) (λ b. HasOneMore serial a b))
more_told g None new serial more = absurd more
more_told g (Some a) None serial more = absurd more
more_told g (Some a) (Some b) serial more = more

-- images that were opened are a front of all
pub opens_front : (images : List ImageWord) (k : ℕ) (before after : ShelfTold) → OpensFresh (take k images) before after → OpensFront images before after
opens_front images k before after opens = record {
  front = take k images;
  rest = drop k images;
  are = sym (take-append-drop k images);
  opened = opens_weaker (λ bank fresh. fresh.fresh) opens;
}

-- also where the next one found no memory
pub unfed_front : (images : List ImageWord) (k : ℕ) (before mid after : ShelfTold) → OpensFresh (take k images) before mid → after.bank ≡ mid.bank → after.paths ≡ mid.paths → OpensFront images before after
unfed_front images k before mid after opens bank paths = opens_front images k before after (record {
  paths = paths ∙ opens.paths;
  bank = subst (λ (held : Option BankTold). IsSomeAnd held (λ b. (b.serials ≡ serials_named (take k images)) × IsFresh (serials_named (take k images)) b)) (sym bank) opens.bank;
})

-- or they are all
pub opens_all : (images : List ImageWord) (before after : ShelfTold) → OpensFresh images before after → OpensFront images before after
opens_all images before after opens = record {
  front = images;
  rest = [];
  are = sym (append-nil images);
  opened = opens_weaker (λ bank fresh. fresh.fresh) opens;
}

-- and where there are none
pub opens_none : (images : List ImageWord) (before : ShelfTold) → IsSomeAnd before.bank IsUnused → OpensFront images before before
opens_none images before unused = record {
  front = [];
  rest = images;
  are = refl;
  opened = record { paths = sym (append-nil before.paths); bank = held before.bank unused };
}
  where
    held : (bank : Option BankTold) → IsSomeAnd bank IsUnused → IsSomeAnd bank (λ b. (b.serials ≡ []) × IsUncalled b)
    held None unused = unused
    held (Some b) unused = (unused.empty, unused.fresh)
