use Rattle.std.proofs.Common.{◌≡◌, ◌∙◌, ◌&&◌, ℕ, List, map, Err, ap, arith, sym, length, true, nat_le, subst}
use Rattle.std.specs.List.{AllByRecursion}
use Rattle.std.proofs.lemmas.Bool.{false≢true}
use Rattle.image_words.specs.declared.verbs.Verb.{Verb}
use Rattle.image_words.specs.declared.words.ImageArg.{ImageArg}
use Rattle.image_words.specs.declared.words.WordsFault.TheVariants.{Words}
use Rattle.image_words.specs.Words.{ImageWord, IsImageWord, are_distinct, spelled, texts}
use Rattle.image_words.specs.Args.{Asks, Begins, fits, words_of}
use Rattle.image_words.proofs.Asked.{asked_images, asked_taken, names_asked, taken_asks}
use Rattle.image_words.proofs.Grammar.{length-words, one_reading, same_fault}
use Rattle.image_words.proofs.commands.parse.Goals as goal

taken : (slice vs : List ImageArg) (verb other : Verb) (words : List (List ℕ)) (images : List ImageWord) → slice ≡ vs → (verb ≡ other) × (words_of vs ≡ images) → Asks words other images
    → ((nat_le 1 (length slice) && are_distinct (words_of slice)) && fits verb (length slice)) ≡ true
taken slice vs verb other words images is read asks =
    rw (is, read.0, ← length-words vs, read.1) (asked_taken words other images asks)

pub returns-in_default-clause-refused : goal.returns-in_default-clause-refused
returns-in_default-clause-refused c = λ is command.
    let asked = names_asked (texts c.args.words.now) command.0 command.1 in
    absurd (c.in_default.ensures.only asked.0 command.0 asked.1)

pub returns-in_err-images-clause-refused : goal.returns-in_err-images-clause-refused
returns-in_err-images-clause-refused c = λ is command.
    let asked = names_asked (texts c.args.words.now) command.0 command.1 in
    let found = c.in-Some.ensures.only asked.0 command.0 asked.1 in
    let failed : c.images_of.result ≡ Err Words = c.in_err-images.was ∙ ap Err (same_fault c.from_residual.result c.in_err-images.field-0.0 Words c.from_residual.ensures.1 is) in
    c.images_of.ensures.refused failed command.0 (asked_images (texts c.args.words.now) asked.0 command.0 asked.1).each found.1

pub returns-then-not-are_taken-clause-refused : goal.returns-then-not-are_taken-clause-refused
returns-then-not-are_taken-clause-refused c = λ is command.
    let asked = names_asked (texts c.args.words.now) command.0 command.1 in
    let vs : List ImageArg = c.in_ok-images.images.items in
    let read = one_reading (texts c.args.words.now) (texts c.in-Some.named.now) c.in-Some.verb vs asked.0 command.0 c.in-Some.ensures.only c.in_ok-images.ensures.found c.in_ok-images.ensures.each asked.1 in
    false≢true (sym c.if-not-are_taken.true ∙ c.are_taken.ensures ∙ taken c.as_slice.result.now vs c.in-Some.verb asked.0 (texts c.args.words.now) command.0 c.as_slice.ensures.value read asked.1)

pub returns-then-len-gt-MAX_DISKS-clause-past_alone : goal.returns-then-len-gt-MAX_DISKS-clause-past_alone
returns-then-len-gt-MAX_DISKS-clause-past_alone c = λ is command.
    let asked = names_asked (texts c.args.words.now) command.0 command.1 in
    let vs : List ImageArg = c.in_ok-images.images.items in
    let read = one_reading (texts c.args.words.now) (texts c.in-Some.named.now) c.in-Some.verb vs asked.0 command.0 c.in-Some.ensures.only c.in_ok-images.ensures.found c.in_ok-images.ensures.each asked.1 in
    omega (arith, ap (λ (ws : List ImageWord). length ws) read.1, length-words vs, command.2, c.if-len-gt-MAX_DISKS.true, c.len.ensures)

read_asks : (slice vs : List ImageArg) (verb : Verb) (words rest : List (List ℕ)) → slice ≡ vs → Begins words verb rest → rest ≡ map spelled (words_of vs)
    → AllByRecursion IsImageWord (words_of vs) → ((nat_le 1 (length slice) && are_distinct (words_of slice)) && fits verb (length slice)) ≡ true → Asks words verb (words_of vs)
read_asks slice vs verb words rest is begins found each tested =
    let here : ((nat_le 1 (length vs) && are_distinct (words_of vs)) && fits verb (length vs)) ≡ true =
    subst (λ (l : List ImageArg). ((nat_le 1 (length l) && are_distinct (words_of l)) && fits verb (length l)) ≡ true) is tested in
    taken_asks words rest verb (words_of vs) begins found each (rw length-words here)

pub returns-clause-found : goal.returns-clause-found
returns-clause-found c =
    read_asks c.as_slice.result.now c.in_ok-images.images.items c.in-Some.verb (texts c.args.words.now) (texts c.in-Some.named.now) c.as_slice.ensures.value c.in-Some.ensures.some c.in_ok-images.ensures.found c.in_ok-images.ensures.each
    (sym c.are_taken.ensures ∙ c.if-not-are_taken.false)

pub returns-clause-only : goal.returns-clause-only
returns-clause-only c = λ verb images asks.
    one_reading (texts c.args.words.now) (texts c.in-Some.named.now) c.in-Some.verb c.in_ok-images.images.items verb images c.in-Some.ensures.only c.in_ok-images.ensures.found c.in_ok-images.ensures.each asks

pub returns-clause-within : goal.returns-clause-within
returns-clause-within c = λ command.
    let asked = names_asked (texts c.args.words.now) command.0 command.1 in
    let vs : List ImageArg = c.in_ok-images.images.items in
    let read = one_reading (texts c.args.words.now) (texts c.in-Some.named.now) c.in-Some.verb vs asked.0 command.0 c.in-Some.ensures.only c.in_ok-images.ensures.found c.in_ok-images.ensures.each asked.1 in
    omega (arith, ap (λ (ws : List ImageWord). length ws) read.1, length-words vs, command.2, c.if-len-gt-MAX_DISKS.false, c.len.ensures)
