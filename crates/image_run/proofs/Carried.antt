-- What a command asks for is carried out: from what is done on its images to the promise.
use Rattle.std.proofs.Common.{◌≡◌, ◌≤◌, ℕ, List, length, Option, Some, inl, inr, sym, subst, ◌∙◌, ap, arith}
use Rattle.std.specs.Option.{IsSomeAnd}
use Rattle.units.specs.declared.bounds.TheConstants.{MAX_DISKS}
use Rattle.units.specs.declared.disk.Serial.{Serial}
use Rattle.new_container.proofs.Whole.{few_disks}
use Rattle.image_outside.specs.Told.{BankTold, ShelfTold, SinkTold}
use Rattle.image_outside.specs.Shelves.{IsFresh, IsUnused}
use Rattle.image_outside.specs.Endings.{Ends, EndsIfMemory, EndsWithoutMemory, Prints}
use Rattle.image_outside.proofs.Ended.{ends_map, ends_so}
use Rattle.image_words.specs.Args.{Asks}
use Rattle.image_words.specs.Words.{ImageWord, IsCommand, IsPastLimit, IsWithinLimit, Names, serials_named}
use Rattle.image_words.specs.declared.verbs.Verb.{Verb}
use Rattle.image_words.specs.declared.verbs.Verb.TheVariants as verbs
use Rattle.image_run.specs.Does.{Does, OnImages}
use Rattle.image_run.specs.Openings.{OpensAll, OpensFresh, OpensFront, OpensNot}
use Rattle.image_run.specs.Outside.{Outside}
use Rattle.image_run.specs.Requests.{Request, NotWords, TooManyImages, Assemble, Incremental, Examine, Create, Replay, IsAsked, request_of}
use Rattle.image_run.specs.Runs.{Carries, Leaves, Runs}
use Rattle.image_run.proofs.Opened.{opens_none}

-- ON A BANK THAT WAS LENT

-- the bank of a shelf on which images were opened
pub lent_fresh : (images : List ImageWord) (before mid : ShelfTold) (lent : BankTold) → OpensFresh images before mid → mid.bank ≡ Some lent → IsFresh (serials_named images) lent
lent_fresh images before mid lent opens is =
    (subst (λ (held : Option BankTold). IsSomeAnd held (λ bank. (bank.serials ≡ serials_named images) × IsFresh (serials_named images) bank)) is opens.bank).1

-- the bank came back with its disks, and this holds of it
pub handed_back : (images : List ImageWord) (before mid after : ShelfTold) (lent now : BankTold) (P : BankTold → Type 0)
    → OpensFresh images before mid → mid.bank ≡ Some lent → after.paths ≡ mid.paths → after.bank ≡ Some now → now.serials ≡ lent.serials → P now → OpensAll images before after P
handed_back images before mid after lent now P opens is paths back same so = record {
  paths = paths ∙ opens.paths;
  bank = subst (λ (held : Option BankTold). IsSomeAnd held (λ bank. (bank.serials ≡ serials_named images) × P bank)) (sym back)
      (same ∙ (lent_fresh images before mid lent opens is).named, so);
}

-- the same of what a shelf holds
pub held_fresh : (held : Option BankTold) (lent : BankTold) (names : List Serial) → held ≡ Some lent → IsSomeAnd held (IsFresh names) → IsFresh names lent
held_fresh held lent names is fresh = subst (λ (h : Option BankTold). IsSomeAnd h (IsFresh names)) is fresh

pub held_back : (held : Option BankTold) (now : BankTold) (names : List Serial) (P : BankTold → Type 0) → held ≡ Some now → now.serials ≡ names → P now → IsSomeAnd held (λ bank. (bank.serials ≡ names) × P bank)
held_back held now names P is same so = subst (λ (h : Option BankTold). IsSomeAnd h (λ bank. (bank.serials ≡ names) × P bank)) (sym is) (same, so)

-- and the sink says how that ended, as it stood when the images were opened
pub ends_on : (images : List ImageWord) (before mid after : ShelfTold) (lent now : BankTold) (P : BankTold → List ℕ → ℕ → Type 0) (entry opened ended : SinkTold) (status : ℕ)
    → OpensFresh images before mid → mid.bank ≡ Some lent → after.paths ≡ mid.paths → after.bank ≡ Some now → now.serials ≡ lent.serials → opened ≡ entry
    → EndsIfMemory opened ended (P now) status → EndsIfMemory entry ended (OnImages images before after P) status
ends_on images before mid after lent now P entry opened ended status opens is paths back same silent ends =
    subst (λ (sink : SinkTold). EndsIfMemory sink ended (OnImages images before after P) status) silent
    (ends_map opened ended (P now) (OnImages images before after P) status
    (λ lines s so. inr (handed_back images before mid after lent now (λ bank. P bank lines s) opens is paths back same so)) ends)

-- the same where an image couldn't be opened
pub ends_unopened : (images : List ImageWord) (before after : ShelfTold) (P : BankTold → List ℕ → ℕ → Type 0) (entry ended : SinkTold) (status : ℕ)
    → EndsIfMemory entry ended (OpensNot images before after) status → EndsIfMemory entry ended (OnImages images before after P) status
ends_unopened images before after P entry ended status ends = ends_map entry ended (OpensNot images before after) (OnImages images before after P) status (λ lines s not. inl not) ends

-- THE COMMANDS

-- what was done to the images of a command, without the source
pub carries : (request : Request) (before after : Outside) (One : List ℕ → ℕ → Type 0) (status : ℕ) → ((lines : List ℕ) (s : ℕ) → One lines s → Does request before after lines s)
    → (status ≡ 9 → Leaves request before after) → EndsIfMemory before.sink after.sink One status → Carries request before after status
carries request before after One status does leaves (inl ends) = inl (ends_so before.sink after.sink One (Does request before after) status does ends)
carries request before after One status does leaves (inr (is, memory)) = inr (is, memory, leaves is)

-- the same of words that open nothing
pub carries_line : (request : Request) (before after : Outside) (lines : List ℕ) (status result : ℕ) → ((told : List ℕ) (s : ℕ) → Prints lines status told s → Does request before after told s)
    → Ends before.sink after.sink (Prints lines status) result → Carries request before after result
carries_line request before after lines status result does ends = inl (ends_so before.sink after.sink (Prints lines status) (Does request before after) result does ends)

-- nothing was opened: no image is a front of them
left_shelf : (images : List ImageWord) (before after : Outside) → IsSomeAnd before.shelf.bank IsUnused → after.shelf ≡ before.shelf → OpensFront images before.shelf after.shelf
left_shelf images before after unused same = subst (λ (shelf : ShelfTold). OpensFront images before.shelf shelf) (sym same) (opens_none images before.shelf unused)

left_untouched : (request : Request) (before after : Outside) → IsSomeAnd before.shelf.bank IsUnused → after.shelf ≡ before.shelf → after.source ≡ before.source → Leaves request before after
left_untouched NotWords before after unused shelf source = record { shelf = shelf; source = source }
left_untouched TooManyImages before after unused shelf source = record { shelf = shelf; source = source }
left_untouched (Assemble run images) before after unused shelf source = (source, inl (left_shelf images before after unused shelf))
left_untouched (Incremental run images) before after unused shelf source = (source, inl (left_shelf images before after unused shelf))
left_untouched (Examine images) before after unused shelf source = (source, inl (left_shelf images before after unused shelf))
left_untouched (Create made images) before after unused shelf source = (source, left_shelf images before after unused shelf)
left_untouched (Replay limit images) before after unused shelf source = inl (source, left_shelf images before after unused shelf)

-- memory ran out before anything was opened
pub runs_unmade : (words : List (List ℕ)) (before after : Outside) (status : ℕ) → IsSomeAnd before.shelf.bank IsUnused → after.shelf ≡ before.shelf → after.source ≡ before.source
    → status ≡ 9 → EndsWithoutMemory before.sink after.sink → Runs words before after status
runs_unmade words before after status unused shelf source nine ends request asked = inr (nine, ends, left_untouched request before after unused shelf source)

-- THE WORDS

pub same : (verb : Verb) (images : List ImageWord) (v : Verb) (is : List ImageWord) → (verb ≡ v) × (images ≡ is) → request_of verb images ≡ request_of v is
same verb images v is both = ap (λ (w : Verb). request_of w images) both.0 ∙ ap (request_of v) both.1

names : (words : List (List ℕ)) (verb : Verb) (images : List ImageWord) → Asks words verb images → Names words images
names words (verbs.Assemble run) images asks = inl (run, asks)
names words (verbs.Incremental run) images asks = inr (inl (run, asks))
names words (verbs.Replay limit) images asks = inr (inr (inl (limit, asks)))
names words verbs.Examine images asks = inr (inr (inr (inl asks)))
names words (verbs.Create made) images asks = inr (inr (inr (inr (made, asks))))

-- what is asked for by words of a command is that command
pub one_request : (words : List (List ℕ)) (verb : Verb) (images : List ImageWord) → Asks words verb images → length images ≤ MAX_DISKS
    → ((v : Verb) (is : List ImageWord) → Asks words v is → (verb ≡ v) × (images ≡ is)) → (IsPastLimit words → ⊥)
    → (request : Request) → IsAsked words request → request_of verb images ≡ request
one_request words verb images asks few only within NotWords asked = absurd (asked (images, names words verb images asks))
one_request words verb images asks few only within TooManyImages asked = absurd (within asked)
one_request words verb images asks few only within (Assemble run is) asked = same verb images (verbs.Assemble run) is (only (verbs.Assemble run) is asked.0)
one_request words verb images asks few only within (Incremental run is) asked = same verb images (verbs.Incremental run) is (only (verbs.Incremental run) is asked.0)
one_request words verb images asks few only within (Examine is) asked = same verb images verbs.Examine is (only verbs.Examine is asked)
one_request words verb images asks few only within (Create made is) asked = same verb images (verbs.Create made) is (only (verbs.Create made) is asked)
one_request words verb images asks few only within (Replay limit is) asked = same verb images (verbs.Replay limit) is (only (verbs.Replay limit) is asked.0)

-- words outside the grammar ask for nothing else
pub asks_nothing : (words : List (List ℕ)) (before after : Outside) (result : ℕ) → (IsCommand words → ⊥) → Carries NotWords before after result → Runs words before after result
asks_nothing words before after result none carried NotWords asked = carried
asks_nothing words before after result none carried TooManyImages asked = absurd (none (asked.0, asked.1))
asks_nothing words before after result none carried (Assemble run images) asked = absurd (none (images, names words (verbs.Assemble run) images asked.0))
asks_nothing words before after result none carried (Incremental run images) asked = absurd (none (images, names words (verbs.Incremental run) images asked.0))
asks_nothing words before after result none carried (Examine images) asked = absurd (none (images, names words verbs.Examine images asked))
asks_nothing words before after result none carried (Create made images) asked = absurd (none (images, names words (verbs.Create made) images asked))
asks_nothing words before after result none carried (Replay limit images) asked = absurd (none (images, names words (verbs.Replay limit) images asked.0))

-- nor do words that name too many images
pub asks_too_many : (words : List (List ℕ)) (before after : Outside) (result : ℕ) → IsPastLimit words → (IsWithinLimit words → ⊥) → Carries TooManyImages before after result → Runs words before after result
asks_too_many words before after result past none carried NotWords asked = absurd (asked (past.0, past.1))
asks_too_many words before after result past none carried TooManyImages asked = carried
asks_too_many words before after result past none carried (Assemble run images) asked = absurd (none (images, names words (verbs.Assemble run) images asked.0, asked.1))
asks_too_many words before after result past none carried (Incremental run images) asked = absurd (none (images, names words (verbs.Incremental run) images asked.0, asked.1))
asks_too_many words before after result past none carried (Examine images) asked = absurd (none (images, names words verbs.Examine images asked, omega (arith, asked.alone)))
asks_too_many words before after result past none carried (Create made images) asked =
    let few = few_disks made (length images) asked.fitting in
    absurd (none (images, names words (verbs.Create made) images asked, omega (arith, few.1)))
asks_too_many words before after result past none carried (Replay limit images) asked = absurd (none (images, names words (verbs.Replay limit) images asked.0, asked.1))
