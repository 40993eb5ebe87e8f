-- What a command leaves where memory ran out.
use Rattle.std.proofs.Common.{◌≡◌, ◌⊎◌, ◌∙◌, List, [], ◌++◌, true, ap, inl, inr, None, Option, Some, refl, sym, subst}
use Rattle.std.proofs.lemmas.List.{append-nil}
use Rattle.std.specs.Option.{IsSomeAnd}
use Rattle.image_outside.specs.Endings.{Ends}
use Rattle.image_outside.specs.Told.{BankTold, ShelfTold}
use Rattle.image_outside.specs.Shelves.{HasOnlyReads, IsUncalled, IsUnused}
use Rattle.image_words.specs.Words.{ImageWord, serials_named}
use Rattle.image_verdict.specs.Images.{HasReadFirst}
use Rattle.image_verdict.proofs.Reading.{first_only_read}
use Rattle.image_assemble.specs.Endings.{HasLookedFirst}
use Rattle.image_examine.specs.Endings.{HasLookedOrNot}
use Rattle.image_run.specs.Does.{Does, IsUntouched}
use Rattle.image_run.specs.Openings.{OpensAll, OpensFront, paths_named}
use Rattle.image_run.specs.Outside.{Outside}
use Rattle.image_run.specs.Requests.{Request, NotWords, TooManyImages, Assemble, Incremental, Examine, Create, Replay}
use Rattle.image_run.specs.Runs.{Leaves, OnFront}
use Rattle.image_run.specs.Scripts.{IsStopped}
use Rattle.refused_commands.specs.Wrong.{images_of}
use Rattle.refused_commands.proofs.Changes.{first_looks_only_read, looked_only_reads, uncalled_reads, unused_reads}
use Rattle.refused_commands.proofs.Statuses.{is_plain, does_end}

neither_nine : (is_plain 9 ≡ true) ⊎ IsStopped 9 → ⊥
neither_nine (inl plain) = cc plain
neither_nine (inr (inl four)) = cc four
neither_nine (inr (inr (inl five))) = cc five
neither_nine (inr (inr (inr ten))) = cc ten

-- no command that does what it is asked for ends with 9
pub not_nine : (request : Request) (before after : Outside) → Ends before.sink after.sink (Does request before after) 9 → ⊥
not_nine request before after (inl written) = neither_nine (does_end request before after written.lines 9 written.ends)
not_nine request before after (inr cut) = let six : 9 ≡ 6 = cut.0 in cc six

still_read : (before after : Outside) → IsUntouched before after → IsSomeAnd before.shelf.bank IsUnused → IsSomeAnd after.shelf.bank HasOnlyReads
still_read before after same unused =
    subst (λ (shelf : ShelfTold). IsSomeAnd shelf.bank HasOnlyReads) (sym same.shelf) (unused_reads before.shelf.bank unused)

all_read : (images : List ImageWord) (before after : ShelfTold) (P : BankTold → Type 0) → ((bank : BankTold) → P bank → HasOnlyReads bank)
    → OpensAll images before after P → IsSomeAnd after.bank HasOnlyReads
all_read images before after P reads opens = at after.bank opens.bank where
  at : (held : Option BankTold) → IsSomeAnd held (λ bank. (bank.serials ≡ serials_named images) × P bank) → IsSomeAnd held HasOnlyReads
  at None there = there
  at (Some bank) there = reads bank there.1

front_read : (images : List ImageWord) (before after : ShelfTold) → OpensFront images before after → IsSomeAnd after.bank HasOnlyReads
front_read images before after opens = all_read opens.front before after IsUncalled uncalled_reads opens.opened

on_front : (images : List ImageWord) (before after : ShelfTold) (P : BankTold → Type 0) → ((bank : BankTold) → P bank → HasOnlyReads bank)
    → OnFront images before after P → IsSomeAnd after.bank HasOnlyReads
on_front images before after P reads (inl front) = front_read images before after front
on_front images before after P reads (inr all) = all_read images before after P reads all

-- its bank was only read
pub left_read : (request : Request) (before after : Outside) → IsSomeAnd before.shelf.bank IsUnused → Leaves request before after → IsSomeAnd after.shelf.bank HasOnlyReads
left_read NotWords before after unused leaves = still_read before after leaves unused
left_read TooManyImages before after unused leaves = still_read before after leaves unused
left_read (Assemble run images) before after unused leaves = on_front images before.shelf after.shelf HasLookedFirst first_looks_only_read leaves.1
left_read (Incremental run images) before after unused leaves = on_front images before.shelf after.shelf HasLookedFirst first_looks_only_read leaves.1
left_read (Examine images) before after unused leaves = on_front images before.shelf after.shelf HasLookedOrNot looked_only_reads leaves.1
left_read (Create made images) before after unused leaves = front_read images before.shelf after.shelf leaves.1
left_read (Replay limit images) before after unused (inl front) = front_read images before.shelf after.shelf front.1
left_read (Replay limit images) before after unused (inr all) = all_read images before.shelf after.shelf HasReadFirst first_only_read all.1

-- THE PATHS

-- what was opened are the paths of some first images
pub record OpensSome (images : List ImageWord) (before after : ShelfTold) : Type 0 where
  pub front : List ImageWord
  pub rest : List ImageWord
  pub are : images ≡ front ++ rest
  pub paths : after.paths ≡ before.paths ++ paths_named front

front_some : (images : List ImageWord) (before after : ShelfTold) → OpensFront images before after → OpensSome images before after
front_some images before after opens = record { front = opens.front; rest = opens.rest; are = opens.are; paths = opens.opened.paths }

pub all_some : (images : List ImageWord) (before after : ShelfTold) (P : BankTold → Type 0) → OpensAll images before after P → OpensSome images before after
all_some images before after P opens = record { front = images; rest = []; are = sym (append-nil images); paths = opens.paths }

on_front_some : (images : List ImageWord) (before after : ShelfTold) (P : BankTold → Type 0) → OnFront images before after P → OpensSome images before after
on_front_some images before after P (inl front) = front_some images before after front
on_front_some images before after P (inr all) = all_some images before after P all

none_some : (before after : Outside) → IsUntouched before after → OpensSome [] before.shelf after.shelf
none_some before after same = record { front = []; rest = []; are = refl; paths = ap (λ (shelf : ShelfTold). shelf.paths) same.shelf ∙ sym (append-nil before.shelf.paths) }

pub leaves_some : (request : Request) (before after : Outside) → Leaves request before after → OpensSome (images_of request) before.shelf after.shelf
leaves_some NotWords before after leaves = none_some before after leaves
leaves_some TooManyImages before after leaves = none_some before after leaves
leaves_some (Assemble run images) before after leaves = on_front_some images before.shelf after.shelf HasLookedFirst leaves.1
leaves_some (Incremental run images) before after leaves = on_front_some images before.shelf after.shelf HasLookedFirst leaves.1
leaves_some (Examine images) before after leaves = on_front_some images before.shelf after.shelf HasLookedOrNot leaves.1
leaves_some (Create made images) before after leaves = front_some images before.shelf after.shelf leaves.1
leaves_some (Replay limit images) before after (inl front) = front_some images before.shelf after.shelf front.1
leaves_some (Replay limit images) before after (inr all) = all_some images before.shelf after.shelf HasReadFirst all.1
