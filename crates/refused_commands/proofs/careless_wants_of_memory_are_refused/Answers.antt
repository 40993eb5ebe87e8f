use Rattle.std.proofs.Common.{◌≡◌, ◌≢◌, ◌∙◌, ℕ, List, [], ◌∷◌, ◌++◌, length, take, Option, Some, ap, inl, inr, refl, sym, subst}
use Rattle.std.specs.Prelude.{IfSome}
use Rattle.std.specs.Option.{IsSomeAnd}
use Rattle.std.proofs.lemmas.List.{append_cancel_left, append-nil}
use Rattle.device_log.specs.Log.{Call}
use Rattle.units.specs.Places.{anchor_place}
use Rattle.image_outside.specs.Shelves.{IsUncalled}
use Rattle.image_outside.specs.Told.{BankTold, ShelfTold}
use Rattle.image_words.specs.Words.{ImageWord, serials_named}
use Rattle.image_verdict.specs.declared.images.ImageRead.{ImageRead}
use Rattle.image_verdict.specs.Images.{HasReadFirst, anchor_reads, sizes_of_all}
use Rattle.image_assemble.specs.Endings.{HasLookedFirst}
use Rattle.image_run.specs.Openings.{OpensAll, OpensFront, paths_named}
use Rattle.image_run.specs.Outside.{Outside}
use Rattle.image_run.specs.Requests.{Assemble, Incremental, Replay}
use Rattle.image_run.specs.Runs.{LeavesReplay, OnFront}
use Rattle.refused_commands.specs.Wrong.{TellsOfOne, read_of}
use Rattle.refused_commands.proofs.Anchors.{one_read, the_read, two_not_one}
use Rattle.refused_commands.proofs.Looks.{not_looked_twice}
use Rattle.refused_commands.proofs.Memory.{leaves_some, not_nine}
use Rattle.refused_commands.proofs.Pairs.{opens_pair}
use Rattle.refused_commands.proofs.careless_wants_of_memory_are_refused.Goals as goal

-- one path that was opened is the first image's
one_path : (front rest : List ImageWord) (a : ImageWord) (more : List ImageWord) (path : List ℕ) → a ∷ more ≡ front ++ rest → path ∷ [] ≡ paths_named front → path ≡ a.file
one_path [] rest a more path are paths = absurd (cc paths)
one_path (image ∷ front) rest a more path are paths =
    let same : path ≡ image.file = cc paths in
    let first : image ≡ a = cc are in
    same ∙ ap (λ (i : ImageWord). i.file) first

pub returns-clause-elsewhere : goal.returns-clause-elsewhere
returns-clause-elsewhere c request a rest path before after is other opened (inl ends) = not_nine request before after ends
returns-clause-elsewhere c request a rest path before after is other opened (inr memory) =
    let some = leaves_some request before after memory.2 in
    other (one_path some.front some.rest a rest path (sym is ∙ some.are) (append_cancel_left before.shelf.paths (path ∷ []) (paths_named some.front) (sym opened ∙ some.paths)))

-- no path was opened, and so not all of some
none_opened : (a : ImageWord) (rest : List ImageWord) (before after : ShelfTold) (P : BankTold → Type 0) → after.paths ≡ before.paths → OpensAll (a ∷ rest) before after P → ⊥
none_opened a rest before after P none opens =
    let empty : [] ≡ paths_named (a ∷ rest) = append_cancel_left before.paths [] (paths_named (a ∷ rest)) (append-nil before.paths ∙ sym none ∙ opens.paths) in
    cc empty

unread_replay : (a : ImageWord) (rest : List ImageWord) (before after : Outside) → after.source ≢ before.source → after.shelf.paths ≡ before.shelf.paths → LeavesReplay (a ∷ rest) before after → ⊥
unread_replay a rest before after read none (inl front) = read front.0
unread_replay a rest before after read none (inr all) = none_opened a rest before.shelf after.shelf HasReadFirst none all.1

pub returns-clause-greedy : goal.returns-clause-greedy
returns-clause-greedy c limit a rest before after read none (inl ends) = not_nine (Replay limit (a ∷ rest)) before after ends
returns-clause-greedy c limit a rest before after read none (inr memory) = unread_replay a rest before after read none memory.2

-- an anchor that was read twice wasn't read once, nor not at all
not_twice : (n : ℕ) (bank : BankTold) → TellsOfOne n (read_of (anchor_place n) ∷ read_of (anchor_place n) ∷ []) bank → HasReadFirst bank → ⊥
not_twice n bank tells first = at first.images (subst (λ (ns : List ℕ). sizes_of_all first.images ≡ take (length first.images) ns) tells.sized first.sized)
    (subst (λ l. IfSome l (λ log. log ≡ anchor_reads first.images)) tells.told first.reads)
  where
    once : Call
    once = read_of (anchor_place n)

    at : (images : List ImageRead) → sizes_of_all images ≡ take (length images) (n ∷ []) → once ∷ once ∷ [] ≡ anchor_reads images → ⊥
    at [] sized reads = cc reads
    at (image ∷ []) sized reads = let one = one_read (image ∷ []) n sized tells.large in two_not_one once once (the_read n one.0) (reads ∙ one.1)
    at (image ∷ other ∷ more) sized reads = cc sized

not_uncalled : (n : ℕ) (bank : BankTold) → TellsOfOne n (read_of (anchor_place n) ∷ read_of (anchor_place n) ∷ []) bank → IsUncalled bank → ⊥
not_uncalled n bank tells uncalled =
    let none : read_of (anchor_place n) ∷ read_of (anchor_place n) ∷ [] ≡ [] = subst (λ l. IfSome l (λ log. log ≡ [])) tells.told uncalled in
    cc none

-- what is so of a bank that is held
held : {P : BankTold → Type 0} {names : List ImageWord} {before after : ShelfTold} (bank : BankTold) → after.bank ≡ Some bank → OpensAll names before after P → P bank
held {P} {names} bank is opens = (subst (λ (h : Option BankTold). IsSomeAnd h (λ b. (b.serials ≡ serials_named names) × P b)) is opens.bank).1

module _ (n : ℕ) (images : List ImageWord) (before after : ShelfTold) (bank : BankTold) (tells : TellsOfOne n (read_of (anchor_place n) ∷ read_of (anchor_place n) ∷ []) bank) (is : after.bank ≡ Some bank) where
  front_twice : OpensFront images before after → ⊥
  front_twice front = not_uncalled n bank tells (held bank is front.opened)

  left_twice : OnFront images before after HasLookedFirst → ⊥
  left_twice (inl front) = front_twice front
  left_twice (inr all) = not_looked_twice n bank tells (held bank is all)

replayed_twice : (n : ℕ) (images : List ImageWord) (before after : Outside) (bank : BankTold) → TellsOfOne n (read_of (anchor_place n) ∷ read_of (anchor_place n) ∷ []) bank → after.shelf.bank ≡ Some bank
    → LeavesReplay images before after → ⊥
replayed_twice n images before after bank tells is (inl front) = front_twice n images before.shelf after.shelf bank tells is front.1
replayed_twice n images before after bank tells is (inr all) = not_twice n bank tells (held bank is all.1)

pub returns-clause-twice : goal.returns-clause-twice
returns-clause-twice c limit n images before after bank tells is (inl ends) = not_nine (Replay limit images) before after ends
returns-clause-twice c limit n images before after bank tells is (inr memory) = replayed_twice n images before after bank tells is memory.2

pub returns-clause-twice_assembled : goal.returns-clause-twice_assembled
returns-clause-twice_assembled c run n images before after bank tells is (inl ends) = not_nine (Assemble run images) before after ends
returns-clause-twice_assembled c run n images before after bank tells is (inr memory) = left_twice n images before.shelf after.shelf bank tells is memory.2.1

pub returns-clause-twice_arrived : goal.returns-clause-twice_arrived
returns-clause-twice_arrived c run n images before after bank tells is (inl ends) = not_nine (Incremental run images) before after ends
returns-clause-twice_arrived c run n images before after bank tells is (inr memory) = left_twice n images before.shelf after.shelf bank tells is memory.2.1

pub returns-clause-opened : goal.returns-clause-opened
returns-clause-opened c run a b before after bank holds uncalled same ends =
    let both : OpensFront (a ∷ b ∷ []) before.shelf after.shelf = record {
      front = a ∷ b ∷ [];
      rest = [];
      are = refl;
      opened = opens_pair a b before.shelf after.shelf bank IsUncalled holds uncalled;
    } in
    inr (refl, ends, (same, inl both))
