-- A bank on which nothing but reads was made tells no change.
use Rattle.std.proofs.Common.{◌≡◌, ◌∙◌, ◌+◌, ℕ, Bool, true, false, List, [], ◌∷◌, ◌++◌, map, take, Option, Some, None, inl, inr, refl, sym, subst}
use Rattle.std.proofs.lemmas.List.{append-nil}
use Rattle.std.specs.Option.{IsSomeAnd}
use Rattle.std.specs.Prelude.{IfSome, slice_index}
use Rattle.units.specs.declared.disk.Sector.{Sector}
use Rattle.device_log.specs.Log.{Call, IsReadCall, OnlyReads}
use Rattle.image_outside.specs.Told.{BankTold}
use Rattle.image_outside.specs.Shelves.{HasOnlyReads, IsUncalled, IsUnused}
use Rattle.mpb_store.specs.Banks.{AreRead, LogsLook, places_read, read_of}
use Rattle.assembly.specs.Seen.{Looks}
use Rattle.image_assemble.specs.Endings.{HasLookedFirst}
use Rattle.image_examine.specs.Endings.{HasLookedOrNot, IsLook}
use Rattle.refused_commands.specs.Wrong.{TellsChange}

-- each call of a log of reads is a read
read_within : (front : List Call) (call : Call) (rest : List Call) → OnlyReads (front ++ call ∷ rest) → IsReadCall call.what
read_within [] call rest reads = reads.0
read_within (first ∷ front) call rest reads = read_within front call rest reads.1

told_reads : (bank : BankTold) (log : List Call) → bank.log ≡ Some log → HasOnlyReads bank → OnlyReads log
told_reads bank log told reads = subst (λ l. IfSome l OnlyReads) told reads

unchanged : (bank : BankTold) → HasOnlyReads bank → TellsChange bank → ⊥
unchanged bank reads tells =
    tells.changes (read_within tells.front tells.change tells.rest (told_reads bank (tells.front ++ tells.change ∷ tells.rest) tells.told reads))

pub cannot_change : (held : Option BankTold) → IsSomeAnd held HasOnlyReads → IsSomeAnd held TellsChange → ⊥
cannot_change None reads tells = tells
cannot_change (Some bank) reads tells = unchanged bank reads tells

uncalled_log : (log : Option (List Call)) → IfSome log (λ calls. calls ≡ []) → IfSome log OnlyReads
uncalled_log None none = tt
uncalled_log (Some calls) none = subst OnlyReads (sym none) tt

pub unused_reads : (held : Option BankTold) → IsSomeAnd held IsUnused → IsSomeAnd held HasOnlyReads
unused_reads None unused = unused
unused_reads (Some bank) unused = uncalled_log bank.log unused.fresh

pub uncalled_reads : (bank : BankTold) → IsUncalled bank → HasOnlyReads bank
uncalled_reads bank uncalled = uncalled_log bank.log uncalled

reads_only : (d : ℕ) (went : Bool) (places : List ℕ) (more : List Call) → OnlyReads more → OnlyReads (map (read_of d went) places ++ more)
reads_only d went [] more rest = rest
reads_only d went (p ∷ ps) more rest = (tt, reads_only d went ps more rest)

joined : (calls more : List Call) → OnlyReads calls → OnlyReads more → OnlyReads (calls ++ more)
joined [] more reads rest = rest
joined (call ∷ calls) more reads rest = (reads.0, joined calls more reads.1 rest)

are_reads : (d : ℕ) (places : List ℕ) (failed : Bool) (calls : List Call) → AreRead d places failed calls → OnlyReads calls
are_reads d places false calls is =
    subst OnlyReads (sym (is ∙ sym (append-nil (map (read_of d true) places)))) (reads_only d true places [] tt)
are_reads d places true calls (k, stops) = subst OnlyReads (sym stops.reads) (reads_only d true (take k places) _ (tt, tt))

-- a look at a disk only reads it
pub looked_only_reads : (bank : BankTold) → HasLookedOrNot bank → HasOnlyReads bank
looked_only_reads bank (inl uncalled) = uncalled_reads bank uncalled
looked_only_reads bank (inr looked) = at bank.log looked.reads where
  at : (log : Option (List Call)) → IfSome log (IsLook looked.sectors bank.opening looked.failed) → IfSome log OnlyReads
  at None look = tt
  at (Some calls) look = are_reads 0 (places_read looked.sectors look.anchor) looked.failed calls look.reads

-- nor do looks at some disks change them
module _ (sizes : List ℕ) (opening : Option (List (List Sector))) where
  look_adds : (n d : ℕ) (old new : Option (List Call)) (failed : Bool) → IfSome old OnlyReads → LogsLook n d opening old new failed → (log : List Call) → new ≡ Some log → OnlyReads log
  look_adds n d old new failed reads look log told =
      let (before, calls, anchor, was, laid, read, stands) = look log told in
      let first : OnlyReads before = subst (λ l. IfSome l OnlyReads) was reads in
      subst OnlyReads (sym laid) (joined before calls first (are_reads d (places_read n anchor) failed calls read))

  looks_only_read : (k : ℕ) (old : Option (List Call)) (failed : List Bool) (new : Option (List Call)) → IfSome old OnlyReads → Looks sizes opening k old failed new → IfSome new OnlyReads
  looks_only_read k old [] None reads keeps = tt
  looks_only_read k old [] (Some log) reads keeps = subst (λ l. IfSome l OnlyReads) (keeps log refl) reads
  looks_only_read k old (f ∷ more) new reads (between, look, rest) = looks_only_read (k + 1) between more new (between_reads between look) rest
    where
      between_reads : (l : Option (List Call)) → LogsLook (slice_index sizes k) k opening old l f → IfSome l OnlyReads
      between_reads None look = tt
      between_reads (Some log) look = look_adds (slice_index sizes k) k old (Some log) f reads look log refl

pub first_looks_only_read : (bank : BankTold) → HasLookedFirst bank → HasOnlyReads bank
first_looks_only_read bank looked = looks_only_read bank.sizes bank.opening 0 looked.before looked.looks.failed bank.log (uncalled_log looked.before looked.fresh) looked.looks.looks
