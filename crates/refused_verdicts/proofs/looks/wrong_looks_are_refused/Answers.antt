use Rattle.std.proofs.Common.{◌≡◌, ◌≤◌, ◌+◌, ℕ, Bool, List, sym, ◌∙◌, subst, arith}
use Rattle.std.specs.Prelude.{Contains, slice_index}
use Rattle.std.proofs.lemmas.List.{length-map}
use Rattle.units.specs.declared.disk.Sector.{Sector}
use Rattle.device_log.specs.Log.{Call, Read, IsReadCall}
use Rattle.container.specs.declared.seen.Seen.{Seen}
use Rattle.mpb_store.specs.Banks.{is_unread}
use Rattle.assembly.specs.Seen.{are_unread, found_of}
use Rattle.image_outside.specs.Told.{BankTold}
use Rattle.image_assemble.specs.Endings.{Assembles}
use Rattle.refused_verdicts.specs.Told.{Tells, block_places}
use Rattle.refused_verdicts.proofs.Assembled.{assembled}
use Rattle.refused_verdicts.proofs.Later.{later_at}
use Rattle.refused_verdicts.proofs.Looked.{LooksAre}
use Rattle.refused_verdicts.proofs.Sorted.{Differ, looks_differ, looks_later, looks_place, some_look}
use Rattle.refused_verdicts.proofs.looks.wrong_looks_are_refused.Goals as goal

module _ (opening : List (List Sector)) (log : List Call) (bank : BankTold) (lines : List ℕ) (run : Bool) (status : ℕ) (tells : Tells opening log bank) (does : Assembles run bank lines status) where
  the_calls : LooksAre bank.sizes opening 0 (are_unread does.seen) log
  the_calls = (assembled opening log bank tells run lines status does).calls

pub returns-clause-changed : goal.returns-clause-changed
returns-clause-changed c opening log bank lines run status call tells there changes does =
    let is = looks_place bank.sizes opening 0 (are_unread does.seen) log (the_calls opening log bank lines run status tells does) call there in
    changes (subst IsReadCall (sym is.2) tt)

pub returns-clause-elsewhere : goal.returns-clause-elsewhere
returns-clause-elsewhere c opening log bank lines run status place call tells there reads outside does =
    let is = looks_place bank.sizes opening 0 (are_unread does.seen) log (the_calls opening log bank lines run status tells does) call there in
    let same : is.0 ≡ place = (let both : Read is.0 ≡ Read place = sym is.2 ∙ reads in cc both) in
    outside (subst (λ (p : ℕ). Contains (block_places opening bank.sizes call.disk) p) same is.1)

pub returns-clause-twice : goal.returns-clause-twice
returns-clause-twice c opening log bank lines run status i j one other tells below here there disk what does =
    later_at Differ log i j one other (looks_differ bank.sizes opening 0 (are_unread does.seen) log (the_calls opening log bank lines run status tells does)) below here there disk what

pub returns-clause-turned : goal.returns-clause-turned
returns-clause-turned c opening log bank lines run status i j one other tells below here there lower does =
    let order = later_at (λ (c e : Call). c.disk ≤ e.disk) log i j one other (looks_later bank.sizes opening 0 (are_unread does.seen) log (the_calls opening log bank lines run status tells does)) below here there in
    omega (arith, order, lower)

pub returns-clause-left_out : goal.returns-clause-left_out
returns-clause-left_out c opening log bank lines run status k tells below room none does =
    let count = length-map does.seen (λ (s : Seen). is_unread (found_of s.holds)) in
    let many = does.sees.count in
    let look = some_look bank.sizes opening 0 (are_unread does.seen) log (the_calls opening log bank lines run status tells does) k (omega (arith, count, many, below)) (subst (λ (d : ℕ). 18 ≤ slice_index bank.sizes d) (let e : k ≡ 0 + k = omega arith in e) room) in
    none look.0 look.1 (look.2 ∙ (let e : 0 + k ≡ k = omega arith in e))
