use Rattle.std.proofs.Common.{Some, arith, rules}
use Rattle.member_bank.specs.History.{log_of}
use Rattle.member_bank.proofs.Notes.{noted, not_noted}
use Rattle.member_bank.proofs.history.History.note.Goals as goal

pub returns-then-self : goal.returns-then-self
returns-then-self c =
    noted c.self.inside.is_told c.fits-self-inside.result c.self.inside.room c.self.inside.notes.items c.push_reserved.new.self.items c.args.note
    c.self.inside.written.items c.extend_from_slice.new.self.items c.args.sectors.now c.args.self.now c.len.result c.len-2.result (search rules) c.self.view_is c.fits-self-inside.ensures c.if-self.true
    c.push_reserved.ensures.items (rw c.unwrap.ensures at c.extend_from_slice.ensures.items) (omega arith) (omega arith) c.self.invariant.4 c.requires

pub returns-else-self : goal.returns-else-self
returns-else-self c =
    not_noted c.self.inside.is_told c.fits-self-inside.result c.self.inside.room c.self.inside.notes.items c.args.note
    c.self.inside.written.items c.args.sectors.now c.args.self.now (Some (log_of c.self.inside.notes.items c.self.inside.written.items)) c.len.result c.len-2.result (search rules) c.self.view_is c.fits-self-inside.ensures c.if-self.false
    (omega arith) (omega arith) c.self.invariant.4 c.requires
