-- A bank at rest whose block is edited is at rest again.
use Rattle.std.proofs.Common.{List, refl, sym, ◌∙◌}
use Rattle.array_base.specs.Premises.{MayBeBook}
use Rattle.array_base.proofs.NextBlock.{book_edited}
use Rattle.array_machine.specs.Setting.{Facts, Edit, Setting}
use Rattle.array_openings.specs.Banks.{Bank, setting_of_bank, IsAtRest}
use Rattle.array_openings.specs.NewBanks.{edited_bank, CanBeEdited}
use Rattle.array_openings.proofs.Meets.{meets, form_is}
use Rattle.array_openings.proofs.Rests.{over, whole}

-- the block with edits may be the book
pub edited_book : (k : Bank) (f : Facts) (es : List Edit) → (rest : IsAtRest k) → CanBeEdited k f es
    → MayBeBook (setting_of_bank k) (meets (setting_of_bank k) (over k rest)).edits.formed (edited_bank k f es).block
edited_book k f es rest can =
    let S : Setting = setting_of_bank k in
    book_edited S (meets S (over k rest)) f k.block es can.apt can.roomy (record {
      form = form_is S (over k rest) k.block ∙ rest.formed;
      container = rest.container;
      shape = λ v. refl;
      whole = whole k rest;
    })

pub edited_rests : (k : Bank) (f : Facts) (es : List Edit) → IsAtRest k → CanBeEdited k f es
    → IsAtRest (edited_bank k f es)
edited_rests k f es rest can =
    let S : Setting = setting_of_bank k in
    let book : MayBeBook S (meets S (over k rest)).edits.formed (edited_bank k f es).block =
    edited_book k f es rest can in
    record {
      typed = rest.typed;
      apart = rest.apart;
      few = rest.few;
      formed = sym (form_is S (over k rest) (edited_bank k f es).block) ∙ book.form;
      container = book.container;
      whole = λ d below expected. book.whole d expected;
      member = can.member;
      expected = can.expected;
      spares = rest.spares;
    }
