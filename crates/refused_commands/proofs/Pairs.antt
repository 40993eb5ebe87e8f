-- Two images that were opened, and the bank of them.
use Rattle.std.proofs.Common.{◌≡◌, [], ◌∷◌, Option, sym, subst}
use Rattle.std.specs.Option.{IsSomeAnd}
use Rattle.image_outside.specs.Told.{BankTold, ShelfTold}
use Rattle.image_words.specs.Words.{ImageWord, serials_named}
use Rattle.image_run.specs.Openings.{OpensAll}
use Rattle.refused_commands.specs.Wrong.{HoldsPair}

pub opens_pair : (a b : ImageWord) (before after : ShelfTold) (bank : BankTold) (P : BankTold → Type 0) → HoldsPair a b before after bank → P bank → OpensAll (a ∷ b ∷ []) before after P
opens_pair a b before after bank P holds so = record {
  paths = holds.paths;
  bank = subst (λ (h : Option BankTold). IsSomeAnd h (λ bank. (bank.serials ≡ serials_named (a ∷ b ∷ [])) × P bank)) (sym holds.held) (holds.named, so);
}
