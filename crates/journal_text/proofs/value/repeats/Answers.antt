use Rattle.std.proofs.Common.{◌∙◌, ◌-◌, List, ℕ, ap, take, drop, length}
use Rattle.std.proofs.lemmas.List.{take_rest}
use Rattle.std.specs.Str.{bytes_eq}
use Rattle.journal_text.proofs.Repeated.{shifted}
use Rattle.journal_text.proofs.value.repeats.Goals as goal

pub returns : goal.returns
returns c =
    let xs : List ℕ = c.args.sector.now in
    c.eq.ensures
    ∙ (ap (λ ys. bytes_eq ys (take (length xs - 8) xs)) (take_rest xs 8)
    ∙ (ap (λ n. bytes_eq (drop 8 xs) (take (n - 8) xs)) c.requires ∙ shifted xs c.requires))
