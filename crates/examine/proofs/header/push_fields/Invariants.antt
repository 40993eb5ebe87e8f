use Rattle.std.proofs.Common.{◌≡◌, ◌++◌, map, take}
use Rattle.std.specs.List.{flat_map}
use Rattle.imsm_text.specs.Text.{word_text}
use Rattle.examine.specs.Lines.{field_line}
use Rattle.examine.proofs.header.push_fields.Given as goal

abbrev pub invariant-loop-name : goal.invariant-loop-name
invariant-loop-name l = l.out.items ≡ l.initial.out.items ++ flat_map field_line (map (λ f. (f.0.now, word_text f.1)) (take l.name-index l.fields))
