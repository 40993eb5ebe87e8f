-- The law of wrong words: what is found wrong with a line is its first wrong word. Source: this project's own.
use Rattle.std.specs.Prelude.{◌≡◌, ◌≢◌, Bool, List, [], ◌∷◌, ◌++◌, Ok, Err, ℕ, ◌⊎◌}
use Rattle.run_script.specs.declared.order.Order.{Order}
use Rattle.run_script.specs.declared.fault.LineKind.{LineKind}
use Rattle.run_script.specs.declared.fault.LineKind.TheVariants.{Missing}
use Rattle.run_script.specs.Forms.{Form, reading}
use Rattle.run_script.specs.Grammar.{line_form}

-- some line of the form begins with these words
pub record Begins (form : Form) (front : List (List ℕ)) : Type 0 where
  pub more : List (List ℕ)
  pub order : Order
  pub whole : reading form (front ++ more) ≡ Ok order

-- some line begins with the words before this one, and none with this one too
pub record HasWrongWord (form : Form) (words : List (List ℕ)) : Type 0 where
  pub front : List (List ℕ)
  pub word : List ℕ
  pub rest : List (List ℕ)
  pub stands : words ≡ front ++ word ∷ rest
  pub begins : Begins form front
  pub wrong : Begins form (front ++ word ∷ []) → ⊥

-- with kind `missing` the words begin a line, and with any other kind one of them is the first wrong one
abbrev pub FirstWrongWord : Type 0
FirstWrongWord = (turns : Bool) (words : List (List ℕ)) (kind : LineKind) → reading (line_form turns) words ≡ Err kind
    → ((kind ≡ Missing) × Begins (line_form turns) words) ⊎ ((kind ≢ Missing) × HasWrongWord (line_form turns) words)
