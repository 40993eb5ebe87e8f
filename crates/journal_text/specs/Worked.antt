-- The journal of one write and one read, and its text. Source: this project's own.
use Rattle.std.specs.Prelude.{ℕ, List, [], ◌∷◌, ◌++◌, codes}
use Rattle.std.specs.List.{flat_map}

-- each line ends with a line feed
abbrev pub ended : List ℕ → List ℕ
ended line = line ++ 0x0a ∷ []

abbrev pub worked_lines : List (List ℕ)
worked_lines =
    codes "0 begin 2" ∷ codes "4 end 2" ∷ codes "4 ready 0" ∷ codes "4 submit 0" ∷ codes "4 pending 0"
    ∷ codes "4 begin 3" ∷ codes "8 end 3" ∷ codes "8 active 0" ∷ codes "12 ack 0 done"
    ∷ codes "12 submit 1" ∷ codes "13 ack 1 value 1122334455667788" ∷ codes "13 idle 0" ∷ codes "13 clean 0"
    ∷ codes "13 begin 4" ∷ codes "17 end 4" ∷ []

abbrev pub worked_text : List ℕ
worked_text = flat_map ended worked_lines
