-- What a longer journal says of contents, of sectors that are still unsure, and of submits.
use Rattle.std.proofs.Common.{◌≡◌, ℕ, ◌≤◌, ◌==◌, ◌&&◌, ◌||◌, not, Bool, true, false, List, [], ◌∷◌, ◌++◌, refl, ap, ◌∙◌, arith, Option, Some, None, cond, ◌⊎◌, inl, inr}
use Rattle.std.specs.Prelude.{⊤}
use Rattle.std.proofs.lemmas.Bool.Decides.{nat_tests}
use Rattle.units.specs.declared.disk.Sector.{Sector}
use Rattle.array_model.specs.declared.journal.Entry.{Entry}
use Rattle.array_model.specs.declared.journal.Event.{Event}
use Rattle.array_model.specs.declared.journal.Event.TheVariants.{Submit, Ack}
use Rattle.array_model.specs.declared.journal.Answer.{Answer}
use Rattle.array_model.specs.declared.script.Op.{Op}
use Rattle.array_model.specs.declared.script.OpKind.{OpKind}
use Rattle.array_model.specs.declared.script.OpKind.TheVariants.{Write as OpWrite, Read as OpRead, Whole as OpWhole}
use Rattle.array_model.specs.Script.{VolumeWrite, kind_at, write_at, write_in, is_at}
use Rattle.array_model.specs.Events.{is_submit, is_done}
use Rattle.array_model.specs.Moments.{AllBelow}
use Rattle.array_model.specs.Content.{left_by, content_at, content_from, content, is_write_done, is_rewritten, is_still_unsure}
use Rattle.array_model.specs.AnswerLaw.{submitted_from}
use Rattle.array_model.proofs.Journals.{has-append}
use Rattle.array_machine.specs.Setting.{Setting}
use Rattle.array_machine.specs.Operations.{volume_of, volume_in, sector_in, value_in, value_at, is_write, is_write_kind}
use Rattle.array_machine.specs.Machine.{entered}
use Rattle.array_values.specs.Copies.{sector_at}

-- LONGER JOURNALS

content_parts : (ops : List Op) (v s : ℕ) (x : Sector) (xs ys : List Entry)
    → content_from ops v s x (xs ++ ys) ≡ content_from ops v s (content_from ops v s x xs) ys
content_parts ops v s x [] ys = refl
content_parts ops v s x (e ∷ es) ys = content_parts ops v s (content_at ops v s x e.event) es ys

submitted_parts : (i found : ℕ) (xs ys : List Entry)
    → submitted_from i found (xs ++ ys) ≡ submitted_from i (submitted_from i found xs) ys
submitted_parts i found [] ys = refl
submitted_parts i found (e ∷ es) ys = submitted_parts i (cond (is_submit i e.event) e.stamp found) es ys

-- a submit has the stamp of an entry
pub submitted_below : (n i found : ℕ) (xs : List Entry) → found ≤ n → AllBelow n xs → submitted_from i found xs ≤ n
submitted_below n i found [] le below = le
submitted_below n i found (e ∷ es) le below =
    at (is_submit i e.event) (λ k most. submitted_below n i k es most below.1)
  where
    at : (b : Bool) → ((k : ℕ) → k ≤ n → submitted_from i k es ≤ n) → submitted_from i (cond b e.stamp found) es ≤ n
    at true rest = rest e.stamp below.0
    at false rest = rest found le

-- an entry that answers nothing
abbrev pub IsNoAnswer : Option Event → Type 0
IsNoAnswer None = ⊤
IsNoAnswer (Some (Ack i answer)) = ⊥
IsNoAnswer (Some _) = ⊤

-- an entry that submits another operation, or none
abbrev pub SubmitsOther : ℕ → Option Event → Type 0
SubmitsOther i None = ⊤
SubmitsOther i (Some (Submit j)) = j ≡ i → ⊥
SubmitsOther i (Some _) = ⊤

module _ (S : Setting) (journal : List Entry) (n : ℕ) where
  abbrev pub content_of : List Entry → (v s : ℕ) → Sector
  content_of es v s = content S.start S.asked.ops es v s

  abbrev pub unsure_in : List Entry → (v s : ℕ) → Bool
  unsure_in es v s = is_still_unsure S.start S.asked.ops es v s

  -- an entry that answers nothing changes neither
  pub content_stays : (e : Option Event) → IsNoAnswer e → (v s : ℕ)
      → content_of (journal ++ entered n e) v s ≡ content_of journal v s
  content_stays e calm v s =
      content_parts S.asked.ops v s (S.start.content v s) journal (entered n e) ∙ at e calm
    where
      at : (e : Option Event) → IsNoAnswer e
          → content_from S.asked.ops v s (content_of journal v s) (entered n e) ≡ content_of journal v s
      at None calm = refl
      at (Some (Ack i answer)) calm = absurd calm
      at (Some _) calm = refl

  rewritten_parts : (e : Option Event) → (v s : ℕ) → unsure_in (journal ++ entered n e) v s
      ≡ (S.start.unsure v s && not (is_rewritten S.asked.ops journal v s || is_rewritten S.asked.ops (entered n e) v s))
  rewritten_parts e v s =
      ap (λ b. S.start.unsure v s && not b) (has-append (is_write_done S.asked.ops v s) journal (entered n e))

  pub unsure_stays : (e : Option Event) → IsNoAnswer e → (v s : ℕ)
      → unsure_in (journal ++ entered n e) v s ≡ unsure_in journal v s
  unsure_stays e calm v s = rewritten_parts e v s
      ∙ ap (λ b. S.start.unsure v s && not (is_rewritten S.asked.ops journal v s || b)) (at e calm) ∙ none_more
    where
      at : (e : Option Event) → IsNoAnswer e → is_rewritten S.asked.ops (entered n e) v s ≡ false
      at None calm = refl
      at (Some (Ack i answer)) calm = absurd calm
      at (Some _) calm = refl

      or_false : (b : Bool) → (b || false) ≡ b
      or_false true = refl
      or_false false = refl

      none_more : (S.start.unsure v s && not (is_rewritten S.asked.ops journal v s || false)) ≡ unsure_in journal v s
      none_more = ap (λ b. S.start.unsure v s && not b) (or_false (is_rewritten S.asked.ops journal v s))

  pub submitted_stays : (i : ℕ) (e : Option Event) → SubmitsOther i e
      → submitted_from i 0 (journal ++ entered n e) ≡ submitted_from i 0 journal
  submitted_stays i e other = submitted_parts i 0 journal (entered n e) ∙ at e other
    where
      at : (e : Option Event) → SubmitsOther i e
          → submitted_from i (submitted_from i 0 journal) (entered n e) ≡ submitted_from i 0 journal
      at None other = refl
      at (Some (Submit j)) other =
          let calm : (j == i) ≡ false = grind (arith, nat_tests, other) in
          ap (λ b. cond b n (submitted_from i 0 journal)) calm
      at (Some _) other = refl

  -- ANSWERS

  pub write_is : (i : ℕ) → is_write S i ≡ true
      → write_at S.asked.ops i ≡ Some (record { volume = volume_of S i; sector = sector_at S i; value = value_at S i })
  write_is i is = at (kind_at S.asked.ops i) is
    where
      at : (kind : Option OpKind) → is_write_kind kind ≡ true → write_in kind
          ≡ Some (record { volume = volume_in kind; sector = sector_in kind; value = value_in kind })
      at None is = absurd cc
      at (Some (OpWrite v s value)) is = refl
      at (Some (OpRead v s)) is = absurd cc
      at (Some (OpWhole v)) is = absurd cc

  no_write : (i : ℕ) → is_write S i ≡ false → write_at S.asked.ops i ≡ None
  no_write i is = at (kind_at S.asked.ops i) is
    where
      at : (kind : Option OpKind) → is_write_kind kind ≡ false → write_in kind ≡ None
      at None is = refl
      at (Some (OpWrite v s value)) is = absurd cc
      at (Some (OpRead v s)) is = refl
      at (Some (OpWhole v)) is = refl

  -- operation i names the sector
  abbrev pub names_it : (i v s : ℕ) → Bool
  names_it i v s = (volume_of S i == v) && (sector_at S i == s)

  -- nothing was written, or it failed: contents stay, and what is unsure
  pub content_unwritten : (i : ℕ) (answer : Answer) → (is_write S i ≡ false) ⊎ (is_done answer ≡ false) → (v s : ℕ)
      → content_of (journal ++ entered n (Some (Ack i answer))) v s ≡ content_of journal v s
  content_unwritten i answer calm v s =
      content_parts S.asked.ops v s (S.start.content v s) journal (entered n (Some (Ack i answer))) ∙ at calm
    where
      x : Sector
      x = content_of journal v s

      same : (b : Bool) → cond b x x ≡ x
      same true = refl
      same false = refl

      at : (is_write S i ≡ false) ⊎ (is_done answer ≡ false)
          → cond (is_done answer) (left_by v s x (write_at S.asked.ops i)) x ≡ x
      at (inl none) = ap (λ w. cond (is_done answer) (left_by v s x w) x) (no_write i none) ∙ same (is_done answer)
      at (inr undone) = ap (λ b. cond b (left_by v s x (write_at S.asked.ops i)) x) undone

  and_no : (b : Bool) → (b && false) ≡ false
  and_no true = refl
  and_no false = refl

  unsure_by : (i : ℕ) (answer : Answer) (v s : ℕ) → (is_done answer && is_at v s (write_at S.asked.ops i)) ≡ false
      → unsure_in (journal ++ entered n (Some (Ack i answer))) v s ≡ unsure_in journal v s
  unsure_by i answer v s calm = rewritten_parts (Some (Ack i answer)) v s
      ∙ ap (λ b. S.start.unsure v s && not (is_rewritten S.asked.ops journal v s || b)) here
      ∙ ap (λ b. S.start.unsure v s && not b) (or_false (is_rewritten S.asked.ops journal v s))
    where
      or_false : (b : Bool) → (b || false) ≡ b
      or_false true = refl
      or_false false = refl

      one : (b : Bool) → b ≡ false → (b || false) ≡ false
      one true h = absurd cc
      one false h = refl

      here : is_rewritten S.asked.ops (entered n (Some (Ack i answer))) v s ≡ false
      here = one (is_done answer && is_at v s (write_at S.asked.ops i)) calm

  pub unsure_unwritten : (i : ℕ) (answer : Answer) → (is_write S i ≡ false) ⊎ (is_done answer ≡ false) → (v s : ℕ)
      → unsure_in (journal ++ entered n (Some (Ack i answer))) v s ≡ unsure_in journal v s
  unsure_unwritten i answer (inl none) v s =
      unsure_by i answer v s (ap (λ w. is_done answer && is_at v s w) (no_write i none) ∙ and_no (is_done answer))
  unsure_unwritten i answer (inr undone) v s =
      unsure_by i answer v s (ap (λ b. b && is_at v s (write_at S.asked.ops i)) undone)

  module _ (i : ℕ) (answer : Answer) (writes : is_write S i ≡ true) (done : is_done answer ≡ true) (v s : ℕ) where
    target : VolumeWrite
    target = record { volume = volume_of S i; sector = sector_at S i; value = value_at S i }

    abbrev now : List Entry
    now = journal ++ entered n (Some (Ack i answer))

    content_by : content_of now v s ≡ cond (names_it i v s) (value_at S i) (content_of journal v s)
    content_by = content_parts S.asked.ops v s (S.start.content v s) journal (entered n (Some (Ack i answer)))
        ∙ ap (λ b. cond b (left_by v s (content_of journal v s) (write_at S.asked.ops i)) (content_of journal v s)) done
        ∙ ap (left_by v s (content_of journal v s)) (write_is i writes)

    -- a write that is done is the content of its sector, which isn't unsure any more
    pub content_written : names_it i v s ≡ true → content_of now v s ≡ value_at S i
    content_written it = content_by ∙ ap (λ b. cond b (value_at S i) (content_of journal v s)) it

    pub content_beside : names_it i v s ≡ false → content_of now v s ≡ content_of journal v s
    content_beside it = content_by ∙ ap (λ b. cond b (value_at S i) (content_of journal v s)) it

    pub unsure_beside : names_it i v s ≡ false → unsure_in now v s ≡ unsure_in journal v s
    unsure_beside it =
        unsure_by i answer v s
        (ap (λ b. b && is_at v s (write_at S.asked.ops i)) done ∙ ap (is_at v s) (write_is i writes) ∙ it)
