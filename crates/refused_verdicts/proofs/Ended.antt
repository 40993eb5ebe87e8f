-- Arrivals of which none is late end as an assembly.
use Rattle.std.proofs.Common.{◌≡◌, ◌<◌, ◌≤◌, ◌+◌, ◌-◌, ℕ, zero, suc, Bool, List, [], ◌∷◌, ◌++◌, inl, inr, drop, length, map, take, refl, sym, ◌∙◌, ap, subst, arith}
use Rattle.std.specs.Prelude.{Contains}
use Rattle.std.specs.List.{flat_map}
use Rattle.std.proofs.lemmas.Bool.{cases_lt}
use Rattle.std.proofs.lemmas.List.{append-nil, length-drop, nil_from_length, take_all}
use Rattle.std.proofs.lemmas.Option.{slice_get_within}
use Rattle.std.proofs.lemmas.List.Elements.{Contains-append_left, Contains-append_right}
use Rattle.units.specs.declared.disk.Serial.{Serial}
use Rattle.container.specs.declared.seen.Seen.{Seen}
use Rattle.container.specs.declared.verdict.Verdict.{Verdict}
use Rattle.container.specs.Verdicts.{IsVerdict}
use Rattle.container.proofs.Lists.{contains_map}
use Rattle.image_outside.specs.Told.{BankTold}
use Rattle.image_assemble.specs.Endings.{Assembles}
use Rattle.image_incremental.specs.Endings.{Arrives}
use Rattle.image_incremental.specs.Lines.{all_lines, arrival_lines, late_line}
use Rattle.verdict_lines_law.specs.Words.{words_in}
use Rattle.verdict_text.specs.Lines.{verdict_lines}
use Rattle.refused_verdicts.specs.Arrivals.{all_say, arrivals_say, late_says}
use Rattle.refused_verdicts.specs.Wrong.{HasLine}
use Rattle.refused_verdicts.proofs.Arrived.{ends_so}
use Rattle.refused_verdicts.proofs.ArrivedLines.{arrivals_read}

first_of_drop : (n : ℕ) (xs : List Serial) → n < length xs → (t : Serial) × Contains (drop n xs) t
first_of_drop n [] below = absurd (omega (arith, below))
first_of_drop zero (x ∷ xs) below = (x, (0, omega arith, refl))
first_of_drop (suc n) (x ∷ xs) below = first_of_drop n xs (omega (arith, below))

-- a disk behind those that arrived is said to come too late
late_there : (serials : List Serial) (verdicts : List Verdict) (lines : List ℕ) → lines ≡ all_lines serials verdicts → length verdicts < length serials → (t : Serial) × HasLine lines (late_says t)
late_there serials verdicts lines laid below =
    let t = first_of_drop (length verdicts) serials below in
    let late = contains_map late_says (drop (length verdicts) serials) t.0 t.1 in
    let said = Contains-append_right (arrivals_say serials 0 verdicts) (map late_says (drop (length verdicts) serials)) (late_says t.0) late in
    (t.0, subst (λ (l : List (List (List ℕ))). Contains l (late_says t.0)) (sym (ap words_in laid ∙ arrivals_read serials verdicts)) (Contains-append_left (all_say serials verdicts) (([] ∷ []) ∷ []) (late_says t.0) said))

none_late : (serials : List Serial) (verdicts : List Verdict) → length serials ≤ length verdicts → all_lines serials verdicts ≡ arrival_lines serials 0 verdicts
none_late serials verdicts past =
    let count = length-drop (length verdicts) serials in
    let none : drop (length verdicts) serials ≡ [] = nil_from_length (drop (length verdicts) serials) (omega (arith, count, past)) in
    ap (λ (l : List Serial). arrival_lines serials 0 verdicts ++ flat_map late_line l) none ∙ append-nil (arrival_lines serials 0 verdicts)

module _ (bank : BankTold) (run : Bool) (lines : List ℕ) (status : ℕ) (does : Arrives run bank lines status) (all : length does.seen ≡ length bank.serials) where
  last_says : IsVerdict does.seen run does.last
  last_says =
      let within = slice_get_within does.verdicts (length does.verdicts - 1) does.last does.last_is in
      let count = does.are.count in
      subst (λ (l : List Seen). IsVerdict l run does.last) (take_all (length does.verdicts - 1 + 1) does.seen (omega (arith, count, within))) (does.are.each (length does.verdicts - 1) does.last does.last_is)

  the_end : (front said : List ℕ) × (lines ≡ front ++ said) × Assembles run bank said status
  the_end =
      let count = does.are.count in
      let end = ends_so bank.serials 0 does.verdicts does.last does.last_is in
      let whole : take (0 + length does.verdicts) bank.serials ≡ bank.serials = take_all (0 + length does.verdicts) bank.serials (omega (arith, count, all)) in (
        end.0,
        verdict_lines bank.serials bank.serials does.last,
        does.lines_are ∙ none_late bank.serials does.verdicts (omega (arith, count, all)) ∙ end.1 ∙ ap (λ (l : List Serial). end.0 ++ verdict_lines bank.serials l does.last) whole,
        record {
          before = does.before;
          fresh = does.fresh;
          seen = does.seen;
          sees = record { count = all; each = does.sees.each; looks = does.sees.looks };
          verdict = does.last;
          says = last_says;
          lines_are = refl;
          status_is = does.status_is;
        },
      )

pub ends_as_assembled : (run : Bool) (bank : BankTold) (lines : List ℕ) (status : ℕ) → Arrives run bank lines status → ((s : Serial) → HasLine lines (late_says s) → ⊥)
    → (front said : List ℕ) × (lines ≡ front ++ said) × Assembles run bank said status
ends_as_assembled run bank lines status does none = elim (cases_lt (length does.verdicts) (length bank.serials)) [
  | inl fewer ↦ let late = late_there bank.serials does.verdicts lines does.lines_are fewer in absurd (none late.0 late.1)
  | inr past ↦
      let count = does.are.count in
      let few = does.sees.few in
      the_end bank run lines status does (omega (arith, past, count, few))
]
