-- No word of an entry has a space or a line feed in it.
use Rattle.std.proofs.Common.{◌≡◌, ℕ, zero, suc, ◌/◌, ◌%◌, ◌<◌, ◌≤◌, ◌^◌, Bool, true, false, List, [], ◌∷◌, get_or, take, refl, arith}
use Rattle.std.specs.Prelude.{nat_le, ◌&&◌, slice_index, if◌then◌else◌}
use Rattle.std.specs.Fmt.{decimal}
use Rattle.std.specs.List.{All}
use Rattle.std.proofs.lemmas.Fmt.{decimal_is_IsNumeral}
use Rattle.std.proofs.lemmas.Str.Parse.{digit_at}
use Rattle.std.proofs.lemmas.Bool.Decides.{nat_tests, Decides-below_and}
use Rattle.std.proofs.lemmas.List.Elements.{All-from_get_or, All-head, All-tail, All-take}
use Rattle.std.proofs.lemmas.List.Sums.{list_all-from_AllPass}
use Rattle.std.proofs.lemmas.Bool.{and_from}
use Rattle.hex.specs.Hex.{encode_with, encode_lower, lower_digits}
use Rattle.array_model.specs.declared.journal.Event.{Event}
use Rattle.array_model.specs.declared.journal.Event.TheVariants.{Begin, End, Spare, Ready, Pass, Point, PassEnd, Active, Clean, Unblock, Posted, Applied, Declined, Submit, Pending, Ack, Idle, Fault, Kill, Takeover}
use Rattle.array_model.specs.declared.journal.Answer.{Answer}
use Rattle.array_model.specs.declared.journal.Answer.TheVariants.{Done, Value, Past, Failed, NoSpare}
use Rattle.array_model.specs.declared.journal.DeclinedKind.{DeclinedKind}
use Rattle.array_model.specs.declared.journal.DeclinedKind.TheVariants.{Stale, NotSpare, Full, Large, NoVolume, Name, NoDisk, Member, Small, NotFailed, InUse}
use Rattle.journal_text.specs.Lines.{kind_word, answer_words, event_words, is_repeated}
use Rattle.array_model.specs.Fits.{IsByte, FitsAnswer, FitsEvent}
use Rattle.journal_text.proofs.Cut.{IsPlain, ArePlain}

at_least : (b : ℕ) → 48 ≤ b → nat_le 48 b ≡ true
at_least b le = grind (arith, nat_tests)

pub decimal_plain : (n : ℕ) → n < 2 ^ 64 → IsPlain (decimal n)
decimal_plain n lt =
    let digits = (decimal_is_IsNumeral n lt).0.1 in
    list_all-from_AllPass (λ b. nat_le 48 b) (decimal n)
    (All-from_get_or (λ b. nat_le 48 b ≡ true) (decimal n) 0 (λ i in'. at_least (get_or (decimal n) i 0) (digit_at (decimal n) i digits in').0))

abbrev digits_plain : ℕ → Bool
digits_plain zero = true
digits_plain (suc n) = nat_le 48 (slice_index lower_digits n) && digits_plain n

digit_plain : (d : ℕ) → d < 16 → nat_le 48 (slice_index lower_digits d) ≡ true
digit_plain =
    (Decides-below_and (λ k. nat_le 48 (slice_index lower_digits k)) (λ k. nat_le 48 (slice_index lower_digits k) ≡ true) digits_plain
    (λ k. (λ h. h, λ h. h)) refl (λ n. refl) 16).0 refl

hex_plain : (bytes : List ℕ) → All IsByte bytes → IsPlain (encode_lower bytes)
unfolding encode_with
hex_plain [] all = refl
hex_plain (b ∷ bytes) all =
    let small : b < 256 = All-head IsByte b bytes all in
    and_from _ _ (digit_plain (b / 16) (omega arith))
    (and_from _ _ (digit_plain (b % 16) (omega arith)) (hex_plain bytes (All-tail IsByte b bytes all)))

chosen_plain : (b : Bool) (bytes : List ℕ) → All IsByte bytes → IsPlain (encode_lower (if b then take 8 bytes else bytes))
chosen_plain true bytes all = hex_plain (take 8 bytes) (All-take IsByte 8 bytes all)
chosen_plain false bytes all = hex_plain bytes all

kind_plain : (kind : DeclinedKind) → IsPlain (kind_word kind)
kind_plain Stale = refl
kind_plain NotSpare = refl
kind_plain Full = refl
kind_plain Large = refl
kind_plain NoVolume = refl
kind_plain Name = refl
kind_plain NoDisk = refl
kind_plain Member = refl
kind_plain Small = refl
kind_plain NotFailed = refl
kind_plain InUse = refl

answer_plain : (answer : Answer) → FitsAnswer answer → ArePlain (answer_words answer)
answer_plain Done fits = (refl, tt)
answer_plain (Value s) fits = (refl, (chosen_plain (is_repeated s.0) s.0 fits.1, tt))
answer_plain Past fits = (refl, tt)
answer_plain Failed fits = (refl, tt)
answer_plain NoSpare fits = (refl, tt)

pub event_plain : (e : Event) → FitsEvent e → ArePlain (event_words e)
event_plain (Begin g) fits = (refl, (decimal_plain g (omega arith), tt))
event_plain (End g) fits = (refl, (decimal_plain g (omega arith), tt))
event_plain (Spare d) fits = (refl, (decimal_plain d.0 (omega arith), tt))
event_plain (Ready v) fits = (refl, (decimal_plain v.0 (omega arith), tt))
event_plain (Pass v row) fits = (refl, (decimal_plain v.0 (omega arith), (decimal_plain row fits.1, tt)))
event_plain (Point v unit) fits = (refl, (decimal_plain v.0 (omega arith), (decimal_plain unit fits.1, tt)))
event_plain (PassEnd v) fits = (refl, (decimal_plain v.0 (omega arith), tt))
event_plain (Active v) fits = (refl, (decimal_plain v.0 (omega arith), tt))
event_plain (Clean v) fits = (refl, (decimal_plain v.0 (omega arith), tt))
event_plain (Unblock d) fits = (refl, (decimal_plain d.0 (omega arith), tt))
event_plain (Posted n) fits = (refl, (decimal_plain n fits, tt))
event_plain (Applied n) fits = (refl, (decimal_plain n fits, tt))
event_plain (Declined n kind) fits = (refl, (decimal_plain n fits, (kind_plain kind, tt)))
event_plain (Submit i) fits = (refl, (decimal_plain i fits, tt))
event_plain (Pending v) fits = (refl, (decimal_plain v.0 (omega arith), tt))
event_plain (Ack i answer) fits = (refl, (decimal_plain i fits.0, answer_plain answer fits.1))
event_plain (Idle v) fits = (refl, (decimal_plain v.0 (omega arith), tt))
event_plain (Fault d) fits = (refl, (decimal_plain d.0 (omega arith), tt))
event_plain Kill fits = (refl, tt)
event_plain Takeover fits = (refl, tt)
