-- The words of an entry tell it: what reads them gives the entry back.
use Rattle.std.proofs.Common.{◌≡◌, ℕ, ◌<◌, ◌^◌, Bool, true, false, List, [], length, take, drop, refl, sym, ap, ◌∙◌, inl, inr, arith, lit<}
use Rattle.std.specs.Prelude.{◌==◌, if◌then◌else◌, slice_index_or, codes}
use Rattle.std.specs.List.{All, repeat}
use Rattle.std.specs.Str.{bytes_eq}
use Rattle.std.specs.Str.Parse.{digits_value}
use Rattle.std.specs.Result.{result_unwrap_or}
use Rattle.std.specs.Fmt.{decimal}
use Rattle.std.proofs.lemmas.Fmt.{decimal_is_IsNumeral}
use Rattle.std.proofs.lemmas.List.{length-take-le, get_or_past}
use Rattle.std.proofs.lemmas.Bool.{cases_lt}
use Rattle.std.proofs.lemmas.List.Elements.{All-take, All-get_or}
use Rattle.std.proofs.lemmas.Slice.Eq.{bytes_eq-Decides}
use Rattle.hex.specs.Hex.{IsBytes, decode_of, encode_lower, lower_digits}
use Rattle.hex.proofs.HexLemmas.{decode_of-encode_lower, length-encode_with}
use Rattle.units.specs.declared.disk.DiskNo.{DiskNo}
use Rattle.units.specs.declared.volume.VolNo.{VolNo}
use Rattle.array_model.specs.declared.journal.Event.{Event}
use Rattle.array_model.specs.declared.journal.Event.TheVariants.{Begin, End, Spare, Ready, Pass, Point, PassEnd, Active, Clean, Unblock, Posted, Applied, Declined, Submit, Pending, Ack, Idle, Fault, Kill, Takeover}
use Rattle.array_model.specs.declared.journal.Answer.{Answer}
use Rattle.array_model.specs.declared.journal.Answer.TheVariants.{Done, Value, Past, Failed, NoSpare}
use Rattle.array_model.specs.declared.journal.DeclinedKind.{DeclinedKind}
use Rattle.array_model.specs.declared.journal.DeclinedKind.TheVariants.{Stale, NotSpare, Full, Large, NoVolume, Name, NoDisk, Member, Small, NotFailed, InUse}
use Rattle.journal_text.specs.Lines.{kind_word, answer_words, event_words, is_repeated}
use Rattle.array_model.specs.Fits.{IsByte, FitsAnswer, FitsEvent}

-- NUMBERS AND VALUES

abbrev pub number_in : List ℕ → ℕ
number_in word = digits_value 10 word

pub number_told : (n : ℕ) → n < 2 ^ 64 → number_in (decimal n) ≡ n
number_told n lt = (decimal_is_IsNumeral n lt).1

abbrev bytes_in : List ℕ → List ℕ
bytes_in word = result_unwrap_or (decode_of word) []

abbrev whole_in : List ℕ → List ℕ
whole_in word = if length word == 16 then repeat 64 (bytes_in word) else bytes_in word

are_bytes : (bytes : List ℕ) → All IsByte bytes → IsBytes bytes
are_bytes bytes all i =
    elim (cases_lt i (length bytes)) [
      | inl in' ↦ All-get_or IsByte bytes i 0 in' all
      | inr past ↦ rw (get_or_past bytes i 0 past) (lit< tt)
    ]

bytes_told : (bytes : List ℕ) → All IsByte bytes → bytes_in (encode_lower bytes) ≡ bytes
bytes_told bytes all = ap (λ r. result_unwrap_or r []) (decode_of-encode_lower bytes (are_bytes bytes all))

repeated : (n : ℕ) (bytes front : List ℕ) → n ≡ 16 → bytes ≡ front → (if n == 16 then repeat 64 bytes else bytes) ≡ repeat 64 front
repeated n bytes front e f = rw (e, f) refl

as_it_is : (n : ℕ) (bytes whole : List ℕ) → n ≡ 1024 → bytes ≡ whole → (if n == 16 then repeat 64 bytes else bytes) ≡ whole
as_it_is n bytes whole e f = rw e f

whole_told : (b : Bool) (bytes : List ℕ) → is_repeated bytes ≡ b → length bytes ≡ 512 → All IsByte bytes
    → whole_in (encode_lower (if b then take 8 bytes else bytes)) ≡ bytes
whole_told true bytes is len all =
    let front = take 8 bytes in
    repeated _ _ front (length-encode_with lower_digits front ∙ omega (arith, length-take-le 8 bytes (omega arith)))
    (bytes_told front (All-take IsByte 8 bytes all))
    ∙ sym ((bytes_eq-Decides bytes (repeat 64 front)).0 is)
whole_told false bytes is len all =
    as_it_is _ _ bytes (length-encode_with lower_digits bytes ∙ omega arith) (bytes_told bytes all)

-- ANSWERS AND KINDS

abbrev kind_in : List ℕ → DeclinedKind
kind_in word =
    if bytes_eq word (codes "stale") then Stale
    else if bytes_eq word (codes "notspare") then NotSpare
    else if bytes_eq word (codes "full") then Full
    else if bytes_eq word (codes "large") then Large
    else if bytes_eq word (codes "novolume") then NoVolume
    else if bytes_eq word (codes "name") then Name
    else if bytes_eq word (codes "nodisk") then NoDisk
    else if bytes_eq word (codes "member") then Member
    else if bytes_eq word (codes "small") then Small
    else if bytes_eq word (codes "notfailed") then NotFailed
    else InUse

kind_told : (kind : DeclinedKind) → kind_in (kind_word kind) ≡ kind
kind_told Stale = refl
kind_told NotSpare = refl
kind_told Full = refl
kind_told Large = refl
kind_told NoVolume = refl
kind_told Name = refl
kind_told NoDisk = refl
kind_told Member = refl
kind_told Small = refl
kind_told NotFailed = refl
kind_told InUse = refl

abbrev word_at : ℕ → List (List ℕ) → List ℕ
word_at k words = slice_index_or words k []

abbrev answer_in : List (List ℕ) → Answer
answer_in words =
    let word = word_at 0 words in
    if bytes_eq word (codes "done") then Done
    else if bytes_eq word (codes "value") then Value (record { 0 = whole_in (word_at 1 words) })
    else if bytes_eq word (codes "past") then Past
    else if bytes_eq word (codes "failed") then Failed
    else NoSpare

answer_told : (answer : Answer) → FitsAnswer answer → answer_in (answer_words answer) ≡ answer
answer_told Done fits = refl
answer_told (Value s) fits =
    ap (λ (bytes : List ℕ). Value (record { 0 = bytes })) (whole_told (is_repeated s.0) s.0 refl fits.0 fits.1)
answer_told Past fits = refl
answer_told Failed fits = refl
answer_told NoSpare fits = refl

-- EVENTS

abbrev disk_in : List (List ℕ) → DiskNo
disk_in words = record { 0 = number_in (word_at 1 words) }

abbrev volume_in : List (List ℕ) → VolNo
volume_in words = record { 0 = number_in (word_at 1 words) }

abbrev pub event_in : List (List ℕ) → Event
event_in words =
    let word = word_at 0 words in
    if bytes_eq word (codes "begin") then Begin (number_in (word_at 1 words))
    else if bytes_eq word (codes "end") then End (number_in (word_at 1 words))
    else if bytes_eq word (codes "spare") then Spare (disk_in words)
    else if bytes_eq word (codes "ready") then Ready (volume_in words)
    else if bytes_eq word (codes "pass") then Pass (volume_in words) (number_in (word_at 2 words))
    else if bytes_eq word (codes "point") then Point (volume_in words) (number_in (word_at 2 words))
    else if bytes_eq word (codes "passend") then PassEnd (volume_in words)
    else if bytes_eq word (codes "active") then Active (volume_in words)
    else if bytes_eq word (codes "clean") then Clean (volume_in words)
    else if bytes_eq word (codes "unblock") then Unblock (disk_in words)
    else if bytes_eq word (codes "posted") then Posted (number_in (word_at 1 words))
    else if bytes_eq word (codes "applied") then Applied (number_in (word_at 1 words))
    else if bytes_eq word (codes "declined") then Declined (number_in (word_at 1 words)) (kind_in (word_at 2 words))
    else if bytes_eq word (codes "submit") then Submit (number_in (word_at 1 words))
    else if bytes_eq word (codes "pending") then Pending (volume_in words)
    else if bytes_eq word (codes "ack") then Ack (number_in (word_at 1 words)) (answer_in (drop 2 words))
    else if bytes_eq word (codes "idle") then Idle (volume_in words)
    else if bytes_eq word (codes "fault") then Fault (disk_in words)
    else if bytes_eq word (codes "kill") then Kill
    else Takeover

on_volume : (f : VolNo → Event) (v : VolNo) → IsByte v.0 → f (record { 0 = number_in (decimal v.0) }) ≡ f v
on_volume f v fits = ap (λ (n : ℕ). f (record { 0 = n })) (number_told v.0 (omega arith))

on_disk : (f : DiskNo → Event) (d : DiskNo) → IsByte d.0 → f (record { 0 = number_in (decimal d.0) }) ≡ f d
on_disk f d fits = ap (λ (n : ℕ). f (record { 0 = n })) (number_told d.0 (omega arith))

pub event_told : (e : Event) → FitsEvent e → event_in (event_words e) ≡ e
event_told (Begin g) fits = ap Begin (number_told g (omega arith))
event_told (End g) fits = ap End (number_told g (omega arith))
event_told (Spare d) fits = on_disk Spare d fits
event_told (Ready v) fits = on_volume Ready v fits
event_told (Pass v row) fits =
    on_volume (λ w. Pass w (number_in (decimal row))) v fits.0 ∙ ap (λ n. Pass v n) (number_told row fits.1)
event_told (Point v unit) fits =
    on_volume (λ w. Point w (number_in (decimal unit))) v fits.0 ∙ ap (λ n. Point v n) (number_told unit fits.1)
event_told (PassEnd v) fits = on_volume PassEnd v fits
event_told (Active v) fits = on_volume Active v fits
event_told (Clean v) fits = on_volume Clean v fits
event_told (Unblock d) fits = on_disk Unblock d fits
event_told (Posted n) fits = ap Posted (number_told n fits)
event_told (Applied n) fits = ap Applied (number_told n fits)
event_told (Declined n kind) fits =
    ap (λ m. Declined m (kind_in (kind_word kind))) (number_told n fits) ∙ ap (λ k. Declined n k) (kind_told kind)
event_told (Submit i) fits = ap Submit (number_told i fits)
event_told (Pending v) fits = on_volume Pending v fits
event_told (Ack i answer) fits =
    ap (λ m. Ack m (answer_in (answer_words answer))) (number_told i fits.0) ∙ ap (λ a. Ack i a) (answer_told answer fits.1)
event_told (Idle v) fits = on_volume Idle v fits
event_told (Fault d) fits = on_disk Fault d fits
event_told Kill fits = refl
event_told Takeover fits = refl
