-- The text of a journal: a line for each entry, of its stamp and its words. Source: this project's own.
use Rattle.std.specs.Prelude.{ℕ, Bool, if◌then◌else◌, List, [], ◌∷◌, ◌++◌, take, codes}
use Rattle.std.specs.List.{flat_map, repeat}
use Rattle.std.specs.Str.{bytes_eq}
use Rattle.std.specs.Fmt.{decimal}
use Rattle.hex.specs.Hex.{encode_lower}
use Rattle.units.specs.declared.disk.Sector.{Sector}
use Rattle.array_model.specs.declared.journal.Entry.{Entry}
use Rattle.array_model.specs.declared.journal.Event.{Event}
use Rattle.array_model.specs.declared.journal.Event.TheVariants.{Begin, End, Spare, Ready, Pass, Point, PassEnd, Active, Clean, Unblock, Posted, Applied, Declined, Submit, Pending, Ack, Idle, Fault, Kill, Takeover}
use Rattle.array_model.specs.declared.journal.Answer.{Answer}
use Rattle.array_model.specs.declared.journal.Answer.TheVariants.{Done, Value, Past, Failed, NoSpare}
use Rattle.array_model.specs.declared.journal.DeclinedKind.{DeclinedKind}
use Rattle.array_model.specs.declared.journal.DeclinedKind.TheVariants.{Stale, NotSpare, Full, Large, NoVolume, Name, NoDisk, Member, Small, NotFailed, InUse}

abbrev pub kind_word : DeclinedKind → List ℕ
kind_word Stale = codes "stale"
kind_word NotSpare = codes "notspare"
kind_word Full = codes "full"
kind_word Large = codes "large"
kind_word NoVolume = codes "novolume"
kind_word Name = codes "name"
kind_word NoDisk = codes "nodisk"
kind_word Member = codes "member"
kind_word Small = codes "small"
kind_word NotFailed = codes "notfailed"
kind_word InUse = codes "inuse"

-- a sector is 64 times its first eight bytes
abbrev pub is_repeated : List ℕ → Bool
is_repeated bytes = bytes_eq bytes (repeat 64 (take 8 bytes))

-- what was read, in hexadecimal digits: the first eight bytes where the sector repeats them, else the whole sector
abbrev pub value_word : Sector → List ℕ
value_word s = encode_lower (if is_repeated s.0 then take 8 s.0 else s.0)

abbrev pub answer_words : Answer → List (List ℕ)
answer_words Done = codes "done" ∷ []
answer_words (Value s) = codes "value" ∷ value_word s ∷ []
answer_words Past = codes "past" ∷ []
answer_words Failed = codes "failed" ∷ []
answer_words NoSpare = codes "nospare" ∷ []

abbrev pub event_words : Event → List (List ℕ)
event_words (Begin g) = codes "begin" ∷ decimal g ∷ []
event_words (End g) = codes "end" ∷ decimal g ∷ []
event_words (Spare d) = codes "spare" ∷ decimal d.0 ∷ []
event_words (Ready v) = codes "ready" ∷ decimal v.0 ∷ []
event_words (Pass v row) = codes "pass" ∷ decimal v.0 ∷ decimal row ∷ []
event_words (Point v unit) = codes "point" ∷ decimal v.0 ∷ decimal unit ∷ []
event_words (PassEnd v) = codes "passend" ∷ decimal v.0 ∷ []
event_words (Active v) = codes "active" ∷ decimal v.0 ∷ []
event_words (Clean v) = codes "clean" ∷ decimal v.0 ∷ []
event_words (Unblock d) = codes "unblock" ∷ decimal d.0 ∷ []
event_words (Posted n) = codes "posted" ∷ decimal n ∷ []
event_words (Applied n) = codes "applied" ∷ decimal n ∷ []
event_words (Declined n kind) = codes "declined" ∷ decimal n ∷ kind_word kind ∷ []
event_words (Submit i) = codes "submit" ∷ decimal i ∷ []
event_words (Pending v) = codes "pending" ∷ decimal v.0 ∷ []
event_words (Ack i answer) = codes "ack" ∷ decimal i ∷ answer_words answer
event_words (Idle v) = codes "idle" ∷ decimal v.0 ∷ []
event_words (Fault d) = codes "fault" ∷ decimal d.0 ∷ []
event_words Kill = codes "kill" ∷ []
event_words Takeover = codes "takeover" ∷ []

-- words in a line, each with a space before it
abbrev pub spaced : List ℕ → List ℕ
spaced word = 0x20 ∷ word

abbrev pub spelled : List (List ℕ) → List ℕ
spelled words = flat_map spaced words

-- the stamp and the words, and a line feed
abbrev pub entry_line : Entry → List ℕ
entry_line e = decimal e.stamp ++ (spelled (event_words e.event) ++ 0x0a ∷ [])

-- the text of a journal
abbrev pub journal_text : List Entry → List ℕ
journal_text entries = flat_map entry_line entries
