-- What a reading finds wrong is the first wrong word.
use Rattle.std.proofs.Common.{◌≡◌, ◌≢◌, ℕ, List, [], ◌∷◌, ◌++◌, Bool, true, false, refl, sym, ◌∙◌, ap, Some, None, Option, Ok, Err, Result, ◌⊎◌, inl, inr}
use Rattle.std.specs.Prelude.{codes, if◌then◌else◌, ⊤}
use Rattle.std.specs.Str.{bytes_eq}
use Rattle.units.specs.declared.volume.VolNo.{VolNo}
use Rattle.array_model.specs.declared.script.OpKind.TheVariants.{Write, Read}
use Rattle.array_model.specs.declared.script.Turn.{Turn}
use Rattle.array_model.specs.declared.script.Turn.TheVariants.{Monitor, Manager, Sync, Quiet}
use Rattle.run_script.specs.declared.order.Order.{Order}
use Rattle.run_script.specs.declared.order.Order.TheVariants.{Operation, Turns, ClientTurns}
use Rattle.run_script.specs.declared.fault.LineKind.{LineKind}
use Rattle.run_script.specs.declared.fault.LineKind.TheVariants.{Missing, Number, Value, Word, Turns as Turned}
use Rattle.run_script.specs.FirstWrong.{Begins, HasWrongWord, FirstWrongWord}
use Rattle.run_script.specs.Forms.{Form, Ends, Keyword, Numeral, Digits, Wrong, passing, reading}
use Rattle.run_script.specs.Grammar.{client_form, count, number, client_turns_form, line_form, operation_form, quiet_form, read_form, sync_form, turn_form, turns_form, write_form}
use Rattle.run_script.specs.Numbers.{number_of, value_of}

abbrev Verdict : Form → List (List ℕ) → LineKind → Type 0
Verdict form words kind = ((kind ≡ Missing) × Begins form words) ⊎ ((kind ≢ Missing) × HasWrongWord form words)

-- nothing is in the form
abbrev IsDead : Form → Type 0
IsDead form = (words : List (List ℕ)) (order : Order) → reading form words ≡ Ok order → ⊥

-- where nothing is in the form, a word is said to be missing only where there is none
abbrev Nothing : Form → List (List ℕ) → LineKind → Type 0
Nothing form words kind = IsDead form × (kind ≡ Missing → words ≡ [])

-- where nothing is in the form, no word is said to be missing at its end
abbrev Goes : Form → Type 0
Goes form = IsDead form → ◌≡◌ {A = Result Order LineKind} (reading form []) (Err Missing) → ⊥

-- each word is refused by the form
abbrev Refuses : Form → Type 0
Refuses form = IsDead form × ((w : List ℕ) (ws : List (List ℕ)) → ◌≡◌ {A = Result Order LineKind} (reading form (w ∷ ws)) (Err Missing) → ⊥)

-- each part of the form that goes on has a line, and each choice of words has one or none
abbrev Alive : Form → Type 0
Alive (Ends order) = ⊤
Alive (Keyword word next other) = (Refuses (Keyword word next other) ⊎ Begins (Keyword word next other) []) × Goes next × Alive next × Alive other
Alive (Numeral test next) = Begins (Numeral test next) [] × ((n : ℕ) → test n ≡ true → Goes (next n) × Alive (next n))
Alive (Digits next) = Begins (Digits next) [] × ((x : ℕ) → Goes (next x) × Alive (next x))
Alive (Wrong kind) = kind ≢ Missing

no_line : (kind : LineKind) (order : Order) → Err kind ≡ Ok order → ⊥
no_line kind order is = cc

wrong_here : (form : Form) (w : List ℕ) (ws : List (List ℕ)) → Begins form [] → ((rest : List (List ℕ)) (order : Order) → reading form (w ∷ rest) ≡ Ok order → ⊥)
    → HasWrongWord form (w ∷ ws)
wrong_here form w ws begins none = record { front = []; word = w; rest = ws; stands = refl; begins = begins; wrong = λ b. none b.more b.order b.whole }

at_end : (form : Form) (words : List (List ℕ)) (kind : LineKind) → ◌≡◌ {A = Result Order LineKind} (reading form words) (Err kind) → kind ≡ Missing → words ≡ []
    → ◌≡◌ {A = Result Order LineKind} (reading form []) (Err Missing)
at_end form words kind is missing none = sym (ap (λ (l : List (List ℕ)). reading form l) none) ∙ is ∙ rw missing refl

no_word : (w : List ℕ) (ws : List (List ℕ)) → w ∷ ws ≡ [] → ⊥
no_word w ws is = cc

-- a word was read, and the reading goes on by another form
stepped : (form next : Form) (w : List ℕ) (ws : List (List ℕ)) (kind : LineKind) → ((rest : List (List ℕ)) → reading form (w ∷ rest) ≡ reading next rest)
    → Begins form [] → Goes next → ◌≡◌ {A = Result Order LineKind} (reading next ws) (Err kind) → Nothing next ws kind ⊎ Verdict next ws kind → Verdict form (w ∷ ws) kind
stepped form next w ws kind same begins goes read (inl nothing) =
    inr (λ missing. goes nothing.0 (at_end next ws kind read missing (nothing.1 missing)), wrong_here form w ws begins (λ rest order is. nothing.0 rest order (sym (same rest) ∙ is)))
stepped form next w ws kind same begins goes read (inr (inl (missing, b))) =
    inl (missing, record { more = b.more; order = b.order; whole = same (ws ++ b.more) ∙ b.whole })
stepped form next w ws kind same begins goes read (inr (inr (other, h))) = inr (
  other,
  record {
    front = w ∷ h.front;
    word = h.word;
    rest = h.rest;
    stands = ap (λ (l : List (List ℕ)). w ∷ l) h.stands;
    begins = record { more = h.begins.more; order = h.begins.order; whole = same (h.front ++ h.begins.more) ∙ h.begins.whole };
    wrong = λ b. h.wrong (record { more = b.more; order = b.order; whole = sym (same _) ∙ b.whole });
  },
)

-- another form has the word still to read
passed_on : (form other : Form) (w : List ℕ) (ws : List (List ℕ)) (kind : LineKind) → ((rest : List (List ℕ)) → reading form (w ∷ rest) ≡ reading other (w ∷ rest))
    → Begins form [] → Nothing other (w ∷ ws) kind ⊎ Verdict other (w ∷ ws) kind → Verdict form (w ∷ ws) kind
passed_on form other w ws kind same begins (inl nothing) =
    inr (λ missing. no_word w ws (nothing.1 missing), wrong_here form w ws begins (λ rest order is. nothing.0 (w ∷ rest) order (sym (same rest) ∙ is)))
passed_on form other w ws kind same begins (inr (inl (missing, b))) =
    inl (missing, record { more = b.more; order = b.order; whole = same (ws ++ b.more) ∙ b.whole })
passed_on form other w ws kind same begins (inr (inr (others, h))) = inr (others, at h.front h.stands h.begins h.wrong) where
  at : (front : List (List ℕ)) → w ∷ ws ≡ front ++ h.word ∷ h.rest → Begins other front → (Begins other (front ++ h.word ∷ []) → ⊥) → HasWrongWord form (w ∷ ws)
  at [] stands b none =
      let first : h.word ≡ w = cc in
      wrong_here form w ws begins (λ rest order is. none (record { more = rest; order = order; whole = ap (λ (v : List ℕ). reading other (v ∷ rest)) first ∙ sym (same rest) ∙ is }))
  at (v ∷ vs) stands b none =
      let first : v ≡ w = cc in
      record {
        front = v ∷ vs;
        word = h.word;
        rest = h.rest;
        stands = stands;
        begins = record {
          more = b.more;
          order = b.order;
          whole = ap (λ (u : List ℕ). reading form (u ∷ (vs ++ b.more))) first ∙ same (vs ++ b.more)
              ∙ ap (λ (u : List ℕ). reading other (u ∷ (vs ++ b.more))) (sym first) ∙ b.whole;
        };
        wrong = λ x. none (record {
          more = x.more;
          order = x.order;
          whole = ap (λ (u : List ℕ). reading other (u ∷ ((vs ++ h.word ∷ []) ++ x.more))) first
              ∙ sym (same _) ∙ ap (λ (u : List ℕ). reading form (u ∷ ((vs ++ h.word ∷ []) ++ x.more))) (sym first) ∙ x.whole;
        });
      }

missing_is : (kind : LineKind) → ◌≡◌ {A = Result Order LineKind} (Err Missing) (Err kind) → kind ≡ Missing
missing_is kind is = cc

another : (found kind : LineKind) → ◌≡◌ {A = Result Order LineKind} (Err found) (Err kind) → found ≢ Missing → kind ≢ Missing
another found kind is other missing = let same : found ≡ kind = cc in other (same ∙ missing)

word_there : Word ≢ Missing
word_there = λ is. cc

number_there : Number ≢ Missing
number_there = λ is. cc

value_there : Value ≢ Missing
value_there = λ is. cc

turned_there : Turned ≢ Missing
turned_there = λ is. cc

tells : (test : ℕ → Bool) (found : Option ℕ) → (passing test found ≡ None) ⊎ ((n : ℕ) × (passing test found ≡ Some n) × (test n ≡ true))
tells test None = inl refl
tells test (Some n) = at (test n) refl where
  at : (b : Bool) → test n ≡ b → (passing test (Some n) ≡ None) ⊎ ((m : ℕ) × (passing test (Some n) ≡ Some m) × (test m ≡ true))
  at true is = inr (n, rw is refl, is)
  at false is = inl (rw is refl)

keyword : (word : List ℕ) (next other : Form) (w : List ℕ) (ws : List (List ℕ)) (kind : LineKind) → Begins (Keyword word next other) [] → Goes next
    → (reading next ws ≡ Err kind → Nothing next ws kind ⊎ Verdict next ws kind) → (reading other (w ∷ ws) ≡ Err kind → Nothing other (w ∷ ws) kind ⊎ Verdict other (w ∷ ws) kind)
    → reading (Keyword word next other) (w ∷ ws) ≡ Err kind → Verdict (Keyword word next other) (w ∷ ws) kind
keyword word next other w ws kind begins goes first second is = at (bytes_eq w word) refl where
  at : (b : Bool) → bytes_eq w word ≡ b → Verdict (Keyword word next other) (w ∷ ws) kind
  at true same = let read : reading next ws ≡ Err kind = rw same at is in stepped _ next w ws kind (λ rest. rw same refl) begins goes read (first read)
  at false same = passed_on _ other w ws kind (λ rest. rw same refl) begins (second (rw same at is))

numeral : (test : ℕ → Bool) (next : ℕ → Form) (w : List ℕ) (ws : List (List ℕ)) (kind : LineKind) → Begins (Numeral test next) []
    → ((n : ℕ) → test n ≡ true → Goes (next n)) → ((n : ℕ) → test n ≡ true → reading (next n) ws ≡ Err kind → Nothing (next n) ws kind ⊎ Verdict (next n) ws kind)
    → reading (Numeral test next) (w ∷ ws) ≡ Err kind → Verdict (Numeral test next) (w ∷ ws) kind
numeral test next w ws kind begins goes each is = at (tells test (number_of w)) where
  at : (passing test (number_of w) ≡ None) ⊎ ((n : ℕ) × (passing test (number_of w) ≡ Some n) × (test n ≡ true)) → Verdict (Numeral test next) (w ∷ ws) kind
  at (inl none) = inr (another Number kind (rw none at is) number_there, wrong_here _ w ws begins (λ rest order whole. no_line Number order (rw none at whole)))
  at (inr (n, some, passes)) =
      let read : reading (next n) ws ≡ Err kind = rw some at is in stepped _ (next n) w ws kind (λ rest. rw some refl) begins (goes n passes) read (each n passes read)

digits : (next : ℕ → Form) (w : List ℕ) (ws : List (List ℕ)) (kind : LineKind) → Begins (Digits next) []
    → ((x : ℕ) → Goes (next x)) → ((x : ℕ) → reading (next x) ws ≡ Err kind → Nothing (next x) ws kind ⊎ Verdict (next x) ws kind)
    → reading (Digits next) (w ∷ ws) ≡ Err kind → Verdict (Digits next) (w ∷ ws) kind
digits next w ws kind begins goes each is = at (value_of w) refl where
  at : (found : Option ℕ) → value_of w ≡ found → Verdict (Digits next) (w ∷ ws) kind
  at None none = inr (another Value kind (rw none at is) value_there, wrong_here _ w ws begins (λ rest order whole. no_line Value order (rw none at whole)))
  at (Some x) some =
      let read : reading (next x) ws ≡ Err kind = rw some at is in stepped _ (next x) w ws kind (λ rest. rw some refl) begins (goes x) read (each x read)

if_alive : (form : Form) (w : List ℕ) (ws : List (List ℕ)) (kind : LineKind) → reading form (w ∷ ws) ≡ Err kind → Refuses form ⊎ Begins form []
    → (Begins form [] → Verdict form (w ∷ ws) kind) → Nothing form (w ∷ ws) kind ⊎ Verdict form (w ∷ ws) kind
if_alive form w ws kind is (inl refuses) found = inl (refuses.0, λ missing. absurd (refuses.1 w ws (is ∙ rw missing refl)))
if_alive form w ws kind is (inr begins) found = inr (found begins)

at_no_word : (form : Form) (kind : LineKind) → kind ≡ Missing → Refuses form ⊎ Begins form [] → Nothing form [] kind ⊎ Verdict form [] kind
at_no_word form kind missing (inl refuses) = inl (refuses.0, λ is. refl)
at_no_word form kind missing (inr begins) = inr (inl (missing, begins))

pub verdict : (form : Form) (words : List (List ℕ)) (kind : LineKind) → Alive form → reading form words ≡ Err kind → Nothing form words kind ⊎ Verdict form words kind
verdict (Ends order) [] kind alive is = absurd (no_line kind order (sym is))
verdict (Ends order) (w ∷ ws) kind alive is =
    inr (inr (another Word kind is word_there, wrong_here (Ends order) w ws (record { more = []; order = order; whole = refl }) (λ rest o whole. no_line Word o whole)))
verdict (Keyword word next other) [] kind alive is = at_no_word (Keyword word next other) kind (missing_is kind is) alive.0
verdict (Keyword word next other) (w ∷ ws) kind alive is =
    if_alive (Keyword word next other) w ws kind is alive.0
    (λ begins. keyword word next other w ws kind begins alive.1 (λ r. verdict next ws kind alive.2 r) (λ r. verdict other (w ∷ ws) kind alive.3 r) is)
verdict (Numeral test next) [] kind alive is = inr (inl (missing_is kind is, alive.0))
verdict (Numeral test next) (w ∷ ws) kind alive is =
    inr (numeral test next w ws kind alive.0 (λ n passes. (alive.1 n passes).0) (λ n passes r. verdict (next n) ws kind (alive.1 n passes).1 r) is)
verdict (Digits next) [] kind alive is = inr (inl (missing_is kind is, alive.0))
verdict (Digits next) (w ∷ ws) kind alive is =
    inr (digits next w ws kind alive.0 (λ x. (alive.1 x).0) (λ x r. verdict (next x) ws kind (alive.1 x).1 r) is)
verdict (Wrong found) words kind alive is = inl (λ rest order whole. no_line found order whole, λ missing. absurd (another found kind is alive missing))

-- EACH PART OF THE GRAMMAR HAS A LINE

abbrev zero_word : List ℕ
zero_word = codes "0"

abbrev one_word : List ℕ
one_word = codes "1"

abbrev value_word : List ℕ
value_word = codes "0000000000000000"

abbrev first_volume : VolNo
first_volume = record { 0 = 0 }

goes_on : {form : Form} → Begins form [] → Goes form
goes_on begins dead missing = dead begins.more begins.order begins.whole

ends_goes : (order : Order) → Goes (Ends order)
ends_goes order dead missing = dead [] order refl

value_begins : (client : ℕ) (v : VolNo) (sector : ℕ) → Begins (Digits (λ value. Ends (Operation client (Write v sector value)))) []
value_begins client v sector = record { more = value_word ∷ []; order = Operation client (Write v sector 0); whole = refl }

write_sector_begins : (client : ℕ) (v : VolNo) → Begins (number (λ sector. Digits (λ value. Ends (Operation client (Write v sector value))))) []
write_sector_begins client v = record { more = zero_word ∷ value_word ∷ []; order = Operation client (Write v 0 0); whole = refl }

write_begins : (client : ℕ) → Begins (write_form client) []
write_begins client = record { more = zero_word ∷ zero_word ∷ value_word ∷ []; order = Operation client (Write first_volume 0 0); whole = refl }

write_alive : (client : ℕ) → Alive (write_form client)
write_alive client = (
  write_begins client,
  λ n low. let v : VolNo = record { 0 = n } in (
    goes_on (write_sector_begins client v),
    (
      write_sector_begins client v,
      λ sector any. (
        goes_on (value_begins client v sector),
        (
          value_begins client v sector,
          λ value. (ends_goes _, tt),
        ),
      ),
    ),
  ),
)

read_sector_begins : (client : ℕ) (v : VolNo) → Begins (number (λ sector. Ends (Operation client (Read v sector)))) []
read_sector_begins client v = record { more = zero_word ∷ []; order = Operation client (Read v 0); whole = refl }

read_begins : (client : ℕ) → Begins (read_form client) []
read_begins client = record { more = zero_word ∷ zero_word ∷ []; order = Operation client (Read first_volume 0); whole = refl }

read_alive : (client : ℕ) → Alive (read_form client)
read_alive client = (
  read_begins client,
  λ n low. let v : VolNo = record { 0 = n } in (
    goes_on (read_sector_begins client v),
    (
      read_sector_begins client v,
      λ sector any. (ends_goes _, tt),
    ),
  ),
)

operation_begins : (client : ℕ) → Begins (operation_form client) []
operation_begins client = record { more = codes "read" ∷ zero_word ∷ zero_word ∷ []; order = Operation client (Read first_volume 0); whole = refl }

operation_alive : (client : ℕ) → Alive (operation_form client)
operation_alive client = (
  inr (operation_begins client),
  goes_on (write_begins client),
  write_alive client,
  (
    inr (record { more = codes "read" ∷ zero_word ∷ zero_word ∷ []; order = Operation client (Read first_volume 0); whole = refl }),
    goes_on (read_begins client),
    read_alive client,
    word_there,
  ),
)

client_begins : Begins client_form []
client_begins = record { more = zero_word ∷ codes "read" ∷ zero_word ∷ zero_word ∷ []; order = Operation 0 (Read first_volume 0); whole = refl }

client_alive : Alive client_form
client_alive = (client_begins, λ client any. (goes_on (operation_begins client), operation_alive client))

turns_begins : (turn : Turn) → Begins (turns_form turn) []
turns_begins turn = record { more = one_word ∷ []; order = Turns turn 1; whole = refl }

turns_alive : (turn : Turn) → Alive (turns_form turn)
turns_alive turn = (turns_begins turn, λ n some. (ends_goes _, tt))

sync_begins : Begins sync_form []
sync_begins = record { more = zero_word ∷ one_word ∷ []; order = Turns (Sync first_volume) 1; whole = refl }

sync_alive : Alive sync_form
sync_alive = (sync_begins, λ n low. (goes_on (turns_begins (Sync (record { 0 = n }))), turns_alive (Sync (record { 0 = n }))))

client_count_begins : (client : ℕ) → Begins (count (λ n. Ends (ClientTurns client n))) []
client_count_begins client = record { more = one_word ∷ []; order = ClientTurns client 1; whole = refl }

client_turns_begins : Begins client_turns_form []
client_turns_begins = record { more = zero_word ∷ one_word ∷ []; order = ClientTurns 0 1; whole = refl }

client_turns_alive : Alive client_turns_form
client_turns_alive = (
  client_turns_begins,
  λ client any. (goes_on (client_count_begins client), (client_count_begins client, λ n some. (ends_goes _, tt))),
)

quiet_begins : Begins quiet_form []
quiet_begins = record { more = zero_word ∷ []; order = Turns (Quiet first_volume) 1; whole = refl }

quiet_alive : Alive quiet_form
quiet_alive = (quiet_begins, λ v low. (ends_goes _, tt))

turn_begins : Begins turn_form []
turn_begins = record { more = codes "q" ∷ zero_word ∷ []; order = Turns (Quiet first_volume) 1; whole = refl }

turn_alive : Alive turn_form
turn_alive = (
  inr turn_begins,
  goes_on (turns_begins Monitor),
  turns_alive Monitor,
  (
    inr (record { more = codes "q" ∷ zero_word ∷ []; order = Turns (Quiet first_volume) 1; whole = refl }),
    goes_on (turns_begins Manager),
    turns_alive Manager,
    (
      inr (record { more = codes "q" ∷ zero_word ∷ []; order = Turns (Quiet first_volume) 1; whole = refl }),
      goes_on sync_begins,
      sync_alive,
      (
        inr (record { more = codes "q" ∷ zero_word ∷ []; order = Turns (Quiet first_volume) 1; whole = refl }),
        goes_on client_turns_begins,
        client_turns_alive,
        (
          inr (record { more = codes "q" ∷ zero_word ∷ []; order = Turns (Quiet first_volume) 1; whole = refl }),
          goes_on quiet_begins,
          quiet_alive,
          word_there,
        ),
      ),
    ),
  ),
)

missing_of : (kind : LineKind) → ◌≡◌ {A = Result Order LineKind} (Err kind) (Err Missing) → kind ≡ Missing
missing_of kind is = cc

no_choice : (b : Bool) (order : Order) → ◌≡◌ {A = Result Order LineKind} (if b then Err Turned else Err Word) (Ok order) → ⊥
no_choice true order found = no_line Turned order found
no_choice false order found = no_line Word order found

no_missing : (b : Bool) → ◌≡◌ {A = Result Order LineKind} (if b then Err Turned else Err Word) (Err Missing) → ⊥
no_missing true found = turned_there (missing_of Turned found)
no_missing false found = word_there (missing_of Word found)

no_turn : Refuses (Keyword (codes "turn") (Wrong Turned) (Wrong Word))
no_turn = (dead, refused) where
  dead : IsDead (Keyword (codes "turn") (Wrong Turned) (Wrong Word))
  dead [] order is = no_line Missing order is
  dead (w ∷ ws) order is = no_choice (bytes_eq w (codes "turn")) order is

  refused : (w : List ℕ) (ws : List (List ℕ)) → ◌≡◌ {A = Result Order LineKind} (reading (Keyword (codes "turn") (Wrong Turned) (Wrong Word)) (w ∷ ws)) (Err Missing) → ⊥
  refused w ws is = no_missing (bytes_eq w (codes "turn")) is

a_line : (turns : Bool) → Begins (line_form turns) []
a_line turns = record { more = codes "client" ∷ zero_word ∷ codes "read" ∷ zero_word ∷ zero_word ∷ []; order = Operation 0 (Read first_volume 0); whole = refl }

line_alive : (turns : Bool) → Alive (line_form turns)
line_alive true = (
  inr (a_line true),
  goes_on client_begins,
  client_alive,
  (
    inr (record { more = codes "turn" ∷ codes "q" ∷ zero_word ∷ []; order = Turns (Quiet first_volume) 1; whole = refl }),
    goes_on turn_begins,
    turn_alive,
    word_there,
  ),
)
line_alive false = (inr (a_line false), goes_on client_begins, client_alive, (inl no_turn, λ dead missing. turned_there (missing_of Turned missing), turned_there, word_there))

pub first_wrong_word : FirstWrongWord
first_wrong_word turns words kind is = at (verdict (line_form turns) words kind (line_alive turns) is) where
  at : Nothing (line_form turns) words kind ⊎ Verdict (line_form turns) words kind → Verdict (line_form turns) words kind
  at (inl nothing) = absurd (nothing.0 (a_line turns).more (a_line turns).order (a_line turns).whole)
  at (inr found) = found
