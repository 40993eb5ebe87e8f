-- What stands at a row of a member, from call to call; and what the journal says of the row.
use Rattle.std.proofs.Common.{◌≡◌, ℕ, zero, suc, ◌+◌, ◌-◌, ◌<◌, ◌≤◌, ◌==◌, ◌||◌, ◌&&◌, not, Bool, true, false, if◌then◌else◌, nat_lt, List, [], ◌∷◌, ◌++◌, length, take, refl, ap, sym, ◌∙◌, arith, Option, Some, None, slice_get}
use Rattle.std.specs.List.{AllByRecursion}
use Rattle.std.proofs.lemmas.Bool.Decides.{nat_tests}
use Rattle.std.proofs.lemmas.List.{take-append-le, take_all}
use Rattle.units.specs.declared.disk.Sector.{Sector}
use Rattle.units.specs.declared.volume.Level.TheVariants.{One}
use Rattle.units.specs.Places.{anchor_place}
use Rattle.device_log.specs.Log.{Call, What, Read, Write, Sync}
use Rattle.device_log.specs.Cells.{Cell, cell_at}
use Rattle.array_model.specs.declared.script.Op.{Op}
use Rattle.array_model.specs.declared.script.OpKind.{OpKind}
use Rattle.array_model.specs.declared.script.OpKind.TheVariants.{Write as OpWrite, Read as OpRead, Whole as OpWhole}
use Rattle.array_model.specs.declared.journal.Entry.{Entry}
use Rattle.array_model.specs.declared.journal.Event.TheVariants.{Ack}
use Rattle.array_model.specs.declared.journal.Answer.TheVariants.{Done}
use Rattle.array_model.specs.Script.{kind_at, write_at, write_in, sector_of}
use Rattle.array_model.specs.Placement.{Placement, placement_by}
use Rattle.array_model.specs.Events.{has as has_event, is_submit}
use Rattle.array_model.specs.Content.{content, content_from, content_at, is_rewritten, is_still_unsure, is_write_done}
use Rattle.array_model.specs.AnswerLaw.{IsGiven, submitted_from}
use Rattle.array_model.proofs.Journals.{has-append}
use Rattle.stage_machine.specs.Setting.{Setting, has_disk}
use Rattle.stage_machine.specs.Opens.{AsksFirst, IsFirstVolume}
use Rattle.stage_machine.specs.Jobs.{the_shape, placement_at, row_at, row_in, value_at, value_in, sector_in, is_write, is_write_kind}
use Rattle.stage_machine.proofs.Targets.{disk, call, on_disk, off_disk}
use Rattle.stage_machine.proofs.Clients.{kind_first}

-- the sector that stands at a row of a disk
abbrev pub at_row : Setting → ℕ → ℕ
at_row S row = (the_shape S).pba + row

abbrev pub stood : Setting → List Call → ℕ → ℕ → Sector
stood S log d row = ((disk S log d).cells (at_row S row)).stood

-- a call that doesn't write this place
pub data Spares (p : ℕ) : What → Type 0 where
  spares_read : (place : ℕ) → Spares p (Read place)
  spares_sync : Spares p Sync
  spares_write : (place stored : ℕ) (s : Sector) → (place == p) ≡ false → Spares p (Write place (s ∷ []) stored)

cell_spared : (p : ℕ) (c : Cell) (what : What) (went : Bool) → Spares p what → (cell_at p c what went).stood ≡ c.stood
cell_spared p c _ went (spares_read place) = refl
cell_spared p c _ true spares_sync = refl
cell_spared p c _ false spares_sync = refl
cell_spared p c _ went (spares_write place stored s apart) = rw apart refl

pub stood_spared : (S : Setting) (log : List Call) (e d row : ℕ) (what : What) (went : Bool) → ((e ≡ d) → Spares (at_row S row) what) → stood S (log ++ call e what went ∷ []) d row ≡ stood S log d row
stood_spared S log e d row what went spares = at (e == d) refl
  where
    at : (b : Bool) → (e == d) ≡ b → stood S (log ++ call e what went ∷ []) d row ≡ stood S log d row
    at true is =
        let equal : e ≡ d = grind (arith, nat_tests, is) in
        ap (λ k. (k.cells (at_row S row)).stood) (on_disk S log e d what went is) ∙ cell_spared (at_row S row) ((disk S log d).cells (at_row S row)) what went (spares equal)
    at false is = ap (λ k. (k.cells (at_row S row)).stood) (off_disk S log e d what went is)

-- a row's sector that is written
pub stood_put : (S : Setting) (log : List Call) (e row : ℕ) (s : Sector) → stood S (log ++ call e (Write (at_row S row) (s ∷ []) 1) true ∷ []) e row ≡ s
stood_put S log e row s =
    let here : (e == e) ≡ true = grind (arith, nat_tests) in
    let place : (at_row S row == at_row S row) ≡ true = grind (arith, nat_tests) in
    ap (λ k. (k.cells (at_row S row)).stood) (on_disk S log e e (Write (at_row S row) (s ∷ []) 1) true here) ∙ rw place refl

pub other_row : (S : Setting) (a b : ℕ) → (a == b) ≡ false → (at_row S a == at_row S b) ≡ false
other_row S a b apart = grind (arith, nat_tests, apart)

-- an anchor isn't a row
pub anchor_spares : (S : Setting) → IsFirstVolume S → (d row stored : ℕ) (s : Sector) → row < (the_shape S).size → has_disk d S.targets ≡ true → Spares (at_row S row) (Write (anchor_place (S.start.disks.sectors d)) (s ∷ []) stored)
anchor_spares S volume d row stored s below target =
    let room = volume.room d target in
    let rows = volume.rows in
    let apart : (S.start.disks.sectors d - 2 == (the_shape S).pba + row) ≡ false = grind (arith, nat_tests, room, rows, below) in
    spares_write _ stored s apart

-- WHAT THE JOURNAL SAYS OF A ROW

abbrev pub con : Setting → List Entry → ℕ → Sector
con S journal row = content S.start S.asked.ops journal 0 row

abbrev pub unsure : Setting → List Entry → ℕ → Bool
unsure S journal row = is_still_unsure S.start S.asked.ops journal 0 row

content-append : (ops : List Op) (v s : ℕ) (x : Sector) (xs ys : List Entry) → content_from ops v s x (xs ++ ys) ≡ content_from ops v s (content_from ops v s x xs) ys
content-append ops v s x [] ys = refl
content-append ops v s x (e ∷ xs) ys = content-append ops v s (content_at ops v s x e.event) xs ys

-- entries that acknowledge no write as done
pub record Plain (S : Setting) (new : List Entry) : Type 0 where
  pub content_same : (row : ℕ) (x : Sector) → content_from S.asked.ops 0 row x new ≡ x
  pub none_done : (row : ℕ) → is_rewritten S.asked.ops new 0 row ≡ false

pub plain_con : (S : Setting) (journal new : List Entry) → Plain S new → (row : ℕ) → con S (journal ++ new) row ≡ con S journal row
plain_con S journal new plain row = content-append S.asked.ops 0 row (S.start.content 0 row) journal new ∙ plain.content_same row _

or_false : (a b : Bool) → b ≡ false → (a || b) ≡ a
or_false true b h = refl
or_false false b h = h

pub plain_unsure : (S : Setting) (journal new : List Entry) → Plain S new → (row : ℕ) → unsure S (journal ++ new) row ≡ unsure S journal row
plain_unsure S journal new plain row =
    let same : is_rewritten S.asked.ops (journal ++ new) 0 row ≡ is_rewritten S.asked.ops journal 0 row =
    has-append (is_write_done S.asked.ops 0 row) journal new ∙ or_false _ _ (plain.none_done row) in
    ap (λ b. S.start.unsure 0 row && not b) same

-- OPERATIONS

-- the row of a place is the sector
pub row_is : (S : Setting) → (the_shape S).level ≡ Some One → (i : ℕ) (place : Placement) → placement_at S i ≡ Some place → row_at S i ≡ sector_in (kind_at S.asked.ops i)
row_is S one i place is =
    let by_level : placement_by (Some One) (the_shape S) (sector_in (kind_at S.asked.ops i)) ≡ Some place = ap (λ l. placement_by l (the_shape S) (sector_in (kind_at S.asked.ops i))) (sym one) ∙ is in
    at (nat_lt (sector_in (kind_at S.asked.ops i)) (the_shape S).size) by_level
  where
    at : (b : Bool) → (if b then Some (record { main = 0; other = 1; row = sector_in (kind_at S.asked.ops i) }) else None) ≡ Some place → row_at S i ≡ sector_in (kind_at S.asked.ops i)
    at true here = ap row_in is ∙ sym (ap row_in here)
    at false here = absurd cc

-- a write's target
pub write_is : (S : Setting) → AsksFirst S → IsFirstVolume S → (i : ℕ) (place : Placement) → placement_at S i ≡ Some place → is_write S i ≡ true
    → write_at S.asked.ops i ≡ Some (record { volume = 0; sector = row_at S i; value = value_at S i })
write_is S asks volume i place placed w = at (kind_at S.asked.ops i) refl w
  where
    at : (kind : Option OpKind) → kind_at S.asked.ops i ≡ kind → is_write_kind kind ≡ true → write_in kind ≡ Some (record { volume = 0; sector = row_at S i; value = value_at S i })
    at None is w = absurd cc
    at (Some (OpWrite v s value)) is w =
        let zero_is : v.0 ≡ 0 = kind_first S.asked.ops i (OpWrite v s value) asks.volumes is in
        let row : row_at S i ≡ s = row_is S volume.level i place placed ∙ ap sector_in is in
        let brings : value_at S i ≡ sector_of value = ap value_in is in
        rw (zero_is, row, brings) refl
    at (Some (OpRead v s)) is w = absurd cc
    at (Some (OpWhole v)) is w = absurd cc

-- a write that is done brings its value to its row, and makes it sure; other rows stay as they are
module _ (S : Setting) (asks : AsksFirst S) (volume : IsFirstVolume S) (i : ℕ) (place : Placement) (placed : placement_at S i ≡ Some place) (w : is_write S i ≡ true) (n : ℕ) (journal : List Entry) where
  abbrev done : List Entry
  done = record { stamp = n; event = Ack i Done } ∷ []

  pub done_here : con S (journal ++ done) (row_at S i) ≡ value_at S i
  done_here =
      let same : (row_at S i == row_at S i) ≡ true = grind (arith, nat_tests) in
      content-append S.asked.ops 0 (row_at S i) (S.start.content 0 (row_at S i)) journal done
      ∙ rw (write_is S asks volume i place placed w, same) refl

  pub done_there : (row : ℕ) → (row_at S i == row) ≡ false → con S (journal ++ done) row ≡ con S journal row
  done_there row apart =
      content-append S.asked.ops 0 row (S.start.content 0 row) journal done
      ∙ rw (write_is S asks volume i place placed w, apart) refl

  pub sure_there : (row : ℕ) → (row_at S i == row) ≡ false → unsure S (journal ++ done) row ≡ unsure S journal row
  sure_there row apart =
      let other : is_rewritten S.asked.ops done 0 row ≡ false = rw (write_is S asks volume i place placed w, apart) refl in
      let same : is_rewritten S.asked.ops (journal ++ done) 0 row ≡ is_rewritten S.asked.ops journal 0 row =
      has-append (is_write_done S.asked.ops 0 row) journal done ∙ or_false _ _ other in
      ap (λ b. S.start.unsure 0 row && not b) same

-- WHAT A READ GAVE

pub slice_get-append : (log more : List Call) (k : ℕ) → k < length log → slice_get (log ++ more) k ≡ slice_get log k
slice_get-append [] more k lt = absurd (omega arith)
slice_get-append (x ∷ xs) more zero lt = refl
slice_get-append (x ∷ xs) more (suc k) lt = slice_get-append xs more k (omega arith)

pub given_more : (S : Setting) (log : List Call) (x : Call) (v row since stamp later : ℕ) (y : Sector) → stamp ≤ length log → stamp ≤ later → IsGiven S.start log v row since stamp y → IsGiven S.start (log ++ x ∷ []) v row since later y
given_more S log x v row since stamp later y short le given =
    let before : given.before < length log = let until = given.until in omega (arith, until, short) in
    record {
      before = given.before;
      disk = given.disk;
      place = given.place;
      from = given.from;
      until = let until = given.until in omega (arith, until, le);
      at_row = given.at_row;
      call = slice_get-append log (x ∷ []) given.before before ∙ given.call;
      gives = given.gives ∙ ap (λ calls. ((disk S calls given.disk).cells given.place).stood) (sym (take-append-le given.before log (x ∷ []) (omega (arith, before))));
    }

pub last_call : (log : List Call) (x : Call) → slice_get (log ++ x ∷ []) (length log) ≡ Some x
last_call [] x = refl
last_call (y ∷ log) x = last_call log x

pub given_now : (S : Setting) (log : List Call) (d row since later : ℕ) (y : Sector) → since ≤ length log → length log < later → y ≡ stood S log d row
    → IsGiven S.start (log ++ call d (Read (at_row S row)) true ∷ []) 0 row since later y
given_now S log d row since later y le lt is = record {
  before = length log;
  disk = d;
  place = at_row S row;
  from = le;
  until = lt;
  at_row = refl;
  call = last_call log (call d (Read (at_row S row)) true);
  gives = is ∙ ap (λ calls. ((disk S calls d).cells (at_row S row)).stood) (sym (take-append-le (length log) log (call d (Read (at_row S row)) true ∷ []) (omega arith) ∙ whole));
}
  where
    whole : take (length log) log ≡ log
    whole = take_all (length log) log (omega arith)

pub submitted-append : (i found : ℕ) (xs ys : List Entry) → submitted_from i found (xs ++ ys) ≡ submitted_from i (submitted_from i found xs) ys
submitted-append i found [] ys = refl
submitted-append i found (x ∷ xs) ys = submitted-append i (if is_submit i x.event then x.stamp else found) xs ys

pub submitted_same : (i found : ℕ) (new : List Entry) → has_event (is_submit i) new ≡ false → submitted_from i found new ≡ found
submitted_same i found [] none = refl
submitted_same i found (x ∷ xs) none = at (is_submit i x.event) refl (has_event (is_submit i) xs) refl (submitted_same i found xs) none
  where
    at : (a : Bool) → is_submit i x.event ≡ a → (b : Bool) → has_event (is_submit i) xs ≡ b → (has_event (is_submit i) xs ≡ false → submitted_from i found xs ≡ found)
        → (a || b) ≡ false → submitted_from i found (x ∷ xs) ≡ found
    at true is b more rest none = absurd cc
    at false is true more rest none = absurd cc
    at false is false more rest none = rw is (rest more)

pub submitted_most : (i found c : ℕ) (xs : List Entry) → found ≤ c → AllByRecursion (λ (e : Entry). e.stamp ≤ c) xs → submitted_from i found xs ≤ c
submitted_most i found c [] le below = le
submitted_most i found c (x ∷ xs) le below = submitted_most i (if is_submit i x.event then x.stamp else found) c xs (at (is_submit i x.event)) below.1
  where
    at : (b : Bool) → (if b then x.stamp else found) ≤ c
    at true = below.0
    at false = le
