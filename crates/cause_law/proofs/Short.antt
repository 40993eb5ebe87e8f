-- A journal is short: its entries are of nine kinds, and each kind comes only so often.
use Rattle.std.proofs.Common.{◌≡◌, ℕ, ◌+◌, ◌*◌, ◌≤◌, ◌==◌, Bool, true, false, List, [], ◌∷◌, length, refl, ap, arith}
use Rattle.array_model.specs.declared.script.Op.{Op}
use Rattle.array_model.specs.declared.journal.Entry.{Entry}
use Rattle.array_model.specs.declared.journal.Event.{Event}
use Rattle.array_model.specs.declared.journal.Event.TheVariants.{Begin, End, Ready, Submit, Pending, Active, Ack, Idle, Clean}
use Rattle.array_model.specs.Script.{is_write_in}
use Rattle.array_model.specs.Events.{count, is_begin, is_end, is_ready, is_any_ready, is_pending, is_any_pending, is_active, is_idle, is_clean, is_any_clean, is_submit_in}
use Rattle.array_model.specs.Counts.{enough_for, enough, IsShort}
use Rattle.array_model.specs.Renewal.{FitsGeneration}
use Rattle.array_model.proofs.Steps.{number, count-cons, is_any_step, steps_most}
use Rattle.stage_machine.specs.Setting.{Setting, Renews}
use Rattle.stage_machine.specs.Opens.{AsksFirst, StandsOnAll}
use Rattle.stage_machine.specs.Machine.{World, Reached}
use Rattle.stage_machine.proofs.Ours.{IsOurs, AreOurs}
use Rattle.journal_law.proofs.Form.{Kept, kept_reached}
use Rattle.answer_law.proofs.Order.{in_order}

-- NINE KINDS

abbrev kind_sum : Event → ℕ
kind_sum e =
    number (is_begin e) + number (is_end e) + number (is_ready 0 e) + number (is_pending 0 e) + number (is_active 0 e)
    + number (is_idle 0 e) + number (is_clean 0 e) + number (is_any_step false e) + number (is_any_step true e)

first_volume : (v : ℕ) → v ≡ 0 → number (v == 0) ≡ 1
first_volume v is = ap (λ z. number (z == 0)) is

one_kind : (e : Event) → IsOurs e → kind_sum e ≡ 1
one_kind (Begin g) ours = refl
one_kind (End g) ours = refl
one_kind (Ready v) ours = omega (arith, first_volume v.0 ours)
one_kind (Pending v) ours = omega (arith, first_volume v.0 ours)
one_kind (Active v) ours = omega (arith, first_volume v.0 ours)
one_kind (Idle v) ours = omega (arith, first_volume v.0 ours)
one_kind (Clean v) ours = omega (arith, first_volume v.0 ours)
one_kind (Submit i) ours = refl
one_kind (Ack i answer) ours = refl
one_kind _ ours = absurd ours

abbrev count_kinds : List Entry → ℕ
count_kinds journal =
    count is_begin journal + count is_end journal + count (is_ready 0) journal + count (is_pending 0) journal + count (is_active 0) journal
    + count (is_idle 0) journal + count (is_clean 0) journal + count (is_any_step false) journal + count (is_any_step true) journal

more : (test : Event → Bool) (x : Entry) (xs : List Entry) → count test (x ∷ xs) ≡ number (test x.event) + count test xs
more test x xs = count-cons (λ (e : Entry). test e.event) x xs

length_counted : (journal : List Entry) → AreOurs journal → length journal ≡ count_kinds journal
length_counted [] ours = refl
length_counted (x ∷ xs) ours =
    omega (
      arith,
      one_kind x.event ours.0,
      length_counted xs ours.1,
      more is_begin x xs,
      more is_end x xs,
      more (is_ready 0) x xs,
      more (is_pending 0) x xs,
      more (is_active 0) x xs,
      more (is_idle 0) x xs,
      more (is_clean 0) x xs,
      more (is_any_step false) x xs,
      more (is_any_step true) x xs,
    )

count_le : (p q : Event → Bool) → ((e : Event) → IsOurs e → number (p e) ≤ number (q e)) → (journal : List Entry) → AreOurs journal → count p journal ≤ count q journal
count_le p q le [] ours = omega arith
count_le p q le (x ∷ xs) ours = omega (arith, more p x xs, more q x xs, le x.event ours.0, count_le p q le xs ours.1)

any_ready : (e : Event) → IsOurs e → number (is_any_ready e) ≤ number (is_ready 0 e)
any_ready (Ready v) ours = omega (arith, first_volume v.0 ours)
any_ready _ ours = omega arith

any_pending : (e : Event) → IsOurs e → number (is_any_pending e) ≤ number (is_pending 0 e)
any_pending (Pending v) ours = omega (arith, first_volume v.0 ours)
any_pending _ ours = omega arith

any_clean : (e : Event) → IsOurs e → number (is_any_clean e) ≤ number (is_clean 0 e)
any_clean (Clean v) ours = omega (arith, first_volume v.0 ours)
any_clean _ ours = omega arith

number_most : (b : Bool) → number b ≤ 1
number_most true = omega arith
number_most false = omega arith

submits_in : (ops : List Op) (e : Event) → IsOurs e → number (is_submit_in ops 0 e) ≤ number (is_any_step false e)
submits_in ops (Submit i) ours = number_most (is_write_in ops 0 i)
submits_in ops _ ours = omega arith

-- SHORT

more_than : (a b c d e : ℕ) → a ≤ a + b + c + d + e
more_than a b c d e = omega arith

ops_enough : (ops asks disks kills checkpoints : ℕ) → 64 + 10 * ops ≤ enough_for ops asks disks kills checkpoints
ops_enough ops asks disks kills checkpoints =
    more_than (64 + 10 * ops) (16 * asks) (32 * disks) (40 * kills) (3 * checkpoints * (asks + 2 * disks + 3 * kills + 2))

pub short_reached : (S : Setting) → AsksFirst S → Renews S → StandsOnAll S → (w : World) → FitsGeneration w.control.round.note → Reached S w → IsShort S.start S.asked w.journal
short_reached S asks renews on w fits r =
    let k : Kept S w = kept_reached S asks renews on w fits r in
    let order = in_order S asks w r in
    let submits : count (is_any_step false) w.journal ≤ length S.asked.ops = steps_most S.asked.ops w.journal k.named order false in
    let acks : count (is_any_step true) w.journal ≤ length S.asked.ops = steps_most S.asked.ops w.journal k.named order true in
    let all = length_counted w.journal k.ours in
    let ready = count_le is_any_ready (is_ready 0) any_ready w.journal k.ours in
    let pending = count_le is_any_pending (is_pending 0) any_pending w.journal k.ours in
    let clean = count_le is_any_clean (is_clean 0) any_clean w.journal k.ours in
    let asked = count_le (is_submit_in S.asked.ops 0) (is_any_step false) (submits_in S.asked.ops) w.journal k.ours in
    let room : 64 + 10 * length S.asked.ops ≤ enough S.start S.asked w.journal = ops_enough _ _ _ _ _ in
    let most : length w.journal + 4 ≤ 64 + 10 * length S.asked.ops = omega (arith, submits, acks, all, ready, pending, clean, asked, k.ready, k.active, k.pending_one, k.idle, k.clean, k.ends_begun, k.begins_due) in
    omega (arith, most, room)
