-- One more note is one more call at the end of the log.
use Rattle.std.proofs.Common.{◌≡◌, ◌≤◌, ◌+◌, ℕ, suc, true, false, cond, List, [], ◌∷◌, ◌++◌, take, drop, length, Option, Some, None, refl, sym, ◌∙◌, ap, arith}
use Rattle.std.proofs.lemmas.List.{take_all, take-append-le, drop-append-le, length-drop, length-take, nil_from_length}
use Rattle.std.proofs.lemmas.List.Sums.{sum_by-cons}
use Rattle.std.specs.Prelude.{◌&&◌, nat_lt, nat_le, Bool}
use Rattle.units.specs.declared.disk.Sector.{Sector}
use Rattle.member_bank.specs.declared.history.NotedCall.{NotedCall}
use Rattle.member_bank.specs.declared.history.NotedCall.TheVariants as asked
use Rattle.member_bank.specs.declared.history.Note.{Note}
use Rattle.device_log.specs.Log.{Call}
use Rattle.member_bank.specs.declared.history.LogRoom.{LogRoom}
use Rattle.member_bank.specs.History.{LogState, has_room, log_with, log_of, count_all, count_of, call_of, what_of, sectors_asked, sectors_in}

pub log_of-append : (ns : List Note) (n : Note) (ss more : List Sector) → count_all ns ≡ length ss → count_of n.asked ≡ length more
    → log_of (ns ++ n ∷ []) (ss ++ more) ≡ log_of ns ss ++ call_of n more ∷ []
log_of-append [] n ss more all one =
    let none : ss ≡ [] = nil_from_length ss (sym all) in
    let le : length more ≤ count_of n.asked = omega arith in
    rw (none, take_all (count_of n.asked) more le) refl
log_of-append (m ∷ ns) n ss more all one =
    let both : count_of m.asked + count_all ns ≡ length ss = sym (sum_by-cons (λ (k : Note). count_of k.asked) m ns) ∙ all in
    let within : count_of m.asked ≤ length ss = omega arith in
    let rest : count_all ns ≡ length (drop (count_of m.asked) ss) = omega (arith, length-drop (count_of m.asked) ss) in
    rw (take-append-le (count_of m.asked) ss more within, drop-append-le (count_of m.asked) ss more within, log_of-append ns n (drop (count_of m.asked) ss) more rest one) refl

pub length-log_of : (ns : List Note) (ss : List Sector) → length (log_of ns ss) ≡ length ns
length-log_of [] ss = refl
length-log_of (n ∷ ns) ss = ap suc (length-log_of ns (drop (count_of n.asked) ss))

asked-what_of : (a : NotedCall) (ss : List Sector) → length ss ≡ count_of a → sectors_asked (what_of a ss) ≡ count_of a
asked-what_of (asked.Read place) ss same = refl
asked-what_of (asked.Write place count stored) ss same = same
asked-what_of asked.Sync ss same = refl

pub sectors_in-log_of : (ns : List Note) (ss : List Sector) → count_all ns ≡ length ss → sectors_in (log_of ns ss) ≡ length ss
sectors_in-log_of [] ss all = all
sectors_in-log_of (n ∷ ns) ss all =
    let both : count_of n.asked + count_all ns ≡ length ss = sym (sum_by-cons (λ (k : Note). count_of k.asked) n ns) ∙ all in
    let front : length (take (count_of n.asked) ss) ≡ count_of n.asked = simp length-take (omega arith) in
    let rest : count_all ns ≡ length (drop (count_of n.asked) ss) = omega (arith, length-drop (count_of n.asked) ss) in
    let first : sectors_asked (what_of n.asked (take (count_of n.asked) ss)) ≡ count_of n.asked = asked-what_of n.asked (take (count_of n.asked) ss) front in
    sum_by-cons (λ (c : Call). sectors_asked c.what) (call_of n (take (count_of n.asked) ss)) (log_of ns (drop (count_of n.asked) ss))
    ∙ omega (arith, first, sectors_in-log_of ns (drop (count_of n.asked) ss) rest, length-drop (count_of n.asked) ss)

-- the test for room, by what is kept
has_room-log_of : (room : LogRoom) (ns : List Note) (n : Note) (ss more : List Sector) → count_all ns ≡ length ss → count_of n.asked ≡ length more
    → has_room room (log_of ns ss) (call_of n more) ≡ (nat_lt (length ns) room.calls && nat_le (length ss + length more) room.sectors)
has_room-log_of room ns n ss more all one =
    let asked : sectors_asked (what_of n.asked more) ≡ length more = asked-what_of n.asked more (sym one) ∙ one in
    rw (length-log_of ns ss, sectors_in-log_of ns ss all, asked) refl

pub noted : (told fits : Bool) (room : LogRoom) (ns ns' : List Note) (n : Note) (ss ss' more : List Sector) (old : LogState) (calls written : ℕ) → told ≡ true
    → ◌≡◌ {A = LogState} (record { log = cond told (Some (log_of ns ss)) None; room = room }) old → fits ≡ (nat_lt calls room.calls && nat_le (written + length more) room.sectors) → fits ≡ true
    → ns' ≡ ns ++ n ∷ [] → ss' ≡ ss ++ more → calls ≡ length ns → written ≡ length ss → count_all ns ≡ length ss → count_of n.asked ≡ length more
    → ◌≡◌ {A = LogState} (record { log = cond fits (Some (log_of ns' ss')) None; room = room }) (record { log = log_with old.room old.log (call_of n more); room = old.room })
noted told fits room ns ns' n ss ss' more old calls written is_told was test passed notes sectors many long all one =
    let room_is : has_room room (log_of ns ss) (call_of n more) ≡ true = has_room-log_of room ns n ss more all one ∙ (rw (← many, ← long) (sym test) ∙ passed) in
    rw (← was, is_told, room_is, passed, notes, sectors, log_of-append ns n ss more all one) refl

pub not_noted : (told fits : Bool) (room : LogRoom) (ns : List Note) (n : Note) (ss more : List Sector) (old : LogState) (log : Option (List Call)) (calls written : ℕ) → told ≡ true
    → ◌≡◌ {A = LogState} (record { log = cond told (Some (log_of ns ss)) None; room = room }) old → fits ≡ (nat_lt calls room.calls && nat_le (written + length more) room.sectors) → fits ≡ false
    → calls ≡ length ns → written ≡ length ss → count_all ns ≡ length ss → count_of n.asked ≡ length more
    → ◌≡◌ {A = LogState} (record { log = cond fits log None; room = room }) (record { log = log_with old.room old.log (call_of n more); room = old.room })
not_noted told fits room ns n ss more old log calls written is_told was test failed many long all one =
    let room_is : has_room room (log_of ns ss) (call_of n more) ≡ false = has_room-log_of room ns n ss more all one ∙ (rw (← many, ← long) (sym test) ∙ failed) in
    rw (← was, is_told, room_is, failed) refl
