-- What arrivals on a bank that tells what stood on its disks saw and said.
use Rattle.std.proofs.Common.{◌≡◌, ◌<◌, ◌≤◌, ◌+◌, ◌-◌, ℕ, suc, Bool, false, List, [], ◌∷◌, ◌++◌, inl, inr, length, take, Some, get_or, sym, ◌∙◌, ap, subst, append_assoc, arith}
use Rattle.std.specs.Prelude.{Contains, slice_get}
use Rattle.std.proofs.lemmas.Bool.{cases_order, false≢true}
use Rattle.std.proofs.lemmas.List.{append-nil, length-map, take-take}
use Rattle.std.proofs.lemmas.List.Elements.{Contains-append_cases}
use Rattle.std.proofs.lemmas.Option.{slice_get-get_or, slice_get_within}
use Rattle.units.specs.declared.disk.Sector.{Sector}
use Rattle.units.specs.declared.disk.Serial.{Serial}
use Rattle.device_log.specs.Log.{Call}
use Rattle.mpb_store.specs.Banks.{is_unread}
use Rattle.container.specs.declared.seen.Seen.{Seen}
use Rattle.container.specs.declared.verdict.Verdict.{Verdict}
use Rattle.container.proofs.Alike.{same_lists}
use Rattle.container.proofs.OneVerdict.{one_verdict}
use Rattle.assembly.specs.Seen.{are_unread, found_of}
use Rattle.incremental.specs.Arrivals.{is_ready}
use Rattle.image_outside.specs.Told.{BankTold}
use Rattle.image_incremental.specs.Endings.{Arrives}
use Rattle.image_incremental.specs.Lines.{arrival_lines, arrive_line}
use Rattle.verdict_text.specs.Lines.{verdict_lines}
use Rattle.refused_verdicts.specs.Told.{Tells, block_places}
use Rattle.refused_verdicts.proofs.Lacking.{look_of}
use Rattle.refused_verdicts.proofs.Looked.{LooksAre}
use Rattle.refused_verdicts.proofs.Moved.{AllAlike, alike_front, verdict_moves}
use Rattle.refused_verdicts.proofs.OneSeen.{own_serials, seen_alike}
use Rattle.refused_verdicts.proofs.Places.{in_nil, of_front}
use Rattle.refused_verdicts.proofs.Seeing.{AreSeenSo, are_seen_so}

-- each call is of a disk that was looked at
looks_to : (sizes : List ℕ) (opening : List (List Sector)) (k : ℕ) (failed : List Bool) (calls : List Call) → LooksAre sizes opening k failed calls → (call : Call) → Contains calls call → call.disk < k + length failed
looks_to sizes opening k [] calls none call there = absurd (in_nil call (subst (λ (l : List Call). Contains l call) none there))
looks_to sizes opening k (f ∷ failed) calls (one, rest, laid, reads, more) call there =
    elim (Contains-append_cases one rest call (subst (λ (l : List Call). Contains l call) laid there)) [
      | inl here ↦ let disk = look_of k (block_places opening sizes k) f one reads call here in omega (arith, disk)
      | inr behind ↦ let most = looks_to sizes opening (k + 1) failed rest more call behind in omega (arith, most)
    ]

module _ (opening : List (List Sector)) (log : List Call) (bank : BankTold) (tells : Tells opening log bank) (run : Bool) where
  module _ (lines : List ℕ) (status : ℕ) (does : Arrives run bank lines status) where
    pub arrived : AreSeenSo opening log bank does.seen
    arrived = are_seen_so opening log bank tells does.before does.fresh does.seen does.sees.few does.sees.each does.sees.looks

    pub called_below : (call : Call) → Contains log call → call.disk < length does.seen
    called_below call there =
        let count = length-map does.seen (λ (s : Seen). is_unread (found_of s.holds)) in
        let most = looks_to bank.sizes opening 0 (are_unread does.seen) log arrived.calls call there in
        omega (arith, most, count)

    pub some_arrived : 0 < length does.seen
    some_arrived = let within = slice_get_within does.verdicts (length does.verdicts - 1) does.last does.last_is in let count = does.are.count in omega (arith, within, count)

  -- TWO ARRIVALS

  module _ (lines others : List ℕ) (status other : ℕ) (does : Arrives run bank lines status) (makes : Arrives run bank others other) where
    same_verdict : length does.seen ≤ length makes.seen → (k : ℕ) (v w : Verdict) → slice_get does.verdicts k ≡ Some v → slice_get makes.verdicts k ≡ Some w → v ≡ w
    same_verdict few k v w at there =
        let n = length does.seen in
        let within = slice_get_within does.verdicts k v at in
        let count = does.are.count in
        let two = arrived others other makes in
        let like = seen_alike opening log bank does.seen makes.seen (arrived lines status does) two few in
        let front = subst (AllAlike (take (k + 1) does.seen)) (take-take (k + 1) n makes.seen (omega (arith, within, count))) (alike_front (k + 1) does.seen (take n makes.seen) like) in
        let own = own_serials opening log bank (take (k + 1) makes.seen) tells (λ i s is. two.each i s (of_front makes.seen (k + 1) i s is)) in
        one_verdict (take (k + 1) makes.seen) run v w own (verdict_moves (take (k + 1) does.seen) (take (k + 1) makes.seen) front run v (does.are.each k v at)) (makes.are.each k w there)

    -- arrivals that opened, or were all, don't go on
    pub not_fewer : length does.seen < length makes.seen → ⊥
    not_fewer fewer =
        let some = some_arrived lines status does in
        let count = does.are.count in
        let total = makes.are.count in
        let k = length does.verdicts - 1 in
        let w = get_or makes.verdicts k does.last in
        let there : slice_get makes.verdicts k ≡ Some w = slice_get-get_or makes.verdicts k does.last (omega (arith, fewer, count, total, some)) in
        let same : does.last ≡ w = same_verdict (omega (arith, fewer)) k does.last w does.last_is there in
        let waits : is_ready w ≡ false = makes.are.waits k w there (omega (arith, fewer, count, total, some)) in
        elim does.over [
          | inl ready ↦ false≢true (sym (ap is_ready same ∙ waits) ∙ ready)
          | inr all ↦ let few = makes.sees.few in omega (arith, all, few, fewer)
        ]

    pub same_verdicts : length does.seen ≡ length makes.seen → does.verdicts ≡ makes.verdicts
    same_verdicts count =
        let one = does.are.count in
        let two = makes.are.count in
        same_lists does.verdicts makes.verdicts (one ∙ count ∙ sym two) (same_verdict (omega (arith, count)))

  pub same_count : (lines others : List ℕ) (status other : ℕ) (does : Arrives run bank lines status) (makes : Arrives run bank others other) → length does.seen ≡ length makes.seen
  same_count lines others status other does makes = elim (cases_order (length does.seen) (length makes.seen)) [
    | inl same ↦ same
    | inr apart ↦ elim apart [
      | inl fewer ↦ absurd (not_fewer lines others status other does makes fewer)
      | inr more ↦ absurd (not_fewer others lines other status makes does more)
    ]
  ]

-- THE LAST VERDICT

one_further : (a lines rest front end : List ℕ) → rest ≡ front ++ end → a ++ (lines ++ rest) ≡ (a ++ (lines ++ front)) ++ end
one_further a lines rest front end is =
    ap (λ (l : List ℕ). a ++ (lines ++ l)) is ∙ ap (λ (l : List ℕ). a ++ l) (sym (append_assoc lines front end)) ∙ sym (append_assoc a (lines ++ front) end)

pub ends_so : (serials : List Serial) (k : ℕ) (verdicts : List Verdict) (last : Verdict) → slice_get verdicts (length verdicts - 1) ≡ Some last
    → (front : List ℕ) × (arrival_lines serials k verdicts ≡ front ++ verdict_lines serials (take (k + length verdicts) serials) last)
ends_so serials k [] last at = absurd (cc at)
ends_so serials k (v ∷ []) last at =
    let same : v ≡ last = cc at in
    (arrive_line serials k, ap (λ (l : List ℕ). arrive_line serials k ++ l) (append-nil (verdict_lines serials (take (k + 1) serials) v) ∙ ap (verdict_lines serials (take (k + 1) serials)) same))
ends_so serials k (v ∷ w ∷ more) last at =
    let index : length (v ∷ w ∷ more) - 1 ≡ suc (length (w ∷ more) - 1) = omega arith in
    let rest = ends_so serials (k + 1) (w ∷ more) last (subst (λ (n : ℕ). slice_get (v ∷ w ∷ more) n ≡ Some last) index at) in
    let total : k + 1 + length (w ∷ more) ≡ k + length (v ∷ w ∷ more) = omega arith in
    let lines = verdict_lines serials (take (k + 1) serials) v in
    let end = verdict_lines serials (take (k + length (v ∷ w ∷ more)) serials) last in (
      arrive_line serials k ++ (lines ++ rest.0),
      one_further (arrive_line serials k) lines (arrival_lines serials (k + 1) (w ∷ more)) rest.0 end (subst (λ (n : ℕ). arrival_lines serials (k + 1) (w ∷ more) ≡ rest.0 ++ verdict_lines serials (take n serials) last) total rest.1),
    )
