-- A round ends, or what goes on ends otherwise; the monitor is killed, or goes on from a block that a disk holds.
use Rattle.std.proofs.Common.{◌≡◌, ℕ, ◌≤◌, ◌&&◌, not, Bool, true, false, List, [], refl, ap, sym, ◌∙◌, arith}
use Rattle.array_model.specs.Blocks.{Laid, is_container}
use Rattle.array_model.specs.Candidates.{Disk}
use Rattle.array_machine.specs.Setting.{Setting}
use Rattle.array_machine.specs.Numbers.{has}
use Rattle.array_machine.specs.Rounds.{Step, Aim, OfRound, OfSpare, Rest, Going, expects}
use Rattle.array_base.specs.Premises.{generation_of, MayBeBook, Premises}
use Rattle.array_base.specs.Base.{Ledger, IsTrusted, HoldsCurrent, RoundGoes, IsSettled, SpareGoes, Goes, Core, BaseFact}
use Rattle.array_base.proofs.RowCalls.{round_is_book}

-- behind a finished round of block m
abbrev pub behind_round : Laid → Ledger → Ledger
behind_round m l = record {
  book = l.book;
  last = m;
  note = l.note;
  first = false;
  ended = true;
  faults = l.faults;
  given = l.given;
}

-- with this book, and no round ended since: a kill keeps the book, a takeover has another
abbrev pub with_book : Laid → Ledger → Ledger
with_book book l = record {
  book = book;
  last = l.last;
  note = l.note;
  first = l.first;
  ended = false;
  faults = l.faults;
  given = l.given;
}

module _ (S : Setting) (P : Premises S) (ks : ℕ → Disk) (l : Ledger) where
  -- A ROUND ENDS

  module _ (m : Laid) (core : Core S P ks l) (g : RoundGoes S ks l m [] [] true) where
    book : MayBeBook S P.edits.formed m
    book = round_is_book S P ks l m [] [] true core g

    -- each disk that it expects and that has no fault holds it alone
    trusted_is : (d : ℕ) → IsTrusted S (behind_round m l) d → (expects S m d ≡ true) × (has d l.faults ≡ false)
    trusted_is d = at (expects S m d) (has d l.faults)
      where
        at : (a f : Bool) → (a && not f && true) ≡ true → (a ≡ true) × (f ≡ false)
        at true true h = absurd cc
        at true false h = (refl, refl)
        at false f h = absurd cc

    current_end : (d : ℕ) → IsTrusted S (behind_round m l) d → HoldsCurrent S ks (behind_round m l) d
    current_end d trusted =
        let is = trusted_is d trusted in
        let sole = g.finished d is.0 is.1 refl in
        record {
          some = (m, sole.there);
          candidates = λ a i.
              let same = sole.only a i in
              let equal = ap (generation_of S) same in
              record {
                container = ap (is_container S.start.words) same ∙ book.container;
                young = omega (arith, equal);
              };
          expected = λ e a i c.
              let most = core.known.noted e a i c.container in
              let same = g.alone e a i c.container (omega (arith, most, g.top, c.young)) in
              ap (λ x. expects S x d) same ∙ is.0;
          in_book = ap (λ x. expects S x d) g.book ∙ is.0;
        }

    core_end : Core S P ks (behind_round m l)
    core_end = record {
      known = let k = core.known in record { account = k.account; blocks = k.blocks; noted = k.noted; twins = k.twins };
      working = current_end;
      generations = record {
        last = omega (arith, g.top);
        newest = core.generations.newest;
        above = λ h. g.above;
        first = λ h. absurd cc;
        none_ended = λ h. absurd cc;
      };
      hand =
          let h = core.hand in
          record {
            book = h.book;
            last = book;
            last_known = g.known refl;
            given = h.given;
            given_known = h.given_known;
          };
    }

    pub base_end : BaseFact S P ks (behind_round m l) Rest
    base_end = record { core = core_end; goes = λ ended d trusted. (sym g.top, g.book); next = tt }

  -- WHAT GOES ON ENDS OTHERWISE

  pub base_spare_end : (x : ℕ) (m : Laid) (left late : List ℕ) (done : Bool) → Core S P ks l
      → SpareGoes S ks l x m left late done → BaseFact S P ks l Rest
  base_spare_end x m left late done core g = record { core = core; goes = g.settled; next = tt }

  -- no target is left and none finished: no disk is trusted, or no round has ended
  settled_lapse : (aim : Aim) (m : Laid) (step : Step) (late : List ℕ) → Goes S ks l (Going aim m step [] late false)
      → IsSettled S l
  settled_lapse OfRound m step late g = λ ended d trusted. absurd (let none = g.begun ended refl d trusted in cc none)
  settled_lapse (OfSpare x) m step late g = g.settled

  pub base_lapse : (aim : Aim) (m : Laid) (step : Step) (late : List ℕ) → Core S P ks l
      → Goes S ks l (Going aim m step [] late false) → BaseFact S P ks l Rest
  base_lapse aim m step late core g = record { core = core; goes = settled_lapse aim m step late g; next = tt }

  -- A KILL AND A TAKEOVER

  core_with_book : (m : Laid) → MayBeBook S P.edits.formed m
      → ((d : ℕ) → IsTrusted S l d → expects S m d ≡ true) → Core S P ks l → Core S P ks (with_book m l)
  core_with_book m book expected core = record {
    known = let k = core.known in record { account = k.account; blocks = k.blocks; noted = k.noted; twins = k.twins };
    working = λ d trusted. current d trusted (core.working d trusted);
    generations =
        let g = core.generations in
        record { last = g.last; newest = g.newest; above = g.above; first = g.first; none_ended = λ h. refl };
    hand =
        let h = core.hand in
        record { book = book; last = h.last; last_known = h.last_known; given = h.given; given_known = h.given_known };
  }
    where
      current : (d : ℕ) → IsTrusted S l d → HoldsCurrent S ks l d → HoldsCurrent S ks (with_book m l) d
      current d trusted h = record {
        some = h.some;
        candidates = λ a i. let c = h.candidates a i in record { container = c.container; young = c.young };
        expected = λ e a i c. h.expected e a i (record { container = c.container; young = c.young });
        in_book = expected d trusted;
      }

  pub base_kill : Core S P ks l → BaseFact S P ks (with_book l.book l) Rest
  base_kill core = record {
    core = core_with_book l.book core.hand.book (λ d trusted. (core.working d trusted).in_book) core;
    goes = λ ended. absurd cc;
    next = tt;
  }

  -- a block that a disk was given, no older than the last finished round's, expects each trusted disk
  pub base_resume : (d : ℕ) → generation_of S l.last ≤ generation_of S (l.given d) → Core S P ks l
      → BaseFact S P ks (with_book (l.given d) l) Rest
  base_resume d young core = record {
    core = core_with_book (l.given d) (core.hand.given d) expected core;
    goes = λ ended. absurd cc;
    next = tt;
  }
    where
      expected : (e : ℕ) → IsTrusted S l e → expects S (l.given d) e ≡ true
      expected e trusted =
          let known = core.hand.given_known d in
          (core.working e trusted).expected known.disk (l.given d) known.there
          (record { container = (core.hand.given d).container; young = young })
