-- Changes without a call of what goes on: each keeps what holds of the disks, whoever makes it.
use Rattle.std.proofs.Common.{◌≡◌, ℕ, Bool, true, false, List, [], ◌∷◌, ◌++◌, subst, arith}
use Rattle.std.proofs.lemmas.Bool.Decides.{nat_tests}
use Rattle.units.specs.declared.disk.Sector.{Sector}
use Rattle.device_log.specs.Log.{What}
use Rattle.array_model.specs.Candidates.{Disk}
use Rattle.array_machine.specs.Setting.{Setting}
use Rattle.array_machine.specs.Rounds.{Ended, OfRound, OfSpare, Phase, Rest, Going}
use Rattle.array_machine.specs.Control.{Control}
use Rattle.array_machine.specs.Changes.{Change, DiskFails}
use Rattle.array_machine.specs.Puts.{put}
use Rattle.array_machine.specs.TakeoverTurns.{has_all}
use Rattle.array_paths.specs.InTurn.{InTurn}
use Rattle.array_paths.specs.Comes.{Comes, begins, begins_spare, ends, ends_spare, lapses, fails, unblocks, readies, pends, activates, again, idles, cleans, client, pass, manages, kills, takes_over, resumes, dies}
use Rattle.array_paths.specs.AtRows.{AtRows, by_client, by_pass, by_monitor, after_read}
use Rattle.array_base.specs.Premises.{Premises}
use Rattle.array_base.specs.Base.{ledger, Goes, BaseFact}
use Rattle.array_base.proofs.Fallen.{core_fallen, goes_fallen, next_fallen}
use Rattle.array_base.proofs.Begins.{base_begin, base_begin_spare}
use Rattle.array_base.proofs.Ends.{base_end, base_spare_end, base_lapse, base_kill, base_resume}

module _ (S : Setting) (P : Premises S) (ks : ℕ → Disk) where
  -- of a control state
  abbrev pub BaseOn : Control → Type 0
  BaseOn c = BaseFact S P ks (ledger c.round) c.round.phase

  goes_at : (c : Control) (phase : Phase) → c.round.phase ≡ phase → BaseOn c → Goes S ks (ledger c.round) phase
  goes_at c phase is base = subst (Goes S ks (ledger c.round)) is base.goes

  pub base_fault : (c : Control) (d : ℕ) → BaseOn c → BaseOn (put S (DiskFails d) c)
  base_fault c d base = record {
    core = core_fallen S ks d (ledger c.round) P base.core;
    goes = goes_fallen S ks d (ledger c.round) c.round.phase base.goes;
    next = next_fallen S ks d (ledger c.round) c.round.phase base.next;
  }

  pub base_comes : (t : InTurn) (c : Control) (a : Change) → Comes S t c a → BaseOn c → BaseOn (put S a c)
  base_comes t c _ (begins m life rest target next) base = base_begin S P ks t c m next base.core
  base_comes t c _ (begins_spare d m life rest target may is unlisted room) base =
      base_begin_spare S P ks t c d m (goes_at c Rest rest base) may is unlisted room base.core
  base_comes t c _ (ends m step is) base =
      base_end S P ks (ledger c.round) m base.core (goes_at c (Going OfRound m step [] [] true) is base)
  base_comes t c _ (ends_spare d m step is) base =
      base_spare_end S P ks (ledger c.round) d m [] [] true base.core
      (goes_at c (Going (OfSpare d) m step [] [] true) is base)
  base_comes t c _ (lapses aim m step late is) base =
      base_lapse S P ks (ledger c.round) aim m step late base.core (goes_at c (Going aim m step [] late false) is base)
  base_comes t c _ (fails d who may) base = base_fault c d base
  base_comes t c _ (unblocks d rest blocked ended unexpected) base = base
  base_comes t c _ (readies v started state rest ended) base = base
  base_comes t c _ (pends v sound state submitted) base = base
  base_comes t c _ (activates v runs state rest ended dirty) base = base
  base_comes t c _ (again v sound state submitted) base = base
  base_comes t c _ (idles v who runs state none) base = base
  base_comes t c _ (cleans v runs state rest) base = base
  base_comes t c _ (client k new word move) base = base
  base_comes t c _ (pass v slots new word move) base = base
  base_comes t c _ (manages new word move) base = base
  base_comes t c _ (kills who awake) base = base_kill S P ks (ledger c.round) base.core
  base_comes t c _ (takes_over who life) base = base
  base_comes t c _ (resumes d taking young) base =
      base_resume S P ks (ledger c.round) d (grind (arith, nat_tests, young)) base.core
  base_comes t c _ (dies taking) base = base

  -- what comes of a call at rows touches neither the ledger nor what goes on
  read_keeps : (c : Control) (d : ℕ) (left : List ℕ) (seen : List Sector) (found : List ℕ) (b : Bool) → BaseOn c
      → BaseOn (put S (after_read S c d left seen found b) c)
  read_keeps c d left seen found true base = base
  read_keeps c d left seen found false base = base

  pub base_at_rows : (c : Control) (d : ℕ) (what : What) (x : Ended) (a : Change) → AtRows S c d what x a → BaseOn c
      → BaseOn (put S a c)
  base_at_rows c d _ x _ (by_client k i r need what _ call) base = base
  base_at_rows c d _ x _ (by_pass v p need what _ call) base = base
  base_at_rows c d _ x _ (by_monitor left seen found _ life) base =
      read_keeps c d left (seen ++ x.got ∷ []) found (has_all S (seen ++ x.got ∷ [])) base
