-- The last finished round's block leads to the book and to each known block that may count, through each effect.
use Rattle.std.proofs.Common.{◌≡◌, ℕ, ◌==◌, Bool, true, false, List, [], ◌∷◌, ◌++◌, refl, sym, ◌∙◌, subst, Option, inl, inr}
use Rattle.std.specs.List.{AllZip}
use Rattle.units.specs.declared.disk.Sector.{Sector}
use Rattle.device_log.specs.Log.{Call, What}
use Rattle.array_model.specs.Blocks.{Laid, SlotWords, SaysAlike}
use Rattle.array_model.specs.Candidates.{Disk}
use Rattle.array_machine.specs.Setting.{Setting}
use Rattle.array_machine.specs.Numbers.{has}
use Rattle.array_machine.specs.Rounds.{Ended, Step, OfRound, Going}
use Rattle.array_machine.specs.Control.{Control}
use Rattle.array_machine.specs.Changes.{Change, DiskFails, RoundEnds}
use Rattle.array_machine.specs.Puts.{put}
use Rattle.array_machine.specs.Machine.{World, log_after}
use Rattle.array_machine.specs.TakeoverTurns.{has_all}
use Rattle.array_paths.specs.InTurn.{InTurn}
use Rattle.array_paths.specs.Comes.{Comes, begins, begins_spare, ends, ends_spare, lapses, fails, unblocks, readies, pends, activates, again, idles, cleans, client, pass, manages, kills, takes_over, resumes, dies}
use Rattle.array_paths.specs.AtRows.{AtRows, by_client, by_pass, by_monitor, after_read}
use Rattle.array_paths.specs.Effects.{Effect, quiet, row, row_fails, steps, step_fails}
use Rattle.array_base.specs.Premises.{Premises}
use Rattle.array_base.specs.Laws.{OverBase}
use Rattle.array_base.specs.Base.{ledger, disks_by, Between}
use Rattle.array_base.proofs.Targets.{or_second}
use Rattle.array_failures.specs.Members.{IsLost, StaysInSlot, LeadsTo, LastLeads}
use Rattle.array_failures.proofs.Edited.{leads_next}
use Rattle.array_failures.proofs.Current.{ended_known, current_call, current_resumes, round_goes}

module _ (S : Setting) where
  -- A BLOCK TO ITSELF

  stays_all : (faults : List ℕ) (m : Laid) (ws : List SlotWords) → AllZip (StaysInSlot S faults m m) ws ws
  stays_all faults m [] = tt
  stays_all faults m (w ∷ ws) = (
    record { expected = λ is. inl (refl, is); in_sync = λ is. inl is },
    stays_all faults m ws,
  )

  -- nothing changes
  pub leads_itself : (faults : List ℕ) (m : Laid) → LeadsTo S faults m m
  leads_itself faults m = record {
    expected = λ serial is. inl is;
    supported = λ v is. is;
    slots = λ v is. stays_all faults m (S.start.words.slots m v);
  }

  -- and to one that says the same
  pub leads_alike : (faults : List ℕ) (m n : Laid) → SaysAlike S.start.words m n → LeadsTo S faults m n
  leads_alike faults m n alike = record {
    expected = λ serial is. inl (sym (alike.expects serial) ∙ is);
    supported = λ v is. sym (alike.is_supported v) ∙ is;
    slots = λ v is.
        subst (λ ws. AllZip (StaysInSlot S faults m n) (S.start.words.slots m v) ws) (alike.slots v)
        (others faults m n (S.start.words.slots m v));
  }
    where
      others : (faults : List ℕ) (m n : Laid) (ws : List SlotWords) → AllZip (StaysInSlot S faults m n) ws ws
      others faults m n [] = tt
      others faults m n (w ∷ ws) = (
        record { expected = λ is. inl (refl, is); in_sync = λ is. inl is },
        others faults m n ws,
      )

  -- ONE FAILURE MORE

  -- a lost disk stays lost
  pub lost_more : (faults : List ℕ) (d : ℕ) (serial : List ℕ) → IsLost S faults serial → IsLost S (d ∷ faults) serial
  lost_more faults d serial lost = record {
    disk = lost.disk;
    is = lost.is;
    below = lost.below;
    failed = or_second (d == lost.disk) (has lost.disk faults) lost.failed;
  }

  stays_more : (faults : List ℕ) (d : ℕ) (last m : Laid) (ws xs : List SlotWords)
      → AllZip (StaysInSlot S faults last m) ws xs → AllZip (StaysInSlot S (d ∷ faults) last m) ws xs
  stays_more faults d last m [] [] stays = tt
  stays_more faults d last m [] (x ∷ xs) stays = absurd stays
  stays_more faults d last m (w ∷ ws) [] stays = absurd stays
  stays_more faults d last m (w ∷ ws) (x ∷ xs) stays = (
    record {
      expected = λ is. elim (stays.0.expected is) [
        | inl same ↦ inl same
        | inr failed ↦
            inr (record { lost = lost_more faults d w.serial failed.lost; unexpected = failed.unexpected })
      ];
      in_sync = λ is. elim (stays.0.in_sync is) [
        | inl sync ↦ inl sync
        | inr why ↦ elim why [
          | inl lost ↦ inr (inl (lost_more faults d w.serial lost))
          | inr counted ↦ inr (inr counted)
        ]
      ];
    },
    stays_more faults d last m ws xs stays.1,
  )

  leads_more : (faults : List ℕ) (d : ℕ) (last m : Laid) → LeadsTo S faults last m → LeadsTo S (d ∷ faults) last m
  leads_more faults d last m leads = record {
    expected = λ serial is. elim (leads.expected serial is) [
      | inl there ↦ inl there
      | inr lost ↦ inr (lost_more faults d serial lost)
    ];
    supported = leads.supported;
    slots = λ v is. stays_more faults d last m (S.start.words.slots last v) (S.start.words.slots m v)
        (leads.slots v is);
  }

  -- CHANGES

  module _ (P : Premises S) (ks : ℕ → Disk) where
    abbrev BetweenOn : Control → Type 0
    BetweenOn c = Between S P ks (ledger c.round) c.round.phase

    leads_end : (c : Control) (m : Laid) (step : Step) → c.round.phase ≡ Going OfRound m step [] [] true → BetweenOn c
        → LastLeads S ks (put S (RoundEnds m) c)
    leads_end c m step is b = record {
      of_book =
          let goes = round_goes S P c ks m step [] [] true is b in
          subst (LeadsTo S c.round.faults m) (sym goes.book) (leads_itself c.round.faults m);
      of_known = λ e a i container young.
          subst (LeadsTo S c.round.faults m) (sym (ended_known S P c ks m step is b e a i container young))
          (leads_itself c.round.faults m);
    }

    leads_fault : (c : Control) (d : ℕ) → LastLeads S ks c → LastLeads S ks (put S (DiskFails d) c)
    leads_fault c d h = record {
      of_book = leads_more c.round.faults d c.round.last c.round.book h.of_book;
      of_known = λ e a i container young.
          leads_more c.round.faults d c.round.last a (h.of_known e a i container young);
    }

    leads_comes : (t : InTurn) (c : Control) (a : Change) → Comes S t c a → BetweenOn c → LastLeads S ks c
        → LastLeads S ks (put S a c)
    leads_comes t c _ (begins m life rest target next) b h = record {
      of_book = leads_next S P c t m next b.core.hand.book b.core.hand.last b.core.generations.first h.of_book;
      of_known = h.of_known;
    }
    leads_comes t c _ (ends m step is) b h = leads_end c m step is b
    leads_comes t c _ (fails d who may) b h = leads_fault c d h
    leads_comes t c _ (resumes d taking young) b h =
        current_resumes S P c (LeadsTo S c.round.faults c.round.last) ks b d young h
    leads_comes t c _ (begins_spare d m life rest target may is unlisted room) b h = h
    leads_comes t c _ (ends_spare d m step is) b h = h
    leads_comes t c _ (lapses aim m step late is) b h = h
    leads_comes t c _ (unblocks d rest blocked ended unexpected) b h = h
    leads_comes t c _ (readies v started state rest ended) b h = h
    leads_comes t c _ (pends v sound state submitted) b h = h
    leads_comes t c _ (activates v runs state rest ended dirty) b h = h
    leads_comes t c _ (again v sound state submitted) b h = h
    leads_comes t c _ (idles v who runs state none) b h = h
    leads_comes t c _ (cleans v runs state rest) b h = h
    leads_comes t c _ (client k new word move) b h = h
    leads_comes t c _ (pass v slots new word move) b h = h
    leads_comes t c _ (manages new word move) b h = h
    leads_comes t c _ (kills who awake) b h = h
    leads_comes t c _ (takes_over who life) b h = h
    leads_comes t c _ (dies taking) b h = h

    leads_read : (c : Control) (d : ℕ) (left : List ℕ) (seen : List Sector) (found : List ℕ) (all : Bool)
        → LastLeads S ks c → LastLeads S ks (put S (after_read S c d left seen found all) c)
    leads_read c d left seen found true h = h
    leads_read c d left seen found false h = h

    leads_rows : (c : Control) (d : ℕ) (what : What) (x : Ended) (a : Change) → AtRows S c d what x a → LastLeads S ks c
        → LastLeads S ks (put S a c)
    leads_rows c d _ x _ (by_client k i r need _ _ call) h = h
    leads_rows c d _ x _ (by_pass v p need _ _ call) h = h
    leads_rows c d _ x _ (by_monitor left seen found _ life) h =
        leads_read c d left (seen ++ x.got ∷ []) found (has_all S (seen ++ x.got ∷ [])) h

    leads_change : (t : InTurn) (c : Control) {call : Option Call} {x : Ended} {a : Change} → Effect S t c call x a
        → BetweenOn c → LastLeads S ks c → LastLeads S ks (put S a c)
    leads_change t c (quiet x a comes) b h = leads_comes t c a comes b h
    leads_change t c (row d what x a may calls went at) b h = leads_rows c d what x a at h
    leads_change t c (row_fails d what x may calls failed lost) b h = leads_fault c d h
    leads_change t c (steps d m step x target went) b h = h
    leads_change t c (step_fails d m step x target failed) b h = leads_fault c d h

  -- EFFECTS

  module _ (P : Premises S) (t : InTurn) (w : World) (call : Option Call) (x : Ended) (a : Change)
      (o : OverBase S P t w call x a) where
    -- behind the call, with the control state before it
    pub leads_call : LastLeads S (disks_by S w.log) w.control
        → LastLeads S (disks_by S (log_after w.log call)) w.control
    leads_call h =
        current_call S P w.control (LeadsTo S w.control.round.faults w.control.round.last) (disks_by S w.log)
        (disks_by S (log_after w.log call)) o.does o.before.goes h

    -- and behind the change
    pub leads_effect : LastLeads S (disks_by S w.log) w.control
        → LastLeads S (disks_by S (log_after w.log call)) (put S a w.control)
    leads_effect h = leads_change P (disks_by S (log_after w.log call)) t w.control o.effect o.between (leads_call h)
