-- What holds of the monitor's round at every moment of a run: which targets are left, what is blocked, and why a round
-- is due. Source: this project's own.
use Rattle.std.specs.Prelude.{⊤, ◌≡◌, ℕ, ◌<◌, Bool, true, false, List, [], ◌⊎◌}
use Rattle.array_machine.specs.Setting.{Setting}
use Rattle.array_machine.specs.Numbers.{has}
use Rattle.array_machine.specs.Rounds.{OfRound, Phase, Rest, Going, Round, lives}
use Rattle.array_base.specs.Base.{ledger, IsTrusted, is_left}
use Rattle.array_rest.specs.Between.{is_callable}

module _ (S : Setting) where
  -- the targets that are left may be called; behind the last of those in time, the late ones come at once
  pub record TargetsStand (faults left late : List ℕ) (done : Bool) : Type 0 where
    pub callable : (d : ℕ) → is_left S left late d ≡ true → is_callable S faults d ≡ true
    pub in_turn : left ≡ [] → done ≡ true → late ≡ []

  abbrev pub PhaseStands : List ℕ → Phase → Type 0
  PhaseStands faults Rest = ⊤
  PhaseStands faults (Going aim m step left late done) = TargetsStand faults left late done

  -- no disk is left that the last finished round vouches for
  abbrev pub NoneIsTrusted : Round → Type 0
  NoneIsTrusted r = (d : ℕ) → IsTrusted S (ledger r) d → ⊥

  -- in a round of which no target finished yet each trusted disk is left
  abbrev pub RoundReaches : Round → Phase → Type 0
  RoundReaches r (Going OfRound m step left late false) = (d : ℕ) → IsTrusted S (ledger r) d → has d left ≡ true
  RoundReaches r _ = ⊤

  abbrev pub IsOfRound : Phase → Type 0
  IsOfRound (Going OfRound m step left late done) = ⊤
  IsOfRound _ = ⊥

  -- The disks that failed are there, and those that are blocked failed. Where no round is due because the monitor just
  -- came to life, one has ended since, or goes on, or no disk is trusted.
  pub record RoundStands (r : Round) : Type 0 where
    pub there : (d : ℕ) → has d r.faults ≡ true → d < S.start.disks.count
    pub blocked : (d : ℕ) → has d r.blocked ≡ true → has d r.faults ≡ true
    pub phase : PhaseStands r.faults r.phase
    pub reaches : RoundReaches r r.phase
    pub begun : lives r.life ≡ true → r.fresh ≡ false → (r.ended ≡ true) ⊎ (IsOfRound r.phase ⊎ NoneIsTrusted r)
