-- What an opening finds on real disks, and the volumes and spares that a run over them begins with. Source:
-- load_container_imsm of super-intel.c, and the slots that assemble.c gives to the kernel.
use Rattle.std.specs.Prelude.{◌≡◌, ℕ, ◌<◌, ◌≤◌, true, false, if◌then◌else◌, List, [], ◌∷◌, length, map, filter, None}
use Rattle.units.specs.declared.bounds.TheConstants.{SECTOR_BYTES}
use Rattle.block_meaning.specs.Meaning.{bytes_of_laid}
use Rattle.array_machine.specs.Setting.{Setting}
use Rattle.array_machine.specs.States.{IsReadonly}
use Rattle.array_machine.specs.Volumes.{Volume}
use Rattle.array_machine.specs.Rounds.{expects, all_disks}
use Rattle.array_base.specs.Premises.{generation_of, IsContainer, IsWholeAt, IsWholeOnItsDisks, Premises}
use Rattle.array_base.specs.Opening.{first_at, counts_out, slot_opened, HoldsContainer, Opening}

module _ (S : Setting) where
  -- The newest block is a container's and stands whole on some disk. It is whole on each disk that it expects; those
  -- that don't count out hold its bytes, whatever stands behind their end. Containers' blocks of one generation are the
  -- same bytes, and none is above it. Spares are disks of the bank.
  pub record FindsContainer : Type 0 where
    pub full : (d p : ℕ) → length (S.start.disks.opening d p).0 ≡ SECTOR_BYTES
    pub container : IsContainer S S.start.newest
    pub whole : IsWholeOnItsDisks S S.start.newest
    pub disk : ℕ
    pub there : IsWholeAt S disk S.start.newest
    pub stands : first_at S disk ≡ S.start.newest
    pub members : (d : ℕ) → expects S S.start.newest d ≡ true → counts_out S d ≡ false
        → bytes_of_laid (first_at S d) ≡ bytes_of_laid S.start.newest
    pub copies : (d e : ℕ) → HoldsContainer S d → HoldsContainer S e
        → generation_of S (first_at S d) ≡ generation_of S (first_at S e)
        → bytes_of_laid (first_at S d) ≡ bytes_of_laid (first_at S e)
    pub top : (d : ℕ) → HoldsContainer S d → generation_of S (first_at S d) ≤ generation_of S S.start.newest
    pub spares : (d : ℕ) → S.start.is_spare d ≡ true → d < S.start.disks.count

  -- a volume is readonly and has no pass yet; if it was started it has the slots that the newest block says
  abbrev pub opened_volume : ℕ → Volume
  opened_volume v = record {
    started = S.start.is_started v;
    state = IsReadonly;
    broken = false;
    slots = if S.start.is_started v then map (slot_opened S) (S.start.words.slots S.start.newest v) else [];
    pass = None;
  }

  -- a container has two volumes at most
  abbrev pub opened_volumes : List Volume
  opened_volumes = opened_volume 0 ∷ opened_volume 1 ∷ []

  abbrev pub opened_spares : List ℕ
  opened_spares = filter S.start.is_spare (all_disks S)

  -- all that laws over runs ask for is there
  abbrev pub MeetsAll : List Volume → List ℕ → Type 0
  MeetsAll volumes spares = (P : Premises S) × Opening S P volumes spares

  abbrev pub Opens : Type 0
  Opens = MeetsAll opened_volumes opened_spares
