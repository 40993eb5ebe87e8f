-- What an assembly of a bank that tells what stood on its disks saw and said.
use Rattle.std.proofs.Common.{◌≡◌, ◌<◌, ℕ, Bool, List, [], length, Some, inl, inr, subst, arith}
use Rattle.std.specs.Prelude.{Contains, slice_get, get_or}
use Rattle.std.proofs.lemmas.Option.{slice_get-get_or, slice_get_within}
use Rattle.units.specs.declared.disk.Sector.{Sector}
use Rattle.imsm_base.specs.Fields.{Part}
use Rattle.imsm_base.specs.Layout.{family_of, generation_of}
use Rattle.imsm_base.specs.Parts.{block_in}
use Rattle.imsm_base.specs.Whole.{IsWholeBlock}
use Rattle.device_log.specs.Log.{Call}
use Rattle.container.specs.declared.missing.Missing.{Missing}
use Rattle.container.specs.declared.seen.Seen.{Seen}
use Rattle.container.specs.declared.seen.SeenAs.TheVariants.{Blank}
use Rattle.container.specs.Lacking.{AreMissing, IsMissing}
use Rattle.container.specs.declared.verdict.Verdict.{Verdict}
use Rattle.container.specs.declared.verdict.Verdict.TheVariants.{Refused}
use Rattle.container.specs.Verdicts.{IsByNewest, IsVerdict, IsVerdictBy}
use Rattle.generation_pick.specs.declared.fault.PickFault.{PickFault}
use Rattle.generation_pick.specs.declared.found.Pick.{Pick}
use Rattle.image_outside.specs.Told.{BankTold}
use Rattle.image_assemble.specs.Endings.{Assembles}
use Rattle.refused_verdicts.specs.Told.{Expects, HoldsNewest, IsOfNoUse, Tells}
use Rattle.refused_verdicts.proofs.Lacking.{IsAnswered, answered, not_good}
use Rattle.refused_verdicts.proofs.Newest.{by_bytes, by_family, by_generation, newest_whole}
use Rattle.refused_verdicts.proofs.Places.{in_nil}
use Rattle.refused_verdicts.proofs.Seeing.{AreSeenSo, are_seen_so}

some_at : {X : Type 0} (xs : List X) (k : ℕ) (x : X) → k < length xs → (y : X) × (slice_get xs k ≡ Some y)
some_at xs k x below = (get_or xs k x, slice_get-get_or xs k x below)

abbrev no_disk : Seen
no_disk = record { disk = record { 0 = 0 }; serial = record { 0 = [] }; sectors = 0; holds = Blank }

-- there is a disk at each place
pub some_seen : (seen : List Seen) (k : ℕ) → k < length seen → (s : Seen) × (slice_get seen k ≡ Some s)
some_seen seen k below = some_at seen k no_disk below

module _ (opening : List (List Sector)) (log : List Call) (bank : BankTold) (tells : Tells opening log bank) where
  module _ (run : Bool) (lines : List ℕ) (status : ℕ) (does : Assembles run bank lines status) where
    pub assembled : AreSeenSo opening log bank does.seen
    assembled =
        are_seen_so opening log bank tells does.before does.fresh does.seen (let count = does.sees.count in omega (arith, count)) does.sees.each does.sees.looks

    pub all_seen : (k : ℕ) → k < length bank.serials → (s : Seen) × (slice_get does.seen k ≡ Some s)
    all_seen k below = some_seen does.seen k (let count = does.sees.count in omega (arith, count, below))

    -- the verdict is by the newest block
    pub by_newest : (bytes : List ℕ) → HoldsNewest opening bank bytes → (by : IsByNewest does.seen run does.verdict) → by.bytes ≡ bytes
    by_newest bytes newest by =
        let t = all_seen newest.disk (slice_get_within bank.serials newest.disk newest.own newest.holds.whole.named) in
        by_bytes opening log bank does.seen assembled bytes newest t.0 t.1 run does.verdict by

  module _ (seen : List Seen) (so : AreSeenSo opening log bank seen) (bytes : List ℕ) (entry : Part) (expects : Expects bytes entry) (useless : IsOfNoUse opening log bank entry) where
    -- an expected disk of no use is listed
    pub is_listed_so : (list : List Missing) → AreMissing seen (block_in bytes).disks list → (m : Missing) × Contains list m × IsMissing seen entry m
    is_listed_so list are = at (answered seen (block_in bytes).disks list are expects.place entry expects.there expects.expected) where
      at : IsAnswered seen list entry → (m : Missing) × Contains list m × IsMissing seen entry m
      at (inl good) = absurd (not_good opening log bank tells seen so entry useless good)
      at (inr listed) = listed

    pub not_none : AreMissing seen (block_in bytes).disks [] → ⊥
    not_none are = let (m, there, lacks) = is_listed_so [] are in in_nil m there

-- THE VERDICT BY THE NEWEST BLOCK

-- the verdict, by this block's bytes
pub record IsByBlock (seen : List Seen) (run : Bool) (bytes : List ℕ) (v : Verdict) : Type 0 where
  pub pick : Pick
  pub family : pick.family ≡ family_of (block_in bytes)
  pub generation : pick.generation ≡ generation_of (block_in bytes)
  pub missing : List Missing
  pub lack : AreMissing seen (block_in bytes).disks missing
  pub says : IsVerdictBy bytes pick seen run missing v

module _ (opening : List (List Sector)) (log : List Call) (bank : BankTold) (tells : Tells opening log bank) (bytes : List ℕ) (newest : HoldsNewest opening bank bytes)
    (run : Bool) (lines : List ℕ) (status : ℕ) (does : Assembles run bank lines status) where
  pub seen_newest : (t : Seen) × (slice_get does.seen newest.disk ≡ Some t)
  seen_newest = all_seen opening log bank tells run lines status does newest.disk (slice_get_within bank.serials newest.disk newest.own newest.holds.whole.named)

  pub whole_newest : IsWholeBlock bytes (block_in bytes)
  whole_newest =
      let t = seen_newest in
      newest_whole opening log bank does.seen (assembled opening log bank tells run lines status does) bytes newest t.0 t.1

  from_newest : IsByNewest does.seen run does.verdict → IsByBlock does.seen run bytes does.verdict
  from_newest by =
      let t = seen_newest in
      let so = assembled opening log bank tells run lines status does in
      let same = by_bytes opening log bank does.seen so bytes newest t.0 t.1 run does.verdict by in
      record {
        pick = by.pick;
        family = by_family opening log bank does.seen so bytes newest t.0 t.1 run does.verdict by;
        generation = by_generation opening log bank does.seen so bytes newest t.0 t.1 run does.verdict by;
        missing = by.missing;
        lack = subst (λ (b : List ℕ). AreMissing does.seen (block_in b).disks by.missing) same by.lack;
        says = subst (λ (b : List ℕ). IsVerdictBy b by.pick does.seen run by.missing does.verdict) same by.says;
      }

  -- a verdict that isn't a refusal for want of a newest block
  pub by_block : ((fault : PickFault) → does.verdict ≡ Refused fault → ⊥) → IsByBlock does.seen run bytes does.verdict
  by_block other = at does.says where
    at : IsVerdict does.seen run does.verdict → IsByBlock does.seen run bytes does.verdict
    at (inl (fault, refused, is)) = absurd (other fault is)
    at (inr by) = from_newest by
