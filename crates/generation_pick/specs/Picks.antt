-- What is picked of a list, and why nothing is. Source: this project's own.
use Rattle.std.specs.Prelude.{◌≡◌, List, []}
use Rattle.generation_pick.specs.declared.fault.PickFault.{PickFault}
use Rattle.generation_pick.specs.declared.fault.PickFault.TheVariants.{None as Empty, Families, Twins}
use Rattle.generation_pick.specs.declared.found.FoundAt.{FoundAt}
use Rattle.generation_pick.specs.declared.found.Pick.{Pick}
use Rattle.generation_pick.specs.Found.{IsNewest, AreOneFamily, HasFamilies, HasNoTwins, HasTwins}

-- the newest block of a list of one container
pub record IsPicked (list : List FoundAt) (p : Pick) : Type 0 where
  pub newest : IsNewest list p
  pub one_family : AreOneFamily list
  pub apart : HasNoTwins list

-- families come before twins
abbrev pub HasPickFault : List FoundAt → PickFault → Type 0
HasPickFault list Empty = list ≡ []
HasPickFault list (Families a b) = HasFamilies list a b
HasPickFault list (Twins d e) = AreOneFamily list × HasTwins list d.0 e.0
