-- A turn of the manager is a path: it takes a box back, or posts an update.
use Rattle.std.proofs.Common.{◌≡◌, ℕ, zero, suc, ◌<◌, nat_lt, Bool, true, false, cond, List, [], ◌∷◌, length, refl, arith, Option, Some, None}
use Rattle.std.proofs.lemmas.Bool.Decides.{nat_tests}
use Rattle.array_machine.specs.Setting.{Setting}
use Rattle.array_machine.specs.Rounds.{Ended, lives}
use Rattle.array_machine.specs.Managers.{Want, OfAsk, Update}
use Rattle.array_machine.specs.Turns.{no_call}
use Rattle.array_machine.specs.ManagerTurns.{first_unposted, to_post, posted_with, posts, manages_by, managing}
use Rattle.array_machine.specs.Changes.{SaysNothing, Posts}
use Rattle.array_paths.specs.InTurn.{InTurn}
use Rattle.array_paths.specs.Comes.{manages}
use Rattle.array_paths.specs.Effects.{Path, ends_here}
use Rattle.array_paths.proofs.Tests.{PathOf}
use Rattle.array_paths.proofs.RoundPaths.{lone}

module _ (S : Setting) (t : InTurn) (x : Ended) (alive : lives t.before.round.life ≡ true) where
  post_path : (want : Option Want) → ((w : Want) → want ≡ Some w → length t.before.manager.queue < 4)
      → Path S t t.before None x (posts S t.before want)
  post_path None few = ends_here x
  post_path (Some want) few =
      lone S t t.before x _
      (manages (posted_with S t.before want) (Posts t.before.manager.posted)
      (record { lives = alive; few = few want refl; want = want; number = refl; next = refl; queue = refl }))

  -- what is to be posted has its place
  has_place : (ask : Option ℕ) (queue : List Update) (w : Want) → to_post S t.before ask queue ≡ Some w
      → length queue < 4
  has_place None [] w is = omega arith
  has_place None (u ∷ us) w is = absurd cc
  has_place (Some i) queue w is = at (nat_lt (length queue) 4) refl is
    where
      at : (b : Bool) → nat_lt (length queue) 4 ≡ b → cond b (Some (OfAsk i)) None ≡ Some w → length queue < 4
      at true less is = grind (arith, nat_tests, less)
      at false less is = absurd cc

  returned_path : (n : ℕ) → Path S t t.before None x (manages_by S t.before n)
  returned_path zero = post_path _ (has_place (first_unposted 0 t.before.manager.asks) t.before.manager.queue)
  returned_path (suc n) =
      lone S t t.before x _ (manages (record t.before.manager { returned = n }) SaysNothing (refl, refl))

-- the manager's turn
pub manager_path : (S : Setting) (t : InTurn) (alive : Bool) → lives t.before.round.life ≡ alive
    → PathOf S t t.before (managing S t.before alive)
manager_path S t false is = ends_here no_call
manager_path S t true is = returned_path S t no_call is t.before.manager.returned
