-- A pass that closes, and a disk that counts out.
-- Source: end_migration of super-intel.c. That a slot stays out of sync which the second map alone calls so, and what
-- counting out means, is this project's own.
use Rattle.std.specs.Prelude.{ℕ, ◌==◌, Bool, true, if◌then◌else◌, List, map, is_none}
use Rattle.imsm_base.specs.Layout.{Block, Volume, map_state_of}
use Rattle.imsm_base.specs.Volumes.{first_map, members, has_pass, volume_fault}
use Rattle.imsm_edit.specs.declared.facts.EditFacts.{EditFacts}
use Rattle.imsm_edit.specs.Meanings.{is_told, with_states, at_point, edited}
use Rattle.imsm_edit.specs.Failures.{without_member}
use Rattle.imsm_edit.specs.Slots.{changed_each, maps_marked, with_pass_over}

-- a slot that some map calls out of sync is so called by each
abbrev pub with_all_out : Volume → Volume
with_all_out v = maps_marked true (map (λ m. m.is_out) (members v)) v

-- The pass is over: each slot whose disk works is in sync, and the others are as they were. A rebuild that another
-- system began calls its slot out of sync in the second map alone, and that map goes.
abbrev pub with_pass_closed : List Bool → Volume → Volume
with_pass_closed working v = with_pass_over working (with_all_out v)

abbrev pub marked_closed : Block → ℕ → Bool → List Bool → Block
marked_closed b k broken working = edited b k broken (with_pass_closed working)

-- an open pass begins again at the first row
abbrev pub begun_again : Volume → Volume
begun_again v = if has_pass v then at_point 0 v else v

-- the states are set; an uninitialised volume keeps its own, by which its start knows that it needs an init
abbrev pub settled_out : Block → Bool → Volume → Volume
settled_out b broken v =
    if map_state_of (first_map v) == 1 then begun_again v else with_states b broken (begun_again v)

-- a volume without the slot of a disk that counts out; one that isn't started keeps its pass and its states
abbrev pub volume_out : Block → ℕ → EditFacts → ℕ → Volume → Volume
volume_out b i facts k v =
    if is_told facts.started.items k then settled_out b (is_told facts.broken.items k) (without_member i v)
    else without_member i v

-- each supported volume
abbrev pub marked_out : Block → ℕ → EditFacts → Block
marked_out b i facts = record b {
  volumes = changed_each (λ k v. if is_none (volume_fault b k v) then volume_out b i facts k v else v) b.volumes;
}
