use Rattle.std.proofs.Common.{List, subst, inr}
use Rattle.std.specs.Prelude.{Contains}
use Rattle.units.specs.declared.disk.DiskNo.{DiskNo}
use Rattle.imsm_codec.specs.Mpb.{block_bytes}
use Rattle.generation_pick.specs.declared.found.FoundAt.{FoundAt}
use Rattle.generation_pick.specs.Picks.{IsPicked}
use Rattle.container.specs.Seen.{Container, containers_of}
use Rattle.container.proofs.Blocks.{container_sound}
use Rattle.container.proofs.Lists.{contains_map, if_ok_map}
use Rattle.container.proofs.judging.judge_seen.Goals as goal

abbrev view : FoundAt → Container
view f = record { disk = f.disk.0; bytes = block_bytes f.mpb }

pub judge_by-requires-clause-whole : goal.judge_by-requires-clause-whole
judge_by-requires-clause-whole c =
    let entries = c.in_ok-entries.entries.items in
    let newest = c.picked-newest.result.now in
    let there = subst (λ (l : List FoundAt). Contains l newest) c.as_slice-in-Ok.ensures.value c.picked-newest.ensures.there in
    container_sound c.args.seen.now c.requires.sound (view newest) (subst (λ (l : List Container). Contains l (view newest)) c.in_ok-entries.ensures (contains_map view entries newest there))

pub returns-in-Ok : goal.returns-in-Ok
returns-in-Ok c =
    let seen = c.args.seen.now in
    let entries = c.in_ok-entries.entries.items in
    let newest = c.picked-newest.result.now in
    let bytes = block_bytes newest.mpb in
    let p = c.in-Ok.pick in
    let there = subst (λ (l : List FoundAt). Contains l newest) c.as_slice-in-Ok.ensures.value c.picked-newest.ensures.there in
    if_ok_map c.judge_by.result
    (λ verdict by. inr (record {
      pick = p;
      bytes = bytes;
      newest = record {
        entries = entries;
        are = c.in_ok-entries.ensures;
        picked = subst (λ (l : List FoundAt). IsPicked l p) c.as_slice.ensures.value c.in-Ok.ensures;
        there = subst (λ (d : DiskNo). Contains (containers_of seen) (record { disk = d.0; bytes = bytes })) c.picked-newest.ensures.disk
            (subst (λ (l : List Container). Contains l (view newest)) c.in_ok-entries.ensures (contains_map view entries newest there));
        generation = c.picked-newest.ensures.generation;
      };
      missing = by.0;
      lack = by.1;
      says = by.2;
    }))
    c.judge_by.ensures
