-- What is opened is a stage.
use Rattle.std.proofs.Common.{◌≡◌, ℕ, ◌^◌, ◌<◌, ◌≤◌, List, [], Option, Some, None, refl, ap, sym, subst, ◌∙◌, arith}
use Rattle.std.proofs.lemmas.List.{append-nil}
use Rattle.units.specs.declared.disk.DiskNo.{DiskNo}
use Rattle.units.specs.declared.disk.Sector.{Sector}
use Rattle.device_log.specs.Log.{Call}
use Rattle.array_model.specs.Blocks.{Laid}
use Rattle.array_model.specs.Kept.{JournalState}
use Rattle.block_meaning.specs.Reading.{block_words}
use Rattle.stage_machine.specs.Machine.{Control, opens, opens_true}
use Rattle.control_state.specs.declared.plan.Plan.{Plan}
use Rattle.control_state.specs.Begins.{begins_at}
use Rattle.control_state.specs.Book.{laid_at}
use Rattle.control_state.specs.Seen.{numbers}
use Rattle.stage.specs.Runs.{run_setting, FitsDisks, FitsBank, TellsOnlyReads, RanTrue}
use Rattle.stage.specs.Stages.{IsStage}

ran_open : (p : Plan) (newest : Laid) (sizes : List ℕ) (contents : Option (List (List Sector))) (told : Option (List Call)) → TellsOnlyReads told → RanTrue (run_setting p newest sizes) (begins_at p newest) 0 [] contents told
ran_open p newest sizes contents None reads = record {
  ran = record { before = []; reads = tt; log = []; run = opens; agrees = λ all at. absurd (cc at) };
  honest = λ opening all held known. absurd (cc known);
}
ran_open p newest sizes contents (Some before) reads = record {
  ran = record {
    before = before;
    reads = reads before refl;
    log = [];
    run = opens;
    agrees = λ all at. let same : before ≡ all = cc at in sym same ∙ sym (append-nil before);
  };
  honest = λ opening all held known. opens_true;
}

fits_as : (p : Plan) (targets members : List DiskNo) (pba size : ℕ) (sizes : List ℕ) → p.targets.items ≡ targets → p.members.items ≡ members → p.pba ≡ pba → p.size ≡ size
    → FitsDisks (numbers targets) (numbers members) pba size sizes → FitsBank p sizes
fits_as p targets members pba size sizes one two three four fits = rw (one, two, three, four) fits

pub opened : (p : Plan) (newest : Sector) (c : Control) (targets members : List DiskNo) (pba size limit : ℕ) (sizes : List ℕ) (j : JournalState) (contents : Option (List (List Sector))) (told : Option (List Call))
    → c ≡ begins_at p (laid_at newest) → p.targets.items ≡ targets → p.members.items ≡ members → p.pba ≡ pba → p.size ≡ size
    → FitsDisks (numbers targets) (numbers members) pba size sizes → block_words.generation newest < 0xff000000 → limit ≤ 2 ^ 20 → j ≡ record { entries = []; room = limit } → TellsOnlyReads told
    → IsStage (run_setting p (laid_at newest) sizes) p sizes c 0 j.entries j.room contents told
opened p newest c targets members pba size limit sizes j contents told begins one two three four fits generation few empty reads =
    let note : c.round.note ≡ block_words.generation newest = ap (λ (x : Control). x.round.note) begins in
    subst (λ (k : JournalState). IsStage (run_setting p (laid_at newest) sizes) p sizes c 0 k.entries k.room contents told) (sym empty)
    (record {
      ran = subst (λ (x : Control). RanTrue (run_setting p (laid_at newest) sizes) x 0 [] contents told) (sym begins) (ran_open p (laid_at newest) sizes contents told reads);
      fits = fits_as p targets members pba size sizes one two three four fits;
      few = omega arith;
      within = omega arith;
      notes = omega (arith, note, generation, few);
      roomy = tt;
    })
