use Rattle.row_path.proofs.job.RowJob.write_need.Goals as goal

pub returns-in-None-next_sync-clause-below : goal.returns-in-None-next_sync-clause-below
returns-in-None-next_sync-clause-below c = c.answer.ensures.below _
