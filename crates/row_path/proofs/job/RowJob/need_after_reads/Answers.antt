use Rattle.row_path.proofs.job.RowJob.need_after_reads.Goals as goal

pub returns-in-Read-clause-below : goal.returns-in-Read-clause-below
returns-in-Read-clause-below c = c.answer.ensures.below _
