use Rattle.refused_runs.proofs.forged_faults_are_refused.Goals as goal

pub returns-clause-first : goal.returns-clause-first
returns-clause-first c log ended limit calls admitted = admitted.form.causes.0

pub returns-clause-second : goal.returns-clause-second
returns-clause-second c log ended limit calls admitted = admitted.form.causes.0

pub returns-clause-both : goal.returns-clause-both
returns-clause-both c log ended limit calls admitted = admitted.form.causes.0
