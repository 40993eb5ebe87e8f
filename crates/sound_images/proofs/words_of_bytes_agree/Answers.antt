use Rattle.sound_images.proofs.Meaning.{words_agree, same_bytes, same_verdict}
use Rattle.sound_images.proofs.words_of_bytes_agree.Goals as goal

pub returns-clause-agree : goal.returns-clause-agree
returns-clause-agree c W reads = words_agree W reads

pub returns-clause-verdict : goal.returns-clause-verdict
returns-clause-verdict c W m b v x says there = same_verdict W m b says v x there

pub returns-clause-stands : goal.returns-clause-stands
returns-clause-stands c W i reads = same_bytes W i reads
