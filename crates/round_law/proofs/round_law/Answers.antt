use Rattle.round_law.proofs.Law.{round_reached, last_reached}
use Rattle.round_law.proofs.Containers.{containers_reached}
use Rattle.round_law.proofs.Endings.{endings_reached}
use Rattle.round_law.proofs.Renewed.{renewed_reached}
use Rattle.round_law.proofs.round_law.Goals as goal

pub returns-clause-one : goal.returns-clause-one
returns-clause-one c S w renews on volume fits r = round_reached S renews on volume w fits r

pub returns-clause-kept : goal.returns-clause-kept
returns-clause-kept c S w renews on volume fits r = last_reached S renews on volume w fits r

pub returns-clause-containers : goal.returns-clause-containers
returns-clause-containers c S w renews on volume fits r = containers_reached S renews on volume w fits r

pub returns-clause-endings : goal.returns-clause-endings
returns-clause-endings c S w renews on volume fits r = endings_reached S renews on volume w fits r

pub returns-clause-renewed : goal.returns-clause-renewed
returns-clause-renewed c S w asks renews on volume fits r = renewed_reached S asks renews on volume w fits r
