use Rattle.image_create.specs.Creates.{disks_in}
use Rattle.stop_images.specs.Left.{images_after}
use Rattle.stop_images.proofs.After.{after_is_left}
use Rattle.created_law.specs.OnBank.{disks_told}
use Rattle.created_law.proofs.Law.{created_and_opens, sound}
use Rattle.created_law.proofs.Left.{left_are_made}
use Rattle.created_law.proofs.created_law.Goals as goal

pub returns-clause-sound : goal.returns-clause-sound
returns-clause-sound c W made bank lines opening log images reads created told logged left =
    sound W reads made (disks_in bank) created.fits created.typed images (left_are_made made bank lines opening log created told logged images left)

pub returns-clause-opens : goal.returns-clause-opens
returns-clause-opens c W made bank lines opening log images reads created told logged left =
    created_and_opens W reads made (disks_in bank) created.fits created.typed images (left_are_made made bank lines opening log created told logged images left)

pub returns-clause-stands : goal.returns-clause-stands
returns-clause-stands c W made bank lines opening log reads created told logged =
    let disks = disks_told bank opening in
    let are = left_are_made made bank lines opening log created told logged (images_after disks log) (after_is_left disks log) in
    let block = created_and_opens W reads made (disks_in bank) created.fits created.typed (images_after disks log) are in
    (block.0, block.1, sound W reads made (disks_in bank) created.fits created.typed (images_after disks log) are)
