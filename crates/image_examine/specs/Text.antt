-- The lines of what is found on a disk. Source: this project's own.
use Rattle.std.specs.Prelude.{ℕ, List, [], codes}
use Rattle.imsm_base.specs.Parts.{block_in}
use Rattle.mpb_store.specs.declared.answer.Found.{Found}
use Rattle.mpb_store.specs.declared.answer.Found.TheVariants.{Whole, Blank, Torn, Unread}
use Rattle.imsm_text.specs.Text.{line}
use Rattle.fault_text.specs.Words.{fault_words}
use Rattle.image_outside.specs.declared.status.TheConstants.Status.{DONE, REFUSED}
use Rattle.examine.specs.Lines.{examine_lines}

-- the lines of what is found, where these are the bytes of the block that is
abbrev pub found_text : Found → List ℕ → List ℕ
found_text Whole block = examine_lines (block_in block)
found_text Blank block = line (codes "blank") []
found_text (Torn fault) block = line (codes "torn") (fault_words fault)
found_text Unread block = line (codes "unread") []

-- the status with which it is printed
abbrev pub found_status : Found → ℕ
found_status Whole = DONE.0
found_status Blank = REFUSED.0
found_status (Torn fault) = REFUSED.0
found_status Unread = REFUSED.0
