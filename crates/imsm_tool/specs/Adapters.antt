-- What contracts see of the files, the reader and the writer that a command works on. Source: this project's own.
use Rattle.std.specs.Prelude.{ℕ, List, Option, None, slice_index}
use Rattle.member_bank.specs.Files.{FileState}
use Rattle.image_outside.specs.Told.{BankTold}

-- what a bank of files tells: neither what they hold nor the calls on them
abbrev pub files_told : FileState → BankTold
files_told b =
    record { serials = b.serials; sizes = b.sizes; opening = None; log = None; faults = λ d. slice_index b.faults d }

-- the bank, but while it is lent, the paths of its files, and how often a file couldn't be opened
pub record FilesState : Type 0 where
  pub bank : Option FileState
  pub paths : List (List ℕ)
  pub faults : ℕ

-- the bytes that a reader has left, where they are known, and how often a read has failed
pub record ReaderState : Type 0 where
  pub remaining : Option (List ℕ)
  pub faults : ℕ

-- the bytes that a writer holds, where they are known, and how often a write has failed
pub record WriterState : Type 0 where
  pub contents : Option (List ℕ)
  pub faults : ℕ
