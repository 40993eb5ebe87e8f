-- What is wrong with a metadata block on a disk, as words of a line. Source: this project's own.
use Rattle.std.specs.Prelude.{ℕ, List, [], ◌∷◌, codes}
use Rattle.std.specs.Fmt.{decimal}
use Rattle.imsm_codec.specs.declared.fault.MpbFault.{MpbFault}
use Rattle.imsm_codec.specs.declared.fault.MpbFault.TheVariants.{Short, Signature, Size, Cut, Checksum, Counts, Serials, Volume, BadBlocks}
use Rattle.mpb_store.specs.declared.answer.StoreFault.{StoreFault}
use Rattle.mpb_store.specs.declared.answer.StoreFault.TheVariants.{Mpb, NoOwn, Small}
use Rattle.imsm_text.specs.Text.{hex_number}

-- what is wrong with a block
abbrev pub block_words : MpbFault → List (List ℕ)
block_words (Short given) = codes "short" ∷ decimal given ∷ []
block_words Signature = codes "signature" ∷ []
block_words (Size n) = codes "size" ∷ decimal n ∷ []
block_words (Cut n given) = codes "cut" ∷ decimal n ∷ decimal given ∷ []
block_words (Checksum kept summed) = codes "checksum" ∷ hex_number kept ∷ hex_number summed ∷ []
block_words (Counts disks volumes) = codes "counts" ∷ decimal disks ∷ decimal volumes ∷ []
block_words (Serials i j) = codes "serials" ∷ decimal i ∷ decimal j ∷ []
block_words (Volume i) = codes "volume" ∷ decimal i ∷ []
block_words (BadBlocks n) = codes "badblocks" ∷ decimal n ∷ []

-- why a block isn't the disk's
abbrev pub fault_words : StoreFault → List (List ℕ)
fault_words (Mpb fault) = block_words fault
fault_words NoOwn = codes "noown" ∷ []
fault_words (Small named has) = codes "small" ∷ decimal named ∷ decimal has ∷ []

-- the same behind the word that says that there is such a fault
abbrev pub torn_words : StoreFault → List (List ℕ)
torn_words fault = codes "torn" ∷ fault_words fault
