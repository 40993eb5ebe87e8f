-- The words of a command. Source: this project's own.
use Rattle.std.specs.Prelude.{◌≡◌, ℕ, ◌-◌, ◌^◌, ◌<◌, ◌≤◌, ◌==◌, ◌&&◌, ◌⊎◌, nat_le, not, Bool, true, false, List, [], ◌∷◌, ◌++◌, length, map, codes, replicate, Option, Some, None, if◌then◌else◌, String, string_bytes}
use Rattle.std.specs.Str.Parse.{digits_value}
use Rattle.std.specs.Str.{bytes_eq}
use Rattle.std.specs.Fmt.{decimal}
use Rattle.std.specs.declared.alloc.Global.{Global}
use Rattle.std.specs.List.{AllByRecursion, list_all}
use Rattle.units.specs.declared.volume.Level.{Level}
use Rattle.units.specs.declared.volume.Level.TheVariants.{One, Five, Ten}
use Rattle.units.specs.declared.disk.Serial.{Serial}
use Rattle.units.specs.declared.bounds.TheConstants.{MAX_DISKS, SERIAL_BYTES}
use Rattle.new_container.specs.declared.container.NewContainer.{NewContainer}
use Rattle.new_container.specs.declared.volume.NewVolume.{NewVolume}
use Rattle.new_container.specs.Fits.{container_fits}
use Rattle.units.specs.Digits.{is_hex_digit}

-- a word NAME=FILE
pub record ImageWord : Type 0 where
  pub name : List ℕ
  pub file : List ℕ

abbrev pub spelled : ImageWord → List ℕ
spelled w = w.name ++ 0x3d ∷ w.file

-- a byte of a name: printed ASCII but for the blank, `=` and `\`
abbrev pub is_name_byte : ℕ → Bool
is_name_byte c = nat_le 0x21 c && nat_le c 0x7e && not (c == 0x3d) && not (c == 0x5c)

abbrev pub is_name : List ℕ → Bool
is_name bytes = nat_le 1 (length bytes) && nat_le (length bytes) SERIAL_BYTES && list_all is_name_byte bytes

-- a word that names an image: a name, and a file that isn't empty
pub record IsImageWord (w : ImageWord) : Type 0 where
  pub named : is_name w.name ≡ true
  pub filed : 1 ≤ length w.file

-- the serial of a name: its bytes, padded with zeros
abbrev pub padded_name : List ℕ → List ℕ
padded_name name = name ++ replicate (SERIAL_BYTES - length name) 0

-- no name and no file comes twice
abbrev pub is_apart_from : ImageWord → ImageWord → Bool
is_apart_from w v = not (bytes_eq v.name w.name) && not (bytes_eq v.file w.file)

abbrev pub are_distinct : List ImageWord → Bool
are_distinct [] = true
are_distinct (w ∷ ws) = list_all (is_apart_from w) ws && are_distinct ws

-- the words that name images, at least one
pub record AreImages (images : List ImageWord) : Type 0 where
  pub one : 1 ≤ length images
  pub each : AllByRecursion IsImageWord images
  pub distinct : are_distinct images ≡ true

abbrev pub assemble_word : List ℕ
assemble_word = codes "assemble"

abbrev pub incremental_word : List ℕ
incremental_word = codes "incremental"

abbrev pub replay_word : List ℕ
replay_word = codes "replay"

abbrev pub examine_word : List ℕ
examine_word = codes "examine"

abbrev pub create_word : List ℕ
create_word = codes "create"

abbrev pub run_word : List ℕ
run_word = codes "--run"

-- the option of a start without disks that lack
abbrev pub run_option : Bool → List (List ℕ)
run_option false = []
run_option true = run_word ∷ []

abbrev pub journal_word : List ℕ
journal_word = codes "--journal"

-- a word that gives the limit of a journal's entries
pub record IsLimit (limit : ℕ) (word : List ℕ) : Type 0 where
  pub word_is : word ≡ decimal limit
  pub low : 4 ≤ limit
  pub high : limit ≤ 2 ^ 20

-- the option of a journal's limit; where it isn't given the limit is 2^20
abbrev pub HasJournal : ℕ → List (List ℕ) → Type 0
HasJournal limit option =
    ((option ≡ []) × (limit ≡ 2 ^ 20))
    ⊎ ((word : List ℕ) × (option ≡ journal_word ∷ word ∷ []) × IsLimit limit word)

abbrev pub family_word : List ℕ
family_word = codes "--family"

-- a word of eight such digits, and the number of a family that it spells
abbrev pub is_family : List ℕ → Bool
is_family word = length word == 8 && list_all is_hex_digit word

abbrev pub family_of : List ℕ → Option ℕ
family_of word = if is_family word then Some (digits_value 16 word) else None

-- the option of a family's number; where it isn't given there is none
abbrev pub HasFamily : Option ℕ → List (List ℕ) → Type 0
HasFamily None option = option ≡ []
HasFamily (Some family) option = (word : List ℕ) × (option ≡ family_word ∷ word ∷ []) × (family_of word ≡ Some family)

-- the word of a volume's level
abbrev pub level_word : Level → List ℕ
level_word One = codes "1"
level_word Five = codes "5"
level_word Ten = codes "10"

-- the words L STRIP SIZE of a volume, and those of a second volume, if one is made
abbrev pub volume_words : NewVolume → List (List ℕ)
volume_words v = level_word v.level ∷ decimal v.strip ∷ decimal v.size ∷ []

abbrev pub second_words : Option NewVolume → List (List ℕ)
second_words None = []
second_words (Some v) = volume_words v

-- a command `FIRST [--run] NAME=FILE..`, which gives a verdict
pub record IsVerdictOf (first : List ℕ) (words : List (List ℕ)) (run : Bool) (images : List ImageWord) : Type 0 where
  pub words_are : words ≡ first ∷ (run_option run ++ map spelled images)
  pub named : AreImages images

-- the commands `assemble [--run] NAME=FILE..` and `incremental [--run] NAME=FILE..`
abbrev pub IsAssemble : List (List ℕ) → Bool → List ImageWord → Type 0
IsAssemble words run images = IsVerdictOf assemble_word words run images

abbrev pub IsIncremental : List (List ℕ) → Bool → List ImageWord → Type 0
IsIncremental words run images = IsVerdictOf incremental_word words run images

-- the command `replay [--journal N] NAME=FILE..`
pub record IsReplay (words : List (List ℕ)) (limit : ℕ) (images : List ImageWord) : Type 0 where
  pub option : List (List ℕ)
  pub given : HasJournal limit option
  pub words_are : words ≡ replay_word ∷ (option ++ map spelled images)
  pub named : AreImages images

-- the command `examine NAME=FILE`
pub record IsExamine (words : List (List ℕ)) (images : List ImageWord) : Type 0 where
  pub words_are : words ≡ examine_word ∷ map spelled images
  pub named : AreImages images
  pub alone : length images ≡ 1

-- the command `create [--family H] L STRIP SIZE [L STRIP SIZE] NAME=FILE..`
pub record IsCreate (words : List (List ℕ)) (made : NewContainer) (images : List ImageWord) : Type 0 where
  pub option : List (List ℕ)
  pub given : HasFamily made.family option
  pub words_are : words
      ≡ create_word ∷ (option ++ (volume_words made.first ++ (second_words made.second ++ map spelled images)))
  pub named : AreImages images
  pub fitting : container_fits made (length images) ≡ true

-- the command of words names these images
abbrev pub Names : List (List ℕ) → List ImageWord → Type 0
Names words images =
    ((run : Bool) × IsAssemble words run images)
    ⊎ ((run : Bool) × IsIncremental words run images)
    ⊎ ((limit : ℕ) × IsReplay words limit images)
    ⊎ IsExamine words images
    ⊎ ((made : NewContainer) × IsCreate words made images)

-- the grammar of words
abbrev pub IsCommand : List (List ℕ) → Type 0
IsCommand words = (images : List ImageWord) × Names words images

-- a command that opens its images, and one that names more of them than are opened
abbrev pub IsWithinLimit : List (List ℕ) → Type 0
IsWithinLimit words = (images : List ImageWord) × Names words images × (length images ≤ MAX_DISKS)

abbrev pub IsPastLimit : List (List ℕ) → Type 0
IsPastLimit words = (images : List ImageWord) × Names words images × (MAX_DISKS < length images)

-- what is known of words as text
abbrev pub texts : List (String Global) → List (List ℕ)
texts words = map (λ w. string_bytes w) words

-- the serial under which an image is opened
abbrev pub serial_named : ImageWord → Serial
serial_named w = record { 0 = padded_name w.name }

abbrev pub serials_named : List ImageWord → List Serial
serials_named images = map serial_named images
