-- The words of a fault, of a cause, of a volume and of a role tell them: what reads them gives them back.
use Rattle.std.proofs.Common.{◌≡◌, ℕ, List, [], ◌∷◌, drop, Option, Some, None, refl, ◌∙◌, ap}
use Rattle.std.specs.Prelude.{codes, if◌then◌else◌, slice_index_or}
use Rattle.std.specs.Fmt.{decimal}
use Rattle.std.specs.Str.{bytes_eq}
use Rattle.std.specs.Str.Parse.{digits_value}
use Rattle.std.proofs.lemmas.Fmt.{decimal_is_IsNumeral}
use Rattle.imsm_codec.specs.declared.fault.MpbFault.{MpbFault}
use Rattle.imsm_codec.specs.declared.fault.MpbFault.TheVariants.{Short, Signature, Size, Cut, Checksum, Counts, Serials, Volume, BadBlocks}
use Rattle.mpb_store.specs.declared.answer.StoreFault.{StoreFault}
use Rattle.mpb_store.specs.declared.answer.StoreFault.TheVariants.{Mpb, NoOwn, Small}
use Rattle.fault_text.specs.Words.{block_words, fault_words}
use Rattle.imsm_text.specs.Text.{hex_number}
use Rattle.imsm_view.specs.declared.fault.VolumeFault.{VolumeFault}
use Rattle.imsm_view.specs.declared.fault.VolumeFault.TheVariants.{Level, Policy, Migration, DiskIndex, Geometry, Overlap}
use Rattle.container.specs.declared.missing.Lack.{Lack}
use Rattle.container.specs.declared.missing.Lack.TheVariants as lack
use Rattle.container.specs.declared.role.DiskRole.{DiskRole}
use Rattle.container.specs.declared.role.DiskRole.TheVariants as role
use Rattle.container.specs.declared.volume.VolumeVerdict.{VolumeVerdict}
use Rattle.container.specs.declared.volume.VolumeVerdict.TheVariants.{Unsupported, Broken, Unfinished, Degraded, Started}
use Rattle.verdict_text.specs.Lines.{lack_words, pass_words, role_words, volume_fault_words, volume_words}
use Rattle.verdict_lines_law.specs.Same.{FitsBlockFault, FitsFault, FitsLack, FitsPass, FitsRole, FitsVolume, FitsVolumeFault, IsNumber, printed_role}
use Rattle.verdict_lines_law.proofs.Names.{code_in, code_told}

abbrev pub word_at : ℕ → List (List ℕ) → List ℕ
word_at k words = slice_index_or words k []

abbrev pub number_in : List ℕ → ℕ
number_in word = digits_value 10 word

pub number_told : (n : ℕ) → IsNumber n → number_in (decimal n) ≡ n
number_told n below = (decimal_is_IsNumeral n below).1

two_told : (f : ℕ → ℕ → MpbFault) (a b : ℕ) → IsNumber a → IsNumber b → f (number_in (decimal a)) (number_in (decimal b)) ≡ f a b
two_told f a b x y = ap (λ (n : ℕ). f n (number_in (decimal b))) (number_told a x) ∙ ap (f a) (number_told b y)

-- FAULTS

abbrev block_in : List (List ℕ) → MpbFault
block_in words =
    let word = word_at 0 words in
    if bytes_eq word (codes "short") then Short (number_in (word_at 1 words))
    else if bytes_eq word (codes "signature") then Signature
    else if bytes_eq word (codes "size") then Size (number_in (word_at 1 words))
    else if bytes_eq word (codes "cut") then Cut (number_in (word_at 1 words)) (number_in (word_at 2 words))
    else if bytes_eq word (codes "checksum") then Checksum (code_in (word_at 1 words)) (code_in (word_at 2 words))
    else if bytes_eq word (codes "counts") then Counts (number_in (word_at 1 words)) (number_in (word_at 2 words))
    else if bytes_eq word (codes "serials") then Serials (number_in (word_at 1 words)) (number_in (word_at 2 words))
    else if bytes_eq word (codes "volume") then Volume (number_in (word_at 1 words))
    else BadBlocks (number_in (word_at 1 words))

block_told : (fault : MpbFault) → FitsBlockFault fault → block_in (block_words fault) ≡ fault
block_told (Short given) fits = ap Short (number_told given fits)
block_told Signature fits = refl
block_told (Size n) fits = ap Size (number_told n fits)
block_told (Cut n given) fits = two_told Cut n given fits.0 fits.1
block_told (Checksum kept summed) fits = ap (λ (n : ℕ). Checksum n (code_in (hex_number summed))) (code_told kept fits.0) ∙ ap (Checksum kept) (code_told summed fits.1)
block_told (Counts disks volumes) fits = two_told Counts disks volumes fits.0 fits.1
block_told (Serials i j) fits = two_told Serials i j fits.0 fits.1
block_told (Volume i) fits = ap Volume (number_told i fits)
block_told (BadBlocks n) fits = ap BadBlocks (number_told n fits)

abbrev fault_in : List (List ℕ) → StoreFault
fault_in words =
    let word = word_at 0 words in
    if bytes_eq word (codes "noown") then NoOwn
    else if bytes_eq word (codes "small") then Small (number_in (word_at 1 words)) (number_in (word_at 2 words))
    else Mpb (block_in words)

mpb_told : (fault : MpbFault) → fault_in (block_words fault) ≡ Mpb (block_in (block_words fault))
mpb_told (Short given) = refl
mpb_told Signature = refl
mpb_told (Size n) = refl
mpb_told (Cut n given) = refl
mpb_told (Checksum kept summed) = refl
mpb_told (Counts disks volumes) = refl
mpb_told (Serials i j) = refl
mpb_told (Volume i) = refl
mpb_told (BadBlocks n) = refl

fault_told : (fault : StoreFault) → FitsFault fault → fault_in (fault_words fault) ≡ fault
fault_told (Mpb fault) fits = mpb_told fault ∙ ap Mpb (block_told fault fits)
fault_told NoOwn fits = refl
fault_told (Small named has) fits = ap (λ (n : ℕ). Small n (number_in (decimal has))) (number_told named fits.0) ∙ ap (Small named) (number_told has fits.1)

-- CAUSES AND ROLES

abbrev pub lack_in : List (List ℕ) → Lack
lack_in words =
    let word = word_at 0 words in
    if bytes_eq word (codes "absent") then lack.Absent
    else if bytes_eq word (codes "blank") then lack.Blank
    else if bytes_eq word (codes "spare") then lack.Spare
    else if bytes_eq word (codes "unread") then lack.Unread
    else lack.Torn (fault_in (drop 1 words))

pub lack_told : (cause : Lack) → FitsLack cause → lack_in (lack_words cause) ≡ cause
lack_told lack.Absent fits = refl
lack_told lack.Blank fits = refl
lack_told lack.Spare fits = refl
lack_told lack.Unread fits = refl
lack_told (lack.Torn fault) fits = ap lack.Torn (fault_told fault fits)

abbrev pub role_in : List (List ℕ) → DiskRole
role_in words =
    let word = word_at 0 words in
    if bytes_eq word (codes "member") then role.Member 0
    else if bytes_eq word (codes "failed") then role.Failed 0
    else if bytes_eq word (codes "spare") then role.Spare
    else if bytes_eq word (codes "stranger") then role.Stranger
    else if bytes_eq word (codes "blank") then role.Blank
    else if bytes_eq word (codes "unread") then role.Unread
    else role.Torn (fault_in (drop 1 words))

pub role_told : (r : DiskRole) → FitsRole r → role_in (role_words r) ≡ printed_role r
role_told (role.Member i) fits = refl
role_told (role.Failed i) fits = refl
role_told role.Spare fits = refl
role_told role.Stranger fits = refl
role_told role.Blank fits = refl
role_told (role.Torn fault) fits = ap role.Torn (fault_told fault fits)
role_told role.Unread fits = refl

-- VOLUMES

abbrev volume_fault_in : List (List ℕ) → VolumeFault
volume_fault_in words =
    let word = word_at 0 words in
    let number = number_in (word_at 1 words) in
    if bytes_eq word (codes "level") then Level number (number_in (word_at 2 words))
    else if bytes_eq word (codes "policy") then Policy number
    else if bytes_eq word (codes "migration") then Migration number
    else if bytes_eq word (codes "index") then DiskIndex (record { 0 = number })
    else if bytes_eq word (codes "geometry") then Geometry
    else Overlap (record { 0 = number })

volume_fault_told : (fault : VolumeFault) → FitsVolumeFault fault → volume_fault_in (volume_fault_words fault) ≡ fault
volume_fault_told (Level byte members) fits = ap (λ (n : ℕ). Level n (number_in (decimal members))) (number_told byte fits.0) ∙ ap (Level byte) (number_told members fits.1)
volume_fault_told (Policy byte) fits = ap Policy (number_told byte fits)
volume_fault_told (Migration type) fits = ap Migration (number_told type fits)
volume_fault_told (DiskIndex slot) fits = ap (λ (n : ℕ). DiskIndex (record { 0 = n })) (number_told slot.0 fits)
volume_fault_told Geometry fits = refl
volume_fault_told (Overlap other) fits = ap (λ (n : ℕ). Overlap (record { 0 = n })) (number_told other.0 fits)

abbrev pass_in : List (List ℕ) → Option ℕ
pass_in [] = None
pass_in (word ∷ words) = Some (number_in (word_at 0 words))

pass_told : (pass : Option ℕ) → FitsPass pass → pass_in (pass_words pass) ≡ pass
pass_told None fits = refl
pass_told (Some row) fits = ap Some (number_told row fits)

abbrev pub volume_in : List (List ℕ) → VolumeVerdict
volume_in words =
    let word = word_at 0 words in
    if bytes_eq word (codes "unsupported") then Unsupported (volume_fault_in (drop 1 words))
    else if bytes_eq word (codes "broken") then Broken
    else if bytes_eq word (codes "unfinished") then Unfinished
    else if bytes_eq word (codes "degraded") then Degraded (pass_in (drop 1 words))
    else Started (pass_in (drop 1 words))

pub volume_told : (v : VolumeVerdict) → FitsVolume v → volume_in (volume_words v) ≡ v
volume_told (Unsupported fault) fits = ap Unsupported (volume_fault_told fault fits)
volume_told Broken fits = refl
volume_told Unfinished fits = refl
volume_told (Degraded pass) fits = ap Degraded (pass_told pass fits)
volume_told (Started pass) fits = ap Started (pass_told pass fits)
