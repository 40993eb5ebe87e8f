-- The bytes of a record that is added.
use Rattle.std.proofs.Common.{◌≡◌, ℕ, ◌+◌, List, [], ◌∷◌, ◌++◌, length, replicate, refl, sym, ◌∙◌, ap, arith}
use Rattle.std.specs.List.{concat}
use Rattle.byteorder.specs.Endian.{little_bytes}
use Rattle.imsm_base.specs.Fields.{with_number_at}
use Rattle.imsm_base.specs.Layout.{HasLengths, disk_lengths}
use Rattle.imsm_buffer.specs.declared.record.DiskRecord.{DiskRecord}
use Rattle.imsm_buffer.specs.Record.{part_of}
use Rattle.imsm_buffer.proofs.Replaced.{replaced, replaced-behind}

-- a number that is put behind the serial
numbered : (serial rest bytes new : List ℕ) (at n : ℕ) → length serial ≡ 16 → new ≡ with_number_at 4 (16 + at) n bytes → bytes ≡ serial ++ rest → new ≡ serial ++ replaced at 4 (little_bytes 4 n) rest
numbered serial rest bytes new at n len put is =
    put ∙ ap (with_number_at 4 (16 + at) n) is ∙ replaced-behind serial rest (little_bytes 4 n) (16 + at) at 4 (omega arith)

pub record_made : (serial copied r1 r2 r3 r4 r5 : List ℕ) (low scsi status owner high : ℕ) → length copied ≡ 16 → copied ≡ serial →
    r1 ≡ with_number_at 4 16 low (copied ++ replicate 32 0) → r2 ≡ with_number_at 4 20 scsi r1 → r3 ≡ with_number_at 4 24 status r2 → r4 ≡ with_number_at 4 28 owner r3 → r5 ≡ with_number_at 4 32 high r4 →
    r5 ≡ concat (serial ∷ little_bytes 4 low ∷ little_bytes 4 scsi ∷ little_bytes 4 status ∷ little_bytes 4 owner ∷ little_bytes 4 high ∷ replicate 12 0 ∷ [])
record_made serial copied r1 r2 r3 r4 r5 low scsi status owner high len is one two three four five =
    let z0 : List ℕ = replicate 32 0 in
    let z1 : List ℕ = replaced 0 4 (little_bytes 4 low) z0 in
    let z2 : List ℕ = replaced 4 4 (little_bytes 4 scsi) z1 in
    let z3 : List ℕ = replaced 8 4 (little_bytes 4 status) z2 in
    let z4 : List ℕ = replaced 12 4 (little_bytes 4 owner) z3 in
    let z5 : List ℕ = replaced 16 4 (little_bytes 4 high) z4 in
    let m1 : r1 ≡ copied ++ z1 = numbered copied z0 (copied ++ z0) r1 0 low len one refl in
    let m2 : r2 ≡ copied ++ z2 = numbered copied z1 r1 r2 4 scsi len two m1 in
    let m3 : r3 ≡ copied ++ z3 = numbered copied z2 r2 r3 8 status len three m2 in
    let m4 : r4 ≡ copied ++ z4 = numbered copied z3 r3 r4 12 owner len four m3 in
    let m5 : r5 ≡ copied ++ z5 = numbered copied z4 r4 r5 16 high len five m4 in
    m5 ∙ ap (λ (x : List ℕ). x ++ z5) is

pub record_lengths : (added : DiskRecord) (copied : List ℕ) → length copied ≡ 16 → copied ≡ added.serial.0 → HasLengths disk_lengths (part_of added)
record_lengths added copied len is =
    ap (λ (n : ℕ). n ∷ 4 ∷ 4 ∷ 4 ∷ 4 ∷ 4 ∷ 12 ∷ []) (ap (λ (x : List ℕ). length x) (sym is) ∙ len)
