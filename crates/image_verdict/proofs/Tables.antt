-- The serials of a table of which no image is there, one record after the other.
use Rattle.std.proofs.Common.{◌≡◌, ◌≤◌, ◌<◌, ◌+◌, ◌∙◌, ℕ, List, [], ◌∷◌, ◌++◌, Bool, true, false, cond, not, length, map, take, get_or, filter, sym, ap, subst, arith}
use Rattle.std.proofs.lemmas.List.{append-nil, take_more, take_all, length-append, map-append}
use Rattle.std.proofs.lemmas.List.Elements.{filter-append}
use Rattle.units.specs.declared.disk.Serial.{Serial}
use Rattle.imsm_base.specs.Fields.{Part}
use Rattle.imsm_base.specs.Layout.{disk_count_of, serial_of}
use Rattle.imsm_base.specs.Parts.{block_in}
use Rattle.image_verdict.specs.declared.images.ImageRead.{ImageRead}
use Rattle.image_verdict.specs.Reports.{absent, bytes_of_all, is_there}
use Rattle.imsm_codec.proofs.Found.{disks_counted}

abbrev pub missing_of : List ImageRead → List (List ℕ) → List (List ℕ)
missing_of images serials = filter (λ s. not (is_there images s)) serials

-- one more serial
one_more : (images : List ImageRead) (found : List Serial) (s : Serial) → bytes_of_all (cond (is_there images s.0) found (found ++ s ∷ [])) ≡ bytes_of_all found ++ missing_of images (s.0 ∷ [])
one_more images found s = at (is_there images s.0) where
  at : (b : Bool) → bytes_of_all (cond b found (found ++ s ∷ [])) ≡ bytes_of_all found ++ cond (not b) (s.0 ∷ []) []
  at true = sym (append-nil (bytes_of_all found))
  at false = map-append (λ (x : Serial). x.0) found (s ∷ [])

pub missing_more : (images : List ImageRead) (disks : List Part) (k : ℕ) (found more : List Serial) (s : Serial) → k < length disks → s.0 ≡ serial_of (get_or disks k [])
    → more ≡ cond (is_there images s.0) found (found ++ s ∷ []) → bytes_of_all found ≡ missing_of images (map serial_of (take k disks))
    → bytes_of_all more ≡ missing_of images (map serial_of (take (k + 1) disks))
missing_more images disks k found more s below serial pushed so_far =
    let next : map serial_of (take (k + 1) disks) ≡ map serial_of (take k disks) ++ s.0 ∷ [] =
    ap (map serial_of) (take_more disks k [] below) ∙ map-append serial_of (take k disks) (get_or disks k [] ∷ [])
    ∙ ap (λ (x : List ℕ). map serial_of (take k disks) ++ x ∷ []) (sym serial) in
    ap bytes_of_all pushed ∙ one_more images found s ∙ ap (λ (x : List (List ℕ)). x ++ missing_of images (s.0 ∷ [])) so_far
    ∙ sym (ap (missing_of images) next ∙ filter-append (λ (x : List ℕ). not (is_there images x)) (map serial_of (take k disks)) (s.0 ∷ []))

pub count_more : (images : List ImageRead) (k : ℕ) (found more : List Serial) (s : Serial) → more ≡ cond (is_there images s.0) found (found ++ s ∷ []) → length found ≤ k → length more ≤ k + 1
count_more images k found more s pushed few = subst (λ (x : List Serial). length x ≤ k + 1) (sym pushed) (at (is_there images s.0)) where
  at : (b : Bool) → length (cond b found (found ++ s ∷ [])) ≤ k + 1
  at true = omega arith
  at false = omega (arith, length-append found (s ∷ []))

pub all_missing : (images : List ImageRead) (bytes : List ℕ) (k : ℕ) (found : List Serial) → disk_count_of (block_in bytes) ≤ k
    → bytes_of_all found ≡ missing_of images (map serial_of (take k (block_in bytes).disks)) → bytes_of_all found ≡ absent images (block_in bytes)
all_missing images bytes k found all so_far =
    so_far ∙ ap (λ (x : List Part). missing_of images (map serial_of x)) (take_all k (block_in bytes).disks (omega (arith, disks_counted bytes)))
