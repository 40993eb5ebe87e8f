-- What is seen of disks that tell what stood on them is told, but for the room of their blocks.
use Rattle.std.proofs.Common.{◌≡◌, ◌≢◌, ◌<◌, ◌≤◌, ℕ, suc, Bool, true, false, List, [], ◌∷◌, length, map, take, Some, refl, sym, ◌∙◌, ap, subst, arith}
use Rattle.std.specs.Prelude.{get_or, slice_get, slice_index}
use Rattle.std.specs.Option.{option_map}
use Rattle.std.proofs.lemmas.Bool.{false≢true}
use Rattle.std.proofs.lemmas.List.{length-map, length-take-le}
use Rattle.std.proofs.lemmas.Option.{get_or_from_slice_get, slice_get-map}
use Rattle.units.specs.declared.disk.DiskNo.{DiskNo}
use Rattle.units.specs.declared.disk.Sector.{Sector}
use Rattle.units.specs.declared.disk.Serial.{Serial}
use Rattle.imsm_text.specs.Text.{serial_text}
use Rattle.device_log.specs.Log.{Call}
use Rattle.mpb_store.specs.declared.answer.Found.{Found}
use Rattle.mpb_store.specs.declared.answer.Found.TheVariants as found
use Rattle.mpb_store.specs.Answers.{IsFound, bytes_on}
use Rattle.mpb_store.specs.Banks.{is_unread}
use Rattle.container.specs.declared.seen.Seen.{Seen}
use Rattle.container.specs.declared.seen.SeenAs.{SeenAs}
use Rattle.container.specs.declared.seen.SeenAs.TheVariants as seen_as
use Rattle.container.specs.Seen.{HaveOwnSerials}
use Rattle.assembly.specs.Seen.{are_unread, bytes_of, found_of}
use Rattle.image_outside.specs.Told.{BankTold}
use Rattle.refused_verdicts.specs.Told.{Tells, stood_on}
use Rattle.refused_verdicts.proofs.Assembled.{some_seen}
use Rattle.refused_verdicts.proofs.Moved.{AllAlike, AreAlike}
use Rattle.refused_verdicts.proofs.Parsed.{one_parse}
use Rattle.refused_verdicts.proofs.Places.{of_front, same_at}
use Rattle.refused_verdicts.proofs.Seeing.{AreSeenSo, IsSeenSo}

-- ONE DISK

pub unread_found : (f : Found) → is_unread f ≡ true → f ≡ found.Unread
unread_found found.Whole is = absurd (false≢true is)
unread_found found.Blank is = absurd (false≢true is)
unread_found (found.Torn fault) is = absurd (false≢true is)
unread_found found.Unread is = refl

read_found : (f : Found) → is_unread f ≡ false → f ≢ found.Unread
read_found f is unread = false≢true (sym is ∙ ap is_unread unread)

-- bytes stand for a whole block alone
no_bytes : (a b : SeenAs) → found_of a ≡ found_of b → (found_of a ≡ found.Whole → bytes_of a ≡ bytes_of b) → bytes_of a ≡ bytes_of b
no_bytes a b same whole = at (found_of a) refl where
  none : (h : SeenAs) → found_of h ≢ found.Whole → bytes_of h ≡ []
  none (seen_as.Whole block) other = absurd (other refl)
  none seen_as.Blank other = refl
  none (seen_as.Torn fault) other = refl
  none seen_as.Unread other = refl

  at : (f : Found) → found_of a ≡ f → bytes_of a ≡ bytes_of b
  at found.Whole is = whole is
  at found.Blank is = none a (λ other. let both : found.Blank ≡ found.Whole = sym is ∙ other in cc both) ∙ sym (none b (λ other. let both : found.Blank ≡ found.Whole = sym is ∙ same ∙ other in cc both))
  at (found.Torn fault) is = none a (λ other. let both : found.Torn fault ≡ found.Whole = sym is ∙ other in cc both) ∙ sym (none b (λ other. let both : found.Torn fault ≡ found.Whole = sym is ∙ same ∙ other in cc both))
  at found.Unread is = none a (λ other. let both : found.Unread ≡ found.Whole = sym is ∙ other in cc both) ∙ sym (none b (λ other. let both : found.Unread ≡ found.Whole = sym is ∙ same ∙ other in cc both))

module _ (opening : List (List Sector)) (bank : BankTold) (k : ℕ) (s t : Seen) (one : IsSeenSo opening bank k s) (other : IsSeenSo opening bank k t) (reads : is_unread (found_of s.holds) ≡ is_unread (found_of t.holds)) where
  same_serial : s.serial ≡ t.serial
  same_serial = same_at bank.serials k s.serial t.serial one.serial other.serial

  same_found : (b : Bool) → is_unread (found_of s.holds) ≡ b → found_of s.holds ≡ found_of t.holds
  same_found true is = unread_found (found_of s.holds) is ∙ sym (unread_found (found_of t.holds) (sym reads ∙ is))
  same_found false is =
      let there = (one.stands.exact (read_found (found_of s.holds) is) (found_of s.holds)).0 refl in
      sym ((other.stands.exact (read_found (found_of t.holds) (sym reads ∙ is)) (found_of s.holds)).1
      (subst (λ (x : Serial). IsFound x.0 (slice_index bank.sizes k) (bytes_on (slice_index bank.sizes k) (stood_on opening k)) (found_of s.holds)) same_serial there))

  pub same_disk : s.disk ≡ t.disk
  same_disk = ap (λ (n : ℕ). let d : DiskNo = record { 0 = n } in d) (one.disk ∙ sym other.disk)

  pub alike : AreAlike s t
  alike =
      let found = same_found (is_unread (found_of s.holds)) refl in
      record {
        serial = same_serial;
        sectors = one.sectors ∙ sym other.sectors;
        found = found;
        bytes = no_bytes s.holds t.holds found (λ whole. one.stands.loaded whole ∙ sym (other.stands.loaded (sym found ∙ whole)));
      }

-- ALL DISKS

all_alike : (seen others : List Seen) → length seen ≡ length others → ((k : ℕ) (s t : Seen) → slice_get seen k ≡ Some s → slice_get others k ≡ Some t → (s.disk ≡ t.disk) × AreAlike s t) → AllAlike seen others
all_alike [] [] count each = tt
all_alike [] (t ∷ others) count each = absurd (omega (arith, count))
all_alike (s ∷ seen) [] count each = absurd (omega (arith, count))
all_alike (s ∷ seen) (t ∷ others) count each = (each 0 s t refl refl, all_alike seen others (omega (arith, count)) (λ k x y at there. each (suc k) x y at there))

module _ (opening : List (List Sector)) (log : List Call) (bank : BankTold) where
  module _ (seen others : List Seen) (one : AreSeenSo opening log bank seen) (other : AreSeenSo opening log bank others) (count : length seen ≤ length others) where
    same_reads : are_unread seen ≡ take (length seen) (are_unread others)
    same_reads =
        let first = length-map seen (λ (s : Seen). is_unread (found_of s.holds)) in
        let second = length-map others (λ (s : Seen). is_unread (found_of s.holds)) in
        one_parse bank.sizes opening 0 (are_unread seen) (are_unread others) log (omega (arith, first, second, count)) one.calls other.calls
        ∙ ap (λ (n : ℕ). take n (are_unread others)) first

    read_at : (k : ℕ) (list : List Seen) (s : Seen) → slice_get list k ≡ Some s → slice_get (are_unread list) k ≡ Some (is_unread (found_of s.holds))
    read_at k list s at = slice_get-map (λ (s : Seen). is_unread (found_of s.holds)) list k ∙ ap (option_map (λ (s : Seen). is_unread (found_of s.holds))) at

    -- the first disks of the one are those of the other
    pub seen_alike : AllAlike seen (take (length seen) others)
    seen_alike = all_alike seen (take (length seen) others) (sym (length-take-le (length seen) others count)) (λ k s t at there.
        let whole = of_front others (length seen) k t there in
        let read : slice_get (are_unread others) k ≡ Some (is_unread (found_of s.holds)) =
        of_front (are_unread others) (length seen) k (is_unread (found_of s.holds)) (ap (λ (l : List Bool). slice_get l k) (sym same_reads) ∙ read_at k seen s at) in
        let both : Some (is_unread (found_of s.holds)) ≡ Some (is_unread (found_of t.holds)) = sym read ∙ read_at k others t whole in
        (same_disk opening bank k s t (one.each k s at) (other.each k t whole) (cc both), alike opening bank k s t (one.each k s at) (other.each k t whole) (cc both)))

  pub own_serials : (seen : List Seen) → Tells opening log bank → ((k : ℕ) (s : Seen) → slice_get seen k ≡ Some s → IsSeenSo opening bank k s) → HaveOwnSerials seen
  own_serials seen tells each i j d up below same =
      let count = length-map seen (λ (s : Seen). s.serial) in
      let first = at i (omega (arith, up, below, count)) d in
      let second = at j (omega (arith, below, count)) d in
      let i_is = tells.own i j _ _ first second (ap serial_text same) in
      omega (arith, i_is, up)
    where
      at : (k : ℕ) → k < length seen → (d : Serial) → slice_get bank.serials k ≡ Some (get_or (map (λ (s : Seen). s.serial) seen) k d)
      at k k_below d =
          let s = some_seen seen k k_below in
          (each k s.0 s.1).serial ∙ sym (ap (λ (x : Serial). Some x) (get_or_from_slice_get (map (λ (s : Seen). s.serial) seen) k s.0.serial d
          (slice_get-map (λ (s : Seen). s.serial) seen k ∙ ap (option_map (λ (s : Seen). s.serial)) s.1)))
