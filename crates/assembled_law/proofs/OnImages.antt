-- What an assembly saw of disks is what stands on their images.
use Rattle.std.proofs.Common.{◌≡◌, ◌+◌, ℕ, zero, suc, false, List, [], ◌∷◌, length, map, Some, refl, sym, ap, subst, arith}
use Rattle.std.specs.Prelude.{slice_get, slice_index_or}
use Rattle.std.specs.List.{range_with_len}
use Rattle.units.specs.declared.disk.Sector.{Sector}
use Rattle.units.specs.declared.disk.Serial.{Serial}
use Rattle.device_log.specs.Log.{Call}
use Rattle.member_bank.specs.Faults.{Rose}
use Rattle.mpb_store.specs.declared.answer.Found.TheVariants as found
use Rattle.mpb_store.specs.Banks.{IsAnswerOn}
use Rattle.container.specs.declared.seen.Seen.{Seen}
use Rattle.container.specs.declared.seen.SeenAs.{SeenAs}
use Rattle.container.specs.declared.seen.SeenAs.TheVariants.{Whole, Blank, Torn, Unread}
use Rattle.container.specs.declared.verdict.Opening.{Opening}
use Rattle.container.specs.declared.verdict.Verdict.{Verdict}
use Rattle.container.specs.declared.verdict.Verdict.TheVariants.{Refused, Large, GenerationEnd, Waiting, Ready}
use Rattle.verdict_text.specs.Status.{verdict_status}
use Rattle.image_outside.specs.Told.{BankTold}
use Rattle.image_assemble.specs.Endings.{Assembles}
use Rattle.assembly.specs.Seen.{bytes_of, found_of}
use Rattle.sound_images.specs.Images.{Image}
use Rattle.stop_images.specs.Left.{image_after}
use Rattle.created_law.specs.OnBank.{disks_told}
use Rattle.verdict_law.specs.OnImages.{AreSeenOn, IsSeenOn}
use Rattle.refused_verdicts.proofs.Assembled.{assembled}
use Rattle.refused_verdicts.proofs.Seeing.{IsSeenSo}
use Rattle.assembled_law.specs.Present.{TellsWell, present_on}

at_place : {A : Type 0} (xs : List A) (k : ℕ) (x d : A) → slice_get xs k ≡ Some x → slice_index_or xs k d ≡ x
at_place {A} [] k x d is = absurd (cc is)
at_place {A} (y ∷ ys) zero x d is = cc is
at_place {A} (y ∷ ys) (suc k) x d is = at_place ys k x d is

unread_as : (holds : SeenAs) → found_of holds ≡ found.Unread → holds ≡ Unread
unread_as (Whole block) is = absurd (cc is)
unread_as Blank is = absurd (cc is)
unread_as (Torn fault) is = absurd (cc is)
unread_as Unread is = refl

not_risen : (n : ℕ) → n ≡ 0 → Rose 0 n → ⊥
not_risen n none rose = omega (arith, none, rose)

module _ (opening : List (List Sector)) (log : List Call) (bank : BankTold) (tells : TellsWell opening log bank) where
  seen_on : (k : ℕ) (s : Seen) → IsSeenSo opening bank k s → IsSeenOn (image_after (disks_told bank opening) [] k) s
  seen_on k s so =
      let named : slice_index_or bank.serials k (record { 0 = [] }) ≡ s.serial = at_place bank.serials k s.serial (record { 0 = [] }) so.serial in
      record {
        serial = sym (ap (λ (serial : Serial). serial.0) named);
        sectors = so.sectors;
        full = tells.full k;
        read = λ is. not_risen (bank.faults k) (tells.read k) (so.unread (unread_as s.holds is));
        stands = subst (λ (serial : Serial). IsAnswerOn serial.0 ((image_after (disks_told bank opening) [] k).sectors) (image_after (disks_told bank opening) [] k).at (found_of s.holds) (bytes_of s.holds)) (sym named) so.stands;
      }

each_on : (f : ℕ → Image) (k : ℕ) (seen : List Seen) → ((j : ℕ) (s : Seen) → slice_get seen j ≡ Some s → IsSeenOn (f (k + j)) s) → AreSeenOn (map f (range_with_len k (length seen))) seen
each_on f k [] each = tt
each_on f k (s ∷ seen) each = (
  subst (λ (n : ℕ). IsSeenOn (f n) s) (omega arith) (each zero s refl),
  each_on f (k + 1) seen (λ j t at. subst (λ (n : ℕ). IsSeenOn (f n) t) (omega arith) (each (suc j) t at)),
)

module _ (opening : List (List Sector)) (log : List Call) (bank : BankTold) (tells : TellsWell opening log bank) (lines : List ℕ) (status : ℕ) (does : Assembles false bank lines status) where
  pub are_seen_on : AreSeenOn (present_on bank opening) does.seen
  are_seen_on =
      subst (λ (n : ℕ). AreSeenOn (map (image_after (disks_told bank opening) []) (range_with_len 0 n)) does.seen) does.sees.count
      (each_on (image_after (disks_told bank opening) []) 0 does.seen
      (λ k s at. subst (λ (n : ℕ). IsSeenOn (image_after (disks_told bank opening) [] n) s) (omega arith) (seen_on opening log bank tells k s ((assembled opening log bank tells.tells false lines status does).each k s at))))

-- with status 0 the verdict is an opening
pub opened_by : (v : Verdict) → 0 ≡ verdict_status v → (o : Opening) × (v ≡ Ready o)
opened_by (Refused fault) is = absurd (let three : 0 ≡ 3 = is in cc three)
opened_by (Large family generation size) is = absurd (let three : 0 ≡ 3 = is in cc three)
opened_by (GenerationEnd family generation) is = absurd (let three : 0 ≡ 3 = is in cc three)
opened_by (Waiting family generation list) is = absurd (let two : 0 ≡ 2 = is in cc two)
opened_by (Ready o) is = (o, refl)
