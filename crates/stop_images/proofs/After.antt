-- The disks as they stand may be left.
use Rattle.std.proofs.Common.{◌≡◌, ℕ, zero, suc, ◌+◌, List, map, slice_get, Some, refl, ap, ◌∙◌, subst, arith}
use Rattle.std.specs.List.{range_with_len}
use Rattle.std.proofs.lemmas.List.FromFn.{length-map-range_with_len}
use Rattle.std.proofs.lemmas.Option.{none-some, same_Some}
use Rattle.device_log.specs.Log.{Call}
use Rattle.array_model.specs.Start.{Disks}
use Rattle.sound_images.specs.Images.{Image}
use Rattle.stop_images.specs.Left.{AreLeft, IsLeftOf, image_after, images_after}

item_is : (f : ℕ → Image) (a n d : ℕ) (i : Image) → slice_get (map f (range_with_len a n)) d ≡ Some i → f (a + d) ≡ i
item_is f a zero d i is = absurd (none-some i is)
item_is f a (suc n) zero i is = ap f (omega arith) ∙ same_Some (f a) i is
item_is f a (suc n) (suc d) i is = ap f (omega arith) ∙ item_is f (a + 1) n d i is

stands : (disks : Disks) (log : List Call) (d : ℕ) → IsLeftOf disks log d (image_after disks log d)
stands disks log d = record { serial = refl; sectors = refl; places = λ p below settled. refl }

pub after_at : (disks : Disks) (log : List Call) (d : ℕ) (i : Image) → slice_get (images_after disks log) d ≡ Some i → image_after disks log d ≡ i
after_at disks log d i is = ap (image_after disks log) (omega arith) ∙ item_is (image_after disks log) 0 disks.count d i is

pub after_is_left : (disks : Disks) (log : List Call) → AreLeft disks log (images_after disks log)
after_is_left disks log = record {
  count = length-map-range_with_len (image_after disks log) 0 disks.count;
  each = λ d i is. subst (IsLeftOf disks log d) (after_at disks log d i is) (stands disks log d);
}
