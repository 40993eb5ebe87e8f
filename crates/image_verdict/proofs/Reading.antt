-- Anchors that are read, one disk after the other.
use Rattle.std.proofs.Common.{◌≡◌, ◌<◌, ◌≤◌, ◌+◌, inl, inr, ℕ, zero, suc, List, [], ◌∷◌, ◌++◌, Bool, true, false, cond, length, map, take, Option, Some, None, refl, sym, ◌∙◌, ap, subst, arith, append_assoc}
use Rattle.std.specs.Prelude.{IfSome, slice_get, slice_index, slice_index_or, is_some, nat_lt}
use Rattle.std.specs.Option.{IsSomeAnd}
use Rattle.std.proofs.lemmas.Option.{get_or_from_slice_get, slice_get-get_or, slice_get_within}
use Rattle.std.proofs.lemmas.List.{append-nil, length-append, map-append, take_all}
use Rattle.std.proofs.lemmas.Grind.{take_at_read}
use Rattle.units.specs.declared.bounds.TheConstants.{METADATA_SECTORS}
use Rattle.units.specs.declared.disk.Sector.{Sector}
use Rattle.units.specs.Places.{anchor_place}
use Rattle.device_log.specs.Log.{Call, Read, OnlyReads}
use Rattle.device_log.specs.Cells.{Cell, Stands, cell_after, resting}
use Rattle.member_bank.specs.Told.{Keeps, LogsAll, Gives}
use Rattle.image_outside.specs.Shelves.{HasOnlyReads, IsUncalled}
use Rattle.image_outside.specs.Told.{BankTold}
use Rattle.image_verdict.specs.declared.images.ImageRead.{ImageRead}
use Rattle.image_verdict.specs.Images.{anchor_calls, anchor_reads, anchor_reads_from, serials_of_all, sizes_of_all, HasReadFirst, IsAnchorOn, IsFoundOn, StandIn}
use Rattle.device_log.proofs.Cells.{cell_after-reads}

stands_first : (o : List (List Sector)) (log : List Call) (d p : ℕ) (s : Sector) → OnlyReads log → Stands o log d p s
    → slice_get (slice_index_or o d []) p ≡ Some s
stands_first o log d p s reads = at (slice_get (slice_index_or o d []) p) where
  at : (first : Option Sector) → IsSomeAnd first (λ (f : Sector). (cell_after d p (resting f) log).stood ≡ s) → first ≡ Some s
  at None stands = absurd stands
  at (Some f) stands = ap (λ (x : Sector). Some x) (sym (ap (λ (c : Cell). c.stood) (cell_after-reads d p (resting f) log reads)) ∙ stands)

-- THE CALLS

calls_only_read : (d n : ℕ) (a : Option Sector) → OnlyReads (anchor_calls d n a)
calls_only_read d n a = at (nat_lt n METADATA_SECTORS) where
  at : (small : Bool) → OnlyReads (cond small [] (record { disk = d; what = Read (anchor_place n); went = is_some a } ∷ []))
  at true = tt
  at false = (tt, tt)

only_reads_both : (xs ys : List Call) → OnlyReads xs → OnlyReads ys → OnlyReads (xs ++ ys)
only_reads_both [] ys first second = second
only_reads_both (x ∷ xs) ys first second = (first.0, only_reads_both xs ys first.1 second)

reads_from : (d : ℕ) (images : List ImageRead) → OnlyReads (anchor_reads_from d images)
reads_from d [] = tt
reads_from d (i ∷ is) = only_reads_both (anchor_calls d i.sectors i.anchor) (anchor_reads_from (suc d) is) (calls_only_read d i.sectors i.anchor) (reads_from (suc d) is)

pub anchors_only_read : (images : List ImageRead) → OnlyReads (anchor_reads images)
anchors_only_read images = reads_from 0 images

more_from : (d n : ℕ) (images : List ImageRead) (i : ImageRead) → d + length images ≡ n
    → anchor_reads_from d (images ++ i ∷ []) ≡ anchor_reads_from d images ++ anchor_calls n i.sectors i.anchor
more_from d n [] i is =
    let same : d ≡ n = omega (arith, is) in
    append-nil (anchor_calls d i.sectors i.anchor) ∙ ap (λ (k : ℕ). anchor_calls k i.sectors i.anchor) same
more_from d n (x ∷ xs) i is =
    ap (λ (calls : List Call). anchor_calls d x.sectors x.anchor ++ calls) (more_from (suc d) n xs i (omega (arith, is)))
    ∙ sym (append_assoc (anchor_calls d x.sectors x.anchor) (anchor_reads_from (suc d) xs) (anchor_calls n i.sectors i.anchor))

-- THE IMAGES OF THE FIRST DISKS

-- what each anchor that was read is, by what the disks held
abbrev pub Stood : List (List Sector) → ℕ → ImageRead → Type 0
Stood contents d image = IfSome image.anchor (λ (a : Sector). slice_get (slice_index_or contents d []) (anchor_place image.sectors) ≡ Some a)

-- the images of so many disks of a bank were read, and nothing but that was done
pub record AreFound (bank : BankTold) (count : ℕ) (images : List ImageRead) : Type 0 where
  pub counted : length images ≡ count
  pub named : serials_of_all images ≡ take count bank.serials
  pub sized : sizes_of_all images ≡ take count bank.sizes
  pub anchors : (d : ℕ) (image : ImageRead) → slice_get images d ≡ Some image → IsAnchorOn bank d image.sectors image.anchor
  pub stand : (contents : List (List Sector)) (log : List Call) → bank.opening ≡ Some contents → bank.log ≡ Some log
      → (d : ℕ) (image : ImageRead) → slice_get images d ≡ Some image → Stood contents d image
  pub calls : (log : List Call) → bank.log ≡ Some log → log ≡ anchor_reads images

-- what was so of each image is so of one more
each_more : (P : ℕ → ImageRead → Type 0) (images : List ImageRead) (image : ImageRead) → ((d : ℕ) (i : ImageRead) → slice_get images d ≡ Some i → P d i)
    → P (length images) image → (d : ℕ) (i : ImageRead) → slice_get (images ++ image ∷ []) d ≡ Some i → P d i
each_more P [] image each last zero i is = let same : image ≡ i = cc is in subst (P 0) same last
each_more P [] image each last (suc d) i is = absurd (cc is)
each_more P (x ∷ xs) image each last zero i is = each 0 i is
each_more P (x ∷ xs) image each last (suc d) i is =
    each_more (λ k. P (suc k)) xs image (λ k j at. each (suc k) j at) last d i is

take_next : {X : Type 0} (xs : List X) (d : ℕ) (x : X) → slice_get xs d ≡ Some x → take (d + 1) xs ≡ take d xs ++ x ∷ []
take_next xs d x there =
    (take_at_read xs d x (slice_get_within xs d x there)).1 ∙ ap (λ y. take d xs ++ y ∷ []) (get_or_from_slice_get xs d x x there)

mapped_next : {X : Type 0} (f : ImageRead → X) (xs : List X) (d : ℕ) (images : List ImageRead) (image : ImageRead) → map f images ≡ take d xs → slice_get xs d ≡ Some (f image)
    → map f (images ++ image ∷ []) ≡ take (d + 1) xs
mapped_next f xs d images image so_far there = map-append f images (image ∷ []) ∙ ap (λ ys. ys ++ f image ∷ []) so_far ∙ sym (take_next xs d (f image) there)

size_there : (sizes : List ℕ) (d n : ℕ) → d < length sizes → n ≡ slice_index sizes d → slice_get sizes d ≡ Some n
size_there sizes d n within is = slice_get-get_or sizes d 0 within ∙ ap (λ m. Some m) (sym is)

-- a count that rose stays one that rose
anchor_later : (old new : BankTold) (d n : ℕ) (a : Option Sector) → ((k : ℕ) → old.faults k ≤ new.faults k) → IsAnchorOn old d n a → IsAnchorOn new d n a
anchor_later old new d n (Some a) later is = is
anchor_later old new d n None later (inl small) = inl small
anchor_later old new d n None later (inr rose) = inr (let more = later d in omega (arith, more, rose))

-- an anchor that stands after reads stood there before
stood_now : (bank : BankTold) (d n : ℕ) (a : Option Sector) (contents : List (List Sector)) (log : List Call) → bank.opening ≡ Some contents → bank.log ≡ Some log → OnlyReads log
    → IfSome a (λ (s : Sector). Gives bank.opening bank.log d (anchor_place n) s)
    → IfSome a (λ (s : Sector). slice_get (slice_index_or contents d []) (anchor_place n) ≡ Some s)
stood_now bank d n None contents log held known reads gives = tt
stood_now bank d n (Some s) contents log held known reads gives =
    stands_first contents log d (anchor_place n) s reads
    (subst (λ (x : Option (List Call)). Gives (Some contents) x d (anchor_place n) s) known
    (subst (λ (x : Option (List (List Sector))). Gives x bank.log d (anchor_place n) s) held gives))

-- one more image
module _ (old new : BankTold) (d : ℕ) (images : List ImageRead) (image : ImageRead) (so_far : AreFound old d images) (below : d < length old.sizes)
    (serial : slice_get old.serials d ≡ Some image.serial) (sectors : image.sectors ≡ slice_index old.sizes d)
    (logs : LogsAll old.log new.log (anchor_calls d image.sectors image.anchor))
    (gives : IfSome image.anchor (λ (a : Sector). Gives new.opening new.log d (anchor_place image.sectors) a))
    (anchor : IsAnchorOn new d image.sectors image.anchor) (keeps : Keeps old.opening new.opening) (later : (k : ℕ) → old.faults k ≤ new.faults k)
    (sizes : new.sizes ≡ old.sizes) (serials : new.serials ≡ old.serials) where
  more_calls : (log : List Call) → new.log ≡ Some log → log ≡ anchor_reads (images ++ image ∷ [])
  more_calls log known =
      let h = logs log known in
      h.2 ∙ ap (λ (l : List Call). l ++ anchor_calls d image.sectors image.anchor) (so_far.calls h.0 h.1) ∙ sym (more_from 0 d images image (omega (arith, so_far.counted)))

  only : (log : List Call) → new.log ≡ Some log → OnlyReads log
  only log known = subst OnlyReads (sym (more_calls log known)) (anchors_only_read (images ++ image ∷ []))

  pub found_more : AreFound new (d + 1) (images ++ image ∷ [])
  found_more = record {
    counted = omega (arith, length-append images (image ∷ []), so_far.counted);
    named = mapped_next (λ (i : ImageRead). i.serial) old.serials d images image so_far.named serial ∙ ap (take (d + 1)) (sym serials);
    sized = mapped_next (λ (i : ImageRead). i.sectors) old.sizes d images image so_far.sized (size_there old.sizes d image.sectors below sectors) ∙ ap (take (d + 1)) (sym sizes);
    anchors = each_more (λ k i. IsAnchorOn new k i.sectors i.anchor) images image
        (λ k i at. anchor_later old new k i.sectors i.anchor later (so_far.anchors k i at))
        (subst (λ n. IsAnchorOn new n image.sectors image.anchor) (sym so_far.counted) anchor);
    stand = λ contents log held known.
        let before = logs log known in
        each_more (Stood contents) images image (so_far.stand contents before.0 (keeps contents held) before.1)
        (subst (λ n. Stood contents n image) (sym so_far.counted) (stood_now new d image.sectors image.anchor contents log held known (only log known) gives));
    calls = more_calls;
  }

pub read_first : (bank : BankTold) (count : ℕ) (images : List ImageRead) → AreFound bank count images → HasReadFirst bank
read_first bank count images found = record {
  images = images;
  sized = subst (λ (n : ℕ). sizes_of_all images ≡ take n bank.sizes) (sym found.counted) found.sized;
  reads = at bank.log found.calls;
}
  where
    at : (log : Option (List Call)) → ((l : List Call) → log ≡ Some l → l ≡ anchor_reads images) → IfSome log (λ l. l ≡ anchor_reads images)
    at None calls = tt
    at (Some l) calls = calls l refl

-- nothing but reads was done, where anchors were read
pub first_only_read : (bank : BankTold) → HasReadFirst bank → HasOnlyReads bank
first_only_read bank first = at bank.log first.reads where
  at : (log : Option (List Call)) → IfSome log (λ l. l ≡ anchor_reads first.images) → IfSome log OnlyReads
  at None reads = tt
  at (Some l) reads = subst OnlyReads (sym reads) (anchors_only_read first.images)

-- no anchor was read, where no call was made
pub none_read : (bank : BankTold) → IsUncalled bank → HasReadFirst bank
none_read bank uncalled = record { images = []; sized = refl; reads = uncalled }

-- THE IMAGES OF ALL DISKS

-- what is so of all that was told is so of what is still told
pub still : {T : Type 0} (P : T → Type 0) (old new : Option T) → Keeps old new → IfSome old P → IfSome new P
still P old None keeps was = tt
still P old (Some told) keeps was = subst (λ o. IfSome o P) (keeps told refl) was

stand_of : (opening : Option (List (List Sector))) (log : Option (List Call)) (sizes : List ℕ) (images : List ImageRead) → sizes_of_all images ≡ sizes
    → IfSome opening (λ contents. map (λ (disk : List Sector). length disk) contents ≡ sizes)
    → ((contents : List (List Sector)) (l : List Call) → opening ≡ Some contents → log ≡ Some l → (d : ℕ) (image : ImageRead) → slice_get images d ≡ Some image → Stood contents d image)
    → IfSome opening (λ contents. IfSome log (λ l. StandIn images contents))
stand_of None log sizes images sized measured stood = tt
stand_of (Some contents) None sizes images sized measured stood = tt
stand_of (Some contents) (Some l) sizes images sized measured stood = record {
  sizes = sized ∙ sym measured;
  anchors = stood contents l refl refl;
}

pub found_all : (bank : BankTold) (count : ℕ) (images : List ImageRead) → AreFound bank count images → count ≡ length bank.sizes → length bank.serials ≡ length bank.sizes
    → IfSome bank.opening (λ contents. map (λ (disk : List Sector). length disk) contents ≡ bank.sizes) → IsFoundOn bank images
found_all bank count images found all paired measured =
    let sized : sizes_of_all images ≡ bank.sizes = found.sized ∙ take_all count bank.sizes (omega (arith, all)) in
    record {
      named = found.named ∙ take_all count bank.serials (omega (arith, all, paired));
      sized = sized;
      anchors = found.anchors;
      stand = stand_of bank.opening bank.log bank.sizes images sized measured found.stand;
    }

-- WHAT WAS FOUND IS STILL SO AFTER MORE CALLS

stand_still : (o0 o1 : Option (List (List Sector))) (l0 l1 : Option (List Call)) (images : List ImageRead) → Keeps o0 o1
    → ((log : List Call) → l1 ≡ Some log → (before : List Call) × (l0 ≡ Some before))
    → IfSome o0 (λ contents. IfSome l0 (λ l. StandIn images contents)) → IfSome o1 (λ contents. IfSome l1 (λ l. StandIn images contents))
stand_still o0 None l0 l1 images keeps told stood = tt
stand_still o0 (Some contents) l0 None images keeps told stood = tt
stand_still o0 (Some contents) l0 (Some log) images keeps told stood =
    subst (λ (l : Option (List Call)). IfSome l (λ x. StandIn images contents)) (told log refl).1
    (subst (λ (o : Option (List (List Sector))). IfSome o (λ c. IfSome l0 (λ x. StandIn images c))) (keeps contents refl) stood)

pub found_later : (old new : BankTold) (images : List ImageRead) → new.serials ≡ old.serials → new.sizes ≡ old.sizes → ((k : ℕ) → old.faults k ≤ new.faults k)
    → Keeps old.opening new.opening → ((log : List Call) → new.log ≡ Some log → (before : List Call) × (old.log ≡ Some before)) → IsFoundOn old images → IsFoundOn new images
found_later old new images serials sizes later keeps told found = record {
  named = found.named ∙ sym serials;
  sized = found.sized ∙ sym sizes;
  anchors = λ d image is. anchor_later old new d image.sectors image.anchor later (found.anchors d image is);
  stand = stand_still old.opening new.opening old.log new.log images keeps told found.stand;
}
