-- Assemblies of the same disks in another order.
use Rattle.std.proofs.Common.{◌≡◌, ◌≢◌, ◌≤◌, ℕ, zero, suc, Bool, false, cond, List, [], ◌∷◌, ◌++◌, ◌⊎◌, inl, inr, map, Option, Some, None, refl, sym, ◌∙◌, ap, subst, arith}
use Rattle.std.specs.Prelude.{All, Contains, slice_get, slice_index}
use Rattle.std.specs.Option.{IsSomeAnd}
use Rattle.std.proofs.lemmas.Bool.{false≢true}
use Rattle.std.proofs.lemmas.List.Elements.{All-contains, Contains-append_cases, Contains-append_left, Contains-append_right}
use Rattle.std.proofs.lemmas.Option.{slice_get_within}
use Rattle.units.specs.declared.disk.Sector.{Sector}
use Rattle.units.specs.declared.disk.Serial.{Serial}
use Rattle.imsm_base.specs.Layout.{Block, family_of, generation_of}
use Rattle.imsm_base.specs.Parts.{block_in}
use Rattle.imsm_base.specs.Whole.{standing}
use Rattle.imsm_codec.specs.Mpb.{block_bytes}
use Rattle.device_log.specs.Log.{Call}
use Rattle.mpb_store.specs.declared.answer.Found.{Found}
use Rattle.mpb_store.specs.declared.answer.Found.TheVariants as found
use Rattle.mpb_store.specs.Answers.{IsFound, bytes_on}
use Rattle.mpb_store.specs.Banks.{IsAnswerOn, is_unread}
use Rattle.generation_pick.specs.declared.fault.PickFault.{PickFault}
use Rattle.generation_pick.specs.declared.fault.PickFault.TheVariants.{None as Empty, Families, Twins}
use Rattle.generation_pick.specs.declared.found.FoundAt.{FoundAt}
use Rattle.generation_pick.specs.declared.found.Pick.{Pick}
use Rattle.generation_pick.specs.Found.{AreTwins, family_at, generation_at}
use Rattle.generation_pick.specs.Picks.{HasPickFault}
use Rattle.container.specs.declared.missing.Missing.{Missing}
use Rattle.container.specs.declared.role.DiskRole.{DiskRole}
use Rattle.container.specs.declared.seen.Seen.{Seen}
use Rattle.container.specs.declared.verdict.Opening.{Opening}
use Rattle.container.specs.declared.verdict.Verdict.{Verdict}
use Rattle.container.specs.declared.verdict.Verdict.TheVariants.{Refused, Large, GenerationEnd, Waiting, Ready}
use Rattle.container.specs.declared.volume.VolumeVerdict.{VolumeVerdict}
use Rattle.container.specs.Roles.{AreRoles, IsRole}
use Rattle.container.specs.Seen.{AreOf, Container, IsContainer, containers_of}
use Rattle.container.specs.Verdicts.{GoesOn, IsByNewest, IsOpening, IsReady, IsVerdict, IsVerdictBy, Waits}
use Rattle.container.specs.Volumes.{is_any_started}
use Rattle.container.proofs.Alike.{of_map}
use Rattle.container.proofs.Lists.{contains_map}
use Rattle.container.proofs.Moved.{view}
use Rattle.container.proofs.OneMissing.{one_missing}
use Rattle.container.proofs.OneRole.{one_roles, one_volumes}
use Rattle.assembly.specs.Seen.{bytes_of, found_of}
use Rattle.image_outside.specs.Told.{BankTold}
use Rattle.image_assemble.specs.Endings.{Assembles}
use Rattle.verdict_text.specs.Status.{verdict_status}
use Rattle.verdict_lines_law.specs.Words.{disk_says, disks_say, family_says, verdict_words, volumes_say, waiting_says, words_in}
use Rattle.verdict_lines_law.proofs.Spelled.{verdict_read}
use Rattle.refused_verdicts.specs.Told.{AreDisksOf, HaveSameDisks, HoldsContainer, HoldsNewest, Tells, stood_on}
use Rattle.refused_verdicts.specs.Wrong.{HasLine}
use Rattle.refused_verdicts.proofs.Assembled.{IsByBlock, all_seen, assembled, by_block}
use Rattle.refused_verdicts.proofs.Moved.{AreAlike, container_moves, missing_move, role_moves}
use Rattle.refused_verdicts.proofs.Newest.{container_seen, container_there, contains_block, no_rise, of_container, well_read}
use Rattle.refused_verdicts.proofs.OneSeen.{alike, own_serials}
use Rattle.refused_verdicts.proofs.Places.{at_contains, at_place, in_cons, in_nil, same_at}
use Rattle.refused_verdicts.proofs.Said.{in_disks}
use Rattle.refused_verdicts.proofs.Seeing.{AreSeenSo, IsSeenSo}

-- ONE DISK

is_read : (f : Found) → f ≢ found.Unread → is_unread f ≡ false
is_read found.Whole read = refl
is_read found.Blank read = refl
is_read (found.Torn fault) read = refl
is_read found.Unread read = absurd (read refl)

alike_back : (s t : Seen) → AreAlike s t → AreAlike t s
alike_back s t like = record { serial = sym like.serial; sectors = sym like.sectors; found = sym like.found; bytes = sym like.bytes }

module _ (opening others : List (List Sector)) (bank other : BankTold) (are : AreDisksOf opening others bank other) (read : (k : ℕ) → bank.faults k ≡ 0) (other_read : (k : ℕ) → other.faults k ≡ 0) where
  alike_across : (k j : ℕ) (s t : Seen) → IsSeenSo opening bank k s → IsSeenSo others other j t → slice_get other.serials j ≡ Some s.serial → slice_index other.sizes j ≡ slice_index bank.sizes k
      → stood_on others j ≡ stood_on opening k → AreAlike s t
  alike_across k j s t one two named sized stood =
      let u : Seen = record { disk = record { 0 = k }; serial = t.serial; sectors = t.sectors; holds = t.holds } in
      let here : IsSeenSo opening bank k u = record {
        disk = refl;
        serial = one.serial ∙ ap Some (same_at other.serials j s.serial t.serial named two.serial);
        sectors = two.sectors ∙ sized;
        whole = two.whole;
        unread = λ is. absurd (no_rise (other.faults j) (other_read j) (two.unread is));
        stands = subst (λ (n : ℕ). IsAnswerOn t.serial.0 n (stood_on opening k) (found_of t.holds) (bytes_of t.holds)) sized
            (subst (λ (at : ℕ → Sector). IsAnswerOn t.serial.0 (slice_index other.sizes j) at (found_of t.holds) (bytes_of t.holds)) stood two.stands);
      } in
      let like = alike opening bank k s u one here (is_read (found_of s.holds) (well_read opening bank k s one (read k)) ∙ sym (is_read (found_of t.holds) (well_read others other j t two (other_read j)))) in
      record { serial = like.serial; sectors = like.sectors; found = like.found; bytes = like.bytes }

  -- a container's block stands on the same disk of the other bank
  pub holds_across : (k : ℕ) (s : Serial) (bytes : List ℕ) → HoldsContainer opening bank k s bytes → (j : ℕ) × HoldsContainer others other j s bytes
  holds_across k s bytes holds =
      let (j, named, sized, stood) = are k s holds.whole.named in (
        j,
        record {
          whole = record {
            named = named;
            is = subst (λ (n : ℕ). IsFound s.0 n (bytes_on n (stood_on others j)) found.Whole) (sym sized)
                (subst (λ (at : ℕ → Sector). IsFound s.0 (slice_index bank.sizes k) (bytes_on (slice_index bank.sizes k) at) found.Whole) (sym stood) holds.whole.is);
          };
          block = holds.block ∙ ap (standing (slice_index bank.sizes k)) (sym stood) ∙ ap (λ (n : ℕ). standing n (stood_on others j)) (sym sized);
          volume = holds.volume;
        },
      )

  module _ (log logs : List Call) (tells : Tells opening log bank) (says : Tells others logs other) (run : Bool) (lines more : List ℕ) (status another : ℕ)
      (does : Assembles run bank lines status) (makes : Assembles run other more another) where
    pub record IsSeenToo (s : Seen) : Type 0 where
      pub place : ℕ
      pub seen : Seen
      pub there : slice_get makes.seen place ≡ Some seen
      pub named : slice_get other.serials place ≡ Some s.serial
      pub like : AreAlike s seen

    pub seen_too : (k : ℕ) (s : Seen) → slice_get does.seen k ≡ Some s → IsSeenToo s
    seen_too k s at =
        let one = (assembled opening log bank tells run lines status does).each k s at in
        let (j, named, sized, stood) = are k s.serial one.serial in
        let t = all_seen others logs other says run more another makes j (slice_get_within other.serials j s.serial named) in
        let two = (assembled others logs other says run more another makes).each j t.0 t.1 in
        record { place = j; seen = t.0; there = t.1; named = named; like = alike_across k j s t.0 one two named sized stood }

-- ENTRIES

joined : (e f : FoundAt) (d : ℕ) (a b : List ℕ) → view e ≡ record { disk = d; bytes = a } → b ≡ a → b ≡ block_bytes f.mpb → block_bytes e.mpb ≡ block_bytes f.mpb
joined e f d a b is same other = ap (λ (c : Container). c.bytes) is ∙ sym same ∙ other

same_generation : (e f : FoundAt) → block_bytes e.mpb ≡ block_bytes f.mpb → generation_at e ≡ generation_at f
same_generation e f same = ap (λ (b : List ℕ). generation_of (block_in b)) same

same_family : (e f : FoundAt) → block_bytes e.mpb ≡ block_bytes f.mpb → family_at e ≡ family_at f
same_family e f same = ap (λ (b : List ℕ). family_of (block_in b)) same

one_of_two : (first second e g : FoundAt) (a b : ℕ) → family_at first ≡ a → family_at second ≡ b → block_bytes e.mpb ≡ block_bytes first.mpb → block_bytes g.mpb ≡ block_bytes second.mpb → family_at g ≡ family_at e → b ≡ a
one_of_two first second e g a b is other one two same = sym other ∙ sym (same_family g second two) ∙ same ∙ same_family e first one ∙ is

twins_of : (first second e g : FoundAt) → AreTwins first second → block_bytes e.mpb ≡ block_bytes first.mpb → block_bytes g.mpb ≡ block_bytes second.mpb → AreTwins e g
twins_of first second e g twins one two =
    (same_generation e first one ∙ twins.0 ∙ sym (same_generation g second two), λ equal. twins.1 (sym one ∙ equal ∙ two))

entry_generation : (e : FoundAt) (d : ℕ) (a b : List ℕ) → view e ≡ record { disk = d; bytes = a } → a ≡ b → generation_at e ≡ generation_of (block_in b)
entry_generation e d a b is same = ap (λ (c : Container). generation_of (block_in c.bytes)) is ∙ ap (λ (l : List ℕ). generation_of (block_in l)) same

-- BOTH

either_kind : (bytes : List ℕ) (run : Bool) (missing : List Missing) (p : Pick) (seen : List Seen) (o : Opening) → Waits bytes run missing → IsReady run missing o.volumes.items → IsOpening bytes p seen missing o → ⊥
either_kind bytes run missing p seen o waits (inl none) opening = waits.some none
either_kind bytes run missing p seen o waits (inr (asked, started)) opening =
    let none = waits.none_starts asked in
    let same = one_volumes (block_in bytes) missing none.0 o.volumes.items none.1 opening.volumes in
    false≢true (sym none.2 ∙ ap is_any_started same ∙ started)

module _ (opening others : List (List Sector)) (log logs : List Call) (bank other : BankTold) (tells : Tells opening log bank) (says : Tells others logs other) (same : HaveSameDisks opening others bank other)
    (run : Bool) (lines more : List ℕ) (status another : ℕ) (does : Assembles run bank lines status) (makes : Assembles run other more another) (differs : status ≢ 3) where
  one : AreSeenSo opening log bank does.seen
  one = assembled opening log bank tells run lines status does

  two : AreSeenSo others logs other makes.seen
  two = assembled others logs other says run more another makes

  forth_at : (k : ℕ) (s : Seen) → slice_get does.seen k ≡ Some s → IsSeenToo opening others bank other same.forth same.read same.other_read log logs tells says run lines more status another does makes s
  forth_at k s at = seen_too opening others bank other same.forth same.read same.other_read log logs tells says run lines more status another does makes k s at

  back_at : (j : ℕ) (t : Seen) → slice_get makes.seen j ≡ Some t → IsSeenToo others opening other bank same.back same.other_read same.read logs log says tells run more lines another status makes does t
  back_at j t at = seen_too others opening other bank same.back same.other_read same.read logs log says tells run more lines another status makes does j t at

  forth : (s : Seen) → Contains does.seen s → (t : Seen) × Contains makes.seen t × AreAlike s t
  forth s there = let k = at_place does.seen s there in let t = forth_at k.0 s k.1 in (t.seen, at_contains makes.seen t.place t.seen t.there, t.like)

  back : (t : Seen) → Contains makes.seen t → (s : Seen) × Contains does.seen s × AreAlike s t
  back t there = let j = at_place makes.seen t there in let s = back_at j.0 t j.1 in (s.seen, at_contains does.seen s.place s.seen s.there, alike_back t s.seen s.like)

  not_refused : (fault : PickFault) → does.verdict ≡ Refused fault → ⊥
  not_refused fault is = differs (does.status_is ∙ ap verdict_status is)

  module _ (by : IsByNewest does.seen run does.verdict) where
    -- an entry of the one is one of the other
    in_first : (entries : List FoundAt) → AreOf entries (containers_of makes.seen) → (f : FoundAt) → Contains entries f → (e : FoundAt) × Contains by.newest.entries e × (block_bytes e.mpb ≡ block_bytes f.mpb)
    in_first entries are f there =
        let c = of_container makes.seen (view f) (subst (λ (l : List Container). Contains l (view f)) are (contains_map view entries f there)) in
        let j = at_place makes.seen c.0 c.1 in
        let s = back_at j.0 c.0 j.1 in
        let block = contains_block does.seen s.place s.seen s.there (container_moves c.0 s.seen s.like c.2) in
        let e = of_map view by.newest.entries _ (subst (λ (l : List Container). Contains l (record { disk = s.seen.disk.0; bytes = bytes_of s.seen.holds })) (sym by.newest.are) block) in
        (e.0, e.1, joined e.0 f s.seen.disk.0 (bytes_of s.seen.holds) (bytes_of c.0.holds) e.2 s.like.bytes c.3)

    the_newest : (s : Seen) × Contains does.seen s × IsContainer s.holds × (bytes_of s.holds ≡ by.bytes)
    the_newest = of_container does.seen (record { disk = by.pick.disk.0; bytes = by.bytes }) by.newest.there

    some_entry : (entries : List FoundAt) → AreOf entries (containers_of makes.seen) → (f : FoundAt) × Contains entries f
    some_entry entries are =
        let c = the_newest in
        let k = at_place does.seen c.0 c.1 in
        let t = forth_at k.0 c.0 k.1 in
        let block = contains_block makes.seen t.place t.seen t.there (container_moves c.0 t.seen t.like c.2) in
        let f = of_map view entries _ (subst (λ (l : List Container). Contains l (record { disk = t.seen.disk.0; bytes = bytes_of t.seen.holds })) (sym are) block) in
        (f.0, f.1)

    one_family : (e f : FoundAt) → Contains by.newest.entries e → Contains by.newest.entries f → family_at e ≡ family_at f
    one_family e f here there = All-contains (λ g. family_at e ≡ family_at g) by.newest.entries f (All-contains (λ g. All (λ h. family_at g ≡ family_at h) by.newest.entries) by.newest.entries e by.newest.picked.one_family here) there

    no_twins : (e f : FoundAt) → Contains by.newest.entries e → Contains by.newest.entries f → AreTwins e f → ⊥
    no_twins e f here there = All-contains (λ g. AreTwins e g → ⊥) by.newest.entries f (All-contains (λ g. All (λ h. AreTwins g h → ⊥) by.newest.entries) by.newest.entries e by.newest.picked.apart here) there

    not_faulty : (entries : List FoundAt) → AreOf entries (containers_of makes.seen) → (fault : PickFault) → HasPickFault entries fault → ⊥
    not_faulty entries are Empty none = let f = some_entry entries are in in_nil f.0 (subst (λ (l : List FoundAt). Contains l f.0) none f.1)
    not_faulty entries are (Families a b) has =
        let first = in_first entries are has.first (at_contains entries 0 has.first has.begins) in
        let entry_there = subst (λ (l : List FoundAt). Contains l has.other.entry) (sym has.other.laid) (Contains-append_right has.other.front (has.other.entry ∷ has.other.rest) has.other.entry (0, omega arith, refl)) in
        let second = in_first entries are has.other.entry entry_there in
        has.other.differs (one_of_two has.first has.other.entry first.0 second.0 a b has.family has.other.family first.2 second.2 (one_family second.0 first.0 second.1 first.1))
    not_faulty entries are (Twins d e) has =
        let twins = has.1 in
        let first = in_first entries are twins.one twins.one_there in
        let second = in_first entries are twins.other twins.other_there in
        no_twins first.0 second.0 first.1 second.1 (twins_of twins.one twins.other first.0 second.0 twins.twins first.2 second.2)

    other_not_refused : (fault : PickFault) → makes.verdict ≡ Refused fault → ⊥
    other_not_refused fault is = at makes.says where
      at : IsVerdict makes.seen run makes.verdict → ⊥
      at (inl (f, refused, same_fault)) = not_faulty refused.entries refused.are f refused.cause
      at (inr by_other) = subst (IsVerdictBy by_other.bytes by_other.pick makes.seen run by_other.missing) is by_other.says

    holds_newest : HoldsNewest opening bank by.bytes
    holds_newest =
        let c = the_newest in
        let k = at_place does.seen c.0 c.1 in
        record {
          disk = k.0;
          own = c.0.serial;
          holds = subst (HoldsContainer opening bank k.0 c.0.serial) c.3 (container_there opening bank k.0 c.0 (one.each k.0 c.0 k.1) c.2);
          read = same.read k.0;
          highest = λ i s bytes holds.
              let t = all_seen opening log bank tells run lines status does i (slice_get_within bank.serials i s holds.whole.named) in
              let is = container_seen opening bank i t.0 (one.each i t.0 t.1) s bytes (same.read i) holds in
              let block = contains_block does.seen i t.0 t.1 is.0 in
              let e = of_map view by.newest.entries _ (subst (λ (l : List Container). Contains l (record { disk = t.0.disk.0; bytes = bytes_of t.0.holds })) (sym by.newest.are) block) in
              let low : generation_at e.0 ≤ by.pick.generation = All-contains (λ f. generation_at f ≤ by.pick.generation) by.newest.entries e.0 by.newest.picked.newest.highest e.1 in
              let mine : generation_at e.0 ≡ generation_of (block_in bytes) = entry_generation e.0 t.0.disk.0 (bytes_of t.0.holds) bytes e.2 is.1 in
              let top = by.newest.generation in
              omega (arith, low, mine, top);
        }

    other_newest : HoldsNewest others other by.bytes
    other_newest =
        let first = holds_newest in
        let there = holds_across opening others bank other same.forth same.read same.other_read first.disk first.own by.bytes first.holds in
        record {
          disk = there.0;
          own = first.own;
          holds = there.1;
          read = same.other_read there.0;
          highest = λ j s bytes holds. let here = holds_across others opening other bank same.back same.other_read same.read j s bytes holds in first.highest here.0 s bytes here.1;
        }

    here : IsByBlock does.seen run by.bytes does.verdict
    here = by_block opening log bank tells by.bytes holds_newest run lines status does not_refused

    there : IsByBlock makes.seen run by.bytes makes.verdict
    there = by_block others logs other says by.bytes other_newest run more another makes other_not_refused

    same_missing : here.missing ≡ there.missing
    same_missing =
        let own = own_serials others logs other makes.seen says two.each in
        one_missing makes.seen own (block_in by.bytes).disks here.missing (missing_move does.seen makes.seen forth back (block_in by.bytes).disks here.missing here.lack)
        ∙ sym (one_missing makes.seen own (block_in by.bytes).disks there.missing there.lack)

    -- ROLES

    some_role : (o : Option DiskRole) (P : DiskRole → Type 0) → IsSomeAnd o P → (r : DiskRole) × (o ≡ Some r) × P r
    some_role None P is = absurd is
    some_role (Some r) P is = (r, refl, is)

    one_role : (b : Block) (t : Seen) (r q : DiskRole) → IsRole b t r → IsRole b t q → r ≡ q
    one_role b t r q is other_is =
        let all = one_roles b (t ∷ []) (r ∷ []) (q ∷ []) (record { count = refl; each = each r is }) (record { count = refl; each = each q other_is }) in
        cc all
      where
        each : (x : DiskRole) → IsRole b t x → (k : ℕ) (s : Seen) → slice_get (t ∷ []) k ≡ Some s → IsSomeAnd (slice_get (x ∷ []) k) (IsRole b s)
        each x holds zero s at = subst (λ (y : Seen). IsRole b y x) (let eq : t ≡ s = cc at in eq) holds
        each x holds (suc k) s at = absurd (cc at)

    disk_in : (serials : List Serial) (roles : List DiskRole) (k : ℕ) (s : Serial) (r : DiskRole) → slice_get serials k ≡ Some s → slice_get roles k ≡ Some r → Contains (disks_say serials roles) (disk_says s r)
    disk_in [] roles k s r named at = absurd (cc named)
    disk_in (x ∷ serials) [] k s r named at = absurd (cc at)
    disk_in (x ∷ serials) (y ∷ roles) zero s r named at =
        let first : x ≡ s = cc named in
        let second : y ≡ r = cc at in
        (0, omega arith, ap (λ (z : Serial). disk_says z y) first ∙ ap (disk_says s) second)
    disk_in (x ∷ serials) (y ∷ roles) (suc k) s r named at = Contains-append_right (disk_says x y ∷ []) (disks_say serials roles) (disk_says s r) (disk_in serials roles k s r named at)

    said_across : (serials : List Serial) (roles : List DiskRole) (words : List (List ℕ)) (a b : Serial) (r m q : DiskRole) → Contains (disks_say serials roles) (disk_says a q) → a ≡ b → r ≡ m → m ≡ q → disk_says b r ≡ words
        → Contains (disks_say serials roles) words
    said_across serials roles words a b r m q there named one_is is laid =
        subst (Contains (disks_say serials roles)) (ap (λ (z : Serial). disk_says z q) named ∙ ap (disk_says b) (sym (one_is ∙ is)) ∙ laid) there

    disks_across : (roles others_roles : List DiskRole) → AreRoles (block_in by.bytes) does.seen roles → AreRoles (block_in by.bytes) makes.seen others_roles → (words : List (List ℕ))
        → Contains (disks_say bank.serials roles) words → Contains (disks_say other.serials others_roles) words
    disks_across roles others_roles are be words said =
        let d = in_disks bank.serials roles words said in
        let s = all_seen opening log bank tells run lines status does d.place (slice_get_within bank.serials d.place d.serial d.named) in
        let t = forth_at d.place s.0 s.1 in
        let mine = some_role (slice_get roles d.place) (IsRole (block_in by.bytes) s.0) (are.each d.place s.0 s.1) in
        let theirs = some_role (slice_get others_roles t.place) (IsRole (block_in by.bytes) t.seen) (be.each t.place t.seen t.there) in
        let first : d.role ≡ mine.0 = same_at roles d.place d.role mine.0 d.there mine.1 in
        let second : mine.0 ≡ theirs.0 = one_role (block_in by.bytes) t.seen mine.0 theirs.0 (role_moves s.0 t.seen t.like (block_in by.bytes) mine.0 mine.2) theirs.2 in
        let serial_is : s.0.serial ≡ d.serial = same_at bank.serials d.place s.0.serial d.serial (one.each d.place s.0 s.1).serial d.named in
        said_across other.serials others_roles words s.0.serial d.serial d.role mine.0 theirs.0 (disk_in other.serials others_roles t.place s.0.serial theirs.0 t.named theirs.1) serial_is first second d.says

    -- THE TWO VERDICTS

    abbrev IsSameSaid : Verdict → Verdict → Type 0
    IsSameSaid v w =
        (verdict_status w ≡ verdict_status v)
        × ((words : List (List ℕ)) → Contains (verdict_words bank.serials bank.serials v) words → Contains (verdict_words other.serials other.serials w) words)

    opened_across : (o u : Opening) (p q : Pick) (missing : List Missing) → p.family ≡ q.family → p.generation ≡ q.generation → IsOpening by.bytes p does.seen missing o → IsOpening by.bytes q makes.seen missing u
        → IsSameSaid (Ready o) (Ready u)
    opened_across o u p q missing family generation one_opening other_opening =
        let volumes : o.volumes.items ≡ u.volumes.items = one_volumes (block_in by.bytes) missing o.volumes.items u.volumes.items one_opening.volumes other_opening.volumes in
        let first : family_says o.family o.generation ≡ family_says u.family u.generation =
        ap (λ (n : ℕ). family_says n o.generation) (one_opening.family ∙ family ∙ sym other_opening.family) ∙ ap (family_says u.family) (one_opening.generation ∙ generation ∙ sym other_opening.generation) in (
          ap (λ (l : List VolumeVerdict). cond {A = ℕ} (is_any_started l) 0 3) (sym volumes),
          λ words said. at words first volumes (in_cons _ _ words said),
        )
      where
        at : (words : List (List ℕ)) → family_says o.family o.generation ≡ family_says u.family u.generation → o.volumes.items ≡ u.volumes.items
            → (family_says o.family o.generation ≡ words) ⊎ Contains (volumes_say 0 o.volumes.items ++ disks_say bank.serials o.disks.items) words
            → Contains (family_says u.family u.generation ∷ (volumes_say 0 u.volumes.items ++ disks_say other.serials u.disks.items)) words
        at words first volumes (inl is) = (0, omega arith, sym first ∙ is)
        at words first volumes (inr behind) =
            Contains-append_right (family_says u.family u.generation ∷ []) (volumes_say 0 u.volumes.items ++ disks_say other.serials u.disks.items) words
            (elim (Contains-append_cases (volumes_say 0 o.volumes.items) (disks_say bank.serials o.disks.items) words behind) [
              | inl volume ↦ Contains-append_left (volumes_say 0 u.volumes.items) (disks_say other.serials u.disks.items) words (subst (λ (l : List VolumeVerdict). Contains (volumes_say 0 l) words) volumes volume)
              | inr disk ↦
                  Contains-append_right (volumes_say 0 u.volumes.items) (disks_say other.serials u.disks.items) words (disks_across o.disks.items u.disks.items one_opening.disks other_opening.disks words disk)
            ])

    compare : (p q : Pick) (missing : List Missing) → p.family ≡ q.family → p.generation ≡ q.generation → (v w : Verdict) → verdict_status v ≢ 3
        → IsVerdictBy by.bytes p does.seen run missing v → IsVerdictBy by.bytes q makes.seen run missing w → IsSameSaid v w
    compare p q missing family generation (Refused fault) w other_status is be = absurd is
    compare p q missing family generation (Large f g size) w other_status is be = absurd (other_status refl)
    compare p q missing family generation (GenerationEnd f g) w other_status is be = absurd (other_status refl)
    compare p q missing family generation (Waiting f g list) (Refused fault) other_status is be = absurd be
    compare p q missing family generation (Waiting f g list) (Large h k size) other_status is be = let goes : GoesOn by.bytes p = is.2 in absurd (omega (arith, goes.fits, be.2, be.3))
    compare p q missing family generation (Waiting f g list) (GenerationEnd h k) other_status is be = let goes : GoesOn by.bytes p = is.2 in absurd (omega (arith, goes.below, be.1, be.3, generation))
    compare p q missing family generation (Waiting f g list) (Waiting h k items) other_status is be =
        let first : family_says f g ≡ family_says h k = ap (λ (n : ℕ). family_says n g) (is.0 ∙ family ∙ sym be.0) ∙ ap (family_says h) (is.1 ∙ generation ∙ sym be.1) in
        let listed : list.items ≡ items.items = is.3 ∙ sym be.3 in (
          refl,
          λ words said. subst (λ (l : List (List (List ℕ))). Contains l words) (ap (λ (ws : List (List ℕ)). ws ∷ map waiting_says list.items) first ∙ ap (λ (l : List Missing). family_says h k ∷ map waiting_says l) listed) said,
        )
    compare p q missing family generation (Waiting f g list) (Ready u) other_status is be = absurd (either_kind by.bytes run missing q makes.seen u is.4 be.1 be.2)
    compare p q missing family generation (Ready o) (Refused fault) other_status is be = absurd be
    compare p q missing family generation (Ready o) (Large h k size) other_status is be = let goes : GoesOn by.bytes p = is.0 in absurd (omega (arith, goes.fits, be.2, be.3))
    compare p q missing family generation (Ready o) (GenerationEnd h k) other_status is be = let goes : GoesOn by.bytes p = is.0 in absurd (omega (arith, goes.below, be.1, be.3, generation))
    compare p q missing family generation (Ready o) (Waiting h k items) other_status is be = absurd (either_kind by.bytes run missing p does.seen o be.4 is.1 is.2)
    compare p q missing family generation (Ready o) (Ready u) other_status is be = opened_across o u p q missing family generation is.2 be.2

    both_said : IsSameSaid does.verdict makes.verdict
    both_said =
        compare here.pick there.pick there.missing (here.family ∙ sym there.family) (here.generation ∙ sym there.generation) does.verdict makes.verdict (λ three. differs (does.status_is ∙ three))
        (subst (λ (l : List Missing). IsVerdictBy by.bytes here.pick does.seen run l does.verdict) same_missing here.says) there.says

    pub same_said : (another ≡ status) × ((words : List (List ℕ)) → HasLine lines words → HasLine more words)
    same_said =
        let said = both_said in (
          makes.status_is ∙ said.0 ∙ sym does.status_is,
          λ words has. at words (Contains-append_cases (verdict_words bank.serials bank.serials does.verdict) (([] ∷ []) ∷ []) words
              (subst (λ (l : List (List (List ℕ))). Contains l words) (ap words_in does.lines_are ∙ verdict_read bank.serials bank.serials does.verdict) has)),
        )
      where
        laid : words_in more ≡ verdict_words other.serials other.serials makes.verdict ++ ([] ∷ []) ∷ []
        laid = ap words_in makes.lines_are ∙ verdict_read other.serials other.serials makes.verdict

        at : (words : List (List ℕ)) → Contains (verdict_words bank.serials bank.serials does.verdict) words ⊎ Contains (([] ∷ []) ∷ []) words → HasLine more words
        at words (inl line) =
            subst (λ (l : List (List (List ℕ))). Contains l words) (sym laid) (Contains-append_left (verdict_words other.serials other.serials makes.verdict) (([] ∷ []) ∷ []) words (both_said.1 words line))
        at words (inr last) = subst (λ (l : List (List (List ℕ))). Contains l words) (sym laid) (Contains-append_right (verdict_words other.serials other.serials makes.verdict) (([] ∷ []) ∷ []) words last)

  pub reordered : (another ≡ status) × ((words : List (List ℕ)) → HasLine lines words → HasLine more words)
  reordered = at does.says where
    at : IsVerdict does.seen run does.verdict → (another ≡ status) × ((words : List (List ℕ)) → HasLine lines words → HasLine more words)
    at (inl (fault, refused, is)) = absurd (not_refused fault is)
    at (inr by) = same_said by
