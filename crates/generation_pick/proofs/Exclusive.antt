-- A list has at most one pick or fault.
use Rattle.std.proofs.Common.{◌≡◌, ◌≢◌, ℕ, ◌≤◌, Some, List, [], ◌∷◌, ◌++◌, sym, ◌∙◌, ap, refl, subst, arith}
use Rattle.std.specs.Prelude.{All, Contains, slice_get}
use Rattle.std.proofs.lemmas.List.Elements.{All-contains, All-head, All-tail, Contains-append_right}
use Rattle.units.specs.declared.disk.DiskNo.{DiskNo}
use Rattle.generation_pick.specs.declared.fault.PickFault.{PickFault}
use Rattle.generation_pick.specs.declared.fault.PickFault.TheVariants.{None as Empty, Families, Twins}
use Rattle.generation_pick.specs.declared.found.FoundAt.{FoundAt}
use Rattle.generation_pick.specs.declared.found.Pick.{Pick}
use Rattle.generation_pick.specs.Found.{generation_at, family_at, IsNewest, AreOneFamily, IsFirstOther, HasFamilies, AreTwins, HasNoTwins, HasTwins}
use Rattle.generation_pick.specs.Picks.{IsPicked, HasPickFault}

abbrev disk_no : ℕ → DiskNo
disk_no n = record { 0 = n }

same_disk : (d e : DiskNo) → d.0 ≡ e.0 → d ≡ e
same_disk d e same = ap disk_no same

both_ways : (m n : ℕ) → m ≤ n → n ≤ m → m ≡ n
both_ways m n up down = omega arith

-- two entries of a list
pair_holds : (R : FoundAt → FoundAt → Type 0) (list : List FoundAt) (f g : FoundAt) → All (λ f. All (λ g. R f g) list) list → Contains list f → Contains list g → R f g
pair_holds R list f g all f_there g_there = All-contains (λ h. R f h) list g (All-contains (λ h. All (λ k. R h k) list) list f all f_there) g_there

-- PICKS

up_to : (list : List FoundAt) (p q : Pick) → IsNewest list p → IsNewest list q → p.generation ≤ q.generation
up_to list p q one other =
    subst (λ n. n ≤ q.generation) one.generation (All-contains (λ f. generation_at f ≤ q.generation) list one.found other.highest one.there)

disk_up_to : (list : List FoundAt) (p q : Pick) → p.generation ≡ q.generation → IsNewest list p → IsNewest list q → q.disk.0 ≤ p.disk.0
disk_up_to list p q same one other =
    subst (λ (d : DiskNo). q.disk.0 ≤ d.0) one.disk
    (All-contains (λ f. generation_at f ≡ q.generation → q.disk.0 ≤ f.disk.0) list one.found other.least one.there (one.generation ∙ same))

abbrev made : DiskNo → ℕ → ℕ → Pick
made d g f = record { disk = d; generation = g; family = f }

pub one_pick : (list : List FoundAt) (p q : Pick) → IsPicked list p → IsPicked list q → p ≡ q
one_pick list p q one other =
    let generation : p.generation ≡ q.generation = both_ways _ _ (up_to list p q one.newest other.newest) (up_to list q p other.newest one.newest) in
    let disk : p.disk ≡ q.disk = same_disk p.disk q.disk
    (both_ways _ _ (disk_up_to list q p (sym generation) other.newest one.newest) (disk_up_to list p q generation one.newest other.newest)) in
    let family : p.family ≡ q.family = sym one.newest.family
    ∙ pair_holds (λ f g. family_at f ≡ family_at g) list one.newest.found other.newest.found one.one_family one.newest.there other.newest.there
    ∙ other.newest.family in
    ap (λ (d : DiskNo). made d p.generation p.family) disk
    ∙ ap (λ (g : ℕ). made q.disk g p.family) generation
    ∙ ap (made q.disk q.generation) family

-- FAULTS

no_first : (list : List FoundAt) (x : FoundAt) → list ≡ [] → slice_get list 0 ≡ Some x → ⊥
no_first [] x none first = cc
no_first (y ∷ ys) x none first = cc

no_entry : (list : List FoundAt) (x : FoundAt) → list ≡ [] → Contains list x → ⊥
no_entry [] x none there = let below = there.1 in omega arith
no_entry (y ∷ ys) x none there = cc

first_there : (list : List FoundAt) (x : FoundAt) → slice_get list 0 ≡ Some x → Contains list x
first_there [] x first = let h : ⊥ = cc in absurd h
first_there (y ∷ ys) x first = let e : y ≡ x = cc in (0, omega arith, e)

one_first : (list : List FoundAt) (x y : FoundAt) → slice_get list 0 ≡ Some x → slice_get list 0 ≡ Some y → x ≡ y
one_first list x y one other = cc

seam_there : (front rest : List FoundAt) (x : FoundAt) → Contains (front ++ x ∷ rest) x
seam_there front rest x = Contains-append_right front (x ∷ rest) x (0, omega arith, refl)

not_one_family : (list : List FoundAt) (a b : ℕ) → AreOneFamily list → HasFamilies list a b → ⊥
not_one_family list a b one two =
    let there : Contains list two.other.entry = subst (λ (l : List FoundAt). Contains l two.other.entry) (sym two.other.laid) (seam_there two.other.front two.other.rest two.other.entry) in
    let same = pair_holds (λ f g. family_at f ≡ family_at g) list two.other.entry two.first one there (first_there list two.first two.begins) in
    two.other.differs (sym two.other.family ∙ same ∙ two.family)

-- the entry that ends the longest front of family a
one_seam : (a : ℕ) (front front' rest rest' : List FoundAt) (x y : FoundAt)
    → All (λ f. family_at f ≡ a) front → All (λ f. family_at f ≡ a) front' → family_at x ≢ a → family_at y ≢ a
    → front ++ x ∷ rest ≡ front' ++ y ∷ rest' → family_at x ≡ family_at y
one_seam a [] [] rest rest' x y same same' apart apart' laid = let e : x ≡ y = cc in ap family_at e
one_seam a [] (z ∷ zs) rest rest' x y same same' apart apart' laid =
    let e : x ≡ z = cc in absurd (apart (ap family_at e ∙ All-head (λ f. family_at f ≡ a) z zs same'))
one_seam a (z ∷ zs) [] rest rest' x y same same' apart apart' laid =
    let e : y ≡ z = cc in absurd (apart' (ap family_at e ∙ All-head (λ f. family_at f ≡ a) z zs same))
one_seam a (z ∷ zs) (w ∷ ws) rest rest' x y same same' apart apart' laid =
    let e : zs ++ x ∷ rest ≡ ws ++ y ∷ rest' = cc in
    one_seam a zs ws rest rest' x y (All-tail (λ f. family_at f ≡ a) z zs same) (All-tail (λ f. family_at f ≡ a) w ws same') apart apart' e

one_other : (a b c : ℕ) (list : List FoundAt) → IsFirstOther a list b → IsFirstOther a list c → b ≡ c
one_other a b c list one other =
    sym one.family
    ∙ one_seam a one.front other.front one.rest other.rest one.entry other.entry one.same other.same
    (λ is. one.differs (sym one.family ∙ is)) (λ is. other.differs (sym other.family ∙ is)) (sym one.laid ∙ other.laid)
    ∙ other.family

one_families : (list : List FoundAt) (a b c d : ℕ) → HasFamilies list a b → HasFamilies list c d → (a ≡ c) × (b ≡ d)
one_families list a b c d one other =
    let first : a ≡ c = sym one.family ∙ ap family_at (one_first list one.first other.first one.begins other.begins) ∙ other.family in
    (first, one_other c b d list (subst (λ n. IsFirstOther n list b) first one.other) other.other)

-- no twins, some, and the first
not_apart : (list : List FoundAt) (d e : ℕ) → HasNoTwins list → HasTwins list d e → ⊥
not_apart list d e apart two = pair_holds (λ f g. AreTwins f g → ⊥) list two.one two.other apart two.one_there two.other_there two.twins

twins_up_to : (list : List FoundAt) (d e m n : ℕ) → HasTwins list d e → HasTwins list m n → d ≤ m
twins_up_to list d e m n one other =
    subst (λ k. d ≤ k) other.first (pair_holds (λ f g. AreTwins f g → d ≤ f.disk.0) list other.one other.other one.least other.one_there other.other_there other.twins)

next_up_to : (list : List FoundAt) (d e m n : ℕ) → m ≡ d → HasTwins list d e → HasTwins list m n → e ≤ n
next_up_to list d e m n same one other =
    subst (λ k. e ≤ k) other.second
    (pair_holds (λ f g. AreTwins f g → f.disk.0 ≡ d → e ≤ g.disk.0) list other.one other.other one.next other.one_there other.other_there other.twins (other.first ∙ same))

one_twins : (list : List FoundAt) (d e m n : ℕ) → HasTwins list d e → HasTwins list m n → (d ≡ m) × (e ≡ n)
one_twins list d e m n one other =
    let first : d ≡ m = both_ways d m (twins_up_to list d e m n one other) (twins_up_to list m n d e other one) in
    (first, both_ways e n (next_up_to list d e m n (sym first) one other) (next_up_to list m n d e first other one))

pub one_fault : (list : List FoundAt) (f g : PickFault) → HasPickFault list f → HasPickFault list g → f ≡ g
one_fault list Empty Empty one other = refl
one_fault list Empty (Families c d) one other = absurd (no_first list other.first one other.begins)
one_fault list Empty (Twins m n) one other = let two = other.1 in absurd (no_entry list two.one one two.one_there)
one_fault list (Families a b) Empty one other = absurd (no_first list one.first other one.begins)
one_fault list (Families a b) (Families c d) one other =
    let same = one_families list a b c d one other in
    ap (λ (x : ℕ). Families x b) same.0 ∙ ap (Families c) same.1
one_fault list (Families a b) (Twins m n) one other = absurd (not_one_family list a b other.0 one)
one_fault list (Twins d e) Empty one other = let two = one.1 in absurd (no_entry list two.one other two.one_there)
one_fault list (Twins d e) (Families a b) one other = absurd (not_one_family list a b one.0 other)
one_fault list (Twins d e) (Twins m n) one other =
    let same = one_twins list d.0 e.0 m.0 n.0 one.1 other.1 in
    ap (λ (x : DiskNo). Twins x e) (same_disk d m same.0) ∙ ap (Twins m) (same_disk e n same.1)

pub pick_or_fault : (list : List FoundAt) (p : Pick) (f : PickFault) → IsPicked list p → HasPickFault list f → ⊥
pick_or_fault list p Empty picked fault = no_entry list picked.newest.found fault picked.newest.there
pick_or_fault list p (Families a b) picked fault = not_one_family list a b picked.one_family fault
pick_or_fault list p (Twins d e) picked fault = not_apart list d.0 e.0 picked.apart fault.1
