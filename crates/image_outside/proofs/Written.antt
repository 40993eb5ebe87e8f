-- What a sink tells after several pieces.
use Rattle.std.proofs.Common.{◌≡◌, ◌<◌, ◌≤◌, ◌+◌, ◌-◌, ℕ, zero, suc, List, [], ◌∷◌, ◌++◌, take, drop, get_or, length, arith, Option, refl, ◌∙◌, ap, sym, subst, append_assoc}
use Rattle.std.specs.List.{flat_map}
use Rattle.std.specs.Prelude.{OnErr, Result, Ok, Err}
use Rattle.std.proofs.lemmas.List.{take_all, take-append-drop, length-drop}
use Rattle.std.proofs.Math.Seq.{take-add}
use Rattle.member_bank.specs.Faults.{Rose}
use Rattle.member_bank.specs.Told.{Keeps}
use Rattle.image_outside.specs.Outside.{Adds, BreaksOff}
use Rattle.member_bank.proofs.Faults.{rose_later}

pub adds_kept : (first mid new : Option (List ℕ)) (bytes : List ℕ) → Adds first mid bytes → Keeps mid new → Adds first new bytes
adds_kept first mid new bytes adds keeps = λ now is. adds now (keeps now is)

pub adds_both : (first mid new : Option (List ℕ)) (xs ys : List ℕ) → Adds first mid xs → Adds mid new ys → Adds first new (xs ++ ys)
adds_both first mid new xs ys adds more = λ now is.
    let late = more now is in
    let early = adds late.0 late.1 in
    (early.0, early.1, late.2 ∙ ap (λ b. b ++ ys) early.2 ∙ append_assoc early.0 xs ys)

-- the front grows by what was taken of the rest
pub adds_more : (first mid new : Option (List ℕ)) (bytes : List ℕ) (at n : ℕ) → Adds first mid (take at bytes)
    → Adds mid new (take n (take (length bytes - at) (drop at bytes))) → Adds first new (take (at + n) bytes)
adds_more first mid new bytes at n adds more =
    let all : length (drop at bytes) ≤ length bytes - at = omega (arith, length-drop at bytes) in
    rw (take-add at n bytes)
    (adds_both first mid new (take at bytes) (take n (drop at bytes)) adds
    (rw (take_all (length bytes - at) (drop at bytes) all) at more))

-- the sink fails in the first bytes: none of those behind them was written
pub breaks_first : (old new : Option (List ℕ)) (before now : ℕ) (xs ys : List ℕ) → BreaksOff old new before now xs → BreaksOff old new before now (xs ++ ys)
breaks_first old new before now xs ys breaks = record {
  front = breaks.front;
  rest = breaks.rest ++ ys;
  are = ap (λ l. l ++ ys) breaks.are ∙ append_assoc breaks.front breaks.rest ys;
  adds = breaks.adds;
  cause = breaks.cause;
}

-- the first bytes were written, and the sink fails in those behind them
pub breaks_later : (old mid new : Option (List ℕ)) (before between now : ℕ) (xs ys : List ℕ) → Adds old mid xs → before ≤ between → BreaksOff mid new between now ys → BreaksOff old new before now (xs ++ ys)
breaks_later old mid new before between now xs ys adds later breaks = record {
  front = xs ++ breaks.front;
  rest = breaks.rest;
  are = ap (λ l. xs ++ l) breaks.are ∙ sym (append_assoc xs breaks.front breaks.rest);
  adds = adds_both old mid new xs breaks.front adds breaks.adds;
  cause = rose_later before between now later breaks.cause;
}

-- some first bytes were written, and the next write failed
pub breaks_at : (old mid new : Option (List ℕ)) (before between now : ℕ) (bytes : List ℕ) (at : ℕ) → Adds old mid (take at bytes) → before ≤ between → Keeps mid new → Rose between now → BreaksOff old new before now bytes
breaks_at old mid new before between now bytes at adds later keeps rose = record {
  front = take at bytes;
  rest = drop at bytes;
  are = sym (take-append-drop at bytes);
  adds = adds_kept old mid new (take at bytes) adds keeps;
  cause = rose_later before between now later rose;
}

-- pieces one after the other, up to one, and that one, and those behind it
flat_at : {A : Type 0} (f : A → List ℕ) (xs : List A) (i : ℕ) (d : A) → i < length xs → flat_map f xs ≡ flat_map f (take i xs) ++ (f (get_or xs i d) ++ flat_map f (drop (suc i) xs))
flat_at f [] i d below = absurd (omega arith)
flat_at f (x ∷ xs) zero d below = refl
flat_at f (x ∷ xs) (suc i) d below =
    ap (λ l. f x ++ l) (flat_at f xs i d (omega arith)) ∙ sym (append_assoc (f x) (flat_map f (take i xs)) (f (get_or xs i d) ++ flat_map f (drop (suc i) xs)))

-- some first pieces were written, and the sink fails in the next
pub breaks_within : {A : Type 0} (f : A → List ℕ) (old mid new : Option (List ℕ)) (before between now : ℕ) (xs : List A) (i : ℕ) (d : A) → i < length xs
    → Adds old mid (flat_map f (take i xs)) → before ≤ between → BreaksOff mid new between now (f (get_or xs i d)) → BreaksOff old new before now (flat_map f xs)
breaks_within f old mid new before between now xs i d below adds later breaks =
    let rest = flat_map f (drop (suc i) xs) in
    subst (λ l. BreaksOff old new before now l) (sym (flat_at f xs i d below))
    (breaks_later old mid new before between now (flat_map f (take i xs)) (f (get_or xs i d) ++ rest) adds later (breaks_first mid new between now (f (get_or xs i d)) rest breaks))

pub on_err : {T E : Type 0} (r : Result T E) (P : Type 0) → P → OnErr r P
on_err (Ok value) P p = tt
on_err (Err fault) P p = p
