-- What a source tells after several reads.
use Rattle.std.proofs.Common.{◌≡◌, ◌∙◌, ◌+◌, ◌-◌, ◌≤◌, ℕ, List, [], ◌++◌, take, drop, length, Option, Some, ap, sym, subst, append_assoc, arith, length-drop, drop-drop}
use Rattle.std.proofs.lemmas.List.{append-nil, take-append-drop, take_all}
use Rattle.std.specs.Prelude.{IfSome}
use Rattle.image_outside.specs.Outside.{IsAtEnd, Takes, TakesAll}

pub takes_more : (first mid new : Option (List ℕ)) (xs ys : List ℕ) → Takes first mid xs → Takes mid new ys → Takes first new (xs ++ ys)
takes_more first mid new xs ys takes more = λ now is. takes (ys ++ now) (more now is) ∙ ap (λ l. Some l) (sym (append_assoc xs ys now))

-- where nothing was left before a read of no bytes, all was read
pub takes_all : (first last new : Option (List ℕ)) (bytes : List ℕ) → Takes first last bytes → Takes last new [] → IsAtEnd last → TakesAll first new bytes
takes_all first last new bytes takes none over = λ now is.
    let told : last ≡ Some now = none now is in
    let ended : now ≡ [] = subst (λ (l : Option (List ℕ)). IfSome l (λ b. b ≡ [])) told over in
    let all : first ≡ Some (bytes ++ now) = takes now told in
    (all ∙ ap (λ l. Some (bytes ++ l)) ended ∙ ap (λ l. Some l) (append-nil bytes), ended)

-- a read of bytes in memory: what was moved is their front
pub moved_front : (bytes : List ℕ) (at n : ℕ) (front now : List ℕ) → front ≡ take n (drop at bytes) → Some (drop (at + n) bytes) ≡ Some now → Some (drop at bytes) ≡ Some (front ++ now)
moved_front bytes at n front now moved is =
    let rest : drop (at + n) bytes ≡ now = cc in
    let halves : take n (drop at bytes) ++ drop n (drop at bytes) ≡ drop at bytes = take-append-drop n (drop at bytes) in
    let later : drop n (drop at bytes) ≡ drop (at + n) bytes = drop-drop n at bytes in
    ap (λ l. Some l) (sym halves ∙ cc)

-- all that stands from a place on
pub rest_of : (there bytes : List ℕ) (at n : ℕ) (front : List ℕ) → there ≡ bytes → front ≡ take n (take (length there - at) (drop at there)) → front ≡ take n (drop at bytes)
rest_of there bytes at n front same is =
    let all : length (drop at there) ≤ length there - at = omega (arith, length-drop at there) in
    is ∙ ap (take n) (take_all (length there - at) (drop at there) all ∙ ap (drop at) same)
