-- Laws of parts of a list: a part between two places and what is behind it, and all that is behind a place.
use Rattle.std.proofs.Common.{◌≡◌, ℕ, ◌+◌, ◌-◌, ◌≤◌, List, ◌++◌, length, take, drop, sym, ap, ◌∙◌, arith, length-drop, take-append-drop, take_all, drop-drop}

-- a part between two places, and then the rest
pub part_then_rest : (s : List ℕ) (at end : ℕ) → at ≤ end → take (end - at) (drop at s) ++ drop end s ≡ drop at s
part_then_rest s at end h =
    let part = take (end - at) (drop at s) in
    let e : end ≡ at + (end - at) = omega arith in
    ap (λ n. part ++ drop n s) e ∙ ap (λ r. part ++ r) (sym (drop-drop (end - at) at s)) ∙ take-append-drop (end - at) (drop at s)

-- the part from a place to the end
pub to_the_end : (s : List ℕ) (at : ℕ) → take (length s - at) (drop at s) ≡ drop at s
to_the_end s at = take_all (length s - at) (drop at s) (simp length-drop (omega arith))
