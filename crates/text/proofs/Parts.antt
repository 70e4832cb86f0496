-- Laws of parts: a part of a list from one place up to another, also where the list ends before.
use Prim.Native.Nat.{ℕ, zero, suc, ◌-◌, min, ◌≤◌}
use mathlib.Core.Path.{◌≡◌, sym, ◌∙◌, ap}
use mathlib.Core.List.{List, [], ◌∷◌}
use native.Mathlib.Omega.{arith}
use native.Mathlib.Nat.{sub-zero}
use native.Mathlib.Decide.{dec_le}
use lib.ListN.{length, take, drop, length-take, drop_of_length-le}
use lib.Seq.{take_all, take-nil, slice}

-- what is cut off at the end and what is cut off in front may change places
pub drop_take : (a b : ℕ) (l : List ℕ) → a ≤ b → drop a (take b l) ≡ take (b - a) (drop a l)
drop_take zero b l h = rw sub-zero
drop_take (suc a) zero l h = absurd (omega arith)
drop_take (suc a) (suc b) [] h = sym (take-nil (suc b - suc a))
drop_take (suc a) (suc b) (x ∷ l) h =
    let e : suc b - suc a ≡ b - a = omega arith in
    rw e (drop_take a b l (omega arith))

-- a place past the end is the end
pub drop_min : (k : ℕ) (l : List ℕ) → drop (min k (length l)) l ≡ drop k l
drop_min k l = by (dec_le k (length l))
  where
    by : Dec (k ≤ length l) → drop (min k (length l)) l ≡ drop k l
    by (yes h) =
        let e : min k (length l) ≡ k = omega arith in
        rw e
    by (no h) = drop_of_length-le l {i = min k (length l)} (omega arith) ∙ sym (drop_of_length-le l {i = k} (omega arith))

pub take_min : (k : ℕ) (l : List ℕ) → take (min k (length l)) l ≡ take k l
take_min k l = by (dec_le k (length l))
  where
    by : Dec (k ≤ length l) → take (min k (length l)) l ≡ take k l
    by (yes h) =
        let e : min k (length l) ≡ k = omega arith in
        rw e
    by (no h) = take_all (min k (length l)) l (omega arith) ∙ sym (take_all k l (omega arith))

-- the part between two places that are at most the length is the part between the places asked for
pub clipped : (k last : ℕ) (l : List ℕ) (from to : ℕ) → to ≡ min last (length l) → from ≡ min k to →
    take (to - from) (drop from l) ≡ slice k last l
clipped k last l from to t f =
    let e : from ≡ min k (length (take last l)) = f ∙ ap (min k) (t ∙ sym (length-take last l)) in
    sym (drop_take from to l (omega arith)) ∙
    ap (λ (n : ℕ). drop from (take n l)) t ∙
    ap (drop from) (take_min last l) ∙
    ap (λ (n : ℕ). drop n (take last l)) e ∙
    drop_min k (take last l)
