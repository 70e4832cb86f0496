-- Filling an output from the front, one number behind the other: what is filled so far is in front, the rest is as it was.
use Prim.Native.Nat.{ℕ, zero, suc, ◌+◌, ◌-◌, ◌≤◌}
use mathlib.Core.Path.{◌≡◌, refl, sym, ◌∙◌, ap, ap₂, subst}
use mathlib.Core.List.{List, ◌++◌, append_assoc}
use native.Mathlib.Omega.{arith}
use lib.ListN.{length, take, drop, length-append, take-append-drop}
use lib.Seq.{length-take-le, take_at, drop-append-add, drop-drop}
use Rattle.day_sheet.specs.Number.{in_base, put_at}

-- of an output d, the first `at` bytes are p
pub record Filled (d p : List ℕ) (at : ℕ) (l : List ℕ) : Type 0 where
  pub wide : length p ≡ at
  pub is : l ≡ p ++ drop at d

pub length_digits : (b z w n : ℕ) → length (in_base b z w n) ≡ w
unfolding in_base
length_digits b z zero n = refl
length_digits b z (suc w) n = ap suc (length_digits b z w n)

-- what stands at a place is filled with what stands there
pub as_it_was : (d : List ℕ) (at : ℕ) → at ≤ length d → Filled d (take at d) at d
as_it_was d at h = record { wide = length-take-le at d h; is = sym (take-append-drop at d) }

-- what is in front, and what lies behind
pub front_of : {d p l : List ℕ} {at : ℕ} → Filled d p at l → take at l ≡ p
front_of {d} {p} {l} {at} f = ap (take at) f.is ∙ take_at p (drop at d) at f.wide

pub rest_of : {d p l : List ℕ} {at : ℕ} (to : ℕ) → at ≤ to → Filled d p at l → drop to l ≡ drop to d
rest_of {d} {p} {l} {at} to h f =
    let far : length p + (to - at) ≡ to = omega (arith, f.wide) in
    let on : at + (to - at) ≡ to = omega arith in
    ap (drop to) f.is ∙ sym (ap (λ (k : ℕ). drop k (p ++ drop at d)) far) ∙ drop-append-add p (drop at d) (to - at) ∙ drop-drop (to - at) at d ∙
    ap (λ (k : ℕ). drop k d) on

-- one number more
pub filled_more : {d p l l' : List ℕ} {at : ℕ} (b z n to : ℕ) → at ≤ to → Filled d p at l → l' ≡ put_at b z n at to l →
    Filled d (p ++ in_base b z (to - at) n) to l'
filled_more {d} {p} {l} {l'} {at} b z n to h f e =
    let new = in_base b z (to - at) n in
    let on : at + (to - at) ≡ to = omega arith in
    record {
      wide = length-append p new ∙ ap₂ ◌+◌ f.wide (length_digits b z (to - at) n) ∙ on;
      is =
          e ∙ ap₂ (λ (x y : List ℕ). x ++ (new ++ y)) (front_of f) (rest_of to h f) ∙
          sym (append_assoc p new (drop to d));
    }

-- whatever was filled, it stands in front
pub filled_so_far : {d p l : List ℕ} {at : ℕ} → Filled d p at l → Filled d (take at l) at l
filled_so_far {d} {p} {l} {at} f = subst (λ (q : List ℕ). Filled d q at l) (sym (front_of f)) f
