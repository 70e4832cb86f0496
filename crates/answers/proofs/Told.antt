-- How answers are told apart: what is equal is equal in every number that is read off it.
use Prim.Native.Nat.{ℕ}
use mathlib.Core.Path.{◌≡◌, sym, ◌∙◌, ap, ap₂}
use mathlib.Core.List.{List}
use mathlib.Core.Bool.{Bool, true, false, cond}
use native.Mathlib.Omega.{arith}
use lib.Dec.{eqb}
use denote.Ref.{Bor}
use borrow.Author.Tests.{eq-eqb}
use Rattle.text.specs.Part.{PartOf}

-- two that equal a third
pub equal : {A : Type 0} {x y z : A} → x ≡ z → y ≡ z → x ≡ y
equal p q = p ∙ sym q

-- two parts of the same bytes with the same content and place
pub same_part : {lent part part' : Bor (List ℕ)} {place : ℕ} {content : List ℕ} →
    PartOf lent place content part → PartOf lent place content part' → (part.now ≡ part'.now) × (part.ref_ptr ≡ part'.ref_ptr)
same_part p q = (equal p.holds q.holds, ap₂ (λ (b o : ℕ). (b, o)) (equal p.block q.block) (equal p.begins q.begins))

-- what a number tells apart is not equal
pub told : {A : Type 0} (f : A → ℕ) {x y : A} → eqb (f x) (f y) ≡ false → x ≡ y → ⊥
told f {x} {y} apart e =
    let same : eqb (f x) (f y) ≡ true = eq-eqb (f x) (f y) (ap f e) in
    let absurd : ◌≡◌ {A = ℕ} 0 1 = cc in
    omega arith

-- a number for a truth value
abbrev pub bit : Bool → ℕ
bit b = cond b 1 0
