-- `same_bytes` says of two lists that they are equal; what one byte of a set does to `has_byte`; and which byte it can be.
use Prim.Native.Nat.{ℕ}
use mathlib.Core.Path.{◌≡◌, refl, sym, ◌∙◌, ap, ap₂, subst}
use mathlib.Core.Logic.{◌⊎◌, inl, inr}
use mathlib.Core.List.{List, [], ◌∷◌}
use mathlib.Core.Bool.{Bool, true, false, ◌&&◌, ◌||◌, false≢true}
use Rattle.std.specs.Prelude.{nat_eq}
use Rattle.std.specs.List.{list_any}
use lib.Pointwise.{pointwise}
use native.Mathlib.Omega.{arith}
use borrow.Author.Tests.{eq-eqb, eqb-true}
use lib.ListN.{length, get_or}
use lib.Dec.{eqb}
use Rattle.text.specs.declared.alphabet.Alphabet.{Alphabet}
use Rattle.text.specs.Alphabet.{allowed, holds_only}
use Rattle.text.specs.Literal.{same_bytes, has_byte, one_byte_of}
use Rattle.text.proofs.Alphabets.{both, both_left, both_right}

-- a list has the same bytes as itself
pub same_self : (s : List ℕ) → same_bytes s s ≡ true
unfolding same_bytes
same_self [] = refl
same_self (b ∷ s) = both (eq-eqb b b refl) (same_self s)

-- lists with the same bytes are equal
pub same_equal : (s t : List ℕ) → same_bytes s t ≡ true → s ≡ t
unfolding same_bytes
same_equal [] [] e = refl
same_equal [] (b ∷ t) e = absurd (false≢true e)
same_equal (a ∷ s) [] e = absurd (false≢true e)
same_equal (a ∷ s) (b ∷ t) e =
    ap₂ ◌∷◌ (eqb-true a b (both_left (eqb a b) (same_bytes s t) e)) (same_equal s t (both_right (eqb a b) (same_bytes s t) e))

-- equal lists have the same bytes
pub equal_same : (s t : List ℕ) → s ≡ t → same_bytes s t ≡ true
equal_same s t e = subst (λ (l : List ℕ). same_bytes s l ≡ true) e (same_self s)

-- what `==` answers of two lists
pub pair_by_pair : (s t : List ℕ) → pointwise nat_eq s t ≡ same_bytes s t
unfolding same_bytes
pair_by_pair [] [] = refl
pair_by_pair [] (b ∷ t) = refl
pair_by_pair (a ∷ s) [] = refl
pair_by_pair (a ∷ s) (b ∷ t) = ap (λ q. eqb a b && q) (pair_by_pair s t)

-- what `contains` answers of a set
one_by_one : (b : ℕ) (set : List ℕ) → list_any (λ x. nat_eq x b) set ≡ has_byte b set
unfolding has_byte
one_by_one b [] = refl
one_by_one b (x ∷ set) = ap (λ q. eqb x b || q) (one_by_one b set)

-- a part of one byte, and a part of another length
pub one_byte : (set s : List ℕ) → length s ≡ 1 → list_any (λ x. nat_eq x (get_or s 0 0)) set ≡ one_byte_of set s
unfolding one_byte_of
one_byte set [] e = absurd (omega arith)
one_byte set (b ∷ []) e = one_by_one b set
one_byte set (b ∷ c ∷ s) e = absurd (omega arith)

pub not_one_byte : (set s : List ℕ) → (length s ≡ 1 → ⊥) → false ≡ one_byte_of set s
unfolding one_byte_of
not_one_byte set [] e = refl
not_one_byte set (b ∷ []) e = absurd (e refl)
not_one_byte set (b ∷ c ∷ s) e = refl

-- a part that is one byte of a set: the first of it, or one of the others
abbrev pub IsOneOf : List ℕ → List ℕ → Type 0
IsOneOf [] p = ⊥
IsOneOf (x ∷ set) p = (p ≡ x ∷ []) ⊎ IsOneOf set p

among : (b : ℕ) (set : List ℕ) → has_byte b set ≡ true → IsOneOf set (b ∷ [])
unfolding has_byte
among b [] e = false≢true e
among b (x ∷ set) e = by (eqb x b) refl (among b set) e
  where
    by : (here : Bool) → eqb x b ≡ here → (has_byte b set ≡ true → IsOneOf set (b ∷ [])) → here || has_byte b set ≡ true → IsOneOf (x ∷ set) (b ∷ [])
    by true q others e = inl (ap (λ (c : ℕ). c ∷ []) (sym (eqb-true x b q)))
    by false q others e = inr (others e)

pub is_one_of_lem : (set p : List ℕ) → one_byte_of set p ≡ true → IsOneOf set p
unfolding one_byte_of
is_one_of_lem set [] e = absurd (false≢true e)
is_one_of_lem set (b ∷ []) e = among b set e
is_one_of_lem set (b ∷ c ∷ s) e = absurd (false≢true e)

-- so it holds what the set holds
pub holds_one : (a : Alphabet) (set p : List ℕ) → holds_only a set ≡ true → IsOneOf set p → holds_only a p ≡ true
unfolding holds_only
holds_one a [] p h none = absurd none
holds_one a (x ∷ set) p h (inl e) = ap (holds_only a) e ∙ both (both_left (allowed a x) (holds_only a set) h) refl
holds_one a (x ∷ set) p h (inr others) = holds_one a set p (both_right (allowed a x) (holds_only a set) h) others
