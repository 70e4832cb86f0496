-- What is offered: a number from 1 to 26, and never the card; and what is handed back then, and otherwise.
use Prim.Native.Nat.{ℕ, ◌≤◌}
use mathlib.Core.Path.{◌≡◌, refl}
use mathlib.Core.List.{List, []}
use mathlib.Core.Bool.{Bool, true, false, cond, not, ◌&&◌}
use borrow.Author.Tests.{leb-true, eqb-true, eqb-false, not-true}
use lib.ListN.{length}
use lib.Dec.{leb, eqb}
use Rattle.refusal.specs.declared.Refusal.{Refusal}
use Rattle.text.specs.Literal.{ascii, same_bytes}
use Rattle.text.specs.Part.{positions, place_of}
use Rattle.text.proofs.Alphabets.{both_left, both_right}
use Rattle.card_content.specs.Field.{part_of}
use Rattle.sale_field.specs.Field.{FieldAnswer, numbered, offered, refusal_of, part_as, field_of, place_as, place_of_field}
use Rattle.std.specs.Prelude.{Err, Ok}

was_offered : (p q r : Bool) (x y z : Refusal) → ◌≡◌ {A = FieldAnswer} (cond p (cond q (cond r (Ok tt) (Err x)) (Err y)) (Err z)) (Ok tt) →
    ((p ≡ true) × (q ≡ true)) × (r ≡ true)
was_offered true true true x y z e = ((refl, refl), refl)
was_offered true true false x y z e = ((refl, refl), cc)
was_offered true false r x y z e = ((refl, cc), cc)
was_offered false q r x y z e = ((cc, cc), cc)

module _ (r : List ℕ) (n : ℕ) (e : refusal_of r n ≡ (Ok tt)) where
  all_three : ((same_bytes (positions 1 2 r) (ascii "CV") ≡ true) × (eqb (length r) 199 ≡ true)) × (offered n ≡ true)
  unfolding refusal_of
  all_three = was_offered (same_bytes (positions 1 2 r) (ascii "CV")) (eqb (length r) 199) (offered n) _ _ _ e

  -- the record is as wide as a sale and named so
  pub is_sale_lem : (same_bytes (positions 1 2 r) (ascii "CV") ≡ true) × (length r ≡ 199)
  is_sale_lem = (all_three.0.0, eqb-true (length r) 199 all_three.0.1)

  pub is_offered : offered n ≡ true
  is_offered = all_three.1

pub in_range : (r : List ℕ) (n : ℕ) → refusal_of r n ≡ (Ok tt) → (1 ≤ n) × (n ≤ 26)
in_range r n e =
    let o = is_offered r n e in
    let rest = both_right (leb 1 n) (leb n 26 && not (eqb n 13)) o in
    (leb-true _ _ (both_left (leb 1 n) (leb n 26 && not (eqb n 13)) o), leb-true _ _ (both_left (leb n 26) (not (eqb n 13)) rest))

-- the card is never handed back
pub not_the_card : (r : List ℕ) (n : ℕ) → refusal_of r n ≡ (Ok tt) → n ≡ 13 → ⊥
not_the_card r n e =
    let o = is_offered r n e in
    let rest = both_right (leb 1 n) (leb n 26 && not (eqb n 13)) o in
    eqb-false _ _ (not-true _ (both_right (leb n 26) (not (eqb n 13)) rest))

-- what is handed back, and where it begins
pub is_field : (r : List ℕ) (n : ℕ) → refusal_of r n ≡ (Ok tt) → field_of r n ≡ part_of (numbered n) r
unfolding part_as
is_field r n e = rw e

pub is_place : (r : List ℕ) (n : ℕ) → refusal_of r n ≡ (Ok tt) → place_of_field r n ≡ place_of (numbered n).0 (numbered n).1 r
unfolding place_as
is_place r n e = rw e

pub is_empty : (r : List ℕ) (n : ℕ) (x : Refusal) → refusal_of r n ≡ Err x → field_of r n ≡ []
unfolding part_as
is_empty r n x e = rw e

pub in_front_lem : (r : List ℕ) (n : ℕ) (x : Refusal) → refusal_of r n ≡ Err x → place_of_field r n ≡ 0
unfolding place_as
in_front_lem r n x e = rw e
