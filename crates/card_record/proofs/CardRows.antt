-- The row of every kind that has a card. A kind more with a card is one row more, and no other proof.
use Prim.Native.Nat.{ℕ}
use mathlib.Core.Path.{◌≡◌, refl, ap, subst}
use mathlib.Core.Logic.{inl, inr}
use mathlib.Core.List.{List}
use mathlib.Core.Bool.{true, or-true}
use native.Mathlib.Omega.{arith}
use lib.ListN.{take, drop}
use Rattle.card_content.specs.declared.content.ClosedSet.TheVariants.{LaunchType, AdjustmentType}
use Rattle.card_content.specs.declared.content.Content.TheVariants.{Digits, Card, CardOrBlanks, OneOf}
use Rattle.card_content.specs.declared.content.Content.{Content}
use Rattle.card_content.specs.Content.{card_or_blanks_rules, content_rules}
use Rattle.card_content.specs.EqualOutside.{EqualOutside}
use Rattle.card_content.specs.Field.{field}
use Rattle.card_content.proofs.FieldParts.{same_number}
use Rattle.card_sale.specs.Cv.{cv_table, cv_of}
use Rattle.card_adjustment.specs.Aj.{aj_table, aj_of}
use Rattle.std.specs.Prelude.{Some, None}
use Rattle.card_record.specs.declared.kind.Kind.{Kind}
use Rattle.card_record.specs.declared.kind.Kind.TheVariants.{A0, L0, Cv, Aj, L9, A9}
use Rattle.card_record.specs.declared.reading.Reading.TheVariants.{Cv as cv, Aj as aj}
use Rattle.card_record.specs.Reading.{card_of, right_reading}
use Rattle.pan.specs.CardField.{well_formed}
use Rattle.card_record.proofs.CardRow.{CardRow, AlikeCards}

-- a content that looks at a card only to see whether it is well formed has the same rules for cards that are alike
same_rules : (c : Content) (edition column : ℕ) →
    ((p q : List ℕ) → well_formed p ≡ true → well_formed q ≡ true → content_rules c edition column p ≡ content_rules c edition column q) →
    (p q : List ℕ) → AlikeCards p q → content_rules c edition column p ≡ content_rules c edition column q
same_rules c edition column formed p q (inl (h, k)) = formed p q h k
same_rules c edition column formed p q (inr e) = ap (content_rules c edition column) e

-- CV
cv_numbers : (r s : List ℕ) → EqualOutside 87 106 r s → cv_of r ≡ cv_of s
cv_numbers r s same =
    let number = same_number 87 106 r s same in
    rw (
      number (field 44 44 (OneOf LaunchType)) refl,
      number (field 55 65 Digits) refl,
      number (field 66 76 Digits) refl,
      number (field 77 87 Digits) refl,
      number (field 107 108 Digits) refl,
      number (field 109 110 Digits) refl,
      number (field 111 122 Digits) refl,
      number (field 123 133 Digits) refl,
      number (field 134 144 Digits) refl,
      number (field 145 155 Digits) refl,
      number (field 194 199 Digits) refl,
    )

cv_row : CardRow Cv 87
unfolding content_rules right_reading
cv_row =
    record {
      kind_clear = refl;
      inside = refl;
      card = field 88 106 Card;
      before = take 11 cv_table;
      behind = drop 12 cv_table;
      table = refl;
      before_clear = refl;
      behind_clear = refl;
      same_card = λ edition r s. same_rules Card edition 88 (λ p q h k. rw (h, k)) _ _;
      same_numbers = λ r s same. ap cv (cv_numbers r s same);
    }

-- AJ
aj_numbers : (r s : List ℕ) → EqualOutside 162 181 r s → aj_of r ≡ aj_of s
aj_numbers r s same =
    let number = same_number 162 181 r s same in
    rw (
      number (field 76 76 (OneOf AdjustmentType)) refl,
      number (field 110 120 Digits) refl,
      number (field 121 131 Digits) refl,
      number (field 132 142 Digits) refl,
      number (field 188 193 Digits) refl,
    )

aj_row : CardRow Aj 162
unfolding card_or_blanks_rules content_rules right_reading
aj_row =
    record {
      kind_clear = refl;
      inside = refl;
      card = field 163 181 CardOrBlanks;
      before = take 19 aj_table;
      behind = drop 20 aj_table;
      table = refl;
      before_clear = refl;
      behind_clear = refl;
      same_card = λ edition r s. same_rules CardOrBlanks edition 163 (λ p q h k. rw (h, k, or-true, or-true)) _ _;
      same_numbers = λ r s same. ap aj (aj_numbers r s same);
    }

-- what has no card has none at a place
pub nowhere : {from : ℕ} → None ≡ Some from → ⊥
nowhere e = let z : ◌≡◌ {A = ℕ} 0 1 = cc in omega arith

same_from : {k from : ℕ} → Some k ≡ Some from → k ≡ from
same_from e = cc

-- each kind
pub card_row : (kind : Kind) {from : ℕ} → card_of kind ≡ Some from → CardRow kind from
card_row A0 e = absurd (nowhere e)
card_row L0 e = absurd (nowhere e)
card_row Cv e = subst (CardRow Cv) (same_from e) cv_row
card_row Aj e = subst (CardRow Aj) (same_from e) aj_row
card_row L9 e = absurd (nowhere e)
card_row A9 e = absurd (nowhere e)
