-- A sale that keeps its fields: its numbers are those of its digits, it is settled exactly where it is not forecast, its joined rules hold exactly where its
-- amounts and instalments are right, and what is payable of it is below 10^11.
use Prim.Native.Nat.{ℕ, ◌+◌}
use mathlib.Core.Path.{◌≡◌, refl}
use mathlib.Core.Logic.{◌⊎◌, inl, inr, ⊎_elim}
use mathlib.Core.List.{List}
use mathlib.Core.Bool.{Bool, true, false, cond, not, ◌&&◌, ◌||◌, false≢true}
use native.Mathlib.Omega.{arith}
use lib.Dec.{leb, eqb}
use borrow.Author.Tests.{eq-eqb, ne_eqb, eqb-true, le-leb, leb-true}
use Rattle.refusal.specs.Rules.{all_hold}
use Rattle.text.specs.declared.alphabet.Alphabet.TheVariants.{Digits as digits}
use Rattle.text.specs.Alphabet.{allowed, holds_only}
use Rattle.text.specs.Literal.{ascii}
use Rattle.text.specs.Number.{value_from}
use Rattle.text.specs.Part.{positions}
use Rattle.text.proofs.Alphabets.{both_left, both_right}
use Rattle.text.proofs.Literals.{IsOneOf, is_one_of_lem, holds_one}
use Rattle.card_content.specs.declared.content.ClosedSet.TheVariants.{LaunchType}
use Rattle.card_content.specs.declared.content.Content.TheVariants.{Digits, OneOf}
use Rattle.card_content.specs.Content.{in_set}
use Rattle.card_content.specs.Field.{field}
use Rattle.card_sale.specs.declared.cv.Cv.{Cv}
use Rattle.card_sale.specs.Cv.{cv_table, cv_of, has_instalment, payable, joined_rules}
use Rattle.card_sale.proofs.Ranges.{AmountsBelow, cv_below}
use Rattle.card_kept.specs.Fields.{FieldsKept, number_at}
use Rattle.card_kept.specs.Records.{NoInstalment, Instalment}
use Rattle.card_kept.specs.Sale.{launch_type, payable_gross, payable_discount, payable_net}
use Rattle.card_kept.specs.Kept.{sale as the_sale, is_forecast, is_settled}
use Rattle.card_kept.proofs.FieldsKept.{plain_number_lem}

-- its launch type is one of three, of which 0 alone is forecast
module _ (e : ℕ) (r : List ℕ) (k : FieldsKept e r cv_table) where
  the_launch_type : IsOneOf (ascii "012") (positions 44 44 r)
  unfolding in_set
  the_launch_type = is_one_of_lem (ascii "012") (positions 44 44 r) k.1.1.1.1.0

  launch_type_digits : holds_only digits (positions 44 44 r) ≡ true
  unfolding holds_only allowed
  launch_type_digits = holds_one digits (ascii "012") (positions 44 44 r) refl the_launch_type

  pub is_settled_lem : is_settled (the_sale r) ≡ not (is_forecast (the_sale r))
  unfolding value_from
  is_settled_lem =
      ⊎_elim (λ p. rw p)
      (⊎_elim (λ p. rw p) (⊎_elim (λ p. rw p) (λ none. absurd none)))
      the_launch_type

-- the numbers that stand in a CV, digits being there
abbrev pub plain_cv : List ℕ → Cv
plain_cv r =
    record {
      launch_type = launch_type r;
      sale = record { gross = number_at 55 65 r; discount = number_at 66 76 r; net = number_at 77 87 r };
      instalment = number_at 107 108 r;
      instalments = number_at 109 110 r;
      instalment_nsu = number_at 111 122 r;
      instalment_amounts = record { gross = number_at 123 133 r; discount = number_at 134 144 r; net = number_at 145 155 r };
      nseq = number_at 194 199 r;
    }

pub plain_cv_lem : (e : ℕ) (r : List ℕ) → FieldsKept e r cv_table → cv_of r ≡ plain_cv r
plain_cv_lem e r k =
    let from8 = k.1.1.1.1.1.1.1.1 in
    let from12 = from8.1.1.1.1 in
    let last = from12.1.1.1.1.1.1.1.1.1.1.1.1 in
    let launch = plain_number_lem (field 44 44 (OneOf LaunchType)) r refl (launch_type_digits e r k) in
    let gross = plain_number_lem (field 55 65 Digits) r refl from8.0 in
    let discount = plain_number_lem (field 66 76 Digits) r refl from8.1.0 in
    let net = plain_number_lem (field 77 87 Digits) r refl from8.1.1.0 in
    let one = plain_number_lem (field 107 108 Digits) r refl from12.0 in
    let of = plain_number_lem (field 109 110 Digits) r refl from12.1.0 in
    let nsu = plain_number_lem (field 111 122 Digits) r refl from12.1.1.0 in
    let gross2 = plain_number_lem (field 123 133 Digits) r refl from12.1.1.1.0 in
    let discount2 = plain_number_lem (field 134 144 Digits) r refl from12.1.1.1.1.0 in
    let net2 = plain_number_lem (field 145 155 Digits) r refl from12.1.1.1.1.1.0 in
    let nseq = plain_number_lem (field 194 199 Digits) r refl last.0 in
    λ i. record {
      launch_type = launch i;
      sale = record { gross = gross i; discount = discount i; net = net i };
      instalment = one i;
      instalments = of i;
      instalment_nsu = nsu i;
      instalment_amounts = record { gross = gross2 i; discount = discount2 i; net = net2 i };
      nseq = nseq i;
    }

-- the seven joined rules by the test that there is no instalment
abbrev seven : (none right nsu gross discount net sale instalment : Bool) → Bool
seven none right nsu gross discount net sale instalment =
    (not (not none) || right) && ((not none || nsu) && ((not none || gross) && ((not none || discount) && ((not none || net) &&
    (sale && ((not (not none) || instalment) && true))))))

seven_hold : (z a b c d f s g : Bool) → seven z a b c d f s g ≡ true →
    (s ≡ true) × (((z ≡ true) × (b && (c && (d && f)) ≡ true)) ⊎ ((z ≡ false) × (a && g ≡ true)))
seven_hold true a true true true true true g e = (refl, inl (refl, refl))
seven_hold true a true true true true false g e = absurd (false≢true e)
seven_hold true a true true true false s g e = absurd (false≢true e)
seven_hold true a true true false f s g e = absurd (false≢true e)
seven_hold true a true false d f s g e = absurd (false≢true e)
seven_hold true a false c d f s g e = absurd (false≢true e)
seven_hold false true b c d f true true e = (refl, inr (refl, refl))
seven_hold false true b c d f true false e = absurd (false≢true e)
seven_hold false true b c d f false g e = absurd (false≢true e)
seven_hold false false b c d f s g e = absurd (false≢true e)

-- there is no instalment
abbrev none : List ℕ → Bool
none r = eqb (number_at 107 108 r) 0 && eqb (number_at 109 110 r) 0

-- where the joined rules hold, the amounts and the instalments are right
pub joined_hold : (r : List ℕ) → all_hold (joined_rules (plain_cv r)) ≡ true →
    (number_at 55 65 r ≡ number_at 66 76 r + number_at 77 87 r) × (NoInstalment r ⊎ Instalment r)
unfolding all_hold joined_rules
joined_hold r h =
    let first = eqb (number_at 107 108 r) 0 in
    let second = eqb (number_at 109 110 r) 0 in
    let from = leb 1 (number_at 107 108 r) in
    let to = leb (number_at 107 108 r) (number_at 109 110 r) in
    let nsu = eqb (number_at 111 122 r) 0 in
    let gross = eqb (number_at 123 133 r) 0 in
    let discount = eqb (number_at 134 144 r) 0 in
    let net = eqb (number_at 145 155 r) 0 in
    let sale = eqb (number_at 55 65 r) (number_at 66 76 r + number_at 77 87 r) in
    let agrees = eqb (number_at 123 133 r) (number_at 134 144 r + number_at 145 155 r) in
    let is = seven_hold (first && second) (from && to) nsu gross discount net sale agrees h in (
      eqb-true _ _ is.0,
      ⊎_elim
          (λ n.
          let zeros = both_right nsu (gross && (discount && net)) n.1 in
          let last = both_right gross (discount && net) zeros in
          inl (record {
            no_instalment = eqb-true _ _ (both_left first second n.0);
            no_instalments = eqb-true _ _ (both_right first second n.0);
            nsu = eqb-true _ _ (both_left nsu (gross && (discount && net)) n.1);
            gross = eqb-true _ _ (both_left gross (discount && net) zeros);
            discount = eqb-true _ _ (both_left discount net last);
            net = eqb-true _ _ (both_right discount net last);
          }))
          (λ n.
          let range = both_left (from && to) agrees n.1 in
          inr (record {
            from_one = leb-true _ _ (both_left from to range);
            up_to_lem = leb-true _ _ (both_right from to range);
            agrees = eqb-true _ _ (both_right (from && to) agrees n.1);
          }))
          is.1,
    )

-- and the other way round
pub joined_kept : (r : List ℕ) → number_at 55 65 r ≡ number_at 66 76 r + number_at 77 87 r → NoInstalment r ⊎ Instalment r →
    all_hold (joined_rules (plain_cv r)) ≡ true
unfolding all_hold joined_rules
joined_kept r sale (inl n) =
    rw (
      eq-eqb _ _ sale,
      eq-eqb _ _ n.no_instalment,
      eq-eqb _ _ n.no_instalments,
      eq-eqb _ _ n.nsu,
      eq-eqb _ _ n.gross,
      eq-eqb _ _ n.discount,
      eq-eqb _ _ n.net,
    )
joined_kept r sale (inr n) =
    let some : number_at 107 108 r ≡ 0 → ⊥ = λ e. omega (arith, n.from_one) in
    rw (eq-eqb _ _ sale, ne_eqb _ _ some, le-leb _ _ n.from_one, le-leb _ _ n.up_to_lem, eq-eqb _ _ n.agrees)

-- "Payable means the instalment's amounts where there is an instalment, otherwise the sale's"
pub payable_is : (r : List ℕ) → payable (plain_cv r) ≡ record { gross = payable_gross r; discount = payable_discount r; net = payable_net r }
payable_is r = by (none r)
  where
    by : (z : Bool) →
        cond (not z) (plain_cv r).instalment_amounts (plain_cv r).sale ≡
        record {
          gross = cond z (number_at 55 65 r) (number_at 123 133 r);
          discount = cond z (number_at 66 76 r) (number_at 134 144 r);
          net = cond z (number_at 77 87 r) (number_at 145 155 r);
        }
    by true = refl
    by false = refl

-- "Amounts are eleven digits"
pub payable_below : (r : List ℕ) → AmountsBelow (payable (cv_of r))
payable_below r = by (has_instalment (cv_of r))
  where
    by : (has : Bool) → AmountsBelow (cond has (cv_of r).instalment_amounts (cv_of r).sale)
    by true = (cv_below r).instalment_amounts_lem
    by false = (cv_below r).sale
