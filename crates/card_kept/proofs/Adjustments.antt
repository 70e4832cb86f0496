-- An adjustment that keeps its fields: its numbers are those of its digits, it is a credit or a debit, its joined rule holds exactly where its amounts agree,
-- and its net is below 10^11.
use Prim.Native.Nat.{ℕ, ◌+◌, ◌^◌, ◌<◌}
use mathlib.Core.Path.{◌≡◌, refl, sym, ◌∙◌, ap, subst}
use mathlib.Core.Logic.{◌⊎◌, inl, inr, ⊎_elim}
use mathlib.Core.List.{List}
use mathlib.Core.Bool.{Bool, true, false, cond}
use lib.Dec.{eqb}
use borrow.Author.Tests.{eq-eqb, eqb-true}
use Rattle.refusal.specs.Rules.{all_hold}
use Rattle.text.specs.declared.alphabet.Alphabet.TheVariants.{Digits as digits}
use Rattle.text.specs.Alphabet.{allowed, holds_only}
use Rattle.text.specs.Literal.{ascii}
use Rattle.text.specs.Number.{value_from}
use Rattle.text.specs.Part.{positions}
use Rattle.text.proofs.Alphabets.{both_left}
use Rattle.text.proofs.Literals.{IsOneOf, is_one_of_lem, holds_one}
use Rattle.card_content.specs.declared.content.ClosedSet.TheVariants.{AdjustmentType}
use Rattle.card_content.specs.declared.content.Content.TheVariants.{Digits, OneOf}
use Rattle.card_content.specs.Content.{in_set}
use Rattle.card_content.specs.Field.{field}
use Rattle.card_adjustment.specs.declared.aj.Aj.{Aj}
use Rattle.card_adjustment.specs.Aj.{aj_table, aj_of, joined_rules}
use Rattle.card_adjustment.proofs.Ranges.{aj_below}
use Rattle.card_run.specs.declared.running.Running.{Running}
use Rattle.card_kept.specs.Adjustment.{adjustment_type, adjustment_gross, adjustment_discount, adjustment_net}
use Rattle.card_kept.specs.Fields.{FieldsKept, number_at}
use Rattle.card_kept.proofs.FieldsKept.{plain_number_lem}

-- what holds behind a credit and behind a debit holds behind an adjustment
pub either_way : (P : Running → Type 0) (credit : Bool) {a b : Running} → P a → P b → P (cond credit a b)
either_way P true of-credit of-debit = of-credit
either_way P false of-credit of-debit = of-debit

module _ (e : ℕ) (r : List ℕ) (k : FieldsKept e r aj_table) where
  the_type : IsOneOf (ascii "12") (positions 76 76 r)
  unfolding in_set
  the_type = is_one_of_lem (ascii "12") (positions 76 76 r) k.1.1.1.1.1.1.1.1.1.1.0

  -- it is a credit or a debit
  pub credit_or_debit : (adjustment_type r ≡ 1) ⊎ (adjustment_type r ≡ 2)
  unfolding value_from
  credit_or_debit = ⊎_elim (λ p. inl (ap (value_from 0) p)) (⊎_elim (λ p. inr (ap (value_from 0) p)) (λ none. absurd none)) the_type

  type_digits : holds_only digits (positions 76 76 r) ≡ true
  unfolding holds_only allowed
  type_digits = holds_one digits (ascii "12") (positions 76 76 r) refl the_type

-- the numbers that stand in an AJ
abbrev pub plain_aj : List ℕ → Aj
plain_aj r =
    record {
      adjustment_type = adjustment_type r;
      amounts = record { gross = adjustment_gross r; discount = adjustment_discount r; net = adjustment_net r };
      nseq = number_at 188 193 r;
    }

pub plain_aj_lem : (e : ℕ) (r : List ℕ) → FieldsKept e r aj_table → aj_of r ≡ plain_aj r
plain_aj_lem e r k =
    let from13 = k.1.1.1.1.1.1.1.1.1.1.1.1.1 in
    let type = plain_number_lem (field 76 76 (OneOf AdjustmentType)) r refl (type_digits e r k) in
    let gross = plain_number_lem (field 110 120 Digits) r refl from13.0 in
    let discount = plain_number_lem (field 121 131 Digits) r refl from13.1.0 in
    let net = plain_number_lem (field 132 142 Digits) r refl from13.1.1.0 in
    let nseq = plain_number_lem (field 188 193 Digits) r refl from13.1.1.1.1.1.1.1.1.1.0 in
    λ i. record { adjustment_type = type i; amounts = record { gross = gross i; discount = discount i; net = net i }; nseq = nseq i }

pub net_below : (e : ℕ) (r : List ℕ) → FieldsKept e r aj_table → adjustment_net r < 10 ^ 11
net_below e r k = subst (λ (a : Aj). a.amounts.net < 10 ^ 11) (plain_aj_lem e r k) (aj_below r).net

-- where the joined rule holds, the amounts agree, and the other way round
module _ (e : ℕ) (r : List ℕ) (k : FieldsKept e r aj_table) where
  pub joined_agrees : all_hold (joined_rules (aj_of r)) ≡ true → adjustment_gross r ≡ adjustment_discount r + adjustment_net r
  unfolding all_hold joined_rules
  joined_agrees h =
      eqb-true (adjustment_gross r) (adjustment_discount r + adjustment_net r)
      (both_left (eqb (adjustment_gross r) (adjustment_discount r + adjustment_net r)) true
      (sym (ap (λ a. all_hold (joined_rules a)) (plain_aj_lem e r k)) ∙ h))

  pub agrees_joined : adjustment_gross r ≡ adjustment_discount r + adjustment_net r → all_hold (joined_rules (aj_of r)) ≡ true
  unfolding all_hold joined_rules
  agrees_joined h = ap (λ a. all_hold (joined_rules a)) (plain_aj_lem e r k) ∙ rw (eq-eqb _ _ h)
