-- What is converted keeps its edition, and is allowed: both sets summed are a set within the limits, and a set with none beside it is two.
use Prim.Native.Nat.{◌+◌}
use mathlib.Core.Path.{◌≡◌, refl, ◌∙◌, ap}
use mathlib.Core.Bool.{true, ◌&&◌}
use native.Mathlib.Omega.{arith}
use native.Mathlib.Nat.{zero-add}
use borrow.Author.Tests.{eq-eqb, eqb-true}
use lib.Dec.{eqb}
use Rattle.text.proofs.Alphabets.{both, both_left, both_right}
use Rattle.totals.specs.declared.amounts.Totals.{Totals}
use Rattle.totals.specs.declared.two_sets.TwoSets.{TwoSets}
use Rattle.totals.specs.Amounts.{agreeing, no_totals, added_totals}
use Rattle.totals.specs.TwoSets.{sets_of, both_sets, summed}
use Rattle.totals.proofs.Totals.{neutral}
use Rattle.sheet_numbers.specs.declared.sheet.Sheet.{Sheet}
use Rattle.sheet_numbers.specs.declared.sheet.Sheet.TheVariants.{Version1, Version2}
use Rattle.sheet_numbers.specs.Allowed.{within_limits, set_allowed, sets_allowed, heading_allowed, none_of, split_allowed, sheet_allowed}
use Rattle.sheet_numbers.specs.Edition.{sheet_edition}
use Rattle.sheet_numbers.specs.Converted.{converted}
use Rattle.sheet_numbers.proofs.Allowances.{set_within, set_agrees, sum_plain, sets_within}

-- the edition stays
pub same_edition : (s : Sheet) → sheet_edition (converted s) ≡ sheet_edition s
unfolding converted
same_edition (Version1 h t) = refl
same_edition (Version2 h split sets) = refl

-- no sale added changes no allowed totals
pub none_added : (t : Totals) → set_allowed t ≡ true → added_totals no_totals t ≡ t
none_added t e =
    let w = set_within t e in
    let sales = w.sales in
    let gross = w.gross in
    let discount = w.discount in
    let net = w.net in
    neutral t (record { sales = omega arith; amounts = record { gross = omega arith; discount = omega arith; net = omega arith } })

-- both sets summed are a set that is allowed
both_allowed : (s : TwoSets) → sets_allowed s ≡ true → set_allowed (both_sets s) ≡ true
unfolding set_allowed
both_allowed s e =
    let w = sets_within s e in
    let plain = sum_plain s (set_within s.settled w.settled) (set_within s.forecast w.forecast) in
    let settled = set_agrees s.settled w.settled in
    let forecast = set_agrees s.forecast w.forecast in
    let sum = (summed s).amounts in
    let agree : agreeing sum ≡ true = eq-eqb sum.gross (sum.discount + sum.net) (omega arith) in
    ap set_allowed plain ∙ both w.both agree

-- and so is a set with none beside it
alone_allowed : (t : Totals) → set_allowed t ≡ true → sets_allowed (sets_of no_totals t) ≡ true
unfolding sets_allowed set_allowed within_limits
alone_allowed t e =
    let alone : summed (sets_of no_totals t) ≡ t = λ i. record {
      sales = zero-add t.sales i;
      amounts = record {
        gross = zero-add t.amounts.gross i;
        discount = zero-add t.amounts.discount i;
        net = zero-add t.amounts.net i;
      };
    } in
    both e (ap within_limits alone ∙ both_left (within_limits t) (agreeing t.amounts) e)

pub converted_allowed : (s : Sheet) → sheet_allowed s ≡ true → sheet_allowed (converted s) ≡ true
unfolding converted sheet_allowed split_allowed none_of
converted_allowed (Version1 h t) e =
    both (both_left (heading_allowed h) (set_allowed t) e) (both (alone_allowed t (both_right (heading_allowed h) (set_allowed t) e)) refl)
converted_allowed (Version2 h split sets) e =
    let rest = sets_allowed sets && split_allowed split sets.forecast in
    both (both_left (heading_allowed h) rest e)
    (both_allowed sets (both_left (sets_allowed sets) (split_allowed split sets.forecast) (both_right (heading_allowed h) rest e)))

-- totals of which every number is zero
pub is_none : (t : Totals) → none_of t ≡ true → t ≡ no_totals
unfolding none_of
is_none t e =
    let sales = eqb t.sales 0 in
    let gross = eqb t.amounts.gross 0 in
    let discount = eqb t.amounts.discount 0 in
    let net = eqb t.amounts.net 0 in
    let e₁ = both_right sales (gross && (discount && net)) e in
    let e₂ = both_right gross (discount && net) e₁ in
    let s = eqb-true _ _ (both_left sales (gross && (discount && net)) e) in
    let g = eqb-true _ _ (both_left gross (discount && net) e₁) in
    let d = eqb-true _ _ (both_left discount net e₂) in
    let n = eqb-true _ _ (both_right discount net e₂) in
    λ i. record { sales = s i; amounts = record { gross = g i; discount = d i; net = n i } }
