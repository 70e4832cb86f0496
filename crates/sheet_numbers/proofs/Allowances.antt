-- What allowed numbers are: within their limits, so that both sets are summed without loss.
use Prim.Native.Nat.{ℕ, ◌+◌, ◌^◌, ◌≤◌, ◌<◌}
use mathlib.Core.Path.{◌≡◌, refl}
use mathlib.Core.Bool.{Bool, true, false, ◌&&◌, ◌||◌}
use native.Mathlib.Omega.{arith}
use borrow.Author.Tests.{leb-true, ltb-true, eqb-true}
use lib.Dec.{leb, ltb, eqb}
use Rattle.text.proofs.Alphabets.{both_left, both_right}
use Rattle.totals.specs.declared.amounts.Totals.{Totals}
use Rattle.totals.specs.declared.two_sets.TwoSets.{TwoSets}
use Rattle.totals.specs.Sum.{top}
use Rattle.totals.specs.Amounts.{agreeing, plus}
use Rattle.totals.specs.TwoSets.{both_sets, summed}
use Rattle.totals.proofs.Totals.{Figure, sales, gross, discount, net, figure_of, no_loss}
use Rattle.calendar.specs.Day.{is_day}
use Rattle.sheet_numbers.specs.declared.sheet.Heading.{Heading}
use Rattle.sheet_numbers.specs.Allowed.{within_limits, set_allowed, sets_allowed, heading_allowed, none_of, split_allowed}

pub record Within (t : Totals) : Type 0 where
  pub sales : t.sales ≤ 999999
  pub gross : t.amounts.gross < 10 ^ 17
  pub discount : t.amounts.discount < 10 ^ 17
  pub net : t.amounts.net < 10 ^ 17

pub within : (t : Totals) → within_limits t ≡ true → Within t
unfolding within_limits
within t e =
    let sales = leb t.sales 999999 in
    let gross = ltb t.amounts.gross (10 ^ 17) in
    let discount = ltb t.amounts.discount (10 ^ 17) in
    let net = ltb t.amounts.net (10 ^ 17) in
    let e₁ = both_right sales (gross && (discount && net)) e in
    let e₂ = both_right gross (discount && net) e₁ in
    record {
      sales = leb-true _ _ (both_left sales (gross && (discount && net)) e);
      gross = ltb-true _ _ (both_left gross (discount && net) e₁);
      discount = ltb-true _ _ (both_left discount net e₂);
      net = ltb-true _ _ (both_right discount net e₂);
    }

-- a set that is allowed
pub set_within : (t : Totals) → set_allowed t ≡ true → Within t
unfolding set_allowed
set_within t e = within t (both_left (within_limits t) (agreeing t.amounts) e)

pub set_agrees : (t : Totals) → set_allowed t ≡ true → t.amounts.gross ≡ t.amounts.discount + t.amounts.net
unfolding set_allowed
set_agrees t e = eqb-true _ _ (both_right (within_limits t) (agreeing t.amounts) e)

-- both summed are the sum as whole numbers, since each is far below the top of 64 bits
pub sum_plain : (s : TwoSets) → Within s.settled → Within s.forecast → both_sets s ≡ summed s
unfolding figure_of
sum_plain s a b = no_loss s.forecast s.settled fits
  where
    fits : (f : Figure) → figure_of f (plus s.forecast s.settled) ≤ top
    fits sales = omega (arith, a.sales, b.sales)
    fits gross = omega (arith, a.gross, b.gross)
    fits discount = omega (arith, a.discount, b.discount)
    fits net = omega (arith, a.net, b.net)

-- two sets that are allowed
pub record SetsWithin (s : TwoSets) : Type 0 where
  pub settled : set_allowed s.settled ≡ true
  pub forecast : set_allowed s.forecast ≡ true
  pub both : within_limits (summed s) ≡ true

pub sets_within : (s : TwoSets) → sets_allowed s ≡ true → SetsWithin s
unfolding sets_allowed
sets_within s e =
    let settled = set_allowed s.settled in
    let forecast = set_allowed s.forecast in
    let both = within_limits (summed s) in
    let e₁ = both_right settled (forecast && both) e in
    record {
      settled = both_left settled (forecast && both) e;
      forecast = both_left forecast both e₁;
      both = both_right forecast both e₁;
    }

-- a heading that is allowed
pub record HeadingWithin (h : Heading) : Type 0 where
  pub edition : h.edition ≤ 2
  pub day : is_day h.date ≡ true
  pub movement : h.movement ≤ 999999
  pub batches : h.batches ≤ 999999

pub heading_within : (h : Heading) → heading_allowed h ≡ true → HeadingWithin h
unfolding heading_allowed
heading_within h e =
    let from = leb 1 h.edition in
    let to = leb h.edition 2 in
    let day = is_day h.date in
    let movement = leb h.movement 999999 in
    let batches = leb h.batches 999999 in
    let e₁ = both_right from (to && (day && (movement && batches))) e in
    let e₂ = both_right to (day && (movement && batches)) e₁ in
    let e₃ = both_right day (movement && batches) e₂ in
    record {
      edition = leb-true _ _ (both_left to (day && (movement && batches)) e₁);
      day = both_left day (movement && batches) e₂;
      movement = leb-true _ _ (both_left movement batches e₃);
      batches = leb-true _ _ (both_right movement batches e₃);
    }

-- a split that is allowed has room in its byte
pub split_below : (split : ℕ) (forecast : Totals) → split_allowed split forecast ≡ true → split ≤ 1
unfolding split_allowed
split_below split forecast e = by (eqb split 1) refl e
  where
    by : (b : Bool) → eqb split 1 ≡ b → b || (eqb split 0 && none_of forecast) ≡ true → split ≤ 1
    by true h e = omega (arith, eqb-true split 1 h)
    by false h e = omega (arith, eqb-true split 0 (both_left (eqb split 0) (none_of forecast) e))
