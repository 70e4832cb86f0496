-- What it says that rules have no fault, where the run's numbers stay at the top of 64 bits: a field has at most 18 digits, and top has 20,
-- so it holds a number that stays there exactly where it holds the whole number.
use Prim.Native.Nat.{ℕ, ◌-◌, ◌^◌, ◌≤◌, ◌<◌, min}
use mathlib.Core.Path.{◌≡◌, sym, ◌∙◌}
use mathlib.Core.Logic.{◌↔◌}
use mathlib.Core.List.{List, [], ◌∷◌, ◌++◌}
use native.Mathlib.Omega.{arith}
use native.Mathlib.Nat.{pow-le-pow_right}
use lib.ListN.{length, length-take, length-drop}
use lib.Dec.{leb, ltb, lit<}
use borrow.Author.Tests.{leb-true, le-leb, ltb-true, lt-ltb}
use Rattle.refusal.specs.declared.Cause.{Cause}
use Rattle.refusal.specs.Rules.{Rule, rule_at, first_broken}
use Rattle.totals.specs.Sum.{top}
use Rattle.text.specs.Part.{positions}
use Rattle.payroll_record.specs.Field.{field, number_in, number_rules}
use Rattle.payroll_record.proofs.Fields.{Writes, read, number_below}
use Rattle.payroll_record.proofs.NoFault.{NoFault, none_in_a_row, none_of_one, field_right, RealDay}
use Rattle.payroll_step.specs.Rules.{found_rules}
use Rattle.payroll_step.proofs.Found.{found as is_found}
use Rattle.payroll_kept.specs.Fields.{Holds, DayAt}

-- two rows, one behind the other
pub rows : {X Y : Type 0} (a b : List Rule) → (NoFault a ↔ X) → (NoFault b ↔ Y) → (NoFault (a ++ b) ↔ X × Y)
rows a b p q =
    let both = none_in_a_row a b in
    (λ e. (p.0 (both.0 e).0, q.0 (both.0 e).1), λ h. both.1 (p.1 h.0, q.1 h.1))

-- what reading found
pub found : {X : Type 0} (rules : List Rule) → (NoFault rules ↔ X) → (NoFault (found_rules (first_broken rules)) ↔ X)
found rules p =
    let same = is_found (first_broken rules) in
    (λ e. p.0 (same ∙ e), λ x. sym same ∙ p.1 x)

-- a number of a field is below 10^18
below : (first last n : ℕ) (r : List ℕ) → last - (first - 1) ≤ 18 → Writes (positions first last r) n → n < 10 ^ 18
below first last n r h w =
    let f = field first last in
    omega (arith, number_below f r n (read f r n h w), pow-le-pow_right {n = 10} (lit< tt) {i = last - (first - 1)} {j = 18} h)

-- and as many digits as there are positions write a number below that power of ten
pub holds_below : (first last n : ℕ) (r : List ℕ) → last - (first - 1) ≤ 18 → Holds first last n r → n < 10 ^ (last - (first - 1))
holds_below first last n r h k =
    let f = field first last in
    number_below f r n (read f r n h (record { digits = k.digits; value = k.number }))

-- a field that should hold a number that stays at the top
pub number_holds : (c : Cause) (first last : ℕ) (r : List ℕ) (x n : ℕ) → x ≡ min n top → last - (first - 1) ≤ 18 →
    NoFault (number_rules c first (number_in (field first last) r) x) ↔ Holds first last n r
number_holds c first last r x n e h =
    let right = field_right c (field first last) r x h in (
      λ p.
          let w = right.0 p in
          let same : x ≡ n = omega (arith, below first last x r h w) in
          record { digits = w.digits; number = w.value ∙ same },
      λ k.
          let w : Writes (positions first last r) n = record { digits = k.digits; value = k.number } in
          let same : n ≡ x = omega (arith, below first last n r h w) in
          right.1 (record { digits = k.digits; value = k.number ∙ same }),
    )

-- a number that is at most another, or below it, far from the top
pub at_most_holds : (c : Cause) (k x n : ℕ) → x ≡ min n top → NoFault (rule_at c k (leb x 9998) ∷ []) ↔ (n ≤ 9998)
at_most_holds c k x n e =
    let one = none_of_one c k (leb x 9998) in
    (λ p. omega (arith, leb-true x 9998 (one.0 p)), λ h. one.1 (le-leb x 9998 (omega arith)))

pub below_holds : (c : Cause) (k x n : ℕ) → x ≡ min n top → NoFault (rule_at c k (ltb x (10 ^ 19)) ∷ []) ↔ (n < 10 ^ 19)
below_holds c k x n e =
    let one = none_of_one c k (ltb x (10 ^ 19)) in
    (λ p. omega (arith, ltb-true x (10 ^ 19) (one.0 p)), λ h. one.1 (lt-ltb x (10 ^ 19) (omega arith)))

-- a date in a record of 240 bytes
pub day_holds : (first last : ℕ) (r : List ℕ) → length r ≡ 240 → last ≤ 240 → last - (first - 1) ≡ 8 → RealDay (positions first last r) ↔ DayAt first last r
day_holds first last r wide inside eight =
    (λ d. record { digits = d.digits; real = d.real }, λ d. record { digits = d.digits; wide = eight_wide; real = d.real })
  where
    eight_wide : length (positions first last r) ≡ 8
    eight_wide = simp (length-drop, length-take) (omega arith)
