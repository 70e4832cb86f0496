-- What it says of a record that a row of rules has no fault, and that it has none where this holds. Rows that stand behind one another have none
-- exactly where each has none; then a law for each row.
use Prim.Native.Nat.{ℕ, ◌≤◌}
use mathlib.Core.Path.{◌≡◌, refl, sym, ◌∙◌, ap}
use mathlib.Core.Logic.{◌↔◌}
use mathlib.Core.List.{List, [], ◌∷◌, ◌++◌}
use mathlib.Core.Bool.{Bool, true, false, false≢true}
use lib.ListN.{length}
use lib.Dec.{eqb}
use borrow.Author.Tests.{eq-eqb, eqb-true}
use Rattle.std.specs.Prelude.{Option, Some, None, Ok, Err, is_none}
use Rattle.refusal.specs.declared.Cause.{Cause}
use Rattle.refusal.specs.Fault.{Judged, nothing, at, earlier_of}
use Rattle.refusal.specs.Rules.{Rule, rule_at, first_broken}
use Rattle.refusal.proofs.Faults.{not_both}
use Rattle.refusal.proofs.Rules.{in_a_row}
use Rattle.text.specs.declared.alphabet.Alphabet.TheVariants.{Digits, PlainAscii}
use Rattle.text.specs.declared.number.NoNumber.TheVariants.{NotDigits, TooLong}
use Rattle.text.specs.Alphabet.{holds_only, first_stray}
use Rattle.text.specs.Number.{Number, value_of}
use Rattle.text.proofs.Strays.{nowhere}
use Rattle.calendar.specs.declared.when.Unreadable.TheVariants.{NotDigits as no_digits, NoSuch}
use Rattle.calendar.specs.When.{When, when_rules}
use Rattle.calendar.specs.Day.{is_day, turned, day_first}
use Rattle.calendar.proofs.Whens.{day_first_lem}
use Rattle.payroll_record.specs.declared.field.Field.{Field}
use Rattle.payroll_record.specs.Field.{part_of, number_in, digit_rules, number_rules, day_rules}
use Rattle.payroll_record.specs.Front.{stray_at, stray_rules}
use Rattle.payroll_record.proofs.Fields.{width_of, Writes, written, read}

-- a row of rules without a fault
abbrev pub NoFault : List Rule → Type 0
NoFault rules = first_broken rules ≡ nothing

-- a fault is not no fault
never : {A : Type 0} {c : Cause} {k : ℕ} → at c k ≡ nothing → A
never e = absurd (not_both (sym e))

-- rows in a row
pub none_in_a_row : (a b : List Rule) → NoFault (a ++ b) ↔ NoFault a × NoFault b
none_in_a_row a b =
    (λ e. each (first_broken a) (first_broken b) (sym (in_a_row a b) ∙ e), λ h. in_a_row a b ∙ rw h.0 h.1)
  where
    each : (f g : Judged) → earlier_of f g ≡ nothing → (f ≡ nothing) × (g ≡ nothing)
    each (Ok none) g e = (refl, e)
    each (Err fault) g e = never e

-- one rule
pub none_of_one : (c : Cause) (k : ℕ) (h : Bool) → NoFault (rule_at c k h ∷ []) ↔ (h ≡ true)
unfolding first_broken
none_of_one c k true = (λ e. refl, λ h. refl)
none_of_one c k false = (λ e. never e, λ h. absurd (false≢true h))

-- a number: it is the one that it should be
pub number_right : (c : Cause) (k : ℕ) (n : Number) (right : ℕ) → NoFault (number_rules c k n right) ↔ (n ≡ Ok right)
unfolding first_broken number_rules
number_right c k (Err NotDigits) right = (λ e. never e, λ h. cc)
number_right c k (Err TooLong) right = (λ e. never e, λ h. cc)
number_right c k (Ok n) right = (
  λ e. ap Ok (eqb-true n right ((none_of_one c k (eqb n right)).0 e)),
  λ h.
      let same : n ≡ right = cc in
      (none_of_one c k (eqb n right)).1 (eq-eqb n right same),
)

-- a day or a time: it names one
pub when_right : (k : ℕ) (w : When) → NoFault (when_rules k w) ↔ (n : ℕ) × (w ≡ Ok n)
unfolding first_broken when_rules
when_right k (Err no_digits) = (λ e. never e, λ h. cc h.1)
when_right k (Err NoSuch) = (λ e. never e, λ h. cc h.1)
when_right k (Ok n) = (λ e. (n, refl), λ h. refl)

-- a part is a real day, DDMMAAAA
pub record RealDay (s : List ℕ) : Type 0 where
  pub digits : holds_only Digits s ≡ true
  pub wide : length s ≡ 8
  pub real : is_day (turned (value_of s)) ≡ true

pub day_right : (f : Field) (r : List ℕ) → NoFault (day_rules f r) ↔ RealDay (part_of f r)
day_right f r =
    let s = part_of f r in
    let right = when_right f.0 (day_first s) in (
      λ e.
          let named = right.0 e in
          let says = (day_first_lem s).at named.0 named.1 in
          record { digits = says.digits; wide = says.wide; real = sym (ap is_day says.number) ∙ says.real },
      λ d. right.1 (turned (value_of s), (day_first_lem s).at_if _ (record { digits = d.digits; wide = d.wide; number = refl; real = d.real })),
    )

-- digits
pub digits_right_lem : (f : Field) (r : List ℕ) → NoFault (digit_rules f r) ↔ (holds_only Digits (part_of f r) ≡ true)
digits_right_lem f r = none_of_one _ f.0 (holds_only Digits (part_of f r))

-- a number in a field of a record
pub field_right : (c : Cause) (f : Field) (r : List ℕ) (right : ℕ) → width_of f ≤ 18 →
    NoFault (number_rules c f.0 (number_in f r) right) ↔ Writes (part_of f r) right
field_right c f r right h =
    let same = number_right c f.0 (number_in f r) right in
    (λ e. written f r right (same.0 e), λ w. same.1 (read f r right h w))

-- no byte outside 32 to 126
pub plain_right : (r : List ℕ) → NoFault (stray_rules r) ↔ (holds_only PlainAscii r ≡ true)
unfolding first_broken stray_at
plain_right r = of (first_stray PlainAscii 0 r) (nowhere PlainAscii 0 r)
  where
    of : (found : Option ℕ) {p : Bool} → p ≡ is_none found → NoFault (stray_at found) ↔ (p ≡ true)
    of None p = (λ e. p, λ h. refl)
    of (Some k) p = (λ e. never e, λ h. absurd (false≢true (sym p ∙ h)))
