-- What each answer of a reading means. It is said once, over the width, the number that the digits stand for and its test;
-- a law for each of the three readings says that it means this.
use Prim.Native.Nat.{ℕ}
use mathlib.Core.Path.{◌≡◌, refl, sym, ◌∙◌, ap}
use mathlib.Core.List.{List}
use mathlib.Core.Bool.{Bool, true, false, cond, ◌&&◌, true≢false}
use native.Mathlib.Omega.{arith}
use lib.ListN.{length}
use lib.Dec.{eqb}
use borrow.Author.Tests.{eq-eqb, eqb-true}
use Rattle.text.specs.Alphabet.{holds_only}
use Rattle.text.specs.declared.alphabet.Alphabet.TheVariants.{Digits}
use Rattle.text.specs.Number.{value_of}
use Rattle.text.proofs.Alphabets.{both, both_left, both_right}
use Rattle.std.specs.Prelude.{Ok, Err}
use Rattle.calendar.specs.declared.when.Unreadable.TheVariants.{NotDigits, NoSuch}
use Rattle.calendar.specs.When.{When, only_if}
use Rattle.calendar.specs.Day.{is_day, turned, turned_round, year_first, day_first}
use Rattle.calendar.specs.Time.{is_time, time_of}

-- a part says n: it has as many digits as it should, they stand for n, and n passes the test
pub record Says (width : ℕ) (test : ℕ → Bool) (value : ℕ) (s : List ℕ) (n : ℕ) : Type 0 where
  pub digits : holds_only Digits s ≡ true
  pub wide : length s ≡ width
  pub number : n ≡ value
  pub real : test n ≡ true

-- what each answer means, and when it is given
pub record Means (width : ℕ) (test : ℕ → Bool) (value : ℕ) (s : List ℕ) (answer : When) : Type 0 where
  pub at : (n : ℕ) → answer ≡ Ok n → Says width test value s n
  pub at_if : (n : ℕ) → Says width test value s n → answer ≡ Ok n
  pub not_digits : answer ≡ Err NotDigits → holds_only Digits s ≡ false
  pub not_digits_if : holds_only Digits s ≡ false → answer ≡ Err NotDigits
  pub no_such : answer ≡ Err NoSuch → (holds_only Digits s ≡ true) × (length s ≡ width → test value ≡ true → ⊥)
  pub no_such_if : holds_only Digits s ≡ true → (length s ≡ width → test value ≡ true → ⊥) → answer ≡ Err NoSuch

-- the answer by two tests: the part is digits, and they are of a real day or time
abbrev answered : Bool → Bool → ℕ → When
answered p q v = cond p (cond q (Ok v) (Err NoSuch)) (Err NotDigits)

-- two different answers are not equal
never : {A : Type 0} → ◌≡◌ {A = ℕ} 0 1 → A
never e = absurd (omega arith)

was_at : (p q : Bool) (v n : ℕ) → answered p q v ≡ Ok n → (p ≡ true) × (q ≡ true) × (n ≡ v)
was_at true true v n e = (refl, refl, cc)
was_at true false v n e = never (cc)
was_at false q v n e = never (cc)

was_not_digits : (p q : Bool) (v : ℕ) → answered p q v ≡ Err NotDigits → p ≡ false
was_not_digits true true v e = never (cc)
was_not_digits true false v e = never (cc)
was_not_digits false q v e = refl

was_no_such : (p q : Bool) (v : ℕ) → answered p q v ≡ Err NoSuch → (p ≡ true) × (q ≡ false)
was_no_such true true v e = never (cc)
was_no_such true false v e = (refl, refl)
was_no_such false q v e = never (cc)

not_both : (p q : Bool) → (p ≡ true → q ≡ true → ⊥) → p && q ≡ false
not_both false q h = refl
not_both true false h = refl
not_both true true h = absurd (h refl refl)

-- so it means what it should
module _ (width : ℕ) (test : ℕ → Bool) (value : ℕ) (s : List ℕ) where
  meant : {answer : When} → answer ≡ answered (holds_only Digits s) (eqb (length s) width && test value) value → Means width test value s answer
  meant a =
      let p = holds_only Digits s in
      let w = eqb (length s) width in
      let t = test value in
      record {
        at = λ n e.
            let is = was_at p (w && t) value n (sym a ∙ e) in
            record {
              digits = is.0;
              wide = eqb-true _ _ (both_left w t is.1);
              number = is.2;
              real = ap test is.2 ∙ both_right w t is.1;
            };
        at_if = λ n says.
            a ∙ rw (says.digits, both (eq-eqb _ _ says.wide) (sym (ap test says.number) ∙ says.real)) (ap Ok (sym says.number));
        not_digits = λ e. was_not_digits p (w && t) value (sym a ∙ e);
        not_digits_if = λ stray. a ∙ rw stray;
        no_such = λ e.
            let is = was_no_such p (w && t) value (sym a ∙ e) in
            (is.0, λ wide real. true≢false (sym (both (eq-eqb _ _ wide) real) ∙ is.1));
        no_such_if = λ digits none. a ∙ rw (digits, not_both w t (λ wide real. none (eqb-true _ _ wide) real));
      }

-- the steps of a reading
tested : (test : ℕ → Bool) (p w : Bool) (v : ℕ) → only_if test (answered p w v) ≡ answered p (w && test v) v
tested test true true v = refl
tested test true false v = refl
tested test false w v = refl

turned_and_tested : (p w : Bool) (v : ℕ) → only_if is_day (turned_round (answered p w v)) ≡ answered p (w && is_day (turned v)) (turned v)
turned_and_tested true true v = refl
turned_and_tested true false v = refl
turned_and_tested false w v = refl

pub year_first_lem : (s : List ℕ) → Means 8 is_day (value_of s) s (year_first s)
year_first_lem s = meant 8 is_day (value_of s) s (tested is_day (holds_only Digits s) (eqb (length s) 8) (value_of s))

pub day_first_lem : (s : List ℕ) → Means 8 is_day (turned (value_of s)) s (day_first s)
day_first_lem s = meant 8 is_day (turned (value_of s)) s (turned_and_tested (holds_only Digits s) (eqb (length s) 8) (value_of s))

pub time_of_lem : (s : List ℕ) → Means 6 is_time (value_of s) s (time_of s)
time_of_lem s = meant 6 is_time (value_of s) s (tested is_time (holds_only Digits s) (eqb (length s) 6) (value_of s))
