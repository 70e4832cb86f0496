-- What the rules of each kind of record say, as far as they look at the record alone: they have no fault exactly where this holds. Each kind's rules are
-- rows in a row.
use Prim.Native.Nat.{ℕ}
use mathlib.Core.Path.{◌≡◌, refl, sym, ◌∙◌, ap}
use mathlib.Core.Logic.{◌↔◌, ◌⊎◌, inl, inr, ⊎_elim}
use mathlib.Core.List.{List, [], ◌∷◌, ◌++◌}
use mathlib.Core.Bool.{Bool, true, false, ◌||◌, false≢true}
use lib.Dec.{eqb, lit≤}
use borrow.Author.Tests.{eqb-true}
use Rattle.refusal.specs.declared.Cause.TheVariants.{ValueNotAllowed}
use Rattle.refusal.specs.Rules.{rule_at}
use Rattle.text.specs.declared.alphabet.Alphabet.TheVariants.{Digits, PlainAscii}
use Rattle.text.specs.Alphabet.{allowed, holds_only}
use Rattle.text.specs.Literal.{ascii, has_byte, one_byte_of}
use Rattle.text.proofs.Literals.{same_equal, equal_same}
use Rattle.payroll_record.specs.Field.{field, bank, batch, part_of, number_in, digit_rules, number_rules, day_rules}
use Rattle.payroll_record.specs.Front.{stray_rules, bank_rules, front_rules}
use Rattle.payroll_record.specs.FileHeader.{code, code_rules, header_rules, is_return}
use Rattle.payroll_record.specs.FileTrailer.{trailer_front_rules}
use Rattle.payroll_record.specs.Detail.{amount, payment_rules}
use Rattle.payroll_record.proofs.Fields.{Writes}
use Rattle.payroll_record.proofs.NoFault.{NoFault, none_in_a_row, none_of_one, day_right, digits_right_lem, field_right, plain_right, RealDay}

-- what every record has in front
pub record FrontRight (r : List ℕ) : Type 0 where
  pub plain : holds_only PlainAscii r ≡ true
  pub bank : Writes (part_of bank r) 422

pub front_right : (r : List ℕ) → NoFault (front_rules r) ↔ FrontRight r
front_right r =
    let both = none_in_a_row (stray_rules r) (bank_rules r) in
    let banked = field_right ValueNotAllowed bank r 422 (lit≤ tt) in (
      λ e. record { plain = (plain_right r).0 (both.0 e).0; bank = banked.0 (both.0 e).1 },
      λ h. both.1 ((plain_right r).1 h.plain, banked.1 h.bank),
    )

-- "143 is 1 or 2"
abbrev pub OneOrTwo : List ℕ → Type 0
OneOrTwo s = (s ≡ ascii "1") ⊎ (s ≡ ascii "2")

-- a part that is one byte of "12" is one of the two
one_or_two : (s : List ℕ) → one_byte_of (ascii "12") s ≡ true → OneOrTwo s
unfolding one_byte_of has_byte
one_or_two [] e = absurd (false≢true e)
one_or_two (b ∷ []) e = of (eqb 49 b) (eqb 50 b) refl refl e
  where
    of : (p q : Bool) → eqb 49 b ≡ p → eqb 50 b ≡ q → p || (q || false) ≡ true → OneOrTwo (b ∷ [])
    of true q one two e = inl (ap (λ d. d ∷ []) (sym (eqb-true 49 b one)))
    of false true one two e = inr (ap (λ d. d ∷ []) (sym (eqb-true 50 b two)))
    of false false one two e = absurd (false≢true e)
one_or_two (b ∷ c ∷ s) e = absurd (false≢true e)

-- and either of the two is a digit and one byte of "12"
code_is : (r digit : List ℕ) → holds_only Digits digit ≡ true → one_byte_of (ascii "12") digit ≡ true → part_of code r ≡ digit → NoFault (code_rules r)
code_is r digit d k e =
    (none_in_a_row (digit_rules code r) (rule_at ValueNotAllowed code.0 (one_byte_of (ascii "12") (part_of code r)) ∷ [])).1
    ((digits_right_lem code r).1 (ap (holds_only Digits) e ∙ d), (none_of_one _ _ _).1 (ap (one_byte_of (ascii "12")) e ∙ k))

pub code_right : (r : List ℕ) → NoFault (code_rules r) ↔ OneOrTwo (part_of code r)
unfolding one_byte_of has_byte holds_only allowed
code_right r =
    let s = part_of code r in
    let known = one_byte_of (ascii "12") s in
    let both = none_in_a_row (digit_rules code r) (rule_at ValueNotAllowed code.0 known ∷ []) in (
      λ e. one_or_two s ((none_of_one ValueNotAllowed code.0 known).0 (both.0 e).1),
      ⊎_elim (code_is r (ascii "1") refl refl) (code_is r (ascii "2") refl refl),
    )

-- "only if header position 143 is 2"
pub is_return_lem : (r : List ℕ) → (is_return r ≡ true) ↔ (part_of code r ≡ ascii "2")
is_return_lem r = (same_equal (part_of code r) (ascii "2"), equal_same (part_of code r) (ascii "2"))

-- the file header
pub record HeaderRight (r : List ℕ) : Type 0 where
  pub front : FrontRight r
  pub batch : Writes (part_of batch r) 0
  pub code_known : OneOrTwo (part_of code r)
  pub date : RealDay (part_of (field 144 151) r)

pub header_right : (r : List ℕ) → NoFault (header_rules r) ↔ HeaderRight r
header_right r =
    let zeros = number_rules ValueNotAllowed batch.0 (number_in batch r) 0 in
    let two = none_in_a_row (front_rules r) zeros in
    let three = none_in_a_row (front_rules r ++ zeros) (code_rules r) in
    let four = none_in_a_row (front_rules r ++ zeros ++ code_rules r) (day_rules (field 144 151) r) in
    let numbered = field_right ValueNotAllowed batch r 0 (lit≤ tt) in
    let date = day_right (field 144 151) r in (
      λ e.
          let last = four.0 e in
          let third = three.0 last.0 in
          let first = two.0 third.0 in
          record { front = (front_right r).0 first.0; batch = numbered.0 first.1; code_known = (code_right r).0 third.1; date = date.0 last.1 },
      λ h.
          four.1 (three.1 (two.1 ((front_right r).1 h.front, numbered.1 h.batch), (code_right r).1 h.code_known), date.1 h.date),
    )

-- what the file trailer has in front of its counts
pub trailer_front_right : (r : List ℕ) → NoFault (trailer_front_rules r) ↔ FrontRight r × Writes (part_of batch r) 9999
trailer_front_right r =
    let both = none_in_a_row (front_rules r) (number_rules ValueNotAllowed batch.0 (number_in batch r) 9999) in
    let numbered = field_right ValueNotAllowed batch r 9999 (lit≤ tt) in
    (λ e. ((front_right r).0 (both.0 e).0, numbered.0 (both.0 e).1), λ h. both.1 ((front_right r).1 h.0, numbered.1 h.1))

-- what a payment has behind its detail number
pub payment_right : (r : List ℕ) →
    NoFault (payment_rules r) ↔ RealDay (part_of (field 94 101) r) × (holds_only Digits (part_of amount r) ≡ true)
payment_right r =
    let both = none_in_a_row (day_rules (field 94 101) r) (digit_rules amount r) in
    let date = day_right (field 94 101) r in
    let paid = digits_right_lem amount r in
    (λ e. (date.0 (both.0 e).0, paid.0 (both.0 e).1), λ h. both.1 (date.1 h.0, paid.1 h.1))
