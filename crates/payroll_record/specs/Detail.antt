-- A detail: bank, batch number, detail number, and what a payment has besides.
use Rattle.std.specs.Prelude.{ℕ, List, ◌++◌}
use Rattle.refusal.specs.Fault.{Judged, nothing}
use Rattle.refusal.specs.Rules.{Rule, first_broken}
use Rattle.text.specs.Number.{plain_number}
use Rattle.payroll_record.specs.declared.kind.Kind.{Kind}
use Rattle.payroll_record.specs.declared.kind.Kind.TheVariants.{SegmentA}
use Rattle.payroll_record.specs.declared.detail.Detail.{Detail}
use Rattle.payroll_record.specs.declared.field.Field.{Field}
use Rattle.payroll_record.specs.Field.{field, batch, number_in, digit_rules, day_rules}
use Rattle.payroll_record.specs.Front.{front_rules}

-- "amount 120-134"
abbrev pub amount : Field
amount = field 120 134

-- "Segment A: date 94-101; amount 120-134"
abbrev pub payment_rules : List ℕ → List Rule
payment_rules r = day_rules (field 94 101) r ++ digit_rules amount r

-- the amount, in centavos
abbrev pub amount_of : List ℕ → ℕ
amount_of r = plain_number (number_in amount r)

-- "Detail number 9-13": what every detail has, whatever stands behind that
abbrev pub detail_of : Kind → Judged → ℕ → List ℕ → Detail
detail_of segment rest paid r =
    record {
      segment = segment;
      front = first_broken (front_rules r);
      batch = number_in batch r;
      number = number_in (field 9 13) r;
      rest = rest;
      amount = paid;
    }

-- a payment
abbrev pub segment_aOf : List ℕ → Detail
segment_aOf r = detail_of SegmentA (first_broken (payment_rules r)) (amount_of r) r

-- segments B and Z
abbrev pub other_segment_of : Kind → List ℕ → Detail
other_segment_of segment r = detail_of segment nothing 0 r
