-- WHERE A FIELD IS TOO SHORT: "Sums are whole numbers: one too large for 18 digits equals no trailer and is refused by 11"; "an amount over the whole file of
-- 10^19 or more is refused by 11 at the file trailer, column 0, after its fields". A number that stays at the top of 64 bits is as large as either.
use Rattle.std.specs.Prelude.{ℕ, suc, ◌^◌, ◌≤◌, ◌<◌, ◌≡◌, List, [], ◌∷◌, ◌++◌, true, length, eqb, Ok}
use Rattle.refusal.specs.declared.Cause.TheVariants.{NoLineEnd, WrongWidth, TrailerDisagrees}
use Rattle.refusal.specs.declared.Refusal.{Refusal}
use Rattle.refusal.specs.Rules.{Rule, rule_at, all_hold}
use Rattle.totals.specs.Sum.{top, capped}
use Rattle.lines.specs.Lines.{ends_in_cr, without_last}
use Rattle.first_fault.specs.InTurn.{records_in, ComesBehind}
use Rattle.payroll_record.specs.declared.kind.Kind.{Kind}
use Rattle.payroll_record.specs.declared.kind.Kind.TheVariants.{BatchTrailer, FileTrailer}
use Rattle.payroll_record.specs.Kind.{kind_of}
use Rattle.payroll_record.specs.Field.{field, digit_rules}
use Rattle.payroll_run.specs.declared.running.Running.{Running}
use Rattle.payroll_step.specs.Due.{place_rule, Due, due, open_batch, due_of}
use Rattle.payroll_step.specs.Rules.{due_rules, numbers_in}
use Rattle.payroll_file.specs.Answer.{refused_row, payroll_row}
use Rattle.payroll_file.specs.PayrollFile.{check_of}
use Rattle.payroll_kept.specs.FirstFault.{end_rule, in_front_of_due}
use Rattle.payroll_kept.specs.FirstFaultOfFile.{rules_behind}
use Rattle.payroll_kept.specs.State.{stayed, from_header, amount_in, plain_state}

-- the rules of a piece, a record of a kind, as far as these numbers that are due in it: "13, 12, 3, 6, 4, 5, then 7 .., then its fields", by position; 4 holds of a
-- kind that is known
abbrev pub as_far_as : List Due → Running → Kind → List ℕ → List Rule
as_far_as dues st kind p =
    end_rule st ∷
    rule_at NoLineEnd 0 (ends_in_cr p) ∷
    rule_at WrongWidth 0 (eqb (length (without_last p)) 240) ∷
    place_rule st kind ∷
    (in_front_of_due kind (without_last p) ++ due_rules dues (numbers_in dues (without_last p)))

-- the rules of a batch trailer before that of its sum: where they hold it is right but for its sum, which is digits
abbrev pub before_sum : Running → List ℕ → List Rule
before_sum st p =
    as_far_as (open_batch st ∷ due TrailerDisagrees 18 23 (capped st.batch.records 1) ∷ []) st BatchTrailer p ++ digit_rules (field 24 41) (without_last p)

-- the rules of a file trailer before that of its count of records, and before that of the amount: all of its fields
abbrev pub before_records : Running → List ℕ → List Rule
before_records st p = as_far_as (due TrailerDisagrees 18 23 st.batches ∷ []) st FileTrailer p ++ digit_rules (field 24 29) (without_last p)

abbrev pub before_amount : Running → List ℕ → List Rule
before_amount st p = as_far_as (due_of FileTrailer st) st FileTrailer p

-- behind pieces of a file, a piece of a kind
pub record RefusedAt (column : ℕ) (kind : Kind) (before : Running → List ℕ → List Rule) (file : List ℕ) (earlier : List (List ℕ)) : Type 0 where
  -- is refused, whatever it says,
  pub in_any_case : (p : List ℕ) → ComesBehind rules_behind file earlier p → kind_of (without_last p) ≡ Ok kind →
      (refusal : Refusal) × (payroll_row (check_of file) ≡ refused_row refusal) × (refusal.«record» ≡ stayed (suc (length earlier)))
  -- and by 11 at this column where the rules before that one hold
  pub by_eleven : (p : List ℕ) → ComesBehind rules_behind file earlier p → kind_of (without_last p) ≡ Ok kind → all_hold (before (plain_state (records_in earlier)) p) ≡ true →
      payroll_row (check_of file) ≡ refused_row (record { cause = TrailerDisagrees; «record» = stayed (suc (length earlier)); column = column })

-- a number below the top is itself, and the top stands for all from there on
pub record StaysAtTop : Type 0 where
  pub below : (n : ℕ) → n ≤ top → stayed n ≡ n
  pub from : (n : ℕ) → top ≤ n → stayed n ≡ top
  -- which is not below 10^19, and no number of 18 digits
  pub not_below : 10 ^ 19 ≤ top
  pub in_no_field : (n : ℕ) → n < 10 ^ 18 → n ≡ top → ⊥

pub record TooLarge (file : List ℕ) (earlier : List (List ℕ)) : Type 0 where
  -- "one too large for 18 digits equals no trailer and is refused by 11": the amounts of A in the open batch
  pub sum : 10 ^ 18 ≤ amount_in (from_header (records_in earlier)) → RefusedAt 24 BatchTrailer before_sum file earlier
  -- "an amount over the whole file of 10^19 or more": all amounts of A
  pub amount : 10 ^ 19 ≤ amount_in (records_in earlier) → RefusedAt 0 FileTrailer before_amount file earlier
  -- "24-29 all records": a million with the file trailer, or more
  pub records : 999_999 ≤ length earlier → RefusedAt 24 FileTrailer before_records file earlier
