-- WHERE A FIELD IS TOO SHORT: the rules of a trailer are parted before the number that is too large for its field. Those in front hold, so the first fault is that
-- number's: the state has it, cut at the top or not, and it is no number of the field.
use Prim.Native.Nat.{ℕ, suc, ◌-◌, ◌^◌, ◌≤◌}
use mathlib.Core.Path.{◌≡◌, refl, sym, ◌∙◌, ap}
use mathlib.Core.List.{List, [], ◌∷◌, ◌++◌, append_assoc}
use mathlib.Core.Bool.{true}
use native.Mathlib.Omega.{arith}
use lib.ListN.{length, length-map}
use lib.Dec.{lit≤}
use borrow.Author.Tests.{ne_eqb, le-ltb}
use Rattle.refusal.specs.Fault.{Judged, at}
use Rattle.std.specs.Prelude.{Ok, Err}
use Rattle.refusal.specs.declared.Cause.{Cause}
use Rattle.refusal.specs.declared.Cause.TheVariants.{TrailerDisagrees}
use Rattle.refusal.specs.declared.Refusal.{Refusal}
use Rattle.refusal.specs.Rules.{Rule, first_broken, all_hold}
use Rattle.refusal.proofs.Faults.{not_both}
use Rattle.refusal.proofs.Rules.{in_a_row, none_broken, is_first}
use Rattle.text.specs.Number.{value_of}
use Rattle.text.specs.Part.{positions}
use Rattle.totals.specs.Sum.{capped}
use Rattle.lines.specs.Lines.{without_last}
use Rattle.first_fault.specs.InTurn.{piece, records_in, ComesBehind}
use Rattle.first_fault.proofs.InTurn.{comes_first}
use Rattle.payroll_record.specs.declared.kind.Kind.{Kind}
use Rattle.payroll_record.specs.declared.kind.Kind.TheVariants.{BatchTrailer, FileTrailer}
use Rattle.payroll_record.specs.Kind.{kind_of}
use Rattle.payroll_record.specs.Field.{field, digit_rules, number_in, number_rules}
use Rattle.payroll_record.proofs.Fields.{read, number_below}
use Rattle.payroll_record.proofs.NoFault.{NoFault, none_in_a_row, digits_right_lem, field_right}
use Rattle.payroll_run.specs.declared.running.Running.{Running}
use Rattle.payroll_run.specs.State.{next_number}
use Rattle.payroll_step.specs.Due.{Due, due, open_batch, due_of, limits_of}
use Rattle.payroll_step.specs.Rules.{due_rules, numbers_in}
use Rattle.payroll_file.specs.Answer.{refused_row, payroll_row}
use Rattle.payroll_file.specs.PayrollFile.{check_of}
use Rattle.payroll_kept.specs.Fields.{DigitsAt}
use Rattle.payroll_kept.specs.FirstFault.{in_front_of_due, behind_due}
use Rattle.payroll_kept.specs.FirstFaultOfFile.{next_rules, rules_behind}
use Rattle.payroll_kept.specs.State.{stayed, plain_state}
use Rattle.payroll_kept.specs.Limits.{as_far_as, before_sum, before_records, before_amount, RefusedAt, StaysAtTop, TooLarge}
use Rattle.payroll_kept.proofs.Names.{kind_named_lem}
use Rattle.payroll_kept.proofs.Known.{both_known}
use Rattle.payroll_kept.proofs.FirstFaultOfFile.{first_fault_decides}

-- numbers that are due, in two rows
due_rows : (ds es : List Due) (r : List ℕ) →
    due_rules (ds ++ es) (numbers_in (ds ++ es) r) ≡ due_rules ds (numbers_in ds r) ++ due_rules es (numbers_in es r)
unfolding due_rules
due_rows [] es r = refl
due_rows (d ∷ ds) es r =
    let here = number_rules d.cause d.first (number_in (field d.first d.last) r) d.number in
    ap (◌++◌ here) (due_rows ds es r) ∙ sym (append_assoc here (due_rules ds (numbers_in ds r)) (due_rules es (numbers_in es r)))

-- a field of digits that should hold a number which is too large for it
too_large : (c : Cause) (first last : ℕ) (r : List ℕ) (x : ℕ) (others : List Rule) → last - (first - 1) ≤ 18 → DigitsAt first last r →
    10 ^ (last - (first - 1)) ≤ x → first_broken (number_rules c first (number_in (field first last) r) x ++ others) ≡ at c first
unfolding first_broken number_rules
too_large c first last r x others h d large =
    let f = field first last in
    let n = value_of (positions first last r) in
    let is = read f r n h (record { digits = d; value = refl }) in
    let other : n ≡ x → ⊥ = λ q. omega (arith, number_below f r n is) in
    rw (is, ne_eqb n x other)

-- where the rules in front hold, the first fault is among the others
passed : (a b : List Rule) → NoFault a → first_broken (a ++ b) ≡ first_broken b
passed a b h = in_a_row a b ∙ rw h

-- the rules of a piece, parted behind the first of the numbers that are due in it
module _ (st : Running) (kind : Kind) (p : List ℕ) (is : kind_of (without_last p) ≡ Ok kind) where
  parted : (ds es : List Due) → due_of kind st ≡ ds ++ es →
      first_broken (next_rules st (piece p)) ≡
      first_broken (as_far_as ds st kind p ++ (due_rules es (numbers_in es (without_last p)) ++ (limits_of kind st ++ behind_due kind (without_last p))))
  unfolding first_broken
  parted ds es e =
      let r = without_last p in
      let tests = both_known (positions 8 8 r) (positions 14 14 r) kind (kind_named_lem (positions 8 8 r) (positions 14 14 r) kind is) in
      let front = in_front_of_due kind r in
      let last = limits_of kind st ++ behind_due kind r in
      let these = due_rules ds (numbers_in ds r) in
      let those = due_rules es (numbers_in es r) in
      let row : front ++ (due_rules (due_of kind st) (numbers_in (due_of kind st) r) ++ last) ≡ (front ++ these) ++ (those ++ last) =
      ap (λ dues. front ++ (due_rules dues (numbers_in dues r) ++ last)) e ∙ ap (λ l. front ++ (l ++ last)) (due_rows ds es r) ∙
      ap (◌++◌ front) (append_assoc these those last) ∙ sym (append_assoc front these (those ++ last)) in
      rw (tests.0, tests.1, is, row)

-- a piece behind others that breaks a rule: the file is refused there
module _ (file : List ℕ) (earlier : List (List ℕ)) (p : List ℕ) (comes : ComesBehind rules_behind file earlier p) where
  refused_there : (cause : Cause) (column : ℕ) → first_broken (next_rules (plain_state (records_in earlier)) (piece p)) ≡ at cause column →
      payroll_row (check_of file) ≡ refused_row (record { cause = cause; «record» = stayed (suc (length earlier)); column = column })
  unfolding comes_first
  refused_there cause column f =
      ((first_fault_decides file).is_refused_lem _).1
      (record {
        fault = comes_first rules_behind file earlier p cause column comes (is_first (next_rules (plain_state (records_in earlier)) (piece p)) cause column f);
        number = refl;
      })

  -- whichever rule it is
  refused_anyhow : (NoFault (next_rules (plain_state (records_in earlier)) (piece p)) → ⊥) →
      (refusal : Refusal) × (payroll_row (check_of file) ≡ refused_row refusal) × (refusal.«record» ≡ stayed (suc (length earlier)))
  refused_anyhow broken = by (first_broken (next_rules (plain_state (records_in earlier)) (piece p))) refl
    where
      by : (fault : Judged) → first_broken (next_rules (plain_state (records_in earlier)) (piece p)) ≡ fault →
          (refusal : Refusal) × (payroll_row (check_of file) ≡ refused_row refusal) × (refusal.«record» ≡ stayed (suc (length earlier)))
      by (Ok none) f = absurd (broken f)
      by (Err fault) f =
          (record { cause = fault.cause; «record» = stayed (suc (length earlier)); column = fault.column }, refused_there fault.cause fault.column f, refl)

-- what makes a trailer refused by 11 at a column at the latest: that is its first fault where the rules before it hold, and it is never without a fault
record Broken (column : ℕ) (before : List Rule) (st : Running) (p : List ℕ) : Type 0 where
  first : all_hold before ≡ true → first_broken (next_rules st (piece p)) ≡ at TrailerDisagrees column
  never : NoFault (next_rules st (piece p)) → ⊥

-- a number that is due and too large for its field
due_broken : (st : Running) (kind : Kind) (p : List ℕ) → kind_of (without_last p) ≡ Ok kind → (ds es : List Due) (first last n : ℕ) →
    due_of kind st ≡ ds ++ (due TrailerDisagrees first last n ∷ es) → last - (first - 1) ≤ 18 → 10 ^ (last - (first - 1)) ≤ n →
    Broken first (as_far_as ds st kind p ++ digit_rules (field first last) (without_last p)) st p
unfolding due_rules
due_broken st kind p is ds es first last n e h large =
    let r = without_last p in
    let f = field first last in
    let front = as_far_as ds st kind p in
    let own = number_rules TrailerDisagrees first (number_in f r) n in
    let others = due_rules es (numbers_in es r) in
    let limits = limits_of kind st ++ behind_due kind r in
    let row : first_broken (next_rules st (piece p)) ≡ first_broken (front ++ (own ++ (others ++ limits))) =
    parted st kind p is ds (due TrailerDisagrees first last n ∷ es) e ∙ ap (λ l. first_broken (front ++ l)) (append_assoc own others limits) in
    record {
      first = λ hold.
          let before = (none_in_a_row front (digit_rules f r)).0 (none_broken (front ++ digit_rules f r) hold) in
          row ∙ passed front (own ++ (others ++ limits)) before.0 ∙
          too_large TrailerDisagrees first last r n (others ++ limits) h ((digits_right_lem f r).0 before.1) large;
      never = λ none.
          let behind = ((none_in_a_row front (own ++ (others ++ limits))).0 (sym row ∙ none)).1 in
          let right = (field_right TrailerDisagrees f r n h).0 ((none_in_a_row own (others ++ limits)).0 behind).0 in
          omega (arith, large, number_below f r n (read f r n h right));
    }

-- an amount over the whole file that is too large, behind all fields of the file trailer
amount_broken : (st : Running) (p : List ℕ) → kind_of (without_last p) ≡ Ok FileTrailer → 10 ^ 19 ≤ st.amount → Broken 0 (before_amount st p) st p
unfolding first_broken due_rules
amount_broken st p is large =
    let front = before_amount st p in
    let limits = limits_of FileTrailer st in
    let row : first_broken (next_rules st (piece p)) ≡ first_broken (front ++ limits) = parted st FileTrailer p is (due_of FileTrailer st) [] refl in
    let over : first_broken limits ≡ at TrailerDisagrees 0 = rw (le-ltb st.amount (10 ^ 19) large) in
    record {
      first = λ hold. row ∙ passed front limits (none_broken front hold) ∙ over;
      never = λ none. not_both (sym ((none_in_a_row front limits).0 (sym row ∙ none)).1 ∙ over);
    }

module _ (file : List ℕ) (earlier : List (List ℕ)) where
  -- a trailer behind pieces of a file
  refused_at_lem : (column : ℕ) (kind : Kind) (before : Running → List ℕ → List Rule) →
      ((p : List ℕ) → kind_of (without_last p) ≡ Ok kind → Broken column (before (plain_state (records_in earlier)) p) (plain_state (records_in earlier)) p) →
      RefusedAt column kind before file earlier
  refused_at_lem column kind before broken =
      record {
        in_any_case = λ p comes is. refused_anyhow file earlier p comes (broken p is).never;
        by_eleven = λ p comes is hold. refused_there file earlier p comes TrailerDisagrees column ((broken p is).first hold);
      }

  -- THE THEOREM of what is too large
  pub limits : TooLarge file earlier
  limits =
      let st = plain_state (records_in earlier) in
      let counts = open_batch st ∷ due TrailerDisagrees 18 23 (capped st.batch.records 1) ∷ [] in
      let batches = due TrailerDisagrees 18 23 st.batches ∷ [] in
      record {
        sum = λ large.
            refused_at_lem 24 BatchTrailer before_sum (λ p is. due_broken st BatchTrailer p is counts [] 24 41 st.batch.sum refl (lit≤ tt) (omega (arith, large)));
        amount = λ large. refused_at_lem 0 FileTrailer before_amount (λ p is. amount_broken st p is (omega (arith, large)));
        records = λ large.
            refused_at_lem 24 FileTrailer before_records
            (λ p is.
            due_broken st FileTrailer p is batches [] 24 29 (next_number st) refl (lit≤ tt) (omega (arith, large, length-map earlier without_last)));
      }

-- and of the number that stays at the top
pub stays_at_top : StaysAtTop
stays_at_top = record { below = λ n h. omega arith; from = λ n h. omega arith; not_below = lit≤ tt; in_no_field = λ n h q. omega arith }
