-- Where a field is too short. The rules of a piece are those at the state of the records before it, so that one of them can be seen to be broken: a millionth record has a
-- number of seven digits, and NSEQ has six; and no number of fourteen digits is what is added less what is taken, where that is larger, or below zero.
use Prim.Native.Nat.{ℕ, suc, ◌+◌, ◌*◌, ◌^◌, ◌≤◌, ◌<◌}
use mathlib.Core.Path.{◌≡◌, refl, sym, ◌∙◌, ap}
use mathlib.Core.Logic.{◌⊎◌, inl, inr}
use mathlib.Core.List.{List, [], ◌∷◌, ◌++◌, append_assoc}
use mathlib.Core.Bool.{true, false}
use native.Mathlib.Omega.{arith}
use lib.ListN.{length, length-map}
use borrow.Author.Tests.{ne_eqb}
use Rattle.refusal.specs.declared.Cause.{Cause}
use Rattle.refusal.specs.declared.Refusal.{Refusal}
use Rattle.refusal.specs.declared.Cause.TheVariants.{NoLineEnd, SequenceWrong, TrailerDisagrees}
use Rattle.refusal.specs.Fault.{earlier_of, Judged, at}
use Rattle.refusal.specs.Rules.{Rule, rule_at, first_broken}
use Rattle.refusal.proofs.Rules.{in_a_row, none_broken, is_first, gives_first}
use Rattle.lines.specs.Lines.{cut, ends_in_cr, without_last}
use Rattle.lines.proofs.Cuts.{cut_is_cut}
use Rattle.first_fault.specs.InTurn.{piece, records_in, NoFault, ComesBehind}
use Rattle.first_fault.proofs.InTurn.{comes_first, earlier_clear}
use Rattle.edition.specs.Known.{current}
use Rattle.card_sale.proofs.Ranges.{cv_below}
use Rattle.card_adjustment.proofs.Ranges.{aj_below}
use Rattle.card_frame.specs.L9.{l9_of}
use Rattle.card_frame.proofs.Ranges.{a0_below, l0_below, l9_below, a9_below}
use Rattle.card_record.specs.declared.kind.Kind.{Kind}
use Rattle.card_record.specs.declared.kind.Kind.TheVariants.{A0, L0, Cv, Aj, L9, A9}
use Rattle.card_record.specs.Kind.{kind_of}
use Rattle.card_record.specs.Reading.{right_reading}
use Rattle.card_run.specs.declared.running.Running.{Running}
use Rattle.card_run.specs.Answer.{refused_row, card_file_row}
use Rattle.card_run.specs.Batch.{sums_to}
use Rattle.card_run.specs.Running.{next_number}
use Rattle.card_step.specs.Rules.{nseq_rule, trailer_rule, joined_at}
use Rattle.card_file.specs.CardFile.{check_of}
use Rattle.card_kept.specs.FirstFault.{end_rule, kind_rule, rules_as, next_rules, rules_behind, FirstFaultOfFile}
use Rattle.card_kept.specs.Kept.{Transaction, sale, adjustment, sum_over, picked, added, taken}
use Rattle.card_kept.specs.State.{plain_state}
use Rattle.card_kept.specs.Limits.{before_joined, nseq_column, MillionthRecord, before_sum, in_batch, NoSumIsRight, SalesOf, SumOfNoTrailer}
use Rattle.card_kept.proofs.FirstFault.{none_or_refused, first_fault_decides}
use Rattle.card_kept.proofs.State.{at_most}
use Rattle.std.specs.Prelude.{Some, Ok, Err}

-- a piece that breaks a rule refuses its file
refused_there : (edition : ℕ) (file : List ℕ) (earlier : List (List ℕ)) (p : List ℕ) → current edition ≡ true → ComesBehind (rules_behind edition) file earlier p →
    (cause : Cause) (column : ℕ) → first_broken (next_rules (plain_state edition (records_in earlier)) (piece p)) ≡ at cause column →
    card_file_row (check_of edition file) ≡ refused_row (record { cause = cause; «record» = suc (length earlier); column = column })
unfolding comes_first
refused_there edition file earlier p is_current c cause column f =
    ((first_fault_decides edition is_current file).is_refused_lem _).1
    (record { fault = comes_first (rules_behind edition) file earlier p cause column c (is_first _ cause column f); number = refl })

-- the rules of a piece of a kind: those before the joined ones, and the joined ones
in_two : (st : Running) (kind : Kind) (p : List ℕ) → kind_of (without_last p) ≡ Some kind →
    next_rules st (piece p) ≡ before_joined st kind p ++ joined_at st (right_reading kind (without_last p))
in_two st kind p known =
    ap (λ found. end_rule st ∷ rule_at NoLineEnd 0 (ends_in_cr p) ∷ kind_rule found ∷ rules_as found st (without_last p)) known

-- of the joined ones that of NSEQ is the first
record NseqFirst (st : Running) (kind : Kind) (r : List ℕ) : Type 0 where
  nseq : ℕ
  others : List Rule
  below : nseq < 10 ^ 6
  is : joined_at st (right_reading kind r) ≡ nseq_rule st (nseq_column kind) nseq ∷ others

nseq_first : (st : Running) (kind : Kind) (r : List ℕ) → NseqFirst st kind r
unfolding joined_at right_reading
nseq_first st A0 r = record { nseq = _; others = _; below = (a0_below r).nseq; is = refl }
nseq_first st L0 r = record { nseq = _; others = _; below = (l0_below r).nseq; is = refl }
nseq_first st Cv r = record { nseq = _; others = _; below = (cv_below r).nseq; is = refl }
nseq_first st Aj r = record { nseq = _; others = _; below = (aj_below r).nseq; is = refl }
nseq_first st L9 r = record { nseq = _; others = _; below = (l9_below r).nseq; is = refl }
nseq_first st A9 r = record { nseq = _; others = _; below = (a9_below r).nseq; is = refl }

-- THE THEOREM: "A millionth record is refused by 9, unless an earlier rule refuses it"
pub millionth_record : MillionthRecord
millionth_record =
    record {
      is_refused_lem = λ edition is_current file many. by edition is_current file many (none_or_refused edition is_current file);
      by_nine = λ edition file earlier p is_current c count kind known before.
          let st = plain_state edition (records_in earlier) in
          let n = nseq_first st kind (without_last p) in
          refused_there edition file earlier p is_current c SequenceWrong (nseq_column kind)
          (gives_first
          (record {
            before = before_joined st kind p;
            broken = nseq_rule st (nseq_column kind) n.nseq;
            after = n.others;
            split = in_two st kind p known ∙ ap (λ rules. before_joined st kind p ++ rules) n.is;
            all_before = before;
            is_broken = ne_eqb n.nseq (next_number st) (λ e. omega (arith, n.below, length-map earlier without_last));
            gives_cause = refl;
            gives_column = refl;
          })) ∙
          ap (λ (k : ℕ). refused_row (record { cause = SequenceWrong; «record» = suc k; column = nseq_column kind })) count;
    }
  where
    by : (edition : ℕ) (is_current : current edition ≡ true) (file : List ℕ) → 1_000_000 ≤ length (cut file).pieces →
        NoFault (rules_behind edition) file ⊎ ((x : Refusal) × FirstFaultOfFile edition file x) →
        (x : Refusal) × (card_file_row (check_of edition file) ≡ refused_row x) × (x.«record» ≤ 1_000_000)
    by edition is_current file many (inl none) = absurd (omega (arith, at_most edition is_current (cut file).pieces (cut_is_cut file).pieces_clear none.pieces_hold_lem))
    by edition is_current file many (inr (x, f)) =
        let w = f.fault in
        let few = at_most edition is_current w.earlier (earlier_clear w) w.all_hold_lem in
        (x, ((first_fault_decides edition is_current file).is_refused_lem x).1 f, omega (arith, f.number, few))

-- no fourteen digits are the sum, so whatever an L9 says there is wrong
module _ (edition : ℕ) (file : List ℕ) (earlier : List (List ℕ)) (none : (sum : ℕ) → sum < 10 ^ 14 → sum + taken (in_batch earlier) ≡ added (in_batch earlier) → ⊥) where
  -- its rules are those before that of its sum, and that one, which is broken
  sum_last : (p : List ℕ) → kind_of (without_last p) ≡ Some L9 →
      first_broken (next_rules (plain_state edition (records_in earlier)) (piece p)) ≡
      earlier_of (first_broken (before_sum (plain_state edition (records_in earlier)) p)) (at TrailerDisagrees 9)
  unfolding first_broken joined_at right_reading
  sum_last p is-l9 =
      let st = plain_state edition (records_in earlier) in
      let n = l9_of (without_last p) in
      let sum = trailer_rule 9 (sums_to n.sum st.batch) in
      let wrong : sums_to n.sum st.batch ≡ false = ne_eqb _ _ (none n.sum (l9_below (without_last p)).sum) in
      ap first_broken (in_two st L9 p is-l9 ∙ sym (append_assoc (before_joined st L9 p) _ (sum ∷ []))) ∙ in_a_row (before_sum st p) (sum ∷ []) ∙ rw wrong

  -- so it is refused, by that or by an earlier one
  anyhow : (p : List ℕ) → current edition ≡ true → ComesBehind (rules_behind edition) file earlier p → (before : Judged) →
      first_broken (next_rules (plain_state edition (records_in earlier)) (piece p)) ≡ earlier_of before (at TrailerDisagrees 9) →
      (refusal : Refusal) × (card_file_row (check_of edition file) ≡ refused_row refusal) × (refusal.«record» ≡ suc (length earlier))
  anyhow p is_current c (Ok none) f =
      (record { cause = TrailerDisagrees; «record» = suc (length earlier); column = 9 }, refused_there edition file earlier p is_current c TrailerDisagrees 9 f, refl)
  anyhow p is_current c (Err fault) f = (
    record { cause = fault.cause; «record» = suc (length earlier); column = fault.column },
    refused_there edition file earlier p is_current c fault.cause fault.column f,
    refl,
  )

  no_sum : NoSumIsRight edition file earlier
  no_sum =
      let st = plain_state edition (records_in earlier) in
      record {
        in_any_case = λ p is_current c is-l9. anyhow p is_current c (first_broken (before_sum st p)) (sum_last p is-l9);
        by_eleven = λ p is_current c is-l9 before.
            refused_there edition file earlier p is_current c TrailerDisagrees 9
            (sum_last p is-l9 ∙ ap (λ f. earlier_of f (at TrailerDisagrees 9)) (none_broken (before_sum st p) before));
      }

-- what sales of one gross come to
sales_sum : (gross : ℕ) (ts : List Transaction) → SalesOf gross ts → (added ts ≡ gross * length ts) × (taken ts ≡ 0)
unfolding picked sum_over
sales_sum gross [] s = (omega arith, refl)
sales_sum gross (sale r ∷ ts) (is, s) =
    let others = sales_sum gross ts s in
    (omega (arith, is, others.0), others.1)
sales_sum gross (adjustment r ∷ ts) s = absurd s

-- THE THEOREM: "A sum too large for its field equals none", and "a sum below zero equals no trailer"
pub sum_of_no_trailer : SumOfNoTrailer
sum_of_no_trailer =
    record {
      too_large = λ edition file earlier large. no_sum edition file earlier (λ sum below e. omega arith);
      of_sales = λ edition file earlier many sales.
          let s = sales_sum 99_999_999_999 (in_batch earlier) sales in
          no_sum edition file earlier (λ sum below e. omega (arith, s.0, s.1, many));
      below_zero = λ edition file earlier less. no_sum edition file earlier (λ sum below e. omega arith);
    }
