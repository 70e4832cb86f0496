-- WHERE A FIELD IS TOO SHORT: "A millionth record is refused by 9, unless an earlier rule refuses it"; "A sum too large for its field equals none".
use Rattle.std.specs.Prelude.{ℕ, suc, ◌+◌, ◌^◌, ◌≤◌, ◌<◌, ◌≡◌, List, [], ◌∷◌, ◌++◌, true, length, eqb, Some}
use Rattle.refusal.specs.declared.Cause.TheVariants.{NoLineEnd, SequenceWrong, TrailerDisagrees}
use Rattle.refusal.specs.declared.Refusal.{Refusal}
use Rattle.refusal.specs.Rules.{Rule, rule_at, all_hold}
use Rattle.lines.specs.Lines.{cut, ends_in_cr, without_last}
use Rattle.first_fault.specs.InTurn.{records_in, ComesBehind}
use Rattle.edition.specs.Known.{current}
use Rattle.card_frame.specs.L9.{l9_of}
use Rattle.card_record.specs.declared.kind.Kind.{Kind}
use Rattle.card_record.specs.declared.kind.Kind.TheVariants.{A0, L0, Cv, Aj, L9, A9}
use Rattle.card_record.specs.Kind.{kind_of}
use Rattle.card_record.specs.Reading.{kind_rules}
use Rattle.card_run.specs.declared.running.Running.{Running}
use Rattle.card_run.specs.Answer.{refused_row, card_file_row}
use Rattle.card_step.specs.Rules.{place_rule, nseq_rule, trailer_rule}
use Rattle.card_file.specs.CardFile.{check_of}
use Rattle.card_kept.specs.FirstFault.{end_rule, kind_rule, rules_behind}
use Rattle.card_kept.specs.Kept.{Transaction, sale, adjustment, added, taken}
use Rattle.card_kept.specs.Sale.{payable_gross}
use Rattle.card_kept.specs.State.{transactions_in, since_header, plain_state}

-- the rules of a piece, a record of a kind, that stand before the joined ones: "13, 12, 3, 4, 5, 6, single fields by position"
abbrev pub before_joined : Running → Kind → List ℕ → List Rule
before_joined st kind p =
    end_rule st ∷ rule_at NoLineEnd 0 (ends_in_cr p) ∷ kind_rule (Some kind) ∷ place_rule st kind ∷ kind_rules kind st.edition (without_last p)

-- the column of each kind's NSEQ
abbrev pub nseq_column : Kind → ℕ
nseq_column A0 = 70
nseq_column L0 = 13
nseq_column Cv = 194
nseq_column Aj = 188
nseq_column L9 = 23
nseq_column A9 = 9

pub record MillionthRecord : Type 0 where
  -- a file of a million pieces or more is refused, at the millionth or before it,
  pub is_refused_lem : (edition : ℕ) → current edition ≡ true → (file : List ℕ) → 1_000_000 ≤ length (cut file).pieces →
      (refusal : Refusal) × (card_file_row (check_of edition file) ≡ refused_row refusal) × (refusal.«record» ≤ 1_000_000)
  -- and there by 9, at its NSEQ, where the rules before the joined ones hold
  pub by_nine : (edition : ℕ) (file : List ℕ) (earlier : List (List ℕ)) (p : List ℕ) → current edition ≡ true → ComesBehind (rules_behind edition) file earlier p →
      length earlier ≡ 999_999 → (kind : Kind) → kind_of (without_last p) ≡ Some kind → all_hold (before_joined (plain_state edition (records_in earlier)) kind p) ≡ true →
      card_file_row (check_of edition file) ≡ refused_row (record { cause = SequenceWrong; «record» = 1_000_000; column = nseq_column kind })

-- the rules of an L9 that stand before that of its sum: where they hold it is right but for its sum
abbrev pub before_sum : Running → List ℕ → List Rule
before_sum st p =
    before_joined st L9 p ++
    (nseq_rule st 23 (l9_of (without_last p)).nseq ∷ trailer_rule 3 (eqb (l9_of (without_last p)).count st.batch.transactions) ∷ [])

-- the transactions of pieces since the last L0
abbrev pub in_batch : List (List ℕ) → List Transaction
in_batch pieces = transactions_in (since_header (records_in pieces))

-- behind pieces of a file, an L9
pub record NoSumIsRight (edition : ℕ) (file : List ℕ) (earlier : List (List ℕ)) : Type 0 where
  -- is refused, whatever it says,
  pub in_any_case : (p : List ℕ) → current edition ≡ true → ComesBehind (rules_behind edition) file earlier p → kind_of (without_last p) ≡ Some L9 →
      (refusal : Refusal) × (card_file_row (check_of edition file) ≡ refused_row refusal) × (refusal.«record» ≡ suc (length earlier))
  -- and by 11 at column 9 where it is right but for its sum
  pub by_eleven : (p : List ℕ) → current edition ≡ true → ComesBehind (rules_behind edition) file earlier p → kind_of (without_last p) ≡ Some L9 →
      all_hold (before_sum (plain_state edition (records_in earlier)) p) ≡ true →
      card_file_row (check_of edition file) ≡ refused_row (record { cause = TrailerDisagrees; «record» = suc (length earlier); column = 9 })

-- sales alone, each of which pays this gross
abbrev pub SalesOf : ℕ → List Transaction → Type 0
SalesOf gross [] = Unit {0}
SalesOf gross (sale r ∷ ts) = (payable_gross r ≡ gross) × SalesOf gross ts
SalesOf gross (adjustment r ∷ ts) = ⊥

pub record SumOfNoTrailer : Type 0 where
  -- "A sum too large for its field equals none": the field has fourteen digits
  pub too_large : (edition : ℕ) (file : List ℕ) (earlier : List (List ℕ)) → 10 ^ 14 + taken (in_batch earlier) ≤ added (in_batch earlier) →
      NoSumIsRight edition file earlier
  -- as that of 1,001 sales of 99999999999
  pub of_sales : (edition : ℕ) (file : List ℕ) (earlier : List (List ℕ)) → length (in_batch earlier) ≡ 1001 → SalesOf 99_999_999_999 (in_batch earlier) →
      NoSumIsRight edition file earlier
  -- "a sum below zero equals no trailer"
  pub below_zero : (edition : ℕ) (file : List ℕ) (earlier : List (List ℕ)) → added (in_batch earlier) < taken (in_batch earlier) → NoSumIsRight edition file earlier
