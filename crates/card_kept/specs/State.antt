-- WHAT THE STATE IS behind records that keep the rules, in words of those records alone: all that the rules of what comes next take from it, and the numbers so far.
use Rattle.card_record.specs.declared.kind.Kind.{Kind}
use Rattle.std.specs.Prelude.{ℕ, suc, ◌≡◌, Bool, cond, length, None, Option, Some}
use Prim.Native.String.{String}
use mathlib.Core.List.{List, [], ◌∷◌, ◌++◌, foldl}
use Rattle.text.specs.Literal.{ascii, same_bytes}
use Rattle.text.specs.Part.{positions}
use Rattle.totals.specs.TwoSets.{sets_of}
use Rattle.first_fault.specs.InTurn.{records_in}
use Rattle.card_record.specs.declared.kind.Kind.TheVariants.{A0, L0, Cv, Aj, L9, A9}
use Rattle.card_record.specs.Kind.{kind_of}
use Rattle.card_run.specs.declared.batch.OpenBatch.{OpenBatch}
use Rattle.card_run.specs.declared.running.Running.{Running}
use Rattle.card_run.specs.declared.stage.Stage.{Stage}
use Rattle.card_run.specs.declared.stage.Stage.TheVariants.{Start, BetweenBatches, InBatch, Ended}
use Rattle.card_run.specs.Running.{open_of, next_number}
use Rattle.card_file.specs.CardFile.{lines_of}
use Rattle.card_kept.specs.Fields.{number_at}
use Rattle.card_kept.specs.Kept.{Transaction, sale, adjustment, is_forecast, is_settled, is_credit, is_debit, picked, added, taken}
use Rattle.card_kept.specs.Numbers.{plain_totals, plain_adjusted}

-- the stage behind a record of a kind; a kind that is not known keeps no rule, and leaves the stage as it is
abbrev pub stage_behind : Stage → Option Kind → Stage
stage_behind stage (Some A0) = BetweenBatches
stage_behind stage (Some L0) = InBatch
stage_behind stage (Some Cv) = InBatch
stage_behind stage (Some Aj) = InBatch
stage_behind stage (Some L9) = BetweenBatches
stage_behind stage (Some A9) = Ended
stage_behind stage None = stage

-- so it is the last record's; before any record it is the start
abbrev pub stage_after : List (List ℕ) → Stage
stage_after records = foldl (λ stage r. stage_behind stage (kind_of r)) Start records

-- a record of this name
abbrev pub is_a : String → List ℕ → Bool
is_a name r = same_bytes (positions 1 2 r) (ascii name)

-- a number of the A0 that came; before it, 0
abbrev pub in_header : ℕ → ℕ → List (List ℕ) → ℕ
in_header first last records = foldl (λ n r. cond (is_a "A0" r) (number_at first last r) n) 0 records

-- how many records of a name there are
unfoldable pub how_many : String → List (List ℕ) → ℕ
how_many name [] = 0
how_many name (r ∷ rs) = cond (is_a name r) (suc (how_many name rs)) (how_many name rs)

-- the transactions among records
abbrev pub as_transaction : List ℕ → List Transaction
as_transaction r = cond (is_a "CV" r) (sale r ∷ []) (cond (is_a "AJ" r) (adjustment r ∷ []) [])

unfoldable pub transactions_in : List (List ℕ) → List Transaction
transactions_in [] = []
transactions_in (r ∷ rs) = as_transaction r ++ transactions_in rs

-- the records since the last L0; before any L0, all that came
abbrev pub since_header : List (List ℕ) → List (List ℕ)
since_header records = foldl (λ rs r. cond (is_a "L0" r) [] (rs ++ (r ∷ []))) [] records

-- what L9 must equal, as whole numbers: how many transactions there are, and what of them is added and what is taken
abbrev pub plain_batch : List Transaction → OpenBatch
plain_batch ts = record { transactions = length ts; added = added ts; taken = taken ts }

-- the state of records: a batch has ended where its L9 has come, and the open one, or the last, has the transactions since its header
abbrev pub plain_state : ℕ → List (List ℕ) → Running
plain_state edition records =
    record {
      stage = stage_after records;
      edition = edition;
      numbers = record {
        date = in_header 9 16 records;
        movement = in_header 23 28 records;
        records = length records;
        batches = how_many "L9" records;
        totals = sets_of (plain_totals (picked is_forecast (transactions_in records))) (plain_totals (picked is_settled (transactions_in records)));
        credits = plain_adjusted (picked is_credit (transactions_in records));
        debits = plain_adjusted (picked is_debit (transactions_in records));
      };
      batch = plain_batch (transactions_in (since_header records));
    }

-- the state behind pieces of a file
abbrev pub state_behind : ℕ → List (List ℕ) → Running
state_behind edition pieces = lines_of (open_of edition) pieces

pub record StateKnown (edition : ℕ) (pieces : List (List ℕ)) : Type 0 where
  pub is : state_behind edition pieces ≡ plain_state edition (records_in pieces)
  -- the record that comes next is one past those that came: a whole number, which "NSEQ equals"
  pub number : next_number (state_behind edition pieces) ≡ suc (length pieces)
