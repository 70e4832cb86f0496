-- A file that keeps the rules is accepted, with the plain numbers: A0 opens the run, its batches lead it on, and A9 ends it.
use Prim.Native.Nat.{ℕ, suc, ◌+◌}
use mathlib.Core.Path.{◌≡◌, refl, ◌∙◌, ap, subst}
use mathlib.Core.List.{List, [], ◌∷◌, ◌++◌}
use mathlib.Core.Bool.{true}
use native.Mathlib.Omega.{arith}
use lib.ListN.{length, length-append}
use Rattle.edition.specs.Known.{current}
use Rattle.edition.proofs.Editions.{current_fault}
use Rattle.totals.specs.TwoSets.{sets_of}
use Rattle.totals.proofs.Totals.{figure_of_none}
use Rattle.card_record.specs.declared.kind.Kind.TheVariants.{A0, A9}
use Rattle.card_run.specs.declared.stage.Stage.TheVariants.{Start, BetweenBatches, Ended}
use Rattle.card_run.specs.declared.running.Running.{Running}
use Rattle.card_run.specs.declared.answer.Accepted.{Accepted}
use Rattle.card_run.specs.Stage.{placed}
use Rattle.card_run.specs.Batch.{no_transaction}
use Rattle.card_run.specs.Running.{open_at, open_stage, open_of, moved, closed_at, closed_of}
use Rattle.card_file.specs.Feeding.{fed_of, fed_all}
use Rattle.card_run.specs.Answer.{answer_at, answer_of}
use Rattle.card_file.specs.CardFile.{end_of, ran_of, check_of}
use Rattle.card_kept.specs.Fields.{number_at}
use Rattle.card_kept.specs.Records.{A9Kept}
use Rattle.card_kept.specs.Kept.{File, batches_records, records_of, FileKept, Kept, transactions_of, forecasts_of, settled_of, credits_of, debits_of}
use Rattle.card_kept.specs.Numbers.{plain_totals, plain_adjusted}
use Rattle.card_kept.proofs.PlainTotals.{none_plus}
use Rattle.card_kept.proofs.Transactions.{same_adjusted}
use Rattle.card_kept.proofs.TwoSets.{same_sets}
use Rattle.card_kept.proofs.PlainSteps.{same_at, after, behind_plain, Small, still_small, step}
use Rattle.card_kept.proofs.OneLine.{file_cut}
use Rattle.card_kept.proofs.Batches.{fed_row, lines_are, Comes, comes, last_batch, batches_taken}
use Rattle.std.specs.Prelude.{Ok, Some}

-- a current edition is open
pub opens : (e : ℕ) → current e ≡ true → open_stage e ≡ Start
opens e h = ap open_at (current_fault e h)

pub open_small : (e : ℕ) → Small (open_of e)
open_small e =
    record {
      records = omega arith;
      batches = omega arith;
      totals = λ f. omega (arith, figure_of_none f);
      credits = record { count = omega arith; net = omega arith };
      debits = record { count = omega arith; net = omega arith };
      added = omega arith;
      batch = record { transactions = omega arith; added = omega arith; taken = omega arith };
    }

-- the numbers of an answer
abbrev pub plain_numbers : File → Accepted
plain_numbers f =
    record {
      date = number_at 9 16 f.a0;
      movement = number_at 23 28 f.a0;
      records = length (records_of f);
      batches = length f.batches;
      totals = sets_of (plain_totals (forecasts_of f)) (plain_totals (settled_of f));
      credits = plain_adjusted (credits_of f);
      debits = plain_adjusted (debits_of f);
    }

-- the state that the records of a file lead to
abbrev pub ended : ℕ → File → Running
ended e f = moved Ended (plain_numbers f) (last_batch no_transaction f.batches) (open_of e)

pub file_taken : (e : ℕ) (f : File) → current e ≡ true → FileKept e f → Comes (fed_all (open_of e) (records_of f)) (ended e f)
unfolding fed_all
file_taken e f is_current k =
    let start = open_of e in
    let begun = behind_plain A0 start f.a0 in
    let first = step start f.a0 (open_small e) A0 (ap (λ s. placed s A0) (opens e is_current)) k.a0 in
    let batches = batches_taken f.batches begun (still_small start f.a0 (open_small e) A0 k.a0) refl k.batches in
    let full = after begun BetweenBatches (1 + length (batches_records f.batches)) (0 + length f.batches) (transactions_of f) (last_batch no_transaction f.batches) in
    let number : 2 + length (batches_records f.batches) ≡ suc (1 + length (batches_records f.batches)) = omega arith in
    let trailer = subst (λ n. A9Kept e n f.a9) number k.a9 in
    let last = step full f.a9 batches.small A9 refl trailer in
    comes
    (same_at begun refl (omega (arith, length-append (batches_records f.batches) (f.a9 ∷ []))) (omega arith)
    (same_sets (none_plus (plain_totals (forecasts_of f))) (none_plus (plain_totals (settled_of f))))
    (same_adjusted (omega arith) (omega arith)) (same_adjusted (omega arith) (omega arith)) refl)
    (record {
      is =
          ap (λ s. fed_all s (batches_records f.batches ++ (f.a9 ∷ []))) first ∙ fed_row begun (batches_records f.batches) (f.a9 ∷ []) ∙
          ap (λ s. fed_of s f.a9) batches.is ∙ last;
      small = still_small full f.a9 batches.small A9 trailer;
    })

-- a file that keeps the rules is accepted with its numbers
pub kept_accepted : (e : ℕ) (bytes : List ℕ) (k : Kept e bytes) → check_of e bytes ≡ Some (Ok (plain_numbers k.file))
unfolding end_of closed_at answer_at
kept_accepted e bytes k =
    let f = k.file in
    ap (check_of e) k.is ∙ ap (λ ls. answer_of (ran_of (open_of e) ls)) (file_cut e f k.keeps) ∙
    ap (λ st. answer_of (closed_of st)) (lines_are (open_of e) (records_of f) ∙ (file_taken e f k.edition_current k.keeps).is)
