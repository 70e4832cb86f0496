-- Calls by what is kept are the calls themselves: what is kept at the end keeps what they come to, and is told the same. One law for any steps, by induction on what is given; the rest names the steps.
use Prim.Native.Nat.{ℕ}
use mathlib.Core.Path.{◌≡◌, refl, ap, ◌∙◌}
use mathlib.Core.List.{List, [], ◌∷◌, foldl}
use Rattle.card_run.specs.declared.running.Running.{Running}
use Rattle.card_run.specs.Running.{open_of, closed_of}
use Rattle.card_run.specs.Answer.{answer_of}
use Rattle.card_file.specs.Feeding.{fed_of, fed_all}
use Rattle.card_stream.specs.declared.Stream.{Stream as CardStream}
use Rattle.card_stream.specs.Stream.{open_of as card_opened, taken_of as card_taken, ended_of as card_ended, answer_of as card_answer}
use Rattle.payroll_stream.specs.declared.Stream.{Stream as PayrollStream}
use Rattle.payroll_stream.specs.Stream.{open_of as payroll_opened, taken_of as payroll_taken, ended_of as payroll_ended, answer_of as payroll_answer}
use Rattle.payroll_stream.specs.Feeding.{open_feeding, fed_of as payroll_fed, fed_all as payroll_fed_all, closed_with, answer_of as feeding_answer}
use Rattle.state_numbers.specs.CardState.{state_numbers, state_of}
use Rattle.state_numbers.specs.PayrollState.{feeding_numbers, feeding_of}
use Rattle.state_numbers.specs.Streams.{KeepsCard, KeepsPayroll}
use Rattle.state_numbers.specs.Calls.{
  step_by,
  card_open_by,
  card_fed_by,
  card_closed_by,
  payroll_open_by,
  payroll_fed_by,
  payroll_closed_by,
  Kept,
  card_kept,
  card_stream_of,
  card_stream_open_by,
  card_taken_by,
  card_ended_by,
  payroll_kept,
  payroll_stream_of,
  payroll_stream_open_by,
  payroll_taken_by,
  payroll_ended_by,
}
use Rattle.state_numbers.proofs.ThereAndBack.{state_again, feeding_again, card_again, payroll_again}

module _ {N S X : Type 0} (there : S → N) (back : N → S) (again : (s : S) → back (there s) ≡ s) (step : S → X → S) where
  -- one step after the other
  pub all_steps : (s : S) (xs : List X) → foldl (step_by there back step) (there s) xs ≡ there (foldl step s xs)
  all_steps s [] = refl
  all_steps s (x ∷ xs) = ap (λ t. foldl (step_by there back step) (there (step t x)) xs) (again s) ∙ all_steps (step s x) xs

  -- and then a last one, and the answer
  pub answered : {A : Type 0} (s : S) (xs : List X) (last : S → S) (ask : S → A) →
      ask (back (there (last (back (foldl (step_by there back step) (there s) xs))))) ≡ ask (last (foldl step s xs))
  answered s xs last ask =
      ap ask (again _) ∙ ap (λ n. ask (last (back n))) (all_steps s xs) ∙ ap (λ t. ask (last t)) (again (foldl step s xs))

-- a card file, record by record
fed_is_folded : (st : Running) (records : List (List ℕ)) → foldl fed_of st records ≡ fed_all st records
unfolding fed_all
fed_is_folded st [] = refl
fed_is_folded st (r ∷ records) = fed_is_folded (fed_of st r) records

pub card_fed : (edition : ℕ) (records : List (List ℕ)) → foldl card_fed_by (card_open_by edition) records ≡ state_numbers (fed_all (open_of edition) records)
card_fed edition records =
    all_steps state_numbers state_of state_again fed_of (open_of edition) records ∙ ap state_numbers (fed_is_folded (open_of edition) records)

pub card_answered : (edition : ℕ) (records : List (List ℕ)) →
    answer_of (state_of (card_closed_by (foldl card_fed_by (card_open_by edition) records))) ≡ answer_of (closed_of (fed_all (open_of edition) records))
card_answered edition records =
    answered state_numbers state_of state_again fed_of (open_of edition) records closed_of answer_of ∙
    ap (λ st. answer_of (closed_of st)) (fed_is_folded (open_of edition) records)

-- a payroll file, record by record
pub payroll_fed_lem : (records : List (List ℕ)) → foldl payroll_fed_by payroll_open_by records ≡ feeding_numbers (payroll_fed_all open_feeding records)
payroll_fed_lem records = all_steps feeding_numbers feeding_of feeding_again payroll_fed open_feeding records

pub payroll_answered : (records : List (List ℕ)) (rest : List ℕ) →
    feeding_answer (feeding_of (payroll_closed_by (foldl payroll_fed_by payroll_open_by records) rest)) ≡
    feeding_answer (closed_with (payroll_fed_all open_feeding records) rest)
payroll_answered records rest =
    answered feeding_numbers feeding_of feeding_again payroll_fed open_feeding records (λ f. closed_with f rest) feeding_answer

-- what a call leaves with the caller is what keeps its stream
pub card_left : {s : CardStream} {k : Kept} → KeepsCard s k.numbers k.waiting k.bytes → k ≡ card_kept s
card_left keeps = λ i. record { numbers = keeps.in_numbers i; waiting = keeps.waits i; bytes = keeps.is_held i }

pub payroll_left : {s : PayrollStream} {k : Kept} → KeepsPayroll s k.numbers k.waiting k.bytes → k ≡ payroll_kept s
payroll_left keeps = λ i. record { numbers = keeps.in_numbers i; waiting = keeps.waits i; bytes = keeps.is_held i }

-- and is that stream again
card_stream_again : (s : CardStream) → card_stream_of (card_kept s) ≡ s
card_stream_again s = card_again (record { in_numbers = refl; waits = refl; is_held = refl })

payroll_stream_again : (s : PayrollStream) → payroll_stream_of (payroll_kept s) ≡ s
payroll_stream_again s = payroll_again (record { in_numbers = refl; waits = refl; is_held = refl })

-- a card file in chunks
pub card_taken_lem : (edition : ℕ) (chunks : List (List ℕ)) →
    foldl card_taken_by (card_stream_open_by edition) chunks ≡ card_kept (foldl card_taken (card_opened edition) chunks)
card_taken_lem edition chunks = all_steps card_kept card_stream_of card_stream_again card_taken (card_opened edition) chunks

pub card_ended_lem : (edition : ℕ) (chunks : List (List ℕ)) →
    card_answer (card_stream_of (card_ended_by (foldl card_taken_by (card_stream_open_by edition) chunks))) ≡
    card_answer (card_ended (foldl card_taken (card_opened edition) chunks))
card_ended_lem edition chunks = answered card_kept card_stream_of card_stream_again card_taken (card_opened edition) chunks card_ended card_answer

-- a payroll file in chunks
pub payroll_taken_lem : (chunks : List (List ℕ)) → foldl payroll_taken_by payroll_stream_open_by chunks ≡ payroll_kept (foldl payroll_taken payroll_opened chunks)
payroll_taken_lem chunks = all_steps payroll_kept payroll_stream_of payroll_stream_again payroll_taken payroll_opened chunks

pub payroll_ended_lem : (chunks : List (List ℕ)) →
    payroll_answer (payroll_stream_of (payroll_ended_by (foldl payroll_taken_by payroll_stream_open_by chunks))) ≡
    payroll_answer (payroll_ended (foldl payroll_taken payroll_opened chunks))
payroll_ended_lem chunks = answered payroll_kept payroll_stream_of payroll_stream_again payroll_taken payroll_opened chunks payroll_ended payroll_answer
