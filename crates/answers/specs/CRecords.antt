-- What the contracts of a file that C gives record by record are held to. Behind a function's name: the wrong programs that are ruled out.
use Rattle.std.specs.Prelude.{ℕ, List, [], ◌∷◌, replicate, Err, None, Some}
use Rattle.std.specs.Borrow.{Bor, MutBor}
use Rattle.text.specs.Literal.{ascii}
use Rattle.refusal.specs.declared.Cause.TheVariants.{EditionUnknown, KindUnknown, WrongWidth, EndsTooEarly, BytesAfterTheEnd}
use Rattle.card_run.specs.declared.stage.Stage.TheVariants.{Start, InBatch, Ended, Closed, Refused}
use Rattle.card_run.specs.declared.running.Running.{Running}
use Rattle.payroll_run.specs.declared.stage.Stage.TheVariants.{Start as AtStart, InBatch as In, BehindA, Ended as AtEnd, Refused as Stopped}
use Rattle.payroll_stream.specs.declared.feeding.Feeding.{Feeding}
use Rattle.answer_rows.specs.Card.{card_numbers}
use Rattle.answer_rows.specs.Payroll.{progress_numbers}
use Rattle.state_numbers.specs.CardState.{state_numbers}
use Rattle.state_numbers.specs.PayrollState.{feeding_numbers}
use Rattle.answers.specs.CardRun.{state, refusal, no_sale, one_sale, accepted, opened}
use Rattle.answers.specs.PayrollFile.{state as payroll_state, opened as payroll_opened, accepted as paid}
use Rattle.answers.specs.StateNumbers.{feeding}
use Rattle.answers.specs.Samples.{sale, payment}
use base.Fml.{Lft}
use Rattle.c_records.specs.contracts.card.lossivurn_card_open as CardOpen
use Rattle.c_records.specs.contracts.card.lossivurn_card_feed as CardFeed
use Rattle.c_records.specs.contracts.card.lossivurn_card_close as CardClose
use Rattle.c_records.specs.contracts.card.lossivurn_card_answer as CardAnswer
use Rattle.c_records.specs.contracts.payroll.lossivurn_payroll_open as PayrollOpen
use Rattle.c_records.specs.contracts.payroll.lossivurn_payroll_feed as PayrollFeed
use Rattle.c_records.specs.contracts.payroll.lossivurn_payroll_close as PayrollClose
use Rattle.c_records.specs.contracts.payroll.lossivurn_payroll_answer as PayrollAnswer
use borrow.Fn.Read.{r_last}
use Rattle.answers.specs.Held.{Claim, fact_of, logic, memory, run, OneOutcome, TellsOutcome, lent, lent_mut, one, two}

-- what each contract says
abbrev CardOpenSays : Claim CardOpen.ended
CardOpenSays κs a r s = fact_of ((CardOpen.clauses logic memory run κs a).ensures tt r s) (r_last _)

abbrev CardFeedSays : Claim CardFeed.ended
CardFeedSays κs a r s = fact_of ((CardFeed.clauses logic memory run κs a).ensures tt r s) (r_last _)

abbrev CardCloseSays : Claim CardClose.ended
CardCloseSays κs a r s = fact_of ((CardClose.clauses logic memory run κs a).ensures tt r s) (r_last _)

abbrev CardAnswerSays : Claim CardAnswer.ended
CardAnswerSays κs a r s = fact_of ((CardAnswer.clauses logic memory run κs a).ensures tt r s) (r_last _)

abbrev PayrollOpenSays : Claim PayrollOpen.ended
PayrollOpenSays κs a r s = fact_of ((PayrollOpen.clauses logic memory run κs a).ensures tt r s) (r_last _)

abbrev PayrollFeedSays : Claim PayrollFeed.ended
PayrollFeedSays κs a r s = fact_of ((PayrollFeed.clauses logic memory run κs a).ensures tt r s) (r_last _)

abbrev PayrollCloseSays : Claim PayrollClose.ended
PayrollCloseSays κs a r s = fact_of ((PayrollClose.clauses logic memory run κs a).ensures tt r s) (r_last _)

abbrev PayrollAnswerSays : Claim PayrollAnswer.ended
PayrollAnswerSays κs a r s = fact_of ((PayrollAnswer.clauses logic memory run κs a).ensures tt r s) (r_last _)

-- a state as a caller keeps it, lent to be changed
abbrev card : Running → MutBor (List ℕ)
card st = lent_mut (state_numbers st)

abbrev payroll : Feeding → MutBor (List ℕ)
payroll f = lent_mut (feeding_numbers f)

-- the same, lent to be asked
abbrev card_asked : Running → Bor (List ℕ)
card_asked st = lent (state_numbers st)

abbrev payroll_asked : Feeding → Bor (List ℕ)
payroll_asked f = lent (feeding_numbers f)

-- so many numbers that no call has written
abbrev unwritten : ℕ → MutBor (List ℕ)
unwritten size = lent_mut (replicate size 0)

-- a payroll file that has ended and is not closed
abbrev ended : Feeding
ended = feeding (payroll_state AtEnd 5 3 1 10000) None

-- and one that is closed, and accepted
abbrev closed : Feeding
closed = feeding (payroll_state AtEnd 5 3 1 10000) (Some (paid 1 10000))

pub record CRecords (κ : Lft) : Type 0 where
  -- `lossivurn_card_open`: an edition cut down to a byte; the state of the file before left in place
  pub card_open : OneOutcome (λ κs s. s.1.0.now) CardOpenSays
  pub card_open_258 :
      TellsOutcome (CardOpenSays (one κ)) (258, (unwritten 24, tt))
      (record { answer = tt; exit = (258, (card (opened (Refused (refusal EditionUnknown 0 0)) 258), tt)) })
      (record { answer = tt; exit = (258, (card (opened Start 258), tt)) })
  pub card_open_left :
      TellsOutcome (CardOpenSays (one κ)) (2, (card (state InBatch 3 one_sale), tt))
      (record { answer = tt; exit = (2, (card (opened Start 2), tt)) })
      (record { answer = tt; exit = (2, (card (state InBatch 3 one_sale), tt)) })
  -- `lossivurn_card_feed`: a state that stays as it was; a refused file that goes on
  pub card_feed : OneOutcome (λ κs s. s.0.now) CardFeedSays
  pub card_feed_left :
      TellsOutcome (CardFeedSays (two κ)) (card (state InBatch 2 no_sale), (lent sale, tt))
      (record { answer = tt; exit = (card (state InBatch 3 one_sale), (lent sale, tt)) })
      (record { answer = tt; exit = (card (state InBatch 2 no_sale), (lent sale, tt)) })
  pub card_feed_refused :
      TellsOutcome (CardFeedSays (two κ)) (card (state (Refused (refusal KindUnknown 3 1)) 2 no_sale), (lent sale, tt))
      (record { answer = tt; exit = (card (state (Refused (refusal KindUnknown 3 1)) 2 no_sale), (lent sale, tt)) })
      (record { answer = tt; exit = (card (state InBatch 3 one_sale), (lent sale, tt)) })
  -- `lossivurn_card_close`: a file that ends too early accepted; a state that stays as it was
  pub card_close : OneOutcome (λ κs s. s.0.now) CardCloseSays
  pub card_close_early :
      TellsOutcome (CardCloseSays (one κ)) (card (state InBatch 3 one_sale), tt)
      (record { answer = tt; exit = (card (state (Refused (refusal EndsTooEarly 4 0)) 3 one_sale), tt) })
      (record { answer = tt; exit = (card (state Closed 3 one_sale), tt) })
  pub card_close_left :
      TellsOutcome (CardCloseSays (one κ)) (card (state Ended 5 one_sale), tt)
      (record { answer = tt; exit = (card (state Closed 5 one_sale), tt) })
      (record { answer = tt; exit = (card (state Ended 5 one_sale), tt) })
  -- `lossivurn_card_answer`: accepted before the close; zeros taken for a file that goes on
  pub card_answer_lem : OneOutcome (λ κs s. s.1.0.now) CardAnswerSays
  pub card_answer_early :
      TellsOutcome (CardAnswerSays (two κ)) (card_asked (state Ended 5 one_sale), (unwritten 20, tt))
      (record { answer = tt; exit = (card_asked (state Ended 5 one_sale), (lent_mut (card_numbers None), tt)) })
      (record { answer = tt; exit = (card_asked (state Ended 5 one_sale), (lent_mut (card_numbers (accepted 5 0 one_sale)), tt)) })
  pub card_answer_zeros :
      TellsOutcome (CardAnswerSays (two κ)) (lent (replicate 24 0), (unwritten 20, tt))
      (record { answer = tt; exit = (lent (replicate 24 0), (lent_mut (1 ∷ replicate 19 0), tt)) })
      (record { answer = tt; exit = (lent (replicate 24 0), (unwritten 20, tt)) })
  -- `lossivurn_payroll_open`: a record that has not come; the state of the file before left in place
  pub payroll_open : OneOutcome (λ κs s. s.0.now) PayrollOpenSays
  pub payroll_open_counted :
      TellsOutcome (PayrollOpenSays (one κ)) (unwritten 20, tt)
      (record { answer = tt; exit = (payroll (feeding (payroll_opened AtStart) None), tt) })
      (record { answer = tt; exit = (payroll (feeding (payroll_state AtStart 1 0 0 0) None), tt) })
  pub payroll_open_left :
      TellsOutcome (PayrollOpenSays (one κ)) (payroll closed, tt)
      (record { answer = tt; exit = (payroll (feeding (payroll_opened AtStart) None), tt) })
      (record { answer = tt; exit = (payroll closed, tt) })
  -- `lossivurn_payroll_feed`: a state that stays as it was; a record behind an accepted close passed over
  pub payroll_feed : OneOutcome (λ κs s. s.0.now) PayrollFeedSays
  pub payroll_feed_left :
      TellsOutcome (PayrollFeedSays (two κ)) (payroll (feeding (payroll_state In 2 1 0 0) None), (lent payment, tt))
      (record { answer = tt; exit = (payroll (feeding (payroll_state BehindA 3 2 1 10000) None), (lent payment, tt)) })
      (record { answer = tt; exit = (payroll (feeding (payroll_state In 2 1 0 0) None), (lent payment, tt)) })
  pub payroll_feed_behind :
      TellsOutcome (PayrollFeedSays (two κ)) (payroll closed, (lent payment, tt))
      (record { answer = tt; exit = (payroll (feeding (payroll_state AtEnd 5 3 1 10000) (Some (Err (refusal BytesAfterTheEnd 6 0)))), (lent payment, tt)) })
      (record { answer = tt; exit = (payroll closed, (lent payment, tt)) })
  -- `lossivurn_payroll_close`: the byte 1A optional; a state that stays as it was
  pub payroll_close : OneOutcome (λ κs s. s.0.now) PayrollCloseSays
  pub payroll_close_optional :
      TellsOutcome (PayrollCloseSays (two κ)) (payroll ended, (lent [], tt))
      (record { answer = tt; exit = (payroll (feeding (payroll_state AtEnd 5 3 1 10000) (Some (Err (refusal EndsTooEarly 6 0)))), (lent [], tt)) })
      (record { answer = tt; exit = (payroll closed, (lent [], tt)) })
  pub payroll_close_left :
      TellsOutcome (PayrollCloseSays (two κ)) (payroll ended, (lent (ascii "\u{1a}"), tt))
      (record { answer = tt; exit = (payroll closed, (lent (ascii "\u{1a}"), tt)) })
      (record { answer = tt; exit = (payroll ended, (lent (ascii "\u{1a}"), tt)) })
  -- `lossivurn_payroll_answer`: accepted before the close; a refusal that shows only at the close
  pub payroll_answer_lem : OneOutcome (λ κs s. s.1.0.now) PayrollAnswerSays
  pub payroll_answer_early :
      TellsOutcome (PayrollAnswerSays (two κ)) (payroll_asked ended, (unwritten 8, tt))
      (record { answer = tt; exit = (payroll_asked ended, (lent_mut (progress_numbers None), tt)) })
      (record { answer = tt; exit = (payroll_asked ended, (lent_mut (progress_numbers (Some (paid 1 10000))), tt)) })
  pub payroll_answer_late :
      TellsOutcome (PayrollAnswerSays (two κ)) (payroll_asked (feeding (payroll_state (Stopped (refusal WrongWidth 3 0)) 2 1 0 0) None), (unwritten 8, tt))
      (record { answer = tt; exit = (payroll_asked (feeding (payroll_state (Stopped (refusal WrongWidth 3 0)) 2 1 0 0) None), (lent_mut (progress_numbers (Some (Err (refusal WrongWidth 3 0)))), tt)) })
      (record { answer = tt; exit = (payroll_asked (feeding (payroll_state (Stopped (refusal WrongWidth 3 0)) 2 1 0 0) None), (lent_mut (progress_numbers None), tt)) })
