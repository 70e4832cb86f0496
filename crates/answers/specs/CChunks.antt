-- What the contracts of a file that C gives in chunks are held to. Behind a function's name: the wrong programs that are ruled out.
use Rattle.std.specs.Prelude.{ℕ, ◌≡◌, List, [], ◌++◌, take, drop, replicate, Err, None, Some}
use Rattle.std.specs.Borrow.{Bor, MutBor}
use Rattle.text.specs.Literal.{ascii}
use Rattle.refusal.specs.declared.Cause.TheVariants.{EditionRetired, NoLineEnd, WrongWidth, EndsTooEarly, BytesAfterTheEnd}
use Rattle.card_run.specs.declared.stage.Stage.TheVariants.{Start, InBatch, Ended, Closed, Refused}
use Rattle.card_stream.specs.declared.Stream.{Stream as CardStream}
use Rattle.payroll_run.specs.declared.stage.Stage.TheVariants.{Start as AtStart, InBatch as In, BehindA, Ended as AtEnd, Refused as Stopped}
use Rattle.payroll_stream.specs.declared.Stream.{Stream as PayrollStream}
use Rattle.answer_rows.specs.Card.{card_numbers}
use Rattle.answer_rows.specs.Payroll.{progress_numbers}
use Rattle.state_numbers.specs.Calls.{Kept, card_kept, payroll_kept}
use Rattle.answers.specs.CardRun.{state, refusal, no_sale, one_sale, accepted, opened}
use Rattle.answers.specs.CardFile.{stream}
use Rattle.answers.specs.PayrollFile.{state as payroll_state, opened as payroll_opened, accepted as paid, stream as payroll_stream}
use Rattle.answers.specs.Samples.{sale, payment}
use base.Fml.{Lft}
use Rattle.c_chunks.specs.contracts.card.lossivurn_card_stream_open as CardOpen
use Rattle.c_chunks.specs.contracts.card.lossivurn_card_stream_take as CardTake
use Rattle.c_chunks.specs.contracts.card.lossivurn_card_stream_end as CardEnd
use Rattle.c_chunks.specs.contracts.card.lossivurn_card_stream_answer as CardAnswer
use Rattle.c_chunks.specs.contracts.payroll.lossivurn_payroll_stream_open as PayrollOpen
use Rattle.c_chunks.specs.contracts.payroll.lossivurn_payroll_stream_take as PayrollTake
use Rattle.c_chunks.specs.contracts.payroll.lossivurn_payroll_stream_end as PayrollEnd
use Rattle.c_chunks.specs.contracts.payroll.lossivurn_payroll_stream_answer as PayrollAnswer
use borrow.Fn.Read.{r_last}
use Rattle.answers.specs.Held.{Claim, fact_of, logic, memory, run, OneOutcome, TellsOutcome, lent, lent_mut, three, four}

-- what each contract says
abbrev CardOpenSays : Claim CardOpen.ended
CardOpenSays κs a r s = fact_of ((CardOpen.clauses logic memory run κs a).ensures tt r s) (r_last _)

abbrev CardTakeSays : Claim CardTake.ended
CardTakeSays κs a r s = fact_of ((CardTake.clauses logic memory run κs a).ensures tt r s) (r_last _)

abbrev CardEndSays : Claim CardEnd.ended
CardEndSays κs a r s = fact_of ((CardEnd.clauses logic memory run κs a).ensures tt r s) (r_last _)

abbrev CardAnswerSays : Claim CardAnswer.ended
CardAnswerSays κs a r s = fact_of ((CardAnswer.clauses logic memory run κs a).ensures tt r s) (r_last _)

abbrev PayrollOpenSays : Claim PayrollOpen.ended
PayrollOpenSays κs a r s = fact_of ((PayrollOpen.clauses logic memory run κs a).ensures tt r s) (r_last _)

abbrev PayrollTakeSays : Claim PayrollTake.ended
PayrollTakeSays κs a r s = fact_of ((PayrollTake.clauses logic memory run κs a).ensures tt r s) (r_last _)

abbrev PayrollEndSays : Claim PayrollEnd.ended
PayrollEndSays κs a r s = fact_of ((PayrollEnd.clauses logic memory run κs a).ensures tt r s) (r_last _)

abbrev PayrollAnswerSays : Claim PayrollAnswer.ended
PayrollAnswerSays κs a r s = fact_of ((PayrollAnswer.clauses logic memory run κs a).ensures tt r s) (r_last _)

-- one outcome of all three that a call leaves with the caller
abbrev OneKept : {L : Type 0} {A R S : L → Type 0} → ((κs : L) → S κs → Kept) → ((κs : L) → A κs → R κs → S κs → Type 0) → Type 0
OneKept {L} {A} {R} {S} left meets =
    (κs : L) (a : A κs) (r r' : R κs) (s s' : S κs) → meets κs a r s → meets κs a r' s' → left κs s ≡ left κs s'

abbrev left : MutBor (List ℕ) → MutBor ℕ → MutBor (List ℕ) → Kept
left numbers waiting bytes = record { numbers = numbers.now; waiting = waiting.now; bytes = bytes.now }

-- what is kept, lent, before other arguments
abbrev all : {T : Type 0} → Kept → T → MutBor (List ℕ) × (MutBor ℕ × (MutBor (List ℕ) × T))
all k others = (lent_mut k.numbers, (record { ref_ptr = (0, 0); ghost_name = 0; now = k.waiting }, (lent_mut k.bytes, others)))

abbrev card : {T : Type 0} → CardStream → T → MutBor (List ℕ) × (MutBor ℕ × (MutBor (List ℕ) × T))
card s = all (card_kept s)

abbrev payroll : {T : Type 0} → PayrollStream → T → MutBor (List ℕ) × (MutBor ℕ × (MutBor (List ℕ) × T))
payroll s = all (payroll_kept s)

-- the same as a question takes it, which changes none of it
abbrev asked : {T : Type 0} → Kept → T → Bor (List ℕ) × (ℕ × (Bor (List ℕ) × T))
asked k others = (lent k.numbers, (k.waiting, (lent k.bytes, others)))

-- what keeps of what waits the number, and no byte
abbrev without_bytes : Kept → Kept
without_bytes k = record { numbers = k.numbers; waiting = k.waiting; bytes = replicate 242 0 }

pub record CChunks (κ : Lft) : Type 0 where
  -- `lossivurn_card_stream_open`: edition 1 open, so that 22 comes at the end at the earliest; bytes of the file before left waiting
  pub card_open : OneKept (λ κs s. left s.1.0 s.1.1.0 s.1.1.1.0) CardOpenSays
  pub card_open_1 :
      TellsOutcome (CardOpenSays (three κ)) (1, card (stream (opened Start 0) []) tt)
      (record { answer = tt; exit = (1, card (stream (opened (Refused (refusal EditionRetired 0 0)) 1) []) tt) })
      (record { answer = tt; exit = (1, card (stream (opened Start 1) []) tt) })
  pub card_open_waiting :
      TellsOutcome (CardOpenSays (three κ)) (2, card (stream (state InBatch 2 no_sale) (ascii "CV")) tt)
      (record { answer = tt; exit = (2, card (stream (opened Start 2) []) tt) })
      (record { answer = tt; exit = (2, card (stream (opened Start 2) (ascii "CV")) tt) })
  -- `lossivurn_card_stream_take`: a record cut in two judged by its second half; what comes behind the LF lost; of what waits the number kept, and not the bytes
  pub card_take : OneKept (λ κs s. left s.0 s.1.0 s.1.1.0) CardTakeSays
  pub card_take_half :
      TellsOutcome (CardTakeSays (four κ)) (card (stream (state InBatch 2 no_sale) (take 100 sale)) (lent (drop 100 sale ++ ascii "\r\n"), tt))
      (record { answer = tt; exit = (card (stream (state InBatch 3 one_sale) []) (lent (drop 100 sale ++ ascii "\r\n"), tt)) })
      (record { answer = tt; exit = (card (stream (state (Refused (refusal NoLineEnd 3 0)) 2 no_sale) []) (lent (drop 100 sale ++ ascii "\r\n"), tt)) })
  pub card_take_lost :
      TellsOutcome (CardTakeSays (four κ)) (card (stream (state InBatch 2 no_sale) []) (lent (sale ++ ascii "\r\nL9"), tt))
      (record { answer = tt; exit = (card (stream (state InBatch 3 one_sale) (ascii "L9")) (lent (sale ++ ascii "\r\nL9"), tt)) })
      (record { answer = tt; exit = (card (stream (state InBatch 3 one_sale) []) (lent (sale ++ ascii "\r\nL9"), tt)) })
  pub card_take_bytes :
      TellsOutcome (CardTakeSays (four κ)) (card (stream (state InBatch 2 no_sale) []) (lent (sale ++ ascii "\r\nL9"), tt))
      (record { answer = tt; exit = (card (stream (state InBatch 3 one_sale) (ascii "L9")) (lent (sale ++ ascii "\r\nL9"), tt)) })
      (record { answer = tt; exit = (all (without_bytes (card_kept (stream (state InBatch 3 one_sale) (ascii "L9")))) (lent (sale ++ ascii "\r\nL9"), tt)) })
  -- `lossivurn_card_stream_end`: an unfinished record let go; a file that ends too early accepted
  pub card_end : OneKept (λ κs s. left s.0 s.1.0 s.1.1.0) CardEndSays
  pub card_end_held :
      TellsOutcome (CardEndSays (three κ)) (card (stream (state Ended 5 one_sale) (ascii "x")) tt)
      (record { answer = tt; exit = (card (stream (state (Refused (refusal BytesAfterTheEnd 6 0)) 5 one_sale) []) tt) })
      (record { answer = tt; exit = (card (stream (state Closed 5 one_sale) []) tt) })
  pub card_end_early :
      TellsOutcome (CardEndSays (three κ)) (card (stream (state InBatch 3 one_sale) []) tt)
      (record { answer = tt; exit = (card (stream (state (Refused (refusal EndsTooEarly 4 0)) 3 one_sale) []) tt) })
      (record { answer = tt; exit = (card (stream (state Closed 3 one_sale) []) tt) })
  -- `lossivurn_card_stream_answer`: accepted before the end; accepted though a byte came behind the end
  pub card_answer_lem : OneOutcome (λ κs s. s.1.1.1.0.now) CardAnswerSays
  pub card_answer_early :
      TellsOutcome (CardAnswerSays (three κ)) (asked (card_kept (stream (state Ended 5 one_sale) [])) (lent_mut (replicate 20 0), tt))
      (record { answer = tt; exit = (asked (card_kept (stream (state Ended 5 one_sale) [])) (lent_mut (card_numbers None), tt)) })
      (record { answer = tt; exit = (asked (card_kept (stream (state Ended 5 one_sale) [])) (lent_mut (card_numbers (accepted 5 0 one_sale)), tt)) })
  pub card_answer_behind :
      TellsOutcome (CardAnswerSays (three κ)) (asked (card_kept (stream (state Closed 5 one_sale) (ascii "x"))) (lent_mut (replicate 20 0), tt))
      (record { answer = tt; exit = (asked (card_kept (stream (state Closed 5 one_sale) (ascii "x"))) (lent_mut (card_numbers (Some (Err (refusal BytesAfterTheEnd 6 0)))), tt)) })
      (record { answer = tt; exit = (asked (card_kept (stream (state Closed 5 one_sale) (ascii "x"))) (lent_mut (card_numbers (accepted 5 0 one_sale)), tt)) })
  -- `lossivurn_payroll_stream_open`: accepted before anything has come; bytes of the file before left waiting
  pub payroll_open : OneKept (λ κs s. left s.0 s.1.0 s.1.1.0) PayrollOpenSays
  pub payroll_open_answered :
      TellsOutcome (PayrollOpenSays (three κ)) (payroll (payroll_stream (payroll_state AtEnd 5 3 1 10000) [] (Some (paid 1 10000))) tt)
      (record { answer = tt; exit = (payroll (payroll_stream (payroll_opened AtStart) [] None) tt) })
      (record { answer = tt; exit = (payroll (payroll_stream (payroll_opened AtStart) [] (Some (paid 1 10000))) tt) })
  pub payroll_open_waiting :
      TellsOutcome (PayrollOpenSays (three κ)) (payroll (payroll_stream (payroll_state In 2 1 0 0) (ascii "42") None) tt)
      (record { answer = tt; exit = (payroll (payroll_stream (payroll_opened AtStart) [] None) tt) })
      (record { answer = tt; exit = (payroll (payroll_stream (payroll_opened AtStart) (ascii "42") None) tt) })
  -- `lossivurn_payroll_stream_take`: a record cut in two judged by its second half; bytes behind an accepted end passed over; of what waits the number kept, and not the bytes
  pub payroll_take : OneKept (λ κs s. left s.0 s.1.0 s.1.1.0) PayrollTakeSays
  pub payroll_take_half :
      TellsOutcome (PayrollTakeSays (four κ)) (payroll (payroll_stream (payroll_state In 2 1 0 0) (take 100 payment) None) (lent (drop 100 payment ++ ascii "\r\n"), tt))
      (record { answer = tt; exit = (payroll (payroll_stream (payroll_state BehindA 3 2 1 10000) [] None) (lent (drop 100 payment ++ ascii "\r\n"), tt)) })
      (record { answer = tt; exit = (payroll (payroll_stream (payroll_state (Stopped (refusal WrongWidth 3 0)) 2 1 0 0) [] None) (lent (drop 100 payment ++ ascii "\r\n"), tt)) })
  pub payroll_take_behind :
      TellsOutcome (PayrollTakeSays (four κ)) (payroll (payroll_stream (payroll_state AtEnd 5 3 1 10000) [] (Some (paid 1 10000))) (lent (ascii "x"), tt))
      (record { answer = tt; exit = (payroll (payroll_stream (payroll_state AtEnd 5 3 1 10000) [] (Some (Err (refusal BytesAfterTheEnd 6 0)))) (lent (ascii "x"), tt)) })
      (record { answer = tt; exit = (payroll (payroll_stream (payroll_state AtEnd 5 3 1 10000) [] (Some (paid 1 10000))) (lent (ascii "x"), tt)) })
  pub payroll_take_bytes :
      TellsOutcome (PayrollTakeSays (four κ)) (payroll (payroll_stream (payroll_state In 2 1 0 0) [] None) (lent (ascii "x"), tt))
      (record { answer = tt; exit = (payroll (payroll_stream (payroll_state In 2 1 0 0) (ascii "x") None) (lent (ascii "x"), tt)) })
      (record { answer = tt; exit = (all (without_bytes (payroll_kept (payroll_stream (payroll_state In 2 1 0 0) (ascii "x") None))) (lent (ascii "x"), tt)) })
  -- `lossivurn_payroll_stream_end`: a file that ends too early accepted; what waits let go
  pub payroll_end : OneKept (λ κs s. left s.0 s.1.0 s.1.1.0) PayrollEndSays
  pub payroll_end_early :
      TellsOutcome (PayrollEndSays (three κ)) (payroll (payroll_stream (payroll_state BehindA 3 2 1 10000) [] None) tt)
      (record { answer = tt; exit = (payroll (payroll_stream (payroll_state BehindA 3 2 1 10000) [] (Some (Err (refusal EndsTooEarly 4 0)))) tt) })
      (record { answer = tt; exit = (payroll (payroll_stream (payroll_state BehindA 3 2 1 10000) [] (Some (paid 1 10000))) tt) })
  pub payroll_end_held :
      TellsOutcome (PayrollEndSays (three κ)) (payroll (payroll_stream (payroll_state AtEnd 5 3 1 10000) (ascii "x") None) tt)
      (record { answer = tt; exit = (payroll (payroll_stream (payroll_state AtEnd 5 3 1 10000) (ascii "x") (Some (Err (refusal BytesAfterTheEnd 6 0)))) tt) })
      (record { answer = tt; exit = (payroll (payroll_stream (payroll_state AtEnd 5 3 1 10000) (ascii "x") (Some (paid 1 10000))) tt) })
  -- `lossivurn_payroll_stream_answer`: accepted before the end; a refusal that shows only at the end
  pub payroll_answer_lem : OneOutcome (λ κs s. s.1.1.1.0.now) PayrollAnswerSays
  pub payroll_answer_early :
      TellsOutcome (PayrollAnswerSays (three κ)) (asked (payroll_kept (payroll_stream (payroll_state AtEnd 5 3 1 10000) [] None)) (lent_mut (replicate 8 0), tt))
      (record { answer = tt; exit = (asked (payroll_kept (payroll_stream (payroll_state AtEnd 5 3 1 10000) [] None)) (lent_mut (progress_numbers None), tt)) })
      (record { answer = tt; exit = (asked (payroll_kept (payroll_stream (payroll_state AtEnd 5 3 1 10000) [] None)) (lent_mut (progress_numbers (Some (paid 1 10000))), tt)) })
  pub payroll_answer_late :
      TellsOutcome (PayrollAnswerSays (three κ)) (asked (payroll_kept (payroll_stream (payroll_state (Stopped (refusal WrongWidth 3 0)) 2 1 0 0) [] None)) (lent_mut (replicate 8 0), tt))
      (record { answer = tt; exit = (asked (payroll_kept (payroll_stream (payroll_state (Stopped (refusal WrongWidth 3 0)) 2 1 0 0) [] None)) (lent_mut (progress_numbers (Some (Err (refusal WrongWidth 3 0)))), tt)) })
      (record { answer = tt; exit = (asked (payroll_kept (payroll_stream (payroll_state (Stopped (refusal WrongWidth 3 0)) 2 1 0 0) [] None)) (lent_mut (progress_numbers None), tt)) })
