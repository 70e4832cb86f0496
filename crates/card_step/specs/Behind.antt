-- The state behind a record that keeps the rules. "An accepted file answers: A0 date, movement, records, batches, sales (CV records), and the totals of payable gross,
-- discount and net", in "two sets of totals, forecast (launch type 0) and settled (1 and 2), each with its own count of sales"; "Credits and debits each get a count and a
-- total of net of their own, kept apart from sales".
use Rattle.std.specs.Prelude.{ℕ, Bool, cond}
use Rattle.totals.specs.declared.amounts.Totals.{Totals}
use Rattle.totals.specs.Sum.{capped}
use Rattle.totals.specs.Amounts.{one_sale}
use Rattle.totals.specs.TwoSets.{one_sale_more}
use Rattle.card_sale.specs.declared.cv.Cv.{Cv}
use Rattle.card_sale.specs.Cv.{is_forecast, payable}
use Rattle.card_adjustment.specs.declared.aj.Aj.{Aj}
use Rattle.card_adjustment.specs.Aj.{is_credit}
use Rattle.card_frame.specs.declared.a0.A0.{A0}
use Rattle.card_record.specs.declared.reading.Reading.{Reading}
use Rattle.card_record.specs.declared.reading.Reading.TheVariants.{
  Unknown as unknown,
  Faulty as faulty,
  A0 as a0,
  L0 as l0,
  Cv as cv,
  Aj as aj,
  L9 as l9,
  A9 as a9,
}
use Rattle.card_run.specs.declared.answer.Accepted.{Accepted}
use Rattle.card_run.specs.declared.running.Running.{Running}
use Rattle.card_run.specs.declared.stage.Stage.TheVariants.{BetweenBatches, InBatch, Ended}
use Rattle.card_run.specs.Adjusted.{one_adjustment_more}
use Rattle.card_run.specs.Batch.{no_transaction, one_added, one_taken}
use Rattle.card_run.specs.Running.{numbers_of, moved}

-- the numbers with one record more
abbrev pub counted : Accepted → Accepted
counted n = numbers_of n.date n.movement (capped n.records 1) n.batches n.totals n.credits n.debits

-- with the date and the movement of A0
abbrev pub headed : A0 → Accepted → Accepted
headed r n = numbers_of r.date r.movement n.records n.batches n.totals n.credits n.debits

-- with one sale more, forecast or settled
abbrev pub sold : Bool → Totals → Accepted → Accepted
sold forecast sale n =
    numbers_of n.date n.movement n.records n.batches (one_sale_more forecast sale n.totals) n.credits n.debits

-- with one credit more, of a net
abbrev pub credited : ℕ → Accepted → Accepted
credited net n = numbers_of n.date n.movement n.records n.batches n.totals (one_adjustment_more net n.credits) n.debits

-- with one debit more
abbrev pub debited : ℕ → Accepted → Accepted
debited net n = numbers_of n.date n.movement n.records n.batches n.totals n.credits (one_adjustment_more net n.debits)

-- with one batch more
abbrev pub one_batch_more : Accepted → Accepted
one_batch_more n = numbers_of n.date n.movement n.records (capped n.batches 1) n.totals n.credits n.debits

abbrev pub behind_a0 : A0 → Running → Running
behind_a0 r st = moved BetweenBatches (headed r (counted st.numbers)) st.batch st

-- a batch of no transaction
abbrev pub behind_l0 : Running → Running
behind_l0 st = moved InBatch (counted st.numbers) no_transaction st

-- one sale more, of what is payable, in the set of its launch type. "L9 and A9 are checked as before": whichever set it is, the batch adds its gross, which L9 names: "A sum is of the payable amount that it names, or of payable net if it names none"
abbrev pub behind_sale : Cv → Running → Running
behind_sale r st =
    moved InBatch (sold (is_forecast r) (one_sale (payable r)) (counted st.numbers)) (one_added (payable r).gross st.batch) st

-- one adjustment more: "An AJ enters a sum of both with its net, a debit subtracted"
abbrev pub behind_adjustment : Aj → Running → Running
behind_adjustment r st =
    cond (is_credit r)
    (moved InBatch (credited r.amounts.net (counted st.numbers)) (one_added r.amounts.net st.batch) st)
    (moved InBatch (debited r.amounts.net (counted st.numbers)) (one_taken r.amounts.net st.batch) st)

abbrev pub behind_l9 : Running → Running
behind_l9 st = moved BetweenBatches (one_batch_more (counted st.numbers)) st.batch st

abbrev pub behind_a9 : Running → Running
behind_a9 st = moved Ended (counted st.numbers) st.batch st

unfoldable pub behind : Running → Reading → Running
behind st unknown = st
behind st (faulty kind fault) = st
behind st (a0 r) = behind_a0 r st
behind st (l0 r) = behind_l0 st
behind st (cv r) = behind_sale r st
behind st (aj r) = behind_adjustment r st
behind st (l9 r) = behind_l9 st
behind st (a9 r) = behind_a9 st
