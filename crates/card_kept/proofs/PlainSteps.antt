-- What a record that keeps the rules makes of a run, as whole numbers: NSEQ has six digits, so no count and no sum is capped.
-- Kind by kind, and then as one law: such a record is taken, and no other.
use Prim.Native.Nat.{ℕ, suc, ◌+◌, ◌*◌, ◌^◌, ◌≤◌, ◌<◌}
use mathlib.Core.Path.{◌≡◌, refl, sym, ◌∙◌, ap, subst}
use mathlib.Core.Logic.{◌⊎◌, inl, inr}
use mathlib.Core.List.{List, [], ◌∷◌, ◌++◌}
use mathlib.Core.Bool.{true}
use native.Mathlib.Omega.{arith}
use borrow.Author.Tests.{eq-eqb, ne_eqb}
use Rattle.lines.specs.Lines.{no_lf}
use Rattle.totals.specs.declared.two_sets.TwoSets.{TwoSets}
use Rattle.totals.specs.Sum.{capped}
use Rattle.totals.specs.TwoSets.{summed}
use Rattle.totals.proofs.Totals.{gross, figure_of}
use Rattle.card_content.specs.declared.content.Content.TheVariants.{Digits, Day}
use Rattle.card_content.specs.Field.{field}
use Rattle.card_record.specs.declared.kind.Kind.{Kind}
use Rattle.card_record.specs.declared.kind.Kind.TheVariants.{A0, L0, Cv, Aj, L9, A9}
use Rattle.card_record.specs.Reading.{right_reading}
use Rattle.card_run.specs.declared.adjusted.Adjusted.{Adjusted}
use Rattle.card_run.specs.declared.batch.OpenBatch.{OpenBatch}
use Rattle.card_run.specs.declared.stage.Stage.{Stage}
use Rattle.card_run.specs.declared.stage.Stage.TheVariants.{BetweenBatches, InBatch, Ended}
use Rattle.card_run.specs.declared.running.Running.{Running}
use Rattle.card_run.specs.Stage.{placed}
use Rattle.card_run.specs.Adjusted.{one_adjustment_more}
use Rattle.card_run.specs.Batch.{no_transaction}
use Rattle.card_run.specs.Running.{numbers_of, next_number, moved}
use Rattle.card_step.specs.Behind.{behind, behind_adjustment}
use Rattle.card_file.specs.Feeding.{fed_of}
use Rattle.card_kept.specs.Fields.{number_at}
use Rattle.card_kept.specs.Adjustment.{adjustment_type, adjustment_net}
use Rattle.card_kept.specs.Sale.{payable_gross}
use Rattle.card_kept.specs.Kept.{Transaction, sale, adjustment, sum_over, is_credit, is_debit, picked}
use Rattle.card_kept.specs.Numbers.{plain_adjusted}
use Rattle.card_kept.proofs.FieldsKept.{plain_number_lem}
use Rattle.card_kept.proofs.Adjustments.{credit_or_debit, plain_aj, plain_aj_lem, net_below}
use Rattle.card_kept.proofs.PlainTotals.{sold_alone, Within, sold_is, sold_within, more_within, none_within}
use Rattle.card_kept.proofs.Transactions as many
use Rattle.card_kept.proofs.TwoSets.{with_sales, sets_none, sets_row_lem, parted_sale, parted_adjustment, one_sale_more_lem, sets_within}
use Rattle.card_kept.proofs.Transactions.{
  with_transactions,
  same_batch,
  same_adjusted,
  adjusted_row,
  AdjustedWithin,
  BatchWithin,
  one_within,
  adjusted_more,
  adjusted_still,
  batch_still,
}
use Rattle.card_kept.proofs.Next.{NextKept, number_small, kept_right, kept_joined, joined_next}
use Rattle.card_kept.proofs.Steps.{Alive, goes_on, went}

-- a state of the same file
abbrev pub at : Running → Stage → ℕ → ℕ → TwoSets → Adjusted → Adjusted → OpenBatch → Running
at st stage records batches totals credits debits batch =
    moved stage (numbers_of st.numbers.date st.numbers.movement records batches totals credits debits) batch st

pub same_at : (st : Running) {s s' : Stage} {n n' b b' : ℕ} {t t' : TwoSets} {c c' d d' : Adjusted} {u u' : OpenBatch} →
    s ≡ s' → n ≡ n' → b ≡ b' → t ≡ t' → c ≡ c' → d ≡ d' → u ≡ u' → at st s n b t c d u ≡ at st s' n' b' t' c' d' u'
same_at st p n b t c d u = λ i. at st (p i) (n i) (b i) (t i) (c i) (d i) (u i)

-- with these transactions more, which lead to a stage, and to so many records and batches
abbrev pub after : Running → Stage → ℕ → ℕ → List Transaction → OpenBatch → Running
after st stage records batches ts batch =
    at st stage records batches
    (with_sales st.numbers.totals ts)
    (many.plus st.numbers.credits (plain_adjusted (picked is_credit ts)))
    (many.plus st.numbers.debits (plain_adjusted (picked is_debit ts)))
    batch

pub same_after : (st : Running) (ts : List Transaction) {s s' : Stage} {n n' b b' : ℕ} {u u' : OpenBatch} → s ≡ s' → n ≡ n' → b ≡ b' → u ≡ u' →
    after st s n b ts u ≡ after st s' n' b' ts u'
same_after st ts p n b u = same_at st p n b refl refl refl u

-- none
pub after_none : (st : Running) (stage : Stage) (records batches : ℕ) (batch : OpenBatch) →
    at st stage records batches st.numbers.totals st.numbers.credits st.numbers.debits batch ≡ after st stage records batches [] batch
unfolding picked sum_over
after_none st stage records batches batch =
    same_at st refl refl refl
    (sym (sets_none st.numbers.totals))
    (sym (many.plus_none st.numbers.credits))
    (sym (many.plus_none st.numbers.debits))
    refl

-- and one row behind another, whichever stage, counts and batch stood between them
pub after_row : (st : Running) {s : Stage} {n b : ℕ} (ts us : List Transaction) {u : OpenBatch} →
    after (after st s n b ts u) s n b us u ≡ after st s n b (ts ++ us) u
after_row st ts us =
    same_at st refl refl refl
    (sets_row_lem st.numbers.totals ts us)
    (adjusted_row is_credit st.numbers.credits ts us)
    (adjusted_row is_debit st.numbers.debits ts us)
    refl

-- behind one transaction
abbrev pub behind_one : Running → Transaction → Running
behind_one st t = after st InBatch (suc st.numbers.records) st.numbers.batches (t ∷ []) (with_transactions st.batch (t ∷ []))

-- behind a record of each kind
abbrev pub behind_plain : Kind → Running → List ℕ → Running
behind_plain A0 st r =
    moved BetweenBatches
    (numbers_of (number_at 9 16 r) (number_at 23 28 r) (suc st.numbers.records) st.numbers.batches st.numbers.totals st.numbers.credits st.numbers.debits)
    st.batch st
behind_plain L0 st r =
    at st InBatch (suc st.numbers.records) st.numbers.batches st.numbers.totals st.numbers.credits st.numbers.debits no_transaction
behind_plain Cv st r = behind_one st (sale r)
behind_plain Aj st r = behind_one st (adjustment r)
behind_plain L9 st r =
    at st BetweenBatches (suc st.numbers.records) (suc st.numbers.batches) st.numbers.totals st.numbers.credits st.numbers.debits st.batch
behind_plain A9 st r =
    at st Ended (suc st.numbers.records) st.numbers.batches st.numbers.totals st.numbers.credits st.numbers.debits st.batch

-- how large a run's numbers are: there are fewer than 10^6 records, and of each an amount of at most 10^11
pub record Small (st : Running) : Type 0 where
  pub records : st.numbers.records < 10 ^ 6
  pub batches : st.numbers.batches ≤ st.numbers.records
  pub totals : Within st.numbers.records (summed st.numbers.totals)
  pub credits : AdjustedWithin st.numbers.records st.numbers.credits
  pub debits : AdjustedWithin st.numbers.records st.numbers.debits
  -- a record is a sale or a credit, so that what is added of both has that bound too
  pub added : (summed st.numbers.totals).amounts.gross + st.numbers.credits.net ≤ 10 ^ 11 * st.numbers.records
  pub batch : BatchWithin st.numbers.records st.batch

module _ (st : Running) (r : List ℕ) (small : Small st) where
  next_number_lem : next_number st ≡ suc st.numbers.records
  next_number_lem = omega (arith, small.records)

  -- nothing is capped: behind a sale,
  sale_is : NextKept Cv st r → behind st (right_reading Cv r) ≡ behind_one st (sale r)
  unfolding behind right_reading figure_of picked sum_over
  sale_is k =
      let fields = k.kind.fields in
      let is = sold_is st.edition r fields in
      let within = sold_within st.edition r fields in
      let totals = one_sale_more_lem st.edition r fields st.numbers.totals small.records small.totals in
      let count : capped st.batch.transactions 1 ≡ st.batch.transactions + 1 = omega (arith, small.records, small.batch.transactions) in
      let sum : capped st.batch.added (payable_gross r) ≡ st.batch.added + (payable_gross r + 0 + 0) =
      omega (arith, small.records, small.batch.added, within gross) in
      same_at st refl next_number_lem refl totals (sym (many.plus_none st.numbers.credits)) (sym (many.plus_none st.numbers.debits))
      (same_batch count (ap (λ t. capped st.batch.added t.amounts.gross) is ∙ sum) (omega arith))

  -- behind an adjustment,
  module _ (below : adjustment_net r < 10 ^ 11) where
    one_more : (a : Adjusted) → AdjustedWithin st.numbers.records a → one_adjustment_more (adjustment_net r) a ≡ many.plus a (plain_adjusted (r ∷ []))
    unfolding sum_over
    one_more a within = same_adjusted (omega (arith, small.records, within.count)) (omega (arith, small.records, within.net))

    adjusted_is : (adjustment_type r ≡ 1) ⊎ (adjustment_type r ≡ 2) → behind_adjustment (plain_aj r) st ≡ behind_one st (adjustment r)
    unfolding picked sum_over
    adjusted_is (inl credit) =
        let no-debit : adjustment_type r ≡ 2 → ⊥ = λ e. omega arith in
        let count : capped st.batch.transactions 1 ≡ st.batch.transactions + 1 = omega (arith, small.records, small.batch.transactions) in
        let sum : capped st.batch.added (adjustment_net r) ≡ st.batch.added + (0 + (adjustment_net r + 0)) =
        omega (arith, small.records, small.batch.added) in
        rw (eq-eqb _ _ credit, ne_eqb _ _ no-debit)
        (same_at st refl next_number_lem refl (sym (sets_none st.numbers.totals)) (one_more st.numbers.credits small.credits)
        (sym (many.plus_none st.numbers.debits)) (same_batch count sum (omega arith)))
    adjusted_is (inr debit) =
        let no-credit : adjustment_type r ≡ 1 → ⊥ = λ e. omega arith in
        let count : capped st.batch.transactions 1 ≡ st.batch.transactions + 1 = omega (arith, small.records, small.batch.transactions) in
        let sum : capped st.batch.taken (adjustment_net r) ≡ st.batch.taken + (adjustment_net r + 0) =
        omega (arith, small.records, small.batch.taken) in
        rw (eq-eqb _ _ debit, ne_eqb _ _ no-credit)
        (same_at st refl next_number_lem refl (sym (sets_none st.numbers.totals)) (sym (many.plus_none st.numbers.credits))
        (one_more st.numbers.debits small.debits) (same_batch count (omega arith) sum))

  -- and behind every kind
  behind_is : (kind : Kind) → NextKept kind st r → behind st (right_reading kind r) ≡ behind_plain kind st r
  unfolding behind right_reading
  behind_is A0 k =
      let n = next_number_lem in
      let d = plain_number_lem (field 9 16 Day) r refl k.fields.1.0.0 in
      let m = plain_number_lem (field 23 28 Digits) r refl k.fields.1.1.1.0 in
      λ i. moved BetweenBatches (numbers_of (d i) (m i) (n i) st.numbers.batches st.numbers.totals st.numbers.credits st.numbers.debits) st.batch st
  behind_is L0 k = same_at st refl next_number_lem refl refl refl refl refl
  behind_is Cv k = sale_is k
  behind_is Aj k =
      let fields = k.kind.fields in
      ap (λ a. behind_adjustment a st) (plain_aj_lem st.edition r fields) ∙
      adjusted_is (net_below st.edition r fields) (credit_or_debit st.edition r fields)
  behind_is L9 k =
      let b : capped st.numbers.batches 1 ≡ suc st.numbers.batches = omega (arith, small.records, small.batches) in
      same_at st refl next_number_lem b refl refl refl refl
  behind_is A9 k = same_at st refl next_number_lem refl refl refl refl refl

  -- and the numbers are as small as before: behind a record that adds nothing,
  still : {stage : Stage} {date movement batches : ℕ} {batch : OpenBatch} → suc st.numbers.records < 10 ^ 6 → batches ≤ suc st.numbers.records →
      BatchWithin (suc st.numbers.records) batch →
      Small
      (moved stage
      (numbers_of date movement (suc st.numbers.records) batches st.numbers.totals st.numbers.credits st.numbers.debits)
      batch st)
  still n b u =
      record {
        records = n;
        batches = b;
        totals = more_within st.numbers.records (summed st.numbers.totals) small.totals;
        credits = adjusted_still small.credits;
        debits = adjusted_still small.debits;
        added = omega (arith, small.added);
        batch = u;
      }

  -- behind a sale,
  sale_small : suc st.numbers.records < 10 ^ 6 → NextKept Cv st r → Small (behind_one st (sale r))
  unfolding figure_of picked sum_over
  sale_small n k =
      let within = sold_within st.edition r k.kind.fields in
      let parted = parted_sale st.edition r k.kind.fields in
      record {
        records = n;
        batches = omega (arith, small.batches);
        totals = sets_within st.numbers.records st.numbers.totals (sale r) parted (subst (Within 1) (sym (sold_alone r)) within) small.totals;
        credits = adjusted_more small.credits many.none_within;
        debits = adjusted_more small.debits many.none_within;
        added = omega (arith, small.added, within gross, ap (λ t. t.amounts.gross) parted);
        batch = record {
          transactions = omega (arith, small.batch.transactions);
          added = omega (arith, small.batch.added, within gross);
          taken = omega (arith, small.batch.taken);
        };
      }

  -- behind an adjustment,
  adjusted_small : suc st.numbers.records < 10 ^ 6 → NextKept Aj st r → Small (behind_one st (adjustment r))
  unfolding picked sum_over
  adjusted_small n k =
      let below = net_below st.edition r k.kind.fields in
      let at_most : adjustment_net r ≤ 10 ^ 11 = omega arith in
      let credit = one_within is_credit (adjustment r) at_most in
      let debit = one_within is_debit (adjustment r) at_most in
      record {
        records = n;
        batches = omega (arith, small.batches);
        totals = sets_within st.numbers.records st.numbers.totals (adjustment r) (parted_adjustment r) (none_within 1) small.totals;
        credits = adjusted_more small.credits credit;
        debits = adjusted_more small.debits debit;
        added = omega (arith, small.added, credit.net);
        batch = record {
          transactions = omega (arith, small.batch.transactions);
          added = omega (arith, small.batch.added, credit.net);
          taken = omega (arith, small.batch.taken, debit.net);
        };
      }

  -- and behind every kind
  pub still_small : (kind : Kind) → NextKept kind st r → Small (behind_plain kind st r)
  still_small kind k = by kind k (number_small kind st r k)
    where
      by : (kind : Kind) → NextKept kind st r → suc st.numbers.records < 10 ^ 6 → Small (behind_plain kind st r)
      by A0 k n = still n (omega (arith, small.batches)) (batch_still small.batch)
      by L0 k n = still n (omega (arith, small.batches)) (record { transactions = omega arith; added = omega arith; taken = omega arith })
      by Cv k n = sale_small n k
      by Aj k n = adjusted_small n k
      by L9 k n = still n (omega (arith, small.batches)) (batch_still small.batch)
      by A9 k n = still n (omega (arith, small.batches)) (batch_still small.batch)

  -- a record of a kind that may stand there, and that keeps the rules, is taken
  pub step : (kind : Kind) → placed st.stage kind ≡ true → NextKept kind st r → fed_of st r ≡ behind_plain kind st r
  step kind place k =
      goes_on kind st r (record { place = place; right = kept_right kind st r k; joined = kept_joined st r next_number_lem kind k }) ∙ behind_is kind k

-- and no other
pub record Stepped (st : Running) (r : List ℕ) : Type 0 where
  pub kind : Kind
  pub place : placed st.stage kind ≡ true
  pub kept : NextKept kind st r

pub stepped : (st : Running) (r : List ℕ) → Small st → no_lf r ≡ true → Alive (fed_of st r) → Stepped st r
stepped st r small line alive =
    let w = went st r alive in
    record {
      kind = w.kind;
      place = w.goes.place;
      kept = joined_next st r (next_number_lem st r small) line w.kind w.goes.right w.goes.joined;
    }
