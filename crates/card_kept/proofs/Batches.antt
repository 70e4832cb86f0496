-- A run over transactions, and over batches, that keep the rules goes from one plain state to the next: by induction, with the state that they lead to written out.
use Prim.Native.Nat.{ℕ, suc, ◌+◌}
use mathlib.Core.Path.{◌≡◌, refl, sym, ◌∙◌, ap, subst}
use mathlib.Core.List.{List, [], ◌∷◌, ◌++◌, map}
use native.Mathlib.Omega.{arith}
use lib.ListN.{length, length-append, length-map}
use Rattle.lines.specs.Lines.{cr, with_cr}
use Rattle.lines.proofs.Ends.{cr_ends, before_last}
use Rattle.card_frame.specs.L9.{l9_table}
use Rattle.card_record.specs.declared.kind.Kind.TheVariants.{L0, Cv, Aj, L9}
use Rattle.card_run.specs.declared.stage.Stage.TheVariants.{BetweenBatches, InBatch}
use Rattle.card_run.specs.declared.batch.OpenBatch.{OpenBatch}
use Rattle.card_run.specs.declared.running.Running.{Running}
use Rattle.card_run.specs.Batch.{no_transaction}
use Rattle.card_run.specs.Stage.{placed}
use Rattle.card_file.specs.Feeding.{fed_of, fed_all}
use Rattle.card_file.specs.CardFile.{line_of, lines_of}
use Rattle.card_kept.specs.Fields.{number_at}
use Rattle.card_kept.specs.Records.{RecordOf, L9Kept}
use Rattle.card_kept.specs.Kept.{
  Transaction,
  sale,
  adjustment,
  bytes_of,
  Batch,
  batch_records,
  batches_records,
  sum_over,
  picked,
  TransactionKept,
  TransactionsKept,
  BatchKept,
  BatchesKept,
  batches_transactions,
}
use Rattle.card_kept.proofs.Transactions.{with_transactions, same_batch, batch_row}
use Rattle.card_kept.proofs.PlainSteps.{after, same_after, after_none, after_row, behind_one, behind_plain, Small, still_small, step}

-- records in a row
pub fed_row : (st : Running) (rs ss : List (List ℕ)) → fed_all st (rs ++ ss) ≡ fed_all (fed_all st rs) ss
unfolding fed_all
fed_row st [] ss = refl
fed_row st (r ∷ rs) ss = fed_row (fed_of st r) rs ss

-- a record with its CR is a line
line_is : (st : Running) (r : List ℕ) → line_of st (with_cr r) ≡ fed_of st r
line_is st r = rw (cr_ends r, before_last r cr)

pub lines_are : (st : Running) (rs : List (List ℕ)) → lines_of st (map with_cr rs) ≡ fed_all st rs
unfolding lines_of fed_all
lines_are st [] = refl
lines_are st (r ∷ rs) = ap (λ s. lines_of s (map with_cr rs)) (line_is st r) ∙ lines_are (fed_of st r) rs

-- a run that came to a state, whose numbers are small
pub record Comes (st end : Running) : Type 0 where
  pub is : st ≡ end
  pub small : Small end

-- the same state, written in another way
pub comes : {st end other : Running} → end ≡ other → Comes st end → Comes st other
comes e c = record { is = c.is ∙ e; small = subst Small e c.small }

-- a transaction, and several
taken_one : (t : Transaction) (st : Running) → Small st → st.stage ≡ InBatch → TransactionKept st.edition (suc st.numbers.records) t →
    Comes (fed_of st (bytes_of t)) (behind_one st t)
taken_one (sale r) st small q k = record { is = step st r small Cv (ap (λ s. placed s Cv) q) k; small = still_small st r small Cv k }
taken_one (adjustment r) st small q k = record { is = step st r small Aj (ap (λ s. placed s Aj) q) k; small = still_small st r small Aj k }

transactions_taken : (ts : List Transaction) (st : Running) → Small st → st.stage ≡ InBatch → TransactionsKept st.edition (suc st.numbers.records) ts →
    Comes (fed_all st (map bytes_of ts)) (after st InBatch (st.numbers.records + length ts) st.numbers.batches ts (with_transactions st.batch ts))
unfolding fed_all TransactionsKept picked sum_over
transactions_taken [] st small q k =
    comes
    (after_none st st.stage st.numbers.records st.numbers.batches st.batch ∙
    same_after st [] q (omega arith) refl (same_batch (omega arith) (omega arith) (omega arith)))
    (record { is = refl; small = small })
transactions_taken (t ∷ ts) st small q (k, ks) =
    let first = taken_one t st small q k in
    let rest = transactions_taken ts (behind_one st t) first.small refl ks in
    comes
    (after_row st (t ∷ []) ts ∙ same_after st (t ∷ ts) refl (omega arith) refl (batch_row st.batch (t ∷ []) ts))
    (record { is = ap (λ s. fed_all s (map bytes_of ts)) first.is ∙ rest.is; small = rest.small })

-- a trailer's numbers, written in another way
pub l9_at : {c c' a a' t t' n n' e : ℕ} {r : List ℕ} → c ≡ c' → a ≡ a' → t ≡ t' → n ≡ n' → L9Kept c a t e n r → L9Kept c' a' t' e n' r
l9_at {e = e} {r = r} c a t n k =
    record {
      kind = subst (λ m. RecordOf "L9" 28 l9_table 23 28 e m r) n k.kind;
      counts = k.counts ∙ c;
      sums = ap (λ (m : ℕ). number_at 9 22 r + m) (sym t) ∙ k.sums ∙ a;
    }

-- a batch
batch_taken : (b : Batch) (st : Running) → Small st → st.stage ≡ BetweenBatches → BatchKept st.edition (suc st.numbers.records) b →
    Comes (fed_all st (batch_records b))
    (after st BetweenBatches (st.numbers.records + length (batch_records b)) (suc st.numbers.batches) b.transactions (with_transactions no_transaction b.transactions))
unfolding fed_all
batch_taken b st small q k =
    let ts = b.transactions in
    let opened = behind_plain L0 st b.l0 in
    let first = step st b.l0 small L0 (ap (λ s. placed s L0) q) k.l0 in
    let many = transactions_taken ts opened (still_small st b.l0 small L0 k.l0) refl k.transactions in
    let full = after st InBatch (suc st.numbers.records + length ts) st.numbers.batches ts (with_transactions no_transaction ts) in
    let number : suc (suc st.numbers.records) + length ts ≡ suc (suc st.numbers.records + length ts) = omega arith in
    let trailer = l9_at {c' = full.batch.transactions} {a' = full.batch.added} {t' = full.batch.taken} (omega arith) (omega arith) (omega arith) number k.l9 in
    let last = step full b.l9 many.small L9 refl trailer in
    let count : suc (suc st.numbers.records + length ts) ≡ st.numbers.records + length (batch_records b) =
    omega (arith, length-append (map bytes_of ts) (b.l9 ∷ []), length-map ts bytes_of) in
    comes (same_after st ts refl count refl refl)
    (record {
      is =
          ap (λ s. fed_all s (map bytes_of ts ++ (b.l9 ∷ []))) first ∙ fed_row opened (map bytes_of ts) (b.l9 ∷ []) ∙ ap (λ s. fed_of s b.l9) many.is ∙ last;
      small = still_small full b.l9 many.small L9 trailer;
    })

-- batches, and what is left of the last one
unfoldable pub last_batch : OpenBatch → List Batch → OpenBatch
last_batch left [] = left
last_batch left (b ∷ bs) = last_batch (with_transactions no_transaction b.transactions) bs

pub batches_taken : (bs : List Batch) (st : Running) → Small st → st.stage ≡ BetweenBatches → BatchesKept st.edition (suc st.numbers.records) bs →
    Comes (fed_all st (batches_records bs))
    (after st BetweenBatches (st.numbers.records + length (batches_records bs)) (st.numbers.batches + length bs) (batches_transactions bs) (last_batch st.batch bs))
unfolding fed_all BatchesKept batches_records batches_transactions last_batch
batches_taken [] st small q k =
    comes
    (after_none st st.stage st.numbers.records st.numbers.batches st.batch ∙ same_after st [] q (omega arith) (omega arith) refl)
    (record { is = refl; small = small })
batches_taken (b ∷ bs) st small q (k, ks) =
    let first = batch_taken b st small q k in
    let next =
    after st BetweenBatches (st.numbers.records + length (batch_records b)) (suc st.numbers.batches) b.transactions (with_transactions no_transaction b.transactions) in
    let rest = batches_taken bs next first.small refl
    (subst (λ n. BatchesKept st.edition n bs) (omega arith) ks) in
    comes
    (after_row st b.transactions (batches_transactions bs) ∙
    same_after st (b.transactions ++ batches_transactions bs) refl (omega (arith, length-append (batch_records b) (batches_records bs))) (omega arith) refl)
    (record {
      is = fed_row st (batch_records b) (batches_records bs) ∙ ap (λ s. fed_all s (batches_records bs)) first.is ∙ rest.is;
      small = rest.small;
    })
