-- What the pieces are that an accepted run still takes. By induction on them, at once for a run between batches and for one in a batch:
-- the next piece is a record that keeps the rules, and the run behind it says what the other pieces are.
use Prim.Native.Nat.{ℕ, suc, ◌+◌}
use mathlib.Core.Path.{◌≡◌, refl, sym, ◌∙◌, ap, subst}
use mathlib.Core.List.{List, [], ◌∷◌, ◌++◌, map, map-append, append_assoc}
use mathlib.Core.Bool.{true, false≢true}
use native.Mathlib.Omega.{arith}
use lib.ListN.{length, length-append, length-map}
use Rattle.text.proofs.Alphabets.{both_left, both_right}
use Rattle.lines.specs.Lines.{no_lf, all_no_lf, with_cr}
use Rattle.lines.proofs.Cuts.{with_cr_clear}
use Rattle.card_record.specs.declared.kind.Kind.{Kind}
use Rattle.card_record.specs.declared.kind.Kind.TheVariants.{A0, L0, Cv, Aj, L9, A9}
use Rattle.card_run.specs.declared.stage.Stage.{Stage}
use Rattle.card_run.specs.declared.stage.Stage.TheVariants.{BetweenBatches, InBatch}
use Rattle.card_run.specs.declared.running.Running.{Running}
use Rattle.card_run.specs.declared.answer.Accepted.{Accepted}
use Rattle.card_run.specs.declared.batch.OpenBatch.{OpenBatch}
use Rattle.card_run.specs.Batch.{no_transaction}
use Rattle.card_run.specs.Stage.{placed}
use Rattle.card_file.specs.Feeding.{fed_of}
use Rattle.card_kept.specs.Records.{L9Kept, A9Kept}
use Rattle.card_kept.specs.Kept.{
  Transaction,
  sale,
  adjustment,
  bytes_of,
  Batch,
  batch_records,
  batches_records,
  sum_over,
  picked,
  added,
  taken,
  TransactionKept,
  TransactionsKept,
  BatchesKept,
}
use Rattle.card_kept.proofs.Transactions.{added_row, taken_row, with_transactions}
use Rattle.card_kept.proofs.Next.{NextKept}
use Rattle.card_kept.proofs.PlainSteps.{behind_plain, Small, still_small, step, stepped}
use Rattle.card_kept.proofs.Refused.{EndsAccepted, piece, too_early, nothing_behind}
use Rattle.card_kept.proofs.Batches.{l9_at}

-- pieces and a rest are batches and A9, from a number on
pub record BatchesLeft (e n : ℕ) (ps : List (List ℕ)) (rest : List ℕ) : Type 0 where
  pub batches : List Batch
  pub a9 : List ℕ
  pub is : ps ≡ map with_cr (batches_records batches ++ (a9 ∷ []))
  pub none_left : rest ≡ []
  pub keep : BatchesKept e n batches
  pub last : A9Kept e (n + length (batches_records batches)) a9

-- they are transactions and L9, of a batch that is open, and then batches and A9
pub record TransactionsLeft (e n : ℕ) (open_batch_lem : OpenBatch) (ps : List (List ℕ)) (rest : List ℕ) : Type 0 where
  pub more : List Transaction
  pub l9 : List ℕ
  pub behind : List (List ℕ)
  pub is : ps ≡ map with_cr (map bytes_of more ++ (l9 ∷ [])) ++ behind
  pub keep : TransactionsKept e n more
  pub trailer :
      L9Kept (open_batch_lem.transactions + length more) (open_batch_lem.added + added more) (open_batch_lem.taken + taken more) e (n + length more) l9
  pub batches : BatchesLeft e (suc (n + length more)) behind rest

-- what an accepted run says of the pieces
abbrev pub SaysLeft : Running → List (List ℕ) → List ℕ → Type 0
SaysLeft st ps rest =
    (st.stage ≡ BetweenBatches → BatchesLeft st.edition (suc st.numbers.records) ps rest) ×
    (st.stage ≡ InBatch → TransactionsLeft st.edition (suc st.numbers.records) st.batch ps rest)

module _ (st : Running) (r : List ℕ) (ps : List (List ℕ)) (rest : List ℕ) (a : Accepted) (small : Small st) (taken : EndsAccepted (fed_of st r) ps rest a) where
  -- the run behind a record that keeps the rules
  pub went_on : (kind : Kind) → placed st.stage kind ≡ true → NextKept kind st r → EndsAccepted (behind_plain kind st r) ps rest a
  went_on kind place k = subst (λ s. EndsAccepted s ps rest a) (step st r small kind place k) taken

  -- an L0 and a batch, before others
  open_batch_lem : NextKept L0 st r → TransactionsLeft st.edition (suc (suc st.numbers.records)) no_transaction ps rest → BatchesLeft st.edition (suc st.numbers.records) (with_cr r ∷ ps) rest
  unfolding batches_records BatchesKept
  open_batch_lem k s =
      let b : Batch = record { l0 = r; transactions = s.more; l9 = s.l9 } in
      let records = map bytes_of s.more in
      let others = s.batches in
      let n = suc st.numbers.records in
      let l = length-append records (s.l9 ∷ []) in
      let count : suc (suc n + length s.more) ≡ n + length (batch_records b) = omega (arith, length-map s.more bytes_of) in
      let total : suc (suc n + length s.more) + length (batches_records others.batches) ≡ n + length (batch_records b ++ batches_records others.batches) =
      omega (arith, length-append (batch_records b) (batches_records others.batches), length-map s.more bytes_of) in
      record {
        batches = b ∷ others.batches;
        a9 = others.a9;
        is =
            ap (λ l. with_cr r ∷ l)
            (s.is ∙ ap (λ l. map with_cr (records ++ (s.l9 ∷ [])) ++ l) others.is ∙
            sym (map-append with_cr (records ++ (s.l9 ∷ [])) (batches_records others.batches ++ (others.a9 ∷ []))) ∙
            ap (map with_cr) (sym (append_assoc (records ++ (s.l9 ∷ [])) (batches_records others.batches) (others.a9 ∷ []))));
        none_left = others.none_left;
        keep = (
          record { l0 = k; transactions = s.keep; l9 = l9_at (omega arith) (omega arith) (omega arith) refl s.trailer },
          subst (λ m. BatchesKept st.edition m others.batches) count others.keep,
        );
        last = subst (λ m. A9Kept st.edition m others.a9) total others.last;
      }

  -- the trailer of the file
  close_file : NextKept A9 st r → placed st.stage A9 ≡ true → BatchesLeft st.edition (suc st.numbers.records) (with_cr r ∷ ps) rest
  unfolding batches_records BatchesKept
  close_file k place =
      let none = nothing_behind (behind_plain A9 st r) ps rest a refl (went_on A9 place k) in
      let number : suc st.numbers.records ≡ suc st.numbers.records + 0 = omega arith in
      record {
        batches = [];
        a9 = r;
        is = ap (λ l. with_cr r ∷ l) none.0;
        none_left = none.1;
        keep = tt;
        last = subst (λ m. A9Kept st.edition m r) number k;
      }

  -- one transaction more
  one_more : (t : Transaction) → TransactionKept st.edition (suc st.numbers.records) t →
      TransactionsLeft st.edition (suc (suc st.numbers.records)) (with_transactions st.batch (t ∷ [])) ps rest →
      TransactionsLeft st.edition (suc st.numbers.records) st.batch (with_cr (bytes_of t) ∷ ps) rest
  unfolding TransactionsKept
  one_more t k s =
      let n = suc st.numbers.records in
      let number : suc n + length s.more ≡ n + suc (length s.more) = omega arith in
      record {
        more = t ∷ s.more;
        l9 = s.l9;
        behind = s.behind;
        is = ap (λ l. with_cr (bytes_of t) ∷ l) s.is;
        keep = (k, s.keep);
        trailer = l9_at (omega arith) (omega (arith, added_row (t ∷ []) s.more)) (omega (arith, taken_row (t ∷ []) s.more)) number s.trailer;
        batches = subst (λ m. BatchesLeft st.edition (suc m) s.behind rest) number s.batches;
      }

  -- the trailer of a batch
  close_batch : NextKept L9 st r → BatchesLeft st.edition (suc (suc st.numbers.records)) ps rest →
      TransactionsLeft st.edition (suc st.numbers.records) st.batch (with_cr r ∷ ps) rest
  unfolding TransactionsKept picked sum_over
  close_batch k b =
      let number : suc st.numbers.records ≡ suc st.numbers.records + 0 = omega arith in
      record {
        more = [];
        l9 = r;
        behind = ps;
        is = refl;
        keep = tt;
        trailer = l9_at (omega arith) (omega arith) (omega arith) number k;
        batches = subst (λ m. BatchesLeft st.edition (suc m) ps rest) number b;
      }

  -- by the kind of the record
  module _ (others : (next : Running) → Small next → EndsAccepted next ps rest a → SaysLeft next ps rest) where
    follows : (kind : Kind) → placed st.stage kind ≡ true → NextKept kind st r → SaysLeft (behind_plain kind st r) ps rest
    follows kind place k = others (behind_plain kind st r) (still_small st r small kind k) (went_on kind place k)

    between : (kind : Kind) → placed st.stage kind ≡ true → placed BetweenBatches kind ≡ true → NextKept kind st r →
        BatchesLeft st.edition (suc st.numbers.records) (with_cr r ∷ ps) rest
    between A0 place p k = absurd (false≢true p)
    between L0 place p k = open_batch_lem k ((follows L0 place k).1 refl)
    between Cv place p k = absurd (false≢true p)
    between Aj place p k = absurd (false≢true p)
    between L9 place p k = absurd (false≢true p)
    between A9 place p k = close_file k place

    inside : (kind : Kind) → placed st.stage kind ≡ true → placed InBatch kind ≡ true → NextKept kind st r →
        TransactionsLeft st.edition (suc st.numbers.records) st.batch (with_cr r ∷ ps) rest
    inside A0 place p k = absurd (false≢true p)
    inside L0 place p k = absurd (false≢true p)
    inside Cv place p k = one_more (sale r) k ((follows Cv place k).1 refl)
    inside Aj place p k = one_more (adjustment r) k ((follows Aj place k).1 refl)
    inside L9 place p k = close_batch k ((follows L9 place k).0 refl)
    inside A9 place p k = absurd (false≢true p)

-- what the pieces of an accepted run are
pub says : (ps : List (List ℕ)) (rest : List ℕ) (a : Accepted) (st : Running) → all_no_lf ps ≡ true → Small st → EndsAccepted st ps rest a → SaysLeft st ps rest
unfolding all_no_lf
says [] rest a st clear small h =
    (λ q. absurd (too_early A9 st rest a (ap (λ s. placed s A9) q) h), λ q. absurd (too_early Cv st rest a (ap (λ s. placed s Cv) q) h))
says (p ∷ ps) rest a st clear small h =
    let one = piece st p ps rest a h in
    let r = one.bytes in
    let line : no_lf r ≡ true = sym (with_cr_clear r) ∙ ap no_lf (sym one.is) ∙ both_left (no_lf p) (all_no_lf ps) clear in
    let took = stepped st r small line one.goes in
    let others : (next : Running) → Small next → EndsAccepted next ps rest a → SaysLeft next ps rest =
    λ next s t. says ps rest a next (both_right (no_lf p) (all_no_lf ps) clear) s t in
    let at : (s : Stage) → st.stage ≡ s → placed s took.kind ≡ true = λ s q. ap (λ s. placed s took.kind) (sym q) ∙ took.place in (
      λ q. subst (λ p. BatchesLeft st.edition (suc st.numbers.records) (p ∷ ps) rest) (sym one.is)
          (between st r ps rest a small one.taken others took.kind took.place (at BetweenBatches q) took.kept),
      λ q. subst (λ p. TransactionsLeft st.edition (suc st.numbers.records) st.batch (p ∷ ps) rest) (sym one.is)
          (inside st r ps rest a small one.taken others took.kind took.place (at InBatch q) took.kept),
    )
