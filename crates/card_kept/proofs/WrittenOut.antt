-- The state that records lead to, written out from them as whole numbers: one record more makes of it what the record makes of the run, kind by kind.
use Prim.Native.Nat.{ℕ, suc}
use Prim.Native.String.{String}
use mathlib.Core.Path.{◌≡◌, refl, sym, ◌∙◌, ap, ap₂}
use mathlib.Core.List.{List, [], ◌∷◌, ◌++◌, foldl-append, append-nil, append_assoc}
use mathlib.Core.Bool.{Bool, true, false, cond}
use native.Mathlib.Omega.{arith}
use lib.ListN.{length, length-append}
use Rattle.text.specs.Literal.{ascii, same_bytes}
use Rattle.text.specs.Part.{positions}
use Rattle.totals.specs.TwoSets.{sets_of}
use Rattle.card_record.specs.declared.kind.Kind.{Kind}
use Rattle.card_record.specs.declared.kind.Kind.TheVariants.{A0, L0, Cv, Aj, L9, A9}
use Rattle.card_record.specs.Kind.{kind_of}
use Rattle.card_run.specs.declared.running.Running.{Running}
use Rattle.card_run.specs.Running.{numbers_of}
use Rattle.card_run.specs.declared.stage.Stage.{Stage}
use Rattle.card_run.specs.declared.stage.Stage.TheVariants.{Start, InBatch}
use Rattle.card_kept.specs.Fields.{number_at}
use Rattle.card_kept.specs.Kept.{Transaction, sale, adjustment, sum_over, is_forecast, is_settled, is_credit, is_debit, picked}
use Rattle.card_kept.specs.Numbers.{plain_totals, plain_adjusted}
use Rattle.card_kept.specs.State.{stage_behind, stage_after, is_a, in_header, how_many, as_transaction, transactions_in, since_header, plain_batch, plain_state}
use Rattle.card_kept.proofs.RecordsKept.{name_of}
use Rattle.card_kept.proofs.Transactions.{same_batch, picked_adjusted, added_row, taken_row}
use Rattle.card_kept.proofs.TwoSets.{same_sets, picked_totals}
use Rattle.card_kept.proofs.PlainSteps.{same_at, behind_one, behind_plain}
use Rattle.std.specs.Prelude.{Some}

-- a state by its parts, with all transactions and those of the open batch; that of records is one of these
abbrev written_out : ℕ → Stage → ℕ → ℕ → ℕ → ℕ → List Transaction → List Transaction → Running
written_out edition stage date movement records batches all in_batch_lem =
    record {
      stage = stage;
      edition = edition;
      numbers =
          numbers_of date movement records batches
          (sets_of (plain_totals (picked is_forecast all)) (plain_totals (picked is_settled all)))
          (plain_adjusted (picked is_credit all))
          (plain_adjusted (picked is_debit all));
      batch = plain_batch in_batch_lem;
    }

-- one state, written out from the same
same_written : (edition : ℕ) {s s' : Stage} {d d' m m' n n' b b' : ℕ} {ts ts' us us' : List Transaction} → s ≡ s' → d ≡ d' → m ≡ m' → n ≡ n' → b ≡ b' →
    ts ≡ ts' → us ≡ us' → written_out edition s d m n b ts us ≡ written_out edition s' d' m' n' b' ts' us'
same_written edition s d m n b ts us = λ i. written_out edition (s i) (d i) (m i) (n i) (b i) (ts i) (us i)

-- one record more, of a name or of another
count_if : (t u : Bool) (n : ℕ) → cond t (suc (cond u (suc n) n)) (cond u (suc n) n) ≡ cond u (suc (cond t (suc n) n)) (cond t (suc n) n)
count_if true true n = refl
count_if true false n = refl
count_if false true n = refl
count_if false false n = refl

how_many_more : (name : String) (rs : List (List ℕ)) (r : List ℕ) → how_many name (rs ++ (r ∷ [])) ≡ cond (is_a name r) (suc (how_many name rs)) (how_many name rs)
unfolding how_many
how_many_more name [] r = refl
how_many_more name (x ∷ rs) r =
    ap (λ (n : ℕ). cond (is_a name x) (suc n) n) (how_many_more name rs r) ∙ count_if (is_a name x) (is_a name r) (how_many name rs)

-- and the transactions with it
transactions_more : (rs : List (List ℕ)) (r : List ℕ) → transactions_in (rs ++ (r ∷ [])) ≡ transactions_in rs ++ as_transaction r
unfolding transactions_in
transactions_more [] r = append-nil (as_transaction r)
transactions_more (x ∷ rs) r =
    ap (λ ts. as_transaction x ++ ts) (transactions_more rs r) ∙ sym (append_assoc (as_transaction x) (transactions_in rs) (as_transaction r))

-- a record of a name, as a transaction, and as one that begins a batch or not
abbrev one_named : List ℕ → List ℕ → List Transaction
one_named name r = cond (same_bytes name (ascii "CV")) (sale r ∷ []) (cond (same_bytes name (ascii "AJ")) (adjustment r ∷ []) [])

since_more : (rs : List (List ℕ)) (r : List ℕ) (opens : Bool) →
    transactions_in (cond opens [] (rs ++ (r ∷ []))) ≡ cond opens [] (transactions_in rs ++ as_transaction r)
unfolding transactions_in
since_more rs r true = refl
since_more rs r false = transactions_more rs r

-- the state written out with one record more, of a name, that leads to a stage
abbrev grown : ℕ → List (List ℕ) → List ℕ → List ℕ → Stage → Running
grown edition seen r name stage =
    written_out edition stage
    (cond (same_bytes name (ascii "A0")) (number_at 9 16 r) (in_header 9 16 seen))
    (cond (same_bytes name (ascii "A0")) (number_at 23 28 r) (in_header 23 28 seen))
    (suc (length seen))
    (cond (same_bytes name (ascii "L9")) (suc (how_many "L9" seen)) (how_many "L9" seen))
    (transactions_in seen ++ one_named name r)
    (cond (same_bytes name (ascii "L0")) [] (transactions_in (since_header seen) ++ one_named name r))

is_grown : (edition : ℕ) (seen : List (List ℕ)) (r : List ℕ) →
    plain_state edition (seen ++ (r ∷ [])) ≡ grown edition seen r (positions 1 2 r) (stage_behind (stage_after seen) (kind_of r))
is_grown edition seen r =
    let one = r ∷ [] in
    same_written edition
    (foldl-append _ Start seen one)
    (foldl-append _ 0 seen one)
    (foldl-append _ 0 seen one)
    (length-append seen one ∙ omega arith)
    (how_many_more "L9" seen r)
    (transactions_more seen r)
    (ap transactions_in (foldl-append _ [] seen one) ∙ since_more (since_header seen) r (is_a "L0" r))

-- behind one transaction more
one_written : (edition : ℕ) (s : Stage) {d m n b : ℕ} (ts us : List Transaction) (t : Transaction) →
    written_out edition InBatch d m (suc n) b (ts ++ (t ∷ [])) (us ++ (t ∷ [])) ≡ behind_one (written_out edition s d m n b ts us) t
one_written edition s {d} {m} {n} {b} ts us t =
    let one = t ∷ [] in
    same_at (written_out edition s d m n b ts us) refl refl refl
    (same_sets (picked_totals is_forecast ts one) (picked_totals is_settled ts one))
    (picked_adjusted is_credit ts one)
    (picked_adjusted is_debit ts one)
    (same_batch (length-append us one) (added_row us one) (taken_row us one))

-- behind a record of each kind: a sale and an adjustment are a transaction more, any other is none, and behind L0 the batch has none at all
grown_is : (edition : ℕ) (seen : List (List ℕ)) (r : List ℕ) (kind : Kind) →
    grown edition seen r (ascii (name_of kind)) (stage_behind (stage_after seen) (Some kind)) ≡ behind_plain kind (plain_state edition seen) r
unfolding same_bytes picked sum_over
grown_is edition seen r kind = by kind (append-nil (transactions_in seen)) (append-nil (transactions_in (since_header seen)))
  where
    by : (kind : Kind) → transactions_in seen ++ [] ≡ transactions_in seen → transactions_in (since_header seen) ++ [] ≡ transactions_in (since_header seen) →
        grown edition seen r (ascii (name_of kind)) (stage_behind (stage_after seen) (Some kind)) ≡ behind_plain kind (plain_state edition seen) r
    by A0 all batch = same_written edition refl refl refl refl refl all batch
    by L0 all batch = same_written edition {us = []} {us' = []} refl refl refl refl refl all refl
    by Cv all batch = one_written edition (stage_after seen) (transactions_in seen) (transactions_in (since_header seen)) (sale r)
    by Aj all batch = one_written edition (stage_after seen) (transactions_in seen) (transactions_in (since_header seen)) (adjustment r)
    by L9 all batch = same_written edition refl refl refl refl refl all batch
    by A9 all batch = same_written edition refl refl refl refl refl all batch

-- so one record more, of a kind, makes of the state what it makes of the run
pub one_more : (edition : ℕ) (seen : List (List ℕ)) (r : List ℕ) (kind : Kind) → kind_of r ≡ Some kind → positions 1 2 r ≡ ascii (name_of kind) →
    behind_plain kind (plain_state edition seen) r ≡ plain_state edition (seen ++ (r ∷ []))
one_more edition seen r kind known named =
    sym (is_grown edition seen r ∙ ap₂ (λ name found. grown edition seen r name (stage_behind (stage_after seen) found)) named known ∙ grown_is edition seen r kind)
