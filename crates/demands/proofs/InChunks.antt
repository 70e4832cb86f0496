-- A file in chunks is the file, from the crates of the streams; a refusal before the end is that of the whole, since it stays while chunks come.
use Prim.Native.Nat.{ℕ}
use mathlib.Core.Path.{◌≡◌, sym, ◌∙◌, ap}
use mathlib.Core.List.{List, [], ◌∷◌, ◌++◌, foldl, foldl-append}
use Rattle.refusal.specs.declared.Refusal.{Refusal}
use Rattle.chunks.specs.Chunks.{joined_chunks}
use Rattle.card_file.specs.CardFile.{check_of}
use Rattle.card_stream.specs.Stream as card
use Rattle.card_stream.proofs.InChunks as CardStream
use Rattle.card_mask.proofs.InChunks.{copied_as_whole, accepted_copy_written}
use Rattle.adjustment_rows.proofs.InChunks.{tabled_as_whole}
use Rattle.payroll_file.specs.PayrollFile.{check_of as payroll_check_of}
use Rattle.payroll_stream.specs.Stream as payroll
use Rattle.payroll_stream.proofs.InChunks as PayrollStream
use Rattle.card_run.specs.Answer.{card_file_row}
use Rattle.card_run.proofs.FileRows as rows
use Rattle.payroll_file.specs.Answer as paper
use Rattle.payroll_stream.proofs.ProgressRows.{same_progress, is_answered}
use Rattle.demands.specs.InChunks.{card_taken, payroll_taken, AsTheWhole, AfterTheEnd}
use Rattle.demands.proofs.CardAfterEnd.{card_decided, card_ended_again, card_refused_lem, card_accepted}
use Rattle.demands.proofs.OnTheWay.{on_the_way_lem}
use Rattle.demands.proofs.PayrollAfterEnd.{payroll_decided, payroll_ended_again, payroll_refused_lem, payroll_accepted_lem}
use Rattle.payroll_file.specs.Answer.{PayrollAnswer}
use Rattle.std.specs.Prelude.{Err, None, Some}

-- an answer that no chunk changes is there after all of them
module _ {S A : Type 0} (taken : S → List ℕ → S) (answer : S → A) (r : A) (stays : (s : S) → answer s ≡ r → (chunk : List ℕ) → answer (taken s chunk) ≡ r) where
  pub after_all : (s : S) (chunks : List (List ℕ)) → answer s ≡ r → answer (foldl taken s chunks) ≡ r
  after_all s [] e = e
  after_all s (c ∷ cs) e = after_all (taken s c) cs (stays s e c)

card_refused_early : (edition : ℕ) (chunks more : List (List ℕ)) (x : Refusal) → card.answer_of (card_taken edition chunks) ≡ Some (Err x) →
    check_of edition (joined_chunks (chunks ++ more)) ≡ Some (Err x)
card_refused_early edition chunks more x e =
    let s = card_taken edition chunks in
    let later = after_all card.taken_of card.answer_of (Some (Err x)) (λ t f. (card_refused_lem t x f).0) s more e in
    sym (CardStream.chunks_as_whole edition (chunks ++ more)) ∙
    ap (λ t. card.answer_of (card.ended_of t)) (foldl-append card.taken_of (card.open_of edition) chunks more) ∙
    (card_refused_lem (foldl card.taken_of s more) x later).1

same_answer : {a b : PayrollAnswer} → Some a ≡ Some b → a ≡ b
same_answer e = cc

payroll_refused_early : (chunks more : List (List ℕ)) (x : Refusal) → payroll.answer_of (payroll_taken chunks) ≡ Some (Err x) →
    payroll_check_of (joined_chunks (chunks ++ more)) ≡ Err x
payroll_refused_early chunks more x e =
    let s = payroll_taken chunks in
    let later = after_all payroll.taken_of payroll.answer_of (Some (Err x)) (λ t f. (payroll_refused_lem t x f).0) s more e in
    same_answer
    (sym (PayrollStream.chunks_as_whole (chunks ++ more)) ∙
    ap (λ t. payroll.answer_of (payroll.ended_of t)) (foldl-append payroll.taken_of payroll.open_of chunks more) ∙
    (payroll_refused_lem (foldl payroll.taken_of s more) x later).1)

-- THE THEOREMS, said of the rows
pub as_the_whole : AsTheWhole
unfolding card_file_row paper.payroll_row payroll.progress_row
as_the_whole =
    record {
      card_file_lem = λ edition chunks. ap card_file_row (CardStream.chunks_as_whole edition chunks);
      payroll_file_lem = λ chunks. ap payroll.progress_row (PayrollStream.chunks_as_whole chunks);
      card_refused_early = λ edition chunks more x e. ap card_file_row (card_refused_early edition chunks more x (rows.same_answer _ (Some (Err x)) e));
      payroll_refused_early = λ chunks more x e. ap paper.payroll_row (payroll_refused_early chunks more x (same_progress _ (Some (Err x)) e));
      masked_copy = copied_as_whole;
      accepted_copy = λ edition chunks e. accepted_copy_written edition chunks _ (rows.is_accepted_lem _ e);
      csv = tabled_as_whole;
      on_the_way_lem = on_the_way_lem;
    }

pub after_the_end_lem : AfterTheEnd
unfolding card_file_row paper.payroll_row payroll.progress_row
after_the_end_lem =
    record {
      card_decided = λ s e. card_decided s (rows.same_answer _ None e);
      payroll_decided = λ s e. payroll_decided s (same_progress _ None e);
      card_ended_again = λ s. ap card_file_row (card_ended_again s);
      payroll_ended_again = payroll_ended_again;
      card_refused_lem = λ s x e.
          let stays = card_refused_lem s x (rows.same_answer _ (Some (Err x)) e) in
          (λ chunk. ap card_file_row (stays.0 chunk), ap card_file_row stays.1);
      payroll_refused_lem = λ s x e.
          let stays = payroll_refused_lem s x (same_progress _ (Some (Err x)) e) in
          (λ chunk. ap payroll.progress_row (stays.0 chunk), ap payroll.progress_row stays.1);
      card_accepted = λ s e.
          let is = rows.is_accepted_lem (card.answer_of s) e in
          let more = card_accepted s _ is in
          (ap card_file_row (more.0 ∙ sym is), λ b chunk. ap card_file_row (more.1 b chunk));
      payroll_accepted_lem = λ s e.
          let more = payroll_accepted_lem s _ (is_answered (payroll.answer_of s) e) in
          (more.0, λ b chunk. ap payroll.progress_row (more.1 b chunk));
    }
