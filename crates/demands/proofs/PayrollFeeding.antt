-- FEEDING EQUALS THE WHOLE, of a payroll file. A file of records is cut into the records with their CR, so reading it whole takes them one by one.
-- After some of them: a run that was refused stays so, and any other is refused only at a later record, since a run counts its records.
use Prim.Native.Nat.{ℕ, suc, ◌+◌, ◌≤◌, ◌<◌}
use mathlib.Core.Path.{◌≡◌, refl, sym, ◌∙◌, ap, subst}
use mathlib.Core.Logic.{inl, inr}
use mathlib.Core.List.{List, [], ◌∷◌, ◌++◌, map}
use mathlib.Core.Bool.{Bool, true, false, cond, false≢true}
use native.Mathlib.Omega.{arith}
use lib.ListN.{length, length-map}
use lib.Dec.{leb}
use borrow.Author.Tests.{le-leb, lt-leb, ne_eqb}
use Rattle.refusal.specs.declared.Cause.TheVariants.{BytesAfterTheEnd}
use Rattle.refusal.specs.declared.Refusal.{Refusal}
use Rattle.refusal.specs.RefusalList.{number_of}
use Rattle.refusal.specs.Rules.{first_broken}
use Rattle.refusal.proofs.RefusalList.{from_one}
use Rattle.lines.specs.Lines.{Lines, cut, no_lf, all_no_lf, joined, with_cr}
use Rattle.lines.proofs.Cuts.{only_rest, cut_joined_then}
use Rattle.first_fault.specs.InTurn.{rest}
use Rattle.payroll_record.specs.Reading.{reading_of}
use Rattle.payroll_run.specs.declared.stage.Stage.{Stage}
use Rattle.payroll_run.specs.declared.stage.Stage.TheVariants.{Start, BetweenBatches, InBatch, BehindA, BehindB, Ended, Refused}
use Rattle.payroll_run.specs.declared.running.Running.{Running}
use Rattle.payroll_run.specs.State.{opened, next_number, refusal_at}
use Rattle.payroll_step.specs.Step.{took_at}
use Rattle.payroll_file.specs.declared.answer.Accepted.{Accepted as PayrollNumbers}
use Rattle.payroll_file.specs.Answer.{going_on_row, refused_row, payroll_row, PayrollAnswer}
use Rattle.payroll_stream.specs.Stream.{PayrollProgress}
use Rattle.payroll_file.specs.PayrollFile.{line_of, lines_of, end_at, end_of, ran_of, check_of}
use Rattle.payroll_kept.specs.FirstFaultOfFile.{next_rules}
use Rattle.payroll_kept.proofs.Refused.{lines_same}
use Rattle.payroll_kept.proofs.Payments.{took_records, lines_are}
use Rattle.payroll_kept.proofs.Pieces.{answered, rest_answered}
use Rattle.payroll_kept.proofs.Standing.{Stands, next_number_lem, lines_taken_lem, from_open}
use Rattle.payroll_stream.specs.declared.feeding.Feeding.{Feeding}
use Rattle.payroll_stream.specs.Stream.{behind_end, so_far, answer_at, progress_row}
use Rattle.payroll_stream.specs.Feeding.{open_feeding, fed_at, fed_of, fed_all, closed_at, closed_with, answer_of}
use Rattle.demands.specs.PayrollFeeding.{
  payroll_up_to,
  PayrollFedAsWhole,
  feed,
  close,
  payroll_called,
  PayrollRefusedForGood,
  PayrollAfterAcceptedClose,
}
use Rattle.demands.proofs.PayrollAfterEnd.{refused_stage, accepted_progress}
use Rattle.refusal.specs.Fault.{Judged}
use Rattle.std.specs.Prelude.{Err, None, Ok, Some}

-- feeding records to a file that goes on takes them one by one
abbrev going_on : Running → Feeding
going_on st = record { state = st; progress = None }

fed_state : (st : Running) (rs : List (List ℕ)) → fed_all (going_on st) rs ≡ going_on (took_records st rs)
unfolding fed_at took_records
fed_state st [] = refl
fed_state st (r ∷ rs) = fed_state (fed_of (going_on st) r).state rs

-- pieces behind others
lines_row : (st : Running) (ps qs : List (List ℕ)) → lines_of st (ps ++ qs) ≡ lines_of (lines_of st ps) qs
unfolding lines_of
lines_row st [] qs = refl
lines_row st (p ∷ ps) qs = lines_row (line_of st p) ps qs

-- so does reading their file, and goes on with what comes behind them
file_is : (rs : List (List ℕ)) (more : List ℕ) → all_no_lf rs ≡ true → check_of (joined rs ++ more) ≡ ran_of (took_records opened rs) (cut more)
file_is rs more clear =
    ap (ran_of opened) (cut_joined_then rs more clear) ∙
    ap (λ st. end_of st (cut more).rest) (lines_row opened (map with_cr rs) (cut more).pieces ∙ ap (λ st. lines_of st (cut more).pieces) (lines_are opened rs))

-- closing gives the file's answer
whole : (rs : List (List ℕ)) (left : List ℕ) → all_no_lf rs ≡ true → no_lf left ≡ true →
    answer_of (closed_with (fed_all open_feeding rs) left) ≡ Some (check_of (joined rs ++ left))
unfolding closed_at answer_at lines_of
whole rs left clear clear-left =
    ap (λ f. answer_of (closed_with f left)) (fed_state opened rs) ∙
    ap Some (sym (file_is rs left clear ∙ ap (ran_of (took_records opened rs)) (only_rest left clear-left)))

-- the refusal up to the k-th record, of an answer
abbrev up_to : ℕ → PayrollAnswer → PayrollProgress
up_to k (Ok a) = None
up_to k (Err x) = cond (leb x.«record» k) (Some (Err x)) None

-- as the row tells
row_up_to : (k : ℕ) (answer : PayrollAnswer) → progress_row (up_to k answer) ≡ payroll_up_to k (payroll_row answer)
unfolding payroll_row progress_row
row_up_to k (Ok a) = refl
row_up_to k (Err x) =
    let some : number_of x.cause ≡ 0 → ⊥ = λ e. omega (arith, from_one x.cause) in
    by (leb x.«record» k) ∙ sym (rw (ne_eqb (number_of x.cause) 0 some))
  where
    by : (t : Bool) → progress_row (cond t (Some (Err x)) None) ≡ cond t (refused_row x) going_on_row
    by true = refl
    by false = refl

-- a refusal is given from its record on, and not before
given : (k : ℕ) (x : Refusal) → x.«record» ≤ k → Some (Err x) ≡ up_to k (Err x)
given k x h = rw (le-leb x.«record» k h)

not_yet : (k : ℕ) (x : Refusal) → k < x.«record» → None ≡ up_to k (Err x)
not_yet k x h = rw (lt-leb x.«record» k h)

-- a refused run ends with its refusal
ends_refused : (st : Running) (x : Refusal) (left : List ℕ) → st.stage ≡ Refused x → end_of st left ≡ Err x
unfolding end_at
ends_refused st x left q = ap (λ s. end_at s st left) q

-- a run refused from the record behind the k-th on, or not at all, has no refusal up to the k-th when it ends
ended_later : (k n : ℕ) (st : Running) (left : List ℕ) → k ≤ n → Stands (suc k) n st → None ≡ up_to k (end_of st left)
ended_later k n st left low (inl w) =
    by (first_broken (next_rules st (rest left))) ∙ ap (up_to k) (sym (rest_answered st left w.came.going))
  where
    by : (fault : Judged) → None ≡ up_to k (answered st fault)
    by (Ok none) = refl
    by (Err fault) = not_yet k (refusal_at fault.cause fault.column st) (omega (arith, next_number_lem n st w))
ended_later k n st left low (inr w) = not_yet k w.refusal w.from ∙ ap (up_to k) (sym (ends_refused st w.refusal left w.at_stage))

-- a run that is not refused has no answer yet
none_yet_lem : (s : Stage) → ((x : Refusal) → s ≡ Refused x → ⊥) → so_far s ≡ None
unfolding so_far
none_yet_lem Start going = refl
none_yet_lem BetweenBatches going = refl
none_yet_lem InBatch going = refl
none_yet_lem BehindA going = refl
none_yet_lem BehindB going = refl
none_yet_lem Ended going = refl
none_yet_lem (Refused x) going = absurd (going x refl)

-- after k records: the refusal up to there, of what the rest leads to
after : (k : ℕ) (st : Running) (ls : Lines) → Stands 0 k st → so_far st.stage ≡ up_to k (ran_of st ls)
unfolding so_far
after k st ls (inl w) =
    none_yet_lem st.stage w.came.going ∙
    ended_later k (k + length ls.pieces) (lines_of st ls.pieces) ls.rest (omega arith) (lines_taken_lem (suc k) k st ls.pieces (omega arith) (inl w))
after k st ls (inr w) =
    let x = w.refusal in
    let ran : ran_of st ls ≡ Err x =
    ap (λ next. end_of next ls.rest) (lines_same st x w.at_stage ls.pieces) ∙ ends_refused st x ls.rest w.at_stage in
    ap so_far w.at_stage ∙ given k x w.up_to_lem ∙ ap (up_to k) (sym ran)

fed_open : (rs : List (List ℕ)) → Stands 0 (length rs) (took_records opened rs)
fed_open rs =
    subst (Stands 0 (length rs)) (lines_are opened rs)
    (subst (λ n. Stands 0 n (lines_of opened (map with_cr rs))) (length-map rs with_cr) (from_open (map with_cr rs)))

after_records : (rs : List (List ℕ)) (more : List ℕ) → all_no_lf rs ≡ true → answer_of (fed_all open_feeding rs) ≡ up_to (length rs) (check_of (joined rs ++ more))
unfolding answer_at
after_records rs more clear =
    ap answer_of (fed_state opened rs) ∙ after (length rs) (took_records opened rs) (cut more) (fed_open rs) ∙
    ap (up_to (length rs)) (sym (file_is rs more clear))

-- records that the close accepts were not refused, so they are counted
counted : (rs : List (List ℕ)) (left : List ℕ) → (progress_row (answer_of (closed_with (fed_all open_feeding rs) left))).accepted ≡ true →
    next_number (closed_with (fed_all open_feeding rs) left).state ≡ suc (length rs)
unfolding closed_at answer_at progress_row payroll_row
counted rs left e =
    let fed = fed_state opened rs in
    ap (λ f. next_number (closed_with f left).state) fed ∙
    by (fed_open rs) (sym (ap (λ f. (progress_row (answer_of (closed_with f left))).accepted) fed) ∙ e)
  where
    by : Stands 0 (length rs) (took_records opened rs) → (payroll_row (end_of (took_records opened rs) left)).accepted ≡ true →
        next_number (took_records opened rs) ≡ suc (length rs)
    by (inl w) e = next_number_lem (length rs) (took_records opened rs) w
    by (inr w) e =
        absurd (false≢true (ap (λ answer. (payroll_row answer).accepted) (sym (ends_refused (took_records opened rs) w.refusal left w.at_stage)) ∙ e))

-- THE THEOREM: records without LF
pub payroll_fed_as_whole : (records : List (List ℕ)) → all_no_lf records ≡ true → PayrollFedAsWhole records
unfolding progress_row
payroll_fed_as_whole records clear =
    record {
      closed = λ left clear-left. ap progress_row (whole records left clear clear-left);
      after_each = λ more. ap progress_row (after_records records more clear) ∙ row_up_to (length records) (check_of (joined records ++ more));
      one_past_the_last = counted records;
    }

-- a refused file gives its refusal to a record more, and to the close: by its progress, and before the close by the stage of its state
abbrev StaysRefused : Feeding → Refusal → Type 0
StaysRefused f x = ((r : List ℕ) → answer_of (fed_of f r) ≡ Some (Err x)) × ((left : List ℕ) → answer_of (closed_with f left) ≡ Some (Err x))

stays_refused : (f : Feeding) (x : Refusal) → answer_of f ≡ Some (Err x) → StaysRefused f x
unfolding answer_at fed_at closed_at took_at so_far behind_end
stays_refused f x e = by f.progress refl e
  where
    by : (p : PayrollProgress) → f.progress ≡ p → answer_at p f.state ≡ Some (Err x) → StaysRefused f x
    by None g e =
        let q = refused_stage f.state.stage x e in (
          λ r.
              ap (λ p. answer_of (fed_at p f r)) g ∙
              ap (λ (st : Running). so_far st.stage) (ap (λ s. took_at s f.state (reading_of r)) q) ∙ ap so_far q,
          λ left. ap (λ p. answer_of (closed_at p f left)) g ∙ ap Some (ends_refused f.state x left q),
        )
    by (Some a) g e =
        let h = g ∙ e in
        (λ r. ap (λ p. answer_of (fed_at p f r)) h, λ left. ap (λ p. answer_of (closed_at p f left)) h ∙ ap (λ p. answer_at p f.state) h)

-- "Once refused, every later call gives that same refusal", in every state
pub payroll_refused_for_good : (f : Feeding) (x : Refusal) → answer_of f ≡ Some (Err x) → PayrollRefusedForGood f x
unfolding payroll_called progress_row payroll_row
payroll_refused_for_good f x e [] = ap progress_row e
payroll_refused_for_good f x e (feed r ∷ calls) = payroll_refused_for_good (fed_of f r) x ((stays_refused f x e).0 r) calls
payroll_refused_for_good f x e (close left ∷ calls) = payroll_refused_for_good (closed_with f left) x ((stays_refused f x e).1 left) calls

-- a further record is 13 and a further close the same answer, in every state
pub payroll_after_accepted_close : (f : Feeding) (a : PayrollNumbers) → answer_of f ≡ Some (Ok a) → PayrollAfterAcceptedClose f
unfolding answer_at fed_at closed_at behind_end
payroll_after_accepted_close f a e =
    let g = accepted_progress f.progress f.state a e in
    record {
      record_more = λ r. payroll_refused_for_good (fed_of f r) (refusal_at BytesAfterTheEnd 0 f.state) (ap (λ p. answer_of (fed_at p f r)) g);
      close_more = λ left. ap (λ p. progress_row (answer_of (closed_at p f left))) g;
    }
