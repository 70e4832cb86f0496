-- FEEDING EQUALS THE WHOLE. A file of records is cut into the records with their CR, so reading it whole feeds them one by one and closes.
-- After some of them: a run that was refused stays so, and any other is refused only at a later record, since a run counts its records.
use Prim.Native.Nat.{ℕ, suc, ◌+◌, ◌≤◌, ◌<◌}
use mathlib.Core.Path.{◌≡◌, refl, sym, ◌∙◌, ap, subst}
use mathlib.Core.List.{List, [], ◌∷◌}
use mathlib.Core.Bool.{Bool, true, false, cond}
use native.Mathlib.Omega.{arith}
use lib.ListN.{length}
use lib.Dec.{leb}
use borrow.Author.Tests.{le-leb, lt-leb, ne_eqb}
use Rattle.refusal.specs.declared.Refusal.{Refusal}
use Rattle.refusal.specs.RefusalList.{number_of}
use Rattle.refusal.proofs.RefusalList.{from_one}
use Rattle.lines.specs.Lines.{all_no_lf, joined}
use Rattle.lines.proofs.Cuts.{cut_joined}
use Rattle.card_record.specs.Reading.{reading_of}
use Rattle.card_run.specs.declared.stage.Stage.{Stage}
use Rattle.card_run.specs.declared.stage.Stage.TheVariants.{Start, BetweenBatches, InBatch, Ended, Closed, Refused}
use Rattle.card_run.specs.declared.running.Running.{Running}
use Rattle.card_run.specs.declared.answer.Accepted.{Accepted as AcceptedFile}
use Rattle.card_run.specs.Running.{open_of, next_number, closed_at, closed_of, late_at}
use Rattle.card_step.specs.Step.{took_at}
use Rattle.card_file.specs.Feeding.{fed_of, fed_all}
use Rattle.card_run.specs.Answer.{answer_at, answer_of, going_on_row, refused_row, card_file_row, CardAnswer}
use Rattle.card_file.specs.CardFile.{end_of, ran_of, check_of}
use Rattle.demands.specs.Feeding.{up_to, FedAsWhole, RefusedForGood, Call, feed, close, called, after_the_end, AfterAcceptedClose, OnePastTheLast}
use Rattle.card_kept.proofs.Stays as stays
use Rattle.card_kept.proofs.Batches.{fed_row, lines_are}
use Rattle.card_kept.proofs.Standing.{StandsAt, Stands, next_number_lem, fed_all_lem, fed_open}
use Rattle.std.specs.Prelude.{Err, None, Ok, Some}

-- closing gives the file's answer
whole : (edition : ℕ) (rs : List (List ℕ)) → all_no_lf rs ≡ true → answer_of (closed_of (fed_all (open_of edition) rs)) ≡ check_of edition (joined rs)
unfolding end_of
whole edition rs e =
    sym (ap (λ ls. answer_of (ran_of (open_of edition) ls)) (cut_joined rs e) ∙ ap (λ st. answer_of (closed_of st)) (lines_are (open_of edition) rs))

-- the refusal up to the k-th record, of an answer
abbrev so_far : ℕ → CardAnswer → CardAnswer
so_far k None = None
so_far k (Some (Ok a)) = None
so_far k (Some (Err x)) = cond (leb x.«record» k) (Some (Err x)) None

-- as the row tells
row_so_far : (k : ℕ) (answer : CardAnswer) → card_file_row (so_far k answer) ≡ up_to k (card_file_row answer)
unfolding card_file_row
row_so_far k None = refl
row_so_far k (Some (Ok a)) = refl
row_so_far k (Some (Err x)) =
    let some : number_of x.cause ≡ 0 → ⊥ = λ e. omega (arith, from_one x.cause) in
    by (leb x.«record» k) ∙ sym (rw (ne_eqb (number_of x.cause) 0 some))
  where
    by : (t : Bool) → card_file_row (cond t (Some (Err x)) None) ≡ cond t (refused_row x) going_on_row
    by true = refl
    by false = refl

-- a refusal is given from its record on, and not before
given : (k : ℕ) (x : Refusal) → x.«record» ≤ k → Some (Err x) ≡ so_far k (Some (Err x))
given k x h = rw (le-leb x.«record» k h)

not_yet : (k : ℕ) (x : Refusal) → k < x.«record» → None ≡ so_far k (Some (Err x))
not_yet k x h = rw (lt-leb x.«record» k h)

-- a run refused from the record behind the k-th on, or not at all, has no refusal up to the k-th when it is closed
closed_later : (k n : ℕ) (st : Running) → k ≤ n → Stands (suc k) n st → None ≡ so_far k (answer_of (closed_of st))
unfolding closed_at answer_at
closed_later k n st low = by st.stage refl
  where
    by : (s : Stage) → st.stage ≡ s → StandsAt (suc k) n s st → None ≡ so_far k (answer_of (closed_at s st))
    by Start e h = not_yet k _ (omega (arith, next_number_lem st n h))
    by BetweenBatches e h = not_yet k _ (omega (arith, next_number_lem st n h))
    by InBatch e h = not_yet k _ (omega (arith, next_number_lem st n h))
    by Ended e h = refl
    by Closed e h = absurd h
    by (Refused x) e h = not_yet k x h.0 ∙ ap (so_far k) (sym (stays.answer_of_lem st x e))

-- after k records: the refusal up to there, of what the rest leads to
after : (k : ℕ) (st : Running) (left : List (List ℕ)) → Stands 0 k st → answer_of st ≡ so_far k (answer_of (closed_of (fed_all st left)))
unfolding answer_at
after k st left = by st.stage refl
  where
    later : (s : Stage) → st.stage ≡ s → answer_at s st ≡ None → StandsAt (suc k) k s st →
        answer_of st ≡ so_far k (answer_of (closed_of (fed_all st left)))
    later s e going h =
        ap (λ s. answer_at s st) e ∙ going ∙
        closed_later k (k + length left) (fed_all st left) (omega arith)
        (fed_all_lem (suc k) k st left (omega arith) (subst (λ s. StandsAt (suc k) k s st) (sym e) h))

    by : (s : Stage) → st.stage ≡ s → StandsAt 0 k s st → answer_of st ≡ so_far k (answer_of (closed_of (fed_all st left)))
    by Start e h = later Start e refl h
    by BetweenBatches e h = later BetweenBatches e refl h
    by InBatch e h = later InBatch e refl h
    by Ended e h = later Ended e refl h
    by Closed e h = absurd h
    by (Refused x) e h =
        let kept : closed_of (fed_all st left) ≡ st = ap closed_of (stays.fed_all_lem x st left e) ∙ stays.closed x st e in
        let is : answer_of st ≡ Some (Err x) = stays.answer_of_lem st x e in
        is ∙ given k x h.1 ∙ ap (so_far k) (sym (ap answer_of kept ∙ is))

-- THE THEOREM: "Equality with the whole holds for records without LF"
pub fed_as_whole : (edition : ℕ) (records : List (List ℕ)) → all_no_lf records ≡ true → FedAsWhole edition records
fed_as_whole edition records clear =
    record {
      closed = ap card_file_row (whole edition records clear);
      after_each = λ fed left split.
          let st = fed_all (open_of edition) fed in
          let all : fed_all (open_of edition) records ≡ fed_all st left = ap (fed_all (open_of edition)) split ∙ fed_row (open_of edition) fed left in
          ap card_file_row
          (after (length fed) st left (fed_open edition fed) ∙
          ap (λ next. so_far (length fed) (answer_of (closed_of next))) (sym all) ∙
          ap (so_far (length fed)) (whole edition records clear)) ∙
          row_so_far (length fed) (check_of edition (joined records));
    }

called_all : (x : Refusal) (st : Running) (calls : List Call) → st.stage ≡ Refused x → called st calls ≡ st
unfolding called
called_all x st [] e = refl
called_all x st (feed r ∷ calls) e = ap (λ next. called next calls) (stays.fed x st r e) ∙ called_all x st calls e
called_all x st (close ∷ calls) e = ap (λ next. called next calls) (stays.closed x st e) ∙ called_all x st calls e

-- "Once refused, every later call gives that same refusal", in every state
pub refused_for_good : (st : Running) (x : Refusal) → answer_of st ≡ Some (Err x) → RefusedForGood st x
unfolding card_file_row
refused_for_good st x e calls = ap card_file_row (ap answer_of (called_all x st calls (stays.stage_of_lem st x e)) ∙ e)

-- "A bad edition is refused, 1, from the start"

-- an accepted answer is that of a closed run
pub closed_stage : (st : Running) (answer : AcceptedFile) → answer_of st ≡ Some (Ok answer) → st.stage ≡ Closed
unfolding answer_at
closed_stage st answer = by st.stage
  where
    by : (s : Stage) → answer_at s st ≡ Some (Ok answer) → s ≡ Closed
    by Start e = cc
    by BetweenBatches e = cc
    by InBatch e = cc
    by Ended e = cc
    by Closed e = refl
    by (Refused x) e = cc

-- "After an accepted close, a further record is 13 and a further close the same answer", in every state
pub after_accepted_close : (st : Running) (answer : AcceptedFile) → answer_of st ≡ Some (Ok answer) → AfterAcceptedClose st
unfolding answer_at took_at closed_at late_at
after_accepted_close st answer e =
    let s = closed_stage st answer e in
    record {
      record_more = λ r. refused_for_good (fed_of st r) (after_the_end st) (ap (λ s. answer_of (took_at s st (reading_of st.edition r))) s);
      close_more = ap (λ s. card_file_row (answer_of (closed_at s st))) s;
    }

-- and the record is "one past the last"
pub one_past_the_last : (edition : ℕ) (records : List (List ℕ)) (answer : AcceptedFile) →
    answer_of (closed_of (fed_all (open_of edition) records)) ≡ Some (Ok answer) → OnePastTheLast edition records
unfolding answer_at closed_at
one_past_the_last edition records answer =
    by (fed_all (open_of edition) records).stage refl (fed_open edition records)
  where
    st : Running
    st = fed_all (open_of edition) records

    by : (s : Stage) → st.stage ≡ s → StandsAt 0 (length records) s st → answer_of (closed_at s st) ≡ Some (Ok answer) →
        next_number (closed_at s st) ≡ suc (length records)
    by Start t h e = cc
    by BetweenBatches t h e = cc
    by InBatch t h e = cc
    by Ended t h e = next_number_lem st (length records) h
    by Closed t h e = absurd h
    by (Refused x) t h e = let same = stays.answer_of_lem st x t in cc
