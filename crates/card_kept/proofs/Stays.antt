-- A refused run stays as it is, whatever comes: each step goes by the stage, which keeps the refusal.
use Prim.Native.Nat.{ℕ}
use mathlib.Core.Path.{◌≡◌, refl, ◌∙◌, ap}
use mathlib.Core.List.{List, [], ◌∷◌}
use mathlib.Core.Bool.{Bool, true, false, cond}
use Rattle.refusal.specs.declared.Cause.{Cause}
use Rattle.refusal.specs.declared.Refusal.{Refusal}
use Rattle.refusal.specs.Nowhere.{nowhere}
use Rattle.edition.specs.Known.{edition_fault}
use Rattle.lines.specs.Lines.{Lines, ends_in_cr, without_last}
use Rattle.card_record.specs.Reading.{reading_of}
use Rattle.card_run.specs.declared.stage.Stage.{Stage}
use Rattle.card_run.specs.declared.stage.Stage.TheVariants.{Start, BetweenBatches, InBatch, Ended, Closed, Refused}
use Rattle.card_run.specs.declared.running.Running.{Running}
use Rattle.card_run.specs.Running.{open_at, open_stage, closed_at, closed_of, late_at}
use Rattle.card_step.specs.Step.{took_at}
use Rattle.card_file.specs.Feeding.{fed_of, fed_all}
use Rattle.card_run.specs.Answer.{answer_at, answer_of}
use Rattle.card_file.specs.CardFile.{unended_at, unended_of, line_of, lines_of, end_of, ran_of}
use Rattle.refusal.specs.Fault.{at}
use Rattle.std.specs.Prelude.{Err, Some}

-- an answer that is a refusal is the stage's
pub stage_of_lem : (st : Running) (x : Refusal) → answer_of st ≡ Some (Err x) → st.stage ≡ Refused x
unfolding answer_at
stage_of_lem st x = by st.stage
  where
    by : (s : Stage) → answer_at s st ≡ Some (Err x) → s ≡ Refused x
    by Start e = cc
    by BetweenBatches e = cc
    by InBatch e = cc
    by Ended e = cc
    by Closed e = cc
    by (Refused y) e = cc

-- and the other way round
pub answer_of_lem : (st : Running) (x : Refusal) → st.stage ≡ Refused x → answer_of st ≡ Some (Err x)
unfolding answer_at
answer_of_lem st x e = ap (λ s. answer_at s st) e

-- an edition with a fault is refused from the start
pub edition_refused : (edition : ℕ) {cause : Cause} {column : ℕ} → edition_fault edition ≡ at cause column → open_stage edition ≡ Refused (nowhere cause)
edition_refused edition e = ap open_at e

module _ (x : Refusal) where
  pub fed : (st : Running) (r : List ℕ) → st.stage ≡ Refused x → fed_of st r ≡ st
  unfolding took_at late_at
  fed st r e = ap (λ s. took_at s st (reading_of st.edition r)) e

  pub closed : (st : Running) → st.stage ≡ Refused x → closed_of st ≡ st
  unfolding closed_at
  closed st e = ap (λ s. closed_at s st) e

  pub fed_all_lem : (st : Running) (rs : List (List ℕ)) → st.stage ≡ Refused x → fed_all st rs ≡ st
  unfolding fed_all
  fed_all_lem st [] e = refl
  fed_all_lem st (r ∷ rs) e = ap (λ next. fed_all next rs) (fed st r e) ∙ fed_all_lem st rs e

  pub unended : (st : Running) → st.stage ≡ Refused x → unended_of st ≡ st
  unfolding unended_at late_at
  unended st e = ap (λ s. unended_at s st) e

  pub line : (st : Running) (p : List ℕ) → st.stage ≡ Refused x → line_of st p ≡ st
  line st p e = by (ends_in_cr p)
    where
      by : (ends : Bool) → cond ends (fed_of st (without_last p)) (unended_of st) ≡ st
      by true = fed st (without_last p) e
      by false = unended st e

  pub lines : (st : Running) (ps : List (List ℕ)) → st.stage ≡ Refused x → lines_of st ps ≡ st
  unfolding lines_of
  lines st [] e = refl
  lines st (p ∷ ps) e = ap (λ next. lines_of next ps) (line st p e) ∙ lines st ps e

  pub ends : (st : Running) (s : List ℕ) → st.stage ≡ Refused x → end_of st s ≡ st
  unfolding end_of
  ends st [] e = closed st e
  ends st (b ∷ s) e = unended st e

  -- whatever a file holds
  pub ran : (st : Running) (ls : Lines) → st.stage ≡ Refused x → ran_of st ls ≡ st
  ran st ls e = ap (λ next. end_of next ls.rest) (lines st ls.pieces e) ∙ ends st ls.rest e
