-- One record more: a run goes on exactly where the record is of a kind that may stand there, right, and its joined rules hold. By the stage, and by what the record reads as.
use Rattle.std.specs.Prelude.{Ok, Err}
use Prim.Native.Nat.{ℕ}
use mathlib.Core.Path.{◌≡◌, refl, ◌∙◌, ap, subst}
use mathlib.Core.List.{List, ◌∷◌}
use mathlib.Core.Bool.{true, false, ◌&&◌, false≢true}
use Rattle.refusal.specs.declared.Refusal.{Refusal}
use Rattle.refusal.specs.Rules.{first_broken, all_hold}
use Rattle.refusal.proofs.Rules.{all_hold_lem, none_broken}
use Rattle.text.proofs.Alphabets.{both, both_left, both_right}
use Rattle.card_sale.specs.Cv.{cv_of}
use Rattle.card_adjustment.specs.Aj.{aj_of}
use Rattle.card_frame.specs.A0.{a0_of}
use Rattle.card_frame.specs.L0.{l0_of}
use Rattle.card_frame.specs.L9.{l9_of}
use Rattle.card_frame.specs.A9.{a9_of}
use Rattle.card_record.specs.declared.kind.Kind.{Kind}
use Rattle.card_record.specs.declared.kind.Kind.TheVariants.{A0, L0, Cv, Aj, L9, A9}
use Rattle.card_record.specs.declared.reading.Reading.{Reading}
use Rattle.card_record.specs.declared.reading.Reading.TheVariants.{Unknown as unknown, Faulty as faulty, A0 as a0, L0 as l0, Cv as cv, Aj as aj, L9 as l9, A9 as a9}
use Rattle.card_record.specs.Reading.{right_reading, reading_of}
use Rattle.card_record.proofs.Readings.{Right, says, said}
use Rattle.card_run.specs.Running.{late_at}
use Rattle.card_run.specs.declared.stage.Stage.{Stage}
use Rattle.card_run.specs.declared.stage.Stage.TheVariants.{Start, BetweenBatches, InBatch, Ended, Closed, Refused}
use Rattle.card_run.specs.declared.running.Running.{Running}
use Rattle.card_run.specs.Stage.{placed}
use Rattle.card_step.specs.Rules.{place_rule, joined_at, rules_of}
use Rattle.card_step.specs.Behind.{behind}
use Rattle.card_step.specs.Step.{behind_or_refused, judged_of, took_at, took_of}
use Rattle.card_file.specs.Feeding.{fed_of}
use Rattle.refusal.specs.Fault.{Judged}

-- a run that is not refused
abbrev pub Alive : Running → Type 0
Alive st = (refusal : Refusal) → st.stage ≡ Refused refusal → ⊥

-- a record that a run goes on behind
pub record GoesOn (kind : Kind) (st : Running) (r : List ℕ) : Type 0 where
  pub place : placed st.stage kind ≡ true
  pub right : Right kind st.edition r
  pub joined : all_hold (joined_at st (right_reading kind r)) ≡ true

-- a right record reads as its numbers
right_reads : (kind : Kind) (e : ℕ) (r : List ℕ) → Right kind e r → reading_of e r ≡ right_reading kind r
unfolding right_reading
right_reads A0 e r right = said e r (a0 (a0_of r)) (right, refl)
right_reads L0 e r right = said e r (l0 (l0_of r)) (right, refl)
right_reads Cv e r right = said e r (cv (cv_of r)) (right, refl)
right_reads Aj e r right = said e r (aj (aj_of r)) (right, refl)
right_reads L9 e r right = said e r (l9 (l9_of r)) (right, refl)
right_reads A9 e r right = said e r (a9 (a9_of r)) (right, refl)

-- its rules: its place, and the joined ones
rules_are : (kind : Kind) (st : Running) (r : List ℕ) → rules_of st (right_reading kind r) ≡ place_rule st kind ∷ joined_at st (right_reading kind r)
unfolding rules_of right_reading
rules_are A0 st r = refl
rules_are L0 st r = refl
rules_are Cv st r = refl
rules_are Aj st r = refl
rules_are L9 st r = refl
rules_are A9 st r = refl

-- where a kind may stand, what was read is judged
is_judged : (s : Stage) (kind : Kind) (st : Running) (reading : Reading) → placed s kind ≡ true → took_at s st reading ≡ judged_of st reading
unfolding took_at late_at
is_judged Start kind st reading p = refl
is_judged BetweenBatches kind st reading p = refl
is_judged InBatch kind st reading p = refl
is_judged Ended kind st reading p = absurd (false≢true p)
is_judged Closed kind st reading p = absurd (false≢true p)
is_judged (Refused x) kind st reading p = absurd (false≢true p)

-- so the run goes on
pub goes_on : (kind : Kind) (st : Running) (r : List ℕ) → GoesOn kind st r → fed_of st r ≡ behind st (right_reading kind r)
unfolding behind_or_refused all_hold
goes_on kind st r g =
    let numbers = right_reading kind r in
    ap (took_of st) (right_reads kind st.edition r g.right) ∙
    is_judged st.stage kind st numbers g.place ∙
    ap (λ rules. behind_or_refused st numbers (first_broken rules)) (rules_are kind st r) ∙
    ap (behind_or_refused st numbers) (none_broken (place_rule st kind ∷ joined_at st numbers) (both g.place g.joined))

-- and it goes on behind no other record
pub record Went (st : Running) (r : List ℕ) : Type 0 where
  pub kind : Kind
  pub goes : GoesOn kind st r

module _ (st : Running) (r : List ℕ) where
  went_as : (kind : Kind) → Right kind st.edition r → placed st.stage kind && all_hold (joined_at st (right_reading kind r)) ≡ true → Went st r
  went_as kind right h =
      record {
        kind = kind;
        goes = record {
          place = both_left (placed st.stage kind) _ h;
          right = right;
          joined = both_right (placed st.stage kind) _ h;
        };
      }

  by_reading : (reading : Reading) → reading_of st.edition r ≡ reading → all_hold (rules_of st reading) ≡ true → Went st r
  unfolding rules_of all_hold right_reading
  by_reading unknown e h = absurd (false≢true h)
  by_reading (faulty kind fault) e h = absurd (false≢true (both_right (placed st.stage kind) false h))
  by_reading (a0 n) e h =
      let is = says st.edition r e in
      went_as A0 is.0 (subst (λ n. placed st.stage A0 && all_hold (joined_at st (a0 n)) ≡ true) is.1 h)
  by_reading (l0 n) e h =
      let is = says st.edition r e in
      went_as L0 is.0 (subst (λ n. placed st.stage L0 && all_hold (joined_at st (l0 n)) ≡ true) is.1 h)
  by_reading (cv n) e h =
      let is = says st.edition r e in
      went_as Cv is.0 (subst (λ n. placed st.stage Cv && all_hold (joined_at st (cv n)) ≡ true) is.1 h)
  by_reading (aj n) e h =
      let is = says st.edition r e in
      went_as Aj is.0 (subst (λ n. placed st.stage Aj && all_hold (joined_at st (aj n)) ≡ true) is.1 h)
  by_reading (l9 n) e h =
      let is = says st.edition r e in
      went_as L9 is.0 (subst (λ n. placed st.stage L9 && all_hold (joined_at st (l9 n)) ≡ true) is.1 h)
  by_reading (a9 n) e h =
      let is = says st.edition r e in
      went_as A9 is.0 (subst (λ n. placed st.stage A9 && all_hold (joined_at st (a9 n)) ≡ true) is.1 h)

  by_fault : (reading : Reading) (fault : Judged) → reading_of st.edition r ≡ reading → first_broken (rules_of st reading) ≡ fault →
      Alive (behind_or_refused st reading fault) → Went st r
  unfolding behind_or_refused
  by_fault reading (Ok none) e f alive = by_reading reading e (all_hold_lem (rules_of st reading) f)
  by_fault reading (Err fault) e f alive = absurd (alive _ refl)

  judged : (reading : Reading) → reading_of st.edition r ≡ reading → Alive (judged_of st reading) → Went st r
  judged reading e alive = by_fault reading (first_broken (rules_of st reading)) e refl alive

  by_stage : (s : Stage) (reading : Reading) → st.stage ≡ s → reading_of st.edition r ≡ reading → Alive (took_at s st reading) → Went st r
  unfolding took_at late_at
  by_stage Start reading q e alive = judged reading e alive
  by_stage BetweenBatches reading q e alive = judged reading e alive
  by_stage InBatch reading q e alive = judged reading e alive
  by_stage Ended reading q e alive = absurd (alive _ refl)
  by_stage Closed reading q e alive = absurd (alive _ refl)
  by_stage (Refused x) reading q e alive = absurd (alive x q)

  pub went : Alive (fed_of st r) → Went st r
  went alive = by_stage st.stage (reading_of st.edition r) refl refl alive
