-- A record at its place: what a run finds of its reading is what document 01's one list of rules finds.
-- By cases on the kind that it names, and on the first fault of its own rules.
use Prim.Native.Nat.{ℕ}
use mathlib.Core.Path.{◌≡◌, refl, sym, ◌∙◌, ap}
use mathlib.Core.List.{List, ◌∷◌}
use mathlib.Core.Bool.{false, not, true≢false}
use Rattle.refusal.specs.declared.Cause.TheVariants.{KindNotAllowedHere, BytesAfterTheEnd}
use Rattle.refusal.specs.Fault.{rule_of, earlier_of, Judged}
use Rattle.refusal.specs.Rules.{rule_at, first_broken}
use Rattle.refusal.proofs.Rules.{in_a_row}
use Rattle.card_record.specs.declared.kind.Kind.{Kind}
use Rattle.card_record.specs.declared.kind.Kind.TheVariants.{A0, L0, Cv, Aj, L9, A9}
use Rattle.card_record.specs.Kind.{kind_of}
use Rattle.card_record.specs.Reading.{kind_rules, right_reading, judged_as, read_found, reading_of}
use Rattle.card_run.specs.Running.{late_at}
use Rattle.card_run.specs.declared.stage.Stage.{Stage}
use Rattle.card_run.specs.declared.stage.Stage.TheVariants.{Start, BetweenBatches, InBatch, Ended, Closed, Refused}
use Rattle.card_run.specs.declared.running.Running.{Running}
use Rattle.card_run.specs.Stage.{placed}
use Rattle.card_step.specs.Rules.{joined_at, rules_of}
use Rattle.card_step.specs.Step.{behind_or_refused, took_at}
use Rattle.card_file.specs.Feeding.{fed_of}
use Rattle.card_run.specs.Answer.{answer_at, answer_of}
use Rattle.card_run.proofs.FileRows.{is_refusal}
use Rattle.card_kept.specs.FirstFault.{ended, kind_rule, rules_as, rules_from_kind, rules_at}
use Rattle.std.specs.Prelude.{None, Option, Some, Ok, Err}

module _ (st : Running) (r : List ℕ) where
  -- the place, the record's own fault, the joined rules
  in_order : Kind → Judged → Judged
  in_order kind fault =
      earlier_of (rule_of KindNotAllowedHere 0 (placed st.stage kind)) (earlier_of fault (first_broken (joined_at st (right_reading kind r))))

  judged : (kind : Kind) (fault : Judged) → first_broken (rules_of st (judged_as kind fault (right_reading kind r))) ≡ in_order kind fault
  unfolding in_order first_broken rules_of judged_as right_reading
  judged A0 (Ok none) = refl
  judged L0 (Ok none) = refl
  judged Cv (Ok none) = refl
  judged Aj (Ok none) = refl
  judged L9 (Ok none) = refl
  judged A9 (Ok none) = refl
  judged kind (Err fault) = refl

  -- of the kind that it names
  as_found : (found : Option Kind) → first_broken (rules_of st (read_found found st.edition r)) ≡ first_broken (kind_rule found ∷ rules_as found st r)
  unfolding in_order first_broken rules_of read_found
  as_found None = refl
  as_found (Some kind) =
      let own = kind_rules kind st.edition r in
      judged kind (first_broken own) ∙
      ap (earlier_of (rule_of KindNotAllowedHere 0 (placed st.stage kind))) (sym (in_a_row own (joined_at st (right_reading kind r))))

  same_fault : first_broken (rules_of st (reading_of st.edition r)) ≡ first_broken (rules_from_kind st r)
  same_fault = as_found (kind_of r)

  -- a record fed to a run that is not refused: the first fault of the list decides
  pub fed_by_fault : is_refusal (answer_of st) ≡ false → fed_of st r ≡ behind_or_refused st (reading_of st.edition r) (first_broken (rules_at st r))
  unfolding first_broken took_at behind_or_refused answer_at late_at
  fed_by_fault = by st.stage
    where
      by : (s : Stage) → is_refusal (answer_at s st) ≡ false →
          took_at s st (reading_of st.edition r) ≡
          behind_or_refused st (reading_of st.edition r) (first_broken (rule_at BytesAfterTheEnd 0 (not (ended s)) ∷ rules_from_kind st r))
      by Start h = ap (behind_or_refused st (reading_of st.edition r)) same_fault
      by BetweenBatches h = ap (behind_or_refused st (reading_of st.edition r)) same_fault
      by InBatch h = ap (behind_or_refused st (reading_of st.edition r)) same_fault
      by Ended h = refl
      by Closed h = refl
      by (Refused x) h = absurd (true≢false h)
