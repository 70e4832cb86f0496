-- What comes next in a run that is not refused: the first rule that it breaks gives the refusal, and where it breaks none it is not refused.
-- By the law of a record at its place, and by cases on the stage for what is no record.
use Prim.Native.Nat.{ℕ}
use mathlib.Core.Path.{◌≡◌, refl, sym, ◌∙◌, ap, subst}
use mathlib.Core.Logic.{◌↔◌}
use mathlib.Core.List.{List, [], ◌∷◌}
use mathlib.Core.Bool.{Bool, true, false, cond, not, true≢false}
use Rattle.refusal.specs.declared.Cause.{Cause}
use Rattle.refusal.specs.declared.Cause.TheVariants.{NoLineEnd, EndsTooEarly, BytesAfterTheEnd}
use Rattle.refusal.specs.declared.Refusal.{Refusal}
use Rattle.refusal.specs.Rules.{Rule, rule_at, first_broken, all_hold}
use Rattle.refusal.proofs.Faults.{not_both}
use Rattle.refusal.proofs.Rules.{all_hold_lem, none_broken, is_first, gives_first}
use Rattle.lines.specs.Lines.{ends_in_cr, without_last}
use Rattle.first_fault.specs.InTurn.{piece, rest}
use Rattle.card_adjustment.specs.Aj.{is_credit}
use Rattle.card_record.specs.declared.reading.Reading.{Reading}
use Rattle.card_record.specs.declared.reading.Reading.TheVariants.{
  Unknown as unknown,
  Faulty as faulty,
  A0 as a0,
  L0 as l0,
  Cv as cv,
  Aj as aj,
  L9 as l9,
  A9 as a9,
}
use Rattle.card_record.specs.Reading.{reading_of}
use Rattle.card_run.specs.declared.stage.Stage.{Stage}
use Rattle.card_run.specs.declared.stage.Stage.TheVariants.{Start, BetweenBatches, InBatch, Ended, Closed, Refused}
use Rattle.card_run.specs.declared.running.Running.{Running}
use Rattle.card_run.specs.Running.{next_number, refused_at, closed_at, closed_of, late_at}
use Rattle.card_step.specs.Behind.{behind}
use Rattle.card_step.specs.Step.{behind_or_refused}
use Rattle.card_file.specs.Feeding.{fed_of}
use Rattle.card_run.specs.Answer.{answer_at, answer_of}
use Rattle.card_file.specs.CardFile.{unended_at, unended_of, line_of, end_of}
use Rattle.card_run.proofs.FileRows.{is_refusal}
use Rattle.card_kept.specs.FirstFault.{ended, end_rule, rules_from_kind, rules_at, RefusedBy, next_rules}
use Rattle.card_kept.proofs.Adjustments.{either_way}
use Rattle.card_kept.proofs.AtItsPlace.{fed_by_fault}
use Rattle.refusal.specs.Fault.{Judged, at, nothing}
use Rattle.std.specs.Prelude.{Err, Some, Ok}

-- what the first fault of rules makes of a run
pub record Outcome (st after : Running) (rules : List Rule) : Type 0 where
  pub broken : (cause : Cause) (column : ℕ) → first_broken rules ≡ at cause column → after ≡ refused_at cause column st
  pub kept : first_broken rules ≡ nothing → is_refusal (answer_of after) ≡ false

module _ (st : Running) (going : is_refusal (answer_of st) ≡ false) where
  -- behind a record nothing is refused
  behind_goes_on : (reading : Reading) → is_refusal (answer_of (behind st reading)) ≡ false
  unfolding behind answer_at
  behind_goes_on unknown = going
  behind_goes_on (faulty kind fault) = going
  behind_goes_on (a0 x) = refl
  behind_goes_on (l0 x) = refl
  behind_goes_on (cv x) = refl
  behind_goes_on (aj x) = either_way (λ after. is_refusal (answer_of after) ≡ false) (is_credit x) refl refl
  behind_goes_on (l9 x) = refl
  behind_goes_on (a9 x) = refl

  -- where the first fault settles what comes behind a reading
  by_fault : (reading : Reading) {after : Running} {rules : List Rule} → after ≡ behind_or_refused st reading (first_broken rules) → Outcome st after rules
  unfolding behind_or_refused
  by_fault reading e =
      record {
        broken = λ cause column f. e ∙ ap (behind_or_refused st reading) f;
        kept = λ f. ap (λ next. is_refusal (answer_of next)) (e ∙ ap (behind_or_refused st reading) f) ∙ behind_goes_on reading;
      }

  -- a record
  pub of_record : (r : List ℕ) → Outcome st (fed_of st r) (rules_at st r)
  of_record r = by_fault (reading_of st.edition r) (fed_by_fault st r going)

  -- bytes without a line end
  of_unended : (rules : List Rule) → Outcome st (unended_of st) (end_rule st ∷ rule_at NoLineEnd 0 false ∷ rules)
  unfolding first_broken behind_or_refused unended_at answer_at late_at
  of_unended rules = by_fault unknown (by st.stage going)
    where
      by : (s : Stage) → is_refusal (answer_at s st) ≡ false →
          unended_at s st ≡
          behind_or_refused st unknown (first_broken (rule_at BytesAfterTheEnd 0 (not (ended s)) ∷ rule_at NoLineEnd 0 false ∷ rules))
      by Start h = refl
      by BetweenBatches h = refl
      by InBatch h = refl
      by Ended h = refl
      by Closed h = refl
      by (Refused x) h = absurd (true≢false h)

  -- a piece
  pub of_piece : (p : List ℕ) → Outcome st (line_of st p) (next_rules st (piece p))
  unfolding first_broken
  of_piece p = by (ends_in_cr p)
    where
      by : (ends : Bool) →
          Outcome st (cond ends (fed_of st (without_last p)) (unended_of st)) (end_rule st ∷ rule_at NoLineEnd 0 ends ∷ rules_from_kind st (without_last p))
      by true = record { broken = (of_record (without_last p)).broken; kept = (of_record (without_last p)).kept }
      by false = of_unended (rules_from_kind st (without_last p))

  -- the end
  of_close : Outcome st (closed_of st) (next_rules st (rest []))
  unfolding first_broken behind_or_refused closed_at answer_at
  of_close = by st.stage going
    where
      early : (cause : Cause) (column : ℕ) → at EndsTooEarly 0 ≡ at cause column → refused_at EndsTooEarly 0 st ≡ refused_at cause column st
      early cause column e = ap (behind_or_refused st unknown) e

      by : (s : Stage) → is_refusal (answer_at s st) ≡ false → Outcome st (closed_at s st) (rule_at EndsTooEarly 0 (ended s) ∷ [])
      by Start h = record { broken = early; kept = λ f. absurd (not_both (sym f)) }
      by BetweenBatches h = record { broken = early; kept = λ f. absurd (not_both (sym f)) }
      by InBatch h = record { broken = early; kept = λ f. absurd (not_both (sym f)) }
      by Ended h = record { broken = λ cause column f. absurd (not_both f); kept = λ f. refl }
      by Closed h = record { broken = λ cause column f. absurd (not_both f); kept = λ f. going }
      by (Refused x) h = absurd (true≢false h)

  pub of_rest : (s : List ℕ) → Outcome st (end_of st s) (next_rules st (rest s))
  unfolding end_of
  of_rest [] = of_close
  of_rest (b ∷ s) = of_unended []

module _ {st after : Running} {rules : List Rule} (o : Outcome st after rules) where
  -- the refusal that a first fault gives
  pub refusal_given : (cause : Cause) (column : ℕ) → first_broken rules ≡ at cause column →
      answer_of after ≡ Some (Err (record { cause = cause; «record» = next_number st; column = column }))
  unfolding answer_at
  refusal_given cause column f = ap answer_of (o.broken cause column f)

  -- it is refused by the first rule that is broken
  pub refused_by : (x : Refusal) → answer_of after ≡ Some (Err x) → RefusedBy st rules x
  refused_by x e = by (first_broken rules) refl
    where
      by : (fault : Judged) → first_broken rules ≡ fault → RefusedBy st rules x
      by (Ok none) f = absurd (true≢false (sym (ap is_refusal e) ∙ o.kept f))
      by (Err fault) f =
          let given = refusal_given fault.cause fault.column f in
          let same : record { cause = fault.cause; «record» = next_number st; column = fault.column } ≡ x = cc in
          subst (RefusedBy st rules) same (record { number = refl; first_broken_lem = is_first rules fault.cause fault.column f })

  -- and by nothing else
  pub by_refused : (x : Refusal) → RefusedBy st rules x → answer_of after ≡ Some (Err x)
  by_refused x by =
      refusal_given x.cause x.column (gives_first by.first_broken_lem) ∙
      ap (λ (n : ℕ). Some (Err (record { cause = x.cause; «record» = n; column = x.column }))) (sym by.number)

  pub refused_exactly : (x : Refusal) → (answer_of after ≡ Some (Err x)) ↔ RefusedBy st rules x
  refused_exactly x = (refused_by x, by_refused x)

  -- it is not refused exactly where all rules hold
  pub not_refused_exactly : (is_refusal (answer_of after) ≡ false) ↔ (all_hold rules ≡ true)
  not_refused_exactly = (λ h. by (first_broken rules) refl h, λ all. o.kept (none_broken rules all))
    where
      by : (fault : Judged) → first_broken rules ≡ fault → is_refusal (answer_of after) ≡ false → all_hold rules ≡ true
      by (Ok none) f h = all_hold_lem rules f
      by (Err fault) f h = absurd (true≢false (sym (ap is_refusal (refusal_given fault.cause fault.column f)) ∙ h))
