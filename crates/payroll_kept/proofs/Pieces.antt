-- What comes next in a payroll file, a piece or the rest, is judged by the first fault of its rules: a run goes on behind it, or ends with that fault.
use Prim.Native.Nat.{ℕ}
use mathlib.Core.Path.{◌≡◌, refl, sym, ◌∙◌, ap}
use mathlib.Core.List.{List, [], ◌∷◌, ◌++◌, map}
use mathlib.Core.Bool.{Bool, true, false, cond, not, ◌||◌}
use Rattle.payroll_file.specs.Answer.{PayrollAnswer}
use Rattle.refusal.specs.Fault.{Judged, nothing, at}
use Rattle.std.specs.Prelude.{Ok, Err}
use Rattle.refusal.specs.declared.Cause.{Cause}
use Rattle.refusal.specs.declared.Cause.TheVariants.{NoLineEnd, BytesAfterTheEnd}
use Rattle.refusal.specs.declared.Refusal.{Refusal}
use Rattle.refusal.specs.Rules.{rule_at, first_broken}
use Rattle.text.specs.Literal.{same_bytes}
use Rattle.lines.specs.Lines.{ends_in_cr, without_last}
use Rattle.first_fault.specs.InTurn.{Next, piece, rest}
use Rattle.payroll_record.specs.Reading.{reading_of}
use Rattle.payroll_run.specs.declared.stage.Stage.{Stage}
use Rattle.payroll_run.specs.declared.stage.Stage.TheVariants.{Start, BetweenBatches, InBatch, BehindA, BehindB, Ended, Refused}
use Rattle.payroll_run.specs.declared.running.Running.{Running}
use Rattle.payroll_run.specs.State.{refusal_at}
use Rattle.payroll_step.specs.Step.{behind_or_refused}
use Rattle.payroll_file.specs.PayrollFile.{unended_at, unended_of, line_of, lines_of, accepted, ended_of, cut_short_of, end_at, end_of}
use Rattle.payroll_kept.specs.FirstFault.{ended, end_rule, rules_from_width}
use Rattle.payroll_kept.proofs.Going.{Going}
use Rattle.payroll_kept.specs.FirstFaultOfFile.{next_rules}
use Rattle.payroll_kept.proofs.Steps.{took_record}
use Rattle.payroll_kept.proofs.Refused.{line_same}
use Rattle.payroll_kept.proofs.AtItsPlace.{by_the_list}
use Rattle.payroll_kept.proofs.FirstFault.{goes_on}

-- a piece: its first fault decides what comes behind it
piece_judged : (st : Running) (p : List ℕ) → Going st → line_of st p ≡ behind_or_refused st (reading_of (without_last p)) (first_broken (next_rules st (piece p)))
unfolding first_broken behind_or_refused unended_at
piece_judged st p going = by (ends_in_cr p)
  where
    unended : (s : Stage) → st.stage ≡ s →
        unended_at s st ≡
        behind_or_refused st (reading_of (without_last p)) (first_broken (rule_at BytesAfterTheEnd 0 (not (ended s)) ∷ rule_at NoLineEnd 0 false ∷ rules_from_width st (without_last p)))
    unended Start q = refl
    unended BetweenBatches q = refl
    unended InBatch q = refl
    unended BehindA q = refl
    unended BehindB q = refl
    unended Ended q = refl
    unended (Refused x) q = absurd (going x q)

    by : (t : Bool) →
        cond t (took_record st (without_last p)) (unended_of st) ≡
        behind_or_refused st (reading_of (without_last p)) (first_broken (end_rule st ∷ rule_at NoLineEnd 0 t ∷ rules_from_width st (without_last p)))
    by true = by_the_list st (without_last p) going
    by false = unended st.stage refl

-- the rest: its first fault is the answer
abbrev pub answered : Running → Judged → PayrollAnswer
answered st (Ok none) = accepted st
answered st (Err fault) = Err (refusal_at fault.cause fault.column st)

pub rest_answered : (st : Running) (left : List ℕ) → Going st → end_of st left ≡ answered st (first_broken (next_rules st (rest left)))
unfolding first_broken end_at ended_of cut_short_of
rest_answered st [] going = by st.stage refl
  where
    by : (s : Stage) → st.stage ≡ s → end_at s st [] ≡ answered st (first_broken (next_rules st (rest [])))
    by Start q = refl
    by BetweenBatches q = refl
    by InBatch q = refl
    by BehindA q = refl
    by BehindB q = refl
    by Ended q = refl
    by (Refused x) q = absurd (going x q)
rest_answered st (b ∷ s) going = by st.stage (same_bytes (b ∷ s) (26 ∷ [])) refl refl
  where
    by : (g : Stage) (t : Bool) → st.stage ≡ g → same_bytes (b ∷ s) (26 ∷ []) ≡ t →
        end_at g st (b ∷ s) ≡ answered st (first_broken (rule_at BytesAfterTheEnd 0 (not (ended g) || t) ∷ rule_at NoLineEnd 0 (ended g) ∷ []))
    by Start t q e = refl
    by BetweenBatches t q e = refl
    by InBatch t q e = refl
    by BehindA t q e = refl
    by BehindB t q e = refl
    by Ended true q e = rw e
    by Ended false q e = rw e
    by (Refused x) t q e = absurd (going x q)

-- a piece that keeps the rules leaves a run that is not refused
pub piece_goes_on : (st : Running) (p : List ℕ) → Going st → first_broken (next_rules st (piece p)) ≡ nothing → Going (line_of st p)
unfolding behind_or_refused
piece_goes_on st p going f x q =
    let is = piece_judged st p going ∙ ap (behind_or_refused st (reading_of (without_last p))) f in
    goes_on st going (reading_of (without_last p)) x (sym (ap (λ next. next.stage) is) ∙ q)

-- and one that breaks them a refused one
pub piece_stops : (st : Running) (p : List ℕ) (cause : Cause) (column : ℕ) → Going st → first_broken (next_rules st (piece p)) ≡ at cause column →
    (line_of st p).stage ≡ Refused (refusal_at cause column st)
unfolding behind_or_refused
piece_stops st p cause column going f =
    ap (λ next. next.stage) (piece_judged st p going ∙ ap (behind_or_refused st (reading_of (without_last p))) f)

-- what is left of a file, in turn
unfoldable pub finished : Running → List Next → PayrollAnswer
finished st [] = end_of st []
finished st (piece p ∷ xs) = finished (line_of st p) xs
finished st (rest s ∷ xs) = end_of st s

pub finished_pieces : (st : Running) (ps : List (List ℕ)) (xs : List Next) → finished st (map piece ps ++ xs) ≡ finished (lines_of st ps) xs
unfolding finished lines_of
finished_pieces st [] xs = refl
finished_pieces st (p ∷ ps) xs = finished_pieces (line_of st p) ps xs

finished_refused : (st : Running) (x : Refusal) (xs : List Next) → st.stage ≡ Refused x → finished st xs ≡ Err x
unfolding finished end_at
finished_refused st x [] q = ap (λ s. end_at s st []) q
finished_refused st x (piece p ∷ xs) q = ap (λ next. finished next xs) (line_same st x q p) ∙ finished_refused st x xs q
finished_refused st x (rest s ∷ xs) q = ap (λ g. end_at g st s) q

-- what comes next breaks a rule: the answer is the first one's refusal
pub next_refused : (st : Running) (here : Next) (later : List Next) (cause : Cause) (column : ℕ) → Going st → first_broken (next_rules st here) ≡ at cause column →
    finished st (here ∷ later) ≡ Err (refusal_at cause column st)
unfolding finished
next_refused st (piece p) later cause column going f =
    finished_refused (line_of st p) (refusal_at cause column st) later (piece_stops st p cause column going f)
next_refused st (rest s) later cause column going f = rest_answered st s going ∙ ap (answered st) f
