-- A record at its place is judged by the first fault of the one list of rules: what reading found of rules has their first fault. Kind by kind, then by the
-- width, the kind that was found, and the stage.
use Prim.Native.Nat.{ℕ}
use mathlib.Core.Path.{◌≡◌, refl, sym, ◌∙◌, ap}
use mathlib.Core.List.{List, [], ◌∷◌, ◌++◌}
use mathlib.Core.Bool.{Bool, true, false, cond, not}
use lib.ListN.{length}
use lib.Dec.{eqb}
use Rattle.std.specs.Prelude.{Ok, Err}
use Rattle.refusal.specs.declared.Cause.TheVariants.{KindUnknown, WrongWidth, BytesAfterTheEnd}
use Rattle.refusal.specs.Rules.{Rule, rule_at, first_broken}
use Rattle.refusal.proofs.Rules.{same_row}
use Rattle.text.specs.Part.{positions}
use Rattle.text.specs.Number.{Number}
use Rattle.payroll_record.specs.declared.kind.Kind.{Kind}
use Rattle.payroll_record.specs.declared.kind.Kind.TheVariants.{FileHeader, BatchHeader, SegmentA, SegmentB, SegmentZ, BatchTrailer, FileTrailer}
use Rattle.payroll_record.specs.declared.kind.NoKind.TheVariants.{UnknownKind, UnknownSegment}
use Rattle.payroll_record.specs.declared.reading.Reading.TheVariants.{WrongWidth as wrong_width}
use Rattle.payroll_record.specs.Kind.{kind_of, KindFound}
use Rattle.payroll_record.specs.Front.{front_rules}
use Rattle.payroll_record.specs.FileHeader.{header_rules}
use Rattle.payroll_record.specs.Detail.{payment_rules}
use Rattle.payroll_record.specs.FileTrailer.{trailer_front_rules}
use Rattle.payroll_record.specs.Reading.{read_as, read_found, reading_of}
use Rattle.payroll_run.specs.declared.stage.Stage.{Stage}
use Rattle.payroll_run.specs.declared.stage.Stage.TheVariants.{Start, BetweenBatches, InBatch, BehindA, BehindB, Ended, Refused}
use Rattle.payroll_run.specs.declared.running.Running.{Running}
use Rattle.payroll_step.specs.Due.{place_rule, Due, due_in_detail, due_of}
use Rattle.payroll_step.specs.Rules.{found_rules, due_rules, placed_rules, judged_rules, rules_of}
use Rattle.payroll_step.specs.Step.{behind_or_refused, took_at, took_of}
use Rattle.payroll_step.proofs.Found.{found}
use Rattle.payroll_kept.specs.FirstFault.{rules_as, ended, kind_known, segment_known, rules_from_width, record_rules}
use Rattle.payroll_kept.proofs.Going.{Going}
use Rattle.payroll_kept.proofs.Names.{kind_named_lem}
use Rattle.payroll_kept.proofs.Known.{both_known, no_kind}

module _ (st : Running) (r : List ℕ) where
  -- what reading found of rules in front and behind has the first fault of these rules
  as_found : (kind : Kind) (front : List Rule) (dues : List Due) (numbers : List Number) (behind rest : List Rule) → first_broken behind ≡ first_broken rest →
      first_broken (judged_rules st kind (first_broken front) dues numbers behind) ≡ first_broken (placed_rules st kind front dues numbers rest)
  as_found kind front dues numbers behind rest q =
      same_row (place_rule st kind ∷ []) (place_rule st kind ∷ []) (found_rules (first_broken front) ++ (due_rules dues numbers ++ behind)) (front ++ (due_rules dues numbers ++ rest)) refl
      (same_row (found_rules (first_broken front)) front (due_rules dues numbers ++ behind) (due_rules dues numbers ++ rest) (sym (found (first_broken front)))
      (same_row (due_rules dues numbers) (due_rules dues numbers) behind rest refl q))

  kind_fault : (kind : Kind) → first_broken (rules_of st (read_as kind r)) ≡ first_broken (rules_as (Ok kind) st r)
  unfolding rules_of read_as found_rules
  kind_fault FileHeader = as_found FileHeader (header_rules r) (due_of FileHeader st) _ _ _ refl
  kind_fault BatchHeader = as_found BatchHeader (front_rules r) (due_of BatchHeader st) _ _ _ refl
  kind_fault SegmentA = as_found SegmentA (front_rules r) (due_in_detail st) _ _ _ (sym (found (first_broken (payment_rules r))))
  kind_fault SegmentB = as_found SegmentB (front_rules r) (due_in_detail st) _ _ _ refl
  kind_fault SegmentZ = as_found SegmentZ (front_rules r) (due_in_detail st) _ _ _ refl
  kind_fault BatchTrailer = as_found BatchTrailer (front_rules r) (due_of BatchTrailer st) _ _ _ refl
  kind_fault FileTrailer = as_found FileTrailer (trailer_front_rules r) (due_of FileTrailer st) _ _ _ refl

-- the list's fault from the width on is that of the rules that the run goes by
same_fault : (st : Running) (r : List ℕ) →
    first_broken (rules_of st (reading_of r)) ≡ first_broken (rules_from_width st r)
unfolding first_broken rules_of read_found
same_fault st r = by (eqb (length r) 240) (kind_of r) refl refl
  where
    by : (w : Bool) (f : KindFound) → eqb (length r) 240 ≡ w → kind_of r ≡ f →
        first_broken (rules_of st (cond w (read_found f r) wrong_width)) ≡
        first_broken (rule_at WrongWidth 0 w ∷ rule_at KindUnknown 8 (kind_known r) ∷ rule_at KindUnknown 14 (segment_known r) ∷ rules_as f st r)
    by false f wide is = refl
    by true (Ok kind) wide is =
        let tests = both_known (positions 8 8 r) (positions 14 14 r) kind (kind_named_lem (positions 8 8 r) (positions 14 14 r) kind is) in
        kind_fault st r kind ∙ rw (tests.0, tests.1)
    by true (Err UnknownKind) wide is = rw ((no_kind (positions 8 8 r) (positions 14 14 r) (Err UnknownKind) is).0 refl)
    by true (Err UnknownSegment) wide is =
        let tests = (no_kind (positions 8 8 r) (positions 14 14 r) (Err UnknownSegment) is).1 refl in
        rw (tests.0, tests.1)

-- so the first fault of the list decides what comes behind a record
pub by_the_list : (st : Running) (r : List ℕ) → Going st → took_of st (reading_of r) ≡ behind_or_refused st (reading_of r) (first_broken (record_rules st r))
unfolding first_broken took_at behind_or_refused
by_the_list st r going = by st.stage refl
  where
    by : (s : Stage) → st.stage ≡ s →
        took_at s st (reading_of r) ≡
        behind_or_refused st (reading_of r)
        (first_broken (rule_at BytesAfterTheEnd 0 (not (ended s)) ∷ rules_from_width st r))
    by Start q = ap (behind_or_refused st (reading_of r)) (same_fault st r)
    by BetweenBatches q = ap (behind_or_refused st (reading_of r)) (same_fault st r)
    by InBatch q = ap (behind_or_refused st (reading_of r)) (same_fault st r)
    by BehindA q = ap (behind_or_refused st (reading_of r)) (same_fault st r)
    by BehindB q = ap (behind_or_refused st (reading_of r)) (same_fault st r)
    by Ended q = refl
    by (Refused x) q = absurd (going x q)
