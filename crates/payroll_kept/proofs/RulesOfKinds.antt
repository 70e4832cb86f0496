-- The rules that a run judges each kind by have no fault exactly where the record may stand there, its front is right, and each number that is due stands in
-- its place. One law for the shape that all kinds share, and then kind by kind.
use Prim.Native.Nat.{ℕ, ◌+◌, ◌-◌, ◌^◌, ◌≤◌, ◌<◌, min}
use mathlib.Core.Path.{◌≡◌, refl}
use mathlib.Core.Logic.{◌↔◌}
use mathlib.Core.List.{List, [], ◌∷◌, ◌++◌}
use mathlib.Core.Bool.{true}
use lib.Dec.{lit≤}
use Rattle.refusal.specs.Fault.{Judged, nothing}
use Rattle.refusal.specs.declared.Cause.TheVariants.{KindNotAllowedHere, SequenceWrong, TrailerDisagrees}
use Rattle.refusal.specs.Rules.{Rule, first_broken}
use Rattle.text.specs.Part.{positions}
use Rattle.totals.specs.Sum.{top}
use Rattle.payroll_record.specs.declared.kind.Kind.{Kind}
use Rattle.payroll_record.specs.declared.kind.Kind.TheVariants.{FileHeader, BatchHeader, BatchTrailer, FileTrailer}
use Rattle.payroll_record.specs.declared.reading.Reading.TheVariants.{Detail as detail}
use Rattle.payroll_record.specs.Front.{front_rules}
use Rattle.payroll_record.specs.FileHeader.{header_rules}
use Rattle.payroll_record.specs.Detail.{detail_of}
use Rattle.payroll_record.specs.FileTrailer.{trailer_front_rules}
use Rattle.payroll_record.specs.Reading.{read_as}
use Rattle.payroll_record.proofs.Fields.{Writes}
use Rattle.payroll_record.proofs.NoFault.{NoFault, none_of_one}
use Rattle.payroll_record.proofs.RightRecords.{FrontRight, HeaderRight, front_right, header_right, trailer_front_right}
use Rattle.payroll_run.specs.declared.running.Running.{Running}
use Rattle.payroll_run.specs.Stage.{placed}
use Rattle.payroll_step.specs.Due.{place_rule, Due, due_in_detail, due_of}
use Rattle.payroll_step.specs.Rules.{found_rules, due_rules, numbers_in, judged_rules, rules_of}
use Rattle.payroll_kept.specs.Fields.{Holds}
use Rattle.payroll_kept.proofs.Rules.{rows, found, number_holds, at_most_holds, below_holds}
use Rattle.payroll_kept.proofs.Plain.{cap, cap_more}

module _ (st : Running) (r : List ℕ) where
  -- its place, what is in front, the numbers that are due, and what is behind them
  judged_rules_lem : {X Y Z : Type 0} (kind : Kind) (front : Judged) (dues : List Due) (behind : List Rule) → (NoFault (found_rules front) ↔ X) →
      (NoFault (due_rules dues (numbers_in dues r)) ↔ Y) → (NoFault behind ↔ Z) →
      (NoFault (judged_rules (cap st) kind front dues (numbers_in dues r) behind) ↔ (placed st.stage st.is_return kind ≡ true) × (X × (Y × Z)))
  judged_rules_lem kind front dues behind p q s =
      let numbers = due_rules dues (numbers_in dues r) in
      rows (place_rule (cap st) kind ∷ []) (found_rules front ++ (numbers ++ behind)) (none_of_one KindNotAllowedHere 0 (placed st.stage st.is_return kind))
      (rows (found_rules front) (numbers ++ behind) p (rows numbers behind q s))

  -- no rule, and a number that is due, before others
  none : NoFault [] ↔ Unit {0}
  unfolding first_broken
  none = (λ e. tt, λ u. refl)

  none_due : NoFault (due_rules [] []) ↔ Unit {0}
  unfolding due_rules
  none_due = none

  due_row : {Y : Type 0} (d : Due) (ds : List Due) (n : ℕ) → d.number ≡ min n top → d.last - (d.first - 1) ≤ 18 →
      (NoFault (due_rules ds (numbers_in ds r)) ↔ Y) → (NoFault (due_rules (d ∷ ds) (numbers_in (d ∷ ds) r)) ↔ Holds d.first d.last n r × Y)
  unfolding due_rules
  due_row d ds n e h p = rows _ _ (number_holds d.cause d.first d.last r d.number n e h) p

  front : NoFault (found_rules (first_broken (front_rules r))) ↔ FrontRight r
  front = found (front_rules r) (front_right r)

  -- the rules of each kind
  pub header_rules_lem : NoFault (rules_of (cap st) (read_as FileHeader r)) ↔
      (placed st.stage st.is_return FileHeader ≡ true) × (HeaderRight r × (Unit {0} × Unit {0}))
  unfolding rules_of read_as
  header_rules_lem = judged_rules_lem FileHeader _ (due_of FileHeader (cap st)) [] (found (header_rules r) (header_right r)) none_due none

  pub batch_header_rules : NoFault (rules_of (cap st) (read_as BatchHeader r)) ↔
      (placed st.stage st.is_return BatchHeader ≡ true) × (FrontRight r × ((Holds 4 7 (st.batches + 1) r × Unit {0}) × (st.batches + 1 ≤ 9998)))
  unfolding rules_of read_as
  batch_header_rules =
      let next = cap_more st.batches 1 in
      judged_rules_lem BatchHeader _ (due_of BatchHeader (cap st)) _ front (due_row _ [] (st.batches + 1) next (lit≤ tt) none_due)
      (at_most_holds SequenceWrong 4 _ (st.batches + 1) next)

  pub detail_rules : {X : Type 0} (kind : Kind) (rest : Judged) (paid : ℕ) → (NoFault (found_rules rest) ↔ X) →
      (NoFault (rules_of (cap st) (detail (detail_of kind rest paid r))) ↔
      (placed st.stage st.is_return kind ≡ true) × (FrontRight r × ((Holds 4 7 st.batches r × (Holds 9 13 (st.batch.details + 1) r × Unit {0})) × X)))
  unfolding rules_of
  detail_rules kind rest paid p =
      judged_rules_lem kind _ (due_in_detail (cap st)) _ front
      (due_row _ _ st.batches refl (lit≤ tt) (due_row _ [] (st.batch.details + 1) (cap_more st.batch.details 1) (lit≤ tt) none_due)) p

  pub nothing_found : NoFault (found_rules nothing) ↔ Unit {0}
  unfolding found_rules
  nothing_found = none

  pub batch_trailer_rules : NoFault (rules_of (cap st) (read_as BatchTrailer r)) ↔
      (placed st.stage st.is_return BatchTrailer ≡ true) ×
      (FrontRight r × ((Holds 4 7 st.batches r × (Holds 18 23 (st.batch.records + 1) r × (Holds 24 41 st.batch.sum r × Unit {0}))) × Unit {0}))
  unfolding rules_of read_as
  batch_trailer_rules =
      judged_rules_lem BatchTrailer _ (due_of BatchTrailer (cap st)) [] front
      (due_row _ _ st.batches refl (lit≤ tt)
      (due_row _ _ (st.batch.records + 1) (cap_more st.batch.records 1) (lit≤ tt) (due_row _ [] st.batch.sum refl (lit≤ tt) none_due))) none

  pub file_trailer_rules : NoFault (rules_of (cap st) (read_as FileTrailer r)) ↔
      (placed st.stage st.is_return FileTrailer ≡ true) ×
      ((FrontRight r × Writes (positions 4 7 r) 9999) × ((Holds 18 23 st.batches r × (Holds 24 29 (st.records + 1) r × Unit {0})) × (st.amount < 10 ^ 19)))
  unfolding rules_of read_as
  file_trailer_rules =
      judged_rules_lem FileTrailer _ (due_of FileTrailer (cap st)) _ (found (trailer_front_rules r) (trailer_front_right r))
      (due_row _ _ st.batches refl (lit≤ tt) (due_row _ [] (st.records + 1) (cap_more st.records 1) (lit≤ tt) none_due))
      (below_holds TrailerDisagrees 0 _ st.amount refl)
