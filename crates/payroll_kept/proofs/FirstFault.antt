-- THE FIRST FAULT of a payroll record: the first fault of the one list decides what comes behind the record, so it is refused by that fault or not at all.
use Prim.Native.Nat.{ℕ}
use mathlib.Core.Path.{◌≡◌, refl, sym, ◌∙◌, ap, subst}
use mathlib.Core.Logic.{◌↔◌}
use mathlib.Core.List.{List}
use mathlib.Core.Bool.{true}
use Rattle.refusal.proofs.Faults.{same_fault}
use Rattle.refusal.specs.Fault.{Judged}
use Rattle.std.specs.Prelude.{Ok, Err}
use Rattle.refusal.specs.declared.Cause.{Cause}
use Rattle.refusal.specs.declared.Refusal.{Refusal}
use Rattle.refusal.specs.Rules.{first_broken, all_hold}
use Rattle.refusal.proofs.Rules.{all_hold_lem, none_broken, is_first, gives_first}
use Rattle.payroll_record.specs.declared.kind.Kind.{Kind}
use Rattle.payroll_record.specs.declared.kind.Kind.TheVariants.{FileHeader, BatchHeader, SegmentA, SegmentB, SegmentZ, BatchTrailer, FileTrailer}
use Rattle.payroll_record.specs.declared.reading.Reading.{Reading}
use Rattle.payroll_record.specs.declared.reading.Reading.TheVariants.{
  WrongWidth as wrong_width,
  Unknown as unknown,
  FileHeader as file_header,
  BatchHeader as batch_header,
  Detail as detail,
  BatchTrailer as batch_trailer,
  FileTrailer as file_trailer,
}
use Rattle.payroll_record.specs.Reading.{reading_of}
use Rattle.payroll_run.specs.declared.stage.Stage.TheVariants.{Refused}
use Rattle.payroll_run.specs.declared.running.Running.{Running}
use Rattle.payroll_run.specs.State.{refusal_at}
use Rattle.payroll_run.specs.Behind.{behind_detail_as, behind}
use Rattle.payroll_step.specs.Step.{behind_or_refused, took_of}
use Rattle.payroll_kept.specs.FirstFault.{record_rules, RefusedBy, FirstFaultOfRecord}
use Rattle.payroll_kept.proofs.Going.{Going}
use Rattle.payroll_file.proofs.FileRows.{refused_stage, going_stage}
use Rattle.payroll_kept.proofs.Known.{clash}
use Rattle.payroll_kept.proofs.AtItsPlace.{by_the_list}

-- behind a record nothing is refused
module _ (st : Running) (going : Going st) where
  detail_goes_on : (kind : Kind) (amount : ℕ) → Going (behind_detail_as kind st amount)
  unfolding behind_detail_as
  detail_goes_on FileHeader amount = going
  detail_goes_on BatchHeader amount = going
  detail_goes_on SegmentA amount = λ x q. clash (cc)
  detail_goes_on SegmentB amount = λ x q. clash (cc)
  detail_goes_on SegmentZ amount = λ x q. clash (cc)
  detail_goes_on BatchTrailer amount = going
  detail_goes_on FileTrailer amount = going

  pub goes_on : (reading : Reading) → Going (behind st reading)
  unfolding behind
  goes_on wrong_width = going
  goes_on (unknown x) = going
  goes_on (file_header x) = λ x q. clash (cc)
  goes_on (batch_header x) = λ x q. clash (cc)
  goes_on (detail d) = detail_goes_on d.segment d.amount
  goes_on (batch_trailer x) = λ x q. clash (cc)
  goes_on (file_trailer x) = λ x q. clash (cc)

-- the refusal at a record names its cause and its column
names : (st : Running) (cause : Cause) (column : ℕ) (refusal : Refusal) → Refused (refusal_at cause column st) ≡ Refused refusal → refusal_at cause column st ≡ refusal
names st cause column refusal e = cc

-- the theorem, said of the stage behind the record
record ByStage (st : Running) (r : List ℕ) : Type 0 where
  is_refused_lem : (refusal : Refusal) → ((took_of st (reading_of r)).stage ≡ Refused refusal) ↔ RefusedBy st (record_rules st r) refusal
  is_not : Going (took_of st (reading_of r)) ↔ (all_hold (record_rules st r) ≡ true)

module _ (st : Running) (r : List ℕ) (going : Going st) where
  by_fault : (fault : Judged) → first_broken (record_rules st r) ≡ fault → took_of st (reading_of r) ≡ behind_or_refused st (reading_of r) fault → ByStage st r
  unfolding behind_or_refused
  by_fault (Ok none) f e =
      let on : Going (took_of st (reading_of r)) = λ x q. goes_on st going (reading_of r) x (sym (ap (λ next. next.stage) e) ∙ q) in
      record {
        is_refused_lem = λ x. (λ q. absurd (on x q), λ by. clash (let z = sym f ∙ gives_first by.first_broken_lem in cc));
        is_not = (λ g. all_hold_lem (record_rules st r) f, λ h. on);
      }
  by_fault (Err fault) f e =
      let stopped : (took_of st (reading_of r)).stage ≡ Refused (refusal_at fault.cause fault.column st) = ap (λ next. next.stage) e in
      record {
        is_refused_lem = λ x. (
          λ q. subst (RefusedBy st (record_rules st r)) (names st fault.cause fault.column x (sym stopped ∙ q))
              (record { number = refl; first_broken_lem = is_first (record_rules st r) fault.cause fault.column f }),
          λ by.
              let same = same_fault (sym f ∙ gives_first by.first_broken_lem) in
              let c : fault.cause ≡ x.cause = ap (λ f. f.cause) same in
              let k : fault.column ≡ x.column = ap (λ f. f.column) same in
              let n = by.number in
              stopped ∙ (λ i. Refused (record { cause = c i; «record» = sym n i; column = k i })),
        );
        is_not = (
          λ g. absurd (g _ stopped),
          λ h. clash (let z = sym f ∙ none_broken (record_rules st r) h in cc),
        );
      }

  -- THE THEOREM of a record, in every state that is not refused
  pub first_fault_of_record : FirstFaultOfRecord st r
  first_fault_of_record =
      let stage = (took_of st (reading_of r)).stage in
      let by = by_fault (first_broken (record_rules st r)) refl (by_the_list st r going) in
      record {
        is_refused_lem = λ x. (λ e. (by.is_refused_lem x).0 ((refused_stage stage x).0 e), λ w. (refused_stage stage x).1 ((by.is_refused_lem x).1 w));
        is_not = (λ e. by.is_not.0 ((going_stage stage).0 e), λ h. (going_stage stage).1 (by.is_not.1 h));
      }
