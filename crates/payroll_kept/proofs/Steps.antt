-- One record more: a run goes on exactly where the record may stand there and keeps the rules. By the stage, and by what the record reads as.
use Prim.Native.Nat.{ℕ}
use mathlib.Core.Path.{◌≡◌, refl, sym, ◌∙◌, ap}
use mathlib.Core.List.{List}
use mathlib.Core.Bool.{Bool, true, false, cond, false≢true}
use lib.ListN.{length}
use lib.Dec.{eqb}
use borrow.Author.Tests.{eqb-true}
use Rattle.refusal.specs.Fault.{Judged, nothing}
use Rattle.std.specs.Prelude.{Ok, Err}
use Rattle.refusal.specs.Rules.{first_broken}
use Rattle.refusal.proofs.Faults.{not_both}
use Rattle.payroll_record.specs.declared.kind.Kind.{Kind}
use Rattle.payroll_record.specs.declared.kind.NoKind.TheVariants.{UnknownKind, UnknownSegment}
use Rattle.payroll_record.specs.declared.reading.Reading.{Reading}
use Rattle.payroll_record.specs.declared.reading.Reading.TheVariants.{WrongWidth as wrong_width}
use Rattle.payroll_record.specs.Kind.{kind_of, KindFound}
use Rattle.payroll_record.specs.Reading.{read_as, read_found, reading_of}
use Rattle.payroll_record.proofs.NoFault.{NoFault}
use Rattle.payroll_record.proofs.Readings.{as_found}
use Rattle.payroll_run.specs.declared.stage.Stage.{Stage}
use Rattle.payroll_run.specs.declared.stage.Stage.TheVariants.{Start, BetweenBatches, InBatch, BehindA, BehindB, Ended, Refused}
use Rattle.payroll_run.specs.declared.running.Running.{Running}
use Rattle.payroll_run.specs.Stage.{placed}
use Rattle.payroll_step.specs.Rules.{rules_of}
use Rattle.payroll_step.specs.Step.{behind_or_refused, judged_of, took_at, took_of}
use Rattle.payroll_kept.proofs.Going.{Going}
use Rattle.payroll_kept.proofs.Plain.{cap, behind_plain, behind_is}
use Rattle.payroll_kept.proofs.Next.{Next, is_next, none_broken, amounts}

-- a record taken by a run
abbrev pub took_record : Running → List ℕ → Running
took_record st r = took_of st (reading_of r)

-- where a kind may stand, what was read is judged
is_judged : (s : Stage) (returned : Bool) (kind : Kind) (st : Running) (reading : Reading) → placed s returned kind ≡ true → took_at s st reading ≡ judged_of st reading
unfolding took_at
is_judged Start t kind st reading p = refl
is_judged BetweenBatches t kind st reading p = refl
is_judged InBatch t kind st reading p = refl
is_judged BehindA t kind st reading p = refl
is_judged BehindB t kind st reading p = refl
is_judged Ended t kind st reading p = absurd (false≢true p)
is_judged (Refused x) t kind st reading p = absurd (false≢true p)

-- a record that may stand there and keeps the rules is taken
pub step : (kind : Kind) (st : Running) (r : List ℕ) → Next kind st r → took_record (cap st) r ≡ cap (behind_plain kind st r)
unfolding behind_or_refused read_found
step kind st r n =
    let b = none_broken kind st r n in
    ap (took_of (cap st)) (as_found r (Ok kind) b.is) ∙
    is_judged st.stage st.is_return kind (cap st) (read_as kind r) n.place ∙
    ap (behind_or_refused (cap st) (read_as kind r)) b.none ∙
    behind_is st kind r (amounts kind st r n.kept)

-- and no other
pub record Stepped (st : Running) (r : List ℕ) : Type 0 where
  pub kind : Kind
  pub next : Next kind st r

module _ (st : Running) where
  by_fault : (reading : Reading) (fault : Judged) → Going (behind_or_refused st reading fault) → fault ≡ nothing
  unfolding behind_or_refused
  by_fault reading (Ok none) going = refl
  by_fault reading (Err fault) going = absurd (going _ refl)

  judged : (reading : Reading) → Going (judged_of st reading) → NoFault (rules_of st reading)
  judged reading going = by_fault reading (first_broken (rules_of st reading)) going

  by_stage : (s : Stage) (reading : Reading) → st.stage ≡ s → Going (took_at s st reading) → NoFault (rules_of st reading)
  unfolding took_at
  by_stage Start reading q going = judged reading going
  by_stage BetweenBatches reading q going = judged reading going
  by_stage InBatch reading q going = judged reading going
  by_stage BehindA reading q going = judged reading going
  by_stage BehindB reading q going = judged reading going
  by_stage Ended reading q going = absurd (going _ refl)
  by_stage (Refused x) reading q going = absurd (going x q)

pub stepped : (st : Running) (r : List ℕ) → Going (took_record (cap st) r) → Stepped st r
unfolding rules_of read_found first_broken
stepped st r going = by (eqb (length r) 240) (kind_of r) refl refl (by_stage (cap st) st.stage (reading_of r) refl going)
  where
    by : (w : Bool) (f : KindFound) → eqb (length r) 240 ≡ w → kind_of r ≡ f → NoFault (rules_of (cap st) (cond w (read_found f r) wrong_width)) → Stepped st r
    by true (Ok kind) wide is none =
        record { kind = kind; next = is_next kind st r (record { is = record { wide = eqb-true (length r) 240 wide; kind = is }; none = none }) }
    by true (Err UnknownKind) wide is none = absurd (not_both (sym none))
    by true (Err UnknownSegment) wide is none = absurd (not_both (sym none))
    by false f wide is none = absurd (not_both (sym none))
