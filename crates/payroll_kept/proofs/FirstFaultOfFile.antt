-- THE FIRST FAULT of a payroll file. A file has no fault, or a first one (first_fault), and nothing is run for that; since the run stands at the state of the records before
-- (State), each of the two leads to its own answer, so each answer comes from the one that it says.
use Prim.Native.Nat.{ℕ, suc}
use mathlib.Core.Path.{◌≡◌, refl, sym, ◌∙◌, ap, subst}
use mathlib.Core.Logic.{◌⊎◌, inl, inr}
use mathlib.Core.List.{List, [], ◌∷◌}
use lib.ListN.{length}
use Rattle.std.specs.Prelude.{Ok, Err}
use Rattle.refusal.specs.declared.Cause.{Cause}
use Rattle.refusal.specs.declared.Refusal.{Refusal}
use Rattle.refusal.specs.Rules.{first_broken}
use Rattle.refusal.proofs.Rules.{none_broken, gives_first}
use Rattle.lines.specs.Lines.{cut}
use Rattle.first_fault.specs.InTurn.{rest, FirstFault, NoFault}
use Rattle.first_fault.proofs.InTurn.{none_or_first}
use Rattle.payroll_file.specs.declared.answer.Accepted.{Accepted}
use Rattle.payroll_run.specs.State.{opened, next_number}
use Rattle.payroll_file.specs.Answer.{payroll_row, PayrollAnswer}
use Rattle.payroll_file.proofs.FileRows.{same_answer, is_accepted_lem}
use Rattle.payroll_file.specs.PayrollFile.{accepted, check_of}
use Rattle.payroll_kept.specs.Accepts.{Accepts}
use Rattle.payroll_kept.specs.State.{stayed, state_behind}
use Rattle.payroll_kept.specs.FirstFaultOfFile.{next_rules, rules_behind, FirstFaultOfFile, FirstFaultDecides}
use Rattle.payroll_kept.proofs.Known.{clash}
use Rattle.payroll_kept.proofs.Pieces.{answered, rest_answered, finished, finished_pieces, next_refused}
use Rattle.payroll_kept.proofs.State.{goes_on, state_known}

module _ (file : List ℕ) where
  accepted_no_refusal : {A : Type 0} {x : Refusal} {a : Accepted} → ◌≡◌ {A = PayrollAnswer} (Err x) (Ok a) → A
  accepted_no_refusal e = clash (cc)

  -- a first fault leads to its refusal
  fault_refused : (x : Refusal) → FirstFaultOfFile file x → check_of file ≡ Err x
  unfolding finished
  fault_refused x f =
      let w = f.fault in
      let st = state_behind w.earlier in
      let known = state_known w.earlier w.all_hold_lem in
      let first = ap (λ s. first_broken (next_rules s w.here)) known.is ∙ gives_first w.first_broken_lem in
      let given = next_refused st w.here w.later x.cause x.column (goes_on w.earlier w.all_hold_lem) first in
      let number : next_number st ≡ x.«record» = known.number ∙ sym f.number in
      sym (finished_pieces opened (cut file).pieces (rest (cut file).rest ∷ [])) ∙ ap (finished opened) w.split ∙
      finished_pieces opened w.earlier (w.here ∷ w.later) ∙ given ∙
      (λ i. Err (record { cause = x.cause; «record» = number i; column = x.column }))

  -- and where there is none the file is accepted
  none_accepted : NoFault rules_behind file → check_of file ≡ accepted (state_behind (cut file).pieces)
  none_accepted none =
      let st = state_behind (cut file).pieces in
      let known = state_known (cut file).pieces none.pieces_hold_lem in
      let end = ap (λ s. first_broken (next_rules s (rest (cut file).rest))) known.is ∙ none_broken _ none.rest_holds in
      rest_answered st (cut file).rest (goes_on (cut file).pieces none.pieces_hold_lem) ∙ ap (answered st) end

  -- one of the two it is
  refused_from : (x : Refusal) → check_of file ≡ Err x → NoFault rules_behind file ⊎ ((cause : Cause) × (column : ℕ) × FirstFault rules_behind file cause column) →
      FirstFaultOfFile file x
  refused_from x e (inl none) = accepted_no_refusal (sym e ∙ none_accepted none)
  refused_from x e (inr (cause, column, w)) =
      let y : Refusal = record { cause = cause; «record» = stayed (suc (length w.earlier)); column = column } in
      let first : FirstFaultOfFile file y = record { fault = w; number = refl } in
      let given = fault_refused y first in
      let same : y ≡ x = cc in
      subst (FirstFaultOfFile file) same first

  accepted_from : Accepts file → NoFault rules_behind file ⊎ ((cause : Cause) × (column : ℕ) × FirstFault rules_behind file cause column) → NoFault rules_behind file
  accepted_from a (inl none) = none
  accepted_from a (inr (cause, column, w)) =
      accepted_no_refusal (sym (fault_refused (record { cause = cause; «record» = _; column = column }) (record { fault = w; number = refl })) ∙ a.answer)

  -- THE THEOREM of a file
  pub first_fault_decides : FirstFaultDecides file
  unfolding payroll_row
  first_fault_decides =
      let found = none_or_first rules_behind file in
      record {
        is_refused_lem = λ x. (λ e. refused_from x (same_answer _ (Err x) e) found, λ f. ap payroll_row (fault_refused x f));
        is_accepted_lem = (
          λ e. accepted_from (record { numbers = _; answer = is_accepted_lem _ e }) found,
          λ none. ap (λ answer. (payroll_row answer).accepted) (none_accepted none),
        );
      }
