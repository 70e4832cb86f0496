-- THE THEOREMS: the check accepts exactly the payroll files that keep document 01's rules, and an accepted file's numbers are the plain ones.
use Prim.Native.Nat.{ℕ}
use mathlib.Core.Path.{◌≡◌, sym, ◌∙◌, subst}
use mathlib.Core.List.{List}
use Rattle.payroll_file.specs.Answer.{PayrollAnswer}
use Rattle.std.specs.Prelude.{Ok}
use Rattle.payroll_file.specs.declared.answer.Accepted.{Accepted}
use Rattle.payroll_file.specs.PayrollFile.{check_of}
use Rattle.payroll_kept.specs.Accepts.{Accepts}
use Rattle.payroll_kept.specs.Kept.{Kept}
use Rattle.payroll_kept.specs.Numbers.{Numbers}
use Rattle.payroll_kept.proofs.Accepting.{plain_numbers, kept_accepted}
use Rattle.payroll_kept.proofs.Inverting.{accepted_kept}
use Rattle.payroll_kept.proofs.Numbers.{plain}

-- a file is accepted exactly where it keeps the rules
pub kept_means_kept : (bytes : List ℕ) → (Accepts bytes → Kept bytes) × (Kept bytes → Accepts bytes)
kept_means_kept bytes = (
  λ accepts. accepted_kept bytes accepts.numbers accepts.answer,
  λ kept. record { numbers = plain_numbers kept.file; answer = kept_accepted bytes kept },
)

-- its numbers are the plain ones of its records
pub plain_numbers_lem : (bytes : List ℕ) (a : Accepted) → check_of bytes ≡ Ok a → (kept : Kept bytes) → Numbers kept.file a
plain_numbers_lem bytes a h kept = subst (Numbers kept.file) (told (sym (kept_accepted bytes kept) ∙ h)) (plain bytes kept)
  where
    told : {a b : Accepted} → ◌≡◌ {A = PayrollAnswer} (Ok a) (Ok b) → a ≡ b
    told e = cc
