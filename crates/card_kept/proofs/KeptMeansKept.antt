-- THE THEOREMS: the check accepts exactly the files that keep document 01's rules, and an accepted file's numbers are the plain ones.
use Prim.Native.Nat.{ℕ}
use mathlib.Core.Path.{◌≡◌, sym, ◌∙◌, subst}
use mathlib.Core.List.{List}
use Rattle.card_run.specs.Answer.{CardAnswer}
use Rattle.card_run.specs.declared.answer.Accepted.{Accepted}
use Rattle.card_file.specs.CardFile.{check_of}
use Rattle.card_kept.specs.Accepts.{Accepts}
use Rattle.card_kept.specs.Kept.{Kept}
use Rattle.card_kept.specs.Numbers.{Numbers}
use Rattle.card_kept.proofs.Accepting.{plain_numbers, kept_accepted}
use Rattle.card_kept.proofs.Inverting.{accepted_kept}
use Rattle.card_kept.proofs.Numbers.{plain}
use Rattle.std.specs.Prelude.{Ok, Some}

-- a file is accepted exactly where it keeps the rules
pub kept_means_kept : (edition : ℕ) (bytes : List ℕ) → (Accepts edition bytes → Kept edition bytes) × (Kept edition bytes → Accepts edition bytes)
kept_means_kept edition bytes = (
  λ accepts. accepted_kept edition bytes accepts.numbers accepts.answer,
  λ kept. record { numbers = plain_numbers kept.file; answer = kept_accepted edition bytes kept },
)

-- its numbers are the plain ones of its records
pub plain_numbers_lem : (edition : ℕ) (bytes : List ℕ) (a : Accepted) → check_of edition bytes ≡ Some (Ok a) → (kept : Kept edition bytes) → Numbers kept.file a
plain_numbers_lem edition bytes a h kept =
    let e = kept_accepted edition bytes kept in
    let same : plain_numbers kept.file ≡ a = told (sym e ∙ h) in
    subst (Numbers kept.file) same (plain edition bytes kept)
  where
    told : {a b : Accepted} → ◌≡◌ {A = CardAnswer} (Some (Ok a)) (Some (Ok b)) → a ≡ b
    told e = cc
