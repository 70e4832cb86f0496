-- What an output holds once the copy of an accepted file has been masked in front of it.
use Rattle.std.specs.Prelude.{Result, Some, Ok}
use Rattle.std.proofs.Common.{◌≡◌, ◌≤◌, ℕ, List, ◌++◌, length, take, drop, refl, ap, ◌∙◌}
use mathlib.Core.Path.{ap₂}
use lib.Seq.{take_at, drop_at}
use borrow.Author.Tests.{le-leb}
use Rattle.refusal.specs.declared.Refusal.{Refusal}
use Rattle.card_run.specs.declared.answer.Accepted.{Accepted as Numbers}
use Rattle.card_run.specs.Answer.{CardAnswer}
use Rattle.card_mask.specs.Masked.{masked_file}
use Rattle.cases.specs.Output.{pattern}
use Rattle.mask_cases.specs.Copying.{copied_into, put_into}

pub in_front : (file filled copied masked : List ℕ) → length file ≤ length filled → copied ≡ file →
    masked ≡ masked_file (take (length file) (copied ++ drop (length file) filled)) →
    masked ++ drop (length file) (copied ++ drop (length file) filled) ≡ copied_into file filled
in_front file filled copied masked h e m =
    let n = length file in
    let rest = drop n filled in
    let front : masked ≡ masked_file file = m ∙ ap (λ l. masked_file (take n (l ++ rest))) e ∙ ap masked_file (take_at file rest n refl) in
    let back : drop n (copied ++ rest) ≡ rest = ap (λ l. drop n (l ++ rest)) e ∙ drop_at file rest n refl in
    rw (le-leb _ _ h) (ap₂ (λ a b. a ++ b) front back)

-- the same of a file's answer
pub accepted : (file : List ℕ) (size : ℕ) {answer : CardAnswer} {decided : Result Numbers Refusal} {numbers : Numbers} {out : List ℕ} →
    answer ≡ Some decided → decided ≡ Ok numbers → out ≡ copied_into file (pattern size) → out ≡ put_into answer file size
accepted file size e f p = rw (e, f) p
