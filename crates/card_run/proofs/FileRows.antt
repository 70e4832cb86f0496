-- Answers with the same row are the same: a row tells whether the file is accepted, and which refusal it has.
use mathlib.Core.Path.{◌≡◌, refl, sym, ap}
use mathlib.Core.Logic.{◌↔◌}
use mathlib.Core.Bool.{Bool, true, false, true≢false, false≢true}
use Rattle.refusal.specs.declared.Refusal.{Refusal}
use Rattle.card_run.specs.declared.answer.Accepted.{Accepted as Numbers}
use Rattle.refusal.specs.Row.{no_refusal}
use Rattle.refusal.proofs.RefusalRows.{same_refusal, not_none}
use Rattle.card_run.specs.Answer.{card_file_row, CardAnswer}
use Rattle.std.specs.Prelude.{Err, None, Ok, Some}

pub same_answer : (a b : CardAnswer) → card_file_row a ≡ card_file_row b → a ≡ b
unfolding card_file_row
same_answer None None e = refl
same_answer None (Some (Ok b)) e = absurd (false≢true (ap (λ row. row.accepted) e))
same_answer None (Some (Err s)) e = absurd (not_none s (sym (ap (λ row. row.refusal) e)))
same_answer (Some (Ok a)) None e = absurd (true≢false (ap (λ row. row.accepted) e))
same_answer (Some (Ok a)) (Some (Ok b)) e = ap (λ (n : Numbers). Some (Ok n)) (ap (λ row. row.numbers) e)
same_answer (Some (Ok a)) (Some (Err s)) e = absurd (true≢false (ap (λ row. row.accepted) e))
same_answer (Some (Err r)) None e = absurd (not_none r (ap (λ row. row.refusal) e))
same_answer (Some (Err r)) (Some (Ok b)) e = absurd (false≢true (ap (λ row. row.accepted) e))
same_answer (Some (Err r)) (Some (Err s)) e = ap (λ (r : Refusal). Some (Err r)) (same_refusal r s (ap (λ row. row.refusal) e))

-- whether an answer is a refusal, and whether it accepts
abbrev pub is_refusal : CardAnswer → Bool
is_refusal None = false
is_refusal (Some (Ok a)) = false
is_refusal (Some (Err r)) = true

abbrev pub is_accepted : CardAnswer → Bool
is_accepted None = false
is_accepted (Some (Ok a)) = true
is_accepted (Some (Err r)) = false

-- as the row tells
pub refusal_told : (a : CardAnswer) → (is_refusal a ≡ false) ↔ ((card_file_row a).refusal ≡ no_refusal)
unfolding card_file_row
refusal_told None = (λ e. refl, λ e. refl)
refusal_told (Some (Ok n)) = (λ e. refl, λ e. refl)
refusal_told (Some (Err r)) = (λ e. absurd (true≢false e), λ e. absurd (not_none r e))

pub accepted_told : (a : CardAnswer) → is_accepted a ≡ (card_file_row a).accepted
unfolding card_file_row
accepted_told None = refl
accepted_told (Some (Ok n)) = refl
accepted_told (Some (Err r)) = refl

-- an accepted answer has its numbers in the row
pub is_accepted_lem : (a : CardAnswer) → (card_file_row a).accepted ≡ true → a ≡ Some (Ok (card_file_row a).numbers)
unfolding card_file_row
is_accepted_lem None e = absurd (false≢true e)
is_accepted_lem (Some (Ok n)) e = refl
is_accepted_lem (Some (Err r)) e = absurd (false≢true e)
