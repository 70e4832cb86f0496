-- Answers so far with the same row are the same, as answers are; none yet has no answer's row.
use mathlib.Core.Path.{◌≡◌, refl, sym, ap}
use mathlib.Core.Bool.{true, true≢false, false≢true}
use Rattle.std.specs.Prelude.{Some, None, Ok, Err}
use Rattle.refusal.proofs.RefusalRows.{not_none}
use Rattle.payroll_file.specs.Answer.{PayrollAnswer, going_on_row, payroll_row}
use Rattle.payroll_file.proofs.FileRows.{same_answer, is_accepted_lem}
use Rattle.payroll_stream.specs.Stream.{PayrollProgress, progress_row}

not_yet : (a : PayrollAnswer) → payroll_row a ≡ going_on_row → ⊥
unfolding payroll_row
not_yet (Ok n) e = true≢false (ap (λ row. row.accepted) e)
not_yet (Err r) e = not_none r (ap (λ row. row.refusal) e)

pub same_progress : (p q : PayrollProgress) → progress_row p ≡ progress_row q → p ≡ q
unfolding progress_row
same_progress None None e = refl
same_progress None (Some b) e = absurd (not_yet b (sym e))
same_progress (Some a) None e = absurd (not_yet a e)
same_progress (Some a) (Some b) e = ap Some (same_answer a b e)

-- an accepted file has its numbers in the row
pub is_answered : (p : PayrollProgress) → (progress_row p).accepted ≡ true → p ≡ Some (Ok (progress_row p).numbers)
unfolding progress_row
is_answered None e = absurd (false≢true e)
is_answered (Some a) e = ap Some (is_accepted_lem a e)
