-- The law of chunks for a stream: two chunks are as one, so a file that is cut anywhere answers as the whole.
use Rattle.std.proofs.Common.{◌≡◌, ℕ, List, [], ◌∷◌, ◌++◌, refl, sym, ap, ◌∙◌}
use Rattle.std.specs.Prelude.{None, Some, Ok, Err}
use mathlib.Core.List.{append-nil}
use Rattle.chunks.specs.Unfinished.{held_by}
use Rattle.chunks.specs.Chunks.{Run, ran_over, joined_chunks}
use Rattle.chunks.proofs.Held.{held_back}
use Rattle.chunks.proofs.Streams.{two_chunks}
use Rattle.payroll_run.specs.declared.running.Running.{Running}
use Rattle.payroll_file.specs.PayrollFile.{line_of, check_of}
use Rattle.payroll_file.specs.Answer.{PayrollAnswer}
use Rattle.payroll_stream.specs.declared.Stream.{Stream}
use Rattle.payroll_stream.specs.Stream.{PayrollProgress, going_on, open_of, behind_end, taken_behind_end, taken_at, taken_of, ended_of, answer_of}
use Rattle.payroll_stream.proofs.NoFurther.{no_further}
use Rattle.payroll_stream.proofs.InChunks.{chunks_as_whole}

-- two chunks behind the end are as one: what is refused stays refused
behind_on : (s : Stream) (answer : PayrollAnswer) (a b : List ℕ) → s.progress ≡ Some answer →
    taken_of (taken_behind_end s answer a) b ≡ taken_behind_end s answer (a ++ b)
unfolding taken_at taken_behind_end behind_end
behind_on s answer [] b e = rw e
behind_on s (Ok n) (x ∷ a) [] e = refl
behind_on s (Ok n) (x ∷ a) (y ∷ b) e = refl
behind_on s (Err r) (x ∷ a) [] e = refl
behind_on s (Err r) (x ∷ a) (y ∷ b) e = refl

-- two chunks are as one
pub taken_on : (s : Stream) (a b : List ℕ) → taken_of (taken_of s a) b ≡ taken_of s (a ++ b)
unfolding taken_at
taken_on s a b = by_progress s.progress refl
  where
    by_progress : (p : PayrollProgress) → s.progress ≡ p → taken_of (taken_of s a) b ≡ taken_of s (a ++ b)
    by_progress None e =
        let start : Run Running = record { state = s.state; held = held_by s.held } in
        let run = ran_over line_of start a in
        rw e
        (ap (λ h. going_on (ran_over line_of (record { state = run.state; held = h }) b)) (held_back run.held) ∙
        ap going_on (two_chunks line_of no_further start a b))
    by_progress (Some answer) e =
        ap (λ p. taken_of (taken_at p s a) b) e ∙ behind_on s answer a b e ∙ ap (λ p. taken_at p s (a ++ b)) (sym e)

-- all of a file as one chunk
as_whole : (file : List ℕ) → answer_of (ended_of (taken_of open_of file)) ≡ Some (check_of file)
unfolding joined_chunks
as_whole file = chunks_as_whole (file ∷ []) ∙ ap (λ l. Some (check_of l)) (append-nil file)

-- the answer of a stream that has taken all of a file
pub answered : (file : List ℕ) {opened taken : Stream} → opened ≡ open_of → taken ≡ taken_of opened file → answer_of (ended_of taken) ≡ Some (check_of file)
answered file e f = ap (λ s. answer_of (ended_of s)) (f ∙ ap (λ s. taken_of s file) e) ∙ as_whole file
