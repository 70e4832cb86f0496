-- A payroll file in chunks is the file read whole. A stream is a run over pieces (`chunks`), and neither taking a line nor the end looks further into
-- what is held than what is held of it.
use Prim.Native.Nat.{ℕ}
use mathlib.Core.Path.{◌≡◌, refl, ◌∙◌, ap}
use mathlib.Core.List.{List, [], ◌∷◌, foldl}
use Rattle.std.specs.Prelude.{Some}
use Rattle.lines.specs.Lines.{cut}
use Rattle.chunks.specs.Chunks.{Run, start_of, ran_over, joined_chunks}
use Rattle.chunks.proofs.Held.{held_back}
use Rattle.chunks.proofs.Streams.{in_chunks}
use Rattle.payroll_run.specs.declared.running.Running.{Running}
use Rattle.payroll_run.specs.State.{opened}
use Rattle.payroll_file.specs.PayrollFile.{line_of, end_of, check_of}
use Rattle.payroll_file.proofs.Steps.{as_fold}
use Rattle.payroll_stream.specs.Stream.{going_on, open_of, taken_at, taken_of, ended_at, ended_of, answer_at, answer_of}
use Rattle.payroll_stream.proofs.NoFurther.{no_further, end_no_further}

-- taking chunks is running over them
as_runs : (run : Run Running) (cs : List (List ℕ)) → foldl taken_of (going_on run) cs ≡ going_on (foldl (ran_over line_of) run cs)
unfolding taken_at
as_runs run [] = refl
as_runs run (c ∷ cs) =
    ap (λ h. foldl taken_of (going_on (ran_over line_of (record { state = run.state; held = h }) c)) cs) (held_back run.held) ∙
    as_runs (ran_over line_of run c) cs

-- the answer at the end of a run
at_end : (run : Run Running) → answer_of (ended_of (going_on run)) ≡ Some (end_of run.state run.held)
unfolding ended_at answer_at
at_end run = ap (λ h. Some (end_of run.state h)) (held_back run.held)

-- "open, chunks, end" is the check of the bytes joined, however they were cut
pub chunks_as_whole : (chunks : List (List ℕ)) → answer_of (ended_of (foldl taken_of open_of chunks)) ≡ Some (check_of (joined_chunks chunks))
chunks_as_whole chunks =
    let run = foldl (ran_over line_of) (start_of opened) chunks in
    let file = cut (joined_chunks chunks) in
    ap (λ s. answer_of (ended_of s)) (as_runs (start_of opened) chunks) ∙
    at_end run ∙
    ap Some (in_chunks line_of no_further end_of end_no_further opened chunks) ∙
    ap (λ st. Some (end_of st file.rest)) (as_fold opened file.pieces)
