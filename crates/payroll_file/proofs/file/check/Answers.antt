-- `payroll_file::file::check` meets its contract: the lines are taken one after the other, and the rest is what is left.
use Prim.Native.Nat.{ℕ}
use mathlib.Core.Path.{◌∙◌, ap, ap₂}
use mathlib.Core.List.{List, foldl}
use Rattle.lines.specs.Lines.{cut}
use Rattle.payroll_run.specs.declared.running.Running.{Running}
use Rattle.payroll_file.specs.PayrollFile.{line_of, end_of}
use Rattle.payroll_file.proofs.Steps.{as_fold}
use Rattle.payroll_file.proofs.file.check.Goals as goal

pub returns : goal.returns
returns c =
    let pieces = (cut c.args.file.now).pieces in
    let state = c.take_pieces.ensures.taken line_of (λ st piece next e. e) ∙ ap (λ (st : Running). foldl line_of st pieces) c.«open».ensures ∙ as_fold _ pieces in
    c.answer_with_rest.ensures ∙ ap₂ (λ (st : Running) (rest : List ℕ). end_of st rest) state c.take_pieces.ensures.left
