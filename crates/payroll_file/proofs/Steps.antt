-- Lines taken one after the other are a fold over them. By induction on the lines.
use Prim.Native.Nat.{ℕ}
use mathlib.Core.Path.{◌≡◌, refl}
use mathlib.Core.List.{List, [], ◌∷◌, foldl}
use Rattle.payroll_run.specs.declared.running.Running.{Running}
use Rattle.payroll_file.specs.PayrollFile.{line_of, lines_of}

pub as_fold : (st : Running) (ps : List (List ℕ)) → foldl line_of st ps ≡ lines_of st ps
unfolding lines_of
as_fold st [] = refl
as_fold st (p ∷ ps) = as_fold (line_of st p) ps
