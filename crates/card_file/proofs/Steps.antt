-- What a file's lines and the rest behind its last LF lead to: with nothing left the file is closed, and bytes that are left have no line end.
use Prim.Native.Nat.{ℕ}
use mathlib.Core.Path.{◌≡◌, refl, ap₂, ap, ◌∙◌}
use mathlib.Core.List.{List, [], ◌∷◌, foldl}
use mathlib.Core.Bool.{true, false, true≢false}
use native.Mathlib.Omega.{arith}
use borrow.Author.Tests.{eqb-true}
use lib.ListN.{length}
use Rattle.std.specs.Prelude.{◌==◌}
use Rattle.lines.specs.Lines.{cut}
use Rattle.card_run.specs.declared.running.Running.{Running}
use Rattle.card_run.specs.Running.{open_of, closed_of}
use Rattle.card_file.specs.CardFile.{unended_of, line_of, lines_of, end_of, ran_of}

pub nothing_left : (st : Running) (rest : List ℕ) → (length rest == 0) ≡ true → closed_of st ≡ end_of st rest
unfolding end_of
nothing_left st [] e = refl
nothing_left st (b ∷ s) e = let none : length (b ∷ s) ≡ 0 = eqb-true _ _ e in absurd (omega arith)

pub bytes_left : (st : Running) (rest : List ℕ) → (length rest == 0) ≡ false → unended_of st ≡ end_of st rest
unfolding end_of
bytes_left st [] e = absurd (true≢false e)
bytes_left st (b ∷ s) e = refl

pub ran : (edition : ℕ) (file : List ℕ) {first st : Running} {rest : List ℕ} → first ≡ open_of edition → st ≡ foldl line_of first (cut file).pieces →
    rest ≡ (cut file).rest → end_of st rest ≡ ran_of (open_of edition) (cut file)
unfolding lines_of
ran edition file e f g = ap₂ end_of (f ∙ ap (λ (st : Running). foldl line_of st (cut file).pieces) e) g
