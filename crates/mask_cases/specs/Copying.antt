-- A masked copy that is made in an output: step by step, and whole.
use Rattle.std.specs.Prelude.{ℕ, ◌+◌, ◌-◌, ◌≡◌, List, ◌++◌, None, Some, Ok, Err, cond, length, take, drop, leb, eqb}
use Rattle.lines.specs.Lines.{finished_in}
use Rattle.card_mask.specs.Masked.{masked_file}
use Rattle.card_run.specs.Answer.{CardAnswer}
use Rattle.cases.specs.Hash.{hash_from}
use Rattle.cases.specs.Output.{pattern}

-- the bytes between two places
abbrev pub between : List ℕ → ℕ → ℕ → List ℕ
between s done end = take (end - done) (drop done s)

-- the records that are finished between two places are masked where they stand, and the answer is where they end
pub record MasksBetween (copy : List ℕ) (done end answer : ℕ) (after : List ℕ) : Type 0 where
  pub counts : answer ≡ done + finished_in (between copy done end)
  pub leaves : after ≡ take done copy ++ (masked_file (between copy done end) ++ drop end copy)

-- the masked copy of a file in front of an output that has room for it
abbrev pub copied_into : List ℕ → List ℕ → List ℕ
copied_into file out = cond (leb (length file) (length out)) (masked_file file ++ drop (length file) out) out

-- an output as every case finds it, with the masked copy of an accepted file in front where there is room
abbrev pub put_into : CardAnswer → List ℕ → ℕ → List ℕ
put_into None file size = pattern size
put_into (Some (Ok numbers)) file size = copied_into file (pattern size)
put_into (Some (Err refusal)) file size = pattern size

-- how many of all the cuts in two of a file have an output of this hash: all, since each has the same output, or none
abbrev pub alike_of : CardAnswer → List ℕ → ℕ → ℕ → ℕ
alike_of answer file size whole = cond (eqb (hash_from 0 (put_into answer file size)) whole) (length file + 1) 0
