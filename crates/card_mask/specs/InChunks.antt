-- Masking a file that comes in chunks: what is finished is written, masked, and the unfinished record waits in front of the next chunk.
use Rattle.std.specs.Prelude.{ℕ, List, [], ◌++◌, take, drop}
use Rattle.lines.specs.Lines.{finished_in}
use Rattle.card_mask.specs.Masked.{masked_file}

pub record Copied : Type 0 where
  pub written : List ℕ
  pub waiting : List ℕ

abbrev pub nothing_copied : Copied
nothing_copied = record { written = []; waiting = [] }

-- one chunk, behind what waits: the records in these bytes are masked where they stand (`MasksLines`)
abbrev pub copied_over : Copied → List ℕ → Copied
copied_over c chunk =
    record {
      written = c.written ++ take (finished_in (c.waiting ++ chunk)) (masked_file (c.waiting ++ chunk));
      waiting = drop (finished_in (c.waiting ++ chunk)) (masked_file (c.waiting ++ chunk));
    }
