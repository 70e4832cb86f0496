-- What waits of a file's chunks at the start of a buffer: the line that has not ended, behind which the next chunk is read.
use Rattle.std.specs.Prelude.{ℕ, cond, length, ltb}
use mathlib.Core.List.{List, [], ◌++◌, foldl}
use Rattle.lines.specs.Lines.{cut}

-- a line, unless it fills a buffer of this size: then it is let go
abbrev pub unless_full : ℕ → List ℕ → List ℕ
unless_full room line = cond (ltb (length line) room) line []

-- what waits once these chunks have come
abbrev pub waiting_in : ℕ → List (List ℕ) → List ℕ
waiting_in room chunks = foldl (λ (waiting chunk : List ℕ). unless_full room (cut (waiting ++ chunk)).rest) [] chunks
