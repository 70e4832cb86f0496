-- What is held of a piece whose LF has not come: its first 241 bytes, and its last byte where there are more.
use Rattle.std.specs.Prelude.{ℕ, ◌-◌, List, [], ◌∷◌, ◌++◌, length, take, replicate}
use Rattle.chunks.specs.declared.Unfinished.{Unfinished}

-- one byte more, behind what is held: behind 241 bytes it takes the place of the byte before
abbrev pub one_more : List ℕ → ℕ → List ℕ
one_more held b = take 241 held ++ (b ∷ [])

-- more bytes, behind what is held
unfoldable pub clipped_with : List ℕ → List ℕ → List ℕ
clipped_with held [] = held
clipped_with held (b ∷ s) = clipped_with (one_more held b) s

-- what is held of a piece; of one up to 242 bytes, all
abbrev pub clipped : List ℕ → List ℕ
clipped s = clipped_with [] s

-- the bytes that a state holds; a length past the buffer stands for all of it
abbrev pub held_by : Unfinished → List ℕ
held_by u = take u.length u.bytes

-- the state that holds these bytes, with zeros behind them
abbrev pub holding : List ℕ → Unfinished
holding s = record { bytes = s ++ replicate (242 - length s) 0; length = length s }
