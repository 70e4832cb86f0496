-- A file in chunks, over a step that takes one piece and is not looked into: a run holds a state, and what is held of the piece that has not ended.
use Rattle.std.specs.Prelude.{ℕ, ◌≡◌}
use mathlib.Core.List.{List, [], ◌∷◌, ◌++◌, foldl}
use Rattle.lines.specs.Lines.{Lines, cut}
use Rattle.chunks.specs.Unfinished.{clipped}

pub record Run (S : Type 0) : Type 0 where
  pub state : S
  pub held : List ℕ

-- nothing has come
abbrev pub start_of : {S : Type 0} → S → Run S
start_of st = record { state = st; held = [] }

-- what is held stands before the first piece of a chunk, or before its rest where no piece ends in it
unfoldable pub held_before : List ℕ → List (List ℕ) → List ℕ → Lines
held_before held [] rest = record { pieces = []; rest = held ++ rest }
held_before held (p ∷ ps) rest = record { pieces = (held ++ p) ∷ ps; rest = rest }

-- pieces taken one after the other, and of the rest held what is needed
abbrev pub ran_lines : {S : Type 0} → (S → List ℕ → S) → S → Lines → Run S
ran_lines step st ls = record { state = foldl step st ls.pieces; held = clipped ls.rest }

-- one chunk
abbrev pub ran_over : {S : Type 0} → (S → List ℕ → S) → Run S → List ℕ → Run S
ran_over step run chunk = ran_lines step run.state (held_before run.held (cut chunk).pieces (cut chunk).rest)

-- chunks joined
unfoldable pub joined_chunks : List (List ℕ) → List ℕ
joined_chunks [] = []
joined_chunks (c ∷ cs) = c ++ joined_chunks cs

-- a step that looks no further into a piece than what is held of it
abbrev pub LooksNoFurther : {S A : Type 0} → (S → List ℕ → A) → Type 0
LooksNoFurther {S} step = (st : S) (p : List ℕ) → step st (clipped p) ≡ step st p
