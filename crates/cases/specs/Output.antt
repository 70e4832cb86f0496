-- An output as every case finds it: "byte i is (i*7+3) mod 256".
use Rattle.std.specs.Prelude.{ℕ, zero, suc, ◌+◌, ◌*◌, ◌%◌, List, [], ◌∷◌, ◌++◌}

abbrev pub pattern_at : ℕ → ℕ
pattern_at i = (i * 7 + 3) % 256

-- an output of n bytes
unfoldable pub pattern : ℕ → List ℕ
pattern zero = []
pattern (suc n) = pattern n ++ (pattern_at n ∷ [])
