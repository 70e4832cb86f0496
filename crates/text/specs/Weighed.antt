-- Of the quick way, and no rule of document 01: bytes taken for digits with no look at whether they are.
use Rattle.std.specs.Prelude.{ℕ, ◌+◌, ◌-◌, ◌*◌, List, [], ◌∷◌, cond, length, leb}

-- bytes as digits of any size, behind those that came to n; and as many zeros, which are byte 48
unfoldable pub weighed : ℕ → List ℕ → ℕ
weighed n [] = n
weighed n (b ∷ s) = weighed (n * 10 + b) s

unfoldable pub zeros_weighed : ℕ → List ℕ → ℕ
zeros_weighed n [] = n
zeros_weighed n (b ∷ s) = zeros_weighed (n * 10 + 48) s

-- the value that a part writes if it is digits, up to 17; a law (`proofs/Weights.if_digits`) says that it is then `value_of`
abbrev pub value_if_digits : List ℕ → ℕ
value_if_digits s = cond (leb (length s) 17) (weighed 0 s - zeros_weighed 0 s) 0
