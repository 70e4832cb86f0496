-- Texts as document 01 prints them, and whether a part is one, or one byte of a set.
use Rattle.std.specs.Prelude.{ℕ, List, [], ◌∷◌, Bool, true, false, ◌&&◌, ◌||◌, eqb}
use Prim.Native.Char.{code}
use Prim.Native.String.{String, [] as end, ◌∷◌ as ◌then◌}

-- the bytes of a text in ASCII
abbrev pub ascii : String → List ℕ
ascii end = []
ascii (c then s) = code c ∷ ascii s

-- whether two lists hold the same bytes
unfoldable pub same_bytes : List ℕ → List ℕ → Bool
same_bytes [] [] = true
same_bytes [] (b ∷ t) = false
same_bytes (a ∷ s) [] = false
same_bytes (a ∷ s) (b ∷ t) = eqb a b && same_bytes s t

-- whether a set has a byte
unfoldable pub has_byte : ℕ → List ℕ → Bool
has_byte b [] = false
has_byte b (x ∷ set) = eqb x b || has_byte b set

-- whether a part is one byte of a set
unfoldable pub one_byte_of : List ℕ → List ℕ → Bool
one_byte_of set [] = false
one_byte_of set (b ∷ []) = has_byte b set
one_byte_of set (b ∷ c ∷ s) = false
