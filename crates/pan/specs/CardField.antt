-- A card field and its valid characters.
use Rattle.std.specs.Prelude.{ℕ, suc, List, [], ◌∷◌, Bool, cond, ◌&&◌, length, drop, eqb}
use Rattle.text.specs.Alphabet.{holds_only}
use Rattle.text.specs.declared.alphabet.Alphabet.TheVariants.{DigitsAndStars}

-- "card 88-106": 19 bytes; "The card field holds digits and stars only"
unfoldable pub well_formed : List ℕ → Bool
well_formed s = eqb (length s) 19 && holds_only DigitsAndStars s

-- how many zeros, byte 48, stand before the first other character
unfoldable pub leading_zeros : List ℕ → ℕ
leading_zeros [] = 0
leading_zeros (b ∷ s) = cond (eqb b 48) (suc (leading_zeros s)) 0

-- "Its valid characters are those after the leading zeros, stars included"
abbrev pub valid_characters : List ℕ → List ℕ
valid_characters s = drop (leading_zeros s) s
