-- Which bytes a part may hold.
use Rattle.std.specs.Prelude.{ℕ, suc, List, [], ◌∷◌, Bool, true, cond, ◌&&◌, ◌||◌, leb, eqb, Option, Some, None}
use Rattle.text.specs.declared.alphabet.Alphabet.{Alphabet}
use Rattle.text.specs.declared.alphabet.Alphabet.TheVariants.{Digits, CardText, PlainAscii, DigitsAndStars}

-- the bytes from low to high
abbrev pub within : ℕ → ℕ → ℕ → Bool
within low high b = leb low b && leb b high

-- `0` to `9`
abbrev pub digit : ℕ → Bool
digit = within 48 57

-- AN of a card file: "AN is bytes 32 to 126", and by document 02 "In card files an AN field may from now on hold bytes 160 to 255 besides"
abbrev pub card_text : ℕ → Bool
card_text b = within 32 126 b || within 160 255 b

-- what a payroll file may hold: not "any byte outside 32 to 126"
abbrev pub plain_ascii : ℕ → Bool
plain_ascii = within 32 126

-- "The card field holds digits and stars only"
abbrev pub digit_or_star : ℕ → Bool
digit_or_star b = eqb b 42 || digit b

-- "N is digits only": whether a part of an alphabet may hold a byte
unfoldable pub allowed : Alphabet → ℕ → Bool
allowed Digits = digit
allowed CardText = card_text
allowed PlainAscii = plain_ascii
allowed DigitsAndStars = digit_or_star

-- every byte is of this alphabet
unfoldable pub holds_only : Alphabet → List ℕ → Bool
holds_only a [] = true
holds_only a (b ∷ s) = allowed a b && holds_only a s

-- the first place, counted on from i, whose byte is not of this alphabet
unfoldable pub first_stray : Alphabet → ℕ → List ℕ → Option ℕ
first_stray a i [] = None
first_stray a i (b ∷ s) = cond (allowed a b) (first_stray a (suc i) s) (Some i)
