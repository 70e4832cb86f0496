-- Numbers as a sheet holds them.
use Rattle.std.specs.Prelude.{ℕ, zero, suc, ◌+◌, ◌*◌, ◌-◌, ◌/◌, ◌%◌, ◌^◌, List, [], ◌∷◌, ◌++◌, Bool, true, take, drop}
use Rattle.text.specs.declared.alphabet.Alphabet.TheVariants.{Digits as digits}
use Rattle.text.specs.Alphabet.{holds_only}
use Rattle.day_sheet.specs.declared.number.Form.{Form}
use Rattle.day_sheet.specs.declared.number.Form.TheVariants.{Bytes, Digits}

-- the base of a form's digits, and the byte that stands for 0
abbrev pub base : Form → ℕ
base Bytes = 256
base Digits = 10

abbrev pub zero_byte : Form → ℕ
zero_byte Bytes = 0
zero_byte Digits = 48

-- whether a form may have these bytes: ASCII digits alone, or any
abbrev pub holds_right : Form → List ℕ → Bool
holds_right Bytes s = true
holds_right Digits s = holds_only digits s

-- the w lowest digits of n in base b, "high byte first", where the byte z stands for 0
unfoldable pub in_base : ℕ → ℕ → ℕ → ℕ → List ℕ
in_base b z zero n = []
in_base b z (suc w) n = (z + n / b ^ w % b) ∷ in_base b z w n

-- a list with a number's digits at the places from `from` up to `to`
abbrev pub put_at : ℕ → ℕ → ℕ → ℕ → ℕ → List ℕ → List ℕ
put_at b z n from to l = take from l ++ (in_base b z (to - from) n ++ drop to l)

-- the value of digits behind those that make n
unfoldable pub value_in : ℕ → ℕ → ℕ → List ℕ → ℕ
value_in b z n [] = n
value_in b z n (x ∷ s) = value_in b z (n * b + (x - z)) s
