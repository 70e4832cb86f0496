-- What every record has in front.
use Rattle.std.specs.Prelude.{ℕ, ◌+◌, List, [], ◌∷◌, ◌++◌, false, Option, Some, None}
use Rattle.refusal.specs.declared.Cause.TheVariants.{ByteNotAllowed, ValueNotAllowed}
use Rattle.refusal.specs.Rules.{Rule, rule_at}
use Rattle.text.specs.declared.alphabet.Alphabet.TheVariants.{PlainAscii}
use Rattle.text.specs.Alphabet.{first_stray}
use Rattle.payroll_record.specs.Field.{bank, number_rules, number_in}

-- "then 7 for any byte outside 32 to 126 (column of that byte)"
unfoldable pub stray_at : Option ℕ → List Rule
stray_at None = []
stray_at (Some place) = rule_at ByteNotAllowed (place + 1) false ∷ []

abbrev pub stray_rules : List ℕ → List Rule
stray_rules r = stray_at (first_stray PlainAscii 0 r)

-- then "Bank 1-3 "422"" (7, 8)
abbrev pub bank_rules : List ℕ → List Rule
bank_rules r = number_rules ValueNotAllowed bank.0 (number_in bank r) 422

abbrev pub front_rules : List ℕ → List Rule
front_rules r = stray_rules r ++ bank_rules r
