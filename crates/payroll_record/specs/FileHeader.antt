-- The file header.
use Rattle.std.specs.Prelude.{ℕ, List, [], ◌∷◌, ◌++◌, Bool}
use Rattle.refusal.specs.declared.Cause.TheVariants.{ValueNotAllowed}
use Rattle.refusal.specs.Rules.{Rule, rule_at, first_broken}
use Rattle.text.specs.Literal.{ascii, same_bytes, one_byte_of}
use Rattle.payroll_record.specs.declared.file_header.FileHeader.{FileHeader}
use Rattle.payroll_record.specs.declared.field.Field.{Field}
use Rattle.payroll_record.specs.Field.{field, batch, part_of, number_in, digit_rules, number_rules, day_rules}
use Rattle.payroll_record.specs.Front.{front_rules}

-- "143 is 1 or 2"
abbrev pub code : Field
code = field 143 143

abbrev pub code_rules : List ℕ → List Rule
code_rules r = digit_rules code r ++ (rule_at ValueNotAllowed code.0 (one_byte_of (ascii "12") (part_of code r)) ∷ [])

-- bank; "batch 4-7, which is 0000 in the header"; "143 is 1 or 2; date 144-151"
abbrev pub header_rules : List ℕ → List Rule
header_rules r =
    front_rules r ++ number_rules ValueNotAllowed batch.0 (number_in batch r) 0 ++ code_rules r ++ day_rules (field 144 151) r

-- "only if header position 143 is 2"
abbrev pub is_return : List ℕ → Bool
is_return r = same_bytes (part_of code r) (ascii "2")

abbrev pub header_of : List ℕ → FileHeader
header_of r = record { fault = first_broken (header_rules r); is_return = is_return r }
