-- What running judges of a record that was read: the faults that reading found, and the numbers that it read where others are due.
use Rattle.std.specs.Prelude.{ℕ, List, [], ◌∷◌, ◌++◌, false, Ok, Err}
use Rattle.refusal.specs.declared.Cause.TheVariants.{KindUnknown, WrongWidth}
use Rattle.refusal.specs.Fault.{Judged}
use Rattle.refusal.specs.Rules.{Rule, rule_at}
use Rattle.text.specs.Number.{Number}
use Rattle.payroll_record.specs.declared.kind.Kind.{Kind}
use Rattle.payroll_record.specs.declared.kind.Kind.TheVariants.{FileHeader, BatchHeader, BatchTrailer, FileTrailer}
use Rattle.payroll_record.specs.declared.kind.NoKind.TheVariants.{UnknownKind, UnknownSegment}
use Rattle.payroll_record.specs.declared.reading.Reading.{Reading}
use Rattle.payroll_record.specs.declared.reading.Reading.TheVariants.{
  WrongWidth as wrong_width,
  Unknown as unknown,
  FileHeader as file_header,
  BatchHeader as batch_header,
  Detail as detail,
  BatchTrailer as batch_trailer,
  FileTrailer as file_trailer,
}
use Rattle.payroll_record.specs.Field.{field, number_in, number_rules}
use Rattle.payroll_run.specs.declared.running.Running.{Running}
use Rattle.payroll_step.specs.Due.{place_rule, Due, due_in_detail, due_of, limits_of}

-- a fault that reading found among the rules that look at the record alone, as a rule of the list
unfoldable pub found_rules : Judged → List Rule
found_rules (Ok none) = []
found_rules (Err fault) = rule_at fault.cause fault.column false ∷ []

-- each number that is due, and the one that was read in its place
unfoldable pub due_rules : List Due → List Number → List Rule
due_rules [] numbers = []
due_rules (d ∷ ds) [] = []
due_rules (d ∷ ds) (n ∷ ns) = number_rules d.cause d.first n d.number ++ due_rules ds ns

-- the numbers that a record has in the places where others are due
abbrev pub numbers_in : List Due → List ℕ → List Number
numbers_in [] r = []
numbers_in (d ∷ ds) r = number_in (field d.first d.last) r ∷ numbers_in ds r

-- THE LIST, of a record of a kind: 5, the rules that it has in front, the numbers that are due, and what is behind them
abbrev pub placed_rules : Running → Kind → List Rule → List Due → List Number → List Rule → List Rule
placed_rules st kind front dues numbers behind = place_rule st kind ∷ (front ++ (due_rules dues numbers ++ behind))

-- that list as reading answers it: of the rules in front the first that is broken, if any
abbrev pub judged_rules : Running → Kind → Judged → List Due → List Number → List Rule → List Rule
judged_rules st kind front dues numbers behind = placed_rules st kind (found_rules front) dues numbers behind

-- the rules of a reading at its place, in order
unfoldable pub rules_of : Running → Reading → List Rule
rules_of st wrong_width = rule_at WrongWidth 0 false ∷ []
-- "An unknown kind is 4, column 8; an unknown segment 4, column 14"
rules_of st (unknown UnknownKind) = rule_at KindUnknown 8 false ∷ []
rules_of st (unknown UnknownSegment) = rule_at KindUnknown 14 false ∷ []
rules_of st (file_header r) = judged_rules st FileHeader r.fault (due_of FileHeader st) [] (limits_of FileHeader st)
rules_of st (batch_header r) = judged_rules st BatchHeader r.front (due_of BatchHeader st) (r.batch ∷ []) (limits_of BatchHeader st)
rules_of st (detail r) = judged_rules st r.segment r.front (due_in_detail st) (r.batch ∷ r.number ∷ []) (found_rules r.rest)
rules_of st (batch_trailer r) =
    judged_rules st BatchTrailer r.front (due_of BatchTrailer st) (r.batch ∷ r.count ∷ r.sum ∷ []) (limits_of BatchTrailer st)
rules_of st (file_trailer r) =
    judged_rules st FileTrailer r.front (due_of FileTrailer st) (r.batches ∷ r.records ∷ []) (limits_of FileTrailer st)
