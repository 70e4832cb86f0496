-- THE FIRST FAULT: document 01's rules of a payroll record at its place, in one order, of which a refusal is the first that is broken.
use Rattle.std.specs.Prelude.{ℕ, ◌≡◌, ◌↔◌, List, [], ◌∷◌, ◌++◌, Bool, true, false, not, ◌||◌, length, eqb, Ok, Err}
use Prim.Native.String.{String}
use Rattle.refusal.specs.declared.Cause.TheVariants.{KindUnknown, WrongWidth, BytesAfterTheEnd}
use Rattle.refusal.specs.declared.Refusal.{Refusal}
use Rattle.refusal.specs.Row.{no_refusal}
use Rattle.refusal.specs.Rules.{Rule, rule_at, all_hold, FirstBroken}
use Rattle.text.specs.Literal.{ascii, same_bytes}
use Rattle.text.specs.Part.{positions}
use Rattle.payroll_record.specs.declared.kind.Kind.{Kind}
use Rattle.payroll_record.specs.declared.kind.Kind.TheVariants.{FileHeader, BatchHeader, SegmentA, SegmentB, SegmentZ, BatchTrailer, FileTrailer}
use Rattle.payroll_record.specs.declared.kind.NoKind.TheVariants.{UnknownKind, UnknownSegment}
use Rattle.payroll_record.specs.Kind.{kind_of, KindFound}
use Rattle.payroll_record.specs.Front.{front_rules}
use Rattle.payroll_record.specs.FileHeader.{header_rules}
use Rattle.payroll_record.specs.Detail.{payment_rules}
use Rattle.payroll_record.specs.FileTrailer.{trailer_front_rules}
use Rattle.payroll_record.specs.Reading.{reading_of}
use Rattle.payroll_run.specs.declared.stage.Stage.{Stage}
use Rattle.payroll_run.specs.declared.stage.Stage.TheVariants.{Start, BetweenBatches, InBatch, BehindA, BehindB, Ended, Refused}
use Rattle.payroll_run.specs.declared.running.Running.{Running}
use Rattle.payroll_run.specs.State.{next_number}
use Rattle.payroll_step.specs.Due.{due_of, limits_of}
use Rattle.payroll_step.specs.Rules.{numbers_in, placed_rules}
use Rattle.payroll_step.specs.Step.{took_of}
use Rattle.payroll_file.specs.Answer.{refused_row, state_row}

-- what the record alone decides in front of the numbers that are due: "7 for any byte outside 32 to 126 (column of that byte)", bank, and of the header and the
-- file trailer the batch number, 143 and the date
abbrev pub in_front_of_due : Kind → List ℕ → List Rule
in_front_of_due FileHeader r = header_rules r
in_front_of_due BatchHeader r = front_rules r
in_front_of_due SegmentA r = front_rules r
in_front_of_due SegmentB r = front_rules r
in_front_of_due SegmentZ r = front_rules r
in_front_of_due BatchTrailer r = front_rules r
in_front_of_due FileTrailer r = trailer_front_rules r

-- and behind them: "Segment A: date 94-101; amount 120-134"
abbrev pub behind_due : Kind → List ℕ → List Rule
behind_due FileHeader r = []
behind_due BatchHeader r = []
behind_due SegmentA r = payment_rules r
behind_due SegmentB r = []
behind_due SegmentZ r = []
behind_due BatchTrailer r = []
behind_due FileTrailer r = []

-- of a record of a kind: the list, with the rules that look at the record alone themselves
abbrev pub rules_as : KindFound → Running → List ℕ → List Rule
rules_as (Ok kind) st r =
    placed_rules st kind (in_front_of_due kind r) (due_of kind st) (numbers_in (due_of kind st) r) (limits_of kind st ++ behind_due kind r)
rules_as (Err UnknownKind) st r = []
rules_as (Err UnknownSegment) st r = []

-- whether the file trailer has come
abbrev pub ended : Stage → Bool
ended Start = false
ended BetweenBatches = false
ended InBatch = false
ended BehindA = false
ended BehindB = false
ended Ended = true
ended (Refused r) = false

-- whether bytes are one of these texts
unfoldable pub is_one_of : List String → List ℕ → Bool
is_one_of [] s = false
is_one_of (t ∷ ts) s = same_bytes s (ascii t) || is_one_of ts s

-- "Kind is position 8: 0 file header, 1 batch header, 3 detail, 5 batch trailer, 9 file trailer; a detail's segment is position 14"
abbrev pub kind_known : List ℕ → Bool
kind_known r = is_one_of ("0" ∷ "1" ∷ "3" ∷ "5" ∷ "9" ∷ []) (positions 8 8 r)

abbrev pub segment_known : List ℕ → Bool
segment_known r = not (same_bytes (positions 8 8 r) (ascii "3")) || is_one_of ("A" ∷ "B" ∷ "Z" ∷ []) (positions 14 14 r)

-- "6, 4, 5, then 7 for any byte .., then its fields"; "An unknown kind is 4, column 8; an unknown segment 4, column 14"
abbrev pub rules_from_width : Running → List ℕ → List Rule
rules_from_width st r =
    rule_at WrongWidth 0 (eqb (length r) 240) ∷
    rule_at KindUnknown 8 (kind_known r) ∷
    rule_at KindUnknown 14 (segment_known r) ∷
    rules_as (kind_of r) st r

-- 13, "bytes after the end"
abbrev pub end_rule : Running → Rule
end_rule st = rule_at BytesAfterTheEnd 0 (not (ended st.stage))

-- the rules of a record at its place: 13, then 6 and so on
abbrev pub record_rules : Running → List ℕ → List Rule
record_rules st r = end_rule st ∷ rules_from_width st r

-- a refusal at the record that comes next: the first rule that is broken gives its cause and its column
pub record RefusedBy (st : Running) (rules : List Rule) (refusal : Refusal) : Type 0 where
  pub number : refusal.«record» ≡ next_number st
  pub first_broken_lem : FirstBroken rules refusal.cause refusal.column

-- a record taken by a state that is not refused: "the first fault" decides, and nothing else
pub record FirstFaultOfRecord (st : Running) (r : List ℕ) : Type 0 where
  -- it is refused exactly where a rule is broken, by the first of them
  pub is_refused_lem : (refusal : Refusal) → (state_row (took_of st (reading_of r)).stage ≡ refused_row refusal) ↔ RefusedBy st (record_rules st r) refusal
  -- "No refusal is given otherwise"
  pub is_not : ((state_row (took_of st (reading_of r)).stage).refusal ≡ no_refusal) ↔ (all_hold (record_rules st r) ≡ true)
