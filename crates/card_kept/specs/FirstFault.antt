-- THE FIRST FAULT: the rules of a card file in one order, of which a refusal is the first that is broken.
use Rattle.card_record.specs.declared.kind.Kind.{Kind}
use Rattle.std.specs.Prelude.{ℕ, suc, ◌≡◌, ◌↔◌, List, [], ◌∷◌, Bool, true, false, not, length, None, Option, Some}
use Rattle.refusal.specs.declared.Cause.TheVariants.{NoLineEnd, KindUnknown, EndsTooEarly, BytesAfterTheEnd}
use Rattle.refusal.specs.declared.Refusal.{Refusal}
use Rattle.refusal.specs.Rules.{Rule, rule_at, all_hold, FirstBroken}
use Rattle.lines.specs.Lines.{ends_in_cr, without_last}
use Rattle.first_fault.specs.InTurn.{Next, piece, rest, RulesBehind, FirstFault, NoFault}
use Rattle.card_record.specs.Kind.{kind_of}
use Rattle.card_record.specs.Reading.{kind_rules, right_reading}
use Rattle.card_run.specs.declared.stage.Stage.{Stage}
use Rattle.card_run.specs.declared.stage.Stage.TheVariants.{Start, BetweenBatches, InBatch, Ended, Closed, Refused}
use Rattle.card_run.specs.declared.running.Running.{Running}
use Rattle.card_run.specs.Running.{next_number}
use Rattle.card_step.specs.Rules.{placed_rules}
use Rattle.card_file.specs.Feeding.{fed_of}
use Rattle.card_run.specs.Answer.{answer_of, refused_row, card_file_row}
use Rattle.card_file.specs.CardFile.{check_of}
use Rattle.refusal.specs.Row.{no_refusal}
use Rattle.card_kept.specs.State.{plain_state}

-- whether A9 has come
abbrev pub ended : Stage → Bool
ended Start = false
ended BetweenBatches = false
ended InBatch = false
ended Ended = true
ended Closed = true
ended (Refused r) = false

-- 13, "bytes after the end"
abbrev pub end_rule : Running → Rule
end_rule st = rule_at BytesAfterTheEnd 0 (not (ended st.stage))

-- 4, "record kind unknown", at the "column of the kind"
abbrev pub kind_rule : Option Kind → Rule
kind_rule (Some kind) = rule_at KindUnknown 1 true
kind_rule None = rule_at KindUnknown 1 false

-- of a record of a kind: 5, then 6 and "single fields by position (7 before 8 in each), then the joined rules"
abbrev pub rules_as : Option Kind → Running → List ℕ → List Rule
rules_as (Some kind) st r = placed_rules st kind (kind_rules kind st.edition r) (right_reading kind r)
rules_as None st r = []

abbrev pub rules_from_kind : Running → List ℕ → List Rule
rules_from_kind st r = kind_rule (kind_of r) ∷ rules_as (kind_of r) st r

-- the rules of a record at its place: 13, then 4 and so on
abbrev pub rules_at : Running → List ℕ → List Rule
rules_at st r = end_rule st ∷ rules_from_kind st r

-- a refusal at the record that comes next: the first rule that is broken gives its cause and its column
pub record RefusedBy (st : Running) (rules : List Rule) (refusal : Refusal) : Type 0 where
  pub number : refusal.«record» ≡ next_number st
  pub first_broken_lem : FirstBroken rules refusal.cause refusal.column

-- a record fed to a state that is not refused: "the first fault" decides, and nothing else
pub record FirstFaultOfRecord (st : Running) (r : List ℕ) : Type 0 where
  -- it is refused exactly where a rule is broken, by the first of them
  pub is_refused_lem : (refusal : Refusal) → (card_file_row (answer_of (fed_of st r)) ≡ refused_row refusal) ↔ RefusedBy st (rules_at st r) refusal
  -- "No refusal is given otherwise"
  pub is_not : ((card_file_row (answer_of (fed_of st r))).refusal ≡ no_refusal) ↔ (all_hold (rules_at st r) ≡ true)

-- the rules of what comes next: "13, 12, 3, 4, 5, 6, single fields by position .., then the joined rules"
abbrev pub next_rules : Running → Next → List Rule
next_rules st (piece p) = end_rule st ∷ rule_at NoLineEnd 0 (ends_in_cr p) ∷ rules_from_kind st (without_last p)
next_rules st (rest []) = rule_at EndsTooEarly 0 (ended st.stage) ∷ []
next_rules st (rest (b ∷ s)) = end_rule st ∷ rule_at NoLineEnd 0 false ∷ []

-- behind records they are taken at the state of those
abbrev pub rules_behind : ℕ → RulesBehind
rules_behind edition before next = next_rules (plain_state edition before) next

-- where a file is refused: its first fault gives the cause and the column, and the record is one past the pieces before it
pub record FirstFaultOfFile (edition : ℕ) (file : List ℕ) (refusal : Refusal) : Type 0 where
  pub fault : FirstFault (rules_behind edition) file refusal.cause refusal.column
  pub number : refusal.«record» ≡ suc (length fault.earlier)

-- a file read whole under an edition that is current: the first fault decides, and nothing else
pub record FirstFaultDecides (edition : ℕ) (file : List ℕ) : Type 0 where
  pub is_refused_lem : (refusal : Refusal) → (card_file_row (check_of edition file) ≡ refused_row refusal) ↔ FirstFaultOfFile edition file refusal
  pub is_accepted_lem : ((card_file_row (check_of edition file)).accepted ≡ true) ↔ NoFault (rules_behind edition) file
