-- THE FIRST FAULT of a payroll file gives the refusal.
use Rattle.std.specs.Prelude.{ℕ, suc, ◌≡◌, ◌↔◌, List, [], ◌∷◌, true, false, not, ◌||◌, length}
use Rattle.refusal.specs.declared.Cause.TheVariants.{NoLineEnd, EndsTooEarly, BytesAfterTheEnd}
use Rattle.refusal.specs.declared.Refusal.{Refusal}
use Rattle.refusal.specs.Rules.{Rule, rule_at}
use Rattle.text.specs.Literal.{same_bytes}
use Rattle.lines.specs.Lines.{ends_in_cr, without_last}
use Rattle.first_fault.specs.InTurn.{Next, piece, rest, RulesBehind, FirstFault, NoFault}
use Rattle.payroll_run.specs.declared.running.Running.{Running}
use Rattle.payroll_file.specs.Answer.{refused_row, payroll_row}
use Rattle.payroll_file.specs.PayrollFile.{check_of}
use Rattle.payroll_kept.specs.FirstFault.{ended, end_rule, rules_from_width}
use Rattle.payroll_kept.specs.State.{stayed, plain_state}

-- the rules of what comes next: "13, 12, 3, 6, 4, 5, .."; at the end "one byte 1A and nothing more (12 if it isn't there because the file ends, else 13)"
abbrev pub next_rules : Running → Next → List Rule
next_rules st (piece p) = end_rule st ∷ rule_at NoLineEnd 0 (ends_in_cr p) ∷ rules_from_width st (without_last p)
next_rules st (rest []) = rule_at EndsTooEarly 0 false ∷ []
next_rules st (rest (b ∷ s)) =
    rule_at BytesAfterTheEnd 0 (not (ended st.stage) || same_bytes (b ∷ s) (26 ∷ [])) ∷ rule_at NoLineEnd 0 (ended st.stage) ∷ []

-- behind records they are taken at the state of those
abbrev pub rules_behind : RulesBehind
rules_behind before next = next_rules (plain_state before) next

-- where a file is refused: its first fault gives the cause and the column, and the record is one past the pieces before it (a number of 64 bits, which stays at its top)
pub record FirstFaultOfFile (file : List ℕ) (refusal : Refusal) : Type 0 where
  pub fault : FirstFault rules_behind file refusal.cause refusal.column
  pub number : refusal.«record» ≡ stayed (suc (length fault.earlier))

-- a file read whole: the first fault decides, and nothing else
pub record FirstFaultDecides (file : List ℕ) : Type 0 where
  pub is_refused_lem : (refusal : Refusal) → (payroll_row (check_of file) ≡ refused_row refusal) ↔ FirstFaultOfFile file refusal
  pub is_accepted_lem : ((payroll_row (check_of file)).accepted ≡ true) ↔ NoFault rules_behind file
