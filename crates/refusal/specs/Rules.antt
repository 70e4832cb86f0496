-- Rules in document 01's order, and "the first fault" among them.
use Rattle.std.specs.Prelude.{ℕ, ◌≡◌, List, [], ◌∷◌, ◌++◌, Bool, true, false, ◌&&◌}
use Rattle.refusal.specs.declared.Cause.{Cause}
use Rattle.refusal.specs.Fault.{Judged, nothing, rule_of, earlier_of}

-- a rule as it stands for one record: the cause and the column that it gives, and whether it holds
pub record Rule : Type 0 where
  pub cause : Cause
  pub column : ℕ
  pub holds : Bool

abbrev pub rule_at : Cause → ℕ → Bool → Rule
rule_at cause column holds = record { cause = cause; column = column; holds = holds }

-- the first rule that does not hold
unfoldable pub first_broken : List Rule → Judged
first_broken [] = nothing
first_broken (r ∷ rs) = earlier_of (rule_of r.cause r.column r.holds) (first_broken rs)

-- every rule holds
unfoldable pub all_hold : List Rule → Bool
all_hold [] = true
all_hold (r ∷ rs) = r.holds && all_hold rs

-- the same, said of the list: a rule of it gives this cause and column, does not hold, and every rule before it does
pub record FirstBroken (rules : List Rule) (cause : Cause) (column : ℕ) : Type 0 where
  pub before : List Rule
  pub broken : Rule
  pub after : List Rule
  pub split : rules ≡ before ++ broken ∷ after
  pub all_before : all_hold before ≡ true
  pub is_broken : broken.holds ≡ false
  pub gives_cause : broken.cause ≡ cause
  pub gives_column : broken.column ≡ column
