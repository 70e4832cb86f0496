-- What an answer tells of a rule, and of what it was promised to be.
use Prim.Native.Nat.{ℕ}
use mathlib.Core.Path.{◌≡◌, sym, ◌∙◌, ap}
use mathlib.Core.List.{[], ◌∷◌}
use mathlib.Core.Bool.{Bool}
use Rattle.refusal.specs.declared.Cause.{Cause}
use Rattle.refusal.specs.Fault.{Judged, rule_of}
use Rattle.refusal.specs.Rules.{rule_at, first_broken}
use Rattle.refusal.proofs.Faults.{nothing_second}

-- what the code tells of an answer holds of what the answer was promised to be
pub told : {A : Type 0} {answer promised v : A} → answer ≡ promised → answer ≡ v → promised ≡ v
told e h = sym e ∙ h

-- a rule, of which an answer says whether it holds
pub one_rule : (cause : Cause) (column : ℕ) {fault : Judged} {answer test : Bool} → fault ≡ rule_of cause column answer → answer ≡ test →
    fault ≡ first_broken (rule_at cause column test ∷ [])
unfolding first_broken
one_rule cause column {test = test} e h = e ∙ ap (rule_of cause column) h ∙ sym (nothing_second (rule_of cause column test))
