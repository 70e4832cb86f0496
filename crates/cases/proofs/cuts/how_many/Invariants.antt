-- `cases::cuts::how_many` meets its contract. The invariant: where all cuts answer the same, all that were tried passed, or none did.
use Rattle.std.proofs.Common.{◌≡◌, ℕ, ◌≤◌, Bool, cond, length}
use Rattle.cases.proofs.cuts.how_many.Given as goal

abbrev pub invariant-loop-place : goal.invariant-loop-place
invariant-loop-place g l =
    (l.passed ≤ l.place) ×
    ((all : Bool) → ((place : ℕ) (answer : Bool) → place ≤ length l.file → goal.F-post g l.test place answer → answer ≡ all) → l.passed ≡ cond all l.place 0)
