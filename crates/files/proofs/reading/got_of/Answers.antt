-- `files::reading::got_of` meets its contract: each test picks the case of `got_of`. What is tested are the answer's bits, which are read as the answer.
use Prim.Native.Nat.{ℕ}
use Rattle.std.proofs.Common.{rules, FitsSigned}
use mathlib.Core.Path.{◌≡◌, sym, ◌∙◌, subst}
use lib.IntN.{ℤ}
use mir.Syntax.{w64}
use mir.Val.{to_z, of_z}
use mir.ValLaws.{to_z-of_z}
use Rattle.files.specs.Loaded.{Got}
use Rattle.files.specs.Reading.{got_of}
use Rattle.files.proofs.Meanings.{below_zero, no_room, none_moved, some_moved}
use Rattle.files.proofs.reading.got_of.Goals as goal
use Rattle.files.proofs.reading.got_of.Goals.{then-answer-lt0-via-then-answer-lt0, then-answer-lt0-via-else-answer-lt0+then-is_empty}

-- the answer, by its bits
bits : ℤ → ℤ
bits answer = to_z w64 (of_z w64 answer)

of_answer : (answer : ℤ) → FitsSigned w64 answer → {got : Got} (error room : ℕ) → got ≡ got_of (bits answer) error room → got ≡ got_of answer error room
unfolding bits
of_answer answer fits {got} error room e = subst (λ (z : ℤ). got ≡ got_of z error room) (to_z-of_z w64 answer fits) e

pub returns-then-answer-lt0 : goal.returns-then-answer-lt0
unfolding bits
returns-then-answer-lt0 c =
    elim c.then-answer-lt0.branch [
      | then-answer-lt0-via-then-answer-lt0 w ↦ of_answer _ c.ranges.answer _ _ (below_zero (bits c.args.answer) c.args.error _ w.if-answer-lt0.true)
      | then-answer-lt0-via-else-answer-lt0+then-is_empty w ↦ no_room c.args.answer c.args.error _ (sym w.is_empty.ensures ∙ w.if-is_empty.true)
    ]

pub returns-in-0 : goal.returns-in-0
unfolding bits
returns-in-0 c =
    of_answer _ c.ranges.answer _ _
    (none_moved (bits c.args.answer) c.args.error _ _ c.if-answer-lt0.false (sym c.is_empty.ensures ∙ c.if-is_empty.false) c.count.ensures.value c.in-0.is)

pub returns-in_default : goal.returns-in_default
unfolding bits
returns-in_default c =
    of_answer _ c.ranges.answer _ _
    (some_moved (bits c.args.answer) c.args.error _ _ c.if-answer-lt0.false (sym c.is_empty.ensures ∙ c.if-is_empty.false) c.count.ensures.value (search rules))
