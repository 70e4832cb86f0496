-- `mask_cases::copying::mask_in_two` meets its contract: a step up to the place, and one up to the end.
use mathlib.Core.Path.{refl, ◌∙◌}
use native.Mathlib.Omega.{arith}
use Rattle.mask_cases.proofs.Copies.{ends_within, step, up_to_end}
use Rattle.mask_cases.proofs.copying.mask_in_two.Goals as goal

pub mask_between-requires-clause-done_le_end : goal.mask_between-requires-clause-done_le_end
mask_between-requires-clause-done_le_end c =
    let a = c.args in
    omega (arith, c.mask_between-done.ensures.counts, ends_within a.copy.now 0 a.place (omega arith))

pub returns : goal.returns
returns c = up_to_end refl c.mask_between.ensures ∙ step (omega arith) c.requires c.mask_between-done.ensures
