-- `refusal::Cause::numbered` meets its contract: by the laws of looking on from a row of the list.
use mathlib.Core.Path.{sym, ◌∙◌}
use Rattle.refusal.specs.declared.Cause.TheVariants.{EditionUnknown}
use Rattle.refusal.specs.RefusalList.{causes}
use Rattle.refusal.proofs.Numbered.{passed}
use Rattle.refusal.proofs.Cause.numbered.Goals as goal

pub loop-cause-preserved : goal.loop-cause-preserved
loop-cause-preserved c =
    let l = c.loop-cause in
    sym (passed causes l.cause-index _ EditionUnknown c.loop-cause-test.true (λ e. c.if-number.false (c.number.ensures ∙ e))) ∙ l.invariant
