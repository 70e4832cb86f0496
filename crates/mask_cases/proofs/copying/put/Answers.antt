-- `mask_cases::copying::put` meets its contract: the output is filled, and the copy of an accepted file masked in front.
use Rattle.std.proofs.Common.{ap, ◌∙◌}
use Rattle.mask_cases.specs.Copying.{copied_into}
use Rattle.mask_cases.proofs.Puts.{in_front, accepted}
use Rattle.mask_cases.proofs.copying.put.Goals as goal

pub returns-then-length-out : goal.returns-then-length-out
returns-then-length-out g c =
    let masked = c.requires.masks _ _ c.mask.ensures in
    let copied = in_front c.args.file.now c.fill.new.out _ _ c.if-length-out.true c.copy_from_slice.ensures.after masked in
    accepted c.args.file.now _ c.in-Some-Ok.is (rw c.in-Some-Ok.is at c.in-Some-Ok.field-0-is) (copied ∙ ap (copied_into c.args.file.now) c.fill.ensures)
