-- `mask_cases::copying::mask_in_chunks` meets its contract. The invariant: the records so far are masked, and with the rest masked the copy is that of all.
use Prim.Native.Nat.{◌≤◌}
use mathlib.Core.Path.{◌≡◌, ◌∙◌}
use native.Mathlib.Omega.{arith}
use lib.ListN.{length}
use borrow.Author.Rules.{rules}
use Rattle.mask_cases.proofs.Copies.{ends_within, step, up_to_end}
use Rattle.mask_cases.proofs.copying.mask_in_chunks.Goals as goal

pub loop-preserved : goal.loop-preserved
loop-preserved c =
    let l = c.loop in
    let at = c.behind-at.result in
    let masked = c.mask_between-done.ensures in
    let later : l.done ≤ at = omega arith in
    let within : at ≤ length l.copy = omega arith in (
      search rules,
      omega (arith, masked.counts, ends_within l.copy l.done at later),
      search rules,
      search rules,
      step later within masked ∙ l.invariant.4,
    )

pub returns : goal.returns
returns c =
    let l = c.loop in
    let all : length c.args.copy.now ≡ length l.copy = omega arith in
    up_to_end all c.mask_between.ensures ∙ l.invariant.4
