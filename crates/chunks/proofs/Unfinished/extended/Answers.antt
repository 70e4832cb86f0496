-- `chunks::Unfinished::extended` meets its contract. The invariant: what is held is followed by zeros, and with the bytes still to come it is
-- what the start is with all of them.
use mathlib.Core.Path.{refl, ◌∙◌, ap}
use native.Mathlib.Omega.{arith}
use borrow.Author.Rules.{rules}
use lib.ListN.{length-set}
use Rattle.chunks.specs.declared.Unfinished.{Unfinished}
use Rattle.chunks.specs.Unfinished.{holding}
use Rattle.chunks.proofs.Held.{put_next, all_put}
use Rattle.chunks.proofs.Unfinished.extended.Goals as goal

pub loop-byte-init : goal.loop-byte-init
loop-byte-init c = (c.requires, search rules, refl)

pub bounds-bytes-place : goal.bounds-bytes-place
bounds-bytes-place c = omega (arith, c.min-place.ensures)

pub loop-byte-preserved : goal.loop-byte-preserved
loop-byte-preserved c =
    let l = c.loop-byte in
    let u : Unfinished = record { bytes = l.bytes; length = l.length } in
    let w = put_next u _ _ l.byte-index c.min-place.ensures c.loop-byte-test.true l.invariant.0 l.invariant.1 in
    (w.0, length-set l.bytes c.min-place.result _ ∙ l.invariant.1, w.1 ∙ l.invariant.2)

pub returns : goal.returns
returns c =
    let l = c.loop-byte in
    let u : Unfinished = record { bytes = l.bytes; length = l.length } in
    l.invariant.0 ∙ ap holding (all_put u c.args.part.now l.byte-index c.loop-byte-test.false ∙ l.invariant.2)
