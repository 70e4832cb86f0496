-- `card_copy::copy::write_lines` meets its contract: the finished lines lie within the bytes, and the unfinished one is kept below the buffer's length.
use Prim.Native.Nat.{◌-◌}
use mathlib.Core.Path.{◌≡◌, ◌∙◌}
use native.Mathlib.Omega.{arith}
use lib.ListN.{length}
use Rattle.card_copy.specs.Copying.{waiting_size}
use Rattle.card_copy.proofs.Waiting.{leaves_room, waits_in_front}
use Rattle.card_copy.proofs.Finished.{finished_in_front}
use borrow.Author.Rules.{rules}
use Rattle.card_copy.proofs.copy.write_lines.Goals as goal

pub move_to_front-requires : goal.move_to_front-requires
move_to_front-requires c = (finished_in_front c.args.buffer.now c.args.hand.end _ c.in_ok-lines.ensures.0, search rules)

pub overflow_sub-hand : goal.overflow_sub-hand
overflow_sub-hand c = finished_in_front c.args.buffer.now c.args.hand.end _ c.in_ok-lines.ensures.0

pub returns : goal.returns
returns c =
    let a = c.args in
    let v = c.move_to_front in
    let dealt = c.in_ok-lines.ensures in
    let same : length v.new.buffer ≡ length a.buffer.now = omega (arith, v.ensures.same) in
    let left = a.hand.end - c.in_ok-lines.lines in
    let k : c.tail_size.result ≡ waiting_size left (length a.buffer.now) = rw same at c.tail_size.ensures in (
      rw (k, same) (leaves_room left (length a.buffer.now) (omega (arith, c.requires.filled.size))),
      rw k (waits_in_front a.buffer.now v.new.buffer a.hand.end _ _ c.requires.filled.within dealt.0 (v.ensures.front ∙ dealt.1)),
    )
