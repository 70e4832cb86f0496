-- `card_copy::copy::Copying::copy_by` meets its contract: the bytes that are to be taken lie within the buffer, and those in front of them are what waits of the chunks
-- that the stream has taken.
use Prim.Native.Nat.{ℕ}
use mathlib.Core.Path.{◌≡◌, ap, ◌∙◌}
use native.Mathlib.Omega.{arith}
use borrow.Author.Rules.{rules}
use lib.ListN.{take}
use Rattle.std.specs.Prelude.{Some, Ok}
use Rattle.lines.specs.Lines.{cut}
use Rattle.chunks.specs.Waiting.{unless_full}
use Rattle.card_program.proofs.Ended.{checked}
use Rattle.card_copy.proofs.InHand.{none_waits, in_hand, next_waits, next_taken}
use Rattle.card_copy.proofs.copy.Copying.copy_by.Goals as goal

pub loop-init : goal.loop-init
loop-init g c = (search rules, search rules, search rules, none_waits _ c.open-stream.ensures)

-- at a refusal
pub returns-then-is_decided : goal.returns-then-is_decided
returns-then-is_decided g c =
    let l = c.loop in
    checked _ _ (next_taken _ _ _ _ l.invariant.3 l.invariant.0 c.take-stream.ensures) c.outcome_at.ensures

pub write_lines-requires : goal.write_lines-requires
write_lines-requires g c =
    let l = c.loop in
    record {
      filled = record { size = omega (arith, l.invariant.2, c.requires.size); within = l.invariant.1 };
      in_hand = in_hand _ _ _ _ l.invariant.3 l.invariant.0;
    }

pub read_behind-got-requires : goal.read_behind-got-requires
read_behind-got-requires g c =
    let is : c.write_lines.result ≡ Ok c.in_ok-tail.tail = search rules in
    omega (arith, (rw is at c.write_lines.ensures).0)

-- at a read that moved no byte
pub returns-in_default : goal.returns-in_default
returns-in_default g c =
    let l = c.loop in
    checked _ _ (next_taken _ _ _ _ l.invariant.3 l.invariant.0 c.take-stream.ensures) c.outcome_at-in_default.ensures

pub loop-preserved : goal.loop-preserved
loop-preserved g c =
    let l = c.loop in
    let is : c.write_lines.result ≡ Ok c.in_ok-tail.tail = search rules in
    let waits = rw is at c.write_lines.ensures in
    let behind = c.read_behind-got in
    let front = behind.ensures.kept ∙ waits.1 ∙ ap (λ (room : ℕ). unless_full room (cut (take l.end l.buffer)).rest) (l.invariant.2 ∙ c.requires.size) in
    let read : behind.result ≡ Ok (Some c.in-Ok-Some.size) = search rules in
    let moved = rw read at behind.ensures.within in
    (omega arith, omega (arith, waits.0, moved.1), omega (arith, l.invariant.2), next_waits _ _ _ _ l.invariant.3 l.invariant.0 c.take-stream.ensures front)
