-- `day_sheet::number::Form::put` meets its contract. The invariant: behind i stand the lowest digits, and the rest of the number is left.
use Prim.Native.Nat.{suc, ◌-◌}
use mathlib.Core.Path.{◌≡◌}
use native.Mathlib.Omega.{arith}
use lib.ListN.{length}
use Rattle.day_sheet.specs.Number.{base}
use Rattle.day_sheet.proofs.Digits.{none_written, all_left, one_more, less_left, all_written}
use Rattle.day_sheet.proofs.number.Form.put.Goals as goal

pub loop-i-init : goal.loop-i-init
loop-i-init c =
    let s = c.args.part.now in
    let e : length s - length s ≡ 0 = omega arith in
    record { written = rw e (none_written _ _ _ s); rest = rw e (all_left (base c.args.self) 0 _) }

pub loop-i-preserved : goal.loop-i-preserved
loop-i-preserved c =
    let l = c.loop-i in
    let n = length c.args.part.now in
    let j : suc (l.i - 1) ≡ l.i = omega arith in
    let k : n - (l.i - 1) ≡ suc (n - l.i) = omega arith in
    record {
      written = rw k (one_more _ _ _ l.part (l.i - 1) (n - l.i) l.left _ (omega arith) (rw j l.invariant.written) l.invariant.rest c.last_digit.ensures);
      rest = rw k (less_left (base c.args.self) 0 _ (n - l.i) l.left _ l.invariant.rest c.other_digits-left.ensures);
    }

pub returns : goal.returns
returns c =
    let l = c.loop-i in
    all_written _ _ _ l.part l.i (length c.args.part.now) (omega arith) l.invariant.written
