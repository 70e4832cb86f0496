-- `lines::without_last` meets its contract: all bytes but one.
use mathlib.Core.Path.{refl, sym}
use native.Mathlib.Omega.{arith}
use Rattle.lines.proofs.Ends.{all_but_one}
use Rattle.lines.proofs.without_last.Goals as goal

pub returns : goal.returns
returns c = record { holds = rw c.saturating_sub.ensures (sym (all_but_one _)); block = refl; begins = omega arith }
