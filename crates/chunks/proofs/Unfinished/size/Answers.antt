-- `chunks::Unfinished::size` meets its contract: the buffer has 242 bytes, and no more of them are taken.
use mathlib.Core.Path.{◌≡◌}
use native.Mathlib.Omega.{arith}
use borrow.Author.Rules.{rules}
use lib.ListN.{length, length-take}
use Rattle.chunks.proofs.Unfinished.size.Goals as goal

pub returns : goal.returns
returns c =
    let l : length c.args.self.bytes ≡ 242 = search rules in
    omega (arith, length-take c.args.self.length c.args.self.bytes)
