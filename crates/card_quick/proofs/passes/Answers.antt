-- `card_quick::passes` meets its contract: bytes as many as a sale's are their own first 199, and of others the test says no.
use mathlib.Core.Path.{sym, ◌∙◌, ap}
use mathlib.Core.Bool.{◌&&◌}
use native.Mathlib.Omega.{arith}
use lib.ListN.{length, length-take}
use lib.Seq.{length-take-le, take_all}
use borrow.Author.Tests.{eq-eqb}
use Rattle.card_quick.specs.Quick.{surely_right}
use Rattle.card_quick.proofs.passes.Goals as goal

pub slice_bounds-is_right-end : goal.slice_bounds-is_right-end
slice_bounds-is_right-end c = sym (length-take-le 199 c.args.bytes.now (omega arith))

pub is_right-requires : goal.is_right-requires
is_right-requires c = simp length-take (omega arith)

pub returns-then-bytes-eq-WIDTH : goal.returns-then-bytes-eq-WIDTH
returns-then-bytes-eq-WIDTH c =
    let args = c.args in
    let bytes = args.bytes.now in
    c.is_right.ensures ∙ ap (surely_right args.edition) (take_all 199 bytes (omega arith)) ∙
    ap (λ b. b && surely_right args.edition bytes) (sym (eq-eqb (length bytes) 199 (omega arith)))
