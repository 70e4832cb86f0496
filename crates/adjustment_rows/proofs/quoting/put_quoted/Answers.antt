-- `adjustment_rows::quoting::put_quoted` meets its contract: all but the last quote, and that one.
use Prim.Native.Nat.{ℕ}
use mathlib.Core.Path.{ap}
use mathlib.Core.List.{List, ◌∷◌, append_assoc}
use Rattle.wording.proofs.Putting.{both, reworded}
use Rattle.adjustment_rows.specs.Fields.{mark_of, doubled, quoted}
use Rattle.adjustment_rows.proofs.quoting.put_quoted.Goals as goal

pub returns : goal.returns
unfolding quoted
returns c =
    let text = c.args.text.now in
    reworded (ap (λ (l : List ℕ). 34 ∷ l) (append_assoc (mark_of text) (doubled text) _)) (both c.put_unclosed-behind_text.ensures c.text.ensures)
