-- The invariant: the pieces that are still to come lead from here to where all lead from the start, and the same is left behind them. The measure is what is left of the bytes.
use Prim.Native.Nat.{ℕ}
use mathlib.Core.Path.{◌≡◌}
use mathlib.Core.List.{List, foldl}
use lib.ListN.{length}
use Rattle.lines.specs.Lines.{cut}
use Rattle.lines.specs.Steps.{Means}
use Rattle.lines.proofs.take_pieces.Given as goal

abbrev pub invariant-loop-piece : goal.invariant-loop-piece
invariant-loop-piece g l =
    record {
      taken : (meant : _ → List ℕ → _) → Means (goal.F-post g l.fn.step) meant → foldl meant l.next (cut l.rest).pieces ≡ foldl meant l.fn.state (cut l.fn.bytes).pieces;
      left : (cut l.rest).rest ≡ (cut l.fn.bytes).rest;
    }

abbrev pub decreases-loop-piece : goal.decreases-loop-piece
decreases-loop-piece g l = length l.rest
