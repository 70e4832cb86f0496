-- `chunks::take_chunk` meets its contract: a chunk with no piece is held, and of any other the pieces are taken, the first behind what was held.
use mathlib.Core.Path.{◌∙◌, ap}
use mathlib.Core.List.{List, [], ◌++◌}
use Prim.Native.Nat.{ℕ}
use Rattle.chunks.specs.Unfinished.{clipped, holding}
use Rattle.chunks.specs.Held.{run_of}
use Rattle.chunks.proofs.Held.{clean}
use Rattle.chunks.proofs.Pieces.{ran_on, ran_behind}
use Rattle.chunks.proofs.take_chunk.Goals as goal

pub returns-in_default : goal.returns-in_default
returns-in_default g c = λ meant means no_further. ran_on meant (run_of c.args.state c.args.held) c.args.chunk.now c.in_default.ensures c.followed_by.ensures

pub returns : goal.returns
returns g c =
    λ meant means no_further.
    let first = c.held.ensures ∙ (clean _ c.followed_by-2.ensures).0 in
    let rest = c.followed_by-3.ensures ∙ ap (λ (h : List ℕ). holding (clipped (h ++ c.take_pieces-state.result.1.now))) (clean [] c.none.ensures).0 in
    ran_behind meant no_further (run_of c.args.state c.args.held) c.args.chunk.now c.in-Some.piece.now c.in-Some.behind.now _
    (rw (c.in-Some.piece-is, c.in-Some.behind-is) c.in-Some.ensures) (means _ _ _ c.step-next.ensures ∙ ap (meant c.args.state) first) (c.take_pieces-state.ensures.taken meant means) c.take_pieces-state.ensures.left rest
