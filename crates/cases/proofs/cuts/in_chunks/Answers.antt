-- `cases::cuts::in_chunks` meets its contract. The invariant: with what is still to come it is all of the file that was taken.
use Rattle.std.proofs.Common.{refl, ◌∙◌, arith}
use Rattle.cases.proofs.Chunks.{chunk_on, last_chunk}
use Rattle.cases.proofs.cuts.in_chunks.Goals as goal

pub loop-preserved : goal.loop-preserved
loop-preserved g c =
    let l = c.loop in
    (omega arith, λ taken t. chunk_on t c.args.file.now l.at c.behind-end.result (omega arith) refl c.take-state.ensures ∙ l.invariant.1 taken t)

pub returns : goal.returns
returns g c = λ taken t. last_chunk t c.args.file.now c.loop.at refl c.take.ensures ∙ c.loop.invariant.1 taken t
