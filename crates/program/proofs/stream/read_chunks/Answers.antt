-- `program::stream::read_chunks` meets its contract. The invariant: the stream has taken some chunks.
use Rattle.program.proofs.Taken.{one_taken_lem}
use Rattle.program.proofs.stream.read_chunks.Goals as goal

pub returns-then-decided : goal.returns-then-decided
returns-then-decided g c = one_taken_lem _ _ _ c.loop.invariant c.taken-stream.ensures

pub loop-preserved : goal.loop-preserved
loop-preserved g c = one_taken_lem _ _ _ c.loop.invariant c.taken-stream.ensures
