-- `program::stream::read_chunks` meets its contract. The invariant: the stream has taken some chunks.
use Rattle.program.specs.Stream.{Taken}
use Rattle.program.proofs.stream.read_chunks.Given as goal

abbrev pub invariant-loop : goal.invariant-loop
invariant-loop g l = Taken g.J.Judge.taken_of l.fn.start l.stream
