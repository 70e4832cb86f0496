-- `card_stream::Stream::take` meets its contract: taking a line looks no further into it than what is held of it.
use Rattle.card_file.specs.CardFile.{line_of}
use Rattle.card_stream.proofs.NoFurther.{no_further}
use Rattle.card_stream.proofs.Stream.take.Goals as goal

pub returns : goal.returns
returns c =
    let ran = c.take_chunk.ensures line_of (λ st piece next e. e) no_further in
    λ i. record { state = ran.same_state i; held = ran.same_held i }
