-- A card file in chunks: a state, and what is held of the record that has not ended.
use Rattle.std.specs.Prelude.{ℕ, List, [], ◌∷◌}
use Rattle.refusal.specs.declared.Cause.TheVariants.{BytesAfterTheEnd}
use Rattle.chunks.specs.Unfinished.{held_by, holding}
use Rattle.chunks.specs.Chunks.{Run, start_of, ran_over}
use Rattle.card_run.specs.declared.stage.Stage.{Stage}
use Rattle.card_run.specs.declared.stage.Stage.TheVariants.{Start, BetweenBatches, InBatch, Ended, Closed, Refused}
use Rattle.card_run.specs.declared.running.Running.{Running}
use Rattle.card_run.specs.Running.{open_of as opened, refused_at}
use Rattle.card_run.specs.Answer.{answer_of as answered, CardAnswer}
use Rattle.card_file.specs.CardFile.{line_of, end_of}
use Rattle.card_stream.specs.declared.Stream.{Stream}

-- a stream as a run over pieces, and a run as a stream
abbrev pub run_of : Stream → Run Running
run_of s = record { state = s.state; held = held_by s.held }

abbrev pub stream_of : Run Running → Stream
stream_of run = record { state = run.state; held = holding run.held }

-- nothing has come
abbrev pub open_of : ℕ → Stream
open_of edition = stream_of (start_of (opened edition))

-- the next bytes: each piece before an LF is taken as reading the whole takes it
abbrev pub taken_of : Stream → List ℕ → Stream
taken_of s chunk = stream_of (ran_over line_of (run_of s) chunk)

-- the end: what is left is taken as reading the whole takes it
abbrev pub ended_of : Stream → Stream
ended_of s = stream_of (start_of (end_of s.state (held_by s.held)))

-- 13, "bytes after the end": those that come after an accepted end
unfoldable pub behind_end : Stage → Running → Running
behind_end Start st = st
behind_end BetweenBatches st = st
behind_end InBatch st = st
behind_end Ended st = st
behind_end Closed st = refused_at BytesAfterTheEnd 0 st
behind_end (Refused r) st = st

unfoldable pub with_held : List ℕ → Running → Running
with_held [] st = st
with_held (b ∷ s) st = behind_end st.stage st

-- the answer so far
abbrev pub answer_of : Stream → CardAnswer
answer_of s = answered (with_held (held_by s.held) s.state)
