-- What an outcome says of the file, and what comes of one whose last read is known.
use Rattle.std.specs.Prelude.{Bool, true, false, cond, None, Some, Result, Ok, Err}
use Rattle.files.specs.Loaded.{Got}
use Rattle.card_run.specs.Answer.{CardAnswer}
use Rattle.card_stream.specs.declared.Stream.{Stream}
use Rattle.card_stream.specs.Stream.{ended_of, answer_of}
use Rattle.program.specs.declared.mistake.Failed.TheVariants.{Read}
use Rattle.program.specs.declared.mistake.Mistake.{Mistake}
use Rattle.program.specs.declared.mistake.Mistake.TheVariants.{System}

-- the answer of a file, or why there is none
abbrev pub Outcome : Type 0
Outcome = Result CardAnswer Mistake

-- accepted or refused, and not going on
abbrev pub is_decided : CardAnswer → Bool
is_decided None = false
is_decided (Some answer) = true

-- accepted to its end: neither a mistake, nor going on, nor refused
abbrev pub is_accepted : Outcome → Bool
is_accepted (Ok None) = false
is_accepted (Ok (Some (Ok numbers))) = true
is_accepted (Ok (Some (Err refusal))) = false
is_accepted (Err mistake) = false

-- at the end of the file its answer; a failed read is not the end; and where bytes came, the answer only if no further byte can change it
unfoldable pub outcome_at : Got → Stream → Outcome
outcome_at (Ok None) stream = Ok (answer_of (ended_of stream))
outcome_at (Ok (Some n)) stream = cond (is_decided (answer_of stream)) (Ok (answer_of (ended_of stream))) (Err (System Read 0))
outcome_at (Err error) stream = Err (System Read error)
