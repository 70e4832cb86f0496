-- A card file's stream that has taken some chunks: its end answers for all of them joined.
use Prim.Native.Nat.{ℕ}
use mathlib.Core.Path.{◌≡◌, refl, sym, ◌∙◌, ap, subst}
use mathlib.Core.Bool.{Bool, true, false, cond}
use Rattle.std.specs.Prelude.{None, Some, Result, Ok, Err}
use Rattle.chunks.specs.Chunks.{joined_chunks}
use Rattle.files.specs.Loaded.{Got}
use Rattle.card_stream.specs.declared.Stream.{Stream}
use Rattle.card_stream.specs.Stream.{open_of, taken_of, ended_of, answer_of}
use Rattle.card_stream.proofs.InChunks.{chunks_as_whole}
use Rattle.program.specs.declared.mistake.Mistake.{Mistake}
use Rattle.program.specs.declared.mistake.Mistake.TheVariants.{System}
use Rattle.program.specs.declared.mistake.Failed.TheVariants.{Read}
use Rattle.program.specs.Stream.{Taken, at_end}
use Rattle.card_program.specs.Outcome.{Outcome, is_decided, outcome_at}
use Rattle.card_program.specs.Checked.{Checked}

-- what comes of a file is the answer of its stream's end
abbrev pub answered : Result Stream Mistake → Outcome
answered (Ok stream) = Ok (answer_of stream)
answered (Err mistake) = Err mistake

pub at_end_answered : (got : Got) (stream : Stream) → answered (at_end ended_of (λ s. is_decided (answer_of s)) got stream) ≡ outcome_at got stream
unfolding outcome_at
at_end_answered (Ok None) stream = refl
at_end_answered (Ok (Some n)) stream = by (is_decided (answer_of stream))
  where
    by : (decided : Bool) → answered (cond decided (Ok (ended_of stream)) (Err (System Read 0))) ≡ cond {A = Outcome} decided (Ok (answer_of (ended_of stream))) (Err (System Read 0))
    by true = refl
    by false = refl
at_end_answered (Err error) stream = refl

abbrev pub CardTaken : ℕ → Stream → Type 0
CardTaken edition = Taken taken_of (open_of edition)

ended : (edition : ℕ) {stream : Stream} → CardTaken edition stream → Checked edition (Ok (answer_of (ended_of stream)))
ended edition w = (joined_chunks w.chunks, ap answer_of (ap ended_of w.so_far_lem) ∙ chunks_as_whole edition w.chunks)

-- so whatever comes of its last read is as promised
pub checked : (edition : ℕ) (got : Got) {stream : Stream} {outcome : Outcome} → CardTaken edition stream → outcome ≡ outcome_at got stream → Checked edition outcome
unfolding outcome_at
checked edition got {stream} {outcome} w e = subst (Checked edition) (sym e) (at got)
  where
    by : (decided : Bool) → Checked edition (cond {A = Outcome} decided (Ok (answer_of (ended_of stream))) (Err (System Read 0)))
    by true = ended edition w
    by false = tt

    at : (g : Got) → Checked edition (outcome_at g stream)
    at (Ok None) = ended edition w
    at (Ok (Some n)) = by (is_decided (answer_of stream))
    at (Err error) = tt
