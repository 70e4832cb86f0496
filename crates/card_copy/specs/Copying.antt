-- What is in hand, what may be written of it, and what is promised of a buffer whose finished lines are dealt with: the unfinished one waits at its start.
use Rattle.std.specs.Prelude.{ℕ, ◌-◌, ◌<◌, ◌≤◌, ◌≡◌, cond, length, take, drop, ltb, Result, Ok, Err}
use mathlib.Core.List.{List, ◌++◌, foldl}
use Rattle.lines.specs.Lines.{cut, finished_in}
use Rattle.chunks.specs.Waiting.{unless_full, waiting_in}
use Rattle.card_mask.specs.Masked.{masked_file}
use Rattle.card_stream.specs.declared.Stream.{Stream}
use Rattle.card_stream.specs.Stream.{open_of, taken_of}
use Rattle.card_copy.specs.declared.hand.Hand.{Hand}

-- how many bytes wait of an unfinished line: none where it fills the buffer
abbrev pub waiting_size : ℕ → ℕ → ℕ
waiting_size size room = cond (ltb size room) size 0

-- what is in hand: a chunk behind what waits of the chunks that the stream had taken before
pub record InHand (before : Stream) (bytes : List ℕ) : Type 0 where
  pub edition : ℕ
  pub chunks : List (List ℕ)
  pub chunk : List ℕ
  pub taken : before ≡ foldl taken_of (open_of edition) chunks
  pub are : bytes ≡ waiting_in 65536 chunks ++ chunk

-- what may be written of lines: they are the masked finished lines of what is in hand. So they are all finished, since a part of a record is not masked, and they
-- are their own masked form.
pub record MayBeWritten (before : Stream) (lines : List ℕ) : Type 0 where
  pub bytes : List ℕ
  pub in_hand : InHand before bytes
  pub are : lines ≡ take (finished_in bytes) (masked_file bytes)
  pub all_finished : finished_in lines ≡ length lines
  pub own_masked : masked_file lines ≡ lines

-- the buffer, of 65,536 bytes, in use up to a place
pub record Filled (buffer : List ℕ) (end : ℕ) : Type 0 where
  pub size : length buffer ≡ 65536
  pub within : end ≤ length buffer

-- the buffer has these bytes in hand
pub record Held (hand : Hand) (buffer : List ℕ) : Type 0 where
  pub filled : Filled buffer hand.end
  pub in_hand : InHand hand.before (take hand.end buffer)

-- the finished lines of some bytes are counted, unless a write failed
abbrev pub counts : List ℕ → Result ℕ ℕ → Type 0
counts bytes (Ok n) = n ≡ finished_in bytes
counts bytes (Err error) = Unit {0}

-- behind the first bytes of a buffer: their finished lines are counted, and the unfinished one is as it was
abbrev pub finishes : List ℕ → ℕ → List ℕ → Result ℕ ℕ → Type 0
finishes before end after (Ok n) = (n ≡ finished_in (take end before)) × (take (end - n) (drop n after) ≡ (cut (take end before)).rest)
finishes before end after (Err error) = Unit {0}

-- the bytes from one place up to another were moved to the start
pub record MovedToFront (before : List ℕ) (from end : ℕ) (after : List ℕ) : Type 0 where
  pub front : take (end - from) after ≡ take (end - from) (drop from before)
  pub same : length after ≡ length before

-- behind the first bytes of a buffer: their unfinished line waits at its start, and leaves room for the next read
abbrev pub leaves : List ℕ → ℕ → List ℕ → Result ℕ ℕ → Type 0
leaves before end after (Ok n) = (n < length after) × (take n after ≡ unless_full (length before) (cut (take end before)).rest)
leaves before end after (Err error) = Unit {0}
