-- The law of chunks for a stream: two chunks are as one, so a file that is cut anywhere answers as the whole.
use Rattle.std.proofs.Common.{◌≡◌, ℕ, List, [], ◌∷◌, ◌++◌, ap, ◌∙◌}
use mathlib.Core.List.{append-nil}
use Rattle.chunks.specs.Chunks.{ran_over, joined_chunks}
use Rattle.chunks.proofs.Held.{held_back}
use Rattle.chunks.proofs.Streams.{two_chunks}
use Rattle.card_file.specs.CardFile.{line_of, check_of}
use Rattle.card_stream.specs.declared.Stream.{Stream}
use Rattle.card_stream.specs.Stream.{run_of, stream_of, open_of, taken_of, ended_of, answer_of}
use Rattle.card_stream.proofs.NoFurther.{no_further}
use Rattle.card_stream.proofs.InChunks.{chunks_as_whole}

-- two chunks are as one
pub taken_on : (s : Stream) (a b : List ℕ) → taken_of (taken_of s a) b ≡ taken_of s (a ++ b)
taken_on s a b =
    let run = ran_over line_of (run_of s) a in
    ap (λ h. stream_of (ran_over line_of (record { state = run.state; held = h }) b)) (held_back run.held) ∙
    ap stream_of (two_chunks line_of no_further (run_of s) a b)

-- all of a file as one chunk
as_whole : (edition : ℕ) (file : List ℕ) → answer_of (ended_of (taken_of (open_of edition) file)) ≡ check_of edition file
unfolding joined_chunks
as_whole edition file = chunks_as_whole edition (file ∷ []) ∙ ap (check_of edition) (append-nil file)

-- the answer of a stream that has taken all of a file
pub answered : (edition : ℕ) (file : List ℕ) {opened taken : Stream} → opened ≡ open_of edition → taken ≡ taken_of opened file →
    answer_of (ended_of taken) ≡ check_of edition file
answered edition file e f = ap (λ s. answer_of (ended_of s)) (f ∙ ap (λ s. taken_of s file) e) ∙ as_whole edition file
