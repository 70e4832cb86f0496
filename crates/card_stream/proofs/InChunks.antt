-- A file in chunks is the file read whole. A stream is a run over pieces (`chunks`), and neither taking a line nor the end looks further into what
-- is held than what is held of it.
use Prim.Native.Nat.{ℕ, ◌<◌}
use mathlib.Core.Path.{◌≡◌, refl, ◌∙◌, ap}
use mathlib.Core.List.{List, [], ◌∷◌, foldl}
use native.Mathlib.Omega.{arith}
use lib.ListN.{length}
use Rattle.lines.specs.Lines.{cut}
use Rattle.chunks.specs.Unfinished.{one_more, clipped_with, clipped}
use Rattle.chunks.specs.Chunks.{Run, start_of, ran_over, joined_chunks, LooksNoFurther}
use Rattle.chunks.proofs.Clipped.{clipped_some}
use Rattle.chunks.proofs.Held.{held_back}
use Rattle.chunks.proofs.Streams.{all_chunks}
use Rattle.card_run.specs.declared.running.Running.{Running}
use Rattle.card_run.specs.Running.{open_of as opened}
use Rattle.card_run.specs.Answer.{answer_of as answered}
use Rattle.card_file.specs.CardFile.{unended_of, line_of, lines_of, end_of, check_of}
use Rattle.card_stream.specs.Stream.{stream_of, open_of, taken_of, ended_of, with_held, answer_of}
use Rattle.card_stream.proofs.NoFurther.{no_further}

-- the end looks at whether a byte is left
pub some_left : (st : Running) (s : List ℕ) → 0 < length s → end_of st s ≡ unended_of st
unfolding end_of
some_left st [] h = absurd (omega arith)
some_left st (b ∷ s) h = refl

end_no_further : LooksNoFurther end_of
unfolding clipped_with end_of
end_no_further st [] = refl
end_no_further st (b ∷ s) = some_left st (clipped_with (one_more [] b) s) (clipped_some b [] s)

-- taking chunks is running over them
as_runs : (run : Run Running) (cs : List (List ℕ)) → foldl taken_of (stream_of run) cs ≡ stream_of (foldl (ran_over line_of) run cs)
as_runs run [] = refl
as_runs run (c ∷ cs) =
    ap (λ h. foldl taken_of (stream_of (ran_over line_of (record { state = run.state; held = h }) c)) cs) (held_back run.held) ∙
    as_runs (ran_over line_of run c) cs

-- and pieces one after the other are a fold
as_fold : (st : Running) (ps : List (List ℕ)) → foldl line_of st ps ≡ lines_of st ps
unfolding lines_of
as_fold st [] = refl
as_fold st (p ∷ ps) = as_fold (line_of st p) ps

-- once chunks have come, the lines of the bytes joined have been taken, however they were cut, and of the rest behind them is held what is needed
pub taken_as_whole : (edition : ℕ) (chunks : List (List ℕ)) →
    foldl taken_of (open_of edition) chunks ≡
    stream_of (record { state = lines_of (opened edition) (cut (joined_chunks chunks)).pieces; held = clipped (cut (joined_chunks chunks)).rest })
taken_as_whole edition chunks =
    let file = cut (joined_chunks chunks) in
    as_runs (start_of (opened edition)) chunks ∙
    ap stream_of (all_chunks line_of no_further (opened edition) chunks) ∙
    ap (λ st. stream_of (record { state = st; held = clipped file.rest })) (as_fold (opened edition) file.pieces)

-- the answer behind the end is that of the state
behind_end_lem : (st : Running) → answer_of (stream_of (start_of st)) ≡ answered st
unfolding with_held
behind_end_lem st = refl

-- "open, chunks, end" is the check of the bytes joined, however they were cut
pub chunks_as_whole : (edition : ℕ) (chunks : List (List ℕ)) →
    answer_of (ended_of (foldl taken_of (open_of edition) chunks)) ≡ check_of edition (joined_chunks chunks)
chunks_as_whole edition chunks =
    let file = cut (joined_chunks chunks) in
    let st = lines_of (opened edition) file.pieces in
    ap (λ s. answer_of (ended_of s)) (taken_as_whole edition chunks) ∙
    behind_end_lem _ ∙
    ap (λ h. answered (end_of st h)) (held_back (clipped file.rest)) ∙
    ap answered (end_no_further st file.rest)
