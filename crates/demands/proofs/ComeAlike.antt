-- As much of two files as has come, where the files have one masked form: at these places that form is cut into the masked pieces of either, and equally many bytes
-- are left behind them. So the streams have one state and hold equally many bytes, and no answer looks further, before the end or at it.
use Prim.Native.Nat.{ℕ, ◌+◌, min}
use mathlib.Core.Path.{◌≡◌, refl, sym, ◌∙◌, ap, ap₂}
use mathlib.Core.List.{List, [], ◌++◌, map}
use mathlib.Core.Bool.{cond}
use native.Mathlib.Omega.{arith}
use lib.ListN.{length, take}
use lib.Seq.{take_at}
use Rattle.pan.specs.Masked.{star_where}
use Rattle.pan.proofs.Stars.{length_kept, in_a_row}
use Rattle.lines.specs.Lines.{Lines, cut, rejoined}
use Rattle.lines.proofs.Cuts.{cut_is_cut}
use Rattle.chunks.specs.Unfinished.{clipped, held_by}
use Rattle.chunks.specs.Chunks.{start_of, joined_chunks}
use Rattle.chunks.proofs.Clipped.{clipped_exactly}
use Rattle.chunks.proofs.Held.{held_back}
use Rattle.chunks.proofs.Streams.{cut_on}
use Rattle.files.specs.Loaded.{Got}
use Rattle.card_run.specs.Running.{open_of}
use Rattle.card_run.specs.Answer.{answer_of as answered}
use Rattle.card_file.specs.CardFile.{lines_of, end_of, check_of}
use Rattle.card_stream.specs.declared.Stream.{Stream}
use Rattle.card_stream.specs.Stream.{stream_of, ended_of, with_held, answer_of}
use Rattle.card_stream.proofs.Ends.{equally_held}
use Rattle.card_stream.proofs.InChunks.{taken_as_whole, chunks_as_whole}
use Rattle.card_mask.specs.Masked.{masked_piece, masked_file}
use Rattle.card_mask.proofs.Again.{cut_masked}
use Rattle.card_mask.proofs.Clear.{stars_clear}
use Rattle.card_mask.proofs.InChunks.{lines_written}
use Rattle.adjustment_rows.specs.Row.{header}
use Rattle.adjustment_rows.specs.Rows.{rows_of}
use Rattle.adjustment_rows.proofs.InChunks.{tabled_as_whole}
use Rattle.program.specs.declared.mistake.Mistake.TheVariants.{System}
use Rattle.program.specs.declared.mistake.Failed.TheVariants.{Read}
use Rattle.card_program.specs.Outcome.{is_decided, outcome_at}
use Rattle.demands.specs.HiddenDigits.{hidden_in_pieces, hidden_in}
use Rattle.demands.specs.InChunks.{card_taken, copied_in_chunks, tabled_in_chunks}
use Rattle.demands.specs.ToldAlike.{ComeAlike}
use Rattle.demands.proofs.MaskedFiles.{same_lines}
use Rattle.demands.proofs.MaskedPlaces.{of_pieces, stars_where_hidden}
use Rattle.demands.proofs.MaskedRows.{same_rows}
use Rattle.std.specs.Prelude.{Err, Ok, Some, None}

-- the lines of a, masked, and behind them what has come of the piece that has not ended, with the stars that it has in a ++ b: it may end within a card
abbrev starred : List ℕ → List ℕ → Lines
starred a b = record { pieces = map masked_piece (cut a).pieces; rest = star_where (hidden_in ((cut a).rest ++ b)) (cut a).rest }

-- the masked form of a ++ b begins with a, with its stars
begins : (a b : List ℕ) → take (length a) (masked_file (a ++ b)) ≡ star_where (hidden_in (a ++ b)) a
begins a b =
    let h = hidden_in (a ++ b) in
    ap (take (length a)) (stars_where_hidden (a ++ b) ∙ in_a_row h a b) ∙
    take_at (star_where h a) (star_where (λ i. h (length a + i)) b) (length a) (length_kept h a)

-- which is these lines
in_lines : (a b : List ℕ) → star_where (hidden_in (a ++ b)) a ≡ rejoined (starred a b).pieces (starred a b).rest
in_lines a b =
    let ls = cut a in
    ap₂ (λ ps s. star_where (hidden_in_pieces ps) s) (ap (λ (l : Lines). l.pieces) (cut_on a b)) (sym (cut_is_cut a).whole) ∙
    sym (of_pieces ls.pieces (cut (ls.rest ++ b)).pieces ls.rest)

-- and is cut into them, since a star is no LF
cut_there : (a b : List ℕ) → cut (take (length a) (masked_file (a ++ b))) ≡ starred a b
cut_there a b =
    ap cut (begins a b ∙ in_lines a b) ∙
    cut_masked a (starred a b).rest (stars_clear (hidden_in ((cut a).rest ++ b)) (cut a).rest (cut_is_cut a).rest_clear)

-- how many bytes of a rest are held
clipped_length : (rest : List ℕ) → length (clipped rest) ≡ min (length rest) 242
clipped_length rest = clipped_exactly [] rest (omega arith) ∙ omega arith

-- how many bytes wait in a stream, and so many it holds
waiting : (edition : ℕ) (cs : List (List ℕ)) → (card_taken edition cs).held.length ≡ min (length (cut (joined_chunks cs)).rest) 242
waiting edition cs = ap (λ (s : Stream). s.held.length) (taken_as_whole edition cs) ∙ clipped_length (cut (joined_chunks cs)).rest

held_length : (edition : ℕ) (cs : List (List ℕ)) → length (held_by (card_taken edition cs).held) ≡ min (length (cut (joined_chunks cs)).rest) 242
held_length edition cs =
    let rest = (cut (joined_chunks cs)).rest in
    ap (λ (s : Stream). length (held_by s.held)) (taken_as_whole edition cs) ∙ ap length (held_back (clipped rest)) ∙ clipped_length rest

-- streams in one state that hold equally many bytes: the answer so far, the end, and what comes of the last read
module _ (s t : Stream) (state : s.state ≡ t.state) (held : length (held_by s.held) ≡ length (held_by t.held)) where
  answer_alike : answer_of s ≡ answer_of t
  answer_alike =
      ap (λ st. answered (with_held (held_by s.held) st)) state ∙ ap answered (equally_held t.state (held_by s.held) (held_by t.held) held).0

  ended_alike : ended_of s ≡ ended_of t
  ended_alike =
      ap (λ st. stream_of (start_of st))
      (ap (λ st. end_of st (held_by s.held)) state ∙ (equally_held t.state (held_by s.held) (held_by t.held) held).1)

  outcome_alike : (got : Got) → outcome_at got s ≡ outcome_at got t
  unfolding outcome_at
  outcome_alike (Ok None) = ap (λ u. Ok (answer_of u)) ended_alike
  outcome_alike (Err error) = refl
  outcome_alike (Ok (Some n)) = ap₂ (λ a u. cond (is_decided a) (Ok (answer_of u)) (Err (System Read 0))) answer_alike ended_alike

-- two files with one masked form, of which equally much has come
module _ (cs ds : List (List ℕ)) (w : ComeAlike (λ s t. masked_file s ≡ masked_file t) cs ds) where
  lines_alike : starred (joined_chunks cs) w.more_of_one ≡ starred (joined_chunks ds) w.more_of_other
  lines_alike =
      sym (cut_there (joined_chunks cs) w.more_of_one) ∙ ap₂ (λ n s. cut (take n s)) w.equally_much w.files ∙
      cut_there (joined_chunks ds) w.more_of_other

  -- the pieces, masked, and how many bytes are left
  pieces_alike : map masked_piece (cut (joined_chunks cs)).pieces ≡ map masked_piece (cut (joined_chunks ds)).pieces
  pieces_alike = ap (λ (ls : Lines). ls.pieces) lines_alike

  rest_alike : length (cut (joined_chunks cs)).rest ≡ length (cut (joined_chunks ds)).rest
  rest_alike = sym (length_kept _ (cut (joined_chunks cs)).rest) ∙ ap (λ (ls : Lines). length ls.rest) lines_alike ∙ length_kept _ (cut (joined_chunks ds)).rest

  -- what masking has written
  pub written_alike : (copied_in_chunks cs).written ≡ (copied_in_chunks ds).written
  written_alike = lines_written cs ∙ ap (λ ps. rejoined ps []) pieces_alike ∙ sym (lines_written ds)

  -- and the rows that are written
  pub rows_written_alike : (tabled_in_chunks cs).written ≡ (tabled_in_chunks ds).written
  rows_written_alike =
      tabled_as_whole cs ∙ sym (ap (λ rows. header ++ rows) (same_rows 1 (cut (joined_chunks cs)).pieces)) ∙ ap (λ ps. header ++ rows_of 1 ps) pieces_alike ∙
      ap (λ rows. header ++ rows) (same_rows 1 (cut (joined_chunks ds)).pieces) ∙ sym (tabled_as_whole ds)

  -- the streams that took them
  module _ (edition : ℕ) where
    pub state_alike : (card_taken edition cs).state ≡ (card_taken edition ds).state
    state_alike =
        let st = open_of edition in
        ap (λ (s : Stream). s.state) (taken_as_whole edition cs) ∙
        sym (same_lines st (cut (joined_chunks cs)).pieces) ∙ ap (lines_of st) pieces_alike ∙ same_lines st (cut (joined_chunks ds)).pieces ∙
        sym (ap (λ (s : Stream). s.state) (taken_as_whole edition ds))

    pub waiting_alike : (card_taken edition cs).held.length ≡ (card_taken edition ds).held.length
    waiting_alike = waiting edition cs ∙ ap (λ n. min n 242) rest_alike ∙ sym (waiting edition ds)

    held_alike : length (held_by (card_taken edition cs).held) ≡ length (held_by (card_taken edition ds).held)
    held_alike = held_length edition cs ∙ ap (λ n. min n 242) rest_alike ∙ sym (held_length edition ds)

    pub so_far_alike : answer_of (card_taken edition cs) ≡ answer_of (card_taken edition ds)
    so_far_alike = answer_alike (card_taken edition cs) (card_taken edition ds) state_alike held_alike

    pub printed_alike : (got : Got) → outcome_at got (card_taken edition cs) ≡ outcome_at got (card_taken edition ds)
    printed_alike = outcome_alike (card_taken edition cs) (card_taken edition ds) state_alike held_alike

    -- and as much as has come, read as a whole file
    pub taken_alike : check_of edition (joined_chunks cs) ≡ check_of edition (joined_chunks ds)
    taken_alike =
        sym (chunks_as_whole edition cs) ∙ ap answer_of (ended_alike (card_taken edition cs) (card_taken edition ds) state_alike held_alike) ∙ chunks_as_whole edition ds
