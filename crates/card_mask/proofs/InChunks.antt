-- Masked chunk by chunk, the pieces joined are the masked copy: what was written is the masked lines of all the bytes so far, and what waits is the
-- rest of their cut.
use Prim.Native.Nat.{ℕ, suc, ◌+◌}
use mathlib.Core.Path.{◌≡◌, refl, sym, ◌∙◌, ap, ap₂}
use mathlib.Core.List.{List, [], ◌∷◌, ◌++◌, map, map-append, foldl, append-nil, append_assoc}
use native.Mathlib.Omega.{arith}
use lib.ListN.{length, take, drop, length-append}
use lib.Seq.{take_at, drop_at}
use Rattle.lines.specs.Lines.{Lines, lf, cut, rejoined, finished_in}
use Rattle.lines.proofs.Cuts.{cut_is_cut}
use Rattle.lines.proofs.Finished.{rejoined_behind}
use Rattle.chunks.specs.Chunks.{joined_chunks}
use Rattle.chunks.proofs.Streams.{cut_on}
use Rattle.card_run.specs.declared.stage.Stage.{Stage}
use Rattle.card_run.specs.declared.stage.Stage.TheVariants.{Start, BetweenBatches, InBatch, Ended, Closed, Refused}
use Rattle.card_run.specs.declared.running.Running.{Running}
use Rattle.card_run.specs.declared.answer.Accepted.{Accepted as Numbers}
use Rattle.card_run.specs.Running.{open_of, late_at}
use Rattle.card_run.specs.Answer.{answer_at, answer_of}
use Rattle.card_file.specs.CardFile.{unended_at, lines_of, end_of, check_of}
use Rattle.card_mask.specs.Masked.{masked_piece, masked_file}
use Rattle.card_mask.specs.InChunks.{Copied, nothing_copied, copied_over}
use Rattle.card_mask.proofs.Pieces.{piece_length}
use Rattle.std.specs.Prelude.{Ok, Some}

-- masking keeps the length of lines and of what stands behind them
pub lines_length : (ps : List (List ℕ)) (rest : List ℕ) → length (rejoined (map masked_piece ps) rest) ≡ length (rejoined ps rest)
unfolding rejoined
lines_length [] rest = refl
lines_length (p ∷ ps) rest =
    length-append (masked_piece p) (lf ∷ rejoined (map masked_piece ps) rest) ∙
    ap₂ (λ (m n : ℕ). m + suc n) (piece_length p) (lines_length ps rest) ∙
    sym (length-append p (lf ∷ rejoined ps rest))

pub masked_length : (s : List ℕ) → length (masked_file s) ≡ length s
masked_length s = lines_length (cut s).pieces (cut s).rest ∙ ap length (cut_is_cut s).whole

-- the masked lines stand in front, and the rest behind them
lines_then_rest : (s : List ℕ) → masked_file s ≡ rejoined (map masked_piece (cut s).pieces) [] ++ (cut s).rest
lines_then_rest s = sym (rejoined_behind (map masked_piece (cut s).pieces) [] (cut s).rest)

pub finished_part : (s : List ℕ) → take (finished_in s) (masked_file s) ≡ rejoined (map masked_piece (cut s).pieces) []
finished_part s =
    ap (take (finished_in s)) (lines_then_rest s) ∙ take_at (rejoined (map masked_piece (cut s).pieces) []) (cut s).rest (finished_in s) (lines_length (cut s).pieces [])

pub waiting_part : (s : List ℕ) → drop (finished_in s) (masked_file s) ≡ (cut s).rest
waiting_part s =
    ap (drop (finished_in s)) (lines_then_rest s) ∙ drop_at (rejoined (map masked_piece (cut s).pieces) []) (cut s).rest (finished_in s) (lines_length (cut s).pieces [])

-- what is written and what waits, once these bytes have come
copy_of : Lines → Copied
copy_of ls = record { written = rejoined (map masked_piece ls.pieces) []; waiting = ls.rest }

lines_append : (ps qs : List (List ℕ)) → rejoined (ps ++ qs) [] ≡ rejoined ps [] ++ rejoined qs []
unfolding rejoined
lines_append [] qs = refl
lines_append (p ∷ ps) qs = ap (λ s. p ++ (lf ∷ s)) (lines_append ps qs) ∙ sym (append_assoc p (lf ∷ rejoined ps []) (rejoined qs []))

one_chunk : (a c : List ℕ) → copied_over (copy_of (cut a)) c ≡ copy_of (cut (a ++ c))
unfolding copy_of
one_chunk a c =
    let s = (cut a).rest ++ c in
    let before = map masked_piece (cut a).pieces in
    ap₂ (λ (w l : List ℕ). record { written = rejoined before [] ++ w; waiting = l }) (finished_part s) (waiting_part s) ∙
    ap (λ (w : List ℕ). record { written = w; waiting = (cut s).rest })
    (sym (lines_append before (map masked_piece (cut s).pieces)) ∙ ap (λ ps. rejoined ps []) (sym (map-append masked_piece (cut a).pieces (cut s).pieces))) ∙
    ap copy_of (sym (cut_on a c))

all_chunks : (a : List ℕ) (cs : List (List ℕ)) → foldl copied_over (copy_of (cut a)) cs ≡ copy_of (cut (a ++ joined_chunks cs))
unfolding joined_chunks
all_chunks a [] = ap (λ s. copy_of (cut s)) (sym (append-nil a))
all_chunks a (c ∷ cs) =
    ap (λ so. foldl copied_over so cs) (one_chunk a c) ∙ all_chunks (a ++ c) cs ∙ ap (λ s. copy_of (cut s)) (append_assoc a c (joined_chunks cs))

-- an accepted file leaves no byte behind its last LF: bytes without a line end are refused
refused_there : (st : Running) (a : Numbers) (stage : Stage) → st.stage ≡ stage → answer_of (unended_at stage st) ≡ Some (Ok a) → ⊥
unfolding unended_at answer_at late_at
refused_there st a Start e q = absurd (let z : ◌≡◌ {A = ℕ} 0 1 = cc in omega arith)
refused_there st a BetweenBatches e q = absurd (let z : ◌≡◌ {A = ℕ} 0 1 = cc in omega arith)
refused_there st a InBatch e q = absurd (let z : ◌≡◌ {A = ℕ} 0 1 = cc in omega arith)
refused_there st a Ended e q = absurd (let z : ◌≡◌ {A = ℕ} 0 1 = cc in omega arith)
refused_there st a Closed e q = absurd (let z : ◌≡◌ {A = ℕ} 0 1 = cc in omega arith)
refused_there st a (Refused r) e q =
    let refused : answer_at (Refused r) st ≡ Some (Ok a) = ap (λ s. answer_at s st) (sym e) ∙ q in
    absurd (let z : ◌≡◌ {A = ℕ} 0 1 = cc in omega arith)

nothing_waits : (st : Running) (a : Numbers) (rest : List ℕ) → answer_of (end_of st rest) ≡ Some (Ok a) → rest ≡ []
unfolding end_of
nothing_waits st a [] q = refl
nothing_waits st a (b ∷ s) q = absurd (refused_there st a st.stage refl q)

-- "the pieces joined are the masked copy", however the file was cut
pub copied_as_whole : (chunks : List (List ℕ)) →
    (foldl copied_over nothing_copied chunks).written ++ (foldl copied_over nothing_copied chunks).waiting ≡ masked_file (joined_chunks chunks)
unfolding copy_of cut rejoined
copied_as_whole chunks =
    ap (λ (c : Copied). c.written ++ c.waiting) (all_chunks [] chunks) ∙ sym (lines_then_rest (joined_chunks chunks))

-- what is written once these chunks have come: the masked lines of all their bytes
pub lines_written : (chunks : List (List ℕ)) → (foldl copied_over nothing_copied chunks).written ≡ rejoined (map masked_piece (cut (joined_chunks chunks)).pieces) []
unfolding copy_of cut rejoined
lines_written chunks = ap (λ (c : Copied). c.written) (all_chunks [] chunks)

-- and what waits: the rest of their cut
pub rest_waits : (chunks : List (List ℕ)) → (foldl copied_over nothing_copied chunks).waiting ≡ (cut (joined_chunks chunks)).rest
unfolding copy_of cut rejoined
rest_waits chunks = ap (λ (c : Copied). c.waiting) (all_chunks [] chunks)

-- and of an accepted file nothing waits, so what was written is all of it
pub accepted_copy_written : (edition : ℕ) (chunks : List (List ℕ)) (a : Numbers) → check_of edition (joined_chunks chunks) ≡ Some (Ok a) →
    foldl copied_over nothing_copied chunks ≡ record { written = masked_file (joined_chunks chunks); waiting = [] }
unfolding copy_of cut rejoined
accepted_copy_written edition chunks a q =
    let file = cut (joined_chunks chunks) in
    let none : file.rest ≡ [] = nothing_waits (lines_of (open_of edition) file.pieces) a file.rest q in
    all_chunks [] chunks ∙
    ap₂ (λ (w l : List ℕ). record { written = w; waiting = l })
    (ap (λ (l : List ℕ). rejoined (map masked_piece file.pieces) l) (sym none)) none
