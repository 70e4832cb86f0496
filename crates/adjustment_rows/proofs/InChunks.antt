-- Written chunk by chunk, the CSV is that of the whole file: what was written is the rows of all the lines so far, what waits is the rest of their cut,
-- and the number goes on.
use Prim.Native.Nat.{ℕ}
use mathlib.Core.Path.{◌≡◌, refl, sym, ◌∙◌, ap, ap₂}
use mathlib.Core.List.{List, [], ◌∷◌, ◌++◌, foldl, foldl-append, append-nil, append_assoc}
use Rattle.totals.specs.Sum.{capped}
use Rattle.lines.specs.Lines.{Lines, cut}
use Rattle.chunks.specs.Chunks.{joined_chunks}
use Rattle.chunks.proofs.Streams.{cut_on}
use Rattle.adjustment_rows.specs.Row.{header}
use Rattle.adjustment_rows.specs.Rows.{row_in, rows_of, csv_of}
use Rattle.adjustment_rows.specs.InChunks.{Tabled, only_header, number_behind, tabled_over}

-- the rows of pieces in front of others: those go on at the number behind them
rows_append : (number : ℕ) (ps qs : List (List ℕ)) → rows_of number (ps ++ qs) ≡ rows_of number ps ++ rows_of (number_behind number ps) qs
unfolding rows_of
rows_append number [] qs = refl
rows_append number (p ∷ ps) qs =
    ap (λ (l : List ℕ). row_in number p ++ l) (rows_append (capped number 1) ps qs) ∙
    sym (append_assoc (row_in number p) (rows_of (capped number 1) ps) (rows_of (number_behind (capped number 1) ps) qs))

-- what is written, what waits and which number comes, once these bytes have come
table_of : Lines → Tabled
table_of ls = record { written = header ++ rows_of 1 ls.pieces; waiting = ls.rest; number = number_behind 1 ls.pieces }

one_chunk : (a c : List ℕ) → tabled_over (table_of (cut a)) c ≡ table_of (cut (a ++ c))
unfolding table_of
one_chunk a c =
    let ps = (cut a).pieces in
    let ls = cut ((cut a).rest ++ c) in
    ap₂ (λ (w : List ℕ) (n : ℕ). record { written = w; waiting = ls.rest; number = n })
    (append_assoc header (rows_of 1 ps) (rows_of (number_behind 1 ps) ls.pieces) ∙ ap (λ (l : List ℕ). header ++ l) (sym (rows_append 1 ps ls.pieces)))
    (sym (foldl-append (λ (n : ℕ) (p : List ℕ). capped n 1) 1 ps ls.pieces)) ∙
    ap table_of (sym (cut_on a c))

all_chunks : (a : List ℕ) (cs : List (List ℕ)) → foldl tabled_over (table_of (cut a)) cs ≡ table_of (cut (a ++ joined_chunks cs))
unfolding joined_chunks
all_chunks a [] = ap (λ s. table_of (cut s)) (sym (append-nil a))
all_chunks a (c ∷ cs) =
    ap (λ so. foldl tabled_over so cs) (one_chunk a c) ∙ all_chunks (a ++ c) cs ∙ ap (λ s. table_of (cut s)) (append_assoc a c (joined_chunks cs))

-- however the file was cut
pub tabled_as_whole : (chunks : List (List ℕ)) → (foldl tabled_over only_header chunks).written ≡ csv_of (joined_chunks chunks)
unfolding table_of cut rows_of
tabled_as_whole chunks = ap (λ (t : Tabled). t.written) (all_chunks [] chunks)

-- and what waits, and which number comes
pub waits_so_far : (chunks : List (List ℕ)) → (foldl tabled_over only_header chunks).waiting ≡ (cut (joined_chunks chunks)).rest
unfolding table_of cut rows_of
waits_so_far chunks = ap (λ (t : Tabled). t.waiting) (all_chunks [] chunks)

pub number_so_far : (chunks : List (List ℕ)) → (foldl tabled_over only_header chunks).number ≡ number_behind 1 (cut (joined_chunks chunks)).pieces
unfolding table_of cut rows_of
number_so_far chunks = ap (λ (t : Tabled). t.number) (all_chunks [] chunks)
