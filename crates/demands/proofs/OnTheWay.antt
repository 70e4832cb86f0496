-- A file that is accepted, while its chunks come: the stream has counted the pieces so far, since they keep the rules, and what is left behind them is the front of a record, or nothing.
use Prim.Native.Nat.{ℕ, suc, ◌+◌, ◌≤◌, ◌<◌}
use mathlib.Core.Path.{◌≡◌, refl, sym, ◌∙◌, ap, subst}
use mathlib.Core.List.{List, [], ◌∷◌, ◌++◌, map, foldl, append-nil, append_assoc}
use mathlib.Core.Bool.{true}
use native.Mathlib.Omega.{arith}
use borrow.Author.Tests.{lt-ltb}
use lib.ListN.{length, length-append, length-map}
use Rattle.refusal.specs.Rules.{all_hold}
use Rattle.text.proofs.Alphabets.{both, both_left, both_right}
use Rattle.totals.specs.Sum.{top, capped}
use Rattle.lines.specs.Lines.{Lines, cr, cut, without_last, with_cr}
use Rattle.lines.proofs.Cuts.{pieces_then, cut_is_cut}
use Rattle.chunks.specs.Chunks.{held_before, joined_chunks}
use Rattle.chunks.specs.Waiting.{unless_full, waiting_in}
use Rattle.chunks.proofs.Streams.{cut_before, cut_on}
use Rattle.first_fault.specs.InTurn.{piece, RulesBehind, pieces_hold}
use Rattle.card_run.specs.Running.{next_number}
use Rattle.card_run.specs.Answer.{card_file_row}
use Rattle.card_file.specs.CardFile.{check_of}
use Rattle.card_stream.specs.declared.Stream.{Stream}
use Rattle.card_stream.proofs.InChunks.{taken_as_whole}
use Rattle.card_kept.specs.FirstFault.{rules_behind}
use Rattle.card_kept.specs.Kept.{records_of, Kept}
use Rattle.card_kept.proofs.FirstFault.{first_fault_decides}
use Rattle.card_kept.proofs.OneLine.{file_cut}
use Rattle.card_kept.proofs.State.{state_known}
use Rattle.card_kept.specs.State.{state_behind}
use Rattle.card_mask.proofs.InChunks.{rest_waits}
use Rattle.adjustment_rows.specs.InChunks.{number_behind}
use Rattle.adjustment_rows.proofs.InChunks.{waits_so_far, number_so_far}
use Rattle.demands.specs.InChunks.{card_taken, copied_in_chunks, tabled_in_chunks}
use Rattle.demands.proofs.RulesKept.{card_rules_kept, card_numbers_lem}
use Rattle.demands.proofs.RowsOfFile.{Fit, fits_file, pieces_are}

-- the first pieces keep the rules where all do
hold_in_front : (rules : RulesBehind) (before ps qs : List (List ℕ)) → pieces_hold rules before (ps ++ qs) ≡ true → pieces_hold rules before ps ≡ true
unfolding pieces_hold
hold_in_front rules before [] qs h = refl
hold_in_front rules before (p ∷ ps) qs h =
    let first = all_hold (rules before (piece p)) in
    let later = before ++ (without_last p ∷ []) in
    both (both_left first (pieces_hold rules later (ps ++ qs)) h) (hold_in_front rules later ps qs (both_right first (pieces_hold rules later (ps ++ qs)) h))

-- the number behind pieces, as long as there are few
plain_number_lem : (n : ℕ) (ps : List (List ℕ)) → n + length ps ≤ top → number_behind n ps ≡ n + length ps
plain_number_lem n [] h = omega arith
plain_number_lem n (p ∷ ps) h =
    let next : capped n 1 ≡ suc n = omega arith in
    ap (λ (m : ℕ). number_behind m ps) next ∙ plain_number_lem (suc n) ps (omega arith) ∙ omega arith

-- no piece is longer than a sale with its CR
unfoldable Short : List (List ℕ) → Type 0
Short [] = Unit {0}
Short (p ∷ ps) = (length p ≤ 200) × Short ps

fit_short : (rs : List (List ℕ)) → Fit rs → Short (map with_cr rs)
unfolding Fit Short
fit_short [] f = tt
fit_short (r ∷ rs) (e, w, f) = (omega (arith, w, length-append r (cr ∷ [])), fit_short rs f)

one_short : (ps qs : List (List ℕ)) (q : List ℕ) → Short (ps ++ (q ∷ qs)) → length q ≤ 200
unfolding Short
one_short [] qs q (w, s) = w
one_short (p ∷ ps) qs q (w, s) = one_short ps qs q s

-- so what is left behind the pieces of a front is short, whatever the rest of the file is cut into
left_short : (ps : List (List ℕ)) (left rest : List ℕ) (more whole : List (List ℕ)) → Short whole →
    pieces_then ps (held_before left more rest) ≡ record { pieces = whole; rest = [] } → length left < 65536
unfolding held_before
left_short ps left rest [] whole s e = omega (arith, length-append left rest, ap (λ (ls : Lines). length ls.rest) e)
left_short ps left rest (p ∷ more) whole s e =
    let pieces = ap (λ (ls : Lines). ls.pieces) e in
    omega (arith, length-append left p, one_short ps more (left ++ p) (subst Short (sym pieces) s))

-- an accepted file, of which some bytes have come
module _ (edition : ℕ) (come more : List ℕ) (accepted : (card_file_row (check_of edition (come ++ more))).accepted ≡ true) where
  kept : Kept edition (come ++ more)
  kept = (card_rules_kept.exactly edition (come ++ more)).0 accepted

  -- they have few pieces,
  few : suc (length (cut come).pieces) ≤ top
  few =
      let numbers = card_numbers_lem edition (come ++ more) kept in
      let all = ap length (pieces_are edition (come ++ more) kept) ∙ length-map (records_of kept.file) with_cr in
      let some = ap (λ (ls : Lines). length ls.pieces) (cut_on come more) ∙ length-append (cut come).pieces (cut ((cut come).rest ++ more)).pieces in
      omega (arith, all, some, numbers.records, numbers.records_below)

  -- which a run has counted,
  counted : next_number (state_behind edition (cut come).pieces) ≡ number_behind 1 (cut come).pieces
  counted =
      let all_hold_lem = ((first_fault_decides edition kept.edition_current (come ++ more)).is_accepted_lem.0 accepted).pieces_hold_lem in
      let pieces = ap (λ (ls : Lines). ls.pieces) (cut_on come more) in
      let hold =
      hold_in_front (rules_behind edition) [] (cut come).pieces (cut ((cut come).rest ++ more)).pieces
      (subst (λ ps. pieces_hold (rules_behind edition) [] ps ≡ true) pieces all_hold_lem) in
      (state_known edition kept.edition_current (cut come).pieces (cut_is_cut come).pieces_clear hold).number ∙
      sym (plain_number_lem 1 (cut come).pieces (omega (arith, few)) ∙ omega arith)

  -- and a short rest, which fills no buffer
  not_full : unless_full 65536 (cut come).rest ≡ (cut come).rest
  not_full =
      let whole = ap cut kept.is ∙ file_cut edition kept.file kept.keeps in
      let parts = sym (cut_on come more ∙ ap (pieces_then (cut come).pieces) (cut_before (cut come).rest more (cut_is_cut come).rest_clear)) ∙ whole in
      let short =
      left_short (cut come).pieces (cut come).rest (cut more).rest (cut more).pieces (map with_cr (records_of kept.file))
      (fit_short (records_of kept.file) (fits_file edition (come ++ more) kept)) parts in
      rw (lt-ltb (length (cut come).rest) 65536 short)

-- so what waits is the rest of all that came, chunk by chunk
waits_on : (edition : ℕ) (come : List ℕ) (chunks : List (List ℕ)) (more : List ℕ) → (card_file_row (check_of edition ((come ++ joined_chunks chunks) ++ more))).accepted ≡ true →
    foldl (λ (waiting chunk : List ℕ). unless_full 65536 (cut (waiting ++ chunk)).rest) (cut come).rest chunks ≡ (cut (come ++ joined_chunks chunks)).rest
unfolding joined_chunks
waits_on edition come [] more accepted = ap (λ s. (cut s).rest) (sym (append-nil come))
waits_on edition come (c ∷ cs) more accepted =
    let next : List ℕ → List ℕ → List ℕ = λ waiting chunk. unless_full 65536 (cut (waiting ++ chunk)).rest in
    let on : (come ++ (c ++ joined_chunks cs)) ++ more ≡ (come ++ c) ++ (joined_chunks cs ++ more) =
    ap (λ s. s ++ more) (sym (append_assoc come c (joined_chunks cs))) ∙ append_assoc (come ++ c) (joined_chunks cs) more in
    let here = subst (λ s. (card_file_row (check_of edition s)).accepted ≡ true) on accepted in
    let later = subst (λ s. (card_file_row (check_of edition s)).accepted ≡ true) (ap (λ s. s ++ more) (sym (append_assoc come c (joined_chunks cs)))) accepted in
    ap (λ waiting. foldl next waiting cs)
    (ap (λ s. unless_full 65536 s) (sym (ap (λ (ls : Lines). ls.rest) (cut_on come c))) ∙ not_full edition (come ++ c) (joined_chunks cs ++ more) here) ∙
    waits_on edition (come ++ c) cs more later ∙ ap (λ s. (cut s).rest) (append_assoc come c (joined_chunks cs))

module _ (edition : ℕ) (chunks : List (List ℕ)) (more : List ℕ) (accepted : (card_file_row (check_of edition (joined_chunks chunks ++ more))).accepted ≡ true) where
  waits : waiting_in 65536 chunks ≡ (cut (joined_chunks chunks)).rest
  unfolding cut
  waits = waits_on edition [] chunks more accepted

  pub on_the_way_lem : (waiting_in 65536 chunks ≡ (copied_in_chunks chunks).waiting) × (waiting_in 65536 chunks ≡ (tabled_in_chunks chunks).waiting) ×
      (next_number (card_taken edition chunks).state ≡ (tabled_in_chunks chunks).number)
  on_the_way_lem = (
    waits ∙ sym (rest_waits chunks),
    waits ∙ sym (waits_so_far chunks),
    ap (λ (s : Stream). next_number s.state) (taken_as_whole edition chunks) ∙ counted edition (joined_chunks chunks) more accepted ∙ sym (number_so_far chunks),
  )
