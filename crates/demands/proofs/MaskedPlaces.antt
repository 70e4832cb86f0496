-- The masked copy of a file is the file with a star at each hidden place: of a record by its card's part, of a piece, and of pieces in a row.
use Prim.Native.Nat.{ℕ, suc, ◌+◌, ◌≤◌}
use mathlib.Core.Path.{◌≡◌, refl, sym, ◌∙◌, ap, ap₂}
use mathlib.Core.List.{List, [], ◌∷◌, ◌++◌, map, append-nil, append_assoc}
use mathlib.Core.Bool.{Bool, false, cond}
use native.Mathlib.Omega.{arith}
use lib.ListN.{length, take, drop, length-take, take-append-drop}
use lib.Seq.{length-take-le, take-take}
use Rattle.pan.specs.HiddenPlaces.{hidden_place}
use Rattle.pan.specs.Masked.{star_where, masked}
use Rattle.pan.proofs.Tests.{by_test}
use Rattle.pan.proofs.Stars.{same_tests, none_picked, in_a_row}
use Rattle.lines.specs.Lines.{cr, lf, cut, rejoined, ends_in_cr, without_last}
use Rattle.lines.proofs.Cuts.{cut_is_cut}
use Rattle.lines.proofs.Ends.{record_and_cr}
use Rattle.card_record.specs.CardPart.{card_part, card_from}
use Rattle.card_record.proofs.CardParts.{card_inside}
use Rattle.card_mask.specs.Masked.{masked_at, masked_record, masked_piece, masked_file}
use Rattle.demands.specs.HiddenDigits.{hidden_in_record, hidden_in_piece, hidden_in_pieces, hidden_in}
use Rattle.demands.proofs.HiddenPlaces.{no_card_lem, in_card, before_card, behind_card, past_record, past_piece, in_none, in_first, in_later}
use Rattle.std.specs.Prelude.{None, Option, Some}

-- starred in two parts
in_parts : (p : ℕ → Bool) (n : ℕ) (s : List ℕ) → n ≤ length s → star_where p s ≡ star_where p (take n s) ++ star_where (λ i. p (n + i)) (drop n s)
in_parts p n s h =
    ap (star_where p) (sym (take-append-drop n s)) ∙ in_a_row p (take n s) (drop n s) ∙
    ap (λ m. star_where p (take n s) ++ star_where (λ i. p (m + i)) (drop n s)) (length-take-le n s h)

-- a record
of_record : (r : List ℕ) → masked_record r ≡ star_where (hidden_in_record r) r
unfolding masked_at
of_record r = by (card_part r) refl
  where
    by : (part : (Option ℕ)) → card_part r ≡ part → masked_record r ≡ star_where (hidden_in_record r) r
    by None e = ap (λ part. masked_at part r) e ∙ sym (none_picked (hidden_in_record r) r (λ i l. no_card_lem r e i))
    by (Some k) e =
        let inside = card_inside k r e in
        let front = take (k + 19) r in
        let wide : length front ≡ k + 19 = length-take-le (k + 19) r inside in
        let before : star_where (hidden_in_record r) (take k front) ≡ take k r =
        none_picked (hidden_in_record r) (take k front) (λ i l. before_card k r e i (omega (arith, length-take k front))) ∙
        take-take k (k + 19) r (omega arith) in
        let card : star_where (λ i. hidden_in_record r (k + i)) (card_from k r) ≡ masked (card_from k r) =
        same_tests (λ i. hidden_in_record r (k + i)) (hidden_place (card_from k r)) (card_from k r) (λ i l. in_card k r e i) in
        let behind : star_where (λ i. hidden_in_record r (k + 19 + i)) (drop (k + 19) r) ≡ drop (k + 19) r =
        none_picked (λ i. hidden_in_record r (k + 19 + i)) (drop (k + 19) r) (λ i l. behind_card k r e i) in
        ap (λ part. masked_at part r) e ∙
        sym (in_parts (hidden_in_record r) (k + 19) r inside ∙
        ap₂ ◌++◌ (in_parts (hidden_in_record r) k front (omega arith) ∙ ap₂ ◌++◌ before card) behind ∙
        append_assoc (take k r) (masked (card_from k r)) (drop (k + 19) r))

-- a piece
of_piece : (p : List ℕ) → masked_piece p ≡ star_where (hidden_in_piece p) p
unfolding star_where
of_piece p =
    by_test (ends_in_cr p)
    (λ e.
    let r = without_last p in
    let end : star_where (λ i. hidden_in_record r (length r + i)) (cr ∷ []) ≡ cr ∷ [] =
    none_picked (λ i. hidden_in_record r (length r + i)) (cr ∷ []) (λ i l. past_record r (length r + i) (omega arith)) in
    rw e (ap (λ l. l ++ (cr ∷ [])) (of_record r)) ∙
    sym (same_tests (hidden_in_piece p) (hidden_in_record r) p (λ i l. rw e) ∙
    ap (star_where (hidden_in_record r)) (record_and_cr p e) ∙
    in_a_row (hidden_in_record r) r (cr ∷ []) ∙
    ap (λ l. star_where (hidden_in_record r) r ++ l) end))
    (λ e. rw e (sym (none_picked (hidden_in_piece p) p (λ i l. rw e))))

on : (n i : ℕ) → n + suc i ≡ n + 1 + i
on n i = omega arith

-- pieces in a row, and bytes behind them that are starred as further pieces say
pub of_pieces : (ps qs : List (List ℕ)) (rest : List ℕ) →
    rejoined (map masked_piece ps) (star_where (hidden_in_pieces qs) rest) ≡ star_where (hidden_in_pieces (ps ++ qs)) (rejoined ps rest)
unfolding rejoined star_where
of_pieces [] qs rest = refl
of_pieces (p ∷ ps) qs rest =
    let h = hidden_in_pieces (p ∷ ps ++ qs) in
    let s = rejoined ps rest in
    let n = length p in
    let here : n + 0 ≡ n = omega arith in
    let first : star_where h p ≡ star_where (hidden_in_piece p) p = same_tests h (hidden_in_piece p) p (λ i l. in_first p (ps ++ qs) i (omega arith)) in
    let open-lf : h (n + 0) ≡ false = ap h here ∙ in_first p (ps ++ qs) n (omega arith) ∙ past_piece p in
    let later : star_where (λ i. h (n + suc i)) s ≡ star_where (hidden_in_pieces (ps ++ qs)) s =
    same_tests (λ i. h (n + suc i)) (hidden_in_pieces (ps ++ qs)) s (λ i l. ap h (on n i) ∙ in_later p (ps ++ qs) n i refl) in
    sym (in_a_row h p (lf ∷ s) ∙
    ap₂ ◌++◌ (first ∙ sym (of_piece p)) (ap₂ ◌∷◌ (ap (λ b. cond b 42 lf) open-lf) (later ∙ sym (of_pieces ps qs rest))))

-- the rest of a file, behind all its pieces, has no star
rest_plain : (rest : List ℕ) → rest ≡ star_where (hidden_in_pieces []) rest
rest_plain rest = sym (none_picked (hidden_in_pieces []) rest (λ i l. in_none i))

-- THE MASKED COPY, of every file
pub stars_where_hidden : (file : List ℕ) → masked_file file ≡ star_where (hidden_in file) file
stars_where_hidden file =
    let ls = cut file in
    ap (rejoined (map masked_piece ls.pieces)) (rest_plain ls.rest) ∙ of_pieces ls.pieces [] ls.rest ∙
    ap₂ (λ ps s. star_where (hidden_in_pieces ps) s) (append-nil ls.pieces) (cut_is_cut file).whole
