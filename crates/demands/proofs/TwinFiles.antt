-- Hidden digits of a file, changed into digits, are changed in its pieces one by one: an LF is no digit, so it stands at the same places in both, and so
-- does the CR that makes a piece a record.
use Prim.Native.Nat.{ℕ, zero, suc, ◌+◌, ◌-◌, ◌<◌}
use mathlib.Core.Path.{◌≡◌, refl, sym, ◌∙◌, ap}
use mathlib.Core.List.{List, [], ◌∷◌, ◌++◌}
use mathlib.Core.Bool.{Bool, true, false, cond, false≢true, and-eq-true_iff}
use native.Mathlib.Omega.{arith}
use lib.ListN.{length, get_or, take, drop, length-append, get_or-append}
use lib.Seq.{take_at, get_or-append_seam, drop-append-add}
use lib.Dec.{eqb}
use borrow.Author.Tests.{eq-eqb, eqb-true, eqb-false}
use Rattle.text.specs.Alphabet.{digit}
use Rattle.pan.proofs.Tests.{by_test}
use Rattle.lines.specs.Lines.{cr, lf, cut, rejoined, no_lf, all_no_lf, ends_in_cr, without_last}
use Rattle.lines.proofs.Cuts.{cut_is_cut}
use Rattle.lines.proofs.Ends.{all_but_one}
use Rattle.demands.specs.HiddenDigits.{hidden_in_record, hidden_in_piece, hidden_in_pieces, hidden_in}
use Rattle.demands.specs.TwinsMade.{DigitsChanged}
use Rattle.demands.proofs.HiddenPlaces.{in_none, in_first, in_later}
use Rattle.demands.proofs.TwinLaws.{changed_back, changed_of, none_hidden, no_digit, changed_where, changed_front, changed_behind}

-- two pieces, and two lists of them
abbrev pub ChangedPiece : List ℕ → List ℕ → Type 0
ChangedPiece p q = DigitsChanged (hidden_in_piece p) p q

pub data OneByOne : List (List ℕ) → List (List ℕ) → Type 0 where
  no_piece : OneByOne [] []
  one_more : {p q : List ℕ} {ps qs : List (List ℕ)} → ChangedPiece p q → OneByOne ps qs → OneByOne (p ∷ ps) (q ∷ qs)

-- bytes without LF hold none
clear_at : (s : List ℕ) → no_lf s ≡ true → (i : ℕ) → i < length s → get_or s i 0 ≡ lf → ⊥
unfolding no_lf
clear_at [] e i h q = absurd (omega arith)
clear_at (b ∷ s) e zero h q = false≢true (rw (eq-eqb b lf q) at e)
clear_at (b ∷ s) e (suc i) h q = clear_at s (later (eqb b lf) (no_lf s) e) i (omega arith) q
  where
    later : (p q : Bool) → cond p false q ≡ true → q ≡ true
    later true q e = absurd (false≢true e)
    later false q e = e

-- a piece and its LF, and what comes behind
abbrev then_lf : List ℕ → List ℕ → List ℕ
then_lf p s = p ++ (lf ∷ s)

lf_there : (p s : List ℕ) → get_or (then_lf p s) (length p) 0 ≡ lf
lf_there p s = get_or-append_seam p lf s 0

lf_inside : (p s : List ℕ) → length p < length (then_lf p s)
lf_inside p s = simp length-append (omega arith)

behind_lf : (p s : List ℕ) (n : ℕ) → length p ≡ n → drop (n + 1) (then_lf p s) ≡ s
behind_lf p s n e = sym (ap (λ m. drop (m + 1) (then_lf p s)) e) ∙ drop-append-add p (lf ∷ s) 1

-- the first LF of one stands in the other too: no sooner than its first, and never in one without LF
lf_too : {h : ℕ → Bool} (p s t : List ℕ) → DigitsChanged h (then_lf p s) t → get_or t (length p) 0 ≡ lf
lf_too p s t w = sym (no_digit w (length p) (lf_inside p s) (ap digit (lf_there p s))) ∙ lf_there p s

no_later : {h : ℕ → Bool} (p q s t : List ℕ) → no_lf q ≡ true → DigitsChanged h (then_lf p s) (then_lf q t) → length p < length q → ⊥
no_later p q s t clear w less =
    clear_at q clear (length p) less (sym (get_or-append q (lf ∷ t) 0 (length p) less) ∙ lf_too p s (then_lf q t) w)

never : {h : ℕ → Bool} (p s r : List ℕ) → no_lf r ≡ true → DigitsChanged h (then_lf p s) r → ⊥
never p s r clear w = clear_at r clear (length p) (rw (← w.elsewhere.same_length) (lf_inside p s)) (lf_too p s r w)

-- the pieces one by one, and the rests equal
pub one_by_one : (ps qs : List (List ℕ)) (r u : List ℕ) → all_no_lf ps ≡ true → no_lf r ≡ true → all_no_lf qs ≡ true → no_lf u ≡ true →
    DigitsChanged (hidden_in_pieces ps) (rejoined ps r) (rejoined qs u) → OneByOne ps qs × (r ≡ u)
unfolding rejoined all_no_lf
one_by_one [] [] r u a b c d w = (no_piece, none_hidden w (λ i k. in_none i))
one_by_one [] (q ∷ qs) r u a b c d w = absurd (never q (rejoined qs u) r b (changed_back w))
one_by_one (p ∷ ps) [] r u a b c d w = absurd (never p (rejoined ps r) u d w)
one_by_one (p ∷ ps) (q ∷ qs) r u a b c d w =
    let a = (and-eq-true_iff (no_lf p) (all_no_lf ps)).0 a in
    let c = (and-eq-true_iff (no_lf q) (all_no_lf qs)).0 c in
    let s = rejoined ps r in
    let t = rejoined qs u in
    let n = length p in
    let not-less = no_later p q s t c.0 w in
    let not_more = no_later q p t s a.0 (changed_back w) in
    let same : length q ≡ n = omega arith in
    let first : ChangedPiece p q =
    changed_where (changed_of (take_at p (lf ∷ s) n refl) (take_at q (lf ∷ t) n same) (changed_front w n)) (hidden_in_piece p)
    (λ i k. in_first p ps i (omega arith)) in
    let later =
    one_by_one ps qs r u a.1 b c.1 d
    (changed_where (changed_of (behind_lf p s n refl) (behind_lf q t n same) (changed_behind w (n + 1))) (hidden_in_pieces ps)
    (λ i k. in_later p ps n i refl)) in
    (one_more first later.0, later.1)

-- so of two files
pub changed_pieces : (s t : List ℕ) → DigitsChanged (hidden_in s) s t → OneByOne (cut s).pieces (cut t).pieces × ((cut s).rest ≡ (cut t).rest)
changed_pieces s t w =
    let a = cut_is_cut s in
    let b = cut_is_cut t in
    one_by_one (cut s).pieces (cut t).pieces (cut s).rest (cut t).rest a.pieces_clear a.rest_clear b.pieces_clear b.rest_clear
    (changed_of (sym a.whole) (sym b.whole) w)

-- a piece that ends in CR has a last byte, and it is that one
no_byte : (s : List ℕ) → length s ≡ 0 → ends_in_cr s ≡ false
unfolding ends_in_cr
no_byte [] h = refl
no_byte (b ∷ s) h = absurd (omega arith)

last_byte : (s : List ℕ) → 0 < length s → ends_in_cr s ≡ eqb (get_or s (length s - 1) 0) cr
unfolding ends_in_cr
last_byte [] h = absurd (omega arith)
last_byte (b ∷ s) h = let n : length s ≡ suc (length s) - 1 = omega arith in ends b s ∙ ap (λ (n : ℕ). eqb (get_or (b ∷ s) n 0) cr) n
  where
    ends : (b : ℕ) (s : List ℕ) → ends_in_cr (b ∷ s) ≡ eqb (get_or (b ∷ s) (length s) 0) cr
    ends b [] = refl
    ends b (c ∷ s) = ends c s

-- if one of two pieces ends in CR, so does the other
pub ends_too : {h : ℕ → Bool} (p q : List ℕ) → DigitsChanged h p q → ends_in_cr p ≡ true → ends_in_cr q ≡ true
ends_too p q w e = by_test (eqb (length p) 0) (λ z. absurd (false≢true (sym (no_byte p (eqb-true (length p) 0 z)) ∙ e))) some
  where
    some : eqb (length p) 0 ≡ false → ends_in_cr q ≡ true
    some z =
        let same : length p ≡ length q = w.elsewhere.same_length in
        let wide : 0 < length p = omega (arith, eqb-false (length p) 0 z) in
        let n : length q - 1 ≡ length p - 1 = omega arith in
        let last : get_or p (length p - 1) 0 ≡ cr = eqb-true _ cr (sym (last_byte p wide) ∙ e) in
        let there : get_or p (length p - 1) 0 ≡ get_or q (length p - 1) 0 = no_digit w (length p - 1) (omega arith) (ap digit last) in
        last_byte q (omega arith) ∙ ap (λ m. eqb (get_or q m 0) cr) n ∙ ap (λ b. eqb b cr) (sym there ∙ last)

-- and then the record before it is changed so
pub changed_record : (p q : List ℕ) → ChangedPiece p q → ends_in_cr p ≡ true →
    DigitsChanged (hidden_in_record (without_last p)) (without_last p) (without_last q)
changed_record p q w e =
    let n : length q - 1 ≡ length p - 1 = omega (arith, w.elsewhere.same_length) in
    changed_where
    (changed_of (sym (all_but_one p)) (sym (all_but_one q ∙ ap (λ m. take m q) n)) (changed_front w (length p - 1)))
    (hidden_in_record (without_last p))
    (λ i k. rw e)
