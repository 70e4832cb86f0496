-- Laws of the cut: it stops at the LF that the search finds, it gives records back, and it loses nothing.
use Prim.Native.Nat.{ℕ, suc, ◌+◌, ◌-◌, ◌≤◌, ◌<◌}
use mathlib.Core.Path.{◌≡◌, refl, sym, ◌∙◌, ap, ap₂}
use mathlib.Core.List.{List, [], ◌∷◌, ◌++◌, map, append-nil, append_assoc}
use mathlib.Core.Bool.{Bool, true, false, cond, ◌&&◌, false≢true, and-eq-true_iff}
use native.Mathlib.Omega.{arith}
use lib.ListN.{length, take, drop, length-drop}
use lib.Seq.{drop-drop}
use lib.Dec.{eqb}
use borrow.Author.Tests.{eqb-true}
use Rattle.std.specs.Prelude.{Some, None}
use Rattle.lines.specs.Lines.{Lines, lf, in_front, cut, rejoined, joined, no_lf, all_no_lf, IsCut, with_cr, next_lf}
use Rattle.lines.proofs.Search.{split, none}

-- pieces in front of those of another cut
abbrev pub pieces_then : List (List ℕ) → Lines → Lines
pieces_then ps ls = record { pieces = ps ++ ls.pieces; rest = ls.rest }

-- a byte in front of bytes without LF
no_lf_cons : (b : ℕ) (s : List ℕ) → no_lf (b ∷ s) ≡ true → (eqb b lf ≡ false) × (no_lf s ≡ true)
unfolding no_lf
no_lf_cons b s e = both (eqb b lf) (no_lf s) e
  where
    both : (p q : Bool) → cond p false q ≡ true → (p ≡ false) × (q ≡ true)
    both true q e = absurd (false≢true e)
    both false q e = (refl, e)

-- bytes without LF, then an LF: they are the first piece
pub first_piece : (p s : List ℕ) → no_lf p ≡ true → cut (p ++ (lf ∷ s)) ≡ pieces_then (p ∷ []) (cut s)
unfolding cut in_front
first_piece [] s e = refl
first_piece (b ∷ p) s e =
    let n = no_lf_cons b p e in
    rw (n.0, first_piece p s n.1)

-- bytes without LF: they are the rest
pub only_rest : (s : List ℕ) → no_lf s ≡ true → cut s ≡ record { pieces = []; rest = s }
unfolding cut in_front
only_rest [] e = refl
only_rest (b ∷ s) e =
    let n = no_lf_cons b s e in
    rw (n.0, only_rest s n.1)

-- where the search finds an LF, the bytes before it are the first piece, and the cut goes on behind it
pub cut_at : (at : ℕ) (s : List ℕ) (e : ℕ) → next_lf at s ≡ Some e →
    cut (drop at s) ≡ pieces_then (take (e - at) (drop at s) ∷ []) (cut (drop (e + 1) s))
cut_at at s e q =
    let w = split at (drop at s) e q in
    let n : w.k ≡ e - at = omega arith in
    let m : at + suc w.k ≡ e + 1 = omega arith in
    ap cut w.parts ∙ first_piece _ _ w.clear ∙
    ap₂ (λ (n : ℕ) (t : List ℕ). pieces_then (take n (drop at s) ∷ []) (cut t)) n (drop-drop (suc w.k) at s ∙ ap (λ (n : ℕ). drop n s) m)

-- the LF that it finds stands between the place and the end
pub at_inside : (at : ℕ) (s : List ℕ) (e : ℕ) → next_lf at s ≡ Some e → (at ≤ e) × (e < length s)
at_inside at s e q =
    let w = split at (drop at s) e q in
    let l = length-drop at s in
    (omega arith, omega arith)

-- where it finds none, there is no piece
pub cut_nowhere : (at : ℕ) (s : List ℕ) → next_lf at s ≡ None → cut (drop at s) ≡ record { pieces = []; rest = drop at s }
cut_nowhere at s q = only_rest (drop at s) (none at (drop at s) q)

-- pieces without LF, each followed by LF, are cut into themselves
pub cut_rejoined : (ps : List (List ℕ)) (s : List ℕ) → all_no_lf ps ≡ true → cut (rejoined ps s) ≡ pieces_then ps (cut s)
unfolding rejoined all_no_lf
cut_rejoined [] s e = refl
cut_rejoined (p ∷ ps) s e =
    let n = (and-eq-true_iff (no_lf p) (all_no_lf ps)).0 e in
    first_piece p (rejoined ps s) n.0 ∙ ap (pieces_then (p ∷ [])) (cut_rejoined ps s n.1)

-- records with their CR LF are pieces with their LF
pub records_are_pieces : (rs : List (List ℕ)) (s : List ℕ) → joined rs ++ s ≡ rejoined (map with_cr rs) s
unfolding joined rejoined
records_are_pieces [] s = refl
records_are_pieces (r ∷ rs) s = simp (append_assoc, records_are_pieces rs s)

-- a CR is no LF
pub with_cr_clear : (r : List ℕ) → no_lf (with_cr r) ≡ no_lf r
unfolding no_lf
with_cr_clear [] = refl
with_cr_clear (b ∷ r) = ap (λ q. cond (eqb b lf) false q) (with_cr_clear r)

-- records without LF in a row
pub row_clear : (rs ss : List (List ℕ)) → all_no_lf rs ≡ true → all_no_lf ss ≡ true → all_no_lf (rs ++ ss) ≡ true
unfolding all_no_lf
row_clear [] ss a b = b
row_clear (r ∷ rs) ss a b = grouped (no_lf r) (all_no_lf rs) a (λ h. row_clear rs ss h b)
  where
    grouped : (p q : Bool) {s : Bool} → p && q ≡ true → (q ≡ true → s ≡ true) → p && s ≡ true
    grouped true q a f = f a
    grouped false q a f = a

all_with_cr_clear : (rs : List (List ℕ)) → all_no_lf (map with_cr rs) ≡ all_no_lf rs
unfolding all_no_lf
all_with_cr_clear [] = refl
all_with_cr_clear (r ∷ rs) = ap₂ ◌&&◌ (with_cr_clear r) (all_with_cr_clear rs)

-- records without LF, joined, are cut into the records with their CR
pub cut_joined_then : (rs : List (List ℕ)) (s : List ℕ) → all_no_lf rs ≡ true → cut (joined rs ++ s) ≡ pieces_then (map with_cr rs) (cut s)
cut_joined_then rs s e = ap cut (records_are_pieces rs s) ∙ cut_rejoined (map with_cr rs) s (all_with_cr_clear rs ∙ e)

pub cut_joined : (rs : List (List ℕ)) → all_no_lf rs ≡ true → cut (joined rs) ≡ record { pieces = map with_cr rs; rest = [] }
unfolding cut
cut_joined rs e = ap cut (sym (append-nil (joined rs))) ∙ cut_joined_then rs [] e ∙ rw append-nil

-- an LF in front makes a piece more, and any other byte the first one longer
lf_in_front : (b : ℕ) (s : List ℕ) (ls : Lines) → eqb b lf ≡ true → IsCut s ls → IsCut (b ∷ s) (pieces_then ([] ∷ []) ls)
unfolding rejoined all_no_lf no_lf
lf_in_front b s ls e w =
    record {
      whole = ap (λ l. lf ∷ l) w.whole ∙ ap (λ x. x ∷ s) (sym (eqb-true b lf e));
      pieces_clear = w.pieces_clear;
      rest_clear = w.rest_clear;
    }

byte_in_front : (b : ℕ) (s : List ℕ) (ps : List (List ℕ)) (r : List ℕ) → eqb b lf ≡ false → IsCut s (record { pieces = ps; rest = r }) →
    IsCut (b ∷ s) (in_front b ps r)
unfolding rejoined all_no_lf no_lf in_front
byte_in_front b s [] r e w = record { whole = ap (λ l. b ∷ l) w.whole; pieces_clear = refl; rest_clear = rw e w.rest_clear }
byte_in_front b s (p ∷ ps) r e w = record { whole = ap (λ l. b ∷ l) w.whole; pieces_clear = rw e w.pieces_clear; rest_clear = w.rest_clear }

-- the cut is a cut: nothing is lost by it, and no LF is left
pub cut_is_cut : (s : List ℕ) → IsCut s (cut s)
unfolding cut rejoined all_no_lf no_lf
cut_is_cut [] = record { whole = refl; pieces_clear = refl; rest_clear = refl }
cut_is_cut (b ∷ s) = one (eqb b lf) refl (cut_is_cut s)
  where
    one : (p : Bool) → eqb b lf ≡ p → IsCut s (cut s) →
        IsCut (b ∷ s) (cond p (pieces_then ([] ∷ []) (cut s)) (in_front b (cut s).pieces (cut s).rest))
    one true e w = lf_in_front b s (cut s) e w
    one false e w = byte_in_front b s (cut s).pieces (cut s).rest e w

-- and the only one
pub cut_is_unique : (s : List ℕ) (ls : Lines) → IsCut s ls → ls ≡ cut s
cut_is_unique s ls w =
    sym (ap cut (sym w.whole) ∙ cut_rejoined ls.pieces ls.rest w.pieces_clear ∙
    ap (pieces_then ls.pieces) (only_rest ls.rest w.rest_clear) ∙ rw append-nil)
