-- Laws of what is held of a piece: part by part as at once, all of a short piece, and of a long one its front and its last byte.
use Prim.Native.Nat.{ℕ, ◌+◌, ◌≤◌, ◌<◌, min}
use mathlib.Core.Path.{◌≡◌, refl, sym, ◌∙◌, ap}
use mathlib.Core.List.{List, [], ◌∷◌, ◌++◌, append-nil, append_assoc}
use mathlib.Core.Bool.{Bool, true, false}
use native.Mathlib.Omega.{arith}
use lib.ListN.{length, take, length-append, length-take}
use lib.Seq.{take_all, take-take, take-append-le}
use lib.Dec.{eqb, leb}
use borrow.Author.Tests.{leb-true, leb-false}
use Rattle.lines.specs.Lines.{ends_in_cr, without_last, cr}
use Rattle.lines.proofs.Ends.{before_last}
use Rattle.chunks.specs.Unfinished.{one_more, clipped_with, clipped}

-- more bytes in two parts
pub clipped_append : (h a b : List ℕ) → clipped_with h (a ++ b) ≡ clipped_with (clipped_with h a) b
unfolding clipped_with
clipped_append h [] b = refl
clipped_append h (x ∷ a) b = clipped_append (one_more h x) a b

-- a byte more, where there is room
one_more_lem : (h : List ℕ) (b : ℕ) → length h ≤ 241 → one_more h b ≡ h ++ (b ∷ [])
one_more_lem h b l = ap (λ s. s ++ (b ∷ [])) (take_all 241 h l)

-- up to 242 bytes all are held
pub clipped_all : (h s : List ℕ) → length h + length s ≤ 242 → clipped_with h s ≡ h ++ s
unfolding clipped_with
clipped_all h [] l = sym (append-nil h)
clipped_all h (b ∷ s) l =
    ap (λ k. clipped_with k s) (one_more_lem h b (omega arith)) ∙
    clipped_all (h ++ (b ∷ [])) s (omega (arith, length-append h (b ∷ []))) ∙
    append_assoc h (b ∷ []) s

-- something is held of something
pub clipped_some : (x : ℕ) (h s : List ℕ) → 0 < length (clipped_with (x ∷ h) s)
unfolding clipped_with
clipped_some x h [] = omega arith
clipped_some x h (b ∷ s) = clipped_some x (take 240 h ++ (b ∷ [])) s

-- and never more
pub one_longer : (h : List ℕ) (b : ℕ) → length (one_more h b) ≡ min (length h) 241 + 1
one_longer h b = length-append (take 241 h) (b ∷ []) ∙ omega (arith, length-take 241 h)

pub clipped_exactly : (h s : List ℕ) → length h ≤ 242 → length (clipped_with h s) ≡ min (length h + length s) 242
unfolding clipped_with
clipped_exactly h [] l = omega arith
clipped_exactly h (b ∷ s) l = clipped_exactly (one_more h b) s (omega (arith, one_longer h b)) ∙ omega (arith, one_longer h b)

-- what is held of a piece is held of what is held of it, and as much behind it as behind the piece
pub clipped_again : (s : List ℕ) → clipped (clipped s) ≡ clipped s
clipped_again s = clipped_all [] (clipped s) (omega (arith, clipped_exactly [] s (omega arith)))

pub clipped_behind : (a b : List ℕ) → clipped (clipped a ++ b) ≡ clipped (a ++ b)
clipped_behind a b = clipped_append [] (clipped a) b ∙ ap (λ h. clipped_with h b) (clipped_again a) ∙ sym (clipped_append [] a b)

-- behind the front of what is held, more bytes have the same front as behind all of it
front_behind : (h t : List ℕ) → take 241 (take 241 h ++ t) ≡ take 241 (h ++ t)
front_behind h t = one (leb (length h) 241) refl
  where
    one : (p : Bool) → leb (length h) 241 ≡ p → take 241 (take 241 h ++ t) ≡ take 241 (h ++ t)
    one true e = ap (λ s. take 241 (s ++ t)) (take_all 241 h (leb-true _ _ e))
    one false e =
        let l : 241 ≤ length h = omega (arith, leb-false (length h) 241 e) in
        let f : 241 ≤ length (take 241 h) = omega (arith, length-take 241 h) in
        take-append-le 241 (take 241 h) t f ∙ take-take 241 241 h (omega arith) ∙ sym (take-append-le 241 h t l)

front_more : (h : List ℕ) (b : ℕ) (t : List ℕ) → take 241 (one_more h b ++ t) ≡ take 241 (h ++ (b ∷ t))
front_more h b t = ap (take 241) (append_assoc (take 241 h) (b ∷ []) t) ∙ front_behind h (b ∷ t)

-- what is held of a piece ends as the piece does
ends_by : (q : List ℕ) (b : ℕ) → ends_in_cr (q ++ (b ∷ [])) ≡ eqb b cr
unfolding ends_in_cr
ends_by [] b = refl
ends_by (x ∷ []) b = refl
ends_by (x ∷ y ∷ q) b = ends_by (y ∷ q) b

with_ends : (h : List ℕ) (b : ℕ) (s : List ℕ) → ends_in_cr (clipped_with h (b ∷ s)) ≡ ends_in_cr (b ∷ s)
unfolding clipped_with ends_in_cr
with_ends h b [] = ends_by (take 241 h) b
with_ends h b (c ∷ s) = with_ends (one_more h b) c s

pub clipped_ends : (p : List ℕ) → ends_in_cr (clipped p) ≡ ends_in_cr p
unfolding clipped_with
clipped_ends [] = refl
clipped_ends (b ∷ s) = with_ends [] b s

-- and before its last byte stands the piece's front
with_record : (h : List ℕ) (b : ℕ) (s : List ℕ) → without_last (clipped_with h (b ∷ s)) ≡ take 241 (h ++ without_last (b ∷ s))
unfolding clipped_with without_last
with_record h b [] = before_last (take 241 h) b ∙ ap (take 241) (sym (append-nil h))
with_record h b (c ∷ s) = with_record (one_more h b) c s ∙ front_more h b (without_last (c ∷ s))

pub clipped_record : (p : List ℕ) → without_last (clipped p) ≡ take 241 (without_last p)
unfolding clipped_with without_last
clipped_record [] = refl
clipped_record (b ∷ s) = with_record [] b s
