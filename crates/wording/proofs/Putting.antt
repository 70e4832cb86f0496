-- Laws of a text that is put into a buffer: of the parts that it leaves; two texts one behind the other are one; and a text for which there is room
-- stands there whole.
use Prim.Native.Nat.{ℕ, zero, suc, ◌+◌, ◌-◌, ◌≤◌, min}
use mathlib.Core.Path.{◌≡◌, refl, sym, ◌∙◌, ap, subst}
use mathlib.Core.List.{List, [], ◌∷◌, ◌++◌, append-nil}
use native.Mathlib.Omega.{arith}
use native.Mathlib.Numerals.{unary_clauses}
use lib.ListN.{length, take, drop, length-append, length-drop}
use Rattle.wording.specs.Put.{over, over_at, Puts}

-- the buffer keeps its length
over_length : (t s : List ℕ) → length (over t s) ≡ length s
unfolding over
over_length t [] = refl
over_length [] (b ∷ s) = refl
over_length (x ∷ t) (b ∷ s) = ap suc (over_length t s)

pub same_length : (at : ℕ) (t s : List ℕ) → length (over_at at t s) ≡ length s
unfolding over_at
same_length zero t s = over_length t s
same_length (suc at) t [] = refl
same_length (suc at) t (b ∷ s) = ap suc (same_length at t s)

-- no text changes nothing
pub none : (at : ℕ) (s : List ℕ) → over_at at [] s ≡ s
unfolding over_at over
none zero [] = refl
none zero (b ∷ s) = refl
none (suc at) [] = refl
none (suc at) (b ∷ s) = ap (λ (l : List ℕ). b ∷ l) (none at s)

-- nor does one for which there is no room
pub full : (at : ℕ) (t s : List ℕ) → length s ≤ at → over_at at t s ≡ s
unfolding over_at over
full zero t [] h = refl
full zero t (b ∷ s) h = absurd (omega arith)
full (suc at) t [] h = refl
full (suc at) t (b ∷ s) h = ap (λ (l : List ℕ). b ∷ l) (full at t s (omega arith))

-- by its parts: what stands before the text, as much of it as there is room for, and what stands behind that
over_parts : (t s : List ℕ) → over t s ≡ take (min (length t) (length s)) t ++ drop (min (length t) (length s)) s
unfolding over
over_parts [] [] = refl
over_parts [] (b ∷ s) = simp unary_clauses refl
over_parts (x ∷ t) [] = simp unary_clauses refl
over_parts (x ∷ t) (b ∷ s) = simp unary_clauses (ap (λ (l : List ℕ). x ∷ l) (over_parts t s))

at_parts : (at : ℕ) (t s : List ℕ) → over_at at t s ≡ take at s ++ over t (drop at s)
unfolding over_at over
at_parts zero t s = refl
at_parts (suc at) t [] = refl
at_parts (suc at) t (b ∷ s) = ap (λ (l : List ℕ). b ∷ l) (at_parts at t s)

-- a text behind another is the rest of both
over_both : (t u s : List ℕ) → over_at (length t) u (over t s) ≡ over (t ++ u) s
unfolding over_at over
over_both [] u [] = refl
over_both [] u (b ∷ s) = refl
over_both (x ∷ t) u [] = refl
over_both (x ∷ t) u (b ∷ s) = ap (λ (l : List ℕ). x ∷ l) (over_both t u s)

behind : (at : ℕ) (t u s : List ℕ) → over_at (at + length t) u (over_at at t s) ≡ over_at at (t ++ u) s
unfolding over_at
behind zero t u s =
    let n : 0 + length t ≡ length t = omega arith in
    rw n (over_both t u s)
behind (suc at) t u [] = full (suc at + length t) u [] (omega arith)
behind (suc at) t u (b ∷ s) =
    let n : suc at + length t ≡ suc (at + length t) = omega arith in
    rw n (ap (λ (l : List ℕ). b ∷ l) (behind at t u s))

-- a text that is put behind all of a buffer is put nowhere
pub at_most : (at : ℕ) (t s : List ℕ) → over_at (min at (length s)) t s ≡ over_at at t s
unfolding over_at over
at_most zero t s = simp unary_clauses refl
at_most (suc at) t [] = simp unary_clauses (full zero t [] (omega arith))
at_most (suc at) t (b ∷ s) = simp unary_clauses (ap (λ (l : List ℕ). b ∷ l) (at_most at t s))

-- two texts one behind the other are one
pub both : {t u b b₁ b₂ : List ℕ} {at m e : ℕ} → Puts t b at m b₁ → Puts u b₁ m e b₂ → Puts (t ++ u) b at e b₂
both {t} {u} {b} {b₁} {b₂} {at} {m} {e} p q =
    let l : length b₁ ≡ length b = ap length p.leaves ∙ same_length at t b in
    let f : m ≡ min (at + length t) (length b₁) = omega (arith, p.ends) in
    record {
      ends = rw (length-append t u) (omega (arith, p.ends, q.ends));
      leaves =
          q.leaves ∙ ap (λ (k : ℕ). over_at k u b₁) f ∙ at_most (at + length t) u b₁ ∙ ap (over_at (at + length t) u) p.leaves ∙
          behind at t u b;
    }

-- the same text in other words
pub reworded : {t u b b₁ : List ℕ} {at e : ℕ} → t ≡ u → Puts t b at e b₁ → Puts u b at e b₁
reworded {t} {u} {b} {b₁} {at} {e} same p = subst (λ (l : List ℕ). Puts l b at e b₁) same p

-- a row of texts ends with the last of them
pub last : {t b b₁ : List ℕ} {at e : ℕ} → Puts t b at e b₁ → Puts (t ++ []) b at e b₁
last {t} p = reworded (sym (append-nil t)) p

-- a text for which there is room stands at the start whole
over_whole : (t s : List ℕ) → length t ≤ length s → take (length t) (over t s) ≡ t
unfolding over
over_whole [] s h = refl
over_whole (x ∷ t) [] h = absurd (omega arith)
over_whole (x ∷ t) (b ∷ s) h = ap (λ (l : List ℕ). x ∷ l) (over_whole t s (omega arith))

pub whole : {t b b₁ : List ℕ} {e : ℕ} → length t ≤ length b → Puts t b 0 e b₁ → take e b₁ ≡ t
unfolding over_at
whole {t} {b} {b₁} {e} h p =
    let f : e ≡ length t = omega (arith, p.ends) in
    ap (take e) p.leaves ∙ ap (λ (k : ℕ). take k (over t b)) f ∙ over_whole t b h

pub counted : {t b b₁ : List ℕ} {e : ℕ} → length t ≤ length b → Puts t b 0 e b₁ → e ≡ length (take e b₁)
counted {t} {b} {b₁} {e} h p =
    let f : e ≡ length t = omega (arith, p.ends) in
    f ∙ sym (ap length (whole h p))

-- a part of a buffer that takes the bytes of a text for which it has room
pub copied : {t s part : List ℕ} {at : ℕ} (start size : ℕ) → start ≡ min at (length s) → size ≡ min (length t) (length s - start) →
    part ≡ take size t → Puts t s at (start + size) (take start s ++ (part ++ drop (start + size - start) (drop start s)))
copied {t} {s} {part} {at} start size e f is =
    let room : min (length t) (length (drop start s)) ≡ size = rw length-drop (sym f) in
    let gone : start + size - start ≡ size = omega arith in
    let whole : over t (drop start s) ≡ part ++ drop (start + size - start) (drop start s) =
    rw (gone, is) (rw room at (over_parts t (drop start s))) in
    record {
      ends = omega arith;
      leaves = ap (λ (l : List ℕ). take start s ++ l) (sym whole) ∙ sym (at_parts start t s) ∙ ap (λ (k : ℕ). over_at k t s) e ∙ at_most at t s;
    }

-- no byte is put yet
pub begun : {s : List ℕ} {at end : ℕ} → end ≡ min at (length s) → Puts [] s at end s
begun {s} {at} e = record { ends = omega arith; leaves = sym (none at s) }
