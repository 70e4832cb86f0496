-- Laws of a text that is put as it is, and whose control bytes are marked where it stands: byte by byte, and of the whole.
use Prim.Native.Nat.{ℕ, zero, suc, ◌+◌, ◌-◌, ◌≤◌, ◌<◌, min}
use mathlib.Core.Path.{◌≡◌, refl, sym, ◌∙◌, ap, ap₂}
use mathlib.Core.List.{List, [], ◌∷◌, ◌++◌}
use native.Mathlib.Omega.{arith}
use native.Mathlib.Numerals.{add-one}
use lib.ListN.{length, take, drop, set, get_or, length-map}
use Rattle.wording.specs.Put.{over, over_at, Puts}
use Rattle.wording.specs.Shown.{shown_byte, shown_as}
use Rattle.wording.proofs.Putting.{at_most}

module _ (mark : ℕ) where
  -- where the bytes before a place are marked, the one at it is as it was
  unmarked : (s : List ℕ) (i : ℕ) → get_or (shown_as mark (take i s) ++ drop i s) i 0 ≡ get_or s i 0
  unmarked [] zero = refl
  unmarked [] (suc i) = refl
  unmarked (b ∷ s) zero = refl
  unmarked (b ∷ s) (suc i) = unmarked s i

  next : (s : List ℕ) (i : ℕ) → i < length s →
      set (shown_as mark (take i s) ++ drop i s) i (shown_byte mark (get_or s i 0)) ≡ shown_as mark (take (suc i) s) ++ drop (suc i) s
  next [] i h = absurd (omega arith)
  next (b ∷ s) zero h = refl
  next (b ∷ s) (suc i) h = ap (λ (l : List ℕ). shown_byte mark b ∷ l) (next s i (omega arith))

  -- so the next byte is marked
  pub marked_on : (s t : List ℕ) (i b : ℕ) → i < length s → t ≡ shown_as mark (take i s) ++ drop i s → b ≡ shown_byte mark (get_or t i 0) →
      set t i b ≡ shown_as mark (take (i + 1) s) ++ drop (i + 1) s
  marked_on s t i b h e f =
      let g : b ≡ shown_byte mark (get_or s i 0) =
      f ∙ ap (λ (l : List ℕ). shown_byte mark (get_or l i 0)) e ∙ ap (shown_byte mark) (unmarked s i) in
      rw add-one (ap₂ (λ (l : List ℕ) (k : ℕ). set l i k) e g ∙ next s i h)

  -- a text over the start of a buffer, marked there
  over_marked : (t s : List ℕ) (n : ℕ) → n ≡ min (length t) (length s) → shown_as mark (take n (over t s)) ++ drop n (over t s) ≡ over (shown_as mark t) s
  unfolding over
  over_marked [] [] n e = let none : n ≡ 0 = omega (arith, e) in rw none refl
  over_marked [] (b ∷ s) n e = let none : n ≡ 0 = omega (arith, e) in rw none refl
  over_marked (x ∷ t) [] n e = let none : n ≡ 0 = omega (arith, e) in rw none refl
  over_marked (x ∷ t) (b ∷ s) zero e = absurd (omega (arith, e))
  over_marked (x ∷ t) (b ∷ s) (suc n) e = ap (λ (l : List ℕ). shown_byte mark x ∷ l) (over_marked t s n (omega (arith, e)))

  -- and behind the first bytes
  at_marked : (at : ℕ) (t s : List ℕ) (n : ℕ) → at ≤ length s → n ≡ min (length t) (length s - at) →
      take at (over_at at t s) ++ (shown_as mark (take n (drop at (over_at at t s))) ++ drop n (drop at (over_at at t s))) ≡ over_at at (shown_as mark t) s
  unfolding over_at
  at_marked zero t s n h e = over_marked t s n (omega (arith, e))
  at_marked (suc at) t [] n h e = absurd (omega arith)
  at_marked (suc at) t (b ∷ s) n h e = ap (λ (l : List ℕ). b ∷ l) (at_marked at t s n (omega arith) (omega (arith, e)))

  -- so a text that was put, and then marked where it stands, is put as it is shown
  pub marked_text : {t s s₁ part : List ℕ} {at start end : ℕ} → start ≡ min at (length s) → Puts t s at end s₁ →
      part ≡ shown_as mark (take (end - start) (drop start s₁)) →
      Puts (shown_as mark t) s at end (take start s₁ ++ (part ++ drop (end - start) (drop start s₁)))
  marked_text {t} {s} {s₁} {part} {at} {start} {end} e p is =
      let same : s₁ ≡ over_at start t s = p.leaves ∙ sym (at_most at t s) ∙ ap (λ (k : ℕ). over_at k t s) (sym e) in
      let wide : end - start ≡ min (length t) (length s - start) = omega (arith, e, p.ends) in
      record {
        ends = rw length-map p.ends;
        leaves =
            rw (is, same) (at_marked start t s (end - start) (omega (arith, e)) wide) ∙ ap (λ (k : ℕ). over_at k (shown_as mark t) s) e ∙ at_most at (shown_as mark t) s;
      }
