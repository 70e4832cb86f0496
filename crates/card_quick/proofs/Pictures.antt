-- Laws of rows of bytes compared place by place: what one place does, that rows pass where their parts do, and that a row between two others
-- holds only what an alphabet allows between the least and the greatest of these.
use Prim.Native.Nat.{ℕ, zero, suc, ◌≤◌, ◌<◌}
use mathlib.Core.Path.{◌≡◌, refl, sym, ◌∙◌, ap, ap₂}
use mathlib.Core.List.{List, [], ◌∷◌}
use mathlib.Core.Bool.{Bool, true, false, ◌&&◌, and_assoc}
use native.Mathlib.Omega.{arith}
use lib.ListN.{length, take, drop}
use lib.Seq.{drop-nil, slice, take-take}
use lib.Dec.{leb}
use borrow.Author.Tests.{le-leb, lt-leb, leb-true}
use Rattle.text.specs.declared.alphabet.Alphabet.{Alphabet}
use Rattle.text.specs.Alphabet.{allowed, holds_only}
use Rattle.text.proofs.Alphabets.{both, both_left, both_right}
use Rattle.card_content.specs.EqualOutside.{EqualOutside}
use Rattle.card_quick.specs.Quick.{none_above}

-- a byte above its neighbour: the rows from there on do not pass, whatever those before it are
pub above : (p : Bool) (x y : ℕ) (a b low high : List ℕ) → low ≡ x ∷ a → high ≡ y ∷ b → y < x → p && none_above low high ≡ false
unfolding none_above
above true x y a b low high e f l = rw (e, f, lt-leb _ _ l)
above false x y a b low high e f l = refl

-- any other: they pass where those behind it do
pub not_above : (p : Bool) (x y : ℕ) (a b low high : List ℕ) → low ≡ x ∷ a → high ≡ y ∷ b → x ≤ y → p && none_above low high ≡ p && none_above a b
unfolding none_above
not_above p x y a b low high e f l = rw (e, f, le-leb _ _ l)

-- no byte left in the one row
pub low_end : (p : Bool) (low high : List ℕ) → length low ≡ 0 → p && none_above low high ≡ p
unfolding none_above
low_end true [] high e = refl
low_end false low high e = refl
low_end true (x ∷ low) high e = absurd (omega arith)

-- no byte left in the other
pub high_end : (p : Bool) (low high : List ℕ) → length high ≡ 0 → p && none_above low high ≡ p
unfolding none_above
high_end true [] high e = refl
high_end true (x ∷ low) [] e = refl
high_end true (x ∷ low) (y ∷ high) e = absurd (omega arith)
high_end false low high e = refl

-- no byte against what comes
none_beyond : (a : List ℕ) → none_above a [] ≡ true
unfolding none_above
none_beyond [] = refl
none_beyond (x ∷ a) = refl

-- rows pass where their first places do and those behind them
in_two : (n : ℕ) (a b : List ℕ) → none_above a b ≡ none_above (take n a) (take n b) && none_above (drop n a) (drop n b)
unfolding none_above
in_two zero a b = refl
in_two (suc n) [] b = refl
in_two (suc n) (x ∷ a) [] = rw drop-nil (sym (none_beyond (drop n a)))
in_two (suc n) (x ∷ a) (y ∷ b) = ap (λ p. leb x y && p) (in_two n a b) ∙ sym (and_assoc (leb x y) _ _)

-- and so does each part of them
pub slice_passes : (from to : ℕ) (a b : List ℕ) → none_above a b ≡ true → none_above (slice from to a) (slice from to b) ≡ true
slice_passes from to a b e =
    let first = both_left (none_above (take to a) (take to b)) _ (sym (in_two to a b) ∙ e) in
    both_right (none_above (take from (take to a)) (take from (take to b))) _ (sym (in_two from (take to a) (take to b)) ∙ first)

-- rows that differ in one part, which passes in both, pass alike
pub rows_alike : (from to : ℕ) (a b c d : List ℕ) → from ≤ to → EqualOutside from to a b → EqualOutside from to c d →
    none_above (slice from to a) (slice from to c) ≡ true → none_above (slice from to b) (slice from to d) ≡ true → none_above a c ≡ none_above b d
rows_alike from to a b c d low ab cd ac bd =
    let first : none_above (take from (take to a)) (take from (take to c)) ≡ none_above (take from (take to b)) (take from (take to d)) =
    ap₂ none_above
    (take-take from to a low ∙ ab.before ∙ sym (take-take from to b low))
    (take-take from to c low ∙ cd.before ∙ sym (take-take from to d low)) in
    in_two to a c ∙
    ap₂ ◌&&◌ (in_two from (take to a) (take to c) ∙ ap₂ ◌&&◌ first (ac ∙ sym bd) ∙ sym (in_two from (take to b) (take to d)))
    (ap₂ none_above ab.behind cd.behind) ∙
    sym (in_two to b d)

-- each byte of a row is at least one, or at most one
abbrev pub at_least : ℕ → List ℕ → Bool
at_least n [] = true
at_least n (a ∷ s) = leb n a && at_least n s

abbrev pub at_most : ℕ → List ℕ → Bool
at_most n [] = true
at_most n (a ∷ s) = leb a n && at_most n s

-- a row with no byte above a number and one with none below it
pub none_between : (n : ℕ) (a b : List ℕ) → at_most n a ≡ true → at_least n b ≡ true → none_above a b ≡ true
unfolding none_above
none_between n [] b m l = refl
none_between n (x ∷ a) [] m l = refl
none_between n (x ∷ a) (y ∷ b) m l =
    let up = leb-true x n (both_left (leb x n) (at_most n a) m) in
    let down = leb-true n y (both_left (leb n y) (at_least n b) l) in
    both (le-leb x y (omega arith)) (none_between n a b (both_right (leb x n) (at_most n a) m) (both_right (leb n y) (at_least n b) l))

-- a row between two others, of which the one has no byte below a least and the other none above a greatest
module _ (a : Alphabet) (low high : ℕ) (all : (b : ℕ) → low ≤ b → b ≤ high → allowed a b ≡ true) where
  pub between : (l s h : List ℕ) → length l ≡ length s → length s ≡ length h → none_above l s ≡ true → none_above s h ≡ true →
      at_least low l ≡ true → at_most high h ≡ true → holds_only a s ≡ true
  unfolding none_above holds_only
  between l [] h e f p q m n = refl
  between [] (b ∷ s) h e f p q m n = absurd (omega arith)
  between (x ∷ l) (b ∷ s) [] e f p q m n = absurd (omega arith)
  between (x ∷ l) (b ∷ s) (y ∷ h) e f p q m n =
      let above-x = leb-true x b (both_left (leb x b) (none_above l s) p) in
      let below-y = leb-true b y (both_left (leb b y) (none_above s h) q) in
      let x-least = leb-true low x (both_left (leb low x) (at_least low l) m) in
      let y-most = leb-true y high (both_left (leb y high) (at_most high h) n) in
      both (all b (omega arith) (omega arith))
      (between l s h (omega arith) (omega arith)
      (both_right (leb x b) (none_above l s) p)
      (both_right (leb b y) (none_above s h) q)
      (both_right (leb low x) (at_least low l) m)
      (both_right (leb y high) (at_most high h) n))

-- rows of one length of which neither is above the other are equal
pub neither_above : (a b : List ℕ) → length a ≡ length b → none_above a b ≡ true → none_above b a ≡ true → a ≡ b
unfolding none_above
neither_above [] [] e p q = refl
neither_above [] (y ∷ b) e p q = absurd (omega arith)
neither_above (x ∷ a) [] e p q = absurd (omega arith)
neither_above (x ∷ a) (y ∷ b) e p q =
    let up = leb-true x y (both_left (leb x y) (none_above a b) p) in
    let down = leb-true y x (both_left (leb y x) (none_above b a) q) in
    ap₂ ◌∷◌ (omega arith)
    (neither_above a b (omega arith) (both_right (leb x y) (none_above a b) p) (both_right (leb y x) (none_above b a) q))
