-- Laws of whether a part holds only allowed bytes: what one byte does to it; and of the search for one that it may not hold: that it passes
-- allowed bytes, and finds what `position` finds.
use Prim.Native.Nat.{ℕ, zero, suc, ◌+◌, ◌-◌, ◌*◌, ◌/◌, ◌≤◌, ◌<◌}
use mathlib.Core.Path.{◌≡◌, refl, sym, ◌∙◌, ap, ap₂}
use mathlib.Core.List.{List, [], ◌∷◌}
use mathlib.Core.Bool.{Bool, true, false, cond, not, ◌&&◌, false≢true}
use native.Mathlib.Numerals.{add-one}
use native.Mathlib.Omega.{arith}
use lib.ListN.{length, get_or, take, drop, length-drop, drop_of_length-le}
use lib.Seq.{drop-cons, drop-drop, take-length}
use Rattle.text.specs.declared.alphabet.Alphabet.{Alphabet}
use Rattle.std.specs.List.{prefix_len, take_while, position_from}
use Rattle.std.specs.Simd.{first_chunks}
use Rattle.std.proofs.lemmas.List.Folds.{length-prefix_len}
use Rattle.std.proofs.lemmas.List.Sums.{prefix_len-le-length}
use Rattle.std.specs.Prelude.{Option, Some, is_none, option_map}
use Rattle.text.specs.Alphabet.{allowed, holds_only, first_stray}

-- a byte that is not allowed: the bytes from there on are not all allowed, whatever those before it are
pub stained : (p : Bool) (a : Alphabet) (s : List ℕ) (i : ℕ) → i < length s → allowed a (get_or s i 0) ≡ false → p && holds_only a (drop i s) ≡ false
unfolding holds_only
stained true a s i h e = rw (drop-cons s i 0 h, e)
stained false a s i h e = refl

-- an allowed byte: they are where those behind it are
pub pure_on : (p : Bool) (a : Alphabet) (s : List ℕ) (i : ℕ) → i < length s → allowed a (get_or s i 0) ≡ true →
    p && holds_only a (drop i s) ≡ p && holds_only a (drop (i + 1) s)
unfolding holds_only
pure_on p a s i h e = rw (drop-cons s i 0 h, add-one, e)

-- no byte left
pub pure_end : (p : Bool) (a : Alphabet) (s : List ℕ) (i : ℕ) → length s ≤ i → p && holds_only a (drop i s) ≡ p
unfolding holds_only
pure_end true a s i h = rw (drop_of_length-le s h)
pure_end false a s i h = refl

-- allowed bytes in front: the search goes on behind them
over : (a : Alphabet) (i n : ℕ) (s : List ℕ) → n ≤ length s → holds_only a (take n s) ≡ true → first_stray a i s ≡ first_stray a (i + n) (drop n s)
unfolding first_stray holds_only
over a i zero s h e = ap (λ (k : ℕ). first_stray a k s) (omega arith)
over a i (suc n) [] h e = absurd (omega arith)
over a i (suc n) (b ∷ s) h e = one (allowed a b) e (over a (suc i) n s (omega arith))
  where
    one : (p : Bool) → p && holds_only a (take n s) ≡ true →
        (holds_only a (take n s) ≡ true → first_stray a (suc i) s ≡ first_stray a (suc i + n) (drop n s)) →
        cond p (first_stray a (suc i) s) (Some i) ≡ first_stray a (i + suc n) (drop n s)
    one true f w = w f ∙ ap (λ (k : ℕ). first_stray a k (drop n s)) (omega arith)
    one false f w = absurd (false≢true f)

-- so the blocks of allowed bytes at the front are passed, of k blocks that there are
blocks_over : (a : Alphabet) (i k : ℕ) (s : List ℕ) → k * 16 ≤ length s →
    first_stray a i s ≡ first_stray a (i + prefix_len (holds_only a) (first_chunks 16 k s) * 16) (drop (prefix_len (holds_only a) (first_chunks 16 k s) * 16) s)
blocks_over a i zero s h = ap (λ (n : ℕ). first_stray a n s) (omega arith)
blocks_over a i (suc k) s h =
    one (holds_only a (take 16 s)) refl
    (blocks_over a (i + 16) k (drop 16 s) (omega (arith, length-drop 16 s)))
  where
    more : ℕ
    more = prefix_len (holds_only a) (first_chunks 16 k (drop 16 s))

    one : (t : Bool) → holds_only a (take 16 s) ≡ t →
        first_stray a (i + 16) (drop 16 s) ≡ first_stray a (i + 16 + more * 16) (drop (more * 16) (drop 16 s)) →
        first_stray a i s ≡ first_stray a (i + cond t (1 + more) 0 * 16) (drop (cond t (1 + more) 0 * 16) s)
    one true e w =
        let place : i + 16 + more * 16 ≡ i + (1 + more) * 16 = omega arith in
        let left : 16 + more * 16 ≡ (1 + more) * 16 = omega arith in
        over a i 16 s (omega arith) e ∙ w ∙ ap₂ (first_stray a) place (drop-drop (more * 16) 16 s ∙ ap (λ (n : ℕ). drop n s) left)
    one false e w = ap (λ (n : ℕ). first_stray a n s) (omega arith)

blocks_of : (k : ℕ) (s : List ℕ) → length (first_chunks 16 k s) ≡ k
blocks_of zero s = refl
blocks_of (suc k) s = ap suc (blocks_of k (drop 16 s))

-- of the blocks that a part has
pub blocks_passed : (a : Alphabet) (n : ℕ) (s : List ℕ) → n ≡ length (take_while (holds_only a) (first_chunks 16 (length s / 16) s)) →
    first_stray a (n * 16) (drop (n * 16) s) ≡ first_stray a 0 s
blocks_passed a n s e =
    let blocks = first_chunks 16 (length s / 16) s in
    let count : n ≡ prefix_len (holds_only a) blocks = e ∙ length-prefix_len (holds_only a) blocks in
    let start : 0 + prefix_len (holds_only a) blocks * 16 ≡ n * 16 = omega arith in
    let left : prefix_len (holds_only a) blocks * 16 ≡ n * 16 = omega arith in
    sym (blocks_over a 0 (length s / 16) s (omega arith) ∙ ap₂ (first_stray a) start (ap (λ (m : ℕ). drop m s) left))

pub blocks_inside : (a : Alphabet) (n : ℕ) (s : List ℕ) → n ≡ length (take_while (holds_only a) (first_chunks 16 (length s / 16) s)) → n * 16 ≤ length s
blocks_inside a n s e =
    let blocks = first_chunks 16 (length s / 16) s in
    omega (arith, e ∙ length-prefix_len (holds_only a) blocks, prefix_len-le-length (holds_only a) blocks, blocks_of (length s / 16) s)

-- a part holds only allowed bytes exactly where the search finds none
pub nowhere : (a : Alphabet) (i : ℕ) (s : List ℕ) → holds_only a s ≡ is_none (first_stray a i s)
unfolding holds_only first_stray
nowhere a i [] = refl
nowhere a i (b ∷ s) = one (allowed a b) (first_stray a (suc i) s) (nowhere a (suc i) s)
  where
    one : (p : Bool) {q : Bool} (rest : Option ℕ) → q ≡ is_none rest → p && q ≡ is_none (cond p rest (Some i))
    one true rest e = e
    one false rest e = refl

-- the search finds what `position` finds, counted on from i
counted_from : (a : Alphabet) (i n : ℕ) (s : List ℕ) → first_stray a (i + n) s ≡ option_map (λ (k : ℕ). i + k) (position_from (λ (b : ℕ). not (allowed a b)) n s)
unfolding first_stray
counted_from a i n [] = refl
counted_from a i n (b ∷ s) = one (allowed a b) _ (ap (λ (k : ℕ). first_stray a k s) (omega arith) ∙ counted_from a i (n + 1) s)
  where
    one : (p : Bool) (rest : Option ℕ) {left : Option ℕ} → left ≡ option_map (λ (k : ℕ). i + k) rest →
        cond p left (Some (i + n)) ≡ option_map (λ (k : ℕ). i + k) (cond (not p) (Some n) rest)
    one true rest e = e
    one false rest e = refl

-- so what is found behind the first i bytes
pub counted_on : (a : Alphabet) (i : ℕ) (s : List ℕ) →
    option_map (λ (k : ℕ). i + k) (position_from (λ (b : ℕ). not (allowed a b)) 0 (take (length s - i) (drop i s))) ≡ first_stray a i (drop i s)
counted_on a i s =
    let rest : take (length s - i) (drop i s) ≡ drop i s = rw (← length-drop i s) (take-length (drop i s)) in
    rw rest (sym (counted_from a i 0 (drop i s)) ∙ ap (λ (k : ℕ). first_stray a k (drop i s)) (omega arith))
