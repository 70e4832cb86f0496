-- Laws of the search for the next LF: it is the first that `memchr` finds, and what its answer says of the bytes that it passed.
use Prim.Native.Nat.{ℕ, zero, suc, ◌+◌, ◌-◌, ◌≤◌, ◌<◌}
use mathlib.Core.Path.{◌≡◌, refl, sym, ap, subst, ◌∙◌}
use mathlib.Core.List.{List, [], ◌∷◌, ◌++◌}
use mathlib.Core.Bool.{Bool, true, false, cond, false≢true}
use native.Mathlib.Omega.{arith}
use lib.ListN.{length, take, drop, length-drop, drop_of_length-le}
use lib.Seq.{take-length}
use lib.Dec.{eqb}
use borrow.Author.Tests.{eqb-true}
use Rattle.std.specs.Prelude.{Option, Some, None, option_map}
use Rattle.memchr.specs.Find.{IsFirstByte, is_byte}
use Rattle.lines.specs.Lines.{lf, lf_from, next_lf, no_lf}

-- the first byte that is LF is where the search ends, counted on from i: in front of others, and in any bytes
first_of : (i : ℕ) (b : ℕ) (s : List ℕ) → ((r : Option ℕ) → IsFirstByte (is_byte lf) s r → lf_from (suc i) s ≡ option_map (λ k. suc i + k) r) →
    (p : Bool) → eqb b lf ≡ p → (r : Option ℕ) → IsFirstByte (is_byte lf) (b ∷ s) r → cond p (Some i) (lf_from (suc i) s) ≡ option_map (λ k. i + k) r
first_of i b s rest true e None w = absurd (w 0 (omega arith) (omega arith) e)
first_of i b s rest true e (Some zero) w = ap (λ (k : ℕ). Some k) (omega arith)
first_of i b s rest true e (Some (suc k)) w = absurd (w.0.before 0 (omega arith) (omega arith) e)
first_of i b s rest false e None w = rest None (λ k l h. w (suc k) (omega arith) (omega arith))
first_of i b s rest false e (Some zero) w = absurd (false≢true (sym e ∙ w.1))
first_of i b s rest false e (Some (suc k)) w =
    rest (Some k) (record { low = omega arith; high = omega (arith, w.0.high); before = λ j l h. w.0.before (suc j) (omega arith) (omega arith) }, w.1) ∙
    ap (λ (k : ℕ). Some k) (omega arith)

is_memchr : (i : ℕ) (s : List ℕ) (r : Option ℕ) → IsFirstByte (is_byte lf) s r → lf_from i s ≡ option_map (λ k. i + k) r
unfolding lf_from
is_memchr i [] None w = refl
is_memchr i [] (Some k) w = absurd (omega (arith, w.0.high))
is_memchr i (b ∷ s) r w = first_of i b s (is_memchr (suc i) s) (eqb b lf) refl r w

-- in the bytes from a place on, and where that place lies behind them all
pub found_by_memchr : (from : ℕ) (s : List ℕ) (r : Option ℕ) → IsFirstByte (is_byte lf) (take (length s - from) (drop from s)) r →
    next_lf from s ≡ option_map (λ k. from + k) r
found_by_memchr from s r w =
    let whole : take (length s - from) (drop from s) ≡ drop from s = rw (← length-drop from s) (take-length (drop from s)) in
    is_memchr from (drop from s) r (subst (λ (t : List ℕ). IsFirstByte (is_byte lf) t r) whole w)

pub none_behind : (from : ℕ) (s : List ℕ) → length s < from → next_lf from s ≡ None
unfolding lf_from
none_behind from s h = let l : length s ≤ from = omega arith in rw (drop_of_length-le s l)

-- an LF is found at e, counting on from i: behind k bytes that are none
pub record Split (i : ℕ) (s : List ℕ) (e : ℕ) : Type 0 where
  pub k : ℕ
  pub place : e ≡ i + k
  pub inside : k < length s
  pub clear : no_lf (take k s) ≡ true
  pub parts : s ≡ take k s ++ (lf ∷ drop (suc k) s)

-- an LF in front
here : (i : ℕ) (b : ℕ) (s : List ℕ) (e : ℕ) → eqb b lf ≡ true → ◌≡◌ {A = Option ℕ} (Some i) (Some e) → Split i (b ∷ s) e
unfolding no_lf
here i b s e p q =
    let z : e ≡ i = cc in
    record { k = 0; place = omega arith; inside = omega arith; clear = refl; parts = ap (λ x. x ∷ s) (eqb-true b lf p) }

-- another byte in front of bytes that are split
behind : (i : ℕ) (b : ℕ) (s : List ℕ) (e : ℕ) → eqb b lf ≡ false → Split (suc i) s e → Split i (b ∷ s) e
unfolding no_lf
behind i b s e p w =
    record {
      k = suc w.k;
      place = omega arith;
      inside = omega arith;
      clear = rw p w.clear;
      parts = ap (λ l. b ∷ l) w.parts;
    }

pub split : (i : ℕ) (s : List ℕ) (e : ℕ) → lf_from i s ≡ Some e → Split i s e
unfolding lf_from
split i [] e q = cc
split i (b ∷ s) e q = one (eqb b lf) refl q (split (suc i) s e)
  where
    one : (p : Bool) → eqb b lf ≡ p → cond p (Some i) (lf_from (suc i) s) ≡ Some e → (lf_from (suc i) s ≡ Some e → Split (suc i) s e) →
        Split i (b ∷ s) e
    one true p q w = here i b s e p q
    one false p q w = behind i b s e p (w q)

-- none is found: there is no LF
pub none : (i : ℕ) (s : List ℕ) → lf_from i s ≡ None → no_lf s ≡ true
unfolding lf_from no_lf
none i [] q = refl
none i (b ∷ s) q = one (eqb b lf) q (none (suc i) s)
  where
    one : (p : Bool) → cond p (Some i) (lf_from (suc i) s) ≡ None → (lf_from (suc i) s ≡ None → no_lf s ≡ true) →
        cond p false (no_lf s) ≡ true
    one true e w = cc
    one false e w = w e
