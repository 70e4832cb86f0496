-- A text that is shown with a mark holds no control byte, so it has no LF, whatever it held.
use Prim.Native.Nat.{ℕ, ◌+◌, ◌<◌}
use mathlib.Core.Path.{◌≡◌, refl, sym, ◌∙◌, ap}
use mathlib.Core.List.{List, [], ◌∷◌, ◌++◌, map-append}
use mathlib.Core.Bool.{Bool, true, false, cond}
use lib.ListN.{length, take, get_or, get_or-map}
use lib.Seq.{take-suc}
use native.Mathlib.Numerals.{add-one}
use lib.Dec.{eqb}
use borrow.Author.Tests.{eqb-true}
use Rattle.lines.specs.Lines.{lf, no_lf}
use Rattle.wording.specs.Shown.{is_control, shown_byte, shown_as}

-- each byte of it: the text's own as it is shown; behind its end stands the mark, since 0 is a control byte
pub at_place : (mark : ℕ) (s : List ℕ) (i : ℕ) → get_or (shown_as mark s) i mark ≡ shown_byte mark (get_or s i 0)
at_place mark s i = get_or-map (shown_byte mark) s i 0

-- one byte more of it
pub one_shown : (mark : ℕ) (s : List ℕ) (i : ℕ) {b : ℕ} → i < length s → b ≡ shown_byte mark (get_or s i 0) →
    shown_as mark (take i s) ++ (b ∷ []) ≡ shown_as mark (take (i + 1) s)
one_shown mark s i h e = rw (add-one, take-suc s i 0, map-append, e) refl

-- an LF is a control byte
no_lf_lem : (b : ℕ) → is_control b ≡ false → eqb b lf ≡ false
no_lf_lem b e = by (eqb b lf) refl
  where
    by : (test : Bool) → eqb b lf ≡ test → test ≡ false
    by true is = sym (ap is_control (eqb-true b lf is)) ∙ e
    by false is = refl

module _ (mark : ℕ) (clear : is_control mark ≡ false) where
  byte_clear : (b : ℕ) → is_control (shown_byte mark b) ≡ false
  byte_clear b = by (is_control b) refl
    where
      by : (test : Bool) → is_control b ≡ test → is_control (cond test mark b) ≡ false
      by true e = clear
      by false e = e

  pub no_control : (s : List ℕ) (i : ℕ) → is_control (get_or (shown_as mark s) i mark) ≡ false
  no_control s i = ap is_control (at_place mark s i) ∙ byte_clear (get_or s i 0)

  -- in front of a text that has no LF either
  pub stays_one_line : (s t : List ℕ) → no_lf t ≡ true → no_lf (shown_as mark s ++ t) ≡ true
  unfolding no_lf
  stays_one_line [] t h = h
  stays_one_line (b ∷ s) t h = rw (no_lf_lem (shown_byte mark b) (no_control (b ∷ s) 0)) (stays_one_line s t h)
