-- The line of a file is one line, whatever its name holds, and there is room for it.
use Prim.Native.Nat.{ℕ, ◌≤◌}
use mathlib.Core.Path.{◌≡◌, refl, sym, ◌∙◌, ap}
use mathlib.Core.List.{List, [], ◌∷◌, ◌++◌, append-nil, append_assoc}
use mathlib.Core.Bool.{true}
use native.Mathlib.Omega.{arith}
use lib.ListN.{length, take, length-append, length-map}
use Rattle.lines.specs.Lines.{lf, cut, no_lf}
use Rattle.lines.proofs.Cuts.{first_piece}
use Rattle.wording.specs.Shown.{shown_as}
use Rattle.wording.specs.Put.{Puts}
use Rattle.wording.proofs.Shown.{stays_one_line}
use Rattle.wording.proofs.Putting.{reworded, whole}
use Rattle.file_list.specs.Line.{file_line}

-- words and name hold no LF as they are shown
clear : (words name : List ℕ) → no_lf (shown_as 32 words ++ shown_as 63 name) ≡ true
unfolding no_lf
clear words name =
    stays_one_line 32 refl words (shown_as 63 name) (ap no_lf (sym (append-nil (shown_as 63 name))) ∙ stays_one_line 63 refl name [] refl)

-- so the line's one LF stands at its end
pub one_line : (words name : List ℕ) → cut (file_line words name) ≡ record { pieces = (shown_as 32 words ++ shown_as 63 name) ∷ []; rest = [] }
unfolding file_line cut
one_line words name =
    ap cut (sym (append_assoc (shown_as 32 words) (shown_as 63 name) (lf ∷ []))) ∙ first_piece (shown_as 32 words ++ shown_as 63 name) [] (clear words name)

line_short : (words name : List ℕ) → length words ≤ 511 → length name ≤ 131072 → length (file_line words name) ≤ 131584
unfolding file_line
line_short words name h k = simp (length-append, length-map) (omega arith)

-- so it stands in its room whole, whatever lent its words
module _ {words lent b after : List ℕ} {e : ℕ} (name : List ℕ) (same : lent ≡ words) (h : length words ≤ 511) (k : length name ≤ 131072) (room : 131584 ≡ length b)
    (p : Puts (file_line lent name) b 0 e after) where
  short : length (file_line words name) ≤ length b
  short = omega (arith, line_short words name h k)

  put : Puts (file_line words name) b 0 e after
  put = reworded (ap (λ (w : List ℕ). file_line w name) same) p

  pub line_whole : take e after ≡ file_line words name
  line_whole = whole short put
