-- Laws of the first piece of bytes: it ends where the search finds an LF, and where it finds none there is no piece.
use Prim.Native.Nat.{ℕ, ◌+◌, ◌-◌, ◌≤◌}
use mathlib.Core.Path.{◌≡◌, ap, ◌∙◌}
use mathlib.Core.List.{List, ◌∷◌}
use native.Mathlib.Omega.{arith}
use lib.ListN.{length, take, drop, length-drop}
use lib.Seq.{take-length}
use Rattle.std.specs.Prelude.{Some, None}
use Rattle.lines.specs.Lines.{cut, next_lf}
use Rattle.lines.specs.Steps.{NoPiece, FirstPiece}
use Rattle.lines.proofs.Cuts.{cut_at, at_inside, cut_nowhere}

pub inside : (s : List ℕ) (e : ℕ) → next_lf 0 s ≡ Some e → e + 1 ≤ length s
inside s e q = let w = at_inside 0 s e q in omega arith

pub no_piece : (s : List ℕ) → next_lf 0 s ≡ None → NoPiece s
no_piece s q = record { pieces = ap (λ ls. ls.pieces) (cut_nowhere 0 s q); left = ap (λ ls. ls.rest) (cut_nowhere 0 s q) }

-- all that stands behind the LF
behind_whole : (s : List ℕ) (n : ℕ) → take (length s - n) (drop n s) ≡ drop n s
behind_whole s n = rw (← length-drop n s) (take-length (drop n s))

pub first_piece_lem : (s : List ℕ) (e : ℕ) → next_lf 0 s ≡ Some e → FirstPiece s (take e s) (take (length s - (e + 1)) (drop (e + 1) s))
first_piece_lem s e q =
    let w = inside s e q in
    let here : e - 0 ≡ e = omega arith in
    rw (behind_whole s (e + 1))
    (record {
      pieces = ap (λ ls. ls.pieces) (cut_at 0 s e q) ∙ ap (λ (n : ℕ). take n s ∷ (cut (drop (e + 1) s)).pieces) here;
      left = ap (λ ls. ls.rest) (cut_at 0 s e q);
      shorter = omega (arith, length-drop (e + 1) s);
    })
