-- Rows that are put piece by piece from the front: those of the lines so far are put, and those of what is left are still to come.
use Prim.Native.Nat.{ℕ, ◌-◌, ◌≤◌}
use mathlib.Core.Path.{◌≡◌, refl, sym, ◌∙◌, ap}
use mathlib.Core.List.{List, [], ◌++◌}
use native.Mathlib.Omega.{arith}
use lib.ListN.{length, length-append}
use Rattle.totals.specs.Sum.{capped}
use Rattle.lines.specs.Lines.{cut, rejoined, finished_in}
use Rattle.lines.specs.Steps.{NoPiece, FirstPiece}
use Rattle.lines.proofs.Cuts.{cut_is_cut}
use Rattle.lines.proofs.Finished.{rejoined_behind, finished_within}
use Rattle.wording.specs.Put.{Puts}
use Rattle.adjustment_rows.specs.Rows.{row_in, rows_of, PutsRows}
use Rattle.adjustment_rows.proofs.PutUpTo.{PutUpTo, one_more, still, all_put}
use Rattle.adjustment_rows.proofs.PutUpTo as up_to_lem

-- the unfinished line has as many bytes as the finished ones leave
pub unfinished_length : (s : List ℕ) → length (cut s).rest ≡ length s - finished_in s
unfinished_length s =
    let front = rejoined (cut s).pieces [] in
    let both : front ++ (cut s).rest ≡ s = rejoined_behind (cut s).pieces [] (cut s).rest ∙ (cut_is_cut s).whole in
    omega (arith, simp length-append at (ap length both))

-- the rows of what is left, where it has a first piece, and where it has none
first_row : (n : ℕ) {s piece behind : List ℕ} → FirstPiece s piece behind → rows_of n (cut s).pieces ≡ row_in n piece ++ rows_of (capped n 1) (cut behind).pieces
unfolding rows_of
first_row n w = rw w.pieces

no_row : (n : ℕ) {s : List ℕ} → NoPiece s → rows_of n (cut s).pieces ≡ []
unfolding rows_of
no_row n w = rw w.pieces

pub record Sofar (number : ℕ) (bytes before : List ℕ) (next size : ℕ) (left after : List ℕ) : Type 0 where
  pub puts : PutUpTo (rows_of number (cut bytes).pieces) (rows_of next (cut left).pieces) before 0 size after
  pub unfinished : (cut left).rest ≡ (cut bytes).rest

pub begun : (number : ℕ) (bytes before : List ℕ) → Sofar number bytes before number 0 bytes before
begun number bytes before = record { puts = up_to_lem.begun (omega arith); unfinished = refl }

module _ {number : ℕ} {bytes before b : List ℕ} {n size : ℕ} {left : List ℕ} (w : Sofar number bytes before n size left b) where
  -- with the row of the first piece put
  pub passed : {piece behind after : List ℕ} {m end : ℕ} → FirstPiece left piece behind → Puts (row_in n piece) b size end after → m ≡ capped n 1 →
      Sofar number bytes before m end behind after
  passed {piece = piece} {behind = behind} f p next =
      record {
        puts = one_more (still (first_row n f ∙ ap (λ (k : ℕ). row_in n piece ++ rows_of k (cut behind).pieces) (sym next)) w.puts) p;
        unfinished = sym f.left ∙ w.unfinished;
      }

  -- where no piece is left, all is done
  pub left_within : NoPiece left → length left ≤ length bytes
  left_within none =
      let rest : left ≡ (cut bytes).rest = sym none.left ∙ w.unfinished in
      omega (arith, ap length rest, unfinished_length bytes)

  pub all_passed : NoPiece left → PutsRows number bytes before (record { lines = length bytes - length left; size = size }) b
  all_passed none =
      let rest : left ≡ (cut bytes).rest = sym none.left ∙ w.unfinished in
      record { counts = omega (arith, ap length rest, unfinished_length bytes, finished_within bytes); puts = all_put (still (no_row n none) w.puts) }
