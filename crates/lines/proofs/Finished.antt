-- The finished lines of some bytes: how many bytes they take, piece by piece as the search goes, and that the rest stands behind them.
use Prim.Native.Nat.{ℕ, suc, ◌+◌, ◌-◌, ◌≤◌}
use mathlib.Core.Path.{◌≡◌, refl, ◌∙◌, ap}
use mathlib.Core.List.{List, [], ◌∷◌, ◌++◌, append_assoc}
use native.Mathlib.Omega.{arith}
use lib.ListN.{length, take, drop, length-append, length-drop, drop_of_length-le}
use lib.Seq.{length-take-le}
use Rattle.std.specs.Prelude.{Some, None}
use Rattle.lines.specs.Lines.{Lines, lf, cut, rejoined, finished_in, next_lf}
use Rattle.lines.proofs.Cuts.{cut_is_cut, cut_at, at_inside, cut_nowhere}

pub rejoined_behind : (ps : List (List ℕ)) (r b : List ℕ) → rejoined ps r ++ b ≡ rejoined ps (r ++ b)
unfolding rejoined
rejoined_behind [] r b = refl
rejoined_behind (p ∷ ps) r b = append_assoc p _ b ∙ ap (λ s. p ++ (lf ∷ s)) (rejoined_behind ps r b)

-- they are no longer than the bytes
pub finished_within : (s : List ℕ) → finished_in s ≤ length s
finished_within s =
    let front = rejoined (cut s).pieces [] in
    let both : front ++ (cut s).rest ≡ s = rejoined_behind (cut s).pieces [] (cut s).rest ∙ (cut_is_cut s).whole in
    omega (arith, simp length-append at (ap length both))

-- those of what is left from a place on, where the search finds an LF
pub first_finished : (at : ℕ) (s : List ℕ) (e : ℕ) → next_lf at s ≡ Some e → at + finished_in (drop at s) ≡ (e + 1) + finished_in (drop (e + 1) s)
unfolding rejoined
first_finished at s e q =
    let i = at_inside at s e q in
    let left : length (drop at s) ≡ length s - at = length-drop at s in
    let piece : length (take (e - at) (drop at s)) ≡ e - at = length-take-le (e - at) (drop at s) (omega arith) in
    let next = rejoined (cut (drop (e + 1) s)).pieces [] in
    let both : finished_in (drop at s) ≡ length (take (e - at) (drop at s)) + suc (length next) =
    ap (λ (ls : Lines). length (rejoined ls.pieces [])) (cut_at at s e q) ∙ length-append (take (e - at) (drop at s)) (lf ∷ next) in
    omega arith

-- and where nothing of it is finished: there is no LF, or no byte
pub none_finished : (at : ℕ) (s : List ℕ) → next_lf at s ≡ None → finished_in (drop at s) ≡ 0
unfolding rejoined
none_finished at s q = rw (cut_nowhere at s q)

pub nothing_finished : (at : ℕ) (s : List ℕ) → length s ≤ at → finished_in (drop at s) ≡ 0
unfolding rejoined cut
nothing_finished at s h = rw (drop_of_length-le s h)
