-- Bytes that are masked piece by piece from the front: what stands before a place is done, what stands behind it is as it was.
use Prim.Native.Nat.{ℕ, suc, ◌+◌, ◌-◌, ◌≤◌}
use mathlib.Core.Path.{◌≡◌, refl, sym, ◌∙◌, ap, ap₂}
use mathlib.Core.List.{List, [], ◌∷◌, ◌++◌, append_assoc}
use native.Mathlib.Omega.{arith}
use lib.ListN.{length, take, drop, length-append, length-drop, take-append-drop}
use lib.Seq.{length-take-le, take_at, drop_at, drop-drop}
use Rattle.lines.specs.Lines.{lf, rejoined, finished_in, next_lf}
use Rattle.lines.proofs.Search.{split}
use Rattle.lines.proofs.Cuts.{cut_at, at_inside, cut_nowhere}
use Rattle.lines.proofs.Finished.{first_finished}
use Rattle.card_mask.specs.Masked.{masked_piece, masked_file, MasksLines}
use Rattle.card_mask.proofs.Pieces.{piece_length}
use Rattle.std.specs.Prelude.{None, Some}

-- at an LF that was found, the bytes go on with it
at_lf : (at : ℕ) (s : List ℕ) (e : ℕ) → next_lf at s ≡ Some e → drop e s ≡ lf ∷ drop (e + 1) s
at_lf at s e q =
    let w = split at (drop at s) e q in
    let d = drop at s in
    let here : at + w.k ≡ e = omega arith in
    let on : at + suc w.k ≡ e + 1 = omega arith in
    let wide : length (take w.k d) ≡ w.k = length-take-le w.k d (omega arith) in
    sym (drop-drop w.k at s ∙ ap (λ (n : ℕ). drop n s) here) ∙
    ap (drop w.k) w.parts ∙
    drop_at (take w.k d) (lf ∷ drop (suc w.k) d) w.k wide ∙
    ap (λ (l : List ℕ). lf ∷ l) (drop-drop (suc w.k) at s ∙ ap (λ (n : ℕ). drop n s) on)

-- the masked form of what is left begins with the masked piece
first_masked : (at : ℕ) (s : List ℕ) (e : ℕ) → next_lf at s ≡ Some e →
    masked_file (drop at s) ≡ masked_piece (take (e - at) (drop at s)) ++ (lf ∷ masked_file (drop (e + 1) s))
unfolding rejoined
first_masked at s e q = rw (cut_at at s e q)

-- where nothing of what is left is masked: there is no LF
pub none_left : (at : ℕ) (s : List ℕ) → next_lf at s ≡ None → masked_file (drop at s) ≡ drop at s
unfolding rejoined
none_left at s q = rw (cut_nowhere at s q)

-- bytes that are masked from the front: before a place they are done, and from there on they are as they were
pub record Sofar (bytes₀ : List ℕ) (at : ℕ) (bytes : List ℕ) : Type 0 where
  pub inside : at ≤ length bytes
  pub same_length : length bytes ≡ length bytes₀
  pub done : take at bytes ++ masked_file (drop at bytes) ≡ masked_file bytes₀
  pub counted : at + finished_in (drop at bytes) ≡ finished_in bytes₀

pub begun : (bytes : List ℕ) → Sofar bytes 0 bytes
begun bytes = record { inside = omega arith; same_length = refl; done = refl; counted = omega arith }

-- with the piece before an LF masked, and the LF passed
pub passed : (bytes₀ : List ℕ) (at e : ℕ) (bytes : List ℕ) → Sofar bytes₀ at bytes → next_lf at bytes ≡ Some e →
    Sofar bytes₀ (e + 1) (take at bytes ++ (masked_piece (take (e - at) (drop at bytes)) ++ drop e bytes))
passed bytes₀ at e bytes w q =
    let i = at_inside at bytes e q in
    let m = masked_piece (take (e - at) (drop at bytes)) in
    let p = take at bytes ++ m in
    let front : length (take at bytes) ≡ at = length-take-le at bytes w.inside in
    let left : length (drop at bytes) ≡ length bytes - at = length-drop at bytes in
    let piece : length m ≡ e - at = piece_length (take (e - at) (drop at bytes)) ∙ length-take-le (e - at) (drop at bytes) (omega arith) in
    let wide : length (p ++ (lf ∷ [])) ≡ e + 1 = length-append p (lf ∷ []) ∙ ap (λ (n : ℕ). n + 1) (length-append (take at bytes) m ∙ omega arith) in
    let on = drop (e + 1) bytes in
    let after : take at bytes ++ (m ++ drop e bytes) ≡ (p ++ (lf ∷ [])) ++ on =
    sym (append_assoc (take at bytes) m (drop e bytes)) ∙ ap (λ (l : List ℕ). p ++ l) (at_lf at bytes e q) ∙ sym (append_assoc p (lf ∷ []) on) in
    let rest : length on ≡ length bytes - (e + 1) = length-drop (e + 1) bytes in
    let before : take (e + 1) (take at bytes ++ (m ++ drop e bytes)) ≡ p ++ (lf ∷ []) = ap (take (e + 1)) after ∙ take_at (p ++ (lf ∷ [])) on (e + 1) wide in
    let behind : drop (e + 1) (take at bytes ++ (m ++ drop e bytes)) ≡ on = ap (drop (e + 1)) after ∙ drop_at (p ++ (lf ∷ [])) on (e + 1) wide in
    let whole : length (take at bytes ++ (m ++ drop e bytes)) ≡ length bytes = ap length after ∙ length-append (p ++ (lf ∷ [])) on ∙ omega arith in
    record {
      inside = omega arith;
      same_length = whole ∙ w.same_length;
      done =
          ap₂ (λ (a b : List ℕ). a ++ masked_file b) before behind ∙
          append_assoc p (lf ∷ []) (masked_file on) ∙
          append_assoc (take at bytes) m (lf ∷ masked_file on) ∙
          ap (λ (l : List ℕ). take at bytes ++ l) (sym (first_masked at bytes e q)) ∙
          w.done;
      counted = ap (λ (l : List ℕ). (e + 1) + finished_in l) behind ∙ sym (first_finished at bytes e q) ∙ w.counted;
    }

-- where nothing of what is left is masked or finished, all is done
pub finished : (bytes₀ : List ℕ) (at : ℕ) (bytes : List ℕ) → Sofar bytes₀ at bytes → masked_file (drop at bytes) ≡ drop at bytes → finished_in (drop at bytes) ≡ 0 →
    MasksLines bytes₀ at bytes
finished bytes₀ at bytes w e z =
    record {
      counts = (let n = w.counted in omega arith);
      leaves = sym (take-append-drop at bytes) ∙ ap (λ (l : List ℕ). take at bytes ++ l) (sym e) ∙ w.done;
    }
