-- The last '/' of a path, and the size of its folder.
use Prim.Native.Nat.{ℕ, zero, suc, ◌+◌, ◌≤◌, ◌<◌}
use mathlib.Core.Path.{◌≡◌, refl, sym}
use mathlib.Core.List.{List, [], ◌∷◌}
use mathlib.Core.Bool.{Bool, true, false, cond}
use native.Mathlib.Omega.{arith}
use lib.ListN.{length, get_or, length-take}
use lib.Dec.{eqb, ltb}
use borrow.Author.Tests.{lt-ltb, eq-eqb, ne_eqb}
use Rattle.out_file.specs.Beside.{folder_size, folder_of}

-- no '/': no folder
pub no_slash : (s : List ℕ) → ((k : ℕ) → k < length s → get_or s k 0 ≡ 47 → ⊥) → 0 ≡ folder_size s
unfolding folder_size
no_slash [] other = refl
no_slash (b ∷ s) other =
    let rest : folder_size s ≡ 0 = sym (no_slash s (λ k h. other (suc k) (omega arith))) in
    rw (rest, ne_eqb b 47 (other 0 (omega arith))) refl

-- the last '/': all up to it, and with it
pub last_slash : (s : List ℕ) (i : ℕ) → i < length s → get_or s i 0 ≡ 47 → ((k : ℕ) → i + 1 ≤ k → k < length s → get_or s k 0 ≡ 47 → ⊥) → i + 1 ≡ folder_size s
unfolding folder_size
last_slash [] i h is other = absurd (omega arith)
last_slash (b ∷ s) zero h is other =
    let rest : folder_size s ≡ 0 = sym (no_slash s (λ k h. other (suc k) (omega arith) (omega arith))) in
    rw (rest, eq-eqb b 47 is) refl
last_slash (b ∷ s) (suc i) h is other =
    let rest : i + 1 ≡ folder_size s = last_slash s i (omega arith) is (λ k h l. other (suc k) (omega arith) (omega arith)) in
    rw (lt-ltb 0 (folder_size s) (omega arith)) (omega arith)

-- a folder is no longer than its path
within : (t u : Bool) (n m : ℕ) → n ≤ m → cond t (suc n) (cond u 1 0) ≤ suc m
within true u n m h = omega arith
within false true n m h = omega arith
within false false n m h = omega arith

pub folder_within : (s : List ℕ) → folder_size s ≤ length s
unfolding folder_size
folder_within [] = omega arith
folder_within (b ∷ s) = within (ltb 0 (folder_size s)) (eqb b 47) (folder_size s) (length s) (folder_within s)

pub folder_short : (s : List ℕ) → length (folder_of s) ≤ 4096
folder_short s = simp length-take (omega arith)
