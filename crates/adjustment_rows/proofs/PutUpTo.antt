-- A text that a loop puts part by part: a front of it is put, and the rest is still to come.
use Prim.Native.Nat.{ℕ, ◌≤◌}
use mathlib.Core.Path.{◌≡◌, refl, sym, ◌∙◌, ap}
use mathlib.Core.List.{List, [], ◌++◌, append-nil, append_assoc}
use native.Mathlib.Omega.{arith}
use lib.ListN.{length}
use Rattle.wording.specs.Put.{Puts}
use Rattle.wording.proofs.Putting.{same_length, none, both, reworded}

-- what is put ends within the buffer, which keeps its length
pub kept : {text before after : List ℕ} {at end : ℕ} → Puts text before at end after → length after ≡ length before
kept {text} {before} {at = at} p = ap length p.leaves ∙ same_length at text before

pub within : {text before after : List ℕ} {at end : ℕ} → Puts text before at end after → end ≤ length after
within p = omega (arith, p.ends, kept p)

pub record PutUpTo (text rest before : List ℕ) (at end : ℕ) (after : List ℕ) : Type 0 where
  pub front : List ℕ
  pub puts : Puts front before at end after
  pub whole : front ++ rest ≡ text

-- all is still to come
pub begun : {text before : List ℕ} {at : ℕ} → at ≤ length before → PutUpTo text text before at at before
begun {before = before} {at = at} h = record { front = []; puts = record { ends = omega arith; leaves = sym (none at before) }; whole = refl }

-- one part more
pub one_more : {text part rest before b after : List ℕ} {at m end : ℕ} → PutUpTo text (part ++ rest) before at m b → Puts part b m end after →
    PutUpTo text rest before at end after
one_more {part = part} {rest = rest} w p =
    record { front = w.front ++ part; puts = both w.puts p; whole = append_assoc w.front part rest ∙ w.whole }

-- the same rest in other words
pub still : {text rest other before after : List ℕ} {at end : ℕ} → rest ≡ other → PutUpTo text rest before at end after → PutUpTo text other before at end after
still e w = record { front = w.front; puts = w.puts; whole = ap (λ (l : List ℕ). w.front ++ l) (sym e) ∙ w.whole }

-- no part is left
pub all_put : {text before after : List ℕ} {at end : ℕ} → PutUpTo text [] before at end after → Puts text before at end after
all_put w = reworded (sym (append-nil w.front) ∙ w.whole) w.puts
