-- Laws of looking a number up in a list of causes, from a row of it on: a row that has it, one that has not, and none left.
use Prim.Native.Nat.{ℕ, ◌+◌, ◌≤◌, ◌<◌}
use mathlib.Core.Path.{◌≡◌}
use mathlib.Core.List.{List}
use native.Mathlib.Numerals.{add-one}
use lib.ListN.{length, get_or, drop, drop_of_length-le}
use lib.Seq.{drop-cons}
use borrow.Author.Tests.{eq-eqb, ne_eqb}
use Rattle.refusal.specs.declared.Cause.{Cause}
use Rattle.refusal.specs.RefusalList.{number_of, numbered}

pub found : (cs : List Cause) (row n : ℕ) (d : Cause) → row < length cs → number_of (get_or cs row d) ≡ n → numbered n (drop row cs) d ≡ get_or cs row d
found cs row n d l e = rw (drop-cons cs row d l, eq-eqb _ _ e)

pub passed : (cs : List Cause) (row n : ℕ) (d : Cause) → row < length cs → (number_of (get_or cs row d) ≡ n → ⊥) →
    numbered n (drop row cs) d ≡ numbered n (drop (row + 1) cs) d
passed cs row n d l e = rw (drop-cons cs row d l, ne_eqb _ _ e, add-one)

pub ended : (cs : List Cause) (row n : ℕ) (d : Cause) → length cs ≤ row → numbered n (drop row cs) d ≡ d
ended cs row n d l = rw (drop_of_length-le cs l)
