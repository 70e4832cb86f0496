-- A refusal of its three numbers, and one that stands in a row of numbers.
use Rattle.std.specs.Prelude.{ℕ, ◌+◌, List, get_or}
use Rattle.refusal.specs.declared.Refusal.{Refusal}
use Rattle.refusal.specs.RefusalList.{cause_numbered}

-- a number that the list does not have is its first
abbrev pub refusal_of : ℕ → ℕ → ℕ → Refusal
refusal_of number at column = record { cause = cause_numbered number; «record» = at; column = column }

-- the refusal from number k on
abbrev pub refusal_from : ℕ → List ℕ → Refusal
refusal_from k l = refusal_of (get_or l k 0) (get_or l (k + 1) 0) (get_or l (k + 2) 0)
