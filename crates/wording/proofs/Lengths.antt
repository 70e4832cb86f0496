-- How long texts can be: a number has at most 20 digits.
use Prim.Native.Nat.{ℕ, zero, suc, ◌+◌, ◌/◌, ◌%◌, ◌≤◌}
use mathlib.Core.List.{List, [], ◌∷◌, ◌++◌}
use mathlib.Core.Bool.{Bool, true, false, cond}
use native.Mathlib.Omega.{arith}
use lib.Dec.{ltb}
use lib.ListN.{length, length-append}
use Rattle.text.specs.Literal.{ascii}
use Rattle.wording.specs.Number.{digits_within, decimal_of}
use Rattle.wording.specs.Line.{word_of, line_of, refused_line}
use Rattle.refusal.specs.declared.Refusal.{Refusal}
use Rattle.refusal.specs.RefusalList.{number_of}

-- either of two texts
pub either : (test : Bool) (s t : List ℕ) (n : ℕ) → length s ≤ n → length t ≤ n → length (cond test s t) ≤ n
either true s t n h k = h
either false s t n h k = k

pub digits_short : (places n : ℕ) → length (digits_within places n) ≤ places
unfolding digits_within
digits_short zero n = omega arith
digits_short (suc places) n =
    either (ltb n 10) _ _ (suc places) (omega arith)
    (omega (arith, length-append (digits_within places (n / 10)) ((48 + n % 10) ∷ []), digits_short places (n / 10)))

pub word_short : (name : List ℕ) (n : ℕ) → length (word_of name n) ≤ length name + 21
unfolding word_of
word_short name n = omega (arith, length-append name (ascii " " ++ decimal_of n), digits_short 20 n)

pub line_short : (name : List ℕ) (n : ℕ) → length (line_of name n) ≤ length name + 22
unfolding line_of
line_short name n = omega (arith, length-append (word_of name n) (ascii "\n"), word_short name n)

pub refused_short : (r : Refusal) → length (refused_line r) ≤ 85
unfolding refused_line
refused_short r =
    omega (
      arith,
      length-append (word_of (ascii "REFUSED") (number_of r.cause)) (word_of (ascii " RECORD") r.«record» ++ line_of (ascii " COLUMN") r.column),
      length-append (word_of (ascii " RECORD") r.«record») (line_of (ascii " COLUMN") r.column),
      word_short (ascii "REFUSED") (number_of r.cause),
      word_short (ascii " RECORD") r.«record»,
      line_short (ascii " COLUMN") r.column,
    )
