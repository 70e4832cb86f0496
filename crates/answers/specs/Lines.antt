-- What the contracts of `lines` are held to. Behind a function's name: the wrong programs that are ruled out.
use Rattle.std.specs.Prelude.{true, false, Some}
use Rattle.text.specs.Literal.{ascii}
use base.Fml.{Lft}
use Rattle.lines.specs.contracts.next_lf as NextLf
use Rattle.lines.specs.contracts.ends_in_cr as EndsInCr
use Rattle.lines.specs.contracts.without_last as WithoutLast
use borrow.Fn.Read.{r_last}
use Rattle.answers.specs.Held.{Claim, fact_of, logic, memory, run, OneAnswer, OnePart, Tells, lent, part, one}

-- what each contract says
abbrev NextLfSays : Claim NextLf.ended
NextLfSays κs a r s = fact_of ((NextLf.clauses logic memory run κs a).ensures tt r s) (r_last _)

abbrev EndsInCrSays : Claim EndsInCr.ended
EndsInCrSays κs a r s = fact_of ((EndsInCr.clauses logic memory run κs a).ensures tt r s) (r_last _)

abbrev WithoutLastSays : Claim WithoutLast.ended
WithoutLastSays κs a r s = fact_of ((WithoutLast.clauses logic memory run κs a).ensures tt r s) (r_last _)

pub record Lines (κ : Lft) : Type 0 where
  -- `next_lf`: a search from the start; a place counted from there; a CR taken for it
  pub next_lf_lem : OneAnswer NextLfSays
  pub next_lf_start : Tells (NextLfSays (one κ)) (lent (ascii "a\nbc\n"), (2, tt)) (Some 4) (Some 1)
  pub next_lf_counted : Tells (NextLfSays (one κ)) (lent (ascii "a\nbc\n"), (2, tt)) (Some 4) (Some 2)
  pub next_lf_cr : Tells (NextLfSays (one κ)) (lent (ascii "a\rb\n"), (0, tt)) (Some 3) (Some 1)
  -- `ends_in_cr`: a CR anywhere; no byte at all
  pub ends_in_cr_lem : OneAnswer EndsInCrSays
  pub ends_in_cr_anywhere : Tells (EndsInCrSays (one κ)) (lent (ascii "a\rb"), tt) false true
  pub ends_in_cr_nothing : Tells (EndsInCrSays (one κ)) (lent (ascii ""), tt) false true
  -- `without_last`: without the first; other bytes with the same content
  pub without_last_lem : OnePart WithoutLastSays
  pub without_first : Tells (WithoutLastSays (one κ)) (lent (ascii "ab\r"), tt) (part 0 (ascii "ab")) (part 1 (ascii "b\r"))
  pub without_last_elsewhere : Tells (WithoutLastSays (one κ)) (lent (ascii "aa"), tt) (part 0 (ascii "a")) (part 1 (ascii "a"))
