-- A call of a case: a length and so many bytes, a record; or the largest length of four bytes, a close.
use Rattle.std.specs.Prelude.{ℕ, List, cond, eqb}
use Rattle.card_run.specs.declared.running.Running.{Running}
use Rattle.card_run.specs.Running.{closed_of}
use Rattle.card_file.specs.Feeding.{fed_of}

abbrev pub called_of : ℕ → Running → List ℕ → Running
called_of length st bytes = cond (eqb length 4294967295) (closed_of st) (fed_of st bytes)
