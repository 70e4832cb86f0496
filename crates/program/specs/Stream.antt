-- A file that is judged as its bytes come, over any way to take them.
use Rattle.std.specs.Prelude.{ℕ, ◌≡◌, Bool, cond, None, Some, Result, Ok, Err}
use mathlib.Core.List.{List, foldl}
use Rattle.files.specs.Loaded.{Got}
use Rattle.program.specs.declared.mistake.Failed.TheVariants.{Read}
use Rattle.program.specs.declared.mistake.Mistake.{Mistake}
use Rattle.program.specs.declared.mistake.Mistake.TheVariants.{System}

-- a stream that has taken some chunks
pub record Taken {S : Type 0} (take : S → List ℕ → S) (start stream : S) : Type 0 where
  pub chunks : List (List ℕ)
  pub so_far_lem : stream ≡ foldl take start chunks

-- at the end of the file its end; a failed read is not the end; and where bytes came, the end only if no further byte can change the answer
abbrev pub at_end : {S : Type 0} → (S → S) → (S → Bool) → Got → S → Result S Mistake
at_end ended_of is_decided (Ok None) stream = Ok (ended_of stream)
at_end ended_of is_decided (Ok (Some n)) stream = cond (is_decided stream) (Ok (ended_of stream)) (Err (System Read 0))
at_end ended_of is_decided (Err error) stream = Err (System Read error)
