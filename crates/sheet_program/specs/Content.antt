-- What is promised of a file that was loaded: the bytes that are counted lie within the room.
use Rattle.std.specs.Prelude.{ℕ, ◌≤◌, Result, Ok, Err}
use Rattle.program.specs.OfTheFiles.{OfTheFiles}
use Rattle.program.specs.declared.mistake.Mistake.{Mistake}

abbrev pub ContentWithin : ℕ → Result ℕ Mistake → Type 0
ContentWithin size (Ok n) = n ≤ size
ContentWithin size (Err mistake) = OfTheFiles mistake
