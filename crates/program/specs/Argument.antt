-- What is promised of an argument: the bytes that are counted stand at the start of the room. That they are the argument's is the system call's affair.
use Rattle.std.specs.Prelude.{ℕ, ◌≡◌, List, cond, eqb, Result, Ok, Err}
use Rattle.io.specs.Counts.{IsPrefixLen}
use Rattle.program.specs.declared.mistake.Mistake.{Mistake}
use Rattle.program.specs.declared.mistake.Mistake.TheVariants.{TooLong}

-- so many bytes, or that it is too long for its room
abbrev pub Argument : Type 0
Argument = Result ℕ Mistake

-- of one that is longer than its room the system counts no bytes, and leaves the error 36
abbrev pub argument_of : ℕ → ℕ → Argument
argument_of size error = cond (eqb error 36) (Err TooLong) (Ok size)

-- what was read lies within the room
abbrev pub GivenIn : List ℕ → Argument → Type 0
GivenIn room (Ok n) = IsPrefixLen n room
GivenIn room (Err mistake) = mistake ≡ TooLong

-- the same of three arguments, each in its own
abbrev pub ThreeIn : List ℕ → List ℕ → List ℕ → Result (ℕ × ℕ × ℕ) Mistake → Type 0
ThreeIn first second third (Ok (k, m, n)) = IsPrefixLen k first × IsPrefixLen m second × IsPrefixLen n third
ThreeIn first second third (Err mistake) = mistake ≡ TooLong
