-- The decision between two reads: what the system's answer means, and where reading stands after the answers of many.
use Rattle.std.specs.Prelude.{ℕ, min, ◌≡◌, List, [], ◌∷◌, ◌++◌, cond, ℤ, pos, negsuc, eqb, None, Some, Ok, Err}
use Rattle.files.specs.Loaded.{Got}

-- so many bytes were moved; none is the end
abbrev pub moved_of : ℕ → Got
moved_of n = cond (eqb n 0) (Ok None) (Ok (Some n))

-- a negative answer is a failure, and so is a read for which there is no room, which says nothing of the end
unfoldable pub got_of : ℤ → ℕ → ℕ → Got
got_of (negsuc k) error room = Err error
got_of (pos k) error room = cond (eqb room 0) (Err error) (moved_of (min k room))

-- one read: the system's answer, the error that it left, and the room that there was
pub record Read : Type 0 where
  pub answer : ℤ
  pub error : ℕ
  pub room : ℕ

abbrev pub meaning : Read → Got
meaning r = got_of r.answer r.error r.room

-- where reading stands after many reads: the first that moves no byte decides, and nothing after it is asked
abbrev pub onwards : Got → Got → Got
onwards (Ok (Some n)) later = later
onwards (Ok None) later = Ok None
onwards (Err error) later = Err error

unfoldable pub stands_after : Got → List Read → Got
stands_after now [] = now
stands_after now (r ∷ reads) = stands_after (onwards now (meaning r)) reads

-- every read moved bytes
unfoldable pub AllMoved : List Read → Type 0
AllMoved [] = Unit {0}
AllMoved (r ∷ reads) = ((n : ℕ) × (meaning r ≡ Ok (Some n))) × AllMoved reads

-- some reads in a row end the file: all before the last moved bytes, and the last, for which there was room, moved none and did not fail
pub record Ended (reads : List Read) : Type 0 where
  pub before : List Read
  pub last : Read
  pub after : List Read
  pub in_a_row : reads ≡ before ++ (last ∷ after)
  pub all_moved : AllMoved before
  pub no_failure : last.answer ≡ pos 0
  pub some_room : last.room ≡ 0 → ⊥
