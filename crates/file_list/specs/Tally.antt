-- "a line with how many were accepted, refused and unreadable".
use Rattle.std.specs.Prelude.{ℕ, ◌≡◌, length}
use mathlib.Core.List.{List, [], ◌∷◌, ◌++◌, map, foldl}
use Rattle.text.specs.Literal.{ascii}
use Rattle.totals.specs.Sum.{capped}
use Rattle.wording.specs.Line.{word_of, line_of}
use Rattle.file_list.specs.declared.tally.Said.{Said}
use Rattle.file_list.specs.declared.tally.Said.TheVariants.{Accepted, Refused, Unreadable}
use Rattle.file_list.specs.declared.tally.Tally.{Tally}

abbrev pub no_file : Tally
no_file = record { files = 0; accepted = 0; refused = 0; unreadable = 0 }

-- one file more; all numbers stay at the top of 64 bits
unfoldable pub one_file_more : Tally → Said → Tally
one_file_more t Accepted =
    record { files = capped t.files 1; accepted = capped t.accepted 1; refused = t.refused; unreadable = t.unreadable }
one_file_more t Refused =
    record { files = capped t.files 1; accepted = t.accepted; refused = capped t.refused 1; unreadable = t.unreadable }
one_file_more t Unreadable =
    record { files = capped t.files 1; accepted = t.accepted; refused = t.refused; unreadable = capped t.unreadable 1 }

-- of what was said of each file in turn
abbrev pub tally_of : List Said → Tally
tally_of said = foldl one_file_more no_file said

-- `FILES 3 ACCEPTED 1 REFUSED 1 UNREADABLE 1`
unfoldable pub tally_line : Tally → List ℕ
tally_line t =
    word_of (ascii "FILES") t.files ++
    (word_of (ascii " ACCEPTED") t.accepted ++ (word_of (ascii " REFUSED") t.refused ++ line_of (ascii " UNREADABLE") t.unreadable))

-- all of a list
unfoldable pub Each : {A : Type 0} → (A → Type 0) → List A → Type 0
Each Allowed [] = Unit {0}
Each Allowed (a ∷ others) = Allowed a × Each Allowed others

-- a tally of so many outcomes, each of them one that is allowed
pub record Tallied {A : Type 0} (said : A → Said) (Allowed : A → Type 0) (count : ℕ) (tally : Tally) : Type 0 where
  pub outcomes : List A
  pub as_many : length outcomes ≡ count
  pub each : Each Allowed outcomes
  pub counted : tally ≡ tally_of (map said outcomes)
