-- The hidden places of a card field, and its hidden digits.
use Rattle.std.specs.Prelude.{ℕ, ◌+◌, ◌-◌, ◌≡◌, List, Bool, cond, ◌&&◌, length, get_or, leb, ltb}
use Rattle.text.specs.Alphabet.{digit}
use Rattle.pan.specs.declared.Places.{Places}
use Rattle.pan.specs.CardField.{well_formed, leading_zeros, valid_characters}

-- of n valid characters, how many stay in front:
-- "With 16 or more, the first six and last four stay; with 13 to 15, the first four and last four stay; with fewer, all stay"
abbrev pub shown_in_front : ℕ → ℕ
shown_in_front n = cond (leb 16 n) 6 (cond (leb 13 n) 4 n)

-- and how many behind those
abbrev pub shown_at_end : ℕ → ℕ
shown_at_end n = cond (leb 13 n) 4 0

-- "Any other valid place is a hidden place"; "It counts only in .. a well-formed card field"
unfoldable pub hidden_places : List ℕ → Places
hidden_places s =
    let valid = length (valid_characters s) in
    cond (well_formed s)
    (record { from = leading_zeros s + shown_in_front valid; to = length s - shown_at_end valid })
    (record { from = 0; to = 0 })

-- whether a place is one of these
abbrev pub is_among : Places → ℕ → Bool
is_among places i = leb places.from i && ltb i places.to

-- whether a place of the field is hidden
abbrev pub hidden_place : List ℕ → ℕ → Bool
hidden_place s = is_among (hidden_places s)

-- "a hidden place, and a digit there a hidden digit"
abbrev pub hidden_digit : List ℕ → ℕ → Bool
hidden_digit s i = hidden_place s i && digit (get_or s i 0)

-- the same places are hidden in two fields
abbrev pub SameHiddenPlaces : List ℕ → List ℕ → Type 0
SameHiddenPlaces s t = (i : ℕ) → hidden_place s i ≡ hidden_place t i
