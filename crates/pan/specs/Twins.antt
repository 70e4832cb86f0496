-- Two card fields that are told apart by hidden digits only.
use Rattle.std.specs.Prelude.{ℕ, List, ◌&&◌}
use Rattle.pan.specs.HiddenPlaces.{hidden_digit}
use Rattle.pan.specs.AgreeOutside.{AgreeOutside}

-- "compared .. byte for byte outside the hidden digits": at each place the same byte, or a hidden digit of both
abbrev pub Twins : List ℕ → List ℕ → Type 0
Twins s t = AgreeOutside (λ i. hidden_digit s i && hidden_digit t i) s t
