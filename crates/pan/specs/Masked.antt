-- A field with a star at each hidden place.
use Rattle.std.specs.Prelude.{ℕ, suc, List, [], ◌∷◌, Bool, cond}
use Rattle.pan.specs.HiddenPlaces.{hidden_place}

-- a star, byte 42, at each place that a test picks out; every other byte as it stands
unfoldable pub star_where : (ℕ → Bool) → List ℕ → List ℕ
star_where picks [] = []
star_where picks (b ∷ s) = cond (picks 0) 42 b ∷ star_where (λ i. picks (suc i)) s

-- "with a star at each such place"
abbrev pub masked : List ℕ → List ℕ
masked s = star_where (hidden_place s) s
