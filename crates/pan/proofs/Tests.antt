-- A proof by the two cases of a test, with the equation of each.
use mathlib.Core.Path.{◌≡◌, refl}
use mathlib.Core.Bool.{Bool, true, false}

pub by_test : {A : Type 0} (b : Bool) → (b ≡ true → A) → (b ≡ false → A) → A
by_test true yes-case no-case = yes-case refl
by_test false yes-case no-case = no-case refl
