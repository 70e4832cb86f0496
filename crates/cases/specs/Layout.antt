-- That a case takes at least one byte: its part's length, or those of a part that has a size of its own.
use Rattle.std.specs.Prelude.{ℕ, ◌<◌, Option, None, Some}

abbrev pub HasBytes : Option ℕ → Type 0
HasBytes None = Unit {0}
HasBytes (Some size) = 0 < size
