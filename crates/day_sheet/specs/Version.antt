-- The two versions of a day sheet.
use Rattle.std.specs.Prelude.{ℕ}
use Rattle.day_sheet.specs.declared.layout.Version.{Version}
use Rattle.day_sheet.specs.declared.layout.Version.TheVariants.{One, Two}

-- the number that a sheet carries
abbrev pub number_of : Version → ℕ
number_of One = 1
number_of Two = 2

-- "52 bytes", and "Version 2 is 81 bytes"
abbrev pub width_of : Version → ℕ
width_of One = 52
width_of Two = 81

-- how many places its table has
abbrev pub places_of : Version → ℕ
places_of One = 9
places_of Two = 14
