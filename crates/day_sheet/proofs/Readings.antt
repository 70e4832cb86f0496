-- The cases of reading, by what its tests say, for either version.
use Prim.Native.Nat.{ℕ, ◌-◌, ◌≤◌}
use mathlib.Core.Path.{◌≡◌, refl, sym, ◌∙◌, ap}
use mathlib.Core.List.{List, ◌++◌}
use mathlib.Core.Bool.{Bool, true, false, ◌||◌, false≢true}
use native.Mathlib.Omega.{arith}
use borrow.Author.Tests.{eq-eqb, ne_eqb, eqb-true}
use lib.ListN.{length, get_or, take, drop, replicate}
use lib.Dec.{lit≤, eqb}
use Rattle.std.specs.Prelude.{Ok}
use Rattle.text.specs.Literal.{ascii, same_bytes}
use Rattle.text.proofs.Alphabets.{both_left}
use Rattle.day_sheet.specs.declared.layout.Place.{Place}
use Rattle.day_sheet.specs.declared.layout.Version.{Version}
use Rattle.day_sheet.specs.declared.layout.Version.TheVariants.{One, Two}
use Rattle.sheet_numbers.specs.declared.sheet.Sheet.{Sheet}
use Rattle.day_sheet.specs.Version.{number_of, width_of, places_of}
use Rattle.day_sheet.specs.Layout.{table_of, table_width, from_places, digits_right}
use Rattle.day_sheet.specs.FirstPlaces.{first_places, RoomFor}
use Rattle.day_sheet.specs.Sheet.{sheet_of}
use Rattle.sheet_numbers.specs.Allowed.{sheet_allowed}
use Rattle.day_sheet.specs.Reading.{is_marked, numbers_in, sheet_in, read_as}

-- a version's table is the first places of the longer one, and its bytes have room for them
pub its_places : (v : Version) → first_places (places_of v) ≡ table_of v
its_places One = refl
its_places Two = refl

pub room_for : (v : Version) (s : List ℕ) → length s ≡ width_of v → RoomFor (places_of v) s
unfolding table_width
room_for One s e = (lit≤ tt, omega arith)
room_for Two s e = (lit≤ tt, omega arith)

pub room_in : (v : Version) {n : ℕ} (s : List ℕ) → n ≡ places_of v → length s ≡ width_of v → RoomFor n s
room_in v s e w = rw e (room_for v s w)

-- its numbers with zeros behind them, as they are read
abbrev pub padded : Version → List ℕ → List ℕ
padded v s = numbers_in v s ++ replicate (14 - places_of v) 0

abbrev zeros : List ℕ
zeros = replicate 14 0

-- an array of zeros whose first places, as many as a version has, are filled with its numbers
pub few_places : (v : Version) {n : ℕ} → n ≡ places_of v → n ≤ 14
few_places One e = omega arith
few_places Two e = omega arith

pub prefix_length : (v : Version) {n : ℕ} → n ≡ places_of v → n ≡ length (take n zeros)
prefix_length One e = rw e
prefix_length Two e = rw e

pub prefix_room : (v : Version) {n : ℕ} (s : List ℕ) → n ≡ places_of v → length s ≡ width_of v → RoomFor (length (take n zeros)) s
prefix_room One s e w = rw e (room_for One s w)
prefix_room Two s e w = rw e (room_for Two s w)

pub prefix_filled : (v : Version) {n : ℕ} {ns : List ℕ} (s : List ℕ) → n ≡ places_of v →
    ns ≡ from_places (first_places (length (take n zeros))) (drop 3 s) → ns ++ drop n zeros ≡ padded v s
prefix_filled One s e f = rw (f, e)
prefix_filled Two s e f = rw (f, e)

padded_version : (v : Version) (s : List ℕ) → get_or (padded v s) 0 0 ≡ get_or (numbers_in v s) 0 0
unfolding from_places
padded_version One s = refl
padded_version Two s = refl

padded_sheet : (v : Version) (s : List ℕ) → sheet_of v (padded v s) ≡ sheet_in v s
unfolding from_places
padded_sheet One s = refl
padded_sheet Two s = refl

module _ (v : Version) (s : List ℕ) where
  -- the version, the digits and the sheet that such an array tells of
  pub version_in : {ns : List ℕ} → ns ≡ padded v s → get_or ns 0 0 ≡ get_or (numbers_in v s) 0 0
  version_in e = ap (λ (ns : List ℕ). get_or ns 0 0) e ∙ padded_version v s

  pub sheet_in_lem : {ns : List ℕ} {sheet : Sheet} → ns ≡ padded v s → sheet ≡ sheet_of v ns → sheet ≡ sheet_in v s
  sheet_in_lem e f = f ∙ ap (sheet_of v) e ∙ padded_sheet v s

  pub digits_in : {n : ℕ} → n ≡ places_of v → digits_right (first_places n) (drop 3 s) ≡ digits_right (table_of v) (drop 3 s)
  digits_in e = ap (λ (ps : List Place). digits_right ps (drop 3 s)) (ap first_places e ∙ its_places v)

  pub allowed : get_or (numbers_in v s) 0 0 ≡ number_of v → digits_right (table_of v) (drop 3 s) ≡ true → sheet_allowed (sheet_in v s) ≡ true →
      read_as v s ≡ Ok (sheet_in v s)
  unfolding read_as
  allowed e d a = rw (eq-eqb _ _ e, d, a)

-- the version goes with the length
module _ (s : List ℕ) where
  pub marked_width : is_marked s ≡ true → (length s ≡ 52 → ⊥) → length s ≡ 81
  marked_width m other = by (eqb (length s) 52) (ne_eqb _ _ other) (both_left (eqb (length s) 52 || eqb (length s) 81) (same_bytes (take 3 s) (ascii "DSH")) m)
    where
      by : (b : Bool) → b ≡ false → b || eqb (length s) 81 ≡ true → length s ≡ 81
      by true e f = absurd (false≢true (sym e))
      by false e f = eqb-true _ _ f
