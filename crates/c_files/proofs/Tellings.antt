-- What writing a sheet answers, told as C asks it, where the sheet is named by an equation; and the sheet of numbers with zeros behind them is that of the numbers.
use Prim.Native.Nat.{ℕ, zero, suc}
use mathlib.Core.Path.{◌≡◌, refl, ◌∙◌, ap₂}
use mathlib.Core.List.{List, [], ◌∷◌, ◌++◌}
use lib.ListN.{get_or, drop, replicate}
use Rattle.sheet_numbers.specs.declared.sheet.Sheet.{Sheet}
use Rattle.sheet_numbers.specs.declared.sheet.Sheet.TheVariants.{Version1, Version2}
use Rattle.day_sheet.specs.declared.layout.Version.{Version}
use Rattle.day_sheet.specs.declared.layout.Version.TheVariants.{One, Two}
use Rattle.day_sheet.specs.Sheet.{sheet_of}
use Rattle.day_sheet.specs.Writing.{SheetWritten, Writes}
use Rattle.answer_rows.specs.Sheet.{written_numbers}
use Rattle.c_files.specs.Told.{Told}

-- zeros behind numbers are what stands behind the last of them anyway
abbrev pub zeros : ℕ → List ℕ
zeros m = replicate m 0

zeros_at : (m k j : ℕ) → get_or (drop k (zeros m)) j 0 ≡ 0
zeros_at zero zero j = refl
zeros_at zero (suc k) j = refl
zeros_at (suc m) zero zero = refl
zeros_at (suc m) zero (suc j) = zeros_at m zero j
zeros_at (suc m) (suc k) j = zeros_at m k j

behind : (ns : List ℕ) (m k j : ℕ) → get_or (ns ++ drop k (zeros m)) j 0 ≡ get_or ns j 0
behind [] m k j = zeros_at m k j
behind (n ∷ ns) m k zero = refl
behind (n ∷ ns) m k (suc j) = behind ns m k j

-- a sheet's numbers stand behind the first
same_sheet : (v : Version) (x y : ℕ) (a b : List ℕ) → ((j : ℕ) → get_or a j 0 ≡ get_or b j 0) → sheet_of v (x ∷ a) ≡ sheet_of v (y ∷ b)
same_sheet One x y a b h =
    λ i.
    Version1
    (record { edition = h 0 i; date = h 1 i; movement = h 2 i; batches = h 3 i })
    (record { sales = h 4 i; amounts = record { gross = h 5 i; discount = h 6 i; net = h 7 i } })
same_sheet Two x y a b h =
    λ i.
    Version2
    (record { edition = h 0 i; date = h 1 i; movement = h 2 i; batches = h 3 i })
    (h 8 i)
    (record {
      forecast = record { sales = h 9 i; amounts = record { gross = h 10 i; discount = h 11 i; net = h 12 i } };
      settled = record { sales = h 4 i; amounts = record { gross = h 5 i; discount = h 6 i; net = h 7 i } };
    })

pub with_zeros : (v : Version) (number : ℕ) (ns : List ℕ) (k : ℕ) {s : Sheet} {new rest : List ℕ} →
    s ≡ sheet_of v (0 ∷ (new ++ rest)) → new ≡ ns → rest ≡ drop k (zeros 14) → s ≡ sheet_of v (number ∷ ns)
with_zeros v number ns k e n r =
    e ∙ ap₂ (λ (new rest : List ℕ). sheet_of v (0 ∷ (new ++ rest))) n r ∙ same_sheet v 0 number _ ns (behind ns 14 k)

pub written : {s t : Sheet} {out row after : List ℕ} {answer : SheetWritten} → row ≡ written_numbers answer → s ≡ t → Writes s out answer after →
    Told written_numbers (Writes t out) row after
written in_row same writes = record { answer = _; in_row = in_row; as_promised = rw same at writes }
