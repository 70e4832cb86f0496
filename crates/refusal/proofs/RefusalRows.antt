-- A row of a refusal is of that refusal alone, and no refusal has the row of none: a number names one cause, and is not 0.
use mathlib.Core.Path.{◌≡◌, ap}
use native.Mathlib.Omega.{arith}
use Rattle.refusal.specs.declared.Refusal.{Refusal}
use Rattle.refusal.specs.RefusalList.{number_of}
use Rattle.refusal.specs.Row.{no_refusal, refusal_row}
use Rattle.refusal.proofs.RefusalList.{from_one, injective}

pub same_refusal : (r s : Refusal) → refusal_row r ≡ refusal_row s → r ≡ s
same_refusal r s e =
    let cause = injective r.cause s.cause (ap (λ row. row.number) e) in
    λ i. record { cause = cause i; «record» = (e i).record_number; column = (e i).column }

pub not_none : (r : Refusal) → refusal_row r ≡ no_refusal → ⊥
not_none r e = let zero : number_of r.cause ≡ 0 = ap (λ row. row.number) e in omega (arith, from_one r.cause)
