-- `sale_field::field` meets its contract: the answer decides between the field's part and an empty one.
use mathlib.Core.Path.{refl, sym}
use native.Mathlib.Omega.{arith}
use Rattle.refusal.proofs.Rows.{told}
use Rattle.sale_field.proofs.Offers.{in_range, is_field, is_place, is_empty, in_front_lem}
use Rattle.sale_field.proofs.field.Goals as goal

pub numbered-requires : goal.numbered-requires
numbered-requires c = in_range _ _ (told c.field_answer.ensures c.in-Ok.is)

pub returns-in-Ok : goal.returns-in-Ok
returns-in-Ok c =
    let offered = told c.field_answer.ensures c.in-Ok.is in
    rw (c.numbered.ensures, ← is_field _ _ offered, ← is_place _ _ offered) at c.part.ensures

pub returns-in-Err : goal.returns-in-Err
returns-in-Err c =
    let refused = told c.field_answer.ensures c.in-Err.is in
    record { holds = sym (is_empty _ _ _ refused); block = refl; begins = omega (arith, in_front_lem _ _ _ refused) }
