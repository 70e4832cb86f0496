-- `sale_field::place` meets its contract: an offered field begins before its first position, and a refusal's part at 0.
use mathlib.Core.Path.{sym, ◌∙◌, ap}
use Prim.Native.Nat.{◌-◌}
use Rattle.refusal.proofs.Rows.{told}
use Rattle.card_content.specs.declared.field.Field.{Field}
use Rattle.sale_field.proofs.Offers.{in_range, is_sale_lem, is_place, in_front_lem}
use Rattle.sale_field.proofs.Ends.{some_place, place_is}
use Rattle.sale_field.proofs.place.Goals as goal

pub numbered-requires : goal.numbered-requires
numbered-requires c = in_range _ _ (told c.field_answer.ensures c.in-Ok.is)

pub overflow_sub-result : goal.overflow_sub-result
overflow_sub-result c =
    let range = in_range _ _ (told c.field_answer.ensures c.in-Ok.is) in
    rw c.numbered.ensures (some_place _ range.0 range.1)

pub returns-in-Ok : goal.returns-in-Ok
returns-in-Ok c =
    let offered = told c.field_answer.ensures c.in-Ok.is in
    let range = in_range _ _ offered in
    ap (λ (f : Field). f.0 - 1) c.numbered.ensures ∙ place_is _ range.0 range.1 ∙
    sym (rw (is_sale_lem _ _ offered).1 at (is_place _ _ offered))

pub returns-in-Err : goal.returns-in-Err
returns-in-Err c = sym (in_front_lem _ _ _ (told c.field_answer.ensures c.in-Err.is))
