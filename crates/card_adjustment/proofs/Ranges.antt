-- How large the numbers of an adjustment are that the totals and the joined rules need, whatever the record's bytes are.
use Prim.Native.Nat.{ℕ, ◌^◌, ◌<◌}
use mathlib.Core.List.{List}
use Rattle.card_content.specs.declared.content.Content.TheVariants.{Digits}
use Rattle.card_content.specs.Field.{field}
use Rattle.card_content.proofs.Ranges.{number_below}
use Rattle.card_adjustment.specs.declared.aj.Aj.{Aj}
use Rattle.card_adjustment.specs.Aj.{aj_of}

pub record AjBelow (n : Aj) : Type 0 where
  pub net : n.amounts.net < 10 ^ 11
  pub nseq : n.nseq < 10 ^ 6

pub aj_below : (r : List ℕ) → AjBelow (aj_of r)
aj_below r = record { net = number_below (field 132 142 Digits) r; nseq = number_below (field 188 193 Digits) r }
