-- The numbers of an adjustment, where document 003 prints them.
use Rattle.std.specs.Prelude.{ℕ, List}
use Rattle.card_kept.specs.Fields.{number_at}

-- field 12, 76: "1 = Ajuste a Crédito 2 = Ajuste a Débito"
abbrev pub adjustment_type : List ℕ → ℕ
adjustment_type r = number_at 76 76 r

-- fields 15 to 17: gross 110-120, discount 121-131, net 132-142
abbrev pub adjustment_gross : List ℕ → ℕ
adjustment_gross r = number_at 110 120 r

abbrev pub adjustment_discount : List ℕ → ℕ
adjustment_discount r = number_at 121 131 r

abbrev pub adjustment_net : List ℕ → ℕ
adjustment_net r = number_at 132 142 r
