-- The numbers of a sale, where document 01 says that they stand.
use Rattle.std.specs.Prelude.{ℕ, List, cond, ◌&&◌, eqb}
use Rattle.card_kept.specs.Fields.{number_at}

-- "launch type 44 (0 forecast, 1 normal, 2 advanced)"
abbrev pub launch_type : List ℕ → ℕ
launch_type r = number_at 44 44 r

-- "sale gross 55-65, discount 66-76, net 77-87"
abbrev pub sale_gross : List ℕ → ℕ
sale_gross r = number_at 55 65 r

abbrev pub sale_discount : List ℕ → ℕ
sale_discount r = number_at 66 76 r

abbrev pub sale_net : List ℕ → ℕ
sale_net r = number_at 77 87 r

-- "instalment 107-108; instalments 109-110; instalment NSU 111-122"
abbrev pub instalment : List ℕ → ℕ
instalment r = number_at 107 108 r

abbrev pub instalments : List ℕ → ℕ
instalments r = number_at 109 110 r

abbrev pub instalment_nsu : List ℕ → ℕ
instalment_nsu r = number_at 111 122 r

-- "instalment gross 123-133, discount 134-144, net 145-155"
abbrev pub instalment_gross : List ℕ → ℕ
instalment_gross r = number_at 123 133 r

abbrev pub instalment_discount : List ℕ → ℕ
instalment_discount r = number_at 134 144 r

abbrev pub instalment_net : List ℕ → ℕ
instalment_net r = number_at 145 155 r

-- "Payable means the instalment's amounts where there is an instalment, otherwise the sale's"
abbrev payable : (List ℕ → ℕ) → (List ℕ → ℕ) → List ℕ → ℕ
payable of-instalment of_sale r = cond (eqb (instalment r) 0 && eqb (instalments r) 0) (of_sale r) (of-instalment r)

abbrev pub payable_gross : List ℕ → ℕ
payable_gross = payable instalment_gross sale_gross

abbrev pub payable_discount : List ℕ → ℕ
payable_discount = payable instalment_discount sale_discount

abbrev pub payable_net : List ℕ → ℕ
payable_net = payable instalment_net sale_net
