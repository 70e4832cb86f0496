-- Document 01's example, "A0, L0, one cash CV with 10000, 250, 9750, L9, A9", record by record; and a credit in its sale's place.
use Rattle.std.specs.Prelude.{ℕ, List, [], ◌∷◌, ◌++◌}
use Prim.Native.String.{String}
use Rattle.text.specs.Literal.{ascii}
use Rattle.lines.specs.Lines.{joined}

abbrev pub a0 : List ℕ
a0 = ascii "A0001.7d20240229120000000001LOSSIVURN                     0001000001N000001"

abbrev pub l0 : List ℕ
l0 = ascii "L020240229RE000002"

-- a cash sale, 199 bytes: "sale gross 55-65, discount 66-76, net 77-87", card 88-106; no instalment, and its NSEQ is 3
abbrev pub cash_sale : String → String → String → String → List ℕ
cash_sale gross discount net card =
    ascii "CVSTORE          00000000000120240229113000120240330C1" ++
    (ascii gross ++
    (ascii discount ++
    (ascii net ++
    (ascii card ++
    ascii "0000000000000000000000000000000000000000000000000422000001          1000000000001001001000003"))))

abbrev pub sale_with : String → List ℕ
sale_with card = cash_sale "00000010000" "00000000250" "00000009750" card

-- an adjustment of 1000, 25, 975, 193 bytes: its type at 76, 1 credit or 2 debit, its card at 163-181
abbrev pub adjustment : String → String → String → List ℕ
adjustment code card nseq =
    ascii "AJSTORE          0000000000012024022900000000000002202403011130001202403301" ++
    (ascii code ++
    (ascii "001REFUND                        000000010000000000002500000000975422000001          1" ++
    (ascii card ++
    (ascii "001001" ++
    ascii nseq))))

abbrev pub l9 : List ℕ
l9 = ascii "L900000100000000010000000004"

abbrev pub a9 : List ℕ
a9 = ascii "A9000005000005"

-- the file with a sale
abbrev pub file_of : List ℕ → List ℕ
file_of sale = joined (a0 ∷ l0 ∷ sale ∷ l9 ∷ a9 ∷ [])

-- the file with a credit of this card, and of its net in L9
abbrev pub credit_file_of : String → List ℕ
credit_file_of card = joined (a0 ∷ l0 ∷ adjustment "1" card "000003" ∷ ascii "L900000100000000000975000004" ∷ a9 ∷ [])
