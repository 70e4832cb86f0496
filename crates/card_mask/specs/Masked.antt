-- The masked copy of a file: "rewritten in the card's part of the copy and nowhere else".
use Rattle.std.specs.Prelude.{ℕ, ◌+◌, ◌≡◌, List, [], ◌∷◌, ◌++◌, map, cond, take, drop, None, Option, Some}
use Rattle.pan.specs.Masked.{masked}
use Rattle.lines.specs.Lines.{cr, cut, rejoined, ends_in_cr, without_last, finished_in}
use Rattle.card_record.specs.CardPart.{card_part, card_from}

-- a record with its card masked, where it has one
unfoldable pub masked_at : Option ℕ → List ℕ → List ℕ
masked_at None r = r
masked_at (Some k) r = take k r ++ (masked (card_from k r) ++ drop (k + 19) r)

abbrev pub masked_record : List ℕ → List ℕ
masked_record r = masked_at (card_part r) r

-- a piece before an LF is a record where a CR ends it
abbrev pub masked_piece : List ℕ → List ℕ
masked_piece p = cond (ends_in_cr p) (masked_record (without_last p) ++ (cr ∷ [])) p

-- every record of a file masked
abbrev pub masked_file : List ℕ → List ℕ
masked_file file = rejoined (map masked_piece (cut file).pieces) (cut file).rest

-- masking the records in some bytes, where they stand: what it answers and leaves
pub record MasksLines (bytes : List ℕ) (answer : ℕ) (after : List ℕ) : Type 0 where
  pub counts : answer ≡ finished_in bytes
  pub leaves : after ≡ masked_file bytes
