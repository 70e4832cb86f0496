-- "the card's part": where the card stands in a record, by its kind and its width.
use Rattle.std.specs.Prelude.{ℕ, ◌+◌, List, cond, length, eqb, Option, Some, None}
use Rattle.std.proofs.Math.Seq.{slice}
use Rattle.card_record.specs.declared.kind.Kind.{Kind}
use Rattle.card_record.specs.Kind.{kind_of}
use Rattle.card_record.specs.Reading.{width_of, card_of}

-- "It counts only in a record of kind CV, 199 wide", and "Hidden digits in demand 3 now include the AJ card": a record has its kind's card where it has its kind's width
unfoldable pub card_part_found : List ℕ → Option Kind → Option ℕ
card_part_found r (Some kind) = cond (eqb (length r) (width_of kind)) (card_of kind) None
card_part_found r None = None

-- the place, from 0, at which a record's card begins, if it has one
abbrev pub card_part : List ℕ → Option ℕ
card_part r = card_part_found r (kind_of r)

-- the card of a record, where it begins at a place
abbrev pub card_from : ℕ → List ℕ → List ℕ
card_from from r = slice from (from + 19) r
