-- "The kind is the first two bytes (column 1); fewer than two bytes is an unknown kind."
use Rattle.std.specs.Prelude.{ℕ, List, cond, Option, Some, None}
use Rattle.text.specs.Literal.{ascii, same_bytes}
use Rattle.card_record.specs.declared.kind.Kind.TheVariants.{A0, L0, Cv, Aj, L9, A9}
use Rattle.card_record.specs.declared.kind.Kind.{Kind}
use Rattle.text.specs.Part.{positions}

-- the kind that two bytes name; "AJ is no longer unknown", CP, PF and CC "are refused as unknown"
unfoldable pub kind_named : List ℕ → Option Kind
kind_named name =
    cond (same_bytes name (ascii "CV")) (Some Cv)
    (cond (same_bytes name (ascii "AJ")) (Some Aj)
    (cond (same_bytes name (ascii "L0")) (Some L0)
    (cond (same_bytes name (ascii "L9")) (Some L9)
    (cond (same_bytes name (ascii "A0")) (Some A0)
    (cond (same_bytes name (ascii "A9")) (Some A9)
    None)))))

abbrev pub kind_of : List ℕ → Option Kind
kind_of r = kind_named (positions 1 2 r)
