-- The edition that a word states: "an edition is any number, however long".
use Rattle.std.specs.Prelude.{ℕ, min, List, cond, ◌&&◌, length, ltb, Option, Some, None}
use Rattle.text.specs.Alphabet.{holds_only}
use Rattle.text.specs.declared.alphabet.Alphabet.TheVariants.{Digits}
use Rattle.text.specs.Number.{value_of}
use Rattle.totals.specs.Sum.{top}

-- one digit or more, and nothing else; a value past 64 bits stays at the top of them, so that it is not 1 or 2
abbrev pub edition_of : List ℕ → Option ℕ
edition_of s = cond (ltb 0 (length s) && holds_only Digits s) (Some (min (value_of s) top)) None
