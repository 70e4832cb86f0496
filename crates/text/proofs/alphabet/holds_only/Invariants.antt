-- `text::alphabet::holds_only` meets its contract. The invariant: the bytes passed and those to come are all allowed exactly where the part's are.
use Rattle.std.proofs.Common.{◌≡◌, ◌&&◌, drop}
use Rattle.text.specs.Alphabet.{holds_only}
use Rattle.text.proofs.alphabet.holds_only.Given as goal

abbrev pub invariant-loop-byte : goal.invariant-loop-byte
invariant-loop-byte l = l.only && holds_only l.alphabet (drop l.byte-index l.part) ≡ holds_only l.alphabet l.part
