-- `chunks::Unfinished::extended` meets its contract. The invariant: what is held is followed by zeros, and with the bytes still to come it is
-- what the start is with all of them.
use mathlib.Core.Path.{◌≡◌}
use lib.ListN.{length, drop}
use Rattle.chunks.specs.Unfinished.{clipped_with, held_by}
use Rattle.chunks.proofs.Held.{Clean}
use Rattle.chunks.proofs.Unfinished.extended.Given as goal

abbrev pub invariant-loop-byte : goal.invariant-loop-byte
invariant-loop-byte l = Clean (record { bytes = l.bytes; length = l.length }) × (length l.bytes ≡ 242) ×
    (clipped_with (held_by (record { bytes = l.bytes; length = l.length })) (drop l.byte-index l.part) ≡ clipped_with (held_by (record { bytes = l.initial.bytes; length = l.initial.length })) l.part)
