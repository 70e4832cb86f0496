-- `cases::hash::hash` meets its contract. The invariant: the hash so far is below 2^32, and with the bytes still to come it is that of all.
use Rattle.std.proofs.Common.{◌≡◌, ◌<◌, drop}
use Rattle.cases.specs.Hash.{hash_from}
use Rattle.cases.proofs.hash.hash.Given as goal

abbrev pub invariant-loop-byte : goal.invariant-loop-byte
invariant-loop-byte l = (l.h < 4294967296) × (hash_from l.h (drop l.byte-index l.bytes) ≡ hash_from 0 l.bytes)
