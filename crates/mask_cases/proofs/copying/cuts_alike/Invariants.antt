-- `mask_cases::copying::cuts_alike` meets its contract: every cut has the same output, so as many are alike as were tried, or none. The measure is what is left.
use Prim.Native.Nat.{◌≤◌, ◌+◌, ◌-◌}
use mathlib.Core.Path.{◌≡◌}
use mathlib.Core.Bool.{cond}
use lib.ListN.{length}
use lib.Dec.{eqb}
use Rattle.cases.specs.Hash.{hash_from}
use Rattle.mask_cases.specs.Copying.{put_into}
use Rattle.mask_cases.proofs.copying.cuts_alike.Given as goal

abbrev pub invariant-loop-place : goal.invariant-loop-place
invariant-loop-place l = (l.place ≤ length l.file + 1) × (length l.out ≡ length l.initial.out) × (l.alike ≤ l.place) × (l.alike ≡ cond (eqb (hash_from 0 (put_into l.answer l.file (length l.initial.out))) l.whole) l.place 0)

abbrev pub decreases-loop-place : goal.decreases-loop-place
decreases-loop-place l = length l.file + 1 - l.place
