-- What waits at the start of a buffer once its lines are written.
use Prim.Native.Nat.{ℕ, ◌-◌, ◌≤◌, ◌<◌}
use mathlib.Core.Path.{◌≡◌, refl}
use mathlib.Core.List.{List, []}
use mathlib.Core.Bool.{Bool, true, false, cond}
use native.Mathlib.Omega.{arith}
use lib.ListN.{length, take}
use lib.Seq.{length-take-le}
use lib.Dec.{ltb}
use borrow.Author.Tests.{ltb-true}
use Rattle.lines.specs.Lines.{cut, finished_in}
use Rattle.chunks.specs.Waiting.{unless_full}
use Rattle.card_copy.specs.Copying.{waiting_size}
use Rattle.card_copy.proofs.Finished.{unfinished_length}

-- what waits leaves room
pub leaves_room : (size room : ℕ) → 0 < room → waiting_size size room < room
leaves_room size room h = by (ltb size room) refl
  where
    by : (t : Bool) → ltb size room ≡ t → cond t size 0 < room
    by true e = ltb-true size room e
    by false e = h

chosen : (t : Bool) (size : ℕ) (line after : List ℕ) → take size after ≡ line → take (cond t size 0) after ≡ cond t line []
chosen true size line after h = h
chosen false size line after h = refl

-- the unfinished line of the first bytes of a buffer, moved to its start
pub waits_in_front : (before after : List ℕ) (end lines room : ℕ) → end ≤ length before → lines ≡ finished_in (take end before) →
    take (end - lines) after ≡ (cut (take end before)).rest → take (waiting_size (end - lines) room) after ≡ unless_full room (cut (take end before)).rest
waits_in_front before after end lines room h counts front =
    let l : length (take end before) ≡ end = length-take-le end before h in
    let w : length (cut (take end before)).rest ≡ end - lines = omega (arith, unfinished_length (take end before)) in
    rw w (chosen (ltb (end - lines) room) (end - lines) (cut (take end before)).rest after front)
