-- `lines::next_lf` meets its contract: what `memchr` finds behind the place is what the search finds.
use mathlib.Core.Path.{refl, sym}
use Rattle.lines.proofs.Search.{found_by_memchr, none_behind}
use Rattle.lines.proofs.next_lf.Goals as goal

pub returns-then-bytes-from : goal.returns-then-bytes-from
returns-then-bytes-from c = sym (none_behind _ _ c.if-bytes-from.true)

pub returns-in_err-place : goal.returns-in_err-place
returns-in_err-place c = rw (c.from_residual.ensures, found_by_memchr _ _ _ c.memchr.ensures, c.in_err-place.was) refl

pub returns : goal.returns
returns c = rw (found_by_memchr _ _ _ c.memchr.ensures, c.in_ok-place.was) refl
