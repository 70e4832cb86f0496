-- `chunks::Unfinished::followed_by` meets its contract: what was held goes into an empty state, and the part behind it.
use mathlib.Core.Path.{◌≡◌, sym, ◌∙◌, ap, ap₂}
use mathlib.Core.List.{List, []}
use Prim.Native.Nat.{ℕ}
use Rattle.chunks.specs.Unfinished.{clipped_with, clipped, held_by, holding}
use Rattle.chunks.proofs.Clipped.{clipped_append}
use Rattle.chunks.proofs.Held.{clean}
use Rattle.chunks.proofs.Unfinished.followed_by.Goals as goal

pub extended-requires : goal.extended-requires
extended-requires c = (clean [] c.none.ensures).1

pub extended-requires-2 : goal.extended-requires-2
extended-requires-2 c = (clean (clipped_with (held_by c.none.result) c.held.result.now) c.extended.ensures).1

pub returns : goal.returns
returns c =
    let self = c.args.self in
    let part = c.args.part.now in
    let first : held_by c.extended.result ≡ clipped (held_by self) =
    (clean _ c.extended.ensures).0 ∙ ap₂ clipped_with (clean [] c.none.ensures).0 c.held.ensures in
    c.extended-2.ensures ∙ ap holding (ap (λ (h : List ℕ). clipped_with h part) first ∙ sym (clipped_append [] (held_by self) part))
