-- `day_sheet::places::fill` meets its contract. The invariant: what is filled so far, and the places still to come, are what stood in front and all numbers; the rest is as it
-- was.
use Prim.Native.Nat.{ℕ, ◌+◌}
use mathlib.Core.Path.{◌≡◌, refl, sym, ◌∙◌, ap, ap₂}
use mathlib.Core.List.{List, ◌++◌, append_assoc, append-nil}
use native.Mathlib.Omega.{arith}
use native.Mathlib.Nat.{add-sub_cancel_left}
use borrow.Author.Rules.{rules}
use lib.ListN.{length, get_or, take, drop}
use lib.Dec.{lit≤}
use Rattle.day_sheet.specs.declared.layout.Place.{Place}
use Rattle.day_sheet.specs.Number.{base, zero_byte, in_base}
use Rattle.day_sheet.specs.Layout.{table_width, in_places}
use Rattle.day_sheet.specs.FirstPlaces.{first_places}
use Rattle.day_sheet.proofs.Filling.{as_it_was, front_of, rest_of, filled_more, filled_so_far}
use Rattle.day_sheet.proofs.NextPlace.{next_width, next_written, none_left}
use Rattle.day_sheet.proofs.places.fill.Goals as goal

pub loop-number-init : goal.loop-number-init
loop-number-init c = (search rules, refl, refl, as_it_was _ 3 (search rules), refl)

pub overflow_add-end : goal.overflow_add-end
overflow_add-end c =
    let l = c.loop-number in
    let next = next_width (length c.args.numbers.now) l.number c.requires.0 c.loop-number-test.true c.place_of-place.ensures in
    search rules

pub put_at-requires-in-loop-number : goal.put_at-requires-in-loop-number
put_at-requires-in-loop-number c =
    let l = c.loop-number in
    let next = next_width (length c.args.numbers.now) l.number c.requires.0 c.loop-number-test.true c.place_of-place.ensures in
    search rules

pub loop-number-preserved : goal.loop-number-preserved
loop-number-preserved c =
    let l = c.loop-number in
    let ns = c.args.numbers.now in
    let n = length ns in
    let few = c.requires.0 in
    let taken = c.loop-number-test.true in
    let place = c.place_of-place.result in
    let wide = next_width n l.number few taken c.place_of-place.ensures in
    let more = filled_more _ _ (get_or ns l.number 0) (l.at + place.width) (omega arith) l.invariant.3 c.put_at-in-loop-number.ensures in
    let rest = in_places (drop (l.number + 1) (first_places n)) (drop (l.number + 1) ns) in (
      search rules,
      search rules,
      omega arith,
      filled_so_far more,
      ap (λ (p : List ℕ). p ++ rest) (front_of more) ∙ append_assoc (take l.at l.out) _ rest ∙
          ap (λ (w : ℕ). take l.at l.out ++ (in_base (base place.form) (zero_byte place.form) w (get_or ns l.number 0) ++ rest))
          (add-sub_cancel_left l.at place.width) ∙
          ap (λ (t : List ℕ). take l.at l.out ++ t) (sym (next_written n l.number few taken c.place_of-place.ensures ns taken)) ∙ l.invariant.4,
    )

pub returns : goal.returns
unfolding table_width in_places in_base
returns c =
    let l = c.loop-number in
    let ns = c.args.numbers.now in
    let out = c.args.out.now in
    let places = first_places (length ns) in
    let none = none_left (length ns) l.number c.loop-number-test.false in
    let mark = filled_more 256 0 4477768 3 (lit≤ tt) (as_it_was out 0 (omega arith)) c.put_at.ensures in
    let all : l.at ≡ 3 + table_width places = omega (arith, l.invariant.2, ap table_width none) in
    let front : take l.at l.out ≡ in_base 256 0 3 4477768 ++ in_places places ns =
    sym (append-nil _) ∙ ap (λ (ps : List Place). take l.at l.out ++ in_places ps (drop l.number ns)) (sym none) ∙ l.invariant.4 ∙
    ap (λ (p : List ℕ). p ++ in_places places ns) (front_of mark) in
    l.invariant.3.is ∙ ap₂ ◌++◌ front (rest_of l.at (omega arith) mark ∙ ap (λ (k : ℕ). drop k out) all) ∙
    append_assoc (in_base 256 0 3 4477768) (in_places places ns) (drop (3 + table_width places) out)
