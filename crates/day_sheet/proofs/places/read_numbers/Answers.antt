-- `day_sheet::places::read_numbers` meets its contract. The invariant: the numbers read so far, and those of the places still to come, are all numbers, and the bytes
-- reach as far.
use Prim.Native.Nat.{ℕ, ◌+◌, ◌-◌, ◌<◌}
use mathlib.Core.Path.{refl, sym, ◌∙◌, ap}
use mathlib.Core.List.{List, ◌∷◌, ◌++◌, append-nil}
use native.Mathlib.Omega.{arith}
use borrow.Author.Rules.{rules}
use lib.ListN.{length, take, drop, length-take, length-set}
use lib.Seq.{take_all}
use Rattle.day_sheet.specs.declared.layout.Place.{Place}
use Rattle.day_sheet.specs.Layout.{from_places}
use Rattle.day_sheet.specs.FirstPlaces.{first_places}
use Rattle.day_sheet.proofs.NextPlace.{next_width, next_number_lem, at_most_eight, none_left, one_more}
use Rattle.day_sheet.proofs.places.read_numbers.Goals as goal

pub loop-number-init : goal.loop-number-init
loop-number-init c = (search rules, refl, c.requires.1, refl)

pub place_of-place-requires : goal.place_of-place-requires
place_of-place-requires c = omega (arith, c.loop-number.invariant.1, c.requires.0)

pub overflow_add-end : goal.overflow_add-end
overflow_add-end c =
    let l = c.loop-number in
    let taken : l.number < length c.args.numbers.now = omega (arith, l.invariant.1, c.loop-number-test.true) in
    let next = next_width (length c.args.numbers.now) l.number c.requires.0 taken c.place_of-place.ensures in
    search rules

pub slice_bounds-value-end : goal.slice_bounds-value-end
slice_bounds-value-end c =
    let l = c.loop-number in
    let taken : l.number < length c.args.numbers.now = omega (arith, l.invariant.1, c.loop-number-test.true) in
    let next = next_width (length c.args.numbers.now) l.number c.requires.0 taken c.place_of-place.ensures in
    search rules

pub value-requires : goal.value-requires
value-requires c =
    let l = c.loop-number in
    let s = c.args.bytes.now in
    omega (arith, at_most_eight l.number c.place_of-place.ensures, length-take (l.at + c.place_of-place.result.width - l.at) (drop l.at s))

pub loop-number-preserved : goal.loop-number-preserved
loop-number-preserved c =
    let l = c.loop-number in
    let n = length c.args.numbers.now in
    let few = c.requires.0 in
    let taken : l.number < n = omega (arith, l.invariant.1, c.loop-number-test.true) in
    let is = c.place_of-place.ensures in
    let wide = next_width n l.number few taken is in
    let next = next_number_lem n l.number few taken is c.args.bytes.now l.at in
    let rest = from_places (drop (l.number + 1) (first_places n)) (drop (l.at + c.place_of-place.result.width) c.args.bytes.now) in (
      search rules,
      simp length-set l.invariant.1,
      omega arith,
      one_more l.numbers rest l.number c.value.result (omega (arith, taken, l.invariant.1)) ∙
          ap (λ (t : List ℕ). take l.number l.numbers ++ t) (ap (λ (v : ℕ). v ∷ rest) c.value.ensures ∙ sym next) ∙ l.invariant.3,
    )

pub returns : goal.returns
unfolding from_places
returns c =
    let l = c.loop-number in
    let done = none_left (length c.args.numbers.now) l.number (omega (arith, l.invariant.1, c.loop-number-test.false)) in
    sym (append-nil _ ∙ take_all l.number l.numbers (omega (arith, l.invariant.1, c.loop-number-test.false))) ∙
    sym (ap (λ (ps : List Place). take l.number l.numbers ++ from_places ps (drop l.at c.args.bytes.now)) done) ∙ l.invariant.3
