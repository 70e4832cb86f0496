-- `day_sheet::places::holds_digits` meets its contract. The invariant: whether the places still to come hold digits decides of all, and the bytes reach as far.
use mathlib.Core.Path.{refl, sym, ◌∙◌, ap}
use mathlib.Core.List.{List}
use native.Mathlib.Omega.{arith}
use borrow.Author.Rules.{rules}
use lib.ListN.{drop}
use Rattle.day_sheet.specs.declared.layout.Place.{Place}
use Rattle.day_sheet.specs.Layout.{digits_right}
use Rattle.day_sheet.proofs.NextPlace.{next_width, next_digits, none_left}
use Rattle.day_sheet.proofs.places.holds_digits.Goals as goal

pub loop-number-init : goal.loop-number-init
loop-number-init c = (search rules, c.requires.1, refl)

pub overflow_add-end : goal.overflow_add-end
overflow_add-end c =
    let l = c.loop-number in
    let next = next_width c.args.places l.number c.requires.0 c.loop-number-test.true c.place_of-place.ensures in
    search rules

pub slice_bounds-holds-end : goal.slice_bounds-holds-end
slice_bounds-holds-end c =
    let l = c.loop-number in
    let next = next_width c.args.places l.number c.requires.0 c.loop-number-test.true c.place_of-place.ensures in
    search rules

pub returns-then-not-holds : goal.returns-then-not-holds
returns-then-not-holds c =
    let l = c.loop-number in
    let places = c.args.places in
    let next = next_digits places l.number c.requires.0 c.loop-number-test.true c.place_of-place.ensures c.args.bytes.now l.at in
    sym (rw (sym c.holds.ensures ∙ c.if-not-holds.true) at next) ∙ l.invariant.2

pub loop-number-preserved : goal.loop-number-preserved
loop-number-preserved c =
    let l = c.loop-number in
    let places = c.args.places in
    let few = c.requires.0 in
    let taken = c.loop-number-test.true in
    let is = c.place_of-place.ensures in
    let wide = next_width places l.number few taken is in
    let next = next_digits places l.number few taken is c.args.bytes.now l.at in
    (search rules, omega arith, sym (rw (sym c.holds.ensures ∙ c.if-not-holds.false) at next) ∙ l.invariant.2)

pub returns : goal.returns
unfolding digits_right
returns c =
    let l = c.loop-number in
    sym (ap (λ (ps : List Place). digits_right ps (drop l.at c.args.bytes.now)) (none_left c.args.places l.number c.loop-number-test.false)) ∙
    l.invariant.2
