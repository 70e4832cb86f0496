-- `text::alphabet::first_stray` meets its contract: it goes on behind the blocks that are passed.
use Rattle.std.proofs.Common.{rules, arith, ◌≡◌, ◌∙◌, ap, ℕ, ◌+◌, ◌*◌}
use Rattle.std.specs.Prelude.{option_map}
use Rattle.text.proofs.Strays.{blocks_passed, blocks_inside, counted_on}
use Rattle.text.proofs.alphabet.first_stray.Goals as goal

pub overflow_mul-passed : goal.overflow_mul-passed
overflow_mul-passed c = omega (arith, blocks_inside _ _ _ c.pure_blocks.ensures)

pub slice_bounds-stray_of-count : goal.slice_bounds-stray_of-count
slice_bounds-stray_of-count c = blocks_inside _ _ _ c.pure_blocks.ensures

pub slice_bounds-stray_of-start : goal.slice_bounds-stray_of-start
slice_bounds-stray_of-start c = search (rules, blocks_inside _ _ _ c.pure_blocks.ensures)

pub returns : goal.returns
returns c =
    let passed : ℕ = c.pure_blocks.result * 16 in
    let found : c.map.result ≡ option_map (λ (k : ℕ). passed + k) c.stray_of.result = search rules in
    found ∙ ap (option_map (λ (k : ℕ). passed + k)) c.stray_of.ensures.place ∙ counted_on _ passed _ ∙ blocks_passed _ _ _ c.pure_blocks.ensures
