-- A field that keeps clear of some places has the same part, rules and number in two records that are equal outside those places;
-- so has a table of such fields.
use Prim.Native.Nat.{ℕ, ◌+◌, ◌-◌, ◌≤◌}
use mathlib.Core.Path.{◌≡◌, refl, sym, ◌∙◌, ap, ap₂}
use mathlib.Core.List.{List, [], ◌∷◌, ◌++◌}
use mathlib.Core.Bool.{Bool, true, ◌&&◌, ◌||◌}
use native.Mathlib.Omega.{arith}
use native.Mathlib.Decide.{dec_le}
use lib.ListN.{take, drop, length-take, drop_of_length-le}
use lib.Seq.{slice, take-take, drop-drop}
use lib.Dec.{leb}
use borrow.Author.Tests.{leb-true}
use Rattle.text.specs.Number.{number_of, plain_number}
use Rattle.text.proofs.Alphabets.{both_left, both_right}
use Rattle.text.proofs.Parts.{drop_take}
use Rattle.pan.proofs.Tests.{by_test}
use Rattle.card_content.specs.declared.field.Field.{Field}
use Rattle.card_content.specs.Content.{content_rules}
use Rattle.card_content.specs.EqualOutside.{EqualOutside}
use Rattle.card_content.specs.Field.{part_of, field_rules, table_rules, number_in}

-- a field ends before some places, or begins behind them
abbrev pub clear : ℕ → ℕ → Field → Bool
clear from to f = leb f.1 from || leb to (f.0 - 1)

-- each field of a table does
abbrev pub all_clear : ℕ → ℕ → List Field → Bool
all_clear from to [] = true
all_clear from to (f ∷ fs) = clear from to f && all_clear from to fs

-- a part is what stands from its begin on, as far as it goes
part_behind : (a b : ℕ) (r : List ℕ) → slice a b r ≡ take (b - a) (drop a r)
part_behind a b r = by (dec_le a b)
  where
    by : Dec (a ≤ b) → slice a b r ≡ take (b - a) (drop a r)
    by (yes h) = drop_take a b r h
    by (no h) =
        let e : b - a ≡ 0 = omega arith in
        rw e (drop_of_length-le (take b r) {i = a} (omega (arith, length-take b r)))

-- what stands behind a place that is behind another
drop_more : (a to : ℕ) (r : List ℕ) → to ≤ a → drop (a - to) (drop to r) ≡ drop a r
drop_more a to r h =
    let e : to + (a - to) ≡ a = omega arith in
    drop-drop (a - to) to r ∙ ap (λ (k : ℕ). drop k r) e

module _ (from to : ℕ) (r s : List ℕ) (same : EqualOutside from to r s) where
  same_before : (a b : ℕ) → b ≤ from → slice a b r ≡ slice a b s
  same_before a b h =
      ap (drop a) (sym (take-take b from r h) ∙ ap (take b) same.before ∙ take-take b from s h)

  same_behind : (a b : ℕ) → to ≤ a → slice a b r ≡ slice a b s
  same_behind a b h =
      part_behind a b r ∙
      ap (take (b - a)) (sym (drop_more a to r h) ∙ ap (drop (a - to)) same.behind ∙ drop_more a to s h) ∙
      sym (part_behind a b s)

  -- a field's part
  pub same_part : (f : Field) → clear from to f ≡ true → part_of f r ≡ part_of f s
  same_part f h =
      by_test (leb f.1 from)
      (λ ends. same_before (f.0 - 1) f.1 (leb-true f.1 from ends))
      (λ goes_on. same_behind (f.0 - 1) f.1 (leb-true to (f.0 - 1) (rw goes_on at h)))

  -- its number
  pub same_number : (f : Field) → clear from to f ≡ true → number_in f r ≡ number_in f s
  same_number f h = ap (λ (p : List ℕ). plain_number (number_of p)) (same_part f h)

  -- the rules of a table, and of one with a field in it that has the same rules in both for another reason
  module _ (e : ℕ) where
    same_field : (f : Field) → clear from to f ≡ true → field_rules e r f ≡ field_rules e s f
    same_field f h = ap (content_rules f.2 e f.0) (same_part f h)

    same_table : (fs : List Field) → all_clear from to fs ≡ true → table_rules e r fs ≡ table_rules e s fs
    unfolding table_rules
    same_table [] h = refl
    same_table (f ∷ fs) h =
        ap₂ ◌++◌
        (same_field f (both_left (clear from to f) (all_clear from to fs) h))
        (same_table fs (both_right (clear from to f) (all_clear from to fs) h))

    pub same_around : (fs : List Field) (f : Field) (gs : List Field) → all_clear from to fs ≡ true → all_clear from to gs ≡ true →
        field_rules e r f ≡ field_rules e s f → table_rules e r (fs ++ f ∷ gs) ≡ table_rules e s (fs ++ f ∷ gs)
    unfolding table_rules
    same_around [] f gs h k one = ap₂ ◌++◌ one (same_table gs k)
    same_around (g ∷ fs) f gs h k one =
        ap₂ ◌++◌
        (same_field g (both_left (clear from to g) (all_clear from to fs) h))
        (same_around fs f gs (both_right (clear from to g) (all_clear from to fs) h) k one)
