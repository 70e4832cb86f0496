-- The editions of the card layout, and the rules of one that is stated: 1, and right after it 22. A new edition is one more in `current`, and a row of captures.
use Rattle.std.specs.Prelude.{ℕ, List, [], ◌∷◌, Bool, not, ◌||◌, eqb}
use Rattle.refusal.specs.declared.Cause.TheVariants.{EditionUnknown, EditionRetired}
use Rattle.refusal.specs.Fault.{Judged}
use Rattle.refusal.specs.Rules.{Rule, rule_at, first_broken}

-- 2 (November 2023): files are read under it
abbrev pub current : ℕ → Bool
current edition = eqb edition 2

-- 1 (June 2013): "No network has sent the June 2013 set since the summer"
abbrev pub retired : ℕ → Bool
retired edition = eqb edition 1

abbrev pub known : ℕ → Bool
known edition = retired edition || current edition

-- "edition not 1 (June 2013) or 2 (November 2023)" is refused by 1; "22 edition retired, at 0, 0, right after 1"
abbrev pub edition_rules : ℕ → List Rule
edition_rules edition = rule_at EditionUnknown 0 (known edition) ∷ rule_at EditionRetired 0 (not (retired edition)) ∷ []

-- the fault of an edition: none where files are read under it
abbrev pub edition_fault : ℕ → Judged
edition_fault edition = first_broken (edition_rules edition)
