-- What an edition's standing says of its fault: unknown 1, retired 22, current none; and only of a current one none. A current edition is 2.
use Prim.Native.Nat.{ℕ}
use mathlib.Core.Path.{◌≡◌, refl, sym, ap}
use mathlib.Core.List.{[], ◌∷◌}
use mathlib.Core.Bool.{Bool, true, false, not, ◌||◌}
use borrow.Author.Tests.{eqb-true}
use Rattle.refusal.specs.declared.Cause.TheVariants.{EditionUnknown, EditionRetired}
use Rattle.refusal.specs.Fault.{nothing, at}
use Rattle.refusal.specs.Rules.{rule_at, first_broken}
use Rattle.refusal.proofs.Faults.{not_both}
use Rattle.edition.specs.Known.{current, retired, known, edition_fault}

pub unknown_fault : (e : ℕ) → known e ≡ false → edition_fault e ≡ at EditionUnknown 0
unfolding first_broken
unknown_fault e h = rw h

pub retired_fault : (e : ℕ) → retired e ≡ true → edition_fault e ≡ at EditionRetired 0
unfolding first_broken
retired_fault e h = rw h

pub current_two : (e : ℕ) → current e ≡ true → e ≡ 2
current_two e h = eqb-true e 2 h

pub current_fault : (e : ℕ) → current e ≡ true → edition_fault e ≡ nothing
unfolding first_broken
current_fault e h = ap edition_fault (current_two e h)

pub not_retired : (e : ℕ) → current e ≡ true → retired e ≡ false
not_retired e h = ap retired (current_two e h)

pub fault_current : (e : ℕ) → edition_fault e ≡ nothing → current e ≡ true
unfolding first_broken
fault_current e h = by (retired e) (current e) h
  where
    by : (r c : Bool) → first_broken (rule_at EditionUnknown 0 (r || c) ∷ rule_at EditionRetired 0 (not r) ∷ []) ≡ nothing → c ≡ true
    by true c h = absurd (not_both (sym h))
    by false true h = refl
    by false false h = absurd (not_both (sym h))
