-- A list of the files that the arguments name, from a first one on: how far it has come, number by number, and what it ends in.
use Prim.Native.Nat.{ℕ, ◌+◌, ◌-◌, ◌≤◌, ◌<◌}
use mathlib.Core.Path.{◌≡◌, ◌∙◌, ap, subst}
use native.Mathlib.Omega.{arith}
use Rattle.file_list.specs.declared.tally.Said.{Said}
use Rattle.file_list.specs.declared.tally.Tally.{Tally}
use Rattle.file_list.specs.Tally.{no_file, one_file_more, Tallied}
use Rattle.file_list.proofs.Tallies.{none_tallied, one_tallied}

-- every argument before a number is tallied
pub record Reached {A : Type 0} (said : A → Said) (Allowed : A → Type 0) (first count number : ℕ) (tally : Tally) : Type 0 where
  pub begun : first ≤ number
  pub within : number - first ≤ count - first
  pub tallied : Tallied said Allowed (number - first) tally

module _ {A : Type 0} (said : A → Said) (Allowed : A → Type 0) (first count : ℕ) where
  pub at_first : {tally : Tally} → tally ≡ no_file → Reached said Allowed first count first tally
  at_first {tally} e =
      let none : 0 ≡ first - first = omega arith in
      record {
        begun = omega arith;
        within = omega arith;
        tallied = subst (λ (n : ℕ). Tallied said Allowed n tally) none (none_tallied said Allowed e);
      }

  pub one_reached : {number : ℕ} {tally next : Tally} (word : Said) (outcome : A) → number < count → Reached said Allowed first count number tally → Allowed outcome →
      word ≡ said outcome → next ≡ one_file_more tally word → Reached said Allowed first count (number + 1) next
  one_reached {number} {tally} {next} word outcome h w a s e =
      let more : number - first + 1 ≡ number + 1 - first = omega (arith, w.begun) in
      record {
        begun = omega (arith, w.begun);
        within = omega (arith, w.begun);
        tallied = subst (λ (n : ℕ). Tallied said Allowed n next) more (one_tallied said Allowed outcome w.tallied a (e ∙ ap (one_file_more tally) s));
      }
