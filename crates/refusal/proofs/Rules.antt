-- Laws of "the first fault" among rules: of rules in a row; that there is none exactly where all hold; and which rule gives it.
-- By induction on the rules, with a law for one rule before others.
use Prim.Native.Nat.{ℕ}
use mathlib.Core.Path.{◌≡◌, refl, sym, ap, ap₂, ◌∙◌}
use mathlib.Core.List.{List, [], ◌∷◌, ◌++◌}
use mathlib.Core.Bool.{Bool, true, false, and-eq-true_iff}
use Rattle.refusal.specs.declared.Cause.{Cause}
use Rattle.refusal.specs.Fault.{Judged, nothing, at, rule_of, earlier_of}
use Rattle.refusal.specs.Rules.{Rule, first_broken, all_hold, FirstBroken}
use Rattle.refusal.proofs.Faults.{associative, not_both, same_fault}

-- the fault that one rule gives
unfoldable fault_of : Rule → Judged
fault_of r = rule_of r.cause r.column r.holds

-- of two rows of rules, one behind the other: the first row's fault, unless it has none
pub in_a_row : (a b : List Rule) → first_broken (a ++ b) ≡ earlier_of (first_broken a) (first_broken b)
unfolding first_broken fault_of
in_a_row [] b = refl
in_a_row (r ∷ a) b = ap (earlier_of (fault_of r)) (in_a_row a b) ∙ sym (associative (fault_of r) (first_broken a) (first_broken b))

-- rows with the same first fault, one behind the other
pub same_row : (a b c d : List Rule) → first_broken a ≡ first_broken b → first_broken c ≡ first_broken d → first_broken (a ++ c) ≡ first_broken (b ++ d)
same_row a b c d p q = in_a_row a c ∙ ap₂ earlier_of p q ∙ sym (in_a_row b d)

-- no fault of a rule before others: it holds, and they have none
none_at : (c : Cause) (k : ℕ) (h : Bool) {f : Judged} → earlier_of (rule_of c k h) f ≡ nothing → (h ≡ true) × (f ≡ nothing)
none_at c k true e = (refl, e)
none_at c k false e = (cc, cc)

-- no fault: every rule holds
pub all_hold_lem : (rs : List Rule) → first_broken rs ≡ nothing → all_hold rs ≡ true
unfolding first_broken all_hold
all_hold_lem [] e = refl
all_hold_lem (r ∷ rs) e =
    let p = none_at r.cause r.column r.holds e in
    rw p.0 (all_hold_lem rs p.1)

-- every rule holds: no fault
pub none_broken : (rs : List Rule) → all_hold rs ≡ true → first_broken rs ≡ nothing
unfolding first_broken all_hold
none_broken [] e = refl
none_broken (r ∷ rs) e =
    let p = (and-eq-true_iff r.holds (all_hold rs)).0 e in
    rw p.0 (none_broken rs p.1)

-- a rule that holds, before others: the first that is broken is among them
behind : (r : Rule) {rs : List Rule} {c : Cause} {k : ℕ} → r.holds ≡ true → FirstBroken rs c k → FirstBroken (r ∷ rs) c k
unfolding all_hold
behind r h w =
    record {
      before = r ∷ w.before;
      broken = w.broken;
      after = w.after;
      split = ap (◌∷◌ r) w.split;
      all_before = rw h w.all_before;
      is_broken = w.is_broken;
      gives_cause = w.gives_cause;
      gives_column = w.gives_column;
    }

-- a fault of a rule before others: theirs, where it holds, and its own, where it does not
first_at :
    (r : Rule) (rs : List Rule) (c : Cause) (k : ℕ) (h : Bool) → r.holds ≡ h → (first_broken rs ≡ at c k → FirstBroken rs c k) →
    earlier_of (rule_of r.cause r.column h) (first_broken rs) ≡ at c k → FirstBroken (r ∷ rs) c k
unfolding all_hold
first_at r rs c k true p rest e = behind r p (rest e)
first_at r rs c k false p rest e =
    let fault = same_fault e in
    record { before = []; broken = r; after = rs; split = refl; all_before = refl; is_broken = p; gives_cause = ap (λ f. f.cause) fault; gives_column = ap (λ f. f.column) fault }

-- a fault: a rule is the first that is broken, and gives it
pub is_first : (rs : List Rule) (c : Cause) (k : ℕ) → first_broken rs ≡ at c k → FirstBroken rs c k
unfolding first_broken
is_first [] c k e = absurd (not_both e)
is_first (r ∷ rs) c k e = first_at r rs c k r.holds refl (is_first rs c k) e

-- the first rule that is broken gives the fault
pub gives_first : {rs : List Rule} {c : Cause} {k : ℕ} → FirstBroken rs c k → first_broken rs ≡ at c k
unfolding first_broken
gives_first w =
    ap first_broken w.split ∙ in_a_row w.before (w.broken ∷ w.after) ∙
    rw (none_broken w.before w.all_before, w.is_broken, w.gives_cause, w.gives_column)
