-- What a machine that was driven until it rests has done: it ran, it stayed in any set of steps that only a step at rest leaves, and each call brought it nearer.
use Prim.Native.Nat.{◌<◌}
use mathlib.Core.Path.{◌≡◌, refl, ap, subst}
use mathlib.Core.Logic.{⊎_map}
use mathlib.Core.List.{List, [], ◌∷◌}
use mathlib.Core.Bool.{Bool, true, false, not, ◌&&◌, ◌||◌}
use lib.Dec.{ltb}
use borrow.Author.Tests.{ltb-true}
use Rattle.text.proofs.Alphabets.{both}
use Rattle.out_file.specs.Saving.{next_of, is_over, is_resting, is_well, run_from, calls_left}
use Rattle.out_file.specs.Driving.{Turned, Driven, there, onward, Begun, Ended}
use Rattle.out_file.specs.declared.step.Step.{Step}
use Rattle.out_file.specs.declared.step.Step.TheVariants.{Create, Narrow, Write, Abandon, Remove, Gone}
use Rattle.out_file.specs.declared.step.Went.{Went}
use Rattle.out_file.specs.declared.step.Went.TheVariants.{Well}
use Rattle.out_file.proofs.Everywhere.{is, one_of, is_it, Whenever, whenever}
use Rattle.out_file.proofs.Runs.{either}

-- one turn more, and the calls that are left
module _ {s r : Step} (t : Turned s r) (e : is_resting s ≡ false) where
  pub turned : {to : Step} → Driven to r → Driven to s
  turned {to} d = onward t.went e (subst (λ (x : Step). Driven to x) t.reached d)

  pub nearer : calls_left r < calls_left s
  nearer =
      rw t.reached
      (ltb-true _ _
      (whenever (λ s w. not (is_resting s)) (λ s w. ltb (calls_left (next_of s w)) (calls_left s)) refl s t.went (ap not e)))

ran : {to s : Step} → Driven to s → (answers : List Went) × (to ≡ run_from s answers)
unfolding run_from
ran (there e) = ([], refl)
ran (onward w e d) = let r = ran d in (w ∷ r.0, r.1)

rests : {to s : Step} → Driven to s → is_resting to ≡ true
rests (there e) = e
rests (onward w e d) = rests d

module _ (inside : Step → Bool) (closed : Whenever (λ s w. inside s && not (is_resting s)) (λ s w. inside (next_of s w))) where
  within : {to s : Step} → Driven to s → inside s ≡ true → inside to ≡ true
  within (there e) h = h
  within (onward {from = s} w e d) h =
      within d (whenever (λ s w. inside s && not (is_resting s)) (λ s w. inside (next_of s w)) closed s w (both h (ap not e)))

-- where a machine rests that was begun: before the writes it only goes on or back
abbrev early : Step → Bool
early = one_of (Create ∷ Narrow ∷ Write ∷ Abandon ∷ Remove ∷ Gone ∷ [])

pub begun : {to : Step} → Driven to Create → Begun to
begun {to} d =
    record {
      answers = (ran d).0;
      reached = (ran d).1;
      ready =
          ⊎_map is_it is_it
          (either _ _
          (whenever (λ s w. early s && is_resting s) (λ s w. is Write s || is Gone s) refl to Well
          (both (within early refl d refl) (rests d))));
    }

-- where one rests to which an answer was given that is not `Well`: it no longer waits for a write
abbrev late : Step → Bool
late s = not (one_of (Create ∷ Narrow ∷ Write ∷ []) s)

pub ended : (s : Step) {r to : Step} (w : Went) → is_well w ≡ false → r ≡ next_of s w → Driven to r → Ended (next_of s w) to
ended s {r} {to} w e q d =
    let d' = subst (λ (x : Step). Driven to x) q d in
    let h = whenever (λ s w. not (is_well w)) (λ s w. late (next_of s w)) refl s w (ap not e) in
    record {
      answers = (ran d').0;
      reached = (ran d').1;
      over = whenever (λ s w. late s && is_resting s) (λ s w. is_over s) refl to Well (both (within late refl d' h) (rests d));
    }
