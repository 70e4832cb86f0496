-- What holds at every step, whatever the answer, by one computation: the steps stand in a table, each at its place, and a test of all of the table holds of each.
use Prim.Native.Nat.{ℕ, zero, suc}
use mathlib.Core.Path.{◌≡◌, refl, sym, ap, subst, ◌∙◌}
use mathlib.Core.List.{List, [], ◌∷◌}
use mathlib.Core.Bool.{Bool, true, false, not, ◌&&◌, ◌||◌, false≢true}
use lib.ListN.{get_or, drop}
use lib.Dec.{eqb}
use borrow.Author.Tests.{eqb-true, eq-eqb}
use Rattle.text.proofs.Alphabets.{both_left, both_right}
use Rattle.out_file.specs.declared.step.Step.{Step}
use Rattle.out_file.specs.declared.step.Step.TheVariants.{Create, Narrow, Write, Store, Close, Rename, SyncFolder, Abandon, Remove, Kept, Unsynced, Gone}
use Rattle.out_file.specs.declared.step.Went.{Went}
use Rattle.out_file.specs.declared.step.Went.TheVariants.{Well, Last, Wrong}

abbrev steps : List Step
steps = Create ∷ Narrow ∷ Write ∷ Store ∷ Close ∷ Rename ∷ SyncFolder ∷ Abandon ∷ Remove ∷ Kept ∷ Unsynced ∷ Gone ∷ []

-- where a step stands in the table
abbrev pub place_of : Step → ℕ
place_of Create = 0
place_of Narrow = 1
place_of Write = 2
place_of Store = 3
place_of Close = 4
place_of Rename = 5
place_of SyncFolder = 6
place_of Abandon = 7
place_of Remove = 8
place_of Kept = 9
place_of Unsynced = 10
place_of Gone = 11

at_place : (s : Step) → get_or steps (place_of s) Create ≡ s
at_place Create = refl
at_place Narrow = refl
at_place Write = refl
at_place Store = refl
at_place Close = refl
at_place Rename = refl
at_place SyncFolder = refl
at_place Abandon = refl
at_place Remove = refl
at_place Kept = refl
at_place Unsynced = refl
at_place Gone = refl

-- whether a step is this one, or one of a list
abbrev pub is : Step → Step → Bool
is t s = eqb (place_of s) (place_of t)

abbrev pub one_of : List Step → Step → Bool
one_of [] s = false
one_of (t ∷ l) s = is t s || one_of l s

pub is_it : {s t : Step} → is t s ≡ true → s ≡ t
is_it {s} {t} e = sym (at_place s) ∙ ap (λ (n : ℕ). get_or steps n Create) (eqb-true (place_of s) (place_of t) e) ∙ at_place t

pub it_is : {s t : Step} → s ≡ t → is t s ≡ true
it_is {s} {t} e = eq-eqb (place_of s) (place_of t) (ap place_of e)

-- a test of all that stands in a table holds at each place of it
abbrev all_in : (Step → Bool) → List Step → Bool
all_in p [] = true
all_in p (s ∷ l) = p s && all_in p l

in_table : (p : Step → Bool) (l : List Step) (d : Step) → p d ≡ true → all_in p l ≡ true → (n : ℕ) → p (get_or l n d) ≡ true
in_table p [] d e h n = e
in_table p (s ∷ l) d e h zero = both_left (p s) (all_in p l) h
in_table p (s ∷ l) d e h (suc n) = in_table p l d e (both_right (p s) (all_in p l) h) n

-- a test of every answer
abbrev by_answer : (Went → Bool) → Bool
by_answer p = p Well && (p Last && p Wrong)

each_answer : (p : Went → Bool) → by_answer p ≡ true → (w : Went) → p w ≡ true
each_answer p h Well = both_left (p Well) (p Last && p Wrong) h
each_answer p h Last = both_left (p Last) (p Wrong) (both_right (p Well) (p Last && p Wrong) h)
each_answer p h Wrong = both_right (p Last) (p Wrong) (both_right (p Well) (p Last && p Wrong) h)

-- where the one test holds, the other does
abbrev implies : Bool → Bool → Bool
implies p q = not p || q

implied : (p q : Bool) → implies p q ≡ true → p ≡ true → q ≡ true
implied true q h e = h
implied false q h e = absurd (false≢true e)

module _ (p q : Step → Went → Bool) where
  abbrev implied_at : Step → Bool
  implied_at s = by_answer (λ w. implies (p s w) (q s w))

  abbrev pub Whenever : Type 0
  Whenever = all_in implied_at steps ≡ true

  pub whenever : Whenever → (s : Step) (w : Went) → p s w ≡ true → q s w ≡ true
  whenever h s w =
      let first = both_left (implied_at Create) (all_in implied_at (drop 1 steps)) h in
      let here = subst (λ (t : Step). implied_at t ≡ true) (at_place s) (in_table implied_at steps Create first h (place_of s)) in
      implied (p s w) (q s w) (each_answer (λ v. implies (p s v) (q s v)) here w)
