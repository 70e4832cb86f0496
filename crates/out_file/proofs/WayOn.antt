-- The answers that lead to the rename, from each step: read backwards, step by step, there is one way on, and a call that did not go well leads off it.
use Prim.Native.Nat.{ℕ, suc}
use mathlib.Core.Path.{◌≡◌, refl, sym, ap, subst}
use mathlib.Core.List.{List, [], ◌∷◌, ◌++◌}
use lib.ListN.{replicate}
use Rattle.out_file.specs.Saving.{next_of, if_well, run_from, all_well}
use Rattle.out_file.specs.declared.step.Step.{Step}
use Rattle.out_file.specs.declared.step.Step.TheVariants.{Create, Narrow, Write, Store, Close, Rename, SyncFolder, Abandon, Remove, Kept, Unsynced, Gone}
use Rattle.out_file.specs.declared.step.Went.{Went}
use Rattle.out_file.specs.declared.step.Went.TheVariants.{Well, Last, Wrong}

-- so many writes that went well, and all that follows them
abbrev writes : ℕ → List Went
writes n = replicate n Well ++ (Last ∷ Well ∷ Well ∷ [])

-- these answers lead from a step to the rename
abbrev WayOn : Step → List Went → Type 0
WayOn Create ws = (n : ℕ) × (ws ≡ all_well n)
WayOn Narrow ws = (n : ℕ) × (ws ≡ Well ∷ writes n)
WayOn Write ws = (n : ℕ) × (ws ≡ writes n)
WayOn Store ws = ws ≡ Well ∷ Well ∷ []
WayOn Close ws = ws ≡ Well ∷ []
WayOn Rename ws = ws ≡ []
WayOn SyncFolder ws = ⊥
WayOn Abandon ws = ⊥
WayOn Remove ws = ⊥
WayOn Kept ws = ⊥
WayOn Unsynced ws = ⊥
WayOn Gone ws = ⊥

-- a call that went well leads on, and any other off the way
well : (s : Step) (w : Went) (good bad : Step) (ws : List Went) → (WayOn bad ws → ⊥) → (WayOn good ws → WayOn s (Well ∷ ws)) →
    WayOn (if_well w good bad) ws → WayOn s (w ∷ ws)
well s Well good bad ws off on h = on h
well s Last good bad ws off on h = absurd (off h)
well s Wrong good bad ws off on h = absurd (off h)

more : (l ws : List Went) → ws ≡ l → Well ∷ ws ≡ Well ∷ l
more l ws e = ap (λ (v : List Went). Well ∷ v) e

-- one answer more, read from behind
further : (s : Step) (w : Went) (ws : List Went) → WayOn (next_of s w) ws → WayOn s (w ∷ ws)
further Create w ws = well Create w Narrow Gone ws (λ h. h) (λ h. (h.0, more _ ws h.1))
further Narrow w ws = well Narrow w Write Abandon ws (λ h. h) (λ h. (h.0, more _ ws h.1))
further Write Well ws = λ h. (suc h.0, more _ ws h.1)
further Write Last ws = λ h. (0, ap (λ (v : List Went). Last ∷ v) h)
further Write Wrong ws = λ h. absurd h
further Store w ws = well Store w Close Abandon ws (λ h. h) (more _ ws)
further Close w ws = well Close w Rename Remove ws (λ h. h) (more _ ws)
further Rename w ws = well Rename w SyncFolder Remove ws (λ h. h) (λ h. absurd h)
further SyncFolder w ws = well SyncFolder w Kept Unsynced ws (λ h. h) (λ h. h)
further Abandon w ws = λ h. h
further Remove w ws = λ h. h
further Kept w ws = λ h. h
further Unsynced w ws = λ h. h
further Gone w ws = λ h. h

pub way_on : (s : Step) (ws : List Went) → run_from s ws ≡ Rename → WayOn s ws
unfolding run_from
way_on s [] e = subst (λ (t : Step). WayOn t []) (sym e) refl
way_on s (w ∷ ws) e = further s w ws (way_on (next_of s w) ws e)
