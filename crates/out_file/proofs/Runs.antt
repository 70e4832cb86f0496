-- Runs of the machine, for any set of steps: one that no answer leaves is never left, and one into which only certain calls lead was entered by such a call.
-- Each law is by induction on the answers; what it asks of every step is a computation (`whenever`).
use mathlib.Core.Path.{◌≡◌, refl, sym, ap, ◌∙◌}
use mathlib.Core.Logic.{◌⊎◌, inl, inr, ⊎_elim}
use mathlib.Core.List.Memᴰ
use mathlib.Core.List.{List, [], ◌∷◌, Memᴰ}
use mathlib.Core.Bool.{Bool, true, false, ◌||◌, true≢false}
use Rattle.out_file.specs.Saving.{next_of, run_from, calls_from}
use Rattle.out_file.specs.declared.step.Step.{Step}
use Rattle.out_file.specs.declared.step.Went.{Went}
use Rattle.out_file.proofs.Everywhere.{Whenever, whenever}

-- two tests of which one holds
pub either : (p q : Bool) → p || q ≡ true → (p ≡ true) ⊎ (q ≡ true)
either true q e = inl refl
either false q e = inr e

other : (p q : Bool) → p || q ≡ true → p ≡ false → q ≡ true
other true q h e = absurd (true≢false e)
other false q h e = h

module _ (inside : Step → Bool) where
  -- no answer leaves it
  abbrev pub Closed : Type 0
  Closed = Whenever (λ s w. inside s) (λ s w. inside (next_of s w))

  module _ (closed : Closed) where
    pub held : (s : Step) (ws : List Went) → inside s ≡ true → inside (run_from s ws) ≡ true
    unfolding run_from
    held s [] e = e
    held s (w ∷ ws) e =
        held (next_of s w) ws (whenever (λ s w. inside s) (λ s w. inside (next_of s w)) closed s w e)

    -- a run is inside once a call led there
    pub led : {t : Step} {v : Went} (s : Step) (ws : List Went) → Memᴰ (t, v) (calls_from s ws) →
        inside (next_of t v) ≡ true → inside (run_from s ws) ≡ true
    unfolding run_from calls_from
    led s [] m e = absurd (Memᴰ.not-nil m)
    led {t} {v} s (w ∷ ws) m e =
        ⊎_elim
        (λ (q : (t, v) ≡ (s, w)). held (next_of s w) ws (sym (ap (λ (c : Step × Went). inside (next_of c.0 c.1)) q) ∙ e))
        (λ m'. led (next_of s w) ws m' e)
        (Memᴰ.cases_cons m)

  module _ (gate : Step → Went → Bool) where
    -- only such a call leads into it
    abbrev pub Gated : Type 0
    Gated = Whenever (λ s w. inside (next_of s w)) (λ s w. inside s || gate s w)

    -- the call by which a run came in
    abbrev pub CameBy : Step → List Went → Type 0
    CameBy s ws = (t : Step) × (v : Went) × Memᴰ (t, v) (calls_from s ws) × (gate t v ≡ true)

    module _ (gated : Gated) where
      module _ (s : Step) (w : Went) (ws : List Went) (out : inside s ≡ false) (later : inside (next_of s w) ≡ false → CameBy (next_of s w) ws) where
        came : (b : Bool) → inside (next_of s w) ≡ b → CameBy s (w ∷ ws)
        unfolding calls_from
        came true e =
            let h = whenever (λ s w. inside (next_of s w)) (λ s w. inside s || gate s w) gated s w e in
            (s, w, Memᴰ.head refl, other (inside s) (gate s w) h out)
        came false e =
            let l = later e in
            (l.0, l.1, Memᴰ.tail l.2, l.3)

      pub entered : (s : Step) (ws : List Went) → inside s ≡ false → inside (run_from s ws) ≡ true → CameBy s ws
      unfolding run_from
      entered s [] out e = absurd (true≢false (sym e ∙ out))
      entered s (w ∷ ws) out e = came s w ws out (λ o. entered (next_of s w) ws o e) (inside (next_of s w)) refl
