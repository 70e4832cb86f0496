-- What a chunk makes of a run, by whether a piece ends in it. One set of laws for every step.
use Prim.Native.Nat.{ℕ}
use mathlib.Core.Path.{◌≡◌, refl, ◌∙◌, ap}
use mathlib.Core.List.{List, ◌++◌, foldl}
use Rattle.lines.specs.Lines.{cut}
use Rattle.lines.specs.Steps.{NoPiece, FirstPiece}
use Rattle.chunks.specs.Unfinished.{clipped, holding}
use Rattle.chunks.specs.Chunks.{Run, held_before, ran_over, LooksNoFurther}
use Rattle.chunks.specs.declared.Unfinished.{Unfinished}
use Rattle.chunks.specs.Held.{Ran}

module _ {S : Type 0} (step : S → List ℕ → S) where
  -- no piece ends in a chunk: it is held behind what was held
  pub ran_on : (run : Run S) (s : List ℕ) {held : Unfinished} → NoPiece s → held ≡ holding (clipped (run.held ++ s)) → Ran run.state held (ran_over step run s)
  unfolding held_before
  ran_on run s w e = rw (w.pieces, w.left) (record { same_state = refl; same_held = e })

  -- a piece ends: it is taken behind what was held, of which no more is needed than is held, then those behind it, and the rest is held
  pub ran_behind : LooksNoFurther step → (run : Run S) (s piece behind rest : List ℕ) {next st : S} {held : Unfinished} → FirstPiece s piece behind →
      next ≡ step run.state (clipped (run.held ++ piece)) → st ≡ foldl step next (cut behind).pieces → rest ≡ (cut behind).rest →
      held ≡ holding (clipped rest) → Ran st held (ran_over step run s)
  unfolding held_before
  ran_behind no_further run s piece behind rest w n p l h =
      rw (w.pieces, w.left)
      (record {
        same_state = p ∙ ap (λ st. foldl step st (cut behind).pieces) (n ∙ no_further run.state (run.held ++ piece));
        same_held = h ∙ ap (λ rest. holding (clipped rest)) l;
      })
