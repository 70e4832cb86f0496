-- The answer before the end, by whether a byte is held.
use Prim.Native.Nat.{ℕ}
use mathlib.Core.Path.{◌≡◌, refl}
use mathlib.Core.List.{List, [], ◌∷◌}
use mathlib.Core.Bool.{true, false, true≢false}
use native.Mathlib.Omega.{arith}
use borrow.Author.Tests.{eqb-true}
use lib.ListN.{length}
use Rattle.std.specs.Prelude.{◌==◌}
use Rattle.card_run.specs.declared.running.Running.{Running}
use Rattle.card_file.specs.CardFile.{end_of}
use Rattle.card_stream.specs.Stream.{behind_end, with_held}

pub nothing_held : (held : List ℕ) (st : Running) → (length held == 0) ≡ true → with_held held st ≡ st
unfolding with_held
nothing_held [] st e = refl
nothing_held (b ∷ s) st e = let none : length (b ∷ s) ≡ 0 = eqb-true _ _ e in absurd (omega arith)

pub bytes_held : (held : List ℕ) (st : Running) → (length held == 0) ≡ false → with_held held st ≡ behind_end st.stage st
unfolding with_held
bytes_held [] st e = absurd (true≢false e)
bytes_held (b ∷ s) st e = refl

-- equally many bytes held are all that either looks at
pub equally_held : (st : Running) (held other : List ℕ) → length held ≡ length other → (with_held held st ≡ with_held other st) × (end_of st held ≡ end_of st other)
unfolding end_of with_held
equally_held st [] [] e = (refl, refl)
equally_held st [] (c ∷ t) e = absurd (omega arith)
equally_held st (b ∷ s) [] e = absurd (omega arith)
equally_held st (b ∷ s) (c ∷ t) e = (refl, refl)
