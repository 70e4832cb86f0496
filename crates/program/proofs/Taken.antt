-- A stream that has taken some chunks: at the start it has taken none, and each chunk is one more.
use Prim.Native.Nat.{ℕ}
use mathlib.Core.Path.{◌≡◌, sym, ◌∙◌, ap}
use mathlib.Core.List.{List, [], ◌∷◌, ◌++◌, foldl-append}
use Rattle.program.specs.Stream.{Taken}

module _ {S : Type 0} (take : S → List ℕ → S) (start : S) where
  pub none_taken : {stream : S} → stream ≡ start → Taken take start stream
  none_taken e = record { chunks = []; so_far_lem = e }

  pub one_taken_lem : (chunk : List ℕ) {stream next : S} → Taken take start stream → next ≡ take stream chunk → Taken take start next
  one_taken_lem chunk w e =
      record {
        chunks = w.chunks ++ (chunk ∷ []);
        so_far_lem = e ∙ ap (λ s. take s chunk) w.so_far_lem ∙ sym (foldl-append take start w.chunks (chunk ∷ []));
      }
