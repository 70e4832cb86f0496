-- Laws of what takes a file chunk by chunk: a chunk and then the rest, and the last one.
use Rattle.std.proofs.Common.{◌≡◌, ℕ, ◌-◌, ◌≤◌, List, ◌++◌, length, take, drop, ap, ◌∙◌}
use Rattle.std.specs.Borrow.{Bor}
use Rattle.cases.proofs.Parts.{part_then_rest, to_the_end}
use Rattle.cases.specs.Cuts.{Takes}

module _ {S : Type 0} {call : S → Bor (List ℕ) → S → Type 0} {taken : S → List ℕ → S} (t : Takes call taken) where
  -- the chunk up to a place, and what is behind it
  pub chunk_on : (file : List ℕ) (at end : ℕ) {s r : S} {chunk : Bor (List ℕ)} → at ≤ end → chunk.now ≡ take (end - at) (drop at file) → call s chunk r →
      taken r (drop end file) ≡ taken s (drop at file)
  chunk_on file at end {s} {r} {chunk} h e said =
      ap (λ q. taken q (drop end file)) (t.says s chunk r said) ∙
      t.joins s chunk.now (drop end file) ∙
      ap (λ l. taken s (l ++ drop end file)) e ∙
      ap (taken s) (part_then_rest file at end h)

  -- the chunk up to the end
  pub last_chunk : (file : List ℕ) (at : ℕ) {s r : S} {chunk : Bor (List ℕ)} → chunk.now ≡ take (length file - at) (drop at file) → call s chunk r →
      r ≡ taken s (drop at file)
  last_chunk file at {s} {r} {chunk} e said = t.says s chunk r said ∙ ap (taken s) (e ∙ to_the_end file at)
