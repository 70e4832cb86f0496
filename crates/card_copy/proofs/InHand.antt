-- What is in hand while a file is copied: at the start nothing waits, and of each chunk the unfinished line waits for the next.
use Prim.Native.Nat.{ℕ, ◌-◌, ◌+◌, ◌≤◌}
use mathlib.Core.Path.{◌≡◌, refl, sym, ◌∙◌, ap}
use mathlib.Core.List.{List, [], ◌∷◌, ◌++◌, foldl, foldl-append}
use native.Mathlib.Omega.{arith}
use lib.ListN.{take, drop}
use lib.Seq.{take-add}
use Rattle.lines.specs.Lines.{cut}
use Rattle.chunks.specs.Waiting.{unless_full, waiting_in}
use Rattle.card_stream.specs.declared.Stream.{Stream}
use Rattle.card_stream.specs.Stream.{open_of, taken_of}
use Rattle.card_program.proofs.Ended.{CardTaken}
use Rattle.card_copy.specs.Copying.{InHand}

-- a stream that has taken some chunks, and what waits of them
pub record Waits (edition : ℕ) (stream : Stream) (waiting : List ℕ) : Type 0 where
  pub chunks : List (List ℕ)
  pub taken : stream ≡ foldl taken_of (open_of edition) chunks
  pub are : waiting ≡ waiting_in 65536 chunks

pub none_waits : (edition : ℕ) {stream : Stream} → stream ≡ open_of edition → Waits edition stream []
none_waits edition e = record { chunks = []; taken = e; are = refl }

-- what waits stands in front in a buffer, and a chunk behind it
module _ (edition : ℕ) (buffer : List ℕ) (tail end : ℕ) {stream : Stream} (w : Waits edition stream (take tail buffer)) (h : tail ≤ end) where
  with_chunk : take end buffer ≡ waiting_in 65536 w.chunks ++ take (end - tail) (drop tail buffer)
  with_chunk =
      let e : end ≡ tail + (end - tail) = omega arith in
      ap (λ (n : ℕ). take n buffer) e ∙ take-add tail (end - tail) buffer ∙ ap (λ (s : List ℕ). s ++ take (end - tail) (drop tail buffer)) w.are

  pub in_hand : InHand stream (take end buffer)
  in_hand = record { edition = edition; chunks = w.chunks; chunk = take (end - tail) (drop tail buffer); taken = w.taken; are = with_chunk }

  -- the stream that takes the chunk has taken one more, and what is left of the bytes waits
  pub next_waits : {next : Stream} {left : List ℕ} → next ≡ taken_of stream (take (end - tail) (drop tail buffer)) →
      left ≡ unless_full 65536 (cut (take end buffer)).rest → Waits edition next left
  next_waits e l =
      let chunk = take (end - tail) (drop tail buffer) in
      record {
        chunks = w.chunks ++ (chunk ∷ []);
        taken = e ∙ ap (λ s. taken_of s chunk) w.taken ∙ sym (foldl-append taken_of (open_of edition) w.chunks (chunk ∷ []));
        are =
            l ∙ ap (λ (s : List ℕ). unless_full 65536 (cut s).rest) with_chunk ∙
            sym (foldl-append (λ (s c : List ℕ). unless_full 65536 (cut (s ++ c)).rest) [] w.chunks (chunk ∷ []));
      }

  pub next_taken : {next : Stream} → next ≡ taken_of stream (take (end - tail) (drop tail buffer)) → CardTaken edition next
  next_taken e =
      let n = next_waits e refl in
      record { chunks = n.chunks; so_far_lem = n.taken }
