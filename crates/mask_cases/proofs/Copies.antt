-- Laws of a masked copy that is made step by step. What is still to do, from the records that are masked on, is what was to do from the start.
use Prim.Native.Nat.{ℕ, ◌+◌, ◌-◌, ◌≤◌}
use mathlib.Core.Path.{◌≡◌, sym, ap, ap₂, ◌∙◌}
use mathlib.Core.List.{List, [], ◌∷◌, ◌++◌, append-nil, append_assoc}
use native.Mathlib.Omega.{arith}
use lib.ListN.{length, take, drop, length-take, take-append-drop, drop_of_length-le}
use lib.Seq.{length-take-le, take_at, drop_at, take-add, drop-drop, take-append-le, drop-append-le}
use Rattle.cases.proofs.Parts.{part_then_rest, to_the_end}
use Rattle.chunks.specs.Chunks.{joined_chunks}
use Rattle.lines.specs.Lines.{finished_in}
use Rattle.card_mask.specs.Masked.{masked_file}
use Rattle.card_mask.proofs.InChunks.{copied_as_whole, masked_length}
use Rattle.lines.proofs.Finished.{finished_within}
use Rattle.mask_cases.specs.Copying.{between, MasksBetween}

-- bytes masked, and those behind them with what waits, are all of them masked
masked_on : (s t : List ℕ) → take (finished_in s) (masked_file s) ++ masked_file (drop (finished_in s) (masked_file s) ++ t) ≡ masked_file (s ++ t)
unfolding joined_chunks
masked_on s t =
    let front = take (finished_in s) (masked_file s) in
    let back = drop (finished_in s) (masked_file s) ++ t in
    ap (λ l. front ++ l) (sym (take-append-drop (finished_in back) (masked_file back))) ∙
    sym (append_assoc front (take (finished_in back) (masked_file back)) (drop (finished_in back) (masked_file back))) ∙
    copied_as_whole (s ∷ t ∷ []) ∙
    ap (λ l. masked_file (s ++ l)) (append-nil t)

-- the finished records between two places end no later than the second place
pub ends_within : (copy : List ℕ) (done end : ℕ) → done ≤ end → done + finished_in (between copy done end) ≤ end
ends_within copy done end h =
    let short : length (between copy done end) ≤ end - done = simp length-take (omega arith) in
    omega (arith, finished_within (between copy done end))

-- what one step leaves: with the rest masked it is as before
pub step : {copy : List ℕ} {done end answer : ℕ} {after : List ℕ} → done ≤ end → end ≤ length copy → MasksBetween copy done end answer after →
    take answer after ++ masked_file (drop answer after) ≡ take done copy ++ masked_file (drop done copy)
step {copy} {done} {end} {answer} {after} h l w =
    let s = between copy done end in
    let m = masked_file s in
    let f = finished_in s in
    let head = take done copy in
    let rest = drop end copy in
    let wide : length head ≡ done = length-take-le done copy (omega arith) in
    let long : f ≤ length m = omega (arith, finished_within s, masked_length s) in
    let here : take done after ≡ head = ap (take done) w.leaves ∙ take_at head (m ++ rest) done wide in
    let on : drop done after ≡ m ++ rest = ap (drop done) w.leaves ∙ drop_at head (m ++ rest) done wide in
    let before : take answer after ≡ head ++ take f m =
    ap (λ n. take n after) w.counts ∙ take-add done f after ∙ ap₂ (λ a b. a ++ take f b) here on ∙ ap (λ l. head ++ l) (take-append-le f m rest long) in
    let behind : drop answer after ≡ drop f m ++ rest =
    ap (λ n. drop n after) w.counts ∙ sym (drop-drop f done after) ∙ ap (drop f) on ∙ drop-append-le f m rest long in
    ap₂ (λ a b. a ++ masked_file b) before behind ∙
    append_assoc head (take f m) (masked_file (drop f m ++ rest)) ∙
    ap (λ l. head ++ l) (masked_on s rest ∙ ap masked_file (part_then_rest copy done end h))

-- the last step, up to the end
pub up_to_end : {copy : List ℕ} {done end answer : ℕ} {after : List ℕ} → end ≡ length copy → MasksBetween copy done end answer after →
    after ≡ take done copy ++ masked_file (drop done copy)
up_to_end {copy} {done} {end} e w =
    let m = masked_file (between copy done end) in
    let none : drop end copy ≡ [] = drop_of_length-le copy {i = end} (omega arith) in
    w.leaves ∙
    ap (λ l. take done copy ++ (m ++ l)) none ∙
    ap (λ l. take done copy ++ l) (append-nil m ∙ ap (λ n. masked_file (between copy done n)) e ∙ ap masked_file (to_the_end copy done))
