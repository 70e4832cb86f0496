-- Laws of a buffer with zeros behind what it holds: what it holds, and one byte more.
use Prim.Native.Nat.{ℕ, suc, ◌+◌, ◌-◌, ◌≤◌, ◌<◌, min}
use mathlib.Core.Path.{◌≡◌, refl, sym, ◌∙◌, ap, ap₂}
use mathlib.Core.List.{List, [], ◌∷◌, ◌++◌, append-nil, append_assoc}
use mathlib.Core.Bool.{Bool, true, false}
use native.Mathlib.Numerals.{add-one}
use native.Mathlib.Omega.{arith}
use lib.ListN.{length, take, drop, set, get_or, replicate, length-append, length-take, length-replicate, drop_of_length-le}
use lib.Seq.{take_all, take-append_seam, set_at, set_split, drop-cons}
use lib.Dec.{leb}
use borrow.Author.Tests.{leb-true, leb-false}
use Rattle.chunks.specs.declared.Unfinished.{Unfinished}
use Rattle.chunks.specs.Unfinished.{one_more, clipped_with, held_by, holding}
use Rattle.chunks.proofs.Clipped.{one_longer}

-- what it was made to hold
pub held_back : (s : List ℕ) → held_by (holding s) ≡ s
held_back s = take-append_seam s (replicate (242 - length s) 0)

-- the buffer keeps its length
pub room_length : (s : List ℕ) → length s ≤ 242 → length (holding s).bytes ≡ 242
room_length s l = length-append s (replicate (242 - length s) 0) ∙ omega (arith, length-replicate {A = ℕ} (242 - length s) 0)

-- a byte more where there is room
where_room : (h : List ℕ) (b : ℕ) → length h ≤ 241 → set (holding h).bytes (min (length h) 241) b ≡ (holding (one_more h b)).bytes
where_room h b l =
    let n : 242 - length h ≡ suc (241 - length h) = omega arith in
    let m : length h ≡ min (length h) 241 = omega arith in
    let k : 241 - length h ≡ 242 - length (one_more h b) = omega (arith, one_longer h b) in
    ap (λ (n : ℕ). set (h ++ replicate n 0) (min (length h) 241) b) n ∙
    set_at h 0 (replicate (241 - length h) 0) b (min (length h) 241) m ∙
    sym (append_assoc h (b ∷ []) (replicate (241 - length h) 0)) ∙
    ap₂ (λ (t : List ℕ) (n : ℕ). (t ++ (b ∷ [])) ++ replicate n 0) (sym (take_all 241 h l)) k

-- and where there is none
where_full : (h : List ℕ) (b : ℕ) → length h ≡ 242 → set (holding h).bytes (min (length h) 241) b ≡ (holding (one_more h b)).bytes
where_full h b l =
    let n : 242 - length h ≡ 0 = omega arith in
    let m : min (length h) 241 ≡ 241 = omega arith in
    let k : 0 ≡ 242 - length (one_more h b) = omega (arith, one_longer h b) in
    ap₂ (λ (n m : ℕ). set (h ++ replicate n 0) m b) n m ∙
    ap (λ (t : List ℕ). set t 241 b) (append-nil h) ∙
    set_split h 241 b (omega arith) ∙
    ap (λ (t : List ℕ). take 241 h ++ (b ∷ t)) (drop_of_length-le h {i = 242} (omega arith)) ∙
    sym (append-nil (one_more h b)) ∙
    ap (λ (n : ℕ). one_more h b ++ replicate n 0) k

pub byte_put : (h : List ℕ) (b : ℕ) → length h ≤ 242 → set (holding h).bytes (min (length h) 241) b ≡ (holding (one_more h b)).bytes
byte_put h b l = one (leb (length h) 241) refl
  where
    one : (p : Bool) → leb (length h) 241 ≡ p → set (holding h).bytes (min (length h) 241) b ≡ (holding (one_more h b)).bytes
    one true e = where_room h b (leb-true (length h) 241 e)
    one false e = where_full h b (omega (arith, leb-false (length h) 241 e, l))

-- a state with zeros behind what it holds
abbrev pub Clean : Unfinished → Type 0
Clean u = u ≡ holding (held_by u)

pub clean : (s : List ℕ) {u : Unfinished} → u ≡ holding s → (held_by u ≡ s) × Clean u
clean s e =
    let h = ap held_by e ∙ held_back s in
    (h, e ∙ ap holding (sym h))

-- one byte more, at a place
abbrev put : Unfinished → ℕ → ℕ → Unfinished
put u place b = record { bytes = set u.bytes place b; length = place + 1 }

one_put : (u : Unfinished) (b : ℕ) → Clean u → length (held_by u) ≤ 242 → put u (min u.length 241) b ≡ holding (one_more (held_by u) b)
one_put u b e l =
    ap (λ (v : Unfinished). put v (min v.length 241) b) e ∙
    ap₂ (λ (bytes : List ℕ) (n : ℕ). record { bytes = bytes; length = n }) (byte_put (held_by u) b l) (sym (one_longer (held_by u) b))

-- the next byte of a part: there are zeros behind what is then held, and with the bytes still to come it is as before
pub put_next : (u : Unfinished) (place : ℕ) (part : List ℕ) (i : ℕ) → place ≡ min u.length 241 → i < length part → Clean u → length u.bytes ≡ 242 →
    Clean (put u place (get_or part i 0)) × (clipped_with (held_by (put u place (get_or part i 0))) (drop (i + 1) part) ≡ clipped_with (held_by u) (drop i part))
unfolding clipped_with
put_next u place part i p h e l =
    let m : length (held_by u) ≤ 242 = omega (arith, length-take u.length u.bytes) in
    let w = clean (one_more (held_by u) (get_or part i 0)) (ap (λ (n : ℕ). put u n (get_or part i 0)) p ∙ one_put u (get_or part i 0) e m) in
    (w.1, ap (λ (k : List ℕ). clipped_with k (drop (i + 1) part)) w.0 ∙ rw (drop-cons part i 0 h, add-one))

-- and with none to come it is what is held
pub all_put : (u : Unfinished) (part : List ℕ) (i : ℕ) → length part ≤ i → held_by u ≡ clipped_with (held_by u) (drop i part)
unfolding clipped_with
all_put u part i h = rw (drop_of_length-le part h)
