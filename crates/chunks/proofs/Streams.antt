-- The law of chunks, over any step that looks no further into a piece than what is held of it: chunk by chunk ends as all at once.
-- The cut of a ++ b goes on from the rest of a, and a front that is held changes no piece for such a step.
use Prim.Native.Nat.{ℕ}
use mathlib.Core.Path.{◌≡◌, refl, sym, ◌∙◌, ap}
use mathlib.Core.List.{List, [], ◌∷◌, ◌++◌, foldl, foldl-append, append-nil, append_assoc}
use mathlib.Core.Bool.{Bool, true, false, cond}
use lib.Dec.{eqb}
use Rattle.lines.specs.Lines.{Lines, lf, cut, in_front, no_lf}
use Rattle.lines.proofs.Cuts.{pieces_then, cut_is_cut, cut_rejoined}
use Rattle.lines.proofs.Finished.{rejoined_behind}
use Rattle.chunks.specs.Unfinished.{clipped_with, clipped}
use Rattle.chunks.specs.Chunks.{Run, start_of, held_before, ran_lines, ran_over, joined_chunks, LooksNoFurther}
use Rattle.chunks.proofs.Clipped.{clipped_again, clipped_behind}

-- bytes without LF stand before the cut of what follows
byte_before : (x : ℕ) (a : List ℕ) (ps : List (List ℕ)) (rest : List ℕ) →
    in_front x (held_before a ps rest).pieces (held_before a ps rest).rest ≡ held_before (x ∷ a) ps rest
unfolding held_before in_front
byte_before x a [] rest = refl
byte_before x a (p ∷ ps) rest = refl

pub nothing_before : (ps : List (List ℕ)) (rest : List ℕ) → record { pieces = ps; rest = rest } ≡ held_before [] ps rest
unfolding held_before
nothing_before [] rest = refl
nothing_before (p ∷ ps) rest = refl

pub cut_before : (a b : List ℕ) → no_lf a ≡ true → cut (a ++ b) ≡ held_before a (cut b).pieces (cut b).rest
unfolding cut no_lf
cut_before [] b e = nothing_before (cut b).pieces (cut b).rest
cut_before (x ∷ a) b e = one (eqb x lf) e (cut_before a b)
  where
    one : (p : Bool) → cond p false (no_lf a) ≡ true → (no_lf a ≡ true → cut (a ++ b) ≡ held_before a (cut b).pieces (cut b).rest) →
        cond p (record { pieces = [] ∷ (cut (a ++ b)).pieces; rest = (cut (a ++ b)).rest }) (in_front x (cut (a ++ b)).pieces (cut (a ++ b)).rest) ≡
        held_before (x ∷ a) (cut b).pieces (cut b).rest
    one true e w = cc
    one false e w = ap (λ (ls : Lines). in_front x ls.pieces ls.rest) (w e) ∙ byte_before x a (cut b).pieces (cut b).rest

-- the cut of bytes goes on from what was left of those before
pub cut_on : (a b : List ℕ) → cut (a ++ b) ≡ pieces_then (cut a).pieces (cut ((cut a).rest ++ b))
cut_on a b =
    let w = cut_is_cut a in
    ap (λ s. cut (s ++ b)) (sym w.whole) ∙ ap cut (rejoined_behind (cut a).pieces (cut a).rest b) ∙
    cut_rejoined (cut a).pieces ((cut a).rest ++ b) w.pieces_clear

cut_behind_lem : (a b : List ℕ) → cut (a ++ b) ≡ pieces_then (cut a).pieces (held_before (cut a).rest (cut b).pieces (cut b).rest)
cut_behind_lem a b = cut_on a b ∙ ap (pieces_then (cut a).pieces) (cut_before (cut a).rest b (cut_is_cut a).rest_clear)

module _ {S : Type 0} (step : S → List ℕ → S) (no_further : LooksNoFurther step) where
  -- two fronts of which the same is held make the same of what follows
  clipped_alike : (a b p : List ℕ) → clipped a ≡ clipped b → clipped (a ++ p) ≡ clipped (b ++ p)
  clipped_alike a b p e = sym (clipped_behind a p) ∙ ap (λ h. clipped (h ++ p)) e ∙ clipped_behind b p

  same_run : (st : S) (a b : List ℕ) (ps : List (List ℕ)) (rest : List ℕ) → clipped a ≡ clipped b →
      ran_lines step st (held_before a ps rest) ≡ ran_lines step st (held_before b ps rest)
  unfolding held_before
  same_run st a b [] rest e = ap (λ h. record { state = st; held = h }) (clipped_alike a b rest e)
  same_run st a b (p ∷ ps) rest e =
      ap (λ next. record { state = foldl step next ps; held = clipped rest })
      (sym (no_further st (a ++ p)) ∙ ap (step st) (clipped_alike a b p e) ∙ no_further st (b ++ p))

  -- what a chunk leaves is held, and does to the next chunk as if it stood there whole
  left_then : (st : S) (held : List ℕ) (qs : List (List ℕ)) (r : List ℕ) (ps : List (List ℕ)) (rest : List ℕ) →
      ran_lines step (foldl step st (held_before held qs r).pieces) (held_before (clipped (held_before held qs r).rest) ps rest) ≡
      ran_lines step st (held_before held (qs ++ (held_before r ps rest).pieces) (held_before r ps rest).rest)
  unfolding held_before
  left_then st held [] r [] rest =
      same_run st (clipped (held ++ r)) (held ++ r) [] rest (clipped_again (held ++ r)) ∙
      ap (λ l. ran_lines step st (record { pieces = []; rest = l })) (append_assoc held r rest)
  left_then st held [] r (p ∷ ps) rest =
      same_run st (clipped (held ++ r)) (held ++ r) (p ∷ ps) rest (clipped_again (held ++ r)) ∙
      ap (λ l. ran_lines step st (record { pieces = l ∷ ps; rest = rest })) (append_assoc held r p)
  left_then st held (q ∷ qs) r ps rest =
      let next = foldl step (step st (held ++ q)) qs in
      same_run next (clipped r) r ps rest (clipped_again r) ∙
      ap (λ to. record { state = to; held = clipped (held_before r ps rest).rest })
      (sym (foldl-append step (step st (held ++ q)) qs (held_before r ps rest).pieces))

  -- two chunks are as one
  pub two_chunks : (run : Run S) (a b : List ℕ) → ran_over step (ran_over step run a) b ≡ ran_over step run (a ++ b)
  two_chunks run a b =
      left_then run.state run.held (cut a).pieces (cut a).rest (cut b).pieces (cut b).rest ∙
      sym (ap (λ (ls : Lines). ran_lines step run.state (held_before run.held ls.pieces ls.rest)) (cut_behind_lem a b))

  -- and so is any number of them, from a run that an empty chunk leaves as it is
  from_settled : (run : Run S) (cs : List (List ℕ)) → ran_over step run [] ≡ run → foldl (ran_over step) run cs ≡ ran_over step run (joined_chunks cs)
  unfolding joined_chunks
  from_settled run [] e = sym e
  from_settled run (c ∷ cs) e =
      from_settled (ran_over step run c) cs (two_chunks run c [] ∙ ap (ran_over step run) (append-nil c)) ∙
      two_chunks run c (joined_chunks cs)

  pub all_chunks : (st : S) (cs : List (List ℕ)) → foldl (ran_over step) (start_of st) cs ≡ ran_lines step st (cut (joined_chunks cs))
  unfolding cut held_before clipped_with
  all_chunks st cs =
      from_settled (start_of st) cs refl ∙ sym (ap (ran_lines step st) (nothing_before (cut (joined_chunks cs)).pieces (cut (joined_chunks cs)).rest))

  -- with an end that looks no further either, chunk by chunk is as the cut of all the bytes joined
  pub in_chunks : {A : Type 0} (end : S → List ℕ → A) → LooksNoFurther end → (st : S) (cs : List (List ℕ)) →
      end (foldl (ran_over step) (start_of st) cs).state (foldl (ran_over step) (start_of st) cs).held ≡
      end (foldl step st (cut (joined_chunks cs)).pieces) (cut (joined_chunks cs)).rest
  in_chunks end no-further-end st cs =
      ap (λ (run : Run S). end run.state run.held) (all_chunks st cs) ∙
      no-further-end (foldl step st (cut (joined_chunks cs)).pieces) (cut (joined_chunks cs)).rest
