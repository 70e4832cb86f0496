-- What comes after a card file's end, or after a refusal: by the stage of the state, and whether a byte is held.
use Prim.Native.Nat.{ℕ, ◌<◌}
use mathlib.Core.Path.{◌≡◌, refl, sym, ◌∙◌, ap}
use mathlib.Core.List.{List, [], ◌∷◌, foldl, nil≢cons}
use mathlib.Core.Logic.{◌⊎◌, inl, inr, ⊎_elim}
use mathlib.Core.Bool.{Bool, true, false, cond}
use native.Mathlib.Omega.{arith}
use lib.ListN.{length, length-append}
use Rattle.refusal.specs.declared.Cause.TheVariants.{BytesAfterTheEnd}
use Rattle.refusal.specs.declared.Refusal.{Refusal}
use Rattle.lines.specs.Lines.{Lines, cut, rejoined, IsCut, ends_in_cr, without_last}
use Rattle.lines.proofs.Cuts.{cut_is_cut}
use Rattle.chunks.specs.Unfinished.{clipped_with, clipped, held_by, holding}
use Rattle.chunks.specs.Chunks.{held_before, ran_over}
use Rattle.chunks.proofs.Clipped.{clipped_some}
use Rattle.chunks.proofs.Held.{held_back}
use Rattle.card_run.specs.declared.stage.Stage.{Stage}
use Rattle.card_run.specs.declared.stage.Stage.TheVariants.{Start, BetweenBatches, InBatch, Ended, Closed, Refused}
use Rattle.card_run.specs.declared.running.Running.{Running}
use Rattle.card_run.specs.declared.answer.Accepted.{Accepted as CardNumbers}
use Rattle.card_record.specs.Reading.{reading_of}
use Rattle.card_run.specs.Running.{closed_at, closed_of, refused_at, late_at}
use Rattle.card_step.specs.Step.{took_at}
use Rattle.card_file.specs.Feeding.{fed_of}
use Rattle.card_run.specs.Answer.{answer_at, answer_of, CardAnswer}
use Rattle.card_file.specs.CardFile.{unended_at, unended_of, line_of, end_of}
use Rattle.card_stream.specs.declared.Stream.{Stream}
use Rattle.card_stream.specs.Stream as card
use Rattle.card_stream.proofs.InChunks as CardStream
use Rattle.card_kept.proofs.Stays as stays
use Rattle.demands.specs.Feeding.{after_the_end}
use Rattle.demands.proofs.Feeding.{closed_stage}
use Rattle.std.specs.Prelude.{Err, None, Ok, Some}

-- an ended file is closed or refused, and closing it once more changes nothing
closed_again : (st : Running) (stage : Stage) → st.stage ≡ stage → closed_of (closed_at stage st) ≡ closed_at stage st
unfolding closed_at
closed_again st Start e = refl
closed_again st BetweenBatches e = refl
closed_again st InBatch e = refl
closed_again st Ended e = refl
closed_again st Closed e = ap (λ s. closed_at s st) e
closed_again st (Refused r) e = ap (λ s. closed_at s st) e

unended_again : (st : Running) (stage : Stage) → st.stage ≡ stage → closed_of (unended_at stage st) ≡ unended_at stage st
unfolding closed_at unended_at late_at
unended_again st Start e = refl
unended_again st BetweenBatches e = refl
unended_again st InBatch e = refl
unended_again st Ended e = refl
unended_again st Closed e = refl
unended_again st (Refused r) e = ap (λ s. closed_at s st) e

ended_again : (st : Running) (held : List ℕ) → closed_of (end_of st held) ≡ end_of st held
unfolding end_of
ended_again st [] = closed_again st st.stage refl
ended_again st (b ∷ s) = unended_again st st.stage refl

pub card_ended_again : (s : Stream) → card.answer_of (card.ended_of (card.ended_of s)) ≡ card.answer_of (card.ended_of s)
unfolding card.with_held end_of
card_ended_again s = ap answer_of (ended_again s.state (held_by s.held))

-- the end decides: it leaves a file closed or refused
closed_decides : (st : Running) (stage : Stage) → st.stage ≡ stage → answer_of (closed_at stage st) ≡ None → ◌≡◌ {A = ℕ} 0 1
unfolding closed_at answer_at
closed_decides st Start k e = cc
closed_decides st BetweenBatches k e = cc
closed_decides st InBatch k e = cc
closed_decides st Ended k e = cc
closed_decides st Closed k e = let f : answer_at Closed st ≡ None = ap (λ s. answer_at s st) (sym k) ∙ e in cc
closed_decides st (Refused r) k e = let f : answer_at (Refused r) st ≡ None = ap (λ s. answer_at s st) (sym k) ∙ e in cc

unended_decides : (st : Running) (stage : Stage) → st.stage ≡ stage → answer_of (unended_at stage st) ≡ None → ◌≡◌ {A = ℕ} 0 1
unfolding unended_at answer_at late_at
unended_decides st Start k e = cc
unended_decides st BetweenBatches k e = cc
unended_decides st InBatch k e = cc
unended_decides st Ended k e = cc
unended_decides st Closed k e = cc
unended_decides st (Refused r) k e = let f : answer_at (Refused r) st ≡ None = ap (λ s. answer_at s st) (sym k) ∙ e in cc

end_decides : (st : Running) (held : List ℕ) → answer_of (end_of st held) ≡ None → ⊥
unfolding end_of
end_decides st [] e = absurd (let z = closed_decides st st.stage refl e in omega arith)
end_decides st (b ∷ s) e = absurd (let z = unended_decides st st.stage refl e in omega arith)

pub card_decided : (s : Stream) → card.answer_of (card.ended_of s) ≡ None → ⊥
unfolding card.with_held
card_decided s e = end_decides s.state (held_by s.held) e

-- the answer of a state with bytes that wait, by whether there are any
with_bytes : (held : List ℕ) (st : Running) → 0 < length held → card.with_held held st ≡ card.behind_end st.stage st
unfolding card.with_held
with_bytes [] st h = absurd (omega arith)
with_bytes (b ∷ s) st h = refl

-- a refused state answers its refusal, whatever waits
pub refused_answers : (x : Refusal) (st : Running) (held : List ℕ) → st.stage ≡ Refused x → answer_of (card.with_held held st) ≡ Some (Err x)
unfolding card.with_held card.behind_end
refused_answers x st [] e = stays.answer_of_lem st x e
refused_answers x st (b ∷ s) e = ap (λ stage. answer_of (card.behind_end stage st)) e ∙ stays.answer_of_lem st x e

refused_lines : (x : Refusal) (st : Running) (ps : List (List ℕ)) → st.stage ≡ Refused x → foldl line_of st ps ≡ st
refused_lines x st [] e = refl
refused_lines x st (p ∷ ps) e = ap (λ next. foldl line_of next ps) (stays.line x st p e) ∙ refused_lines x st ps e

-- behind an accepted end a line is 13
closed_line : (st : Running) (p : List ℕ) → st.stage ≡ Closed → line_of st p ≡ refused_at BytesAfterTheEnd 0 st
unfolding took_at unended_at late_at
closed_line st p e = by (ends_in_cr p)
  where
    by : (ends : Bool) → cond ends (fed_of st (without_last p)) (unended_of st) ≡ refused_at BytesAfterTheEnd 0 st
    by true = ap (λ s. took_at s st (reading_of st.edition (without_last p))) e
    by false = ap (λ s. unended_at s st) e

-- and so is any byte
some_clipped : (r : List ℕ) → 0 < length r → 0 < length (clipped r)
unfolding clipped_with
some_clipped [] h = h
some_clipped (b ∷ s) h = clipped_some b [] s

behind_closed : (st : Running) (ps : List (List ℕ)) (rest : List ℕ) → st.stage ≡ Closed → (ps ≡ [] → 0 < length rest) →
    answer_of (card.with_held (held_by (holding (clipped rest))) (foldl line_of st ps)) ≡ Some (Err (after_the_end st))
unfolding card.behind_end answer_at
behind_closed st [] rest e h =
    ap (λ held. answer_of (card.with_held held st)) (held_back (clipped rest)) ∙
    ap answer_of (with_bytes (clipped rest) st (some_clipped rest (h refl))) ∙
    ap (λ stage. answer_of (card.behind_end stage st)) e
behind_closed st (p ∷ ps) rest e h =
    let ended = refused_at BytesAfterTheEnd 0 st in
    let next : foldl line_of (line_of st p) ps ≡ ended =
    ap (λ next. foldl line_of next ps) (closed_line st p e) ∙ refused_lines (after_the_end st) ended ps refl in
    refused_answers (after_the_end st) (foldl line_of (line_of st p) ps) (held_by (holding (clipped rest))) (ap (λ (r : Running). r.stage) next)

-- what a chunk leaves behind bytes that wait, and behind none
waiting_stay : (held : List ℕ) (ps : List (List ℕ)) (rest : List ℕ) → 0 < length held → (held_before held ps rest).pieces ≡ [] →
    0 < length (held_before held ps rest).rest
unfolding held_before
waiting_stay held [] rest h e = omega (arith, length-append held rest)
waiting_stay held (p ∷ ps) rest h e = absurd (nil≢cons (sym e))

bytes_come : (b : ℕ) (chunk : List ℕ) (ls : Lines) → IsCut (b ∷ chunk) ls → (held_before [] ls.pieces ls.rest).pieces ≡ [] →
    0 < length (held_before [] ls.pieces ls.rest).rest
unfolding held_before rejoined
bytes_come b chunk ls w = by ls.pieces ls.rest w.whole
  where
    by : (ps : List (List ℕ)) (rest : List ℕ) → rejoined ps rest ≡ b ∷ chunk → (held_before [] ps rest).pieces ≡ [] → 0 < length (held_before [] ps rest).rest
    by [] rest whole e = omega (arith, ap length whole)
    by (p ∷ ps) rest whole e = absurd (nil≢cons (sym e))

-- what a refused answer says of a stream: the state is refused, or bytes wait behind an accepted end
refused_how : (held : List ℕ) (st : Running) (x : Refusal) → answer_of (card.with_held held st) ≡ Some (Err x) →
    (st.stage ≡ Refused x) ⊎ ((st.stage ≡ Closed) × (◌≡◌ {A = CardAnswer} (Some (Err (after_the_end st))) (Some (Err x))) × (0 < length held))
unfolding card.with_held card.behind_end answer_at
refused_how [] st x e = inl (stays.stage_of_lem st x e)
refused_how (b ∷ s) st x e = by st.stage refl e
  where
    by : (stage : Stage) → st.stage ≡ stage → answer_of (card.behind_end stage st) ≡ Some (Err x) →
        (st.stage ≡ Refused x) ⊎ ((st.stage ≡ Closed) × (◌≡◌ {A = CardAnswer} (Some (Err (after_the_end st))) (Some (Err x))) × (0 < length (b ∷ s)))
    by Start k e = inl (stays.stage_of_lem st x e)
    by BetweenBatches k e = inl (stays.stage_of_lem st x e)
    by InBatch k e = inl (stays.stage_of_lem st x e)
    by Ended k e = inl (stays.stage_of_lem st x e)
    by Closed k e = inr (k, e, omega arith)
    by (Refused r) k e = inl (stays.stage_of_lem st x e)

-- and an accepted one: it is closed, and no byte waits
accepted_how : (held : List ℕ) (st : Running) (a : CardNumbers) → answer_of (card.with_held held st) ≡ Some (Ok a) → (held ≡ []) × (st.stage ≡ Closed)
unfolding card.with_held card.behind_end answer_at
accepted_how [] st a e = (refl, closed_stage st a e)
accepted_how (b ∷ s) st a e = absurd (let z : ◌≡◌ {A = ℕ} 0 1 = by st.stage refl e in omega arith)
  where
    by : (stage : Stage) → st.stage ≡ stage → answer_of (card.behind_end stage st) ≡ Some (Ok a) → ◌≡◌ {A = ℕ} 0 1
    by Start k e = let f : answer_at Start st ≡ Some (Ok a) = ap (λ s. answer_at s st) (sym k) ∙ e in cc
    by BetweenBatches k e = let f : answer_at BetweenBatches st ≡ Some (Ok a) = ap (λ s. answer_at s st) (sym k) ∙ e in cc
    by InBatch k e = let f : answer_at InBatch st ≡ Some (Ok a) = ap (λ s. answer_at s st) (sym k) ∙ e in cc
    by Ended k e = let f : answer_at Ended st ≡ Some (Ok a) = ap (λ s. answer_at s st) (sym k) ∙ e in cc
    by Closed k e = cc
    by (Refused r) k e = let f : answer_at (Refused r) st ≡ Some (Ok a) = ap (λ s. answer_at s st) (sym k) ∙ e in cc

-- the next chunk, and the end, of a stream whose state is refused
abbrev StaysRefused : Stream → Refusal → Type 0
StaysRefused s x = ((chunk : List ℕ) → card.answer_of (card.taken_of s chunk) ≡ Some (Err x)) × (card.answer_of (card.ended_of s) ≡ Some (Err x))

stage_refused : (s : Stream) (x : Refusal) → s.state.stage ≡ Refused x → StaysRefused s x
unfolding card.with_held
stage_refused s x r = (
  λ chunk.
      let ls = held_before (held_by s.held) (cut chunk).pieces (cut chunk).rest in
      let next = refused_lines x s.state ls.pieces r in
      refused_answers x (foldl line_of s.state ls.pieces) (held_by (card.taken_of s chunk).held) (ap (λ (st : Running). st.stage) next ∙ r),
  ap answer_of (stays.ends x s.state (held_by s.held) r) ∙ stays.answer_of_lem s.state x r,
)

-- and of one with bytes that wait behind an accepted end
bytes_wait : (s : Stream) → s.state.stage ≡ Closed → 0 < length (held_by s.held) → StaysRefused s (after_the_end s.state)
unfolding card.with_held unended_at answer_at late_at
bytes_wait s c h = (
  λ chunk.
      let held = held_by s.held in
      let ls = held_before held (cut chunk).pieces (cut chunk).rest in
      behind_closed s.state ls.pieces ls.rest c (waiting_stay held (cut chunk).pieces (cut chunk).rest h),
  ap answer_of (CardStream.some_left s.state (held_by s.held) h ∙ ap (λ stage. unended_at stage s.state) c),
)

pub card_refused_lem : (s : Stream) (x : Refusal) → card.answer_of s ≡ Some (Err x) → StaysRefused s x
card_refused_lem s x e =
    ⊎_elim
    (stage_refused s x)
    (λ (w : (s.state.stage ≡ Closed) × (◌≡◌ {A = CardAnswer} (Some (Err (after_the_end s.state))) (Some (Err x))) × (0 < length (held_by s.held))).
    let stay = bytes_wait s w.0 w.2 in
    (λ chunk. stay.0 chunk ∙ w.1, stay.1 ∙ w.1))
    (refused_how (held_by s.held) s.state x e)

-- after an accepted end
nothing_more : (s : Stream) (a : CardNumbers) → held_by s.held ≡ [] → card.answer_of s ≡ Some (Ok a) → card.answer_of (card.taken_of s []) ≡ Some (Ok a)
unfolding card.with_held cut held_before clipped_with
nothing_more s a none e =
    ap (λ held. card.answer_of (card.stream_of (ran_over line_of (record { state = s.state; held = held }) []))) none ∙
    sym (ap (λ held. answer_of (card.with_held held s.state)) none) ∙ e

pub card_accepted : (s : Stream) (a : CardNumbers) → card.answer_of s ≡ Some (Ok a) →
    (card.answer_of (card.taken_of s []) ≡ Some (Ok a)) ×
    ((b : ℕ) (chunk : List ℕ) → card.answer_of (card.taken_of s (b ∷ chunk)) ≡ Some (Err (after_the_end s.state)))
card_accepted s a e =
    let how = accepted_how (held_by s.held) s.state a e in (
      nothing_more s a how.0 e,
      λ b chunk.
          let ls = cut (b ∷ chunk) in
          ap (λ held. card.answer_of (card.stream_of (ran_over line_of (record { state = s.state; held = held }) (b ∷ chunk)))) how.0 ∙
          behind_closed s.state (held_before [] ls.pieces ls.rest).pieces (held_before [] ls.pieces ls.rest).rest how.1 (bytes_come b chunk ls (cut_is_cut (b ∷ chunk))),
    )
