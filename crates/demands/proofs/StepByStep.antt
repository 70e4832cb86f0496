-- Laws of one step: a search passes a block that is clear, a text is put a byte more, a file is copied in front of an output, what is common to two kinds is
-- judged before rules of their own, and a sale's fields stand side by side. The code asks the library for each of them whole; docs/ names these laws.
use Prim.Native.Nat.{ℕ, zero, suc, ◌+◌, ◌-◌, ◌≤◌, ◌<◌, min}
use mathlib.Core.Path.{◌≡◌, refl, sym, ◌∙◌, ap}
use mathlib.Core.List.{List, [], ◌∷◌, ◌++◌}
use mathlib.Core.Bool.{Bool, true, false, cond, not, ◌&&◌, ◌||◌, false≢true}
use native.Mathlib.Omega.{arith}
use borrow.Author.Tests.{le-leb}
use lib.ListN.{length, get_or, set, take, drop, length-drop, length-set}
use lib.Seq.{drop-cons, drop-drop, take-append_seam, drop-append_seam}
use lib.Dec.{leb, eqb}
use Rattle.std.specs.Prelude.{Some}
use Rattle.text.specs.declared.alphabet.Alphabet.{Alphabet}
use Rattle.text.specs.Alphabet.{allowed, holds_only, first_stray}
use Rattle.lines.specs.Lines.{lf, lf_from, next_lf, no_lf}
use Rattle.wording.specs.Put.{over, over_at}
use Rattle.refusal.specs.Fault.{Judged, earlier_of}
use Rattle.refusal.specs.Rules.{Rule, first_broken}
use Rattle.refusal.proofs.Rules.{in_a_row}
use Rattle.card_record.specs.declared.kind.Kind.{Kind}
use Rattle.card_run.specs.declared.running.Running.{Running}
use Rattle.card_step.specs.Rules.{place_rule, nseq_rule}
use Rattle.sale_field.specs.Field.{numbered}
use Rattle.sale_field.proofs.Below.{all_below_lem, each_below}

-- allowed bytes in front: the search for a stray one goes on behind them
allowed_over : (a : Alphabet) (i n : ℕ) (s : List ℕ) → n ≤ length s → holds_only a (take n s) ≡ true → first_stray a i s ≡ first_stray a (i + n) (drop n s)
unfolding first_stray holds_only
allowed_over a i zero s h e = ap (λ (k : ℕ). first_stray a k s) (omega arith)
allowed_over a i (suc n) [] h e = absurd (omega arith)
allowed_over a i (suc n) (b ∷ s) h e = one (allowed a b) e (allowed_over a (suc i) n s (omega arith))
  where
    one : (p : Bool) → p && holds_only a (take n s) ≡ true →
        (holds_only a (take n s) ≡ true → first_stray a (suc i) s ≡ first_stray a (suc i + n) (drop n s)) →
        cond p (first_stray a (suc i) s) (Some i) ≡ first_stray a (i + suc n) (drop n s)
    one true f w = w f ∙ ap (λ (k : ℕ). first_stray a k (drop n s)) (omega arith)
    one false f w = absurd (false≢true f)

-- so a block of allowed bytes from a place on is passed
pub block_passed : (a : Alphabet) (s : List ℕ) (i n : ℕ) → i + n ≤ length s → holds_only a (take (i + n - i) (drop i s)) ≡ true →
    first_stray a i (drop i s) ≡ first_stray a (i + n) (drop (i + n) s)
block_passed a s i n h e =
    let k : i + n - i ≡ n = omega arith in
    allowed_over a i n (drop i s) (omega (arith, length-drop i s)) (rw k at e) ∙ ap (first_stray a (i + n)) (drop-drop n i s)

-- bytes without LF in front: the search for the next goes on behind them
clear_over : (i n : ℕ) (s : List ℕ) → n ≤ length s → no_lf (take n s) ≡ true → lf_from i s ≡ lf_from (i + n) (drop n s)
unfolding lf_from no_lf
clear_over i zero s h e = ap (λ (k : ℕ). lf_from k s) (omega arith)
clear_over i (suc n) [] h e = absurd (omega arith)
clear_over i (suc n) (b ∷ s) h e = one (eqb b lf) e (clear_over (suc i) n s (omega arith))
  where
    one : (p : Bool) → cond p false (no_lf (take n s)) ≡ true → (no_lf (take n s) ≡ true → lf_from (suc i) s ≡ lf_from (suc i + n) (drop n s)) →
        cond p (Some i) (lf_from (suc i) s) ≡ lf_from (i + suc n) (drop n s)
    one true f w = absurd (false≢true f)
    one false f w = w f ∙ ap (λ (k : ℕ). lf_from k (drop n s)) (omega arith)

-- and a block without LF
pub clear_block_passed : (s : List ℕ) (i n : ℕ) → i + n ≤ length s → no_lf (take (i + n - i) (drop i s)) ≡ true → next_lf i s ≡ next_lf (i + n) s
clear_block_passed s i n h e =
    let k : i + n - i ≡ n = omega arith in
    clear_over i n (drop i s) (omega (arith, length-drop i s)) (rw k at e) ∙ ap (lf_from (i + n)) (drop-drop n i s)

-- the rest of a text is still to be put behind what is done
pub record Done (text before : List ℕ) (at : ℕ) (after : List ℕ) (end i : ℕ) : Type 0 where
  pub inside : end ≤ length after
  pub place : end ≡ at + i
  pub taken : i ≤ length text
  pub length_kept : length after ≡ length before
  pub left : over_at end (drop i text) after ≡ over_at at text before

one_byte : (at : ℕ) (x : ℕ) (t s : List ℕ) → at < length s → over_at at (x ∷ t) s ≡ over_at (suc at) t (set s at x)
unfolding over_at over
one_byte at x t [] h = absurd (omega arith)
one_byte zero x t (b ∷ s) h = refl
one_byte (suc at) x t (b ∷ s) h = ap (λ (l : List ℕ). b ∷ l) (one_byte at x t s (omega arith))

pub one_more : {text before after : List ℕ} {at end i : ℕ} (byte other : ℕ) → byte ≡ get_or text i other → i < length text → end < length after →
    Done text before at after end i → Done text before at (set after end byte) (end + 1) (i + 1)
one_more {text} {before} {after} {at} {end} {i} byte other is h k d =
    let l = length-set after end byte in
    let e : end + 1 ≡ suc end = omega arith in
    let f : i + 1 ≡ suc i = omega arith in
    record {
      inside = omega (arith, l);
      place = omega (arith, d.place);
      taken = omega arith;
      length_kept = l ∙ d.length_kept;
      left =
          rw (e, f) (sym (one_byte end byte (drop (suc i) text) after k) ∙ ap (λ (b : ℕ). over_at end (b ∷ drop (suc i) text) after) is ∙
          ap (λ (t : List ℕ). over_at end t after) (sym (drop-cons text i other h)) ∙ d.left);
    }

-- a file copied into an output: the file in front, and the output behind it
module _ (file out : List ℕ) {l : List ℕ} (e : l ≡ file ++ drop (length file) out) where
  pub in_front_lem : take (length file) l ≡ file
  in_front_lem = ap (take (length file)) e ∙ take-append_seam file (drop (length file) out)

  pub behind : drop (length file) l ≡ drop (length file) out
  behind = ap (drop (length file)) e ∙ drop-append_seam file (drop (length file) out)

-- the place and the number of a sale or an adjustment, and then rules of its own
pub front_then : (st : Running) (kind : Kind) (column nseq : ℕ) (rules : List Rule) {fault front own : Judged} → fault ≡ earlier_of front own →
    own ≡ first_broken rules → front ≡ first_broken (place_rule st kind ∷ nseq_rule st column nseq ∷ []) →
    fault ≡ first_broken (place_rule st kind ∷ nseq_rule st column nseq ∷ rules)
front_then st kind column nseq rules {fault} {front} {own} e is first =
    e ∙ ap (λ (f : Judged). earlier_of f own) first ∙ ap (earlier_of (first_broken common)) is ∙ sym (in_a_row common rules)
  where
    common : List Rule
    common = place_rule st kind ∷ nseq_rule st column nseq ∷ []

-- where a sale's fields end: they stand side by side
abbrev ends : List ℕ
ends =
    0 ∷ 2 ∷ 17 ∷ 29 ∷ 37 ∷ 43 ∷ 44 ∷ 52 ∷ 53 ∷ 54 ∷ 65 ∷ 76 ∷ 87 ∷ 106 ∷ 108 ∷ 110 ∷ 122 ∷ 133 ∷ 144 ∷ 155 ∷ 158 ∷ 164 ∷ 175 ∷ 187 ∷ 190 ∷ 193 ∷ 199 ∷ []

pub begins : ℕ → Bool
begins n = eqb (get_or ends (n - 1) 0 + 1) (numbered n).0

pub stops : ℕ → Bool
stops n = eqb (get_or ends n 0) (numbered n).1

pub placed : ℕ → Bool
placed n = eqb (get_or ends (n - 1) 0) (min ((numbered n).0 - 1) (min (numbered n).1 199))

right : ℕ → Bool
right n = not (leb 1 n) || (begins n && (stops n && placed n))

-- each begins where the one before it ends
pub each_right : (n : ℕ) → 1 ≤ n → n ≤ 26 → (begins n && (stops n && placed n)) ≡ true
unfolding all_below_lem right begins stops placed
each_right n low high =
    let is = each_below 27 right refl n (omega arith) in
    rw (le-leb 1 n low) at is
