-- A file keeps all rules, or has a first place that breaks one: by induction on its pieces, behind any records.
use Prim.Native.Nat.{ℕ}
use mathlib.Core.Path.{◌≡◌, refl, sym, ◌∙◌, ap, subst}
use mathlib.Core.Logic.{◌⊎◌, inl, inr}
use mathlib.Core.List.{List, [], ◌∷◌, ◌++◌, map, map-append, append-nil, append_assoc}
use mathlib.Core.Bool.{true}
use native.Mathlib.Omega.{arith}
use Rattle.refusal.specs.declared.Cause.{Cause}
use Rattle.std.specs.Prelude.{Ok, Err}
use Rattle.refusal.specs.Fault.{Judged, at}
use Rattle.refusal.specs.Rules.{first_broken, all_hold, FirstBroken}
use Rattle.refusal.proofs.Rules.{all_hold_lem, is_first}
use Rattle.text.proofs.Alphabets.{both, both_left, both_right}
use Rattle.lines.specs.Lines.{no_lf, all_no_lf, cut, without_last}
use Rattle.lines.proofs.Cuts.{cut_is_cut}
use Rattle.first_fault.specs.InTurn.{Next, piece, rest, records_in, RulesBehind, pieces_hold, FirstFault, NoFault, ComesBehind}

module _ (rules : RulesBehind) where
  -- a first place that breaks a rule, among pieces and a rest behind records
  record Breaks (before ps : List (List ℕ)) (left : List ℕ) (cause : Cause) (column : ℕ) : Type 0 where
    earlier : List (List ℕ)
    hold : pieces_hold rules before earlier ≡ true
    here : Next
    later : List Next
    split : map piece ps ++ (rest left ∷ []) ≡ map piece earlier ++ (here ∷ later)
    first_broken_lem : FirstBroken (rules (before ++ records_in earlier) here) cause column

  -- all rules hold, or there is such a place
  data Verdict (before ps : List (List ℕ)) (left : List ℕ) : Type 0 where
    keeps : pieces_hold rules before ps ≡ true → all_hold (rules (before ++ records_in ps) (rest left)) ≡ true → Verdict before ps left
    breaks : (cause : Cause) (column : ℕ) → Breaks before ps left cause column → Verdict before ps left

  -- the first place breaks a rule
  at_once : (before ps : List (List ℕ)) (left : List ℕ) (here : Next) (later : List Next) (cause : Cause) (column : ℕ) →
      map piece ps ++ (rest left ∷ []) ≡ here ∷ later → first_broken (rules before here) ≡ at cause column → Verdict before ps left
  unfolding pieces_hold
  at_once before ps left here later cause column split f =
      breaks cause column
      (record {
        earlier = [];
        hold = refl;
        here = here;
        later = later;
        split = split;
        first_broken_lem = subst (λ rs. FirstBroken (rules rs here) cause column) (sym (append-nil before)) (is_first (rules before here) cause column f);
      })

  -- a piece that keeps the rules, before others
  behind : (before : List (List ℕ)) (p : List ℕ) (ps : List (List ℕ)) (left : List ℕ) → all_hold (rules before (piece p)) ≡ true →
      Verdict (before ++ (without_last p ∷ [])) ps left → Verdict before (p ∷ ps) left
  unfolding pieces_hold
  behind before p ps left h (keeps hold end) =
      keeps (both h hold) (subst (λ rs. all_hold (rules rs (rest left)) ≡ true) (append_assoc before (without_last p ∷ []) (records_in ps)) end)
  behind before p ps left h (breaks cause column w) =
      breaks cause column
      (record {
        earlier = p ∷ w.earlier;
        hold = both h w.hold;
        here = w.here;
        later = w.later;
        split = ap (◌∷◌ (piece p)) w.split;
        first_broken_lem =
            subst (λ rs. FirstBroken (rules rs w.here) cause column) (append_assoc before (without_last p ∷ []) (records_in w.earlier)) w.first_broken_lem;
      })

  verdict : (before ps : List (List ℕ)) (left : List ℕ) → Verdict before ps left
  unfolding pieces_hold
  verdict before [] left = by (first_broken (rules before (rest left))) refl
    where
      by : (fault : Judged) → first_broken (rules before (rest left)) ≡ fault → Verdict before [] left
      by (Ok none) f =
          keeps refl (subst (λ rs. all_hold (rules rs (rest left)) ≡ true) (sym (append-nil before)) (all_hold_lem (rules before (rest left)) f))
      by (Err fault) f = at_once before [] left (rest left) [] fault.cause fault.column refl f
  verdict before (p ∷ ps) left = by (first_broken (rules before (piece p))) refl (verdict (before ++ (without_last p ∷ [])) ps left)
    where
      by : (fault : Judged) → first_broken (rules before (piece p)) ≡ fault → Verdict (before ++ (without_last p ∷ [])) ps left → Verdict before (p ∷ ps) left
      by (Ok none) f later = behind before p ps left (all_hold_lem (rules before (piece p)) f) later
      by (Err fault) f later = at_once before (p ∷ ps) left (piece p) (map piece ps ++ (rest left ∷ [])) fault.cause fault.column refl f

  -- THE THEOREM of a file: it has no fault, or a first one
  pub none_or_first : (file : List ℕ) → NoFault rules file ⊎ ((cause : Cause) × (column : ℕ) × FirstFault rules file cause column)
  none_or_first file = by (verdict [] (cut file).pieces (cut file).rest)
    where
      by : Verdict [] (cut file).pieces (cut file).rest → NoFault rules file ⊎ ((cause : Cause) × (column : ℕ) × FirstFault rules file cause column)
      by (keeps hold end) = inl (record { pieces_hold_lem = hold; rest_holds = end })
      by (breaks cause column w) =
          inr (
            cause,
            column,
            record { earlier = w.earlier; all_hold_lem = w.hold; here = w.here; later = w.later; split = w.split; first_broken_lem = w.first_broken_lem },
          )

  -- a piece that comes behind others and breaks a rule has the first fault of its file, behind these
  unfoldable pub comes_first : (file : List ℕ) (earlier : List (List ℕ)) (p : List ℕ) (cause : Cause) (column : ℕ) → ComesBehind rules file earlier p →
      FirstBroken (rules (records_in earlier) (piece p)) cause column → FirstFault rules file cause column
  comes_first file earlier p cause column c broken =
      let left = rest (cut file).rest ∷ [] in
      record {
        earlier = earlier;
        all_hold_lem = c.all_hold_lem;
        here = piece p;
        later = map piece c.later ++ left;
        split =
            ap (λ ps. map piece ps ++ left) c.split ∙ ap (λ xs. xs ++ left) (map-append piece earlier (p ∷ c.later)) ∙
            append_assoc (map piece earlier) (piece p ∷ map piece c.later) left;
        first_broken_lem = broken;
      }

-- pieces in front of what comes next are pieces of the file, and hold no LF
in_front_lem : (ps earlier : List (List ℕ)) (left : List ℕ) (here : Next) (later : List Next) → map piece ps ++ (rest left ∷ []) ≡ map piece earlier ++ (here ∷ later) →
    all_no_lf ps ≡ true → all_no_lf earlier ≡ true
unfolding all_no_lf
in_front_lem ps [] left here later e clear = refl
in_front_lem [] (q ∷ earlier) left here later e clear = let z : ◌≡◌ {A = ℕ} 0 1 = cc in absurd (omega arith)
in_front_lem (p ∷ ps) (q ∷ earlier) left here later e clear =
    let same : p ≡ q = cc in
    let others : map piece ps ++ (rest left ∷ []) ≡ map piece earlier ++ (here ∷ later) = cc in
    both (ap no_lf (sym same) ∙ both_left (no_lf p) (all_no_lf ps) clear) (in_front_lem ps earlier left here later others (both_right (no_lf p) (all_no_lf ps) clear))

pub earlier_clear : {rules : RulesBehind} {file : List ℕ} {cause : Cause} {column : ℕ} (w : FirstFault rules file cause column) → all_no_lf w.earlier ≡ true
earlier_clear {file = file} w = in_front_lem (cut file).pieces w.earlier (cut file).rest w.here w.later w.split (cut_is_cut file).pieces_clear
