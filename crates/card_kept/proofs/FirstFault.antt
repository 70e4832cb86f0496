-- THE FIRST FAULT. A record is judged by the first fault of the rules at its place (Outcomes). A file has no fault, or a first one (first_fault), and nothing is run for that;
-- since the run stands at the state of the records before (State), each of the two leads to its own answer, so each answer comes from the one that it says.
use Prim.Native.Nat.{ℕ, suc}
use mathlib.Core.Path.{◌≡◌, refl, sym, ◌∙◌, ap, subst}
use mathlib.Core.Logic.{◌⊎◌, inl, inr}
use mathlib.Core.List.{List, [], ◌∷◌, ◌++◌, map}
use mathlib.Core.Bool.{true, false, true≢false, false≢true}
use lib.ListN.{length}
use Rattle.refusal.specs.declared.Cause.{Cause}
use Rattle.refusal.specs.declared.Refusal.{Refusal}
use Rattle.refusal.specs.Nowhere.{nowhere}
use Rattle.refusal.specs.Rules.{all_hold, FirstBroken}
use Rattle.text.proofs.Alphabets.{both_left, both_right}
use Rattle.lines.specs.Lines.{cut}
use Rattle.lines.proofs.Cuts.{cut_is_cut}
use Rattle.first_fault.specs.InTurn.{Next, piece, rest, FirstFault, NoFault}
use Rattle.first_fault.proofs.InTurn.{none_or_first, earlier_clear}
use Rattle.edition.specs.Known.{current, edition_fault}
use Rattle.card_run.specs.declared.stage.Stage.{Stage}
use Rattle.card_run.specs.declared.stage.Stage.TheVariants.{Start, BetweenBatches, InBatch, Ended, Closed, Refused}
use Rattle.card_run.specs.declared.running.Running.{Running}
use Rattle.card_run.specs.Running.{open_of, closed_at}
use Rattle.card_run.specs.Answer.{answer_at, answer_of, card_file_row}
use Rattle.card_file.specs.Feeding.{fed_of}
use Rattle.card_file.specs.CardFile.{line_of, lines_of, end_of, check_of}
use Rattle.card_run.proofs.FileRows.{same_answer, is_refusal, is_accepted, refusal_told, accepted_told}
use Rattle.card_kept.specs.FirstFault.{ended, end_rule, FirstFaultOfRecord, next_rules, rules_behind, FirstFaultOfFile, FirstFaultDecides}
use Rattle.card_kept.specs.State.{state_behind}
use Rattle.card_kept.proofs.Stays as stays
use Rattle.card_kept.proofs.State.{goes_on, state_known}
use Rattle.card_kept.proofs.Outcomes.{Outcome, of_record, of_piece, of_rest, by_refused, refused_exactly, not_refused_exactly}
use Rattle.refusal.specs.Fault.{at}
use Rattle.std.specs.Prelude.{Err, Some}

-- THE THEOREM of a record, in every state that is not refused
pub first_fault_of_record : (st : Running) (r : List ℕ) → is_refusal (answer_of st) ≡ false → FirstFaultOfRecord st r
unfolding card_file_row
first_fault_of_record st r going =
    let o = of_record st going r in
    let told = refusal_told (answer_of (fed_of st r)) in
    record {
      is_refused_lem = λ x.
          let exactly = refused_exactly o x in
          (λ e. exactly.0 (same_answer _ (Some (Err x)) e), λ w. ap card_file_row (exactly.1 w));
      is_not = (λ e. (not_refused_exactly o).0 (told.1 e), λ h. told.0 ((not_refused_exactly o).1 h));
    }

-- THE THEOREM of an edition with a fault: it refuses every file
pub edition_first : (edition : ℕ) {cause : Cause} {column : ℕ} → edition_fault edition ≡ at cause column → (file : List ℕ) → check_of edition file ≡ Some (Err (nowhere cause))
edition_first edition {cause = cause} bad file =
    let x = nowhere cause in
    let e = stays.edition_refused edition bad in
    ap answer_of (stays.ran x (open_of edition) (cut file) e) ∙ stays.answer_of_lem (open_of edition) x e

-- what comes next, and all in turn
next_of : Running → Next → Running
next_of st (piece p) = line_of st p
next_of st (rest s) = end_of st s

outcome : (st : Running) (x : Next) → is_refusal (answer_of st) ≡ false → Outcome st (next_of st x) (next_rules st x)
unfolding next_of
outcome st (piece p) going = of_piece st going p
outcome st (rest s) going = of_rest st going s

ran : Running → List Next → Running
ran st [] = st
ran st (x ∷ xs) = ran (next_of st x) xs

ran_pieces : (st : Running) (ps : List (List ℕ)) (xs : List Next) → ran st (map piece ps ++ xs) ≡ ran (lines_of st ps) xs
unfolding next_of ran lines_of
ran_pieces st [] xs = refl
ran_pieces st (p ∷ ps) xs = ran_pieces (line_of st p) ps xs

ran_stays : (st : Running) (x : Refusal) (xs : List Next) → st.stage ≡ Refused x → ran st xs ≡ st
unfolding next_of ran
ran_stays st x [] e = refl
ran_stays st x (piece p ∷ xs) e = ap (λ next. ran next xs) (stays.line x st p e) ∙ ran_stays st x xs e
ran_stays st x (rest s ∷ xs) e = ap (λ next. ran next xs) (stays.ends x st s e) ∙ ran_stays st x xs e

-- at the end, where all rules hold, the file is accepted
end_accepted : (st : Running) (left : List ℕ) → all_hold (next_rules st (rest left)) ≡ true → is_accepted (answer_of (end_of st left)) ≡ true
unfolding all_hold end_of closed_at answer_at
end_accepted st [] h = by st.stage refl (both_left (ended st.stage) true h)
  where
    by : (s : Stage) → st.stage ≡ s → ended s ≡ true → is_accepted (answer_of (closed_at s st)) ≡ true
    by Start e t = absurd (false≢true t)
    by BetweenBatches e t = absurd (false≢true t)
    by InBatch e t = absurd (false≢true t)
    by Ended e t = refl
    by Closed e t = ap (λ s. is_accepted (answer_at s st)) e
    by (Refused x) e t = absurd (false≢true t)
end_accepted st (b ∷ s) h = absurd (false≢true (both_right (end_rule st).holds false h))

module _ (edition : ℕ) (is_current : current edition ≡ true) (file : List ℕ) where
  -- a first fault leads to its refusal
  fault_refused : (x : Refusal) → FirstFaultOfFile edition file x → check_of edition file ≡ Some (Err x)
  unfolding next_of ran
  fault_refused x f =
      let w = f.fault in
      let st = state_behind edition w.earlier in
      let known = state_known edition is_current w.earlier (earlier_clear w) w.all_hold_lem in
      let given =
      by_refused (outcome st w.here (goes_on edition is_current w.earlier (earlier_clear w) w.all_hold_lem)) x
      (record {
        number = f.number ∙ sym known.number;
        first_broken_lem = subst (λ s. FirstBroken (next_rules s w.here) x.cause x.column) (sym known.is) w.first_broken_lem;
      }) in
      let stopped = ran_stays (next_of st w.here) x w.later (stays.stage_of_lem (next_of st w.here) x given) in
      let opened = open_of edition in
      ap answer_of
      (sym (ran_pieces opened (cut file).pieces (rest (cut file).rest ∷ [])) ∙ ap (ran opened) w.split ∙
      ran_pieces opened w.earlier (w.here ∷ w.later) ∙ stopped) ∙
      given

  -- and where there is none the file is accepted
  none_accepted : NoFault (rules_behind edition) file → is_accepted (check_of edition file) ≡ true
  none_accepted none =
      let known = state_known edition is_current (cut file).pieces (cut_is_cut file).pieces_clear none.pieces_hold_lem in
      end_accepted (state_behind edition (cut file).pieces) (cut file).rest
      (subst (λ s. all_hold (next_rules s (rest (cut file).rest)) ≡ true) (sym known.is) none.rest_holds)

  -- one of the two it is
  pub none_or_refused : NoFault (rules_behind edition) file ⊎ ((x : Refusal) × FirstFaultOfFile edition file x)
  none_or_refused = by (none_or_first (rules_behind edition) file)
    where
      by : NoFault (rules_behind edition) file ⊎ ((cause : Cause) × (column : ℕ) × FirstFault (rules_behind edition) file cause column) →
          NoFault (rules_behind edition) file ⊎ ((x : Refusal) × FirstFaultOfFile edition file x)
      by (inl none) = inl none
      by (inr (cause, column, w)) =
          inr (record { cause = cause; «record» = suc (length w.earlier); column = column }, record { fault = w; number = refl })

  refused_from : (x : Refusal) → check_of edition file ≡ Some (Err x) → NoFault (rules_behind edition) file ⊎ ((x : Refusal) × FirstFaultOfFile edition file x) →
      FirstFaultOfFile edition file x
  refused_from x e (inl none) = absurd (true≢false (sym (none_accepted none) ∙ ap is_accepted e))
  refused_from x e (inr (y, f)) =
      let given = fault_refused y f in
      let same : y ≡ x = cc in
      subst (FirstFaultOfFile edition file) same f

  accepted_from : is_accepted (check_of edition file) ≡ true → NoFault (rules_behind edition) file ⊎ ((x : Refusal) × FirstFaultOfFile edition file x) →
      NoFault (rules_behind edition) file
  accepted_from a (inl none) = none
  accepted_from a (inr (y, f)) = absurd (true≢false (sym a ∙ ap is_accepted (fault_refused y f)))

  -- THE THEOREM of a file
  pub first_fault_decides : FirstFaultDecides edition file
  unfolding card_file_row
  first_fault_decides =
      record {
        is_refused_lem = λ x. (λ e. refused_from x (same_answer _ (Some (Err x)) e) none_or_refused, λ f. ap card_file_row (fault_refused x f));
        is_accepted_lem = (
          λ a. accepted_from (accepted_told (check_of edition file) ∙ a) none_or_refused,
          λ none. sym (accepted_told (check_of edition file)) ∙ none_accepted none,
        );
      }
