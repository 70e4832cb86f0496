-- What the state is behind pieces whose rules hold: each is a record that is taken, and leads from the state written out from those before it (WrittenOut) to that with one
-- record more. By induction on the pieces.
use Prim.Native.Nat.{ℕ, ◌≤◌}
use mathlib.Core.Path.{◌≡◌, sym, ◌∙◌, ap, subst}
use mathlib.Core.List.{List, [], ◌∷◌, ◌++◌, append-nil, append_assoc}
use mathlib.Core.Bool.{true, false, cond, true≢false}
use native.Mathlib.Omega.{arith}
use lib.ListN.{length, length-map}
use Rattle.refusal.specs.Rules.{all_hold}
use Rattle.refusal.proofs.Rules.{none_broken}
use Rattle.text.proofs.Alphabets.{both_left, both_right}
use Rattle.lines.specs.Lines.{no_lf, all_no_lf, ends_in_cr, without_last}
use Rattle.lines.proofs.Cuts.{with_cr_clear}
use Rattle.lines.proofs.Ends.{record_and_cr}
use Rattle.first_fault.specs.InTurn.{piece, records_in, pieces_hold}
use Rattle.edition.specs.Known.{current}
use Rattle.card_run.specs.declared.running.Running.{Running}
use Rattle.card_run.specs.Answer.{answer_at, answer_of}
use Rattle.card_run.specs.Running.{open_of, next_number, moved}
use Rattle.card_run.proofs.FileRows.{is_refusal}
use Rattle.card_file.specs.Feeding.{fed_of}
use Rattle.card_file.specs.CardFile.{unended_of, line_of, lines_of}
use Rattle.card_kept.specs.FirstFault.{end_rule, rules_from_kind, next_rules, rules_behind}
use Rattle.card_kept.specs.Kept.{sum_over, picked}
use Rattle.card_kept.specs.State.{how_many, transactions_in, plain_state, state_behind, StateKnown}
use Rattle.card_kept.proofs.Accepting.{opens, open_small}
use Rattle.card_kept.proofs.Next.{kept_right}
use Rattle.card_kept.proofs.Outcomes.{of_piece}
use Rattle.card_kept.proofs.PlainSteps.{Small, still_small, step, stepped}
use Rattle.card_kept.proofs.RecordsKept.{right_named}
use Rattle.card_kept.proofs.Stays as stays
use Rattle.card_kept.proofs.WrittenOut.{one_more}

-- these records have come: the state is theirs, and small, and not refused
record Came (edition : ℕ) (seen : List (List ℕ)) (st : Running) : Type 0 where
  is : st ≡ plain_state edition seen
  small : Small (plain_state edition seen)
  goes : is_refusal (answer_of st) ≡ false

module _ (edition : ℕ) (seen : List (List ℕ)) (small : Small (plain_state edition seen)) where
  -- one record more, that is taken
  record_more : (r : List ℕ) → no_lf r ≡ true → is_refusal (answer_of (fed_of (plain_state edition seen) r)) ≡ false →
      Came edition (seen ++ (r ∷ [])) (fed_of (plain_state edition seen) r)
  record_more r line goes =
      let st = plain_state edition seen in
      let took = stepped st r small line (λ x q. true≢false (sym (ap is_refusal (stays.answer_of_lem (fed_of st r) x q)) ∙ goes)) in
      let kind = took.kind in
      let right = kept_right kind st r took.kept in
      let more = one_more edition seen r kind right.known (right_named kind edition r right) in
      record {
        is = step st r small kind took.place took.kept ∙ more;
        small = subst Small more (still_small st r small kind took.kept);
        goes = goes;
      }

  -- one piece more whose rules hold: such a record, with its CR
  piece_more : (p : List ℕ) → no_lf p ≡ true → is_refusal (answer_of (plain_state edition seen)) ≡ false → all_hold (next_rules (plain_state edition seen) (piece p)) ≡ true →
      Came edition (seen ++ (without_last p ∷ [])) (line_of (plain_state edition seen) p)
  unfolding all_hold
  piece_more p clear going hold =
      let st = plain_state edition seen in
      let r = without_last p in
      let ends = both_left (ends_in_cr p) (all_hold (rules_from_kind st r)) (both_right (end_rule st).holds _ hold) in
      let is : line_of st p ≡ fed_of st r = ap (λ b. cond b (fed_of st r) (unended_of st)) ends in
      let line : no_lf r ≡ true = sym (with_cr_clear r) ∙ ap no_lf (sym (record_and_cr p ends)) ∙ clear in
      let goes = (of_piece st going p).kept (none_broken (next_rules st (piece p)) hold) in
      subst (Came edition (seen ++ (r ∷ []))) (sym is) (record_more r line (sym (ap (λ next. is_refusal (answer_of next)) is) ∙ goes))

-- one piece after the other
all_came : (edition : ℕ) (ps : List (List ℕ)) (seen : List (List ℕ)) (st : Running) → Came edition seen st → all_no_lf ps ≡ true → pieces_hold (rules_behind edition) seen ps ≡ true →
    Came edition (seen ++ records_in ps) (lines_of st ps)
unfolding lines_of pieces_hold all_no_lf
all_came edition [] seen st came clear hold = subst (λ rs. Came edition rs st) (sym (append-nil seen)) came
all_came edition (p ∷ ps) seen st came clear hold =
    let next = seen ++ (without_last p ∷ []) in
    let here = all_hold (next_rules (plain_state edition seen) (piece p)) in
    let at = came.is in
    let more =
    piece_more edition seen came.small p (both_left (no_lf p) (all_no_lf ps) clear)
    (subst (λ s. is_refusal (answer_of s) ≡ false) at came.goes)
    (both_left here (pieces_hold (rules_behind edition) next ps) hold) in
    subst (λ rs. Came edition rs (lines_of (line_of st p) ps)) (append_assoc seen (without_last p ∷ []) (records_in ps))
    (all_came edition ps next (line_of st p)
    (subst (λ s. Came edition next (line_of s p)) (sym at) more)
    (both_right (no_lf p) (all_no_lf ps) clear)
    (both_right here (pieces_hold (rules_behind edition) next ps) hold))

-- an edition that is current is not refused from the start, and none has come there
none_came : (edition : ℕ) → current edition ≡ true → Came edition [] (open_of edition)
unfolding answer_at how_many transactions_in picked sum_over
none_came edition is_current =
    let opened = open_of edition in
    let is : opened ≡ plain_state edition [] = ap (λ stage. moved stage opened.numbers opened.batch opened) (opens edition is_current) in
    record { is = is; small = subst Small is (open_small edition); goes = ap (λ st. is_refusal (answer_of st)) is }

module _ (edition : ℕ) (is_current : current edition ≡ true) (pieces : List (List ℕ)) (clear : all_no_lf pieces ≡ true) (hold : pieces_hold (rules_behind edition) [] pieces ≡ true) where
  came : Came edition (records_in pieces) (state_behind edition pieces)
  came = all_came edition pieces [] (open_of edition) (none_came edition is_current) clear hold

  -- such a run is not refused
  pub goes_on : is_refusal (answer_of (state_behind edition pieces)) ≡ false
  goes_on = came.goes

  -- NSEQ has six digits
  pub at_most : length pieces ≤ 999_999
  at_most = omega (arith, came.small.records, length-map pieces without_last)

  -- THE THEOREM of the state
  pub state_known : StateKnown edition pieces
  state_known = record { is = came.is; number = ap next_number came.is ∙ omega (arith, at_most, length-map pieces without_last) }
