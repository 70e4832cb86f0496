-- WHAT THE STATE IS behind pieces that keep the rules: the run stands at the state that is written out from their records, cut at the top. By induction on the
-- pieces, behind records that came.
use Prim.Native.Nat.{ℕ, min}
use mathlib.Core.Path.{◌≡◌, refl, sym, ◌∙◌, ap, subst}
use mathlib.Core.List.{List, [], ◌∷◌, ◌++◌, append-nil, append_assoc}
use mathlib.Core.Bool.{true, cond}
use native.Mathlib.Omega.{arith}
use lib.ListN.{length-map}
use lib.Dec.{lit≤}
use Rattle.refusal.specs.Rules.{all_hold}
use Rattle.refusal.proofs.Rules.{none_broken}
use Rattle.text.proofs.Alphabets.{both_left, both_right}
use Rattle.totals.specs.Sum.{top}
use Rattle.lines.specs.Lines.{ends_in_cr, without_last}
use Rattle.first_fault.specs.InTurn.{piece, records_in, pieces_hold}
use Rattle.payroll_run.specs.declared.running.Running.{Running}
use Rattle.payroll_run.specs.State.{opened, moved, next_number}
use Rattle.payroll_file.specs.PayrollFile.{unended_of, line_of, lines_of}
use Rattle.payroll_kept.specs.FirstFault.{end_rule}
use Rattle.payroll_kept.specs.FirstFaultOfFile.{next_rules, rules_behind}
use Rattle.payroll_kept.specs.State.{stayed, those, amounts_of, plain_state, state_behind, StateKnown}
use Rattle.payroll_kept.proofs.Going.{Going}
use Rattle.payroll_kept.proofs.Plain.{cap}
use Rattle.payroll_kept.proofs.Next.{none_broken as no_fault}
use Rattle.payroll_kept.proofs.Steps.{took_record, step, stepped}
use Rattle.payroll_kept.proofs.Known.{clash}
use Rattle.payroll_kept.proofs.Pieces.{piece_goes_on}
use Rattle.payroll_kept.proofs.WrittenOut.{plain_of, Begun, begun_behind, one_more}
use Rattle.payroll_kept.proofs.Few.{Few, few_behind, at_most_three}

-- records that came: a run that is not refused stands at what is written out from them, cut at the top
pub record Came (seen : List (List ℕ)) (st : Running) : Type 0 where
  pub is : st ≡ cap (plain_of seen)
  pub going : Going st
  pub begun : Begun seen
  pub few : Few (plain_of seen)

-- what few there are are not cut
whole : (rs : List (List ℕ)) → Few (plain_of rs) → cap (plain_of rs) ≡ plain_state rs
whole rs few =
    let st = plain_of rs in
    let batches : min st.batches top ≡ st.batches = omega (arith, few.batches) in
    let details : min st.batch.details top ≡ st.batch.details = omega (arith, few.details) in
    let records : min st.batch.records top ≡ st.batch.records = omega (arith, few.records, few.details, at_most_three st.stage) in
    λ i. moved st.stage (stayed st.records) (batches i) (stayed st.payments) (stayed st.amount)
    (record { records = records i; details = details i; sum = stayed st.batch.sum }) st

-- a piece whose rules hold ends in CR
ends : (st : Running) (p : List ℕ) → all_hold (next_rules st (piece p)) ≡ true → ends_in_cr p ≡ true
unfolding all_hold
ends st p h = both_left (ends_in_cr p) _ (both_right (end_rule st).holds _ h)

-- one piece more that keeps the rules, at what is written out and at the state itself, and all of them
came_more : (seen : List (List ℕ)) (p : List ℕ) → Came seen (cap (plain_of seen)) → all_hold (next_rules (cap (plain_of seen)) (piece p)) ≡ true →
    Came (seen ++ (without_last p ∷ [])) (line_of (cap (plain_of seen)) p)
came_more seen p came h =
    let st = plain_of seen in
    let r = without_last p in
    let on = piece_goes_on (cap st) p came.going (none_broken (next_rules (cap st) (piece p)) h) in
    let line : line_of (cap st) p ≡ took_record (cap st) r = ap (λ t. cond t (took_record (cap st) r) (unended_of (cap st))) (ends (cap st) p h) in
    let took = stepped st r (subst Going line on) in
    let kind = took.kind in
    let is = (no_fault kind st r took.next).is.kind in
    let more = one_more seen r kind is came.begun took.next.place in
    record {
      is = line ∙ step kind st r took.next ∙ ap cap more;
      going = on;
      begun = begun_behind seen r kind is;
      few = subst Few more (few_behind st r came.few kind took.next);
    }

pub came_one : (seen : List (List ℕ)) (st : Running) (p : List ℕ) → Came seen st → all_hold (next_rules st (piece p)) ≡ true → Came (seen ++ (without_last p ∷ [])) (line_of st p)
came_one seen st p came h =
    let e = came.is in
    subst (λ s. Came (seen ++ (without_last p ∷ [])) (line_of s p)) (sym e)
    (came_more seen p (subst (Came seen) e came) (subst (λ s. all_hold (next_rules s (piece p)) ≡ true) e h))

all_came : (ps : List (List ℕ)) (seen : List (List ℕ)) (st : Running) → Came seen st → pieces_hold rules_behind seen ps ≡ true → Came (seen ++ records_in ps) (lines_of st ps)
unfolding pieces_hold lines_of
all_came [] seen st came h = subst (λ l. Came l st) (sym (append-nil seen)) came
all_came (p ∷ ps) seen st came h =
    let more = seen ++ (without_last p ∷ []) in
    let now = both_left (all_hold (next_rules (plain_state seen) (piece p))) (pieces_hold rules_behind more ps) h in
    let one = came_one seen st p came (subst (λ s. all_hold (next_rules s (piece p)) ≡ true) (sym (came.is ∙ whole seen came.few)) now) in
    subst (λ l. Came l (lines_of (line_of st p) ps)) (append_assoc seen (without_last p ∷ []) (records_in ps))
    (all_came ps more (line_of st p) one (both_right (all_hold (next_rules (plain_state seen) (piece p))) (pieces_hold rules_behind more ps) h))

pub none_came : Came [] opened
unfolding those amounts_of
none_came =
    record { is = refl; going = λ x q. clash (cc); begun = λ q. refl; few = record { batches = lit≤ tt; details = lit≤ tt; records = lit≤ tt; all = lit≤ tt } }

module _ (pieces : List (List ℕ)) (hold : pieces_hold rules_behind [] pieces ≡ true) where
  -- such a run is not refused
  pub goes_on : Going (state_behind pieces)
  goes_on = (all_came pieces [] opened none_came hold).going

  -- THE THEOREM of the state
  pub state_known : StateKnown pieces
  state_known =
      let came = all_came pieces [] opened none_came hold in
      record {
        is = came.is ∙ whole (records_in pieces) came.few;
        number = ap next_number came.is ∙ omega (arith, length-map pieces without_last);
      }
