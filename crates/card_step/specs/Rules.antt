-- The rules of a record at its place, in document 01's order: "4, 5, 6, single fields by position .., then the joined rules in the order below".
use Rattle.std.specs.Prelude.{ℕ, List, [], ◌∷◌, ◌++◌, Bool, false, eqb}
use Rattle.refusal.specs.declared.Cause.TheVariants.{KindUnknown, KindNotAllowedHere, SequenceWrong, TrailerDisagrees}
use Rattle.refusal.specs.Rules.{Rule, rule_at}
use Rattle.card_sale.specs.Cv.{joined_rules}
use Rattle.card_adjustment.specs.Aj.{joined_rules as adjustment_rules}
use Rattle.card_record.specs.declared.kind.Kind.{Kind}
use Rattle.card_record.specs.declared.kind.Kind.TheVariants.{A0, L0, Cv, Aj, L9, A9}
use Rattle.card_record.specs.declared.reading.Reading.{Reading}
use Rattle.card_record.specs.declared.reading.Reading.TheVariants.{
  Unknown as unknown,
  Faulty as faulty,
  A0 as a0,
  L0 as l0,
  Cv as cv,
  Aj as aj,
  L9 as l9,
  A9 as a9,
}
use Rattle.card_run.specs.declared.running.Running.{Running}
use Rattle.card_run.specs.Stage.{placed}
use Rattle.card_run.specs.Batch.{sums_to}
use Rattle.card_run.specs.Running.{next_number}

-- 5, "kind not allowed at this place"
abbrev pub place_rule : Running → Kind → Rule
place_rule st kind = rule_at KindNotAllowedHere 0 (placed st.stage kind)

-- "NSEQ equals the record's number (9)"; it has six digits: "A millionth record is refused by 9, unless an earlier rule refuses it"
abbrev pub nseq_rule : Running → ℕ → ℕ → Rule
nseq_rule st column nseq = rule_at SequenceWrong column (eqb nseq (next_number st))

-- "trailer fields by position (11)": "A field there that counts or sums must equal what its printed description says".
-- "A sum too large for its field equals none": a sum is a whole number, since no file brings it near the top of 64 bits, and a field has at most fourteen digits
abbrev pub trailer_rule : ℕ → Bool → Rule
trailer_rule column equal = rule_at TrailerDisagrees column equal

-- "Joined rules, in order", of a record whose width and fields are right; of L9 and A9 "Their NSEQ is checked like the others"; L9 counts and sums CV and AJ of the batch:
-- "Trailer fields that the document describes as covering adjustments now cover them; where no set is named, the set is CV and AJ"; A9 counts "every record of the file", and sums nothing
unfoldable pub joined_at : Running → Reading → List Rule
joined_at st unknown = []
joined_at st (faulty kind fault) = []
joined_at st (a0 r) = nseq_rule st 70 r.nseq ∷ []
joined_at st (l0 r) = nseq_rule st 13 r.nseq ∷ []
joined_at st (cv r) = nseq_rule st 194 r.nseq ∷ joined_rules r
joined_at st (aj r) = nseq_rule st 188 r.nseq ∷ adjustment_rules r
joined_at st (l9 r) =
    nseq_rule st 23 r.nseq ∷ trailer_rule 3 (eqb r.count st.batch.transactions) ∷ trailer_rule 9 (sums_to r.sum st.batch) ∷ []
joined_at st (a9 r) = nseq_rule st 9 r.nseq ∷ trailer_rule 3 (eqb r.count (next_number st)) ∷ []

-- THE LIST, of a record of a kind: 5, the rules of its width and fields, and the joined rules of what it reads as
abbrev pub placed_rules : Running → Kind → List Rule → Reading → List Rule
placed_rules st kind own reading = place_rule st kind ∷ (own ++ joined_at st reading)

-- that list as reading answers it: of a record's own rules the first that is broken, if any; 4 for a kind that is not read
unfoldable pub rules_of : Running → Reading → List Rule
rules_of st unknown = rule_at KindUnknown 1 false ∷ []
rules_of st (faulty kind fault) = placed_rules st kind (rule_at fault.cause fault.column false ∷ []) (faulty kind fault)
rules_of st (a0 r) = placed_rules st A0 [] (a0 r)
rules_of st (l0 r) = placed_rules st L0 [] (l0 r)
rules_of st (cv r) = placed_rules st Cv [] (cv r)
rules_of st (aj r) = placed_rules st Aj [] (aj r)
rules_of st (l9 r) = placed_rules st L9 [] (l9 r)
rules_of st (a9 r) = placed_rules st A9 [] (a9 r)
