-- What the contracts of `refusal` are held to. Behind a function's name: the wrong programs that are ruled out.
use Rattle.std.specs.Prelude.{true, false}
use Rattle.refusal.specs.declared.Cause.TheVariants.{EditionUnknown, EditionRetired, OutputTooShort, ByteNotAllowed, ValueNotAllowed, KindUnknown}
use Rattle.refusal.specs.contracts.Cause.number as Number
use Rattle.refusal.specs.contracts.Cause.numbered as Numbered
use Rattle.refusal.specs.contracts.Refusal.nowhere as NowhereOf
use Rattle.refusal.specs.contracts.rule as Rule
use Rattle.refusal.specs.contracts.earlier as Earlier
use borrow.Fn.Read.{r_last}
use Rattle.answers.specs.Held.{Claim, fact_of, logic, memory, run, OneAnswer, Tells}
use Rattle.refusal.specs.Fault.{at, nothing}

-- what each contract says
abbrev NumberSays : Claim Number.ended
NumberSays κs a r s = fact_of ((Number.clauses logic memory run κs a).ensures tt r s) (r_last _)

abbrev NumberedSays : Claim Numbered.ended
NumberedSays κs a r s = fact_of ((Numbered.clauses logic memory run κs a).ensures tt r s) (r_last _)

abbrev NowhereOfSays : Claim NowhereOf.ended
NowhereOfSays κs a r s = fact_of ((NowhereOf.clauses logic memory run κs a).ensures tt r s) (r_last _)

abbrev RuleSays : Claim Rule.ended
RuleSays κs a r s = fact_of ((Rule.clauses logic memory run κs a).ensures tt r s) (r_last _)

abbrev EarlierSays : Claim Earlier.ended
EarlierSays κs a r s = fact_of ((Earlier.clauses logic memory run κs a).ensures tt r s) (r_last _)

pub record Refusal : Type 0 where
  -- `Cause::number`: counted from 0; 7 and 8 exchanged; 22 by its place in the list
  pub number : OneAnswer NumberSays
  pub number_from_one : Tells (NumberSays tt) (ByteNotAllowed, tt) 7 6
  pub number_exchanged : Tells (NumberSays tt) (ValueNotAllowed, tt) 8 7
  pub number_retired : Tells (NumberSays tt) (EditionRetired, tt) 22 18
  -- `Cause::numbered`: counted from 0; 22 not looked for, and found at its place in the list
  pub numbered : OneAnswer NumberedSays
  pub numbered_from_one : Tells (NumberedSays tt) (7, tt) ByteNotAllowed ValueNotAllowed
  pub numbered_retired : Tells (NumberedSays tt) (22, tt) EditionRetired EditionUnknown
  pub numbered_place : Tells (NumberedSays tt) (18, tt) EditionUnknown EditionRetired
  -- `Refusal::nowhere`: at the first record; another cause
  pub nowhere : OneAnswer NowhereOfSays
  pub nowhere_record : Tells (NowhereOfSays tt) (EditionUnknown, tt) (record { cause = EditionUnknown; «record» = 0; column = 0 }) (record { cause = EditionUnknown; «record» = 1; column = 0 })
  pub nowhere_cause : Tells (NowhereOfSays tt) (OutputTooShort, tt) (record { cause = OutputTooShort; «record» = 0; column = 0 }) (record { cause = EditionUnknown; «record» = 0; column = 0 })
  -- `rule`: a fault where the rule holds; none where it does not
  pub rule : OneAnswer RuleSays
  pub rule_held : Tells (RuleSays tt) (KindUnknown, (1, (true, tt))) nothing (at KindUnknown 1)
  pub rule_broken : Tells (RuleSays tt) (KindUnknown, (1, (false, tt))) (at KindUnknown 1) nothing
  -- `earlier`: the second of two faults; none, though there is a second
  pub earlier : OneAnswer EarlierSays
  pub earlier_first : Tells (EarlierSays tt) (at KindUnknown 1, (at ByteNotAllowed 3, tt)) (at KindUnknown 1) (at ByteNotAllowed 3)
  pub earlier_second : Tells (EarlierSays tt) (nothing, (at ByteNotAllowed 3, tt)) (at ByteNotAllowed 3) nothing
