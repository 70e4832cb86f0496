-- The answer of a file to a question that writes: "Order: 1, then 2, then records from the first on", with 22 "right after 1"; 2, "output shorter than what is to be written",
-- comes before any record.
use Rattle.std.specs.Prelude.{ℕ, List, [], ◌∷◌, ◌++◌, leb, Ok, Err, Some}
use Rattle.refusal.specs.declared.Cause.TheVariants.{OutputTooShort}
use Rattle.refusal.specs.Nowhere.{nowhere}
use Rattle.refusal.specs.Rules.{Rule, rule_at, first_broken}
use Rattle.edition.specs.Known.{edition_rules}
use Rattle.card_file.specs.CardFile.{check_of}
use Rattle.refusal.specs.Fault.{Judged}
use Rattle.card_run.specs.Answer.{CardAnswer}

-- the rules before any record
abbrev pub room_rules : ℕ → ℕ → ℕ → List Rule
room_rules edition need room = edition_rules edition ++ (rule_at OutputTooShort 0 (leb need room) ∷ [])

-- the file's own answer, where none of them is broken
abbrev pub answer_behind : Judged → CardAnswer → CardAnswer
answer_behind (Ok none) answer = answer
answer_behind (Err fault) answer = Some (Err (nowhere fault.cause))

unfoldable pub answer_with_room : ℕ → List ℕ → ℕ → ℕ → CardAnswer
answer_with_room edition file need room = answer_behind (first_broken (room_rules edition need room)) (check_of edition file)
