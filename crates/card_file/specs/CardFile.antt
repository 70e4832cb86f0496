-- A card file read whole: at each record "13, 12, 3, 4, ..".
use Rattle.std.specs.Prelude.{ℕ, List, [], ◌∷◌, cond}
use mathlib.Core.List.{foldl}
use Rattle.refusal.specs.declared.Cause.TheVariants.{NoLineEnd}
use Rattle.lines.specs.Lines.{Lines, cut, ends_in_cr, without_last}
use Rattle.card_run.specs.declared.stage.Stage.{Stage}
use Rattle.card_run.specs.declared.running.Running.{Running}
use Rattle.card_run.specs.Stage.{is_open}
use Rattle.card_run.specs.Running.{open_of, refused_at, late_at, closed_of}
use Rattle.card_run.specs.Answer.{answer_of, CardAnswer}
use Rattle.card_file.specs.Feeding.{fed_of}

-- 3, "no LF in the rest, or the next LF has no CR right before it in the record"; 13, "bytes after the end", comes first
unfoldable pub unended_at : Stage → Running → Running
unended_at stage st = cond (is_open stage) (refused_at NoLineEnd 0 st) (late_at stage st)

abbrev pub unended_of : Running → Running
unended_of st = unended_at st.stage st

-- the piece before an LF: a record, where it ends in CR
abbrev pub line_of : Running → List ℕ → Running
line_of st piece = cond (ends_in_cr piece) (fed_of st (without_last piece)) (unended_of st)

-- one piece after the other
unfoldable pub lines_of : Running → List (List ℕ) → Running
lines_of st pieces = foldl line_of st pieces

-- what is left behind the last LF: nothing, and the file is closed (12, "file ends too early"), or bytes without a line end
unfoldable pub end_of : Running → List ℕ → Running
end_of st [] = closed_of st
end_of st (b ∷ s) = unended_of st

-- the state that a file's lines lead to
abbrev pub ran_of : Running → Lines → Running
ran_of st ls = end_of (lines_of st ls.pieces) ls.rest

-- the answer of a file under an edition
abbrev pub check_of : ℕ → List ℕ → CardAnswer
check_of edition file = answer_of (ran_of (open_of edition) (cut file))
