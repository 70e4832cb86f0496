-- "The file may also be given record by record, without line ends".
use Rattle.std.specs.Prelude.{ℕ, List, [], ◌∷◌}
use Rattle.card_record.specs.Reading.{reading_of}
use Rattle.card_run.specs.declared.running.Running.{Running}
use Rattle.card_step.specs.Step.{took_of}

-- the next record's bytes, whatever they are: "one with LF is judged from 4 on like any other"
abbrev pub fed_of : Running → List ℕ → Running
fed_of st r = took_of st (reading_of st.edition r)

-- one record after the other
unfoldable pub fed_all : Running → List (List ℕ) → Running
fed_all st [] = st
fed_all st (r ∷ rs) = fed_all (fed_of st r) rs
