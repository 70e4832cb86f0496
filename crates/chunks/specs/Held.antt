-- A run over pieces, as a state and what is held in a buffer.
use Rattle.std.specs.Prelude.{◌≡◌}
use Rattle.chunks.specs.declared.Unfinished.{Unfinished}
use Rattle.chunks.specs.Unfinished.{held_by, holding}
use Rattle.chunks.specs.Chunks.{Run}

abbrev pub run_of : {S : Type 0} → S → Unfinished → Run S
run_of st u = record { state = st; held = held_by u }

-- a state and a buffer are those of a run
pub record Ran {S : Type 0} (state : S) (held : Unfinished) (run : Run S) : Type 0 where
  pub same_state : state ≡ run.state
  pub same_held : held ≡ holding run.held
