-- How a file is saved: which call of the system follows which, by how the last one went.
use Rattle.std.specs.Prelude.{ℕ, ◌+◌, ◌≤◌, ◌<◌, ◌≡◌, ◌⊎◌, ◌↔◌, Bool, true, false, cond, ◌&&◌, ◌||◌, length, replicate}
use mathlib.Core.List.{List, [], ◌∷◌, ◌++◌, Memᴰ}
use Rattle.out_file.specs.declared.step.Step.{Step}
use Rattle.out_file.specs.declared.step.Step.TheVariants.{Create, Narrow, Write, Store, Close, Rename, SyncFolder, Abandon, Remove, Kept, Unsynced, Gone}
use Rattle.out_file.specs.declared.step.Went.{Went}
use Rattle.out_file.specs.declared.step.Went.TheVariants.{Well, Last, Wrong}

-- the one where a call went well, and the other where it did not
abbrev pub if_well : Went → Step → Step → Step
if_well Well good bad = good
if_well Last good bad = bad
if_well Wrong good bad = bad

-- a write that went well is followed by another, the last by the rest of the way
abbrev pub after_write : Went → Step
after_write Well = Write
after_write Last = Store
after_write Wrong = Abandon

-- the next call, by how the last one went; an end stays
abbrev pub next_of : Step → Went → Step
next_of Create went = if_well went Narrow Gone
next_of Narrow went = if_well went Write Abandon
next_of Write went = after_write went
next_of Store went = if_well went Close Abandon
next_of Close went = if_well went Rename Remove
next_of Rename went = if_well went SyncFolder Remove
next_of SyncFolder went = if_well went Kept Unsynced
next_of Abandon went = Remove
next_of Remove went = Gone
next_of Kept went = Kept
next_of Unsynced went = Unsynced
next_of Gone went = Gone

-- whether it has ended
abbrev pub is_over : Step → Bool
is_over Create = false
is_over Narrow = false
is_over Write = false
is_over Store = false
is_over Close = false
is_over Rename = false
is_over SyncFolder = false
is_over Abandon = false
is_over Remove = false
is_over Kept = true
is_over Unsynced = true
is_over Gone = true

-- whether it waits for what is to be written
abbrev pub is_write : Step → Bool
is_write Create = false
is_write Narrow = false
is_write Write = true
is_write Store = false
is_write Close = false
is_write Rename = false
is_write SyncFolder = false
is_write Abandon = false
is_write Remove = false
is_write Kept = false
is_write Unsynced = false
is_write Gone = false

-- whether no call follows by itself
abbrev pub is_resting : Step → Bool
is_resting step = is_over step || is_write step

abbrev pub is_well : Went → Bool
is_well Well = true
is_well Last = false
is_well Wrong = false

-- the answer of a call that went well, and of one that failed
abbrev pub went_of : Bool → Went
went_of true = Well
went_of false = Wrong

-- where the answers of the calls lead, from a step and from the start
unfoldable pub run_from : Step → List Went → Step
run_from step [] = step
run_from step (went ∷ answers) = run_from (next_of step went) answers

abbrev pub run_of : List Went → Step
run_of answers = run_from Create answers

-- the calls of a run, each with its answer
unfoldable pub calls_from : Step → List Went → List (Step × Went)
calls_from step [] = []
calls_from step (went ∷ answers) = (step, went) ∷ calls_from (next_of step went) answers

-- in a run from the start a call was asked for, with this answer; with any; with one that is not `Well`
abbrev pub Asked : Step → Went → List Went → Type 0
Asked step went answers = Memᴰ (step, went) (calls_from Create answers)

abbrev pub AskedFor : Step → List Went → Type 0
AskedFor step answers = (went : Went) × Asked step went answers

abbrev pub Failed : Step → List Went → Type 0
Failed step answers = (went : Went) × Asked step went answers × (went ≡ Well → ⊥)

-- how many calls an end is away at most, the writes that go well aside
abbrev pub calls_left : Step → ℕ
calls_left Create = 7
calls_left Narrow = 6
calls_left Write = 5
calls_left Store = 4
calls_left Close = 3
calls_left Rename = 2
calls_left SyncFolder = 1
calls_left Abandon = 2
calls_left Remove = 1
calls_left Kept = 0
calls_left Unsynced = 0
calls_left Gone = 0

-- 1 for a write that went well; how many a run has of them
abbrev pub one_more : Step → Went → ℕ
one_more step went = cond (is_write step && is_well went) 1 0

unfoldable pub writes_from : Step → List Went → ℕ
writes_from step [] = 0
writes_from step (went ∷ answers) = one_more step went + writes_from (next_of step went) answers

-- the answers with which a file is given its path: it was made and narrowed, so many writes went well, the last of them too, and it was stored and closed
abbrev pub all_well : ℕ → List Went
all_well n = Well ∷ Well ∷ (replicate n Well ++ (Last ∷ Well ∷ Well ∷ []))

-- What is decided, whatever the calls answer.
pub record Decided : Type 0 where
  -- the name is asked for only if everything before went well
  pub whole : (answers : List Went) → run_of answers ≡ Rename → (n : ℕ) × (answers ≡ all_well n)
  -- in every other case the removal of what was made is asked for
  pub cleared : (answers : List Went) → is_over (run_of answers) ≡ true → Failed Create answers ⊎ Asked Rename Well answers ⊎ AskedFor Remove answers
  -- once it has its path, its removal is not asked for
  pub stays : (answers : List Went) → Asked Rename Well answers → AskedFor Remove answers → ⊥
  -- the folder is synced only once it has its path
  pub named : (answers : List Went) → AskedFor SyncFolder answers → Asked Rename Well answers
  -- nothing of it stays where it could not be made, or was to be removed, and only there
  pub gone : (answers : List Went) → run_of answers ≡ Gone ↔ Failed Create answers ⊎ AskedFor Remove answers
  -- a failed sync is told, and only that
  pub unsynced : (answers : List Went) → run_of answers ≡ Unsynced ↔ Failed SyncFolder answers
  -- and so is one that went well
  pub kept : (answers : List Went) → run_of answers ≡ Kept ↔ Asked SyncFolder Well answers
  -- an end stays
  pub over : (step : Step) (answers : List Went) → is_over step ≡ true → run_from step answers ≡ step
  -- each call brings an end nearer, but for a write that went well
  pub nearer : (step : Step) (went : Went) → is_over step ≡ false → calls_left (next_of step went) < calls_left step + one_more step went
  -- so it ends once the writes end: with at most seven calls besides them
  pub ends : (answers : List Went) → 7 + writes_from Create answers ≤ length answers → is_over (run_of answers) ≡ true
