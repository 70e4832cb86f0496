-- What a contract is held to: one answer for each input, and wrong answers that it rules out.
-- As the toolchain makes it, a contract is a claim about lifetimes, arguments, an answer and the arguments at exit. Its clause is an assertion of the logic, and is read here, in
-- the closed model, as the fact that it states.
use Rattle.std.specs.Prelude.{ℕ, ◌≡◌, List}
use contract.Lifetimes.{Lfts}
use contract.Monad.{Fun}
use base.Fml.{Lft}
use base.Logic.{emp}
use prog.Memory.{Memory}
use prog.Routine.{Routine}
use types.Logic.{Logic}
use denote.Triple.Clauses.{Ended, AtExit}
use borrow.Fn.World.{Pr, ArgsD, ResD, w₀}
use borrow.Fn.Read.{ReadAt, no_know}
use borrow.Fn.Claims.{AllOf}
use Rattle.std.specs.Borrow.{Bor, MutBor}
use Rattle.std.specs.declared.rt.LibcRuntime.{LibcRuntime}
use Rattle.std.specs.declared.fs.File.{File}

-- what a contract says of lifetimes, arguments, an answer and the arguments at exit
abbrev pub Claim : Ended → Type 1
Claim T = (κs : Lfts T.signature.lifetimes) → ArgsD T.signature κs → ResD T.signature κs → AtExit T κs → Type 0

-- what the toolchain's contracts take, of the closed model
abbrev pub logic : Logic w₀.𝓤
logic = w₀.𝓛

abbrev pub memory : Memory → Pr w₀
memory = w₀.𝓜.mem

abbrev pub run : Routine → Fun w₀.𝓤
run = w₀.𝓡.returns

-- the fact that a clause states
abbrev pub fact_of : (clause : Pr w₀) → ReadAt w₀ (λ w. emp w.𝓤) no_know clause → Type 0
fact_of clause read = AllOf read.owes

-- "For any two answers that satisfy the statement, equality is proved"
abbrev pub OneAnswer : {L : Type 0} {A R S : L → Type 0} → ((κs : L) → A κs → R κs → S κs → Type 0) → Type 0
OneAnswer {L} {A} {R} {S} meets = (κs : L) (a : A κs) (r r' : R κs) (s s' : S κs) → meets κs a r s → meets κs a r' s' → r ≡ r'

-- the same of a part that is handed back: equal in content and in place
abbrev pub OnePart : {L : Type 0} {A S : L → Type 0} → ((κs : L) → A κs → Bor (List ℕ) → S κs → Type 0) → Type 0
OnePart {L} {A} {S} meets =
    (κs : L) (a : A κs) (r r' : Bor (List ℕ)) (s s' : S κs) → meets κs a r s → meets κs a r' s' → (r.now ≡ r'.now) × (r.ref_ptr ≡ r'.ref_ptr)

-- the same of an answer and of what a lent buffer holds at the end
abbrev pub OneOutcome :
    {L : Type 0} {A R S : L → Type 0} → ((κs : L) → S κs → List ℕ) → ((κs : L) → A κs → R κs → S κs → Type 0) → Type 0
OneOutcome {L} {A} {R} {S} left meets =
    (κs : L) (a : A κs) (r r' : R κs) (s s' : S κs) → meets κs a r s → meets κs a r' s' → (r ≡ r') × (left κs s ≡ left κs s')

-- of a question that tells its answer in a lent row, and writes into a second lent buffer: one row, and one content
abbrev pub OneRowAndOutput :
    {L : Type 0} {A R S : L → Type 0} →
    ((κs : L) → S κs → List ℕ) → ((κs : L) → S κs → List ℕ) → ((κs : L) → A κs → R κs → S κs → Type 0) → Type 0
OneRowAndOutput {L} {A} {R} {S} row output meets =
    (κs : L) (a : A κs) (r r' : R κs) (s s' : S κs) → meets κs a r s → meets κs a r' s' → (row κs s ≡ row κs s') × (output κs s ≡ output κs s')

-- of these arguments, none of which changes, a contract takes the right answer, and not the wrong one
abbrev pub Tells : {A R : Type 0} → (A → R → A → Type 0) → A → R → R → Type 0
Tells meets a right wrong = meets a right a × (meets a wrong a → ⊥)

-- an answer, and what the arguments are at exit
pub record Outcome (R S : Type 0) : Type 0 where
  pub answer : R
  pub exit : S

-- of these arguments a contract takes the right outcome, and not the wrong one
abbrev pub TellsOutcome : {A R S : Type 0} → (A → R → S → Type 0) → A → Outcome R S → Outcome R S → Type 0
TellsOutcome meets a right wrong = meets a right.answer right.exit × (meets a wrong.answer wrong.exit → ⊥)

-- lent bytes, and a part of them that begins at a place
abbrev pub part : ℕ → List ℕ → Bor (List ℕ)
part place s = record { ref_ptr = (0, place); now = s }

abbrev pub lent : List ℕ → Bor (List ℕ)
lent = part 0

-- bytes that are lent to be written
abbrev pub lent_mut : List ℕ → MutBor (List ℕ)
lent_mut s = record { ref_ptr = (0, 0); ghost_name = 0; now = s }

-- what a program asks the system by, lent; and an opened file, lent to be read
abbrev pub Runtime : Type 0
Runtime = Bor LibcRuntime

abbrev pub Opened : Type 0
Opened = MutBor File

-- the lifetimes of one that is lent, of two, of three and of four
abbrev pub one : Lft → Lfts 1
one κ = (κ, tt)

abbrev pub two : Lft → Lfts 2
two κ = (κ, (κ, tt))

abbrev pub three : Lft → Lfts 3
three κ = (κ, (κ, (κ, tt)))

abbrev pub four : Lft → Lfts 4
four κ = (κ, (κ, (κ, (κ, tt))))
