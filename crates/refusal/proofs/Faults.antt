-- Laws of `earlier_of`, the first of two faults: faults and it are a monoid, in which a fault joined with itself stays. By cases on the first fault.
use Prim.Native.Nat.{ℕ}
use mathlib.Core.Path.{◌≡◌, refl}
use Rattle.std.specs.Prelude.{Ok, Err}
use Rattle.refusal.specs.declared.Cause.{Cause}
use Rattle.refusal.specs.declared.Fault.{Fault}
use Rattle.refusal.specs.Fault.{Judged, nothing, at, earlier_of}

-- no fault first: the second
pub nothing_first : (f : Judged) → earlier_of nothing f ≡ f
nothing_first f = refl

-- no fault second: the first
pub nothing_second : (f : Judged) → earlier_of f nothing ≡ f
nothing_second (Ok none) = refl
nothing_second (Err fault) = refl

-- the first of three, however they are joined
pub associative : (f g h : Judged) → earlier_of (earlier_of f g) h ≡ earlier_of f (earlier_of g h)
associative (Ok none) g h = refl
associative (Err fault) g h = refl

pub idempotent : (f : Judged) → earlier_of f f ≡ f
idempotent (Ok none) = refl
idempotent (Err fault) = refl

-- no fault is not a fault
pub not_both : {c : Cause} {k : ℕ} → nothing ≡ at c k → ⊥
not_both e = cc

-- what was judged tells the fault
pub same_fault : {f g : Fault} → ◌≡◌ {A = Judged} (Err f) (Err g) → f ≡ g
same_fault e = cc
