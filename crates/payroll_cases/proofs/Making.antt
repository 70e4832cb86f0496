-- Laws of a file that is made record by record: records that are put in two parts are put as one list; and when there is room for bytes.
use Prim.Native.Nat.{ℕ, suc, ◌+◌, ◌≤◌, ◌<◌}
use mathlib.Core.Path.{◌≡◌, refl, sym, ap, ◌∙◌}
use mathlib.Core.List.{List, [], ◌∷◌, ◌++◌, foldl-append}
use native.Mathlib.Numerals.{add-one}
use lib.ListN.{length, take, drop}
use borrow.Author.Tests.{le-leb, lt-leb}
use Rattle.payroll_cases.specs.declared.record.Record.{Record}
use Rattle.payroll_cases.specs.declared.made.Plan.{Plan}
use Rattle.payroll_cases.specs.Record.{record_of}
use Rattle.payroll_cases.specs.Kinds.{payment}
use Rattle.payroll_cases.specs.Made.{Made, made, put_behind, put_all, payments_of, batch_of, alike_batches}

-- where there is no room, and where there is
pub no_room : (m : Made) (bytes : List ℕ) → length m.out < m.size + length bytes → m ≡ put_behind m bytes
unfolding put_behind
no_room m bytes h = rw (lt-leb _ _ h)

pub has_room : (m : Made) (bytes : List ℕ) → m.size + length bytes ≤ length m.out →
    made (take m.size m.out ++ (bytes ++ drop (m.size + length bytes) m.out)) (m.size + length bytes) ≡ put_behind m bytes
unfolding put_behind
has_room m bytes h = rw (le-leb _ _ h)

-- bytes that are copied between what stands in front and behind
pub put_there : (out bytes copied behind : List ℕ) (at : ℕ) → at + length bytes ≤ length out → copied ≡ bytes → behind ≡ drop (at + length bytes) out →
    made (take at out ++ (copied ++ behind)) (at + length bytes) ≡ put_behind (made out at) bytes
put_there out bytes copied behind at room e f = rw (e, f) (has_room (made out at) bytes room)

-- a record that is another is put as that
pub put_as : (m : Made) {after : Made} {what other : Record} → what ≡ other → after ≡ put_behind m (record_of what) → after ≡ put_behind m (record_of other)
put_as m e f = f ∙ ap (λ r. put_behind m (record_of r)) e

-- records behind those that are put
pub put_on : (m : Made) (rs ss : List Record) {before after : Made} → before ≡ put_all m rs → after ≡ put_all before ss → after ≡ put_all m (rs ++ ss)
put_on m rs ss e f = f ∙ ap (λ b. put_all b ss) e ∙ sym (foldl-append (λ n what. put_behind n (record_of what)) m rs ss)

-- one payment more, and one batch
pub none_paid : (m : Made) (batch amount : ℕ) → m ≡ put_all m (payments_of batch amount 0)
unfolding payments_of
none_paid m batch amount = refl

pub one_paid : (m : Made) (batch amount n : ℕ) {before after : Made} → before ≡ put_all m (payments_of batch amount n) →
    after ≡ put_behind before (record_of (payment batch amount (n + 1))) → after ≡ put_all m (payments_of batch amount (n + 1))
unfolding payments_of
one_paid m batch amount n e f = rw add-one (put_on m (payments_of batch amount n) (payment batch amount (suc n) ∷ []) e (rw add-one at f))

pub no_batch_lem : (m : Made) (plan : Plan) → m ≡ put_all m (alike_batches plan 0)
unfolding alike_batches
no_batch_lem m plan = refl

pub one_batch : (m : Made) (plan : Plan) (n : ℕ) {before after : Made} → before ≡ put_all m (alike_batches plan n) →
    after ≡ put_all before (batch_of (n + 1) plan.payments plan.amount plan.sum) → after ≡ put_all m (alike_batches plan (n + 1))
unfolding alike_batches
one_batch m plan n e f = rw add-one (put_on m (alike_batches plan n) (batch_of (suc n) plan.payments plan.amount plan.sum) e (simp add-one at f))
