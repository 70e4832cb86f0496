-- The files that are made: what each is about. A payment of the largest amount is 999999999999999 centavos, and a thousand of them are 999999999999999000.
use Rattle.std.specs.Prelude.{ℕ, ◌+◌, ◌*◌, Option, None}
use Rattle.payroll_cases.specs.declared.made.Plan.{Plan}

-- one batch of so many payments of the largest amount, with this sum
abbrev pub one_batch : ℕ → ℕ → Plan
one_batch payments sum = record { batches = 1; payments = payments; amount = 999999999999999; sum = sum; last = None; records = payments + 4 }

-- so many batches of a thousand payments of the largest amount, and one more of one payment where there is a `last`
abbrev pub large_batches : ℕ → Option ℕ → ℕ → Plan
large_batches batches last records =
    record { batches = batches; payments = 1000; amount = 999999999999999; sum = 999999999999999000; last = last; records = records }

-- so many batches with no payment
abbrev pub empty_batches : ℕ → Plan
empty_batches batches = record { batches = batches; payments = 0; amount = 0; sum = 0; last = None; records = batches * 2 + 2 }

-- one batch of so many payments of one centavo
abbrev pub long_batch : ℕ → Plan
long_batch payments = record { batches = 1; payments = payments; amount = 1; sum = payments; last = None; records = payments + 4 }
