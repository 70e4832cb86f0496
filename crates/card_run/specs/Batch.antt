-- The open batch: what the count and the sum of L9 must equal. Of the kinds that document 003 prints there CV and AJ are read, and "A set of kinds not read here is empty".
use Rattle.std.specs.Prelude.{ℕ, ◌+◌, Bool, eqb}
use Rattle.totals.specs.Sum.{capped}
use Rattle.card_run.specs.declared.batch.OpenBatch.{OpenBatch}

-- how many transactions there are, and what of them is added and what is taken
abbrev pub no_transaction : OpenBatch
no_transaction = record { transactions = 0; added = 0; taken = 0 }

-- one transaction more, with an amount that is added; all numbers stay at the top of 64 bits
abbrev pub one_added : ℕ → OpenBatch → OpenBatch
one_added amount b = record { transactions = capped b.transactions 1; added = capped b.added amount; taken = b.taken }

-- one more, with an amount that is taken: "a debit subtracted"
abbrev pub one_taken : ℕ → OpenBatch → OpenBatch
one_taken amount b = record { transactions = capped b.transactions 1; added = b.added; taken = capped b.taken amount }

-- a sum is what is added less what is taken, as whole numbers: "a sum below zero equals no trailer"
abbrev pub sums_to : ℕ → OpenBatch → Bool
sums_to sum b = eqb (sum + b.taken) b.added
