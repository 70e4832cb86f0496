-- "Credits and debits each get a count and a total of net of their own, kept apart from sales": the adjustments of one type.
use Rattle.std.specs.Prelude.{ℕ}
use Rattle.totals.specs.Sum.{capped}
use Rattle.card_run.specs.declared.adjusted.Adjusted.{Adjusted}

abbrev pub no_adjustment : Adjusted
no_adjustment = record { count = 0; net = 0 }

-- one more, of a net; both numbers stay at the top of 64 bits
abbrev pub one_adjustment_more : ℕ → Adjusted → Adjusted
one_adjustment_more net a = record { count = capped a.count 1; net = capped a.net net }
