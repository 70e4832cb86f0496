-- A file that is made and taken record by record.
use Rattle.std.specs.Prelude.{ℕ}
use mathlib.Core.List.{List, [], ◌∷◌, ◌++◌, map, foldl}
use Rattle.chunks.specs.Chunks.{joined_chunks}
use Rattle.payroll_stream.specs.declared.Stream.{Stream}
use Rattle.payroll_stream.specs.Stream.{taken_of}
use Rattle.payroll_cases.specs.declared.record.Record.{Record}
use Rattle.payroll_cases.specs.declared.made.Plan.{Plan}
use Rattle.payroll_cases.specs.Record.{record_of}
use Rattle.payroll_cases.specs.Made.{records_of, end_byte}

-- records, one after the other
abbrev pub taken_all : Stream → List Record → Stream
taken_all = foldl (λ s what. taken_of s (record_of what))

-- the bytes of a plan's file: its records, and the byte 1A
abbrev pub file_of : Plan → List ℕ
file_of plan = joined_chunks (map record_of (records_of plan) ++ (end_byte ∷ []))
