-- Which standard stream a descriptor names.
use Rattle.std.specs.Prelude.{ℤ, pos, negsuc, cond, eqb}
use Rattle.files.specs.declared.writing.Standard.{Standard}
use Rattle.files.specs.declared.writing.Standard.TheVariants.{Output, Error}

-- 2 is standard error, and any other number standard output
abbrev pub stream_of : ℤ → Standard
stream_of (pos n) = cond (eqb n 2) Error Output
stream_of (negsuc n) = Output
