-- A refusal at no record and no column: where document 01's list gives "0, 0".
use Rattle.refusal.specs.declared.Cause.{Cause}
use Rattle.refusal.specs.declared.Refusal.{Refusal}

abbrev pub nowhere : Cause → Refusal
nowhere cause = record { cause = cause; «record» = 0; column = 0 }
