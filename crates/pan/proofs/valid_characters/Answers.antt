-- `pan::valid_characters` meets its contract: the part behind the leading zeros reaches to the end of the field.
use Rattle.std.proofs.Common.{◌∙◌, ◌-◌, ap, refl, arith, length, drop, length-drop}
use lib.Seq.{take_all}
use Rattle.pan.proofs.Zeros.{taken}
use Rattle.pan.proofs.valid_characters.Goals as goal

pub returns : goal.returns
returns c =
    let field = c.args.field.now in
    let zeros = c.leading_zeros-zeros in
    let counted = zeros.ensures ∙ taken field in
    record {
      holds = take_all (length field - zeros.result) (drop zeros.result field) (omega (arith, length-drop zeros.result field)) ∙
          ap (λ z. drop z field) counted;
      block = refl;
      begins = omega (arith, counted);
    }
