use Rattle.std.proofs.Common.{refl, ◌∙◌}
use Rattle.line.proofs.Digits.{bytes_low}
use Rattle.line.proofs.answer.sealed.Goals as goal

pub returns : goal.returns
returns c = rw (c.to_le_bytes.ensures ∙ bytes_low 4 c.args.number, c.to_le_bytes-2.ensures ∙ bytes_low 8 c.args.tag) (record { holds = refl; long = refl })
