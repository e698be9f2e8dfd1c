use Rattle.std.proofs.Common.{◌≡◌, ◌+◌, ◌%◌, ◌∙◌}
use native.Mathlib.Nat.{mod-add-mod, add-mod-mod}
use Rattle.families.proofs.family.Family.add_pad.Goals as goal

pub returns : goal.returns
returns g c =
    let n = g.Self.Family.meaning.modulus in
    let is = g.met.Self.Family.modulus_is in
    let sum : (c.args.tag % n + c.args.pad % n) % n ≡ (c.args.tag + c.args.pad) % n = add-mod-mod (c.args.tag % n) c.args.pad n ∙ mod-add-mod c.args.tag n c.args.pad in
    cc
