-- What a list of pads answers, if only its front counts.
use Rattle.std.proofs.Common.{◌≡◌, ℕ, ◌<◌, ◌≤◌, List, take, Err, arith}
use Rattle.std.proofs.lemmas.Grind.{common_steps}
use Rattle.pads.specs.Sources.{asked}

pub asked_past : (c n : ℕ) (ps : List ℕ) → c ≤ n → asked (take c ps) n ≡ Err (record {})
asked_past c n ps high = grind (arith, common_steps)

pub asked_take : (c n : ℕ) (ps : List ℕ) → n < c → asked (take c ps) n ≡ asked ps n
asked_take c n ps low = grind (arith, common_steps)
