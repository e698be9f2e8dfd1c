-- What a call ensured of the value that was then taken out of its result.
use Rattle.std.proofs.Common.{◌≡◌, false, rules}
use Rattle.std.specs.Prelude.{Some, Ok, Err, Result, MatchResult}
use Rattle.std.specs.Result.{result_ok, is_ok}

pub taken : {T E : Type 0} (P : T → Type 0) (Q : E → Type 0) (r : Result T E) (v : T) → Some v ≡ result_ok r → MatchResult r P Q → P v
taken P Q (Ok x) v e h = search rules
taken P Q (Err x) v e h = search rules

pub refused : {T E : Type 0} (P : T → Type 0) (Q : Type 0) (r : Result T E) → false ≡ is_ok r → MatchResult r P (λ _. Q) → Q
refused P Q (Ok x) e h = search rules
refused P Q (Err x) e h = h
