-- What a transfer answers.
use Rattle.std.specs.Prelude.{ℕ, ◌+◌, ◌%◌, cond, List, length, Err, Result, slice_index}
use Rattle.std.specs.Result.{result_map_both}
use Rattle.books.specs.Opening.{fits}
use Rattle.books.specs.Table.{laid, checked}
use Rattle.exchange.specs.declared.refusal.Refusal.{Refusal}
use Rattle.exchange.specs.declared.refusal.Refusal.TheVariants.{Open, Check}

-- over 1 to 256 pads, the first job is sealed as number 0, and the answer of the check decides; `sent` and `received`
-- are the root tags of the two jobs
abbrev pub answered : (modulus sent received tag : ℕ) → List ℕ → Result (ℕ × ℕ) Refusal
answered modulus sent received tag pads =
    cond (fits (length pads))
    (result_map_both (λ _. (0, (sent + slice_index pads 0) % modulus)) Check (checked modulus received 0 tag (laid pads)).0)
    (Err (Open (record {})))
