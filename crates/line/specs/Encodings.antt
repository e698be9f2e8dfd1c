-- What the code has of the bytes of an answer.
use Rattle.std.specs.Prelude.{◌≡◌, ℕ, ◌-◌, List, ◌++◌, length, replicate}
use Rattle.line.specs.declared.answer.AnswerBytes.{AnswerBytes}

-- these bytes, with zeros behind them to thirteen
pub record Encodes (bytes : List ℕ) (encoding : AnswerBytes) : Type 0 where
  pub holds : encoding.bytes ≡ bytes ++ replicate (13 - length bytes) 0
  pub long : encoding.count ≡ length bytes
