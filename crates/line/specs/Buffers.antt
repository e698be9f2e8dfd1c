-- Answers in a buffer.
use Rattle.std.specs.Prelude.{ℕ, ◌+◌, List, ◌++◌, length, take, drop}
use Rattle.line.specs.Numbers.{answer_bytes}
use Rattle.line.specs.declared.answer.Answer.{Answer}
use Rattle.std.specs.List.{flat_map}

-- answers in bytes, one behind the other
abbrev pub answers_bytes : List Answer → List ℕ
answers_bytes answers = flat_map answer_bytes answers

-- a buffer after bytes were written into it at a place
abbrev pub put : ℕ → List ℕ → List ℕ → List ℕ
put at bytes buffer = take at buffer ++ (bytes ++ drop (at + length bytes) buffer)
