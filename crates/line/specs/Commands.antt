-- Which commands a line holds.
use Rattle.std.specs.Prelude.{◌≡◌, ℕ, zero, suc, ◌+◌, cond, List, [], ◌∷◌, ◌++◌, length, take, drop, Ok, Err, Result, ◌==◌, nat_le}
use Rattle.line.specs.Bytes.{bytes_of, number_of}
use Rattle.line.specs.declared.command.Command.{Command}
use Rattle.line.specs.declared.command.Command.TheVariants.{Choose, Open, Byte, Block, Seal, Strike, Check}
use Rattle.line.specs.declared.refusal.LineFault.{LineFault}
use Rattle.line.specs.declared.refusal.LineFault.TheVariants.{NoSuchCommand, CutOff}

-- A command, by what it asks.
pub data Order : Type 0 where
  -- a family, by its number
  choose : ℕ → Order
  -- a job with this label
  open_job : ℕ → Order
  feed_byte : ℕ → Order
  -- sixteen bytes
  feed_block : List ℕ → Order
  seal_job : Order
  strike_pad : Order
  -- under this number, this tag
  check_job : ℕ → ℕ → Order

-- a command in bytes
abbrev pub encoded : Order → List ℕ
encoded (choose family) = 0x46 ∷ bytes_of 1 family
encoded (open_job label) = 0x4f ∷ bytes_of 4 label
encoded (feed_byte byte) = 0x42 ∷ bytes_of 1 byte
encoded (feed_block bytes) = 0x51 ∷ bytes
encoded seal_job = 0x5a ∷ []
encoded strike_pad = 0x58 ∷ []
encoded (check_job number tag) = 0x43 ∷ bytes_of 4 number ++ bytes_of 8 tag

-- how many bytes it has
abbrev pub width : Order → ℕ
width (choose family) = 2
width (open_job label) = 5
width (feed_byte byte) = 2
width (feed_block bytes) = 17
width seal_job = 1
width strike_pad = 1
width (check_job number tag) = 13

-- what is made of the first n of some bytes, or the refusal of fewer
abbrev pub operands : {X : Type 0} → ℕ → List ℕ → (List ℕ → X) → Result X LineFault
operands n bytes made = cond (nat_le n (length bytes)) (Ok (made (take n bytes))) (Err CutOff)

-- the command that a byte begins, with the bytes that follow it
abbrev pub begun : ℕ → List ℕ → Result Order LineFault
begun byte rest =
    cond (byte == 0x46) (operands 1 rest (λ xs. choose (number_of xs)))
    (cond (byte == 0x4f) (operands 4 rest (λ xs. open_job (number_of xs)))
    (cond (byte == 0x42) (operands 1 rest (λ xs. feed_byte (number_of xs)))
    (cond (byte == 0x51) (operands 16 rest feed_block)
    (cond (byte == 0x5a) (Ok seal_job)
    (cond (byte == 0x58) (Ok strike_pad)
    (cond (byte == 0x43) (operands 12 rest (λ xs. check_job (number_of (take 4 xs)) (number_of (drop 4 xs)))) (Err NoSuchCommand)))))))

-- the command at the front of some bytes; there is none in no bytes
abbrev pub first : List ℕ → Result Order LineFault
first [] = Err CutOff
first (byte ∷ rest) = begun byte rest

-- a command and its place in the line
pub record Placed : Type 0 where
  pub place : ℕ
  pub order : Order

-- how a line ends: all its bytes were read, or there is no command at a place
pub data End : Type 0 where
  all_read : End
  stopped : LineFault → ℕ → End

-- the commands of a line, and its end
pub record Reading : Type 0 where
  pub commands : List Placed
  pub end : End

abbrev pub nothing : End → Reading
nothing end = record { commands = []; end = end }

abbrev pub behind : Placed → Reading → Reading
behind command rest = record { commands = command ∷ rest.commands; end = rest.end }

-- what is read of bytes that begin at a place, in at most as many commands as the first number says
unfoldable pub read_from : ℕ → ℕ → List ℕ → Reading
read_from zero place bytes = nothing all_read
read_from (suc most) place [] = nothing all_read
read_from (suc most) place (byte ∷ rest) =
    elim (first (byte ∷ rest)) [
      | Ok order ↦ behind (record { place = place; order = order }) (read_from most (place + width order) (drop (width order) (byte ∷ rest)))
      | Err fault ↦ nothing (stopped fault place)
    ]

-- what is read of a line from a place on: every command has a byte, so there are no more commands than bytes
abbrev pub read_at : List ℕ → ℕ → Reading
read_at line at = read_from (length (drop at line)) at (drop at line)

-- what a command of the code asks
abbrev pub order_of : Command → Order
order_of (Choose family) = choose family
order_of (Open label) = open_job label
order_of (Byte byte) = feed_byte byte
order_of (Block bytes place) = feed_block bytes.now
order_of Seal = seal_job
order_of Strike = strike_pad
order_of (Check number tag) = check_job number tag

-- a block that was read lies at this place of the line
abbrev pub InPlace : ℕ → Result Command LineFault → Type 0
InPlace at (Ok (Choose family)) = Unit {0}
InPlace at (Ok (Open label)) = Unit {0}
InPlace at (Ok (Byte byte)) = Unit {0}
InPlace at (Ok (Block bytes place)) = place ≡ at
InPlace at (Ok Seal) = Unit {0}
InPlace at (Ok Strike) = Unit {0}
InPlace at (Ok (Check number tag)) = Unit {0}
InPlace at (Err fault) = Unit {0}
