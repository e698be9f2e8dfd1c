-- Pads that are stored as bytes.
use Rattle.std.specs.Prelude.{ℕ, ◌+◌, ◌*◌, ◌/◌, ◌%◌, ◌^◌, cond, List, ◌++◌, map, length, take, drop, Ok, Err, Result, ◌==◌, slice_index}
use Rattle.pads.specs.declared.bytes.SheetError.{SheetError}
use Rattle.std.specs.List.{range_with_len}

-- the pad whose eight bytes begin at `at`, lowest byte first
abbrev pub pad_at : List ℕ → ℕ → ℕ
pad_at bytes at =
    slice_index bytes at + slice_index bytes (at + 1) * 2 ^ 8 + slice_index bytes (at + 2) * 2 ^ 16 + slice_index bytes (at + 3) * 2 ^ 24
    + slice_index bytes (at + 4) * 2 ^ 32 + slice_index bytes (at + 5) * 2 ^ 40 + slice_index bytes (at + 6) * 2 ^ 48 + slice_index bytes (at + 7) * 2 ^ 56

-- the pads that some bytes hold, one for each eight
unfoldable pub pads_of : List ℕ → List ℕ
pads_of bytes = map (λ i. pad_at bytes (8 * i)) (range_with_len 0 (length bytes / 8))

-- a list after another was written over its front, as far as it goes
abbrev pub written : List ℕ → List ℕ → List ℕ
written pads places = take (length places) pads ++ drop (length pads) places

-- what reading a sheet answers, and what the places then hold: bytes that are no multiple of eight are refused, and
-- all places stay
abbrev pub sheet_read : List ℕ → List ℕ → Result ℕ SheetError × List ℕ
sheet_read bytes places =
    cond (length bytes % 8 == 0) (Ok (length bytes / 8), written (pads_of bytes) places) (Err (record {}), places)
