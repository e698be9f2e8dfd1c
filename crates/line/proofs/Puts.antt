-- Bytes that are written into a buffer, one part behind the other.
use Rattle.std.proofs.Common.{◌≡◌, ℕ, ◌+◌, ◌≤◌, List, [], ◌++◌, length, take, drop, sym, ap, ◌∙◌, append_assoc, add_assoc, arith, length-append}
use Rattle.std.proofs.lemmas.List.{take_at}
use Rattle.std.proofs.lemmas.Slice.{drop-append-drop}
use Rattle.std.proofs.lemmas.Grind.{common_steps}
use Rattle.line.specs.Buffers.{put}
use Rattle.line.specs.Outputs.{Left, Writes}
use Rattle.line.specs.declared.output.Output.{Output}

put_nothing : (at : ℕ) (buffer : List ℕ) → put at [] buffer ≡ buffer
put_nothing at buffer = grind (arith, common_steps)

-- one part behind the other is both at once
put_both : (at : ℕ) (front back buffer : List ℕ) → at + length front ≤ length buffer → put (at + length front) back (put at front buffer) ≡ put at (front ++ back) buffer
put_both at front back buffer room =
    let begun : List ℕ = take at buffer ++ front in
    let after : List ℕ = drop (at + length front) buffer in
    let long : length begun ≡ at + length front = grind (arith, common_steps) in
    let is : put at front buffer ≡ begun ++ after = sym (append_assoc (take at buffer) front after) in
    rw (is, take_at begun after (at + length front) long, drop-append-drop (at + length front) buffer begun (at + length front + length back) (omega arith) long)
    (simp (append_assoc, length-append {A = ℕ}, add_assoc))

-- a write keeps the buffer's length
pub length-put : (at : ℕ) (bytes buffer : List ℕ) → at + length bytes ≤ length buffer → length (put at bytes buffer) ≡ length buffer
length-put at bytes buffer room = grind (arith, common_steps)

pub writes_long : {bytes : List ℕ} {before after : Output} → before.used + length bytes ≤ length before.answers.now → Writes bytes before after → length after.answers.now ≡ length before.answers.now
writes_long {bytes} {before} room w = ap length w.buffer ∙ length-put before.used bytes before.answers.now room

module _ {whole rest : List ℕ} {before now : Output} (left : Left whole rest before now) where
  -- the rest, in other words
  pub left_same : (back : List ℕ) → rest ≡ back → Left whole back before now
  left_same back e = rw e at left

  -- a part more was written
  pub left_next :
      {after : Output} (part back : List ℕ) →
      rest ≡ part ++ back →
      now.used + length part ≤ length now.answers.now →
      Writes part now after →
      Left whole back before after
  left_next part back e room w =
      let long = ap length e in
      let both = put_both now.used part back now.answers.now room in
      let same = left.buffer in
      record { same_buffer = cc; end = grind (arith, common_steps, left.end, w.end); buffer = cc }

  -- the rest was written
  pub left_end : {after : Output} (part : List ℕ) → rest ≡ part → Writes part now after → Writes whole before after
  left_end part e w =
      let long = ap length e in
      record { same_buffer = cc; end = omega (arith, w.end, left.end); buffer = cc }

  -- nothing is left
  pub left_nothing : rest ≡ [] → Writes whole before now
  left_nothing e =
      let long = ap length e in
      let none = put_nothing now.used now.answers.now in
      record { same_buffer = left.same_buffer; end = omega (arith, left.end); buffer = cc }
