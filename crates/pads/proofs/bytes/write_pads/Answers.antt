use Rattle.std.proofs.Common.{◌≡◌, ◌/◌, ◌<◌, [], length, sym, ◌∙◌, arith}
use Rattle.std.proofs.lemmas.List.{set-get_or}
use Rattle.pads.specs.Stored.{pads_of}
use Rattle.pads.proofs.Fronts.{get_or-written_low, filled_more, filled_all, length-pads_of, pad_read}
use Rattle.pads.proofs.bytes.write_pads.Goals as goal

pub loop-number-preserved : goal.loop-number-preserved
loop-number-preserved c =
    let bs = c.args.bytes.now in
    let ps = pads_of bs in
    let xs = c.args.places.now in
    let i = c.loop-number.number in
    let there = c.in-Some.ensures.lookup.3 in
    let long : length ps ≡ length bs / 8 = length-pads_of bs in
    let many : length c.as_chunks.result.0.now ≡ length bs / 8 = c.as_chunks.ensures.front_len in
    let low : i < length bs / 8 = omega (arith, there.0) in
    let pad = pad_read bs c.in-Some.pad.now c.as_chunks.result.0.now i low c.as_chunks.ensures.front (there.1 []) in
    filled_more ps xs c.loop-number.places i c.loop-number.invariant _ (omega arith) (c.from_le_bytes.ensures ∙ pad ∙ sym (get_or-written_low ps xs i (omega arith) (omega arith)))

pub returns-in_default : goal.returns-in_default
returns-in_default c =
    let long = length-pads_of c.args.bytes.now in
    let many = c.as_chunks.ensures.front_len in
    let past = c.in_default.ensures.lookup.3 in
    set-get_or c.loop-number.places _ 0
    ∙ filled_all (pads_of c.args.bytes.now) c.args.places.now c.loop-number.places c.loop-number.number c.loop-number.invariant (omega arith) (omega (arith, past, long, many))

pub returns : goal.returns
returns c = filled_all (pads_of c.args.bytes.now) c.args.places.now c.loop-number.places c.loop-number.number c.loop-number.invariant (omega arith) (omega arith)
