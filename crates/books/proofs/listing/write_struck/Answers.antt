use Rattle.std.proofs.Common.{rules, tests, ℕ, ◌<◌, length, refl, sym, ◌∙◌, arith}
use Rattle.std.proofs.lemmas.List.{length_push}
use Rattle.std.proofs.lemmas.Iterator.{YieldsList-from_slice}
use Rattle.std.proofs.lemmas.Iterator.Consumers.{YieldsList-from_filter, YieldsList-from_enumerate, YieldsList-at, YieldsList-turn, YieldsList-end}
use Rattle.books.specs.Fates.{fate_is}
use Rattle.books.specs.declared.fate.Fate.{Fate}
use Rattle.books.specs.declared.fate.Fate.TheVariants.{Struck}
use Rattle.pads.proofs.Fronts.{get_or-written_low, filled_more, filled_all}
use Rattle.books.proofs.Strucks.{strucks, length-strucks, length-numbered, numbered_at, listed}
use Rattle.books.proofs.listing.write_struck.Goals as goal

pub loop-place-init : goal.loop-place-init
loop-place-init c =
    record {
      chain =
          YieldsList-at c.into_iter-place-iterator.ensures.into_iter_gives
          (YieldsList-from_enumerate
          (YieldsList-at c.enumerate-place-items.ensures.source
          (YieldsList-from_filter _ (λ (p : ℕ × Fate). fate_is Struck p.1)
          (YieldsList-at c.filter-struck.ensures.source
          (YieldsList-from_enumerate (YieldsList-at c.enumerate.ensures.source (YieldsList-from_slice c.args.fates.now c.iter.ensures.rest)) c.enumerate.ensures.count))
          c.filter-struck.ensures.closure (λ x r q k. search (rules, tests))))
          c.enumerate-place-items.ensures.count);
      filled = record { front = λ k l. absurd (omega arith); back = λ k l. refl };
    }

pub bounds-places-place : goal.bounds-places-place
bounds-places-place c =
    let fs = c.args.fates.now in
    let t = YieldsList-turn c.loop-place.invariant.chain c.loop-place.yielded _ c.loop-place.yielded_by _ _ _ c.in-Some.is c.next.ensures.steps in
    let p = numbered_at fs (length c.loop-place.yielded) _ t.0 t.1 in
    omega (arith, t.0, p.0, c.requires.room, length-numbered fs)

pub loop-place-preserved : goal.loop-place-preserved
loop-place-preserved c =
    let fs = c.args.fates.now in
    let xs = c.args.places.now in
    let i = length c.loop-place.yielded in
    let t = YieldsList-turn c.loop-place.invariant.chain c.loop-place.yielded _ c.loop-place.yielded_by _ _ _ c.in-Some.is c.next.ensures.steps in
    let p = numbered_at fs i _ t.0 t.1 in
    let inside : i < length (strucks 0 fs) = omega (arith, t.0, length-numbered fs, length-strucks 0 fs) in
    let low : i < length xs = omega (arith, inside, length-strucks 0 fs, c.requires.room) in
    record {
      chain = c.loop-place.invariant.chain;
      filled =
          rw (p.0, length_push c.loop-place.yielded _)
          (filled_more (strucks 0 fs) xs c.loop-place.places i c.loop-place.invariant.filled c.in-Some.number (omega arith) (p.1 ∙ sym (get_or-written_low (strucks 0 fs) xs i inside low)));
    }

pub returns : goal.returns
returns c =
    let fs = c.args.fates.now in
    let t = YieldsList-end c.loop-place.invariant.chain c.loop-place.yielded _ c.loop-place.yielded_by _ _ c.in-None.is c.next.ensures.steps in
    listed fs c.args.places.now c.loop-place.places c.requires.room
    (filled_all (strucks 0 fs) c.args.places.now c.loop-place.places (length c.loop-place.yielded) c.loop-place.invariant.filled (omega arith)
    (omega (arith, t.1, length-numbered fs, length-strucks 0 fs)))
