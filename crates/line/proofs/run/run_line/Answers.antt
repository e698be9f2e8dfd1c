use Rattle.std.proofs.Common.{ℕ, List, length, replicate, None, Ok, arith, sym, refl, ap, ◌∙◌}
use Rattle.books.specs.Runs.{Books}
use Rattle.pads.specs.Stored.{pads_of}
use Rattle.line.specs.Buffers.{put}
use Rattle.line.specs.Lines.{ran_with, unchosen_from}
use Rattle.jobs.proofs.Feeding.{bytes_typed}
use Rattle.jobs.specs.Reading.{byte_words}
use Rattle.line.proofs.Admissions.{start, card_read_well}
use Rattle.line.proofs.Lawful.{lines_lawful}
use Rattle.std.proofs.lemmas.Grind.{common_steps}
use Rattle.line.proofs.run.run_line.Goals as goal

pub returns : goal.returns
unfolding unchosen_from
returns c =
    let line : List ℕ = c.args.line.now in
    let buffer : List ℕ = c.args.answers.now in
    let words : List ℕ = c.in_ok-card.card in
    let all = c.in_ok-commands.ensures.start in
    let at_first =
    start c.args.card.now c.args.sheet.now words c.read_sheet.new.places (replicate 256 0)
    c.in_ok-pads.pads.pads.now (length line) (length buffer) c.in_ok-count.count _
    c.in_ok-commands.ensures.sizes c.in_ok-card.ensures c.in_ok-count.ensures.answer
    c.in_ok-count.ensures.places c.read_sheet.auto.places refl c.in_ok-pads.ensures
    c.in_ok-office.ensures.given
    in
    let said : Books → List ℕ = λ b. unchosen_from words line 0 (record { books = b; job = None }) in
    record {
      answer =
          ap Ok (rw (all.same_line, all.first_place) at c.answer_line.ensures.end ∙ ap (λ b. length (said b)) at_first.1)
          ∙ sym (ap (λ r. (ran_with r line buffer).0) at_first.0);
      buffer =
          rw (all.same_line, all.first_place) at c.answer_line.ensures.buffer ∙ ap (λ b. put 0 (said b) buffer) at_first.1
          ∙ sym (ap (λ r. (ran_with r line buffer).1) at_first.0);
      within = let same = c.answer_line.ensures.buffer in let end = c.answer_line.ensures.end in grind (arith, common_steps, c.answer_line.auto.answers);
      law =
          lines_lawful (byte_words c.args.card.now) (pads_of c.args.sheet.now) line
          (card_read_well c.args.card.now (bytes_typed c.args.card.now c.type_inv.card) at_first.2) at_first.3
          (bytes_typed line c.type_inv.line);
    }
