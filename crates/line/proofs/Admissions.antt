-- What is known once all is tested that is tested before the first command.
use Rattle.std.proofs.Common.{◌≡◌, ℕ, ◌+◌, ◌*◌, ◌/◌, ◌^◌, ◌<◌, ◌≤◌, List, length, Ok, sym, ap, ◌∙◌, subst, arith}
use Rattle.std.proofs.lemmas.List.FromFn.{length-map-range_with_len}
use Rattle.std.proofs.ByRecursion.{All-from_get_or}
use Rattle.std.proofs.lemmas.Bool.Decides.{nat_tests}
use Rattle.std.proofs.lemmas.Grind.{common_steps}
use Rattle.jobs.specs.Jobs.{card_read}
use Rattle.jobs.proofs.Reading.{byte_low, length-words_of, get_or-words_of}
use Rattle.jobs.specs.Reading.{Bytes, word_at, words_of, byte_words}
use Rattle.jobs.specs.Roots.{Card}
use Rattle.pads.specs.Stored.{pad_at, pads_of, sheet_read}
use Rattle.books.specs.Runs.{Books, started, starting}
use Rattle.line.specs.Lines.{sized, lent, admitted}

pads_long : (sheet : List ℕ) → length (pads_of sheet) ≡ length sheet / 8
unfolding pads_of
pads_long sheet = length-map-range_with_len (λ i. pad_at sheet (8 * i)) 0 (length sheet / 8)

module _
    (card sheet words places places₀ pads : List ℕ) (long room count : ℕ) (b : Books)
    (sizes : Ok tt ≡ sized long room)
    (card_done : Ok words ≡ card_read card)
    (sheet_done : Ok count ≡ (sheet_read sheet places₀).0)
    (places_are : places ≡ (sheet_read sheet places₀).1)
    (places_long : length places ≡ 256)
    (places₀_long : length places₀ ≡ 256)
    (pads_lent : Ok pads ≡ lent places count)
    (opened : Ok b ≡ starting pads pads)
  where
    pads_are : pads ≡ pads_of sheet
    pads_are = let long = pads_long sheet in grind (arith, nat_tests, common_steps)

    -- all is admitted, and the books are opened over the sheet's pads; the card has 656 bytes, and there are few pads
    pub start :
        (admitted card sheet long room ≡ Ok (words, pads_of sheet)) × (b ≡ started (pads_of sheet) (pads_of sheet)) × (length card ≡ 656)
        × (length (pads_of sheet) ≤ 256)
    start =
        let few = pads_long sheet in
        let same = pads_are in
        (grind (arith, nat_tests), grind (arith, nat_tests), grind (arith, nat_tests), grind (arith, nat_tests))

word_low : (bs : List ℕ) → Bytes bs → (i : ℕ) → word_at bs i < 2 ^ 32
word_low bs h i = omega (arith, byte_low bs h (4 * i), byte_low bs h (4 * i + 1), byte_low bs h (4 * i + 2), byte_low bs h (4 * i + 3))

-- the words of a card's bytes
pub card_read_well : (card : List ℕ) → Bytes card → length card ≡ 656 → Card (byte_words card)
card_read_well card bytes long =
    let n : ℕ = 2 * ((length card + 7) / 8) in
    let is : n ≡ 164 = ap (λ k. 2 * ((k + 7) / 8)) long in
    let words : length (words_of n card) ≡ n = length-words_of n card in
    record {
      long = words ∙ is;
      words =
          All-from_get_or (λ x. x < 2 ^ 32) (words_of n card) 0
          (λ i low. subst (λ x. x < 2 ^ 32) (sym (get_or-words_of n card i (omega arith))) (word_low card bytes i));
    }
