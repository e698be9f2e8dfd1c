-- The worked examples, computed.
use Rattle.std.proofs.Common.{refl}
use Rattle.std.specs.Int.{int_wrap}
use Rattle.jobs.specs.Reading.{words_of}
use Rattle.jobs.specs.Roots.{first_words, next_words, level_tags, top_tag}
use Rattle.jobs.specs.Examples.{WorkedExamples}

pub worked : WorkedExamples
unfolding int_wrap words_of first_words next_words level_tags top_tag
worked = record {
  nh_largest = refl;
  nhs_largest = refl;
  nh_middle = refl;
  nhs_middle = refl;
  star_largest = refl;
  mmh_largest = refl;
  star_square = refl;
  mmh_square = refl;
  nhs_first = refl;
  nhs_second = refl;
  empty_0 = refl;
  empty_7 = refl;
  byte_2 = refl;
  byte_0 = refl;
}
