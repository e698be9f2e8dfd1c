-- The family that a command chooses.
use Rattle.std.specs.Prelude.{None, Option}
use Rattle.families.specs.Names.{numbered}
use Rattle.families.specs.declared.name.FamilyName.{FamilyName}
use Rattle.line.specs.Commands.{Order}
use Rattle.line.specs.Commands.Order.{choose, open_job, feed_byte, feed_block, seal_job, strike_pad, check_job}

abbrev pub chosen : Order → Option FamilyName
chosen (choose number) = numbered number
chosen (open_job label) = None
chosen (feed_byte byte) = None
chosen (feed_block bytes) = None
chosen seal_job = None
chosen strike_pad = None
chosen (check_job number tag) = None
