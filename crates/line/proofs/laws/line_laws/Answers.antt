use Rattle.line.proofs.Codes.{written_read, read_written}
use Rattle.line.proofs.Lawful.{lines_lawful}
use Rattle.line.proofs.Wholes.{all_read_again, all_written, lines_extend}
use Rattle.line.proofs.laws.line_laws.Goals as goal

pub returns : goal.returns
returns c = record { written = written_read; read = read_written; lists = all_read_again; lines = all_written; extend = lines_extend; lawful = lines_lawful }
