use Rattle.sheets.proofs.Readings.{read_whole}
use Rattle.sheets.proofs.reader.Reader.open.Goals as goal

pub returns-clause-reading : goal.returns-clause-reading
returns-clause-reading c = read_whole c.args.words.now
