use Rattle.storage_number.proofs.Laws.{again, variant}
use Rattle.storage_number.proofs.reading.unpack.Goals as goal

pub returns-clause-variant : goal.returns-clause-variant
returns-clause-variant c = variant c.args.word c.point_of.result c.point_of.ensures

pub returns-clause-again : goal.returns-clause-again
returns-clause-again c = again c.args.word c.point_of.result c.point_of.ensures
