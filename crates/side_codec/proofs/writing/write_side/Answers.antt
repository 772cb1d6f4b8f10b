use Rattle.std.proofs.Common.{ap, ◌∙◌}
use Rattle.side_codec.specs.Sides.{read_side}
use Rattle.side_codec.proofs.SidesLaw.{reads_back}
use Rattle.side_codec.proofs.writing.write_side.Goals as goal

pub returns-in-Ok-clause-reads_back : goal.returns-in-Ok-clause-reads_back
returns-in-Ok-clause-reads_back c =
    ap read_side c.in-Ok.ensures.spelling ∙ reads_back c.args.side.now c.in-Ok.ensures.written
