use Rattle.line_stream.proofs.RunLemmas.{want-ran}
use Rattle.line_stream.proofs.stream.take_text.Goals as goal

pub returns-in_default-clause-ran : goal.returns-in_default-clause-ran
returns-in_default-clause-ran g c =
    want-ran g.T.Taker.acts c.args.taker.now c.args.host.now (g.S.Source.left c.args.source.now) _
