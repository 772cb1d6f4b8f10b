use Rattle.std.proofs.Common.{arith}
use Rattle.host_model.specs.Images.{contents}
use Rattle.host_model.specs.Past.{of}
use Rattle.checkpoint.proofs.FormLemmas.{body_in-long}
use Rattle.checkpoint.proofs.loading.read_body.Goals as goal

pub returns-in_default-vec-clause-memory : goal.returns-in_default-vec-clause-memory
returns-in_default-vec-clause-memory g c failed h =
    body_in-long c.args.size c.in-Ok.len (contents (of c.args.file (g.H.Host.seen c.args.host.now).past)) (c.in-Ok.ensures.len h)
    (omega (arith, c.saturating_sub.ensures, c.if-saturating_sub-size.false))
