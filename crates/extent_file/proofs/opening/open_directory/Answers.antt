use Rattle.std.proofs.Common.{◌+◌, ◌*◌, drop, ◌∙◌, arith}
use Rattle.std.proofs.lemmas.Result.{IfOk-weaker}
use Rattle.host_model.specs.Images.{contents}
use Rattle.host_model.specs.Past.{of}
use Rattle.extent_file.proofs.opening.open_directory.Goals as goal

pub returns-clause-whole : goal.returns-clause-whole
returns-clause-whole g c =
    let bytes = drop c.args.start (contents (of c.args.file (g.H.Host.seen c.args.host.now).past)) in
    IfOk-weaker c.read_directory.result _ _
    (λ entries whole h form leads. whole bytes (24 + 24 * c.args.pages) form (c.as_slice.ensures ∙ c.in_ok-seen.ensures.prefix h) (omega arith) leads)
    c.read_directory.ensures.whole

pub returns-clause-bad : goal.returns-clause-bad
returns-clause-bad g c place is h form leads =
    let bytes = drop c.args.start (contents (of c.args.file (g.H.Host.seen c.args.host.now).past)) in
    c.read_directory.ensures.bad place is bytes (24 + 24 * c.args.pages) form (c.as_slice.ensures ∙ c.in_ok-seen.ensures.prefix h) (omega arith) leads
