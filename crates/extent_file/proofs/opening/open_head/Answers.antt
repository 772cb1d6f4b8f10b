use Rattle.std.proofs.Common.{drop, arith, rules}
use Rattle.host_model.specs.Images.{contents}
use Rattle.host_model.specs.Past.{of}
use Rattle.extent_file.specs.Directory.{extent_form}
use Rattle.extent_file.proofs.FormLemmas.{leads_here}
use Rattle.extent_file.proofs.opening.open_head.Goals as goal

pub returns-in-Ok-read_head-clause-leads : goal.returns-in-Ok-read_head-clause-leads
returns-in-Ok-read_head-clause-leads g c h =
    let bytes = drop c.args.start (contents (of c.args.file (g.H.Host.seen c.args.host.now).past)) in
    let form = extent_form c.args.tier c.args.slot c.args.size in
    c.in-Ok-read_head.ensures.leads bytes 24 form (search (rules, c.in-Ok.ensures.prefix h)) (omega arith) (leads_here form bytes)
