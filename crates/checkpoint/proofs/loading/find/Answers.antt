use Rattle.std.proofs.Common.{List, ap, ◌∙◌}
use Rattle.host_model.specs.declared.file.File.TheVariants.{CheckB}
use Rattle.host_model.specs.Images.{contents}
use Rattle.host_model.specs.Past.{Event, of}
use Rattle.host_model.specs.Disks.{reads_as}
use Rattle.checkpoint.specs.Form.{head_in}
use Rattle.checkpoint.proofs.SlotLemmas.{found_of}
use Rattle.checkpoint.proofs.loading.find.Goals as goal

pub returns-clause-found : goal.returns-clause-found
returns-clause-found g c h =
    found_of (reads_as (g.H.Host.seen c.args.host.now).past) c.in_ok-first.first c.in_ok-second.second c.later.result
    (c.in_ok-first.ensures.head h)
    (c.in_ok-second.ensures.head h ∙ ap (λ (past : List Event). head_in 1 (contents (of CheckB past))) (c.in_ok-first.ensures.past h))
    c.later.ensures
