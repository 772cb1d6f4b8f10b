use Rattle.host_model.specs.MemoryHost.{state_of}
use Rattle.host_model.specs.Images.{contents}
use Rattle.host_model.specs.Past.{of}
use Rattle.host_model.specs.DiskLaw.{reads_an_image_of_record}
use Rattle.host_model.proofs.LeftLemmas.{left_image}
use Rattle.host_model.proofs.memory_host.MemoryHost.stop.Goals as goal

pub returns-in-Ok-clause-image : goal.returns-in-Ok-clause-image
returns-in-Ok-clause-image c file =
    let old = state_of c.args.self in
    let new = state_of c.settle_all.new.host in
    left_image c.args.keep (of file old.past) (contents (of file new.past)) (reads_an_image_of_record c.args.self.entries.items file) (c.in-Ok.ensures.files file)
