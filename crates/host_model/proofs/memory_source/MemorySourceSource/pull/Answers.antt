use Rattle.std.proofs.Common.{ap, Some}
use Rattle.host_model.proofs.TakenLemmas.{prefix_and_rest}
use Rattle.host_model.proofs.memory_source.MemorySourceSource.pull.Goals as goal

pub returns-clause-bytes : goal.returns-clause-bytes
returns-clause-bytes c =
    let bytes = c.self.inside.bytes in
    let taken = c.self.inside.taken in
    let n = c.copy_prefix-size.result in
    let prefix = rw (c.rest_from.ensures, c.as_slice-2.ensures) at c.copy_prefix-size.ensures.prefix in
    rw (← c.self.view_is) (ap Some (prefix_and_rest bytes c.copy_prefix-size.new.into taken n prefix))
