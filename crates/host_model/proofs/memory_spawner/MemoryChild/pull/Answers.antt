use Rattle.host_model.proofs.TakenLemmas.{prefix_and_rest}
use Rattle.host_model.proofs.memory_spawner.MemoryChild.pull.Goals as goal

pub returns-clause-bytes : goal.returns-clause-bytes
returns-clause-bytes c =
    let prefix = rw (c.rest_from.ensures, c.as_slice.ensures) at c.copy_prefix-size.ensures.prefix in
    rw (← c.self.view_is) (prefix_and_rest c.self.inside.bytes c.copy_prefix-size.new.into c.self.inside.taken c.copy_prefix-size.result prefix)
