use Rattle.host_model.proofs.memory_spawner.MemorySpawner.begin.Goals as goal

pub returns-clause-listed : goal.returns-clause-listed
returns-clause-listed c =
    let named = rw c.as_slice.ensures at c.is_listed.ensures in
    rw (← c.self.view_is) named
