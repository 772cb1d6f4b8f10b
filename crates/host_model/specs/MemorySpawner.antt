use Rattle.std.specs.Prelude.{◌≡◌, ℕ, List, [], ◌∷◌, ◌++◌, drop, Contains, None, ◌⊎◌}
use Rattle.std.specs.Option.{option_map}
use Rattle.host_model.specs.Calls.{raised}
use Rattle.host_model.specs.Spawner.{Child, Children}

-- a spawner that tells what it holds, and which of its calls fail
pub record SpawnerState : Type 0 where
  pub children : Children
  -- how many calls were made: the next call has this number
  pub calls : ℕ
  -- the numbers of the calls that fail
  pub fails : List ℕ
  -- how many calls have failed
  pub faults : ℕ
  -- how many calls have failed because memory was refused
  pub refusals : ℕ

-- after a call that left the children so
abbrev pub after_spawner_call : SpawnerState → Children → SpawnerState
after_spawner_call spawner children = record spawner { children = children; calls = raised spawner.calls }

-- after a call that was to fail
abbrev pub after_spawner_fault : SpawnerState → SpawnerState
after_spawner_fault spawner = record spawner { calls = raised spawner.calls; faults = raised spawner.faults }

-- after a call to which memory was refused
abbrev pub after_spawner_refusal : SpawnerState → SpawnerState
after_spawner_refusal spawner = record spawner { calls = raised spawner.calls; faults = raised spawner.faults; refusals = raised spawner.refusals }

-- the next call is listed
abbrev pub IsListed : SpawnerState → Type 0
IsListed spawner = Contains spawner.fails spawner.calls

-- the next call cannot start a child: it is listed, or none is to come
abbrev pub CannotStart : SpawnerState → Type 0
CannotStart spawner = IsListed spawner ⊎ (spawner.children.coming ≡ [])

-- the next call cannot reach a child: it is listed, or none runs
abbrev pub HasNoChild : SpawnerState → Type 0
HasNoChild spawner = IsListed spawner ⊎ (spawner.children.running ≡ None)

-- a child that has taken the next bytes away
abbrev pub without_prefix : ℕ → Child → Child
without_prefix n child = record child { left = drop n child.left }

abbrev pub after_pull : ℕ → Children → Children
after_pull n children = record children { running = option_map (without_prefix n) children.running }

-- a child to come behind the others
abbrev pub with_child : SpawnerState → Child → SpawnerState
with_child spawner child = record spawner { children = record spawner.children { coming = spawner.children.coming ++ child ∷ [] } }
