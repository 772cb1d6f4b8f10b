-- How long a runner goes on.
use Rattle.std.specs.Prelude.{ℕ, ◌+◌, ◌*◌, ◌-◌, ◌<◌, List, length}
use Rattle.plugin_runner.specs.declared.runner.Phase.{Phase}
use Rattle.plugin_runner.specs.declared.runner.Phase.TheVariants.{Ready, Runs, Over}
use Rattle.plugin_runner.specs.declared.runner.Runner.{Runner}

-- how many bytes a child may still write before a line feed, where it has written these behind the last one
abbrev pub room : List ℕ → ℕ
room held = 8194 - length held

-- a child takes its start, its end, and no more turns between them than bytes that it writes
abbrev pub patience_in : Phase → ℕ → ℕ → ℕ
patience_in Ready restarts room = (restarts + 1) * 8196
patience_in Runs restarts room = restarts * 8196 + room + 1
patience_in (Over ending) restarts room = 0

-- no more turns than this answer More without a byte that is put
abbrev pub patience : Runner → ℕ
patience runner = patience_in runner.phase runner.restarts (room runner.splitter.rest)

-- it falls by each turn that answers More, and rises by 8,194 for each byte that is put
abbrev pub Spends : ℕ → ℕ → List ℕ → List ℕ → Type 0
Spends old new out out' = new + 8194 * length out < old + 8194 * length out'
