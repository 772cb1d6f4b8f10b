-- Numbers of series or of charts in order, and what they pick of a list.
use Rattle.std.specs.Prelude.{ℕ, ◌==◌, Bool, List, filter_map, slice_get}
use Rattle.std.specs.List.{list_any}
use Rattle.std.specs.List.Sorted.{IsStrictlySortedBy}
use Rattle.std.specs.Ordering.{nat_cmp}
use Rattle.history.specs.declared.beat.OpenDim.{OpenDim}
use Rattle.history.specs.Registry.{Registry}
use Rattle.agent_core.specs.Copies.{dimension_name}

-- each number is below those after it
abbrev pub Rise : List ℕ → Type 0
Rise numbers = IsStrictlySortedBy nat_cmp numbers

-- the number is among them
abbrev pub has : List ℕ → ℕ → Bool
has numbers number = list_any (λ other. other == number) numbers

-- the items at these places, where there are any
abbrev pub items_at : {X : Type 0} → List X → List ℕ → List X
items_at items places = filter_map (slice_get items) places

-- the number of the chart of a dimension
abbrev pub chart_number : Registry → OpenDim → ℕ
chart_number registry dimension = (dimension_name registry dimension).chart
