use Rattle.std.proofs.Common.{◌≡◌, ◌++◌, drop, map}
use Rattle.std.specs.Option.{option_to_list}
use Rattle.checkpoint_body.specs.Canonical.{are_in_order, record_span}
use Rattle.checkpoint_body.proofs.canonical.are_records_in_order.Given as goal

abbrev pub invariant-loop-page : goal.invariant-loop-page
invariant-loop-page l =
    are_in_order (option_to_list l.last ++ map record_span (drop l.page-index l.pages)) ≡ are_in_order (map record_span l.pages)
