use Rattle.std.proofs.Common.{◌≡◌, ℕ, ◌+◌, ◌++◌, List, length, take}
use Rattle.line_stream.specs.Chain.{Chain}
use Rattle.line_stream.proofs.stream.hand_over.Given as goal

abbrev pub invariant-loop-at : goal.invariant-loop-at
invariant-loop-at g l =
    ((start : g.row.T.Denot) (begin : g.row.H.Denot) (prefix : List (List ℕ)) → length prefix ≡ l.fn.count → Chain g.T.Taker.acts start begin prefix l.fn.taker l.fn.host
    → Chain g.T.Taker.acts start begin (prefix ++ take l.at l.lines) l.taker l.host)
    × (l.count ≡ l.fn.count + l.at) × g.T.Taker.ready l.taker l.host (l.count + 1)
