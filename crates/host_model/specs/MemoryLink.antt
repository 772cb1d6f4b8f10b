use Rattle.std.specs.Prelude.{ℕ, List, ◌++◌}
use Rattle.host_model.specs.Calls.{raised}

-- a link that tells what it holds, and which of its calls fail
pub record LinkState : Type 0 where
  -- the bytes that were sent so far
  pub sent : List ℕ
  -- the bytes still to come
  pub left : List ℕ
  -- how many calls were made: the next call has this number
  pub calls : ℕ
  -- the numbers of the calls that fail
  pub fails : List ℕ
  -- how many calls have failed
  pub faults : ℕ
  -- how many calls have failed because memory was refused
  pub refusals : ℕ

-- after a call that sent these bytes
abbrev pub after_send : LinkState → List ℕ → LinkState
after_send link bytes = record link { sent = link.sent ++ bytes; calls = raised link.calls }

-- after a call that was to fail
abbrev pub after_link_fault : LinkState → LinkState
after_link_fault link = record link { calls = raised link.calls; faults = raised link.faults }

-- after a call to which memory was refused
abbrev pub after_link_refusal : LinkState → LinkState
after_link_refusal link = record link { calls = raised link.calls; faults = raised link.faults; refusals = raised link.refusals }
