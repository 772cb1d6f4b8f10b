use Rattle.std.proofs.Common.{◌≡◌, ◌≤◌, ℕ, List, Option}
use Rattle.link_frames.specs.declared.frame.Frame.{Frame}
use Rattle.link_session.specs.Incoming.{work_left, HasGiven}
use Rattle.link_session.proofs.incoming.Incoming.next.Given as goal

abbrev pub invariant-loop-self : goal.invariant-loop-self
invariant-loop-self g l = record {
  given : (left : Option (List ℕ)) (frames : List Frame) → HasGiven l.fn.self left (g.L.Link.left l.fn.link) frames → HasGiven l.self left (g.L.Link.left l.link) frames;
  work : work_left l.self ≤ work_left l.fn.self;
  sent : g.L.Link.sent l.link ≡ g.L.Link.sent l.fn.link;
  faults : g.L.Link.faults l.link ≡ g.L.Link.faults l.fn.link;
}

abbrev pub decreases-loop-self : goal.decreases-loop-self
decreases-loop-self g l = l.self.budget
