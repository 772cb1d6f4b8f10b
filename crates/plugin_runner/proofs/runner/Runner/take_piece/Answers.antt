use Rattle.std.proofs.Common.{sym, ◌∙◌}
use Rattle.plugin_runner.specs.Goes.{ending_of}
use Rattle.plugin_runner.proofs.CourseLemmas.{Advances-taken, Advances-over, not_more}
use Rattle.plugin_runner.specs.Patience.{Spends, room}
use Rattle.plugin_runner.proofs.PatienceLemmas.{piece-spends, put-spends}
use Rattle.plugin_runner.proofs.runner.Runner.take_piece.Goals as goal

pub returns-in-None-clause-goes : goal.returns-in-None-clause-goes
returns-in-None-clause-goes g c = λ course l.
    Advances-taken (ending_of c.put_piece.result) c.args.piece.now course c.put_piece.new.self _ _ c.args.out.now c.put_piece.new.out (sym c.ending_of.ensures ∙ c.in-None.is) (c.put_piece.ensures.phase ∙ c.requires.phase) (c.put_piece.ensures.goes course l)

pub returns-in-Some-clause-goes : goal.returns-in-Some-clause-goes
returns-in-Some-clause-goes g c = λ course l.
    Advances-over (ending_of c.put_piece.result) c.in-Some.ending c.args.piece.now course c.put_piece.new.self c.end.new.self _ _ c.args.out.now c.put_piece.new.out (sym c.ending_of.ensures ∙ c.in-Some.is) c.end.ensures.phase (c.put_piece.ensures.goes course l)

pub returns-in-None-clause-patience : goal.returns-in-None-clause-patience
returns-in-None-clause-patience g c = λ is.
    let old = c.args.self.now in
    let new = c.put_piece.new.self in
    let spends = put-spends c.put_piece.result (Spends (room old.splitter.rest) (room new.splitter.rest) c.args.out.now c.put_piece.new.out) (sym c.ending_of.ensures ∙ c.in-None.is) c.put_piece.ensures.patience in
    piece-spends old.phase new.phase old.restarts new.restarts (room old.splitter.rest) (room new.splitter.rest) c.args.out.now c.put_piece.new.out c.requires.phase c.put_piece.ensures.phase c.put_piece.ensures.restarts spends

pub returns-in-Some-clause-patience : goal.returns-in-Some-clause-patience
returns-in-Some-clause-patience g c = λ is. absurd (not_more c.in-Some.ending (sym c.end.ensures.answer ∙ is))
