use Rattle.std.proofs.Common.{string_bytes}
use Rattle.std.proofs.lemmas.Result.{err_from_is_err_and}
use Rattle.point_lines.proofs.CloseLemmas.{closed-ends, closed-open, closed-stops, own-charts, own-dimensions}
use Rattle.point_lines.proofs.reader.Reader.close.Goals as goal

pub take_beat-requires-clause-is_open : goal.take_beat-requires-clause-is_open
take_beat-requires-clause-is_open c = closed-open c.args.self.now c.requires.0 c.args.beat.now c.args.moment c.requires.1

pub take_beat-requires-clause-charts : goal.take_beat-requires-clause-charts
take_beat-requires-clause-charts c = own-charts c.args.self.now c.requires.0 c.args.beat.now c.args.moment c.requires.1

pub take_beat-requires-clause-dimensions : goal.take_beat-requires-clause-dimensions
take_beat-requires-clause-dimensions c = own-dimensions c.args.self.now c.requires.0 c.args.beat.now c.args.moment c.requires.1

pub returns-in_err-numbered : goal.returns-in_err-numbered
returns-in_err-numbered c past stepped =
    let error = err_from_is_err_and c.from_residual.result c.from_residual.ensures.1 in
    rw (error.1, error.2)
    (closed-stops c.args.self.now past c.args.beat.now c.args.moment stepped c.in_err-numbered.field-0.0 c.in_err-numbered.ensures.judged _ (string_bytes c.args.out.now))

pub returns : goal.returns
returns c past stepped =
    closed-ends c.args.self.now past c.args.beat.now c.args.moment stepped c.take_beat.new.registry c.in_ok-numbered.ensures.taken c.in_ok-numbered.ensures.regular c.in_ok-numbered.numbered c.in_ok-numbered.ensures.numbered
    (string_bytes c.args.out.now) (string_bytes c.take_numbered.new.out) c.take_numbered.new.self c.take_numbered.result
    c.take_numbered.ensures.told c.take_numbered.ensures.taken c.take_numbered.ensures.same c.take_numbered.ensures.memory
