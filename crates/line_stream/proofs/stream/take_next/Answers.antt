use Rattle.std.proofs.Common.{◌≡◌, ◌≤◌, ◌<◌, ◌+◌, ℕ, take, length, length-take, refl, arith}
use Rattle.line_stream.specs.Run.{input_limit}
use Rattle.line_stream.proofs.RunLemmas.{end-stops, piece-stops}
use Rattle.line_stream.proofs.stream.take_next.Goals as goal

pub end-requires-clause-room : goal.end-requires-clause-room
end-requires-clause-room g c =
    let room = c.requires.room in
    (room.0, room.1, room.2, room.3, omega (arith, room.4))

pub returns-in-Ok-eq0-clause-stops : goal.returns-in-Ok-eq0-clause-stops
returns-in-Ok-eq0-clause-stops g c start begin text has within =
    let none : c.in-Ok-eq0.field-0 ≡ 0 = omega (arith, c.in-Ok-eq0.field-0-test) in
    let room : 0 < length c.pull.new.into = omega (arith, c.requires.some, c.pull.auto.into) in
    end-stops g.T.Taker.acts start begin c.args.stream.now text c.args.taker.now c.args.host.now has c.end.result (take c.in-Ok-eq0.field-0 c.pull.new.into) c.end.new.taker c.end.new.host _ _ _
    c.in-Ok-eq0.ensures.bytes (rw none refl) (omega (arith, within, c.requires.some)) (c.in-Ok-eq0.ensures.end none room) (c.end.ensures.ends start begin text has)

pub returns-in-Err-take_piece-clause-stops : goal.returns-in-Err-take_piece-clause-stops
returns-in-Err-take_piece-clause-stops g c start begin text has within =
    let short : length text + length (take c.in-Ok.taken c.pull.new.into) ≤ input_limit = omega (arith, length-take {A = ℕ} c.in-Ok.taken c.pull.new.into, c.pull.auto.into, within) in
    piece-stops g.T.Taker.acts start begin c.in-Err-take_piece.status text (take c.in-Ok.taken c.pull.new.into) c.take_piece.new.taker c.take_piece.new.host _ _ _
    c.in-Ok.ensures.bytes short (c.in-Err-take_piece.ensures.stops start begin text has (g.S.Source.left c.pull.new.self))
