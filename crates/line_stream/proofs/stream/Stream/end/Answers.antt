use Rattle.std.proofs.Common.{refl}
use Rattle.line_stream.proofs.RunLemmas.{count-within, end-told}
use Rattle.line_stream.proofs.stream.Stream.end.Goals as goal

pub end-requires-clause-few : goal.end-requires-clause-few
end-requires-clause-few g c =
    let room = c.requires.room in
    count-within g.T.Taker.acts room.0 room.1 c.args.self.now room.2 c.args.taker.now c.args.host.now room.3 room.4

pub returns : goal.returns
returns g c =
    record {
      ends = λ start begin text has.
          end-told g.T.Taker.acts start begin c.args.self.now text c.args.taker.now c.args.host.now has c.end.result c.args.self.now.count c.rest.result.now c.end.new.self c.end.new.host refl c.rest.ensures.value c.end.ensures.ends;
    }
