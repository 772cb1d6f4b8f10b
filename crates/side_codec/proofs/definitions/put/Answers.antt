use Rattle.side_codec.proofs.Registered.{short_charts, short_dimensions}
use Rattle.side_codec.proofs.definitions.put.Goals as goal

pub put_list-requires : goal.put_list-requires
put_list-requires c = short_charts c.args.side.now.charts c.args.side.now.dimensions c.requires

pub put_list-requires-2 : goal.put_list-requires-2
put_list-requires-2 c = short_dimensions c.args.side.now.charts c.args.side.now.dimensions c.requires
