use Rattle.side_codec.proofs.Any.{any_items}
use Rattle.side_codec.proofs.writing.put_side.Goals as goal

pub put_list-requires : goal.put_list-requires
put_list-requires c = record { count = c.requires.gaps; each = any_items c.args.side.now.gaps }
