use Rattle.entry_codec.proofs.Lengths.{short-collected}
use Rattle.entry_codec.proofs.writing.write_collected.Goals as goal

pub write_short_collected-requires : goal.write_short_collected-requires
write_short_collected-requires c = short-collected c.args.beat.now c.requires.limits
