use Rattle.store_core.proofs.DiskProofs.OneLemmas.{one_contents, one_part, never_damaged}
use Rattle.store_core.proofs.disk.law.one_disk_holds_one_contents.Goals as goal

pub returns-clause-one : goal.returns-clause-one
returns-clause-one c = one_contents

pub returns-clause-whole : goal.returns-clause-whole
returns-clause-whole c = never_damaged

pub returns-clause-one_part : goal.returns-clause-one_part
returns-clause-one_part c part other disk = one_part disk part other
