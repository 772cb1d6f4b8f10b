use Rattle.std.proofs.Common.{◌<◌, length, rules}
use Rattle.host_model.proofs.HostLemmas.{KeepsDisk-write, told-write}
use Rattle.host_model.proofs.memory_host.MemoryHost.write.Goals as goal

pub invariant_of-self-clause-disk_kept : goal.invariant_of-self-clause-disk_kept
invariant_of-self-clause-disk_kept c =
    let old = c.args.self.now in
    let said = c.record_write.ensures in
    let within : c.number-place.result < length old.disk = search rules in
    KeepsDisk-write c.record_write.result old.disk old.entries.items c.record_write.new.entries.items c.args.file c.number-place.result c.args.at c.args.bytes.now
    c.index-self-place.result c.record_write.new.kept c.number-place.ensures.number within old.disk_kept
    said.entry said.done said.same_entries said.same_file

pub invariant_of-self-clause-output_kept : goal.invariant_of-self-clause-output_kept
invariant_of-self-clause-output_kept c =
    let old = c.args.self.now in
    told-write c.record_write.result old.entries.items c.record_write.new.entries.items c.args.file c.args.at c.args.bytes.now
    old.output.items old.output_kept c.record_write.ensures.entry c.record_write.ensures.same_entries
