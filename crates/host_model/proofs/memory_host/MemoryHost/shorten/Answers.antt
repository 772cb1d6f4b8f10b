use Rattle.std.proofs.Common.{◌<◌, length, rules}
use Rattle.host_model.proofs.HostLemmas.{KeepsDisk-cut, told-cut}
use Rattle.host_model.proofs.memory_host.MemoryHost.shorten.Goals as goal

pub invariant_of-self-clause-disk_kept : goal.invariant_of-self-clause-disk_kept
invariant_of-self-clause-disk_kept c =
    let old = c.args.self.now in
    let said = c.record_cut.ensures in
    let within : c.number-place.result < length old.disk = search rules in
    KeepsDisk-cut c.record_cut.result old.disk old.entries.items c.record_cut.new.entries.items c.args.file c.number-place.result c.args.len
    c.index-self-place.result c.record_cut.new.kept c.number-place.ensures.number within old.disk_kept
    said.entry said.done said.same_entries said.same_file

pub invariant_of-self-clause-output_kept : goal.invariant_of-self-clause-output_kept
invariant_of-self-clause-output_kept c =
    let old = c.args.self.now in
    told-cut c.record_cut.result old.entries.items c.record_cut.new.entries.items c.args.file c.args.len
    old.output.items old.output_kept c.record_cut.ensures.entry c.record_cut.ensures.same_entries
