use Rattle.std.proofs.Common.{length, sym, ap, ◌∙◌, arith, rules}
use Rattle.std.specs.Option.{is_some}
use Rattle.std.proofs.lemmas.Bool.{ltb-false}
use Rattle.std.proofs.lemmas.List.Sorted.{IsPartitionPoint-from_clause}
use Rattle.extent_file.specs.declared.entry.Entry.{Entry}
use Rattle.extent_file.specs.Directory.{at_first}
use Rattle.extent_file.specs.Find.{is_before}
use Rattle.extent_file.proofs.FindLemmas.{partitioned, found, found_other, found_end}
use Rattle.extent_file.proofs.finding.first_wanted.Goals as goal

pub returns-in-Some : goal.returns-in-Some
returns-in-Some c =
    let entries = c.args.entries.now in let tier = c.requires.0 in let first = at_first (length entries) in
    let point = IsPartitionPoint-from_clause (is_before c.args.series c.args.moment) entries c.partition_point-index.result c.partition_point-index.ensures.partitioned
    (partitioned tier c.args.series c.args.moment first entries c.requires.1) (λ a r f call. search rules) in
    found tier c.args.series c.args.moment first entries c.partition_point-index.result c.requires.1 point.0 point.1
    c.in-Some.ensures.lookup.3.0 (λ d. sym (ap (λ (e : Entry). e.series) (c.in-Some.ensures.lookup.4 (omega arith) d)) ∙ c.if-entry-series.true)

pub returns-in_default : goal.returns-in_default
returns-in_default c =
    let entries = c.args.entries.now in let tier = c.requires.0 in let first = at_first (length entries) in
    let point = IsPartitionPoint-from_clause (is_before c.args.series c.args.moment) entries c.partition_point-index.result c.partition_point-index.ensures.partitioned
    (partitioned tier c.args.series c.args.moment first entries c.requires.1) (λ a r f call. search rules) in
    found_other tier c.args.series c.args.moment first entries c.partition_point-index.result c.requires.1 point.0 point.1
    c.in-Some.ensures.lookup.3.0 (λ d same. c.if-entry-series.false (ap (λ (e : Entry). e.series) (c.in-Some.ensures.lookup.4 (omega arith) d) ∙ same))

pub returns-in_default-2 : goal.returns-in_default-2
returns-in_default-2 c =
    let entries = c.args.entries.now in let tier = c.requires.0 in let first = at_first (length entries) in
    let point = IsPartitionPoint-from_clause (is_before c.args.series c.args.moment) entries c.partition_point-index.result c.partition_point-index.ensures.partitioned
    (partitioned tier c.args.series c.args.moment first entries c.requires.1) (λ a r f call. search rules) in
    found_end tier c.args.series c.args.moment first entries c.partition_point-index.result c.requires.1 point.0 point.1
    (ltb-false c.partition_point-index.result (length entries) (sym c.get.ensures.lookup.0 ∙ ap is_some c.in_default.is))
