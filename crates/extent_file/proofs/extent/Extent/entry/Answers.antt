use Rattle.std.proofs.Common.{◌≡◌, ap, ◌∙◌, subst}
use Rattle.std.proofs.lemmas.Option.{slice_get-get_or}
use Rattle.extent_file.specs.declared.entry.Entry.{Entry}
use Rattle.extent_file.specs.Directory.{Directory, IsDirectory}
use Rattle.extent_file.proofs.OrderLemmas.{entry_known}
use Rattle.extent_file.proofs.extent.Extent.entry.Goals as goal

pub returns : goal.returns
returns c =
    let now = c.args.self.now in
    let directory = subst (λ (d : Directory). IsDirectory d.file d.start d.entries) c.self.view_is c.self.invariant in
    let same : c.as_slice.result.now ≡ now.entries = c.as_slice.ensures ∙ ap (λ (d : Directory). d.entries) c.self.view_is in
    let none : Entry = record { series = 0; first = 0; step = 0; count = 0; place = 0 } in
    let known = entry_known now.file now.start now.entries c.args.index none directory c.requires in
    rw same (record { entry = slice_get-get_or now.entries c.args.index none c.requires; some = known.0; most = known.1; place = known.2; step = known.3; count = known.4 })
