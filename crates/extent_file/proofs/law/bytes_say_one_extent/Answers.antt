use Rattle.std.proofs.Common.{◌+◌, ◌*◌, length}
use Rattle.extent_file.specs.Directory.{extent_form}
use Rattle.extent_file.specs.Pages.{extent_size, entries_of}
use Rattle.extent_file.proofs.LawLemmas.{says_one, never_both, one_place, held_at}
use Rattle.extent_file.proofs.law.bytes_say_one_extent.Goals as goal

pub returns-clause-one : goal.returns-clause-one
returns-clause-one c = says_one

pub returns-clause-entries : goal.returns-clause-entries
returns-clause-entries c tier slot pages bytes entries is said =
    says_one (extent_form tier slot (extent_size tier pages)) bytes entries (entries_of tier (24 + 24 * length pages) pages) said is.says

pub returns-clause-items : goal.returns-clause-items
returns-clause-items c tier slot pages bytes index page entry is same_page same_entry =
    held_at tier (24 + 24 * length pages) pages bytes index page entry is.items same_page same_entry

pub returns-clause-exactly : goal.returns-clause-exactly
returns-clause-exactly c = never_both

pub returns-clause-one_place : goal.returns-clause-one_place
returns-clause-one_place c = one_place
