use Rattle.std.proofs.Common.{◌≡◌, ℕ, ◌+◌, ◌*◌, ◌-◌, ◌≤◌, List, [], length, take}
use Rattle.extent_file.specs.Form.{Form, Leads}
use Rattle.extent_file.specs.Directory.{at_first, directory_form, AreInOrder}
use Rattle.extent_file.proofs.OrderLemmas.{after_all}
use Rattle.extent_file.proofs.directory.read_directory.Given as goal

abbrev pub invariant-loop-index : goal.invariant-loop-index
invariant-loop-index l = record {
  order : AreInOrder l.tier (at_first l.pages) l.entries;
  before : l.before ≡ after_all l.tier (at_first l.pages) l.entries;
  count : length l.entries ≡ l.index;
  inside : 24 + 24 * l.index ≤ length l.seen;
  place : l.before.place ≤ l.size;
  leads : (bytes : List ℕ) (window : ℕ) (form : Form) → l.seen ≡ take window bytes → 24 + 24 * l.pages ≤ window
      → Leads form bytes 24 (directory_form l.tier l.size l.pages (at_first l.pages) [])
      → Leads form bytes (24 + 24 * l.index) (directory_form l.tier l.size (l.pages - l.index) l.before l.entries);
}
