-- The forms within a head, after each of its fields.
use Rattle.std.proofs.Common.{ℕ, min, max, []}
use Rattle.extent_file.specs.Form.{Form, Next}
use Rattle.extent_file.specs.Directory.{between, pages_field, at_first, directory_form}

module _ (tier slot size : ℕ) where
  abbrev pub after_size : ℕ → Form
  after_size pages = directory_form tier size pages (at_first pages) []

  abbrev pub after_pages : ℕ → Form
  after_pages pages = Next (between 8 (max size 24) (min size slot)) (λ _. after_size pages)

  abbrev pub after_tier : Form
  after_tier = Next (pages_field tier slot size) (λ pages. after_pages pages)

  abbrev pub after_mark : Form
  after_mark = Next (between 4 tier tier) (λ _. after_tier)
