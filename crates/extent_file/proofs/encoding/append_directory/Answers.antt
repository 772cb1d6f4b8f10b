use Rattle.std.proofs.Common.{◌≡◌, ℕ, ◌+◌, get_or, refl, ap, ◌∙◌}
use Rattle.extent_file.specs.declared.entry.Entry.{Entry}
use Rattle.extent_file.specs.declared.page.Page.{Page}
use Rattle.extent_file.specs.Directory.{bytes_of}
use Rattle.extent_file.specs.Pages.{entry_of}
use Rattle.extent_file.proofs.EncodeLemmas.{left_place, left_bytes, entry_is}
use Rattle.extent_file.proofs.encoding.append_directory.Goals as goal

pub loop-page-preserved : goal.loop-page-preserved
loop-page-preserved c =
    let page = c.page-item.result in let tier = c.args.tier in let pages = c.args.pages.now in let i = c.loop-page.page-index in let place = c.loop-page.place in
    let is : page ≡ get_or pages i page = c.page-item.is in
    let head = c.head-series.ensures in
    let entry : Entry = record { series = c.head-series.result.0; first = c.head-series.result.1; step = c.head-series.result.2; count = c.head-series.result.3; place = place } in
    let entry_here : entry ≡ entry_of place page =
    entry_is place page entry (ap (λ t. t.0) head) (ap (λ t. t.1) head) (ap (λ t. t.2) head) (ap (λ t. t.3) head) refl in
    let there : entry ≡ entry_of place (get_or pages i page) = entry_here ∙ ap (λ (p : Page). entry_of place p) is in
    let next : place + c.bytes-place.result ≡ place + bytes_of tier (entry_of place (get_or pages i page)) =
    ap (λ (n : ℕ). place + n) (c.bytes-place.ensures ∙ ap (bytes_of tier) there) in
    record {
      place = left_place tier place (place + c.bytes-place.result) pages i page c.loop-page-test.true next ∙ c.loop-page.invariant.place;
      bytes = left_bytes tier place (place + c.bytes-place.result) pages i page entry c.loop-page.out c.append_entry.new.out c.loop-page-test.true there next c.in_ok-append_entry.ensures
          ∙ c.loop-page.invariant.bytes;
    }
