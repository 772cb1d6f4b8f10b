-- An extent is where its bytes are, whatever stands behind them.
use Rattle.std.proofs.Common.{◌≡◌, ℕ, zero, suc, ◌+◌, ◌-◌, ◌*◌, ◌≤◌, List, [], ◌∷◌, ◌++◌, length, min, take, drop, sym, ap, ◌∙◌, subst, arith}
use Rattle.std.proofs.Math.Nat.{div-mul-le_self, mul-le-mul_right}
use Rattle.std.proofs.lemmas.List.{length-append, length-take, length-drop, take-take, drop-take}
use Rattle.byteorder.specs.Endian.{little_number}
use Rattle.byteorder.specs.Numbers.{little_from-take}
use Rattle.extent_file.specs.declared.entry.Entry.{Entry}
use Rattle.extent_file.specs.declared.page.Page.{Page}
use Rattle.extent_file.specs.Fields.{IsAllowed}
use Rattle.extent_file.specs.Form.{Form, Rest, Next, Says}
use Rattle.extent_file.specs.Slot.{item_size}
use Rattle.extent_file.specs.Directory.{bytes_of, after_entry, at_first, entry_form, directory_form, extent_form}
use Rattle.extent_file.specs.Pages.{entry_of, items_of, extent_size, Hold, IsItemsOf, IsExtentOf}
use Rattle.extent_file.proofs.EncodeLemmas.{count_is}

-- the first so many bytes are the same
abbrev Same : ℕ → List ℕ → List ℕ → Type 0
Same n bytes other = take n bytes ≡ take n other

same_less : (m n : ℕ) (bytes other : List ℕ) → m ≤ n → Same n bytes other → Same m bytes other
same_less m n bytes other less same = sym (take-take m n bytes less) ∙ ap (take m) same ∙ take-take m n other less

same_behind : (m n : ℕ) (bytes other : List ℕ) → Same (m + n) bytes other → Same n (drop m bytes) (drop m other)
same_behind m n bytes other same = sym (drop-take m n bytes) ∙ ap (drop m) same ∙ drop-take m n other

same_number : (width : ℕ) (bytes other : List ℕ) → Same width bytes other → little_number width bytes ≡ little_number width other
same_number width bytes other same =
    sym (little_from-take 0 width width bytes (omega arith)) ∙ ap (little_number width) same ∙ little_from-take 0 width width other (omega arith)

same_long : (n m : ℕ) (bytes other : List ℕ) → m ≤ n → Same n bytes other → m ≤ length bytes → m ≤ length other
same_long n m bytes other less same within =
    let sizes = ap length same in let here = length-take n bytes in let there = length-take n other in omega (arith, sizes, here, there, less, within)

-- how many bytes a form takes of these
reach : Form → List ℕ → ℕ
reach (Rest size said) bytes = size
reach (Next field after) bytes = field.width + reach (after (little_number field.width bytes)) (drop field.width bytes)

reach_within : (form : Form) (bytes : List ℕ) (entries : List Entry) → Says form bytes entries → reach form bytes ≤ length bytes
unfolding reach
reach_within (Rest size said) bytes entries says = says.0
reach_within (Next field after) bytes entries says =
    let within = reach_within (after (little_number field.width bytes)) (drop field.width bytes) entries says.2 in
    let cut = length-drop field.width bytes in let enough = says.0 in omega (arith, within, cut, enough)

says_again : (form : Form) (bytes other : List ℕ) (entries : List Entry) → Same (reach form bytes) bytes other → Says form bytes entries → Says form other entries
unfolding reach
says_again (Rest size said) bytes other entries same says = (same_long size size bytes other (omega arith) same says.0, says.1)
says_again (Next field after) bytes other entries same says =
    let width = field.width in let rest = reach (after (little_number width bytes)) (drop width bytes) in
    let prefix = same_less width (width + rest) bytes other (omega arith) same in
    let number = same_number width bytes other prefix in (
      same_long width width bytes other (omega arith) prefix says.0,
      subst (IsAllowed field) number says.1,
      subst (λ (v : ℕ). Says (after v) (drop width other) entries) number
          (says_again (after (little_number width bytes)) (drop width bytes) (drop width other) entries (same_behind width rest bytes other same) says.2),
    )

field_reach : (field : _) (after : ℕ → Form) (bytes : List ℕ) (n : ℕ) → ((value : ℕ) (rest : List ℕ) → reach (after value) rest ≡ n)
    → reach (Next field after) bytes ≡ field.width + n
unfolding reach
field_reach field after bytes n each = ap (λ (m : ℕ). field.width + m) (each (little_number field.width bytes) (drop field.width bytes))

entry_reach : (tier size left : ℕ) (before : _) (next : Entry → Form) (bytes : List ℕ) (n : ℕ) → ((entry : Entry) (rest : List ℕ) → reach (next entry) rest ≡ n)
    → reach (entry_form tier size left before next) bytes ≡ 24 + n
entry_reach tier size left before next bytes n each =
    let whole : reach (entry_form tier size left before next) bytes ≡ 4 + (4 + (4 + (4 + (8 + n)))) =
    field_reach _ _ bytes (4 + (4 + (4 + (8 + n)))) (λ series behind_series.
    field_reach _ _ behind_series (4 + (4 + (8 + n))) (λ first behind_first.
    field_reach _ _ behind_first (4 + (8 + n)) (λ step behind_step.
    field_reach _ _ behind_step (8 + n) (λ count behind_count.
    field_reach _ _ behind_count n (λ place rest.
    each (record { series = series; first = first; step = step; count = count; place = place }) rest))))) in
    omega (arith, whole)

directory_reach : (tier size left : ℕ) (before : _) (read : List Entry) (bytes : List ℕ)
    → reach (directory_form tier size left before read) bytes ≡ 24 * left + (size - (24 + 24 * (length read + left)))
unfolding reach
directory_reach tier size zero before read bytes = omega arith
directory_reach tier size (suc left) before read bytes =
    let next : ℕ = 24 * left + (size - (24 + 24 * (length read + 1 + left))) in
    let whole : reach (directory_form tier size (suc left) before read) bytes ≡ 24 + (24 * left + (size - (24 + 24 * (length read + 1 + left)))) =
    entry_reach tier size left before (λ entry. directory_form tier size left (after_entry tier entry) (read ++ entry ∷ [])) bytes (24 * left + (size - (24 + 24 * (length read + 1 + left))))
    (λ entry rest.
    let deep = directory_reach tier size left (after_entry tier entry) (read ++ entry ∷ []) rest in
    let long = length-append read (entry ∷ []) in
    omega (arith, deep, long)) in
    omega (arith, whole)

-- an extent takes as many bytes as its size says, and fits its slot
extent_reach : (tier slot size : ℕ) (bytes : List ℕ) (entries : List Entry) → Says (extent_form tier slot size) bytes entries
    → (reach (extent_form tier slot size) bytes ≡ size) × (size ≤ slot)
unfolding reach extent_form
extent_reach tier slot size bytes entries says =
    let pages = little_number 4 (drop 4 (drop 8 bytes)) in
    let many = says.2.2.1.1 in let low = says.2.2.2.1.0 in let high = says.2.2.2.1.1 in
    let room = div-mul-le_self (min size slot - 24) (24 + item_size tier) in
    let filled = mul-le-mul_right (24 + item_size tier) many in
    let rest = directory_reach tier size pages (at_first pages) [] (drop 8 (drop 4 (drop 4 (drop 8 bytes)))) in
    (omega (arith, low, high, room, filled, rest), omega (arith, low, high))

module _ (tier slot : ℕ) (pages : List Page) where
  pub extent_fits : (bytes : List ℕ) → IsExtentOf tier slot pages bytes → (extent_size tier pages ≤ slot) × (extent_size tier pages ≤ length bytes)
  extent_fits bytes is =
      let reaches = extent_reach tier slot (extent_size tier pages) bytes _ is.says in
      let within = reach_within (extent_form tier slot (extent_size tier pages)) bytes _ is.says in
      let size = reaches.0 in
      (reaches.1, subst (λ (n : ℕ). n ≤ length bytes) reaches.0 within)

hold_again : (tier place : ℕ) (pages : List Page) (bytes other : List ℕ) (n : ℕ) → place + items_of pages * item_size tier ≤ n → Same n bytes other
    → Hold tier place pages bytes → Hold tier place pages other
hold_again tier place [] bytes other n within same hold = tt
hold_again tier place (page ∷ pages) bytes other n within same hold =
    let size = bytes_of tier (entry_of place page) in
    let count = ap (λ (k : ℕ). k * item_size tier) (count_is place page) in
    let here : Same size (drop place bytes) (drop place other) =
    same_behind place size bytes other (same_less (place + size) n bytes other (omega (arith, within, count)) same) in (
      subst (λ (l : List ℕ). IsItemsOf page l) here hold.0,
      hold_again tier (place + size) pages bytes other n (omega (arith, within, count)) same hold.1,
    )

-- where its bytes stand, the extent stands
pub extent_again : (tier slot : ℕ) (pages : List Page) (bytes other : List ℕ) → take (extent_size tier pages) bytes ≡ take (extent_size tier pages) other
    → IsExtentOf tier slot pages bytes → IsExtentOf tier slot pages other
extent_again tier slot pages bytes other same is =
    let size = extent_size tier pages in
    let reaches = extent_reach tier slot size bytes _ is.says in
    record {
      says = says_again (extent_form tier slot size) bytes other _ (subst (λ (n : ℕ). Same n bytes other) (sym reaches.0) same) is.says;
      items = hold_again tier (24 + 24 * length pages) pages bytes other size (omega arith) same is.items;
    }
