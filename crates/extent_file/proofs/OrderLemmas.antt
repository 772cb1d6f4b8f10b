-- A directory in order with one entry more.
use Rattle.std.proofs.Common.{◌≡◌, ℕ, zero, suc, ◌+◌, ◌*◌, ◌-◌, ◌<◌, ◌≤◌, ◌^◌, get_or, List, [], ◌∷◌, ◌++◌, length, refl, subst, arith}
use Rattle.host_model.specs.declared.file.File.{File}
use Rattle.extent_file.specs.declared.entry.Entry.{Entry}
use Rattle.extent_file.specs.declared.entry.Before.{Before}
use Rattle.extent_file.specs.Form.{Form, Rest, Leads}
use Rattle.extent_file.specs.Slot.{tier_of}
use Rattle.extent_file.specs.Directory.{IsDirectory, bytes_of, after_entry, at_first, directory_form, Follows, AreInOrder}

-- what all entries leave to the next one
abbrev pub after_all : ℕ → Before → List Entry → Before
after_all tier before [] = before
after_all tier before (entry ∷ entries) = after_all tier (after_entry tier entry) entries

pub order-push : (tier : ℕ) (before : Before) (entries : List Entry) (entry : Entry) → AreInOrder tier before entries
    → Follows tier (after_all tier before entries) entry → AreInOrder tier before (entries ++ entry ∷ [])
order-push tier before [] entry order follows = (follows, tt)
order-push tier before (first ∷ entries) entry order follows = (order.0, order-push tier (after_entry tier first) entries entry order.1 follows)

pub after_all-push : (tier : ℕ) (before : Before) (entries : List Entry) (entry : Entry) → after_all tier before (entries ++ entry ∷ []) ≡ after_entry tier entry
after_all-push tier before [] entry = refl
after_all-push tier before (first ∷ entries) entry = after_all-push tier (after_entry tier first) entries entry

-- the form of the entries that are left begins with the next one's
pub one_left : (tier size pages index : ℕ) (before : Before) (entries : List Entry) (form : Form) (bytes : List ℕ) (at : ℕ) → index + 1 ≤ pages
    → Leads form bytes at (directory_form tier size (pages - index) before entries)
    → Leads form bytes at (directory_form tier size (suc (pages - 1 - index)) before entries)
one_left tier size pages index before entries form bytes at more leads =
    subst (λ (n : ℕ). Leads form bytes at (directory_form tier size n before entries)) (let e : pages - index ≡ suc (pages - 1 - index) = omega (arith, more) in e) leads

pub one_read : (tier size pages index at : ℕ) (before : Before) (entries next : List Entry) (entry : Entry) (form : Form) (bytes : List ℕ)
    → next ≡ entries ++ entry ∷ [] → before ≡ after_entry tier entry → at ≡ 24 + 24 * index
    → Leads form bytes (at + 24) (directory_form tier size (pages - 1 - index) (after_entry tier entry) (entries ++ entry ∷ []))
    → Leads form bytes (24 + 24 * (index + 1)) (directory_form tier size (pages - (index + 1)) before next)
one_read tier size pages index at before entries next entry form bytes more is place leads =
    let left : pages - (index + 1) ≡ pages - 1 - index = omega arith in
    let there : 24 + 24 * (index + 1) ≡ at + 24 = omega (arith, place) in
    rw (left, there, is, more) leads

pub all_read : (tier size pages index : ℕ) (before : Before) (entries : List Entry) (form : Form) (bytes : List ℕ) → index ≡ pages → length entries ≡ index
    → Leads form bytes (24 + 24 * index) (directory_form tier size (pages - index) before entries)
    → Leads form bytes (24 + 24 * pages) (Rest (size - (24 + 24 * pages)) entries)
all_read tier size pages index before entries form bytes done count leads =
    let none : pages - index ≡ 0 = omega (arith, done) in
    let rest : Leads form bytes (24 + 24 * index) (directory_form tier size 0 before entries) =
    subst (λ (n : ℕ). Leads form bytes (24 + 24 * index) (directory_form tier size n before entries)) none leads in
    rw (← done, ← count) (rw (← count) at rest)

-- what is known of each entry of a directory in order: it stands after others, within so many bytes for each
pub record IsPlaced (tier most : ℕ) (entry : Entry) : Type 0 where
  pub some : 1 ≤ entry.count
  pub bytes : bytes_of tier entry ≤ 4096
  pub step : 1 ≤ entry.step
  pub place : entry.place ≤ most

bytes-most : (tier : ℕ) (before : Before) (entry : Entry) → Follows tier before entry → bytes_of tier entry ≤ 4096
bytes-most tier before entry follows = let most = follows.most in grind arith

bytes-some : (tier : ℕ) (entry : Entry) → 1 ≤ entry.count → 0 < bytes_of tier entry
bytes-some tier entry some = grind arith

pub placed : (tier : ℕ) (before : Before) (entries : List Entry) (k : ℕ) (d : Entry) → AreInOrder tier before entries → k < length entries
    → IsPlaced tier (before.place + 4096 * k) (get_or entries k d)
placed tier before [] k d order within = absurd (omega (arith, within))
placed tier before (entry ∷ entries) zero d order within =
    let follows = order.0 in let place = follows.place in
    record { some = follows.some; bytes = bytes-most tier before entry follows; step = follows.step; place = omega (arith, place) }
placed tier before (entry ∷ entries) (suc k) d order within =
    let rest = placed tier (after_entry tier entry) entries k d order.1 (omega (arith, within)) in
    let follows = order.0 in let place = follows.place in let bytes = bytes-most tier before entry follows in
    let there = rest.place in
    record { some = rest.some; bytes = rest.bytes; step = rest.step; place = omega (arith, place, bytes, there) }

-- and so of the entry at an index
pub entry_known : (file : File) (start : ℕ) (entries : List Entry) (index : ℕ) (d : Entry) → IsDirectory file start entries → index < length entries
    → (0 < bytes_of (tier_of file) (get_or entries index d)) × (bytes_of (tier_of file) (get_or entries index d) ≤ 4096) × (start + (get_or entries index d).place < 2 ^ 41) × (0 < (get_or entries index d).step) × (0 < (get_or entries index d).count)
entry_known file start entries index d directory within =
    let tier = tier_of file in
    let there = placed tier (at_first (length entries)) entries index d directory.order within in
    let some = there.some in let place = there.place in let count = directory.count in let begins = directory.begins in
    (bytes-some tier (get_or entries index d) some, there.bytes, omega (arith, place, count, begins, within), let step = there.step in omega (arith, step), omega (arith, some))
