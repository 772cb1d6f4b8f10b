-- A form says one thing of some bytes, or stops at one place in them, and an entry leads to its page.
use Rattle.std.proofs.Common.{◌≡◌, ℕ, zero, suc, ◌+◌, ◌<◌, ◌≤◌, List, [], ◌∷◌, ◌++◌, length, take, drop, Some, refl, sym, ap, ◌∙◌, subst, inl, inr, arith}
use Rattle.std.proofs.lemmas.Bool.{cases_order}
use Rattle.std.proofs.lemmas.List.{append_assoc, length-append, length-take, length-drop, take-take, take-append-drop}
use Rattle.list_lemmas.proofs.Bytes.{bytes-append, bytes-drop, bytes-take, AreBytes}
use Rattle.extent_file.specs.declared.field.Field.{Field}
use Rattle.extent_file.specs.Fields.{IsAllowed, GoesOn, IsFirstWrong}
use Rattle.std.specs.Prelude.{slice_get}
use Rattle.extent_file.specs.declared.entry.Entry.{Entry}
use Rattle.extent_file.specs.declared.page.Page.{Page}
use Rattle.extent_file.specs.declared.page.Page.TheVariants.{Slots, Records}
use Rattle.byteorder.specs.Endian.{little_number}
use Rattle.extent_file.specs.Form.{Form, Rest, Next, Says, StopsAt}
use Rattle.extent_file.specs.Directory.{bytes_of}
use Rattle.extent_file.specs.Pages.{entry_of, IsItemsOf, entries_of, Hold}

pub says_one : (form : Form) (bytes : List ℕ) (entries others : List Entry) → Says form bytes entries → Says form bytes others → entries ≡ others
says_one (Rest size said) bytes entries others one other = one.1 ∙ sym other.1
says_one (Next field after) bytes entries others one other =
    says_one (after (little_number field.width bytes)) (drop field.width bytes) entries others one.2 other.2

place_of : (place : ℕ) (page : Page) → (entry_of place page).place ≡ place
place_of place (Slots page) = refl
place_of place (Records page) = refl

same_item : (tier place : ℕ) (first page : Page) (entry : Entry) (bytes : List ℕ) → IsItemsOf first (take (bytes_of tier (entry_of place first)) (drop place bytes))
    → Some first ≡ Some page → Some (entry_of place first) ≡ Some entry → IsItemsOf page (take (bytes_of tier entry) (drop entry.place bytes))
same_item tier place first page entry bytes is same_page same_entry =
    let pages : first ≡ page = cc in
    let entries : entry_of place first ≡ entry = cc in
    subst (λ (e : Entry). IsItemsOf page (take (bytes_of tier e) (drop e.place bytes))) entries
    (subst (λ (n : ℕ). IsItemsOf page (take (bytes_of tier (entry_of place first)) (drop n bytes))) (sym (place_of place first))
    (subst (λ (p : Page). IsItemsOf p (take (bytes_of tier (entry_of place first)) (drop place bytes))) pages is))

pub held_at : (tier place : ℕ) (pages : List Page) (bytes : List ℕ) (index : ℕ) (page : Page) (entry : Entry) → Hold tier place pages bytes
    → slice_get pages index ≡ Some page → slice_get (entries_of tier place pages) index ≡ Some entry → IsItemsOf page (take (bytes_of tier entry) (drop entry.place bytes))
held_at tier place [] bytes index page entry hold none there = cc
held_at tier place (first ∷ pages) bytes zero page entry hold same_page same_entry = same_item tier place first page entry bytes hold.0 same_page same_entry
held_at tier place (first ∷ pages) bytes (suc index) page entry hold same_page same_entry =
    held_at tier (place + bytes_of tier (entry_of place first)) pages bytes index page entry hold.1 same_page same_entry

-- what begins an allowed value begins one with fewer of its bytes too
goes_on-less : (field : Field) (n m : ℕ) (bytes : List ℕ) → AreBytes bytes → m ≤ n → n ≤ length bytes → GoesOn field n bytes → GoesOn field m bytes
goes_on-less field n m bytes are less within goes =
    let between_them : List ℕ = drop m (take n bytes) in
    let prefix : take m bytes ≡ take m (take n bytes) = sym (take-take m n bytes less) in
    let whole : take m bytes ++ (between_them ++ goes.more) ≡ take n bytes ++ goes.more =
    ap (λ (l : List ℕ). l ++ (between_them ++ goes.more)) prefix
    ∙ sym (append_assoc (take m (take n bytes)) between_them goes.more)
    ∙ ap (λ (l : List ℕ). l ++ goes.more) (take-append-drop m (take n bytes)) in
    let cut = length-drop m (take n bytes) in let long = length-take n bytes in let size = goes.size in
    record {
      more = between_them ++ goes.more;
      size = omega (arith, length-append between_them goes.more, cut, long, size, less, within);
      are_bytes = bytes-append between_them goes.more (bytes-drop m (take n bytes) (bytes-take n bytes are)) goes.are_bytes;
      allowed = subst (λ (l : List ℕ). IsAllowed field (little_number field.width l)) (sym whole) goes.allowed;
    }

-- bytes that say something do not stop
pub never_both : (form : Form) (bytes : List ℕ) (entries : List Entry) (place : ℕ) → Says form bytes entries → ¬ StopsAt form bytes place
never_both (Rest size said) bytes entries place said_here stop = let a = said_here.0 in let b = stop.0 in omega (arith, a, b)
never_both (Next field after) bytes entries place said (inl wrong) = wrong.refused said.0 said.1
never_both (Next field after) bytes entries place said (inr (within, allowed, (rest, is, stop))) =
    never_both (after (little_number field.width bytes)) (drop field.width bytes) entries rest said.2 stop

not_before : (field : Field) (bytes : List ℕ) (place other : ℕ) → AreBytes bytes → IsFirstWrong field bytes place → IsFirstWrong field bytes other → place < other → ⊥
not_before field bytes place other are first second less =
    let reaches = second.reaches in
    first.here (omega (arith, less, reaches))
    (goes_on-less field other (place + 1) bytes are (omega (arith, less)) reaches (second.before (omega (arith, less))))

-- and there is one place at which they stop
pub one_place : (form : Form) (bytes : List ℕ) (place other : ℕ) → AreBytes bytes → StopsAt form bytes place → StopsAt form bytes other → place ≡ other
one_place (Rest size said) bytes place other are first second = first.1 ∙ sym second.1
one_place (Next field after) bytes place other are (inl first) (inl second) =
    elim (cases_order place other) [
      | inl same ↦ same
      | inr (inl less) ↦ absurd (not_before field bytes place other are first second less)
      | inr (inr more) ↦ absurd (not_before field bytes other place are second first more)
    ]
one_place (Next field after) bytes place other are (inl first) (inr (within, allowed, rest)) = absurd (first.refused within allowed)
one_place (Next field after) bytes place other are (inr (within, allowed, rest)) (inl second) = absurd (second.refused within allowed)
one_place (Next field after) bytes place other are (inr (_, _, (rest, is, stop))) (inr (_, _, (more, also, again))) =
    let same = one_place (after (little_number field.width bytes)) (drop field.width bytes) rest more (bytes-drop field.width bytes are) stop again in
    is ∙ ap (λ (n : ℕ). field.width + n) same ∙ sym also
