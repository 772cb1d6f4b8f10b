-- What is opened, where the file is long enough, and where the form does not go on in it.
use Rattle.std.proofs.Common.{◌≡◌, ℕ, ◌+◌, ◌*◌, ◌-◌, ◌<◌, ◌≤◌, List, [], length, drop, refl, sym, subst, inl, inr, arith}
use Rattle.std.proofs.lemmas.List.{length-drop, drop_all}
use Rattle.extent_file.specs.declared.entry.Entry.{Entry}
use Rattle.extent_file.specs.Form.{Form, Rest, Next, Says, StopsAt, Leads}
use Rattle.extent_file.specs.Directory.{extent_form, HasHead, IsBadAt}

-- a form does not go on within the bytes, or at their end
pub stops_within : (form : Form) (bytes : List ℕ) (place : ℕ) → StopsAt form bytes place → place ≤ length bytes
stops_within (Rest size said) bytes place stop = let e = stop.1 in omega (arith, e)
stops_within (Next field after) bytes place (inl wrong) = wrong.reaches
stops_within (Next field after) bytes place (inr (within, allowed, (rest, is, stop))) =
    let less = stops_within (after _) (drop field.width bytes) rest stop in
    let cut = length-drop field.width bytes in omega (arith, is, less, cut, within)

-- of no bytes not even the first field goes on
starts_none : (tier slot size : ℕ) → StopsAt (extent_form tier slot size) [] 0
unfolding extent_form
starts_none tier slot size = inl (record {
  within = omega arith;
  reaches = omega arith;
  before = λ some. absurd (omega (arith, some));
  here = λ inside. absurd (omega (arith, inside));
  refused = λ whole allowed. omega (arith, whole);
})

module _ (tier same_tier slot same_slot start same_start size : ℕ) (bytes : List ℕ) (tier_is : same_tier ≡ tier) (slot_is : same_slot ≡ slot) (start_is : same_start ≡ start) where
  moved_stop : (at : ℕ) → StopsAt (extent_form same_tier same_slot size) (drop same_start bytes) at → StopsAt (extent_form tier slot size) (drop start bytes) at
  moved_stop at stop =
      subst (λ (n : ℕ). StopsAt (extent_form tier slot size) (drop n bytes) at) start_is
      (subst (λ (n : ℕ). StopsAt (extent_form tier n size) (drop same_start bytes) at) slot_is
      (subst (λ (n : ℕ). StopsAt (extent_form n same_slot size) (drop same_start bytes) at) tier_is stop))

  moved_says : (entries : List Entry) → Says (extent_form same_tier same_slot size) (drop same_start bytes) entries → Says (extent_form tier slot size) (drop start bytes) entries
  moved_says entries said =
      subst (λ (n : ℕ). Says (extent_form tier slot size) (drop n bytes) entries) start_is
      (subst (λ (n : ℕ). Says (extent_form tier n size) (drop same_start bytes) entries) slot_is
      (subst (λ (n : ℕ). Says (extent_form n same_slot size) (drop same_start bytes) entries) tier_is said))

  pub moved_head : HasHead same_tier same_slot size (drop same_start bytes) → HasHead tier slot size (drop start bytes)
  moved_head head =
      subst (λ (n : ℕ). HasHead tier slot size (drop n bytes)) start_is
      (subst (λ (n : ℕ). HasHead tier n size (drop same_start bytes)) slot_is
      (subst (λ (n : ℕ). HasHead n same_slot size (drop same_start bytes)) tier_is head))

  pub bad_late : (place len : ℕ) → len ≡ length bytes → len < same_start → len ≡ place → IsBadAt (extent_form tier slot size) start bytes place
  bad_late place len long short is =
      let none : drop start bytes ≡ [] = drop_all start bytes (omega (arith, long, short, start_is)) in
      (0, subst (λ (l : List ℕ). StopsAt (extent_form tier slot size) l 0) (sym none) (starts_none tier slot size), omega (arith, long, short, start_is, is))

  pub bad_of : (place : ℕ) → same_start ≤ length bytes
      → ((at : ℕ) × (place ≡ same_start + at) × StopsAt (extent_form same_tier same_slot size) (drop same_start bytes) at)
      → IsBadAt (extent_form tier slot size) start bytes place
  bad_of place enough (at, is, stop) =
      let less = stops_within (extent_form same_tier same_slot size) (drop same_start bytes) at stop in
      let cut = length-drop same_start bytes in
      (at, moved_stop at stop, omega (arith, is, less, cut, enough, start_is))

  module _ (pages len : ℕ) (entries : List Entry) (long : len ≡ length bytes) (enough : same_start ≤ len)
      (leads : Leads (extent_form same_tier same_slot size) (drop same_start bytes) (24 + 24 * pages) (Rest (size - (24 + 24 * pages)) entries)) where
    pub bad_end : (place : ℕ) → len - same_start < size → len ≡ place → IsBadAt (extent_form tier slot size) start bytes place
    bad_end place short is =
        let prefix : ℕ = 24 + 24 * pages in
        let cut = length-drop same_start bytes in let left = length-drop prefix (drop same_start bytes) in let inside = leads.inside in
        let stop = leads.stops (length (drop prefix (drop same_start bytes))) (omega (arith, cut, left, inside, long, short), refl) in (
          prefix + length (drop prefix (drop same_start bytes)),
          moved_stop (prefix + length (drop prefix (drop same_start bytes))) stop,
          omega (arith, cut, left, inside, long, enough, is, start_is),
        )

    pub opened : size ≤ len - same_start → Says (extent_form tier slot size) (drop start bytes) entries
    opened whole =
        let prefix : ℕ = 24 + 24 * pages in
        let cut = length-drop same_start bytes in let left = length-drop prefix (drop same_start bytes) in
        moved_says entries (leads.says entries (omega (arith, cut, left, long, whole), refl))
