-- Places and moments: a moment is at one place at most.
use Rattle.std.proofs.Common.{◌≡◌, ◌≢◌, ℕ, ◌+◌, ◌-◌, ◌*◌, ◌/◌, ◌%◌, ◌<◌, ◌≤◌, Some, sym, ap, ◌∙◌, arith}
use Rattle.std.proofs.Math.Nat.{div-add-mod', mul-div_cancel, mul-mod_left}
use Rattle.std.specs.Prelude.{Option, slice_get, unwrap_or}
use Rattle.page_buffer.specs.Page.{Page, moment_at, IsAt}

module _ (first step moment place : ℕ) where
  pub before_first : moment < first → moment ≢ first + place * step
  before_first early at = omega (arith, early, at)

  distance_is : moment ≡ first + place * step → moment - first ≡ place * step
  distance_is at = omega (arith, at)

  pub between : (moment - first) % step ≢ 0 → moment ≢ first + place * step
  between off at = off (ap (λ (d : ℕ). d % step) (distance_is at) ∙ mul-mod_left place step)

  place_is : 0 < step → moment ≡ first + place * step → (moment - first) / step ≡ place
  place_is some at = ap (λ (d : ℕ). d / step) (distance_is at) ∙ mul-div_cancel place some

  pub past_end : (len : ℕ) → 0 < step → len ≤ (moment - first) / step → place < len → moment ≢ first + place * step
  past_end len some past within at = let is = place_is some at in omega (arith, is, past, within)

pub at_place : (first step moment : ℕ) → first ≤ moment → (moment - first) % step ≡ 0 → moment ≡ first + (moment - first) / step * step
at_place first step moment late whole = let parts = div-add-mod' (moment - first) step in omega (arith, parts, whole, late)

pub same_place : (first step moment p q : ℕ) → 0 < step → moment ≡ first + p * step → moment ≡ first + q * step → p ≡ q
same_place first step moment p q some at at' = sym (place_is first step moment p some at) ∙ place_is first step moment q some at'

-- one item stands at a moment
pub one_item : {X : Type 0} (page : Page X) (moment place : ℕ) (item : X) → 0 < page.step → slice_get page.items place ≡ Some item → moment ≡ moment_at page place
    → (other : X) → IsAt page moment other → other ≡ item
one_item {X} page moment place item some got at other is =
    let same : is.0 ≡ place = same_place page.first page.step moment is.0 place some is.2 at in
    ap (λ (o : Option X). unwrap_or o item) (sym is.1 ∙ ap (λ (k : ℕ). slice_get page.items k) same ∙ got)
