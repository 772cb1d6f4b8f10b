-- Names that end with `_raw`.
use Rattle.std.proofs.Common.{◌≡◌, ℕ, ◌-◌, ◌≤◌, true, false, List, length, take, Option, Some, None, option_map, Bor, codes, arith, refl, sym, ap, subst, ◌∙◌}
use Rattle.std.proofs.lemmas.Str.Pattern.{ends_text}
use Rattle.std.specs.Option.{MatchOption}
use Rattle.std.specs.Str.{IsCharBoundary}
use Rattle.std.specs.Str.Pattern.{FindsTextSuffix, StripsSuffix}
use Rattle.alarm_core.specs.Series.{before_raw}

abbrev suffix : List ℕ
suffix = codes "_raw"

pub before_raw_is : (name : List ℕ) (found : Option (Bor (List ℕ)))
    → MatchOption found (FindsTextSuffix suffix name None) (λ prefix. StripsSuffix (FindsTextSuffix suffix) name prefix.now)
    → option_map (λ prefix. prefix.now) found ≡ before_raw name
before_raw_is name None h = let no = ends_text false suffix name h in rw (sym no) refl
before_raw_is name (Some prefix) h =
    let few : h.0 ≡ 4 = h.1.0 in
    let boundary : IsCharBoundary name (length name - h.0) = subst (λ (n : ℕ). IsCharBoundary name (length name - n)) (sym few) h.1.2 in
    let inside : h.0 ≤ length name = omega (arith, h.3) in
    let yes = ends_text true suffix name (h.0, h.1, inside, boundary) in
    let is : prefix.now ≡ take (length name - 4) name = h.2 ∙ ap (λ n. take (length name - n) name) few in
    rw (sym yes) (ap Some is)
