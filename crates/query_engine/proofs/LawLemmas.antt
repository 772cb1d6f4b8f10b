use Rattle.std.proofs.Common.{◌≡◌, ◌≢◌, ℕ, ◌+◌, ◌*◌, ◌/◌, ◌%◌, ◌≤◌, Bool, true, false, cond, eqb, ltb, List, get_or, Option, None, arith, refl, sym, ap, subst, ◌∙◌}
use Rattle.std.proofs.Math.Nat.{add-mul-mod_self_right}
use Rattle.std.proofs.lemmas.Bool.{eqb-true, eqb-false, ltb-false, le-ltb, cond-true, cond-false}
use Rattle.std.specs.Option.{option_map}
use Rattle.fixed_num.specs.declared.units.Record.{Record}
use Rattle.tier_rollup.specs.declared.point.Point.{Point}
use Rattle.query_engine.specs.declared.request.Group.{Group}
use Rattle.query_engine.specs.declared.request.Request.{Request}
use Rattle.query_engine.specs.Points.{are_rising_from}
use Rattle.query_engine.specs.Tiers.{record_in_tier, cell_in_tier}
use Rattle.query_engine.specs.Windows.{cell, group_of, may_read, record_between, start_of}
use Rattle.query_engine.proofs.TierLemmas.{may_parts}
use Rattle.query_engine.proofs.WindowLemmas.{buckets_are, points_asked, whole}

-- ---- whole buckets

-- where a window starts is a whole number of widths where all windows are
pub start_whole : (request : Request) (i width : ℕ) → request.after % width ≡ 0 → request.window % width ≡ 0 → start_of request i % width ≡ 0
start_whole request i width after window =
    let is : request.window / width * width ≡ request.window = whole request.window width window in
    let start : start_of request i ≡ request.after + i * (request.window / width) * width = omega (arith, ap (λ n. i * n) is) in
    ap (λ n. n % width) start ∙ add-mul-mod_self_right request.after (i * (request.window / width)) width ∙ after

-- ---- a window in a tier

in_tier : (widths : List ℕ) (floor : ℕ → ℕ) (tier start window : ℕ) (points : List Point) → are_rising_from 0 points ≡ true
    → (tier ≢ 0 → (start % get_or widths tier 0 ≡ 0) × (window % get_or widths tier 0 ≡ 0)) → floor tier ≤ start
    → record_in_tier widths floor tier start window points ≡ record_between start (start + window) points
in_tier widths floor tier start window points rising grid high = go (eqb tier 0) refl
  where
    width : ℕ
    width = get_or widths tier 0

    go : (b : Bool) → eqb tier 0 ≡ b → record_in_tier widths floor tier start window points ≡ record_between start (start + window) points
    go true e =
        let low : floor 0 ≤ start = subst (λ i. floor i ≤ start) (eqb-true tier 0 e) high in
        cond-true (eqb tier 0) _ _ e
        ∙ points_asked (floor 0) start (start + window) (start + window) points rising low (omega arith)
    go false e =
        let parts = grid (eqb-false tier 0 e) in
        let first : start / get_or widths tier 0 * get_or widths tier 0 ≡ start = whole start (get_or widths tier 0) parts.0 in
        let second : window / get_or widths tier 0 * get_or widths tier 0 ≡ window = whole window (get_or widths tier 0) parts.1 in
        let end : (start / get_or widths tier 0 + window / get_or widths tier 0) * get_or widths tier 0 ≡ start + window = omega (arith, first, second) in
        let low : floor tier ≤ start / get_or widths tier 0 * get_or widths tier 0 = omega (arith, first, high) in
        cond-false (eqb tier 0) _ _ e
        ∙ buckets_are (get_or widths tier 0) (floor tier) (start / get_or widths tier 0) (window / get_or widths tier 0) points rising low
        ∙ ap (λ n. record_between n ((start / get_or widths tier 0 + window / get_or widths tier 0) * get_or widths tier 0) points) first
        ∙ ap (λ n. record_between start n points) end

pub own_cell : (widths : List ℕ) (floor : ℕ → ℕ) (request : Request) (i tier : ℕ) (points : List Point) → are_rising_from 0 points ≡ true
    → may_read widths request.after request.window tier ≡ true
    → cell_in_tier widths floor tier request.group (start_of request i) request.window points
    ≡ cell request.group (floor tier) (start_of request i) request.window points
own_cell widths floor request i tier points rising may = go (ltb (start_of request i) (floor tier)) refl
  where
    grid : tier ≢ 0 → (start_of request i % get_or widths tier 0 ≡ 0) × (request.window % get_or widths tier 0 ≡ 0)
    grid not = let parts = may_parts widths request.after request.window tier may not in (start_whole request i (get_or widths tier 0) parts.0 parts.1, parts.1)

    go : (b : Bool) → ltb (start_of request i) (floor tier) ≡ b
        → cell_in_tier widths floor tier request.group (start_of request i) request.window points ≡ cell request.group (floor tier) (start_of request i) request.window points
    go true e = cond-true (ltb (start_of request i) (floor tier)) _ _ e ∙ sym (cond-true (ltb (start_of request i) (floor tier)) _ _ e)
    go false e =
        let high : floor tier ≤ start_of request i = ltb-false (start_of request i) (floor tier) e in
        ap (λ (r : Option Record). cond (ltb (start_of request i) (floor tier)) None (option_map (group_of request.group) r))
        (in_tier widths floor tier (start_of request i) request.window points rising grid high)

-- where a window starts at or above two floors, they give it one cell
floors_same : (group : Group) (one other start window : ℕ) (points : List Point) → one ≤ start → other ≤ start → cell group one start window points ≡ cell group other start window points
floors_same group one other start window points low high =
    cond-false (ltb start one) _ _ (le-ltb start one low) ∙ sym (cond-false (ltb start other) _ _ (le-ltb start other high))

pub same_cell : (widths : List ℕ) (floor : ℕ → ℕ) (request : Request) (i one other : ℕ) (points : List Point) → are_rising_from 0 points ≡ true
    → may_read widths request.after request.window one ≡ true → may_read widths request.after request.window other ≡ true
    → floor one ≤ start_of request i → floor other ≤ start_of request i
    → cell_in_tier widths floor one request.group (start_of request i) request.window points
    ≡ cell_in_tier widths floor other request.group (start_of request i) request.window points
same_cell widths floor request i one other points rising may_one may_other low high =
    own_cell widths floor request i one points rising may_one
    ∙ floors_same request.group (floor one) (floor other) (start_of request i) request.window points low high
    ∙ sym (own_cell widths floor request i other points rising may_other)
