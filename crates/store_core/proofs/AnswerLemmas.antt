-- The answer of a store is that of the beats that it has applied.
use Rattle.std.proofs.Common.{◌≡◌, ℕ, zero, suc, ◌&&◌, Bool, true, false, cond, List, [], ◌∷◌, map, Some, None, unwrap_or, arith, refl, ap, ◌∙◌}
use Rattle.std.specs.List.{find, range_with_len}
use Rattle.tier_rollup.specs.declared.point.Point.{Point}
use Rattle.beat_tiers.specs.Beats.{TierBeat}
use Rattle.beat_tiers.specs.State.{tier_floor}
use Rattle.query_engine.specs.declared.request.Request.{Request}
use Rattle.query_engine.specs.declared.table.Table.{Table}
use Rattle.query_engine.specs.Windows.{is_lowest, may_read, row_of, table_of, tier_for}
use Rattle.tier_settings.specs.declared.settings.Settings.{Settings}
use Rattle.store_core.specs.Store.{HasApplied, StoreState}
use Rattle.store_core.specs.Tiers.{floor_at}
use Rattle.store_core.specs.View.{Tells, points_of}
use Rattle.tier_settings.specs.Limits.{widths}
use Rattle.store_core.proofs.TierLemmas.{floor_is}

-- one of three numbers, by the number of a tier
abbrev pick : ℕ → ℕ → ℕ → ℕ → ℕ
pick first second third zero = first
pick first second third (suc zero) = second
pick first second third (suc (suc n)) = third

each_found : (holds : ℕ → Type 0) → holds 0 → holds 1 → holds 2 → (test : ℕ → Bool) → holds (unwrap_or (find test (2 ∷ 1 ∷ 0 ∷ [])) 0)
each_found holds first second third test = by (test 2) (test 1) (test 0)
  where
    by : (a b c : Bool) → holds (unwrap_or (cond a (Some 2) (cond b (Some 1) (cond c (Some 0) None))) 0)
    by true b c = third
    by false true c = second
    by false false true = first
    by false false false = first

module _ (floor other : ℕ → ℕ) (first : floor 0 ≡ other 0) (second : floor 1 ≡ other 1) (third : floor 2 ≡ other 2) where
  same_tier : (after window : ℕ) → tier_for widths floor after window ≡ tier_for widths other after window
  same_tier after window =
      ap (λ n. tier_for widths (pick n (floor 1) (floor 2)) after window) first
      ∙ ap (λ n. tier_for widths (pick (other 0) n (floor 2)) after window) second
      ∙ ap (λ n. tier_for widths (pick (other 0) (other 1) n) after window) third

  same_chosen : (after window : ℕ) → floor (tier_for widths floor after window) ≡ other (tier_for widths other after window)
  same_chosen after window =
      ap floor (same_tier after window)
      ∙ each_found (λ n. floor n ≡ other n) first second third (λ tier. may_read widths after window tier && is_lowest other (may_read widths after window) 3 tier)

  -- an answer reads the floors of the three tiers alone
  pub same_table : (told : ℕ → List Point) (request : Request) → table_of widths floor told request ≡ table_of widths other told request
  same_table told request =
      let made : ℕ → Table = λ n. record { rows = map (row_of n told request) (range_with_len 0 request.rows) } in
      ap made (same_chosen request.after request.window)

-- what a store tells gives the answer by the beats that it has applied
pub answer_is : (store : StoreState) (set : Settings) (beats : List TierBeat) → HasApplied set beats store → (request : Request) (table : Table)
    → ((told : ℕ → List Point) → Tells store told → table ≡ table_of widths (tier_floor store.tiers) told request)
    → table ≡ table_of widths (floor_at set beats) (points_of beats) request
answer_is store set beats has request table answered =
    let floor_now = floor_is set beats store.tiers has in
    answered (points_of beats) (record { set = set; beats = beats; has = has; told_is = refl })
    ∙ same_table (tier_floor store.tiers) (floor_at set beats) (floor_now 0 (omega arith)) (floor_now 1 (omega arith)) (floor_now 2 (omega arith)) (points_of beats) request
