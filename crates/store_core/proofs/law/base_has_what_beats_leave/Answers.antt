use Rattle.std.proofs.Common.{refl}
use Rattle.query_engine.proofs.LawLemmas.{same_cell}
use Rattle.store_core.specs.Tiers.{floor_at}
use Rattle.store_core.specs.Told.{told_series}
use Rattle.store_core.specs.View.{points_of}
use Rattle.store_core.proofs.TierLemmas.{base_next, floor_is, has_applied, new_base}
use Rattle.tier_settings.specs.Limits.{widths}
use Rattle.store_core.proofs.law.base_has_what_beats_leave.Goals as goal

pub returns : goal.returns
returns c = record {
  new = new_base;
  applied = has_applied;
  next = base_next;
  floors = λ store set beats tier has few. floor_is set beats store.tiers has tier few;
  two_tiers = λ store set beats request i series one other has may_one may_other low high.
      same_cell widths (floor_at set beats) request i one other (points_of beats series)
      (told_series store (points_of beats) (record { set = set; beats = beats; has = has; told_is = refl }) series)
      may_one may_other low high;
}
