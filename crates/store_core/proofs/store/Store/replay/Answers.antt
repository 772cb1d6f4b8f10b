use Rattle.std.proofs.Common.{sym, ◌∙◌, subst}
use Rattle.store_core.specs.Store.{Replays, StoreState}
use Rattle.store_core.proofs.FollowReplay.{at-stays, replays}
use Rattle.store_core.proofs.store.Store.replay.Goals as goal

pub returns-clause-next : goal.returns-clause-next
returns-clause-next c past stored rest is_at =
    let store = c.args.self.now in
    let whole = c.stays_whole-stays_whole.result in
    subst (λ (s : StoreState). Replays past (record s { whole = whole }) stored rest c.in_ok-next.next) (sym c.self.view_is)
    (replays past store (record c.apply_next.new.self { whole = whole }) stored c.apply_next.ensures.files c.apply_next.ensures.body c.apply_next.ensures.fault
    (c.stays_whole-stays_whole.ensures ∙ at-stays past store stored rest is_at)
    rest c.in_ok-next.next is_at c.in_ok-next.ensures.takes c.in_ok-next.ensures.tiers c.in_ok-next.ensures.count)
