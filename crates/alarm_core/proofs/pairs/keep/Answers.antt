use Rattle.std.proofs.Common.{◌<◌, ◌≤◌, cond, [], ◌∷◌, length, arith, ◌∙◌}
use Rattle.alarm_core.specs.Pairs.{most_pairs}
use Rattle.alarm_core.proofs.PairLemmas.{kept_none, kept_full, kept_one}
use Rattle.alarm_core.proofs.pairs.keep.Goals as goal

pub returns-then-not-wanted : goal.returns-then-not-wanted
returns-then-not-wanted c = kept_none c.args.pairs.now c.args.pair c.args.wanted c.if-not-wanted.true c.requires

pub returns-then-len-ge-MOST_PAIRS : goal.returns-then-len-ge-MOST_PAIRS
returns-then-len-ge-MOST_PAIRS c =
    let full : most_pairs ≤ length c.args.pairs.now = omega (arith, c.if-len-ge-MOST_PAIRS.true, c.len.ensures) in
    kept_full c.args.pairs.now (cond c.args.wanted (c.args.pair ∷ []) []) c.requires full

pub returns : goal.returns
returns c =
    let room : length c.args.pairs.now < most_pairs = omega (arith, c.if-len-ge-MOST_PAIRS.false, c.len.ensures) in
    c.in_ok-push.ensures ∙ kept_one c.args.pairs.now c.args.pair c.args.wanted c.if-not-wanted.false room
