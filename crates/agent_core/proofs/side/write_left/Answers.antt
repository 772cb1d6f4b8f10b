use Rattle.std.proofs.Common.{ap, subst, ◌∙◌, ℕ, ◌≤◌, List, length, sym}
use Rattle.side_codec.specs.Sides.{side_bytes, HasSpelling}
use Rattle.agent_core.specs.Gaps.{gaps_above}
use Rattle.agent_core.proofs.SideLemmas.{side-written}
use Rattle.side_codec.specs.Size.{side_limit}
use Rattle.agent_core.proofs.SideSizes.{side-short}
use Rattle.agent_core.proofs.side.write_left.Goals as goal

pub returns-clause-side : goal.returns-clause-side
returns-clause-side c set h beats are is floor_is =
    let same = c.in_ok-side.ensures in
    side-written set h beats are c.args.left.now is c.args.floor floor_is c.in_ok-bytes.bytes (subst HasSpelling same c.in_ok-bytes.ensures.written) (c.in_ok-bytes.ensures.spelling ∙ ap side_bytes same)

pub returns-clause-size : goal.returns-clause-size
returns-clause-size c keep =
    let same = c.in_ok-side.ensures in
    subst (λ (bytes : List ℕ). length bytes ≤ side_limit (length (gaps_above c.args.floor c.args.left.now.gaps))) (sym c.in_ok-bytes.ensures.spelling)
    (side-short c.args.floor c.args.left.now _ same c.in_ok-bytes.ensures.written keep)
