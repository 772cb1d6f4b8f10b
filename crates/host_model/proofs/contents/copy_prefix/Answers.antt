use Rattle.std.proofs.Common.{◌≡◌, take, drop, length, arith}
use Rattle.std.proofs.lemmas.List.{take_at, length-take}
use Rattle.host_model.proofs.contents.copy_prefix.Goals as goal

pub returns-clause-prefix : goal.returns-clause-prefix
returns-clause-prefix c =
    let n = c.min-size.result in
    let left = c.args.from.now in
    let size : length (take n left) ≡ n = simp length-take (omega arith) in
    rw c.copy_from_slice.ensures.after (take_at (take n left) (drop n c.args.into.now) n size)
