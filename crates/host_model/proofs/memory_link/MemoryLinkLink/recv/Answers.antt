use Rattle.std.proofs.Common.{◌≡◌, ℕ, ap, sym, List, drop, Some}
use Rattle.host_model.specs.MemoryLink.{LinkState}
use Rattle.host_model.proofs.TakenLemmas.{prefix_and_rest}
use Rattle.host_model.proofs.memory_link.MemoryLinkLink.recv.Goals as goal

abbrev left_of : LinkState → List ℕ
left_of link = link.left

pub returns-clause-bytes : goal.returns-clause-bytes
returns-clause-bytes c =
    let bytes = c.self.inside.bytes in
    let taken = c.self.inside.taken in
    let n = c.copy_prefix-size.result in
    let prefix = rw (c.rest_from.ensures, c.as_slice.ensures) at c.copy_prefix-size.ensures.prefix in
    let left : c.args.self.now.left ≡ drop taken bytes = rw (← c.self.view_is) at (sym (ap left_of c.begin.ensures.counted)) in
    rw (left) (ap Some (prefix_and_rest bytes c.copy_prefix-size.new.into taken n prefix))
