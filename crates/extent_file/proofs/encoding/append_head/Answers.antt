use Rattle.std.proofs.Common.{ℕ, ◌++◌, List, ap, ◌∙◌}
use Rattle.std.proofs.lemmas.Result.{on_ok_weaker}
use Rattle.byteorder.specs.Endian.{little_bytes}
use Rattle.extent_file.proofs.EncodeLemmas.{four_on}
use Rattle.extent_file.proofs.encoding.append_head.Goals as goal

pub returns : goal.returns
returns c =
    on_ok_weaker c.extend-4.result (λ last.
    four_on c.args.out.now c.extend.new.self c.extend-2.new.self c.extend-3.new.self c.extend-4.new.self
    (little_bytes 8 0x31305458_4541444E) (little_bytes 4 c.args.tier) (little_bytes 4 c.args.pages) (little_bytes 8 c.args.size)
    (c.in_ok-extend.ensures.ok ∙ ap (λ (l : List ℕ). c.args.out.now ++ l) c.to_le_bytes.ensures)
    (c.in_ok-extend-2.ensures.ok ∙ ap (λ (l : List ℕ). c.extend.new.self ++ l) c.to_le_bytes-2.ensures)
    (c.in_ok-extend-3.ensures.ok ∙ ap (λ (l : List ℕ). c.extend-2.new.self ++ l) c.to_le_bytes-3.ensures)
    (last ∙ ap (λ (l : List ℕ). c.extend-3.new.self ++ l) c.to_le_bytes-4.ensures))
    c.extend-4.ensures.ok
