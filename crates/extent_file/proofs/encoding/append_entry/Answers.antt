use Rattle.std.proofs.Common.{ℕ, ◌++◌, List, ap, ◌∙◌}
use Rattle.std.proofs.lemmas.Result.{on_ok_weaker}
use Rattle.byteorder.specs.Endian.{little_bytes}
use Rattle.extent_file.proofs.EncodeLemmas.{five_on}
use Rattle.extent_file.proofs.encoding.append_entry.Goals as goal

pub returns : goal.returns
returns c =
    on_ok_weaker c.extend-5.result (λ last.
    five_on c.args.out.now c.extend.new.self c.extend-2.new.self c.extend-3.new.self c.extend-4.new.self c.extend-5.new.self
    (little_bytes 4 c.args.entry.now.series) (little_bytes 4 c.args.entry.now.first) (little_bytes 4 c.args.entry.now.step) (little_bytes 4 c.args.entry.now.count) (little_bytes 8 c.args.entry.now.place)
    (c.in_ok-extend.ensures.ok ∙ ap (λ (l : List ℕ). c.args.out.now ++ l) c.to_le_bytes.ensures)
    (c.in_ok-extend-2.ensures.ok ∙ ap (λ (l : List ℕ). c.extend.new.self ++ l) c.to_le_bytes-2.ensures)
    (c.in_ok-extend-3.ensures.ok ∙ ap (λ (l : List ℕ). c.extend-2.new.self ++ l) c.to_le_bytes-3.ensures)
    (c.in_ok-extend-4.ensures.ok ∙ ap (λ (l : List ℕ). c.extend-3.new.self ++ l) c.to_le_bytes-4.ensures)
    (last ∙ ap (λ (l : List ℕ). c.extend-4.new.self ++ l) c.to_le_bytes-5.ensures))
    c.extend-5.ensures.ok
