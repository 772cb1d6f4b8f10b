use Rattle.storage_number.proofs.Laws.{packed_is_word, packed_near, packed_reads, packed_whole}
use Rattle.storage_number.proofs.packing.pack.Goals as goal

pub returns-clause-word : goal.returns-clause-word
returns-clause-word c = rw c.word_of_fraction.ensures (packed_is_word c.args.q.num c.args.q.den c.args.anomalous c.args.reset c.requires.positive)

pub returns-clause-read : goal.returns-clause-read
returns-clause-read c = rw c.word_of_fraction.ensures (packed_reads c.args.q.num c.args.q.den c.args.anomalous c.args.reset c.requires.positive)

pub returns-clause-near : goal.returns-clause-near
returns-clause-near c = rw c.word_of_fraction.ensures (packed_near c.args.q.num c.args.q.den c.args.anomalous c.args.reset c.requires.positive)

pub returns-clause-whole : goal.returns-clause-whole
returns-clause-whole c =
    rw c.word_of_fraction.ensures (λ n below is. packed_whole c.args.q.num c.args.q.den n c.args.anomalous c.args.reset c.requires.positive below is)
