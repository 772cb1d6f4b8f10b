use Rattle.std.proofs.Common.{◌≡◌, ◌+◌, List, ◌∷◌, ℕ, Some, drop, sym, ap, ◌∙◌, subst}
use Rattle.std.proofs.lemmas.List.{drop_more}
use Rattle.store_core.specs.beats.Records.{beats_from, next_beat}
use Rattle.field_codec.specs.Field.{IsBytes}
use Rattle.store_core.proofs.BeatProofs.Loops.{goes_on, one_more, with_prefix}
use Rattle.store_core.proofs.beats.records.read_beats.Goals as goal

pub loop-record-preserved : goal.loop-record-preserved
loop-record-preserved c =
    let place = c.loop-record.record-index in
    let bodies = c.args.records.now in
    let body = c.record-item.result in
    let last = c.loop-record.last in
    let total = beats_from c.args.last bodies in
    let split : drop place bodies ≡ body ∷ drop (place + 1) bodies =
    drop_more bodies place body c.loop-record-test.true ∙ ap (λ (b : List ℕ). b ∷ drop (place + 1) bodies) (sym c.record-item.is) in
    let so_far : with_prefix c.loop-record.waiting (beats_from last (body ∷ drop (place + 1) bodies)) ≡ total =
    subst (λ (l : List (List ℕ)). with_prefix c.loop-record.waiting (beats_from last l) ≡ total) split c.loop-record.invariant.0 in
    let read : next_beat last body ≡ Some c.in-Some.beat =
    ap (next_beat last) (sym c.as_slice.ensures) ∙ sym c.in_ok-beat.ensures.value ∙ c.in-Some.is in
    let fits : IsBytes body = subst IsBytes c.as_slice.ensures c.next_beat.ensures.bytes in (
      rw (c.in_ok-add.ensures, c.last_after-last.ensures) (goes_on c.loop-record.waiting last body (drop (place + 1) bodies) c.in-Some.beat total read so_far),
      one_more IsBytes bodies place body c.loop-record-test.true (sym c.record-item.is) c.loop-record.invariant.1 fits,
    )
