use Rattle.std.proofs.Common.{◌≡◌, ℕ, ◌+◌, ◌<◌, ◌≤◌, [], ◌∷◌, ◌++◌, length, get_or, subst, sym, ap, arith, length-append}
use Rattle.replication.specs.Places.{place}
use Rattle.replication.proofs.PlacesCode.{places-small, places-each, places-next}
use Rattle.replication.proofs.answer.places_of.Goals as goal

pub loop-mark-preserved : goal.loop-mark-preserved
loop-mark-preserved c =
    let inv = c.loop-mark.invariant in
    let i = c.loop-mark.mark-index in
    let next = c.loop-mark.next in
    let places = c.loop-mark.places.items in
    let pushed : c.push.new.self.items ≡ places ++ next ∷ [] = c.in_ok-push.ensures.items in
    record {
      long = omega (arith, ap length pushed, length-append places (next ∷ []), inv.long);
      small = subst (λ all. (k : ℕ) → get_or all k 0 ≤ k) (sym pushed) (places-small places next i inv.long inv.below inv.small);
      below = omega (arith, inv.below, c.one_if-next.ensures.bound);
      each = λ test n are. subst (λ all. (k : ℕ) → k < i + 1 → get_or all k 0 ≡ place test k) (sym pushed) (places-each test places next i inv.long (inv.each test n are) (inv.next test n are));
      next = λ test n are. places-next test n c.args.marks.now next i c.one_if-next.result _ are c.loop-mark-test.true (inv.next test n are) c.one_if-next.ensures.value;
    }
