-- What the calls of a schedule come to.
use Rattle.std.proofs.Common.{◌≡◌, ℕ, zero, suc, ◌==◌, ◌+◌, ◌-◌, ◌<◌, ◌≤◌, Bool, true, ltb, List, [], ◌∷◌, length, take, cond, inl, inr, sym, ap, ◌∙◌, arith, Option, Some, None, slice_get}
use Rattle.std.specs.Option.{option_map_or}
use Rattle.std.proofs.Math.Seq.{take-nil}
use Rattle.std.proofs.lemmas.Bool.{cases_lt, cond-true, cond-false, lt-ltb, le-ltb, ne_eqb}
use Rattle.std.proofs.lemmas.List.{append-nil, take_all}
use Rattle.replication.specs.declared.message.Data.{Data}
use Rattle.replication.specs.declared.named.NamedBeat.{NamedBeat}
use Rattle.replication.specs.declared.parent.Parent.{Parent}
use Rattle.replication.specs.declared.step.Step.TheVariants.{Deliver}
use Rattle.replication.specs.declared.step.World.{World}
use Rattle.replication.specs.Copies.{Message, gap_between, gap_of, end_of, first_beats, first_gaps, latest, last_with, IsTrueOf}
use Rattle.replication.specs.Names.{named_moment, message_of}
use Rattle.replication.specs.Sound.{IsEndOf}
use Rattle.replication.specs.Verdict.{is_stored, verdict_by}
use Rattle.replication.specs.World.{with_gaps, with_first, kept_of, child_of, verdict_in, delivered, happens}
use Rattle.replication.proofs.Verdicts.{stored-begins}

-- ---- gaps
gap_between-none : (prev from : ℕ) → from ≤ prev → gap_between prev from ≡ []
gap_between-none prev from le = cond-false (ltb prev from) (record { from = prev; to = from } ∷ []) [] (le-ltb prev from le)

gap_between-some : (prev from : ℕ) → prev < from → gap_between prev from ≡ record { from = prev; to = from } ∷ []
gap_between-some prev from lt = cond-true (ltb prev from) (record { from = prev; to = from } ∷ []) [] (lt-ltb prev from lt)

with_no-gaps : (w : World) → w ≡ with_gaps w []
with_no-gaps w = λ i. record w { gaps = sym (append-nil w.gaps) i; last = w.last }

pub none-stored : (w : World) (most prev from : ℕ) → most ≡ 0 → w ≡ with_gaps w (take most (gap_between prev from))
none-stored w most prev from none = with_no-gaps w ∙ ap (λ most. with_gaps w (take most (gap_between prev from))) (sym none)

take-one : {X : Type 0} (most : ℕ) (x : X) → 0 < most → take most (x ∷ []) ≡ x ∷ []
take-one zero x lt = absurd (omega arith)
take-one (suc most) x lt = ap (λ rest. x ∷ rest) (take-nil most)

-- ---- verdicts
-- the parent judges a message as its world does
pub judged-same : (w : World) (parent : Parent) (sent : Data) (stored : Bool) → IsEndOf w parent → stored ≡ is_stored (verdict_by parent.child parent.last sent.child sent.prev) → stored ≡ is_stored (verdict_in w sent)
judged-same w parent sent stored end is = is ∙ (λ i. is_stored (verdict_by (end.child i) (end.last i) sent.child sent.prev))

-- ---- deliveries
delivers : (w : World) (place : ℕ) (keep : Option ℕ) (sent : Data) → slice_get w.messages place ≡ Some sent → happens w (Deliver place keep) ≡ delivered w keep sent
delivers w place keep sent found = ap (λ (found : Option Data). option_map_or (delivered w keep) found w) found

pub delivers-own : (w : World) (place : ℕ) (keep : Option ℕ) (sent : Data) → slice_get w.messages place ≡ Some sent → is_stored (verdict_in w sent) ≡ true
    → with_first w (kept_of keep (message_of sent)) (message_of sent) ≡ happens w (Deliver place keep)
delivers-own w place keep sent found same =
    sym (delivers w place keep sent found ∙ cond-true (is_stored (verdict_in w sent)) (with_first w (kept_of keep (message_of sent)) (message_of sent)) w same)

-- all of a true message ends at its last moment
pub all-stored : (floors : List ℕ) (child : List NamedBeat) (last : ℕ) (message : Message NamedBeat) → IsTrueOf named_moment floors child message → message.prev ≡ last
    → last_with named_moment last (first_gaps (length message.beats + 1) message) (first_beats (length message.beats + 1) message) ≡ message.upto
all-stored floors child last message truth prev =
    elim (cases_lt message.prev message.from) [
      | inl lt ↦
          let gap : gap_of message ≡ record { from = message.prev; to = message.from } ∷ [] = gap_between-some message.prev message.from lt in
          let one : take (length message.beats + 1) (gap_of message) ≡ record { from = message.prev; to = message.from } ∷ [] = ap (take (length message.beats + 1)) gap ∙ take-one (length message.beats + 1) (record { from = message.prev; to = message.from }) (omega arith) in
          let all : take (length message.beats + 1 - length (gap_of message)) message.beats ≡ message.beats = take_all (length message.beats + 1 - length (gap_of message)) message.beats (omega (arith, ap length gap)) in
          (λ i. latest named_moment (end_of last (one i)) (all i)) ∙ sym truth.upto
      | inr ge ↦
          let none : gap_of message ≡ [] = gap_between-none message.prev message.from ge in
          let nothing : take (length message.beats + 1) (gap_of message) ≡ [] = ap (take (length message.beats + 1)) none ∙ take-nil (length message.beats + 1) in
          let all : take (length message.beats + 1 - length (gap_of message)) message.beats ≡ message.beats = take_all (length message.beats + 1 - length (gap_of message)) message.beats (omega (arith, ap length none)) in
          let from : last ≡ message.from = omega (arith, truth.from) in
          (λ i. latest named_moment (end_of last (nothing i)) (all i)) ∙ ap (λ from. latest named_moment from message.beats) from ∙ sym truth.upto
    ]

-- what is stored of a message that begins where the copy ends
pub stored-first : (w new : World) (place most : ℕ) (keep : Option ℕ) (sent : Data) (beats : List NamedBeat) → slice_get w.messages place ≡ Some sent → is_stored (verdict_in w sent) ≡ true
    → beats ≡ (message_of sent).beats → most ≡ kept_of keep (message_of sent)
    → new ≡ with_first w most (record { prev = sent.prev; from = sent.from; upto = sent.upto; floor = sent.floor; beats = beats }) → new ≡ happens w (Deliver place keep)
stored-first w new place most keep sent beats found own beats_are most_is stored =
    stored ∙ (λ i. with_first w (most_is i) (record { prev = sent.prev; from = sent.from; upto = sent.upto; floor = sent.floor; beats = beats_are i })) ∙ delivers-own w place keep sent found own

-- and where all of it is, the copy ends at its last moment
pub stored-end : (w new : World) (most : ℕ) (sent : Data) (beats : List NamedBeat) → IsTrueOf named_moment w.floors w.beats (message_of sent) → is_stored (verdict_in w sent) ≡ true
    → beats ≡ (message_of sent).beats → most ≡ length beats + 1
    → new ≡ with_first w most (record { prev = sent.prev; from = sent.from; upto = sent.upto; floor = sent.floor; beats = beats }) → sent.upto ≡ new.last
stored-end w new most sent beats truth own beats_are most_is stored =
    let all = all-stored w.floors w.beats w.last (message_of sent) truth (stored-begins (child_of w) w.last sent.child sent.prev own) in
    let most_all : most ≡ length (message_of sent).beats + 1 = most_is ∙ ap (λ beats. length beats + 1) beats_are in
    sym (ap (λ (w : World). w.last) (stored ∙ (λ i. with_first w (most_all i) (record { prev = sent.prev; from = sent.from; upto = sent.upto; floor = sent.floor; beats = beats_are i }))) ∙ all)

-- a parent that has something is of child 1
pub of-one : (last : ℕ) (child : Option ℕ) → 0 < last → child ≡ Some 1 → child ≡ cond (last == 0) None (Some 1)
of-one last child some is = is ∙ sym (cond-false (last == 0) None (Some 1) (ne_eqb last 0 (λ e. omega (arith, e, some))))
