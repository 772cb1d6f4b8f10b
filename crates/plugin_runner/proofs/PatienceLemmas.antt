-- What is spent of a runner's patience.
use Rattle.std.proofs.Common.{◌≡◌, ℕ, zero, suc, ◌+◌, ◌<◌, ◌≤◌, Bool, true, false, cond, List, [], ◌∷◌, ◌++◌, length, Option, None, Result, Ok, Err, IfOk, refl, sym, ap, ◌∙◌, subst, length-append, arith}
use Rattle.std.specs.List.{onto_first}
use Rattle.history.specs.Limits.{is_line_feed}
use Rattle.plugin_text.specs.Lines.{lines, rest, but_last, last_part}
use Rattle.plugin_text.proofs.PartsLemmas.{parts_first}
use Rattle.plugin_runner.specs.declared.runner.Ending.{Ending}
use Rattle.plugin_runner.specs.declared.runner.Phase.{Phase}
use Rattle.plugin_runner.specs.declared.runner.Phase.TheVariants.{Ready, Runs}
use Rattle.plugin_runner.specs.Goes.{ending_of}
use Rattle.plugin_runner.specs.Patience.{Spends, patience_in, room}

-- a start spends some
pub start-spends : (phase : Phase) (restarts old new : ℕ) → phase ≡ Ready → new ≤ 8194 → patience_in Runs restarts new < patience_in phase restarts old
start-spends phase restarts old new is within = subst (λ (p : Phase). patience_in Runs restarts new < patience_in p restarts old) (sym is) (omega (arith, within))

pub room-within : (held : List ℕ) → room held ≤ 8194
room-within held = omega arith

-- so does an end
end-smaller : (phase phase' : Phase) (restarts restarts' old new : ℕ) → phase ≡ Runs → phase' ≡ Ready → restarts' + 1 ≡ restarts → patience_in phase' restarts' new < patience_in phase restarts old
end-smaller phase phase' restarts restarts' old new is is' less =
    subst (λ (p : Phase). patience_in phase' restarts' new < patience_in p restarts old) (sym is)
    (subst (λ (p : Phase). patience_in p restarts' new < patience_in Runs restarts old) (sym is') (omega (arith, less)))

pub spends-more : (old new : ℕ) (out out' added : List ℕ) → new < old → out' ≡ out ++ added → Spends old new out out'
spends-more old new out out' added less is = omega (arith, less, ap (λ (l : List ℕ). length l) is, length-append out added)

pub end-spends : (phase phase' : Phase) (restarts restarts' old new : ℕ) (out out' added : List ℕ) → phase ≡ Runs → phase' ≡ Ready → restarts' + 1 ≡ restarts → out' ≡ out ++ added
    → Spends (patience_in phase restarts old) (patience_in phase' restarts' new) out out'
end-spends phase phase' restarts restarts' old new out out' added is is' less grows =
    spends-more (patience_in phase restarts old) (patience_in phase' restarts' new) out out' added (end-smaller phase phase' restarts restarts' old new is is' less) grows

-- a piece spends what it takes of the room
pub piece-spends : (phase phase' : Phase) (restarts restarts' old new : ℕ) (out out' : List ℕ) → phase ≡ Runs → phase' ≡ phase → restarts' ≡ restarts → Spends old new out out'
    → Spends (patience_in phase restarts old) (patience_in phase' restarts' new) out out'
piece-spends phase phase' restarts restarts' old new out out' is is' same spends =
    subst (λ (p : Phase). Spends (patience_in p restarts old) (patience_in phase' restarts' new) out out') (sym is)
    (subst (λ (p : Phase). Spends (patience_in Runs restarts old) (patience_in p restarts' new) out out') (sym (is' ∙ is)) (omega (arith, same, spends)))

pub put-spends : {E : Type 0} (put : Result (Option Ending) E) (P : Type 0) → ending_of put ≡ None → IfOk put (λ ending. ending ≡ None → P) → P
put-spends (Ok ending) P is spends = spends is
put-spends (Err fault) P is spends = absurd (cc is)

-- ---- a text without a line is its rest
-- the lines of these parts, or one part of this length
lone_step : (b : Bool) (byte size : ℕ) (first : List ℕ) (others : List (List ℕ)) → (length (but_last (first ∷ others)) ≡ 0 → length (last_part (first ∷ others)) ≡ size)
    → length (but_last (cond b ([] ∷ first ∷ others) (onto_first byte (first ∷ others)))) ≡ 0
    → length (last_part (cond b ([] ∷ first ∷ others) (onto_first byte (first ∷ others)))) ≡ size + 1
lone_step true byte size first others before none = absurd (omega (arith, none))
lone_step false byte size first [] before none = omega (arith, before refl)
lone_step false byte size first (next ∷ more) before none = absurd (omega (arith, none))

pub lone_rest : (text : List ℕ) → length (lines text) ≡ 0 → length (rest text) ≡ length text
lone_rest [] none = refl
lone_rest (byte ∷ text) none =
    let some = parts_first text in
    let before : length (but_last (some.0 ∷ some.1)) ≡ 0 → length (last_part (some.0 ∷ some.1)) ≡ length text = rw some.2 at (lone_rest text) in
    let none' = rw some.2 at none in
    rw some.2 (omega (arith, lone_step (is_line_feed byte) byte (length text) some.0 some.1 before none'))

-- bytes of a child put a line, or fill the room
pub feed-spends : (held held' piece : List ℕ) (handed : List (List ℕ)) (out out' : List ℕ) → length held + length piece ≤ 8193 → 0 < length piece → handed ≡ lines (held ++ piece) → held' ≡ rest (held ++ piece)
    → length out + length handed ≤ length out' → Spends (room held) (room held') out out'
feed-spends held held' piece handed out out' within some handed_is rest_is grows = by_lines (length handed) refl
  where
    by_lines : (n : ℕ) → n ≡ length handed → Spends (room held) (room held') out out'
    by_lines zero none =
        let alone = lone_rest (held ++ piece) (sym (ap (λ (l : List (List ℕ)). length l) handed_is) ∙ sym none) in
        omega (arith, alone, ap (λ (l : List ℕ). length l) rest_is, length-append held piece, grows, within, some)
    by_lines (suc n) is = omega (arith, is, grows, within, some)
