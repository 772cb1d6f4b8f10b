-- How a glob that begins with a plain piece matches.
use Rattle.std.proofs.Common.{◌≡◌, ◌≢◌, ◌==◌, ◌<◌, ◌≤◌, ℕ, zero, suc, Bool, true, false, ◌&&◌, ◌||◌, ◌⊎◌, List, [], ◌∷◌, ◌++◌, length, drop, refl, sym, ap, ◌∙◌, subst, inl, inr, arith, eq-eqb}
use Rattle.std.proofs.lemmas.Bool.{cond-false, ne_eqb, eqb-true, and_parts, both_ways, false_from_ne_true, or_cases, or_left, or_right}
use Rattle.std.proofs.lemmas.List.{append-nil}
use Rattle.std.proofs.lemmas.List.Elements.{All-head, All-tail}
use Rattle.std.proofs.Math.Seq.{drop-nil, drop-append_seam}
use Rattle.std.specs.Str.Pattern.{LacksTextAt}
use Rattle.simple_pattern.specs.Glob.{is_star, any_end, goes_on, is_match}
use Rattle.simple_pattern.specs.Piece.{IsPlain}

pub IsPlain-head : (byte : ℕ) (piece : List ℕ) → IsPlain (byte ∷ piece) → byte ≢ 42
IsPlain-head byte piece plain = All-head (λ b. b ≢ 42) byte piece plain

pub IsPlain-tail : (byte : ℕ) (piece : List ℕ) → IsPlain (byte ∷ piece) → IsPlain piece
IsPlain-tail byte piece plain = All-tail (λ b. b ≢ 42) byte piece plain

-- a byte that is no star matches itself
pub is_match-plain : (byte : ℕ) (glob name : List ℕ) → byte ≢ 42 → is_match (byte ∷ glob) name ≡ goes_on byte (is_match glob) name
is_match-plain byte glob name plain = cond-false (is_star byte) _ _ (ne_eqb byte 42 plain)

-- so a name that goes on with another byte, or does not match further on, does not match
other_byte : (first byte : ℕ) (more : Bool) → (first ≡ byte → more ≡ false) → (first == byte && more) ≡ false
other_byte first byte more fails =
    false_from_ne_true (first == byte && more) (λ both. let parts = and_parts (first == byte) more both in both_ways more (fails (eqb-true first byte parts.0)) parts.1)

-- a plain piece matches itself
pub is_match-append : (piece glob rest : List ℕ) → IsPlain piece → is_match (piece ++ glob) (piece ++ rest) ≡ is_match glob rest
is_match-append [] glob rest plain = refl
is_match-append (byte ∷ piece) glob rest plain =
    is_match-plain byte (piece ++ glob) (byte ∷ (piece ++ rest)) (IsPlain-head byte piece plain)
    ∙ ap (λ t. t && is_match (piece ++ glob) (piece ++ rest)) (eq-eqb byte byte refl)
    ∙ is_match-append piece glob rest (IsPlain-tail byte piece plain)

-- and nothing else
pub is_match-lacks : (piece glob name : List ℕ) → IsPlain piece → ((rest : List ℕ) → name ≢ piece ++ rest) → is_match (piece ++ glob) name ≡ false
is_match-lacks [] glob name plain lacks = absurd (lacks name refl)
is_match-lacks (byte ∷ piece) glob [] plain lacks = is_match-plain byte (piece ++ glob) [] (IsPlain-head byte piece plain)
is_match-lacks (byte ∷ piece) glob (first ∷ name) plain lacks =
    is_match-plain byte (piece ++ glob) (first ∷ name) (IsPlain-head byte piece plain)
    ∙ other_byte first byte (is_match (piece ++ glob) name) (λ same. is_match-lacks piece glob name (IsPlain-tail byte piece plain) (λ rest e. lacks rest (cc)))

-- a plain glob is matched by itself alone
pub is_match-other : (glob name : List ℕ) → IsPlain glob → name ≢ glob → is_match glob name ≡ false
is_match-other [] [] plain other = absurd (other refl)
is_match-other [] (first ∷ name) plain other = refl
is_match-other (byte ∷ glob) [] plain other = is_match-plain byte glob [] (IsPlain-head byte glob plain)
is_match-other (byte ∷ glob) (first ∷ name) plain other =
    is_match-plain byte glob (first ∷ name) (IsPlain-head byte glob plain)
    ∙ other_byte first byte (is_match glob name) (λ same. is_match-other glob name (IsPlain-tail byte glob plain) (λ e. other (cc)))

pub is_match-itself : (glob : List ℕ) → IsPlain glob → is_match glob glob ≡ true
is_match-itself glob plain = rw append-nil at (is_match-append glob [] [] plain)

-- two tests that pass together are one
pub same_truth : (a b : Bool) → (a ≡ true → b ≡ true) → (b ≡ true → a ≡ true) → a ≡ b
same_truth true b there back = sym (there refl)
same_truth false true there back = back refl
same_truth false false there back = refl

pub any_end-whole : (passes : List ℕ → Bool) (name : List ℕ) → passes name ≡ true → any_end passes name ≡ true
any_end-whole passes [] e = e
any_end-whole passes (first ∷ name) e = or_left (passes (first ∷ name)) (any_end passes name) e

any_end-drop_one : (passes : List ℕ → Bool) (name : List ℕ) → any_end passes (drop 1 name) ≡ true → any_end passes name ≡ true
any_end-drop_one passes [] e = e
any_end-drop_one passes (first ∷ name) e = or_right (passes (first ∷ name)) (any_end passes name) e

drop_one : (n first : ℕ) (name : List ℕ) → drop n name ≡ drop 1 (drop n (first ∷ name))
drop_one zero first name = refl
drop_one (suc n) first [] = sym (ap (λ l. drop 1 l) (drop-nil n))
drop_one (suc n) first (next ∷ name) = drop_one n next name

-- a name that matches a plain piece, a star and more matches the latter behind the length of the piece
match_behind : (piece glob name : List ℕ) → IsPlain piece → is_match (piece ++ 42 ∷ glob) name ≡ true → any_end (is_match glob) (drop (length piece) name) ≡ true
match_behind [] glob name plain e = e
match_behind (byte ∷ piece) glob [] plain e = absurd (both_ways (is_match (byte ∷ (piece ++ 42 ∷ glob)) []) (is_match-plain byte (piece ++ 42 ∷ glob) [] (IsPlain-head byte piece plain)) e)
match_behind (byte ∷ piece) glob (first ∷ name) plain e =
    let parts = and_parts (first == byte) (is_match (piece ++ 42 ∷ glob) name) (sym (is_match-plain byte (piece ++ 42 ∷ glob) (first ∷ name) (IsPlain-head byte piece plain)) ∙ e) in
    match_behind piece glob name (IsPlain-tail byte piece plain) parts.1

any_match_step : (piece glob name : List ℕ) (first : ℕ) → IsPlain piece
    → (any_end (is_match (piece ++ 42 ∷ glob)) name ≡ true → any_end (is_match glob) (drop (length piece) name) ≡ true)
    → (is_match (piece ++ 42 ∷ glob) (first ∷ name) ≡ true) ⊎ (any_end (is_match (piece ++ 42 ∷ glob)) name ≡ true)
    → any_end (is_match glob) (drop (length piece) (first ∷ name)) ≡ true
any_match_step piece glob name first plain later (inl e) = match_behind piece glob (first ∷ name) plain e
any_match_step piece glob name first plain later (inr e) =
    any_end-drop_one (is_match glob) (drop (length piece) (first ∷ name)) (subst (λ l. any_end (is_match glob) l ≡ true) (drop_one (length piece) first name) (later e))

-- so does one of which some end matches them: no place of the piece is better than the first
any_match_behind : (piece glob name : List ℕ) → IsPlain piece → any_end (is_match (piece ++ 42 ∷ glob)) name ≡ true → any_end (is_match glob) (drop (length piece) name) ≡ true
any_match_behind piece glob [] plain e = match_behind piece glob [] plain e
any_match_behind piece glob (first ∷ name) plain e =
    any_match_step piece glob name first plain (any_match_behind piece glob name plain)
    (or_cases (is_match (piece ++ 42 ∷ glob) (first ∷ name)) (any_end (is_match (piece ++ 42 ∷ glob)) name) e)

-- where the piece stands at the start
first_at_start : (piece glob rest : List ℕ) → IsPlain piece → any_end (is_match (piece ++ 42 ∷ glob)) (piece ++ rest) ≡ any_end (is_match glob) rest
first_at_start piece glob rest plain =
    same_truth (any_end (is_match (piece ++ 42 ∷ glob)) (piece ++ rest)) (any_end (is_match glob) rest)
    (λ e. subst (λ l. any_end (is_match glob) l ≡ true) (drop-append_seam piece rest) (any_match_behind piece glob (piece ++ rest) plain e))
    (λ e. any_end-whole (is_match (piece ++ 42 ∷ glob)) (piece ++ rest) (is_match-append piece (42 ∷ glob) rest plain ∙ e))

-- where the piece stands first at i
pub first_place : (piece glob name rest : List ℕ) (i : ℕ) → IsPlain piece → ((k : ℕ) → k < i → LacksTextAt piece name k) → drop i name ≡ piece ++ rest
    → any_end (is_match (piece ++ 42 ∷ glob)) name ≡ any_end (is_match glob) rest
first_place piece glob name rest zero plain lacks e = ap (any_end (is_match (piece ++ 42 ∷ glob))) e ∙ first_at_start piece glob rest plain
first_place piece glob [] rest (suc i) plain lacks e = absurd (lacks 0 (omega arith) rest e)
first_place piece glob (first ∷ name) rest (suc i) plain lacks e =
    ap (λ t. t || any_end (is_match (piece ++ 42 ∷ glob)) name) (is_match-lacks piece (42 ∷ glob) (first ∷ name) plain (lacks 0 (omega arith)))
    ∙ first_place piece glob name rest i plain (λ k below. lacks (suc k) (omega arith)) e

-- where the piece stands nowhere
pub no_place : (piece glob name : List ℕ) → IsPlain piece → ((k : ℕ) → k ≤ length name → LacksTextAt piece name k) → any_end (is_match (piece ++ 42 ∷ glob)) name ≡ false
no_place piece glob [] plain lacks = is_match-lacks piece (42 ∷ glob) [] plain (lacks 0 (omega arith))
no_place piece glob (first ∷ name) plain lacks =
    ap (λ t. t || any_end (is_match (piece ++ 42 ∷ glob)) name) (is_match-lacks piece (42 ∷ glob) (first ∷ name) plain (lacks 0 (omega arith)))
    ∙ no_place piece glob name plain (λ k within. lacks (suc k) (omega arith))

-- an end matches a plain glob where the name ends with it
pub end_found : (glob prefix : List ℕ) → IsPlain glob → any_end (is_match glob) (prefix ++ glob) ≡ true
end_found glob [] plain = any_end-whole (is_match glob) glob (is_match-itself glob plain)
end_found glob (first ∷ prefix) plain = or_right (is_match glob (first ∷ (prefix ++ glob))) (any_end (is_match glob) (prefix ++ glob)) (end_found glob prefix plain)

pub end_lacking : (glob name : List ℕ) → IsPlain glob → ((prefix : List ℕ) → name ≢ prefix ++ glob) → any_end (is_match glob) name ≡ false
end_lacking glob [] plain lacks = is_match-other glob [] plain (lacks [])
end_lacking glob (first ∷ name) plain lacks =
    ap (λ t. t || any_end (is_match glob) name) (is_match-other glob (first ∷ name) plain (lacks []))
    ∙ end_lacking glob name plain (λ prefix e. lacks (first ∷ prefix) (ap (λ l. first ∷ l) e))
