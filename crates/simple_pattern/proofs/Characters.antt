-- Bytes of UTF-8 match where the characters do.
use Rattle.std.proofs.Common.{◌≡◌, ◌≢◌, ◌<◌, ◌≤◌, ℕ, ◌+◌, ◌/◌, ◌%◌, Bool, true, false, cond, ◌&&◌, ◌||◌, ◌⊎◌, List, [], ◌∷◌, ◌++◌, All, refl, sym, ap, ◌∙◌, subst, inl, inr, arith, eq-eqb, lit<, nat_lt}
use Rattle.std.proofs.lemmas.Bool.{cases_eq, ltb-true, ne_eqb, both_ways, or_cases, or_right}
use Rattle.std.proofs.lemmas.List.Elements.{All-nil, All-cons, All-head, All-tail, All-weaker}
use Rattle.std.proofs.lemmas.Str.{encode_ascii, encode_same}
use Rattle.std.specs.Str.{encode_utf8_all}
use lib.Utf8.{encode}
use Rattle.simple_pattern.specs.Glob.{any_end, is_match}
use Rattle.simple_pattern.specs.Piece.{IsPlain}
use Rattle.simple_pattern.proofs.GlobLemmas.{is_match-plain, is_match-append, is_match-lacks, same_truth, any_end-whole}

-- a byte inside a character, behind its first
abbrev IsInner : ℕ → Type 0
IsInner byte = (128 ≤ byte) × (byte < 192)

-- the bytes of a character: one below 128, or a first one above those inside characters, and such as follow
record IsEncoding (c : ℕ) (bytes : List ℕ) : Type 0 where
  first : ℕ
  more : List ℕ
  is : bytes ≡ first ∷ more
  lead : ((first ≡ c) × (c < 128)) ⊎ (192 ≤ first)
  inner : All IsInner more

inner_next : (bits : ℕ) → IsInner (128 + bits % 64)
inner_next bits = (omega arith, omega arith)

inner_one : (a : ℕ) → All IsInner ((128 + a % 64) ∷ [])
inner_one a = All-cons IsInner (128 + a % 64) [] (inner_next a) (All-nil IsInner)

inner_two : (b a : ℕ) → All IsInner ((128 + b % 64) ∷ (128 + a % 64) ∷ [])
inner_two b a = All-cons IsInner (128 + b % 64) ((128 + a % 64) ∷ []) (inner_next b) (inner_one a)

inner_three : (c b a : ℕ) → All IsInner ((128 + c % 64) ∷ (128 + b % 64) ∷ (128 + a % 64) ∷ [])
inner_three c b a = All-cons IsInner (128 + c % 64) ((128 + b % 64) ∷ (128 + a % 64) ∷ []) (inner_next c) (inner_two b a)

shape : (c : ℕ) (one two three : Bool) → nat_lt c 128 ≡ one
    → IsEncoding c (cond one (c ∷ []) (cond two ((192 + c / 64) ∷ (128 + c % 64) ∷ []) (cond three ((224 + c / 4096) ∷ (128 + (c / 64) % 64) ∷ (128 + c % 64) ∷ []) ((240 + c / 262144) ∷ (128 + (c / 4096) % 64) ∷ (128 + (c / 64) % 64) ∷ (128 + c % 64) ∷ []))))
shape c true two three e = record { first = c; more = []; is = refl; lead = inl (refl, ltb-true c 128 e); inner = All-nil IsInner }
shape c false true three e = record {
  first = 192 + c / 64;
  more = (128 + c % 64) ∷ [];
  is = refl;
  lead = inr (omega arith);
  inner = inner_one c;
}
shape c false false true e = record {
  first = 224 + c / 4096;
  more = (128 + (c / 64) % 64) ∷ (128 + c % 64) ∷ [];
  is = refl;
  lead = inr (omega arith);
  inner = inner_two (c / 64) c;
}
shape c false false false e = record {
  first = 240 + c / 262144;
  more = (128 + (c / 4096) % 64) ∷ (128 + (c / 64) % 64) ∷ (128 + c % 64) ∷ [];
  is = refl;
  lead = inr (omega arith);
  inner = inner_three (c / 4096) (c / 64) c;
}

encoding : (c : ℕ) → IsEncoding c (encode c)
unfolding encode
encoding c = shape c (nat_lt c 128) (nat_lt c 2048) (nat_lt c 65536) refl

-- the first byte of a character is no byte inside one
lead_other : (c first byte : ℕ) → ((first ≡ c) × (c < 128)) ⊎ (192 ≤ first) → IsInner byte → byte ≢ first
lead_other c first byte (inl low) inner e = omega arith
lead_other c first byte (inr high) inner e = omega arith

lead_plain : (c first : ℕ) → c ≢ 42 → ((first ≡ c) × (c < 128)) ⊎ (192 ≤ first) → first ≢ 42
lead_plain c first other (inl low) e = other (sym low.0 ∙ e)
lead_plain c first other (inr high) e = omega arith

inner_plain : (byte : ℕ) → IsInner byte → byte ≢ 42
inner_plain byte inner e = omega arith

-- a character other than `*` has no byte of `*`
plain_character : (c : ℕ) → c ≢ 42 → IsPlain (encode c)
plain_character c other =
    let bytes = encoding c in
    subst IsPlain (sym bytes.is)
    (All-cons (λ b. b ≢ 42) bytes.first bytes.more (lead_plain c bytes.first other bytes.lead) (All-weaker IsInner (λ b. b ≢ 42) inner_plain bytes.more bytes.inner))

-- no match begins inside a character, unless by a star that reaches over it
star_skips : (glob name : List ℕ) (byte : ℕ) → (is_match glob (byte ∷ name) ≡ true → any_end (is_match glob) name ≡ true)
    → (is_match glob (byte ∷ name) ≡ true) ⊎ (any_end (is_match glob) name ≡ true) → any_end (is_match glob) name ≡ true
star_skips glob name byte later (inl e) = later e
star_skips glob name byte later (inr e) = e

skips_step : (c byte : ℕ) (glob name : List ℕ) → IsInner byte → (is_match glob (byte ∷ name) ≡ true → any_end (is_match glob) name ≡ true) → (c ≡ 42) ⊎ (c ≢ 42)
    → is_match (encode c ++ glob) (byte ∷ name) ≡ true → any_end (is_match (encode c ++ glob)) name ≡ true
skips_step c byte glob name inner later (inl star) =
    let one = ap encode star ∙ encode_ascii 42 (lit< tt) in
    subst (λ bytes. is_match (bytes ++ glob) (byte ∷ name) ≡ true → any_end (is_match (bytes ++ glob)) name ≡ true) (sym one)
    (λ e. any_end-whole (is_match (42 ∷ glob)) name (star_skips glob name byte later (or_cases (is_match glob (byte ∷ name)) (any_end (is_match glob) name) e)))
skips_step c byte glob name inner later (inr other) =
    let bytes = encoding c in
    subst (λ b. is_match (b ++ glob) (byte ∷ name) ≡ true → any_end (is_match (b ++ glob)) name ≡ true) (sym bytes.is)
    (λ e. absurd (both_ways (is_match (bytes.first ∷ (bytes.more ++ glob)) (byte ∷ name))
    (is_match-plain bytes.first (bytes.more ++ glob) (byte ∷ name) (lead_plain c bytes.first other bytes.lead)
    ∙ ap (λ t. t && is_match (bytes.more ++ glob) name) (ne_eqb byte bytes.first (lead_other c bytes.first byte bytes.lead inner))) e))

skips_inner : (glob name : List ℕ) (byte : ℕ) → IsInner byte → is_match (encode_utf8_all glob) (byte ∷ name) ≡ true → any_end (is_match (encode_utf8_all glob)) name ≡ true
skips_inner [] name byte inner e = absurd (both_ways false refl e)
skips_inner (c ∷ glob) name byte inner e = skips_step c byte (encode_utf8_all glob) name inner (skips_inner glob name byte inner) (cases_eq c 42) e

skips_more : (glob more rest : List ℕ) → All IsInner more → any_end (is_match (encode_utf8_all glob)) (more ++ rest) ≡ any_end (is_match (encode_utf8_all glob)) rest
skips_more glob [] rest inner = refl
skips_more glob (byte ∷ more) rest inner =
    let passes = is_match (encode_utf8_all glob) in
    same_truth (passes (byte ∷ (more ++ rest)) || any_end passes (more ++ rest)) (any_end passes (more ++ rest))
    (λ e. star_skips (encode_utf8_all glob) (more ++ rest) byte (skips_inner glob (more ++ rest) byte (All-head IsInner byte more inner)) (or_cases (passes (byte ∷ (more ++ rest))) (any_end passes (more ++ rest)) e))
    (λ e. or_right (passes (byte ∷ (more ++ rest))) (any_end passes (more ++ rest)) e)
    ∙ skips_more glob more rest (All-tail IsInner byte more inner)

-- so the ends of the bytes that match are those of the characters
ends_same : (glob : List ℕ) → ((name : List ℕ) → is_match (encode_utf8_all glob) (encode_utf8_all name) ≡ is_match glob name)
    → (name : List ℕ) → any_end (is_match (encode_utf8_all glob)) (encode_utf8_all name) ≡ any_end (is_match glob) name
ends_same glob same [] = same []
ends_same glob same (c ∷ name) =
    let passes = is_match (encode_utf8_all glob) in
    let bytes = encoding c in
    let whole : encode_utf8_all (c ∷ name) ≡ bytes.first ∷ (bytes.more ++ encode_utf8_all name) = ap (λ b. b ++ encode_utf8_all name) bytes.is in
    ap (any_end passes) whole
    ∙ ap (λ t. t || any_end passes (bytes.more ++ encode_utf8_all name)) (ap passes (sym whole) ∙ same (c ∷ name))
    ∙ ap (λ t. is_match glob (c ∷ name) || t) (skips_more glob bytes.more (encode_utf8_all name) bytes.inner ∙ ends_same glob same name)

-- a character that is no star
module _ (d : ℕ) (glob : List ℕ) (other : d ≢ 42) where
  character_at : (c : ℕ) (name : List ℕ) → is_match (encode_utf8_all glob) (encode_utf8_all name) ≡ is_match glob name → (c ≡ d) ⊎ (c ≢ d)
      → is_match (encode d ++ encode_utf8_all glob) (encode c ++ encode_utf8_all name) ≡ is_match (d ∷ glob) (c ∷ name)
  character_at c name same (inl e) =
      ap (λ x. is_match (encode d ++ encode_utf8_all glob) (encode x ++ encode_utf8_all name)) e
      ∙ is_match-append (encode d) (encode_utf8_all glob) (encode_utf8_all name) (plain_character d other)
      ∙ same
      ∙ sym (is_match-plain d glob (c ∷ name) other ∙ ap (λ t. t && is_match glob name) (eq-eqb c d e))
  character_at c name same (inr differ) =
      is_match-lacks (encode d) (encode_utf8_all glob) (encode c ++ encode_utf8_all name) (plain_character d other) (λ rest e. differ (encode_same c d (encode_utf8_all name) rest e).0)
      ∙ sym (is_match-plain d glob (c ∷ name) other ∙ ap (λ t. t && is_match glob name) (ne_eqb c d differ))

  character_in : ((name : List ℕ) → is_match (encode_utf8_all glob) (encode_utf8_all name) ≡ is_match glob name)
      → (name : List ℕ) → is_match (encode d ++ encode_utf8_all glob) (encode_utf8_all name) ≡ is_match (d ∷ glob) name
  character_in same [] =
      let bytes = encoding d in
      is_match-lacks (encode d) (encode_utf8_all glob) [] (plain_character d other) (λ rest e. let none = e ∙ ap (λ b. b ++ rest) bytes.is in cc)
      ∙ sym (is_match-plain d glob [] other)
  character_in same (c ∷ name) = character_at c name (same name) (cases_eq c d)

characters_step : (d : ℕ) (glob name : List ℕ) → ((name' : List ℕ) → is_match (encode_utf8_all glob) (encode_utf8_all name') ≡ is_match glob name') → (d ≡ 42) ⊎ (d ≢ 42)
    → is_match (encode d ++ encode_utf8_all glob) (encode_utf8_all name) ≡ is_match (d ∷ glob) name
characters_step d glob name same (inl star) =
    subst (λ x. is_match (encode x ++ encode_utf8_all glob) (encode_utf8_all name) ≡ is_match (x ∷ glob) name) (sym star)
    (ap (λ b. is_match (b ++ encode_utf8_all glob) (encode_utf8_all name)) (encode_ascii 42 (lit< tt)) ∙ ends_same glob same name)
characters_step d glob name same (inr other) = character_in d glob other same name

pub is_match-characters : (glob name : List ℕ) → is_match (encode_utf8_all glob) (encode_utf8_all name) ≡ is_match glob name
is_match-characters [] [] = refl
is_match-characters [] (c ∷ name) = ap (λ b. is_match [] (b ++ encode_utf8_all name)) (encoding c).is
is_match-characters (d ∷ glob) name = characters_step d glob name (is_match-characters glob) (cases_eq d 42)
