-- How the parts of a text follow from the parts of its pieces.
use Rattle.std.proofs.Common.{◌≡◌, ℕ, Bool, true, false, cond, List, [], ◌∷◌, ◌++◌, refl, sym, ap, ◌∙◌}
use Rattle.std.specs.List.{onto_first}
use Rattle.std.proofs.lemmas.List.{append-nil, append_cancel_left}
use Rattle.std.proofs.lemmas.List.Splits.{slice_split-cons_no}
use Rattle.history.specs.Limits.{is_line_feed}
use Rattle.plugin_text.specs.Lines.{parts, but_last, last_part, lines, rest}

-- a text has at least one part
pub parts_first : (text : List ℕ) → (first : List ℕ) × (others : List (List ℕ)) × (parts text ≡ first ∷ others)
parts_first [] = ([], [], refl)
parts_first (byte ∷ text) =
    let more = parts_first text in
    first_of_step byte (is_line_feed byte) more.0 more.1 more.2
  where
    first_of_step : (byte : ℕ) (b : Bool) (first : List ℕ) (others : List (List ℕ)) → parts text ≡ first ∷ others
        → (f : List ℕ) × (o : List (List ℕ)) × (cond b ([] ∷ parts text) (onto_first byte (parts text)) ≡ f ∷ o)
    first_of_step byte true first others e = ([], parts text, refl)
    first_of_step byte false first others e = (byte ∷ first, others, ap (onto_first byte) e)

pub but_last-append : (prefix : List (List ℕ)) (part : List ℕ) (others : List (List ℕ)) → but_last (prefix ++ part ∷ others) ≡ prefix ++ but_last (part ∷ others)
but_last-append [] part others = refl
but_last-append (first ∷ []) part others = refl
but_last-append (first ∷ next ∷ prefix) part others = ap (λ ps. first ∷ ps) (but_last-append (next ∷ prefix) part others)

pub last_part-append : (prefix : List (List ℕ)) (part : List ℕ) (others : List (List ℕ)) → last_part (prefix ++ part ∷ others) ≡ last_part (part ∷ others)
last_part-append [] part others = refl
last_part-append (first ∷ []) part others = refl
last_part-append (first ∷ next ∷ prefix) part others = last_part-append (next ∷ prefix) part others

-- all but the last, and then the last
whole : (part : List ℕ) (others : List (List ℕ)) → part ∷ others ≡ but_last (part ∷ others) ++ last_part (part ∷ others) ∷ []
whole part [] = refl
whole part (next ∷ others) = ap (λ ps. part ∷ ps) (whole next others)

-- the parts of a text are its lines and then its rest
pub parts_whole : (text : List ℕ) → parts text ≡ lines text ++ rest text ∷ []
parts_whole text =
    let some = parts_first text in
    rw some.2 (whole some.0 some.1)

-- one byte before a text, where the text is followed by more
module _ (byte : ℕ) (more : List ℕ) where
  from_rest : (b : Bool) (part : List ℕ) (others : List (List ℕ)) → is_line_feed byte ≡ b
      → let ps = part ∷ others in
      let after = but_last ps ++ parts (last_part ps ++ more) in
      let now = cond b ([] ∷ ps) (onto_first byte ps) in
      cond b ([] ∷ after) (onto_first byte after) ≡ but_last now ++ parts (last_part now ++ more)
  from_rest true part [] e = refl
  from_rest true part (next ∷ others) e = refl
  from_rest false part [] e = sym (slice_split-cons_no is_line_feed byte (part ++ more) e)
  from_rest false part (next ∷ others) e = refl

  from_last : (b : Bool) (part : List ℕ) (others : List (List ℕ)) (first : List ℕ) (following : List (List ℕ))
      → let ps = part ∷ others in
      let after = but_last ps ++ (last_part ps ++ first) ∷ following in
      let now = cond b ([] ∷ ps) (onto_first byte ps) in
      cond b ([] ∷ after) (onto_first byte after) ≡ but_last now ++ (last_part now ++ first) ∷ following
  from_last true part [] first following = refl
  from_last true part (next ∷ others) first following = refl
  from_last false part [] first following = refl
  from_last false part (next ∷ others) first following = refl

-- what follows a text goes on after its rest
pub parts-append : (text more : List ℕ) → parts (text ++ more) ≡ lines text ++ parts (rest text ++ more)
parts-append [] more = refl
parts-append (byte ∷ text) more =
    let some = parts_first text in
    let step = from_rest byte more (is_line_feed byte) some.0 some.1 refl in
    ap (λ ps. cond (is_line_feed byte) ([] ∷ ps) (onto_first byte ps)) (parts-append text more) ∙ rw some.2 step

-- the first part of what follows ends the rest of the text
pub parts-append_parts : (text more first : List ℕ) (following : List (List ℕ)) → parts more ≡ first ∷ following
    → parts (text ++ more) ≡ lines text ++ (rest text ++ first) ∷ following
parts-append_parts [] more first following e = e
parts-append_parts (byte ∷ text) more first following e =
    let some = parts_first text in
    let step = from_last byte more (is_line_feed byte) some.0 some.1 first following in
    ap (λ ps. cond (is_line_feed byte) ([] ∷ ps) (onto_first byte ps)) (parts-append_parts text more first following e) ∙ rw some.2 step

pub lines-append : (text more : List ℕ) → lines (text ++ more) ≡ lines text ++ lines (rest text ++ more)
lines-append text more =
    let some = parts_first (rest text ++ more) in
    ap but_last (parts-append text more) ∙ rw some.2 (but_last-append (lines text) some.0 some.1)

pub rest-append : (text more : List ℕ) → rest (text ++ more) ≡ rest (rest text ++ more)
rest-append text more =
    let some = parts_first (rest text ++ more) in
    ap last_part (parts-append text more) ∙ rw some.2 (last_part-append (lines text) some.0 some.1)

-- the rest of a text is one part
pub parts-rest : (text : List ℕ) → parts (rest text) ≡ rest text ∷ []
parts-rest text =
    let all : parts text ≡ lines text ++ parts (rest text) = simp append-nil at (parts-append text []) in
    append_cancel_left (lines text) _ _ (sym all ∙ parts_whole text)

pub parts_onward : (text held more : List ℕ) → held ≡ rest text → parts (text ++ more) ≡ lines text ++ parts (held ++ more)
parts_onward text held more is = rw is (parts-append text more)
