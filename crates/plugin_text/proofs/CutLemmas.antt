-- How far a text has been cut, while it is.
use Rattle.std.proofs.Common.{◌≡◌, ℕ, true, false, List, [], ◌∷◌, ◌++◌, Result, Ok, Err, IsErrOf, OnOk, OnErr, refl, sym, ap, ◌∙◌, subst, append_assoc}
use Rattle.std.specs.List.{AllPass}
use Rattle.std.proofs.lemmas.List.{append-nil}
use Rattle.std.proofs.lemmas.List.Elements.{All-nil, All-append, All-push}
use Rattle.plugin_text.specs.Lines.{parts, but_last, last_part, lines, rest, fits, HasNoLongLine, IsLongAfter, BeginsWithLines, IsRest}
use Rattle.plugin_text.proofs.PartsLemmas.{parts_first, parts_whole, parts-rest, but_last-append, last_part-append, parts-append_parts}

-- the lines that were handed out are the first parts of the text; the others are those of what is held and what is ahead
pub record HasCut (text held ahead : List ℕ) (before now : List (List ℕ)) : Type 0 where
  pub cut : List (List ℕ)
  pub handed : now ≡ before ++ cut
  pub whole : parts text ≡ cut ++ parts (held ++ ahead)
  pub short : AllPass fits cut
  pub is_rest : IsRest held

-- where nothing is held there is no line feed
pub IsRest-nil : IsRest []
IsRest-nil = record { no_line_feed = refl; short = refl }

-- at the start nothing is cut
pub HasCut-start : (held piece : List ℕ) (before : List (List ℕ)) → IsRest held → HasCut (held ++ piece) held piece before before
HasCut-start held piece before is_rest = record {
  cut = [];
  handed = sym (append-nil before);
  whole = refl;
  short = All-nil (λ part. fits part ≡ true);
  is_rest = is_rest;
}

-- the first part of what is ahead ends what is held
pub parts_joined : (held ahead first : List ℕ) (others : List (List ℕ)) → IsRest held → parts ahead ≡ first ∷ others → parts (held ++ ahead) ≡ (held ++ first) ∷ others
parts_joined held ahead first others is_rest is =
    rw is_rest.no_line_feed at (parts-append_parts held ahead first others is)

module _ (text held ahead : List ℕ) (before now : List (List ℕ)) (h : HasCut text held ahead before now) where
  -- one line further
  pub HasCut-line : (end left held' : List ℕ) (now' : List (List ℕ)) → parts ahead ≡ end ∷ parts left → fits (held ++ end) ≡ true
      → held' ≡ [] → now' ≡ now ++ (held ++ end) ∷ [] → HasCut text held' left before now'
  HasCut-line end left held' now' is fit cleared line = rw cleared record {
    cut = h.cut ++ (held ++ end) ∷ [];
    handed = line ∙ ap (λ ls. ls ++ (held ++ end) ∷ []) h.handed ∙ append_assoc before h.cut _;
    whole = h.whole ∙ ap (λ ps. h.cut ++ ps) (parts_joined held ahead end (parts left) h.is_rest is) ∙ sym (append_assoc h.cut _ _);
    short = All-push (λ part. fits part ≡ true) h.cut (held ++ end) h.short fit;
    is_rest = IsRest-nil;
  }

  -- the next part is too long
  pub IsLongAfter-cut : (end : List ℕ) (others : List (List ℕ)) (now' : List (List ℕ)) → parts ahead ≡ end ∷ others → fits (held ++ end) ≡ false → now' ≡ now
      → (handed : List (List ℕ)) × (now' ≡ before ++ handed) × IsLongAfter text handed
  IsLongAfter-cut end others now' is long same = (
    h.cut,
    same ∙ h.handed,
    record {
      long = held ++ end;
      more = others;
      whole = h.whole ∙ ap (λ ps. h.cut ++ ps) (parts_joined held ahead end others h.is_rest is);
      short = h.short;
      too_long = long;
    },
  )

  -- there is no memory for the next part
  pub BeginsWithLines-cut : (now' : List (List ℕ)) → now' ≡ now → (handed : List (List ℕ)) × (now' ≡ before ++ handed) × BeginsWithLines text handed
  BeginsWithLines-cut now' same =
      let some = parts_first (held ++ ahead) in (
        h.cut,
        same ∙ h.handed,
        record {
          left = lines (held ++ ahead);
          whole = ap but_last h.whole ∙ rw some.2 (but_last-append h.cut some.0 some.1);
          short = h.short;
        },
      )

  -- no line feed is ahead
  module _ (none : parts ahead ≡ ahead ∷ []) where
    last_is : parts text ≡ h.cut ++ (held ++ ahead) ∷ []
    last_is = h.whole ∙ ap (λ ps. h.cut ++ ps) (parts_joined held ahead ahead [] h.is_rest none)

    lines-are : lines text ≡ h.cut
    lines-are = ap but_last last_is ∙ but_last-append h.cut (held ++ ahead) [] ∙ append-nil h.cut

    pub lines-cut : now ≡ before ++ lines text
    lines-cut = h.handed ∙ ap (λ ls. before ++ ls) (sym lines-are)

    pub AllPass-lines_cut : AllPass fits (lines text)
    AllPass-lines_cut = subst (AllPass fits) (sym lines-are) h.short

    pub rest-cut : rest text ≡ held ++ ahead
    rest-cut = ap last_part last_is ∙ last_part-append h.cut (held ++ ahead) []

    pub HasNoLongLine-cut : fits (held ++ ahead) ≡ true → HasNoLongLine text
    HasNoLongLine-cut fit = subst (AllPass fits) (sym last_is) (All-push (λ part. fits part ≡ true) h.cut (held ++ ahead) h.short fit)

    pub IsRest-kept : {T E : Type 0} (r : Result T E) (held' : List ℕ) → OnOk r (held' ≡ held ++ ahead) → OnOk r (fits (held ++ ahead) ≡ true) → OnErr r (held' ≡ held) → IsRest held'
    IsRest-kept (Ok _) held' kept fit same = rw kept record {
      no_line_feed = parts_joined held ahead ahead [] h.is_rest none;
      short = fit;
    }
    IsRest-kept (Err _) held' kept fit same = rw same h.is_rest

-- ---- where nothing is held, the lines of what is ahead are lines of the text
module _ (text held ahead : List ℕ) (before now : List (List ℕ)) (h : HasCut text held ahead before now) (none : held ≡ []) where
  abbrev IsShort : List ℕ → Type 0
  IsShort part = fits part ≡ true

  ahead-whole : parts text ≡ h.cut ++ parts ahead
  ahead-whole = h.whole ∙ ap (λ (prefix : List ℕ). h.cut ++ parts (prefix ++ ahead)) none

  handed-more : (more now' : List (List ℕ)) → now' ≡ now ++ more → now' ≡ before ++ (h.cut ++ more)
  handed-more more now' same = same ∙ ap (λ ls. ls ++ more) h.handed ∙ append_assoc before h.cut more

  -- all of them
  pub HasCut-lines : (left : List ℕ) (now' : List (List ℕ)) → left ≡ rest ahead → now' ≡ now ++ lines ahead → AllPass fits (lines ahead) → HasCut text held left before now'
  HasCut-lines left now' is same short = rw (none, is) record {
    cut = h.cut ++ lines ahead;
    handed = handed-more (lines ahead) now' same;
    whole = ahead-whole ∙ ap (λ ps. h.cut ++ ps) (parts_whole ahead ∙ ap (λ ps. lines ahead ++ ps) (sym (parts-rest ahead))) ∙ sym (append_assoc h.cut (lines ahead) (parts (rest ahead)));
    short = All-append IsShort h.cut (lines ahead) h.short short;
    is_rest = IsRest-nil;
  }

  -- those before one that is too long
  pub IsLongAfter-lines : (more now' : List (List ℕ)) → now' ≡ now ++ more → IsLongAfter ahead more → (handed : List (List ℕ)) × (now' ≡ before ++ handed) × IsLongAfter text handed
  IsLongAfter-lines more now' same long = (
    h.cut ++ more,
    handed-more more now' same,
    record {
      long = long.long;
      more = long.more;
      whole = ahead-whole ∙ ap (λ ps. h.cut ++ ps) long.whole ∙ sym (append_assoc h.cut more (long.long ∷ long.more));
      short = All-append IsShort h.cut more h.short long.short;
      too_long = long.too_long;
    },
  )

  -- those before one for which there is no memory
  pub BeginsWithLines-lines : (more now' : List (List ℕ)) → now' ≡ now ++ more → BeginsWithLines ahead more
      → (handed : List (List ℕ)) × (now' ≡ before ++ handed) × BeginsWithLines text handed
  BeginsWithLines-lines more now' same prefix =
      let some = parts_first ahead in
      let behind : lines text ≡ h.cut ++ lines ahead = ap but_last ahead-whole ∙ rw some.2 (but_last-append h.cut some.0 some.1) in (
        h.cut ++ more,
        handed-more more now' same,
        record {
          left = prefix.left;
          whole = behind ∙ ap (λ ls. h.cut ++ ls) prefix.whole ∙ sym (append_assoc h.cut more prefix.left);
          short = All-append IsShort h.cut more h.short prefix.short;
        },
      )

-- the first line of a piece ends what is held, and the others are lines of the piece
pub HasCut-piece : (held piece end more left held' : List ℕ) (before now now' : List (List ℕ)) → IsRest held → parts piece ≡ end ∷ parts more → fits (held ++ end) ≡ true
    → held' ≡ [] → now ≡ before ++ (held ++ end) ∷ [] → left ≡ rest more → now' ≡ now ++ lines more → AllPass fits (lines more) → HasCut (held ++ piece) held' left before now'
HasCut-piece held piece end more left held' before now now' is_rest is fit cleared line left_is added short =
    let first = HasCut-line (held ++ piece) held piece before before (HasCut-start held piece before is_rest) end more held' now is fit cleared line in
    HasCut-lines (held ++ piece) held' more before now first cleared left now' left_is added short

-- the rest of a text has no line feed
pub parts-left : (left text : List ℕ) → left ≡ rest text → parts left ≡ left ∷ []
parts-left left text is = rw is (parts-rest text)

abbrev fault_in : {T E : Type 0} → E → Result T E → E
fault_in other (Ok done) = other
fault_in other (Err fault) = fault

-- an error is the same one in an answer of another type
pub same_error : {T U E : Type 0} (fault other : E) → IsErrOf {T = T} (Err fault) other → IsErrOf {T = U} (Err fault) other
same_error {T = T} {U = U} {E = E} fault other is =
    let same : fault ≡ other = ap (fault_in {T = T} fault) is in
    subst (λ (e : E). IsErrOf {T = U} (Err fault) e) same refl
