-- how a fact about each moment is carried from call to call, and from one file to the whole disk
use Rattle.std.proofs.Common.{◌≡◌, ℕ, Bool, true, false, cond, eq-eqb, List, [], ◌∷◌, ◌++◌, length, take, refl, sym, ap, ◌∙◌, subst, arith, append_assoc, append-nil, length-append}
use Rattle.std.proofs.lemmas.List.{take_all, nil_from_length}
use Rattle.host_model.specs.declared.file.File.{File}
use Rattle.host_model.specs.Images.{Change}
use Rattle.host_model.specs.Past.{Event, On, Told, file_number, is_same, IsOther, of, told, IsText}
use Rattle.host_model.specs.Moments.{Throughout, begins, goes_on, OnlyOn}

-- the new past has grown from the old one
pub record Grows (old new : List Event) : Type 0 where
  pub more : List Event
  pub whole : new ≡ more ++ old

Grows-same : (past : List Event) → Grows past past
Grows-same past = record { more = []; whole = refl }

Grows-event : (event : Event) (old past : List Event) → Grows old past → Grows old (event ∷ past)
Grows-event event old past grown = record { more = event ∷ grown.more; whole = ap (λ (l : List Event). event ∷ l) grown.whole }

-- moments

pub at_start : {P : List Event → Type 0} {old new : List Event} → Throughout P old new → P old
at_start (begins first) = first
at_start (goes_on event past before here) = at_start before

pub at_end : {P : List Event → Type 0} {old new : List Event} → Throughout P old new → P new
at_end (begins first) = first
at_end (goes_on event past before here) = here

pub grown : {P : List Event → Type 0} {old new : List Event} → Throughout P old new → Grows old new
grown {P} {old} (begins first) = Grows-same old
grown {P} {old} (goes_on event past before here) = Grows-event event old past (grown before)

pub joined : {P : List Event → Type 0} {old middle new : List Event} → Throughout P old middle → Throughout P middle new → Throughout P old new
joined first (begins here) = first
joined first (goes_on event past before here) = goes_on event past (joined first before) here

-- of each moment it may be used that it has grown from the start, and that the end has grown from it
pub strengthened : {P Q : List Event → Type 0} {old new : List Event}
    → ((past : List Event) → Grows old past → Grows past new → P past → Q past) → Throughout P old new → Throughout Q old new
strengthened {P} {Q} {old} shows (begins first) = begins (shows old (Grows-same old) (Grows-same old) first)
strengthened {P} {Q} {old} shows (goes_on event past before here) =
    goes_on event past
    (strengthened (λ earlier from_old to_past held. shows earlier from_old (Grows-event event earlier past to_past) held) before)
    (shows (event ∷ past) (Grows-event event old past (grown before)) (Grows-same (event ∷ past)) here)

pub weakened : {P Q : List Event → Type 0} {old new : List Event} → ((past : List Event) → P past → Q past) → Throughout P old new → Throughout Q old new
weakened shows moments = strengthened (λ past _ _ held. shows past held) moments

-- the past of one file, and of the output

same_as_itself : (file : File) → is_same file file ≡ true
same_as_itself file = eq-eqb (file_number file) (file_number file) refl

pub of-on_same : (file : File) (change : Change) (past : List Event) → of file (On file change ∷ past) ≡ change ∷ of file past
of-on_same file change past = rw (same_as_itself file) refl

pub of-on_other : (file other : File) (change : Change) (past : List Event) → IsOther other file → of other (On file change ∷ past) ≡ of other past
of-on_other file other change past apart = rw apart refl

choice-append : {A : Type 0} (b : Bool) (x : A) (xs ys zs : List A) → zs ≡ xs ++ ys → cond b (x ∷ zs) zs ≡ cond b (x ∷ xs) xs ++ ys
choice-append true x xs ys zs e = ap (λ l. x ∷ l) e
choice-append false x xs ys zs e = e

pub of-append : (file : File) (more old : List Event) → of file (more ++ old) ≡ of file more ++ of file old
of-append file [] old = refl
of-append file (On other change ∷ more) old =
    choice-append (is_same file other) change (of file more) (of file old) (of file (more ++ old)) (of-append file more old)
of-append file (Told sent ∷ more) old = of-append file more old

pub told-append : (more old : List Event) → told (more ++ old) ≡ told old ++ told more
told-append [] old = sym (append-nil (told old))
told-append (On file change ∷ more) old = told-append more old
told-append (Told sent ∷ more) old = ap (λ l. l ++ sent) (told-append more old) ∙ append_assoc (told old) (told more) sent

nothing_more : {A : Type 0} (xs ys zs : List A) → xs ++ (ys ++ zs) ≡ zs → ys ++ zs ≡ zs
nothing_more xs ys zs e =
    let none : ys ≡ [] = nil_from_length ys (omega (arith, ap length e, length-append xs (ys ++ zs), length-append ys zs)) in
    rw none refl

nothing_said : (old more later : List ℕ) → (old ++ more) ++ later ≡ old → old ++ more ≡ old
nothing_said old more later e =
    let none : more ≡ [] = nil_from_length more (omega (arith, ap length e, length-append (old ++ more) later, length-append old more)) in
    rw (none, append-nil old) refl

-- what happened to no other file in the end, happened to none at any moment
pub only_on_each : (file : File) (old past new : List Event) → OnlyOn file old new → Grows old past → Grows past new → OnlyOn file old past
only_on_each file old past new only from_old to_new = record {
  others = λ other apart.
      let here : of other past ≡ of other from_old.more ++ of other old = ap (of other) from_old.whole ∙ of-append other from_old.more old in
      let there : of other new ≡ of other to_new.more ++ of other past = ap (of other) to_new.whole ∙ of-append other to_new.more past in
      let same : of other to_new.more ++ (of other from_old.more ++ of other old) ≡ of other old =
      ap (λ l. of other to_new.more ++ l) (sym here) ∙ sym there ∙ only.others other apart in
      here ∙ nothing_more (of other to_new.more) (of other from_old.more) (of other old) same;
  output =
      let here : told past ≡ told old ++ told from_old.more = ap told from_old.whole ∙ told-append from_old.more old in
      let there : told new ≡ told past ++ told to_new.more = ap told to_new.whole ∙ told-append to_new.more past in
      let same : (told old ++ told from_old.more) ++ told to_new.more ≡ told old =
      ap (λ l. l ++ told to_new.more) (sym here) ∙ sym there ∙ only.output in
      here ∙ nothing_said (told old) (told from_old.more) (told to_new.more) same;
}

-- all that was told may have been told by then
pub full_text : (past : List Event) (text : List ℕ) → text ≡ told past → IsText past text
full_text [] text e = e
full_text (On file change ∷ past) text e = e
full_text (Told sent ∷ past) text e = (length sent, e ∙ ap (λ l. told past ++ l) (sym (take_all (length sent) sent (omega arith))))

text_before : (old more : List Event) → told (more ++ old) ≡ told old → (text : List ℕ) → IsText (more ++ old) text → IsText old text
text_before old [] same text there = there
text_before old (On file change ∷ more) same text there = full_text old text (there ∙ same)
text_before old (Told sent ∷ more) same text there =
    let earlier = told-append more old in
    let sizes = ap length same in
    let none : sent ≡ [] = nil_from_length sent (omega (arith, sizes, ap length earlier, length-append (told (more ++ old)) sent, length-append (told old) (told more))) in
    let nothing : told more ≡ [] = nil_from_length (told more) (omega (arith, sizes, ap length earlier, length-append (told (more ++ old)) sent, length-append (told old) (told more))) in
    let cut : text ≡ told (more ++ old) ++ take there.0 [] = subst (λ l. text ≡ told (more ++ old) ++ take there.0 l) none there.1 in
    full_text old text (cut ∙ ap (λ l. told (more ++ old) ++ l) (take_all there.0 [] (omega arith)) ∙ append-nil (told (more ++ old)) ∙ earlier ∙ ap (λ l. told old ++ l) nothing ∙ append-nil (told old))

-- where nothing was told between, what may have been told by then may have been told at the start
pub text_at_start : (old past : List Event) → Grows old past → told past ≡ told old → (text : List ℕ) → IsText past text → IsText old text
text_at_start old past grew same text there =
    text_before old grew.more (sym (ap told grew.whole) ∙ same) text (subst (λ p. IsText p text) grew.whole there)

-- frames
pub OnlyOn-same : (file : File) (past : List Event) → OnlyOn file past past
OnlyOn-same file past = record { others = λ other apart. refl; output = refl }

pub OnlyOn-change : (file : File) (change : Change) (old past : List Event) → OnlyOn file old past → OnlyOn file old (On file change ∷ past)
OnlyOn-change file change old past only = record {
  others = λ other apart. of-on_other file other change past apart ∙ only.others other apart;
  output = only.output;
}

pub OnlyOn-joined : (file : File) (old past new : List Event) → OnlyOn file old past → OnlyOn file past new → OnlyOn file old new
OnlyOn-joined file old past new first second = record {
  others = λ other apart. second.others other apart ∙ first.others other apart;
  output = second.output ∙ first.output;
}

-- at each moment nothing happened to another file
pub only_on_throughout : {P : List Event → Type 0} {old new : List Event} (file : File) → OnlyOn file old new → Throughout P old new → Throughout (OnlyOn file old) old new
only_on_throughout {P} {old} {new} file only moments =
    strengthened (λ past from_old to_new held. only_on_each file old past new only from_old to_new) moments
