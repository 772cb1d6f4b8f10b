-- what a crash may leave of one file, from what has happened to it since its last sync
use Rattle.std.proofs.Common.{◌≡◌, ℕ, ◌+◌, ◌<◌, ◌≤◌, List, [], ◌∷◌, ◌++◌, length, max, take, drop, refl, sym, ap, ◌∙◌, inl, inr, arith}
use Rattle.std.proofs.lemmas.List.{append-nil, length-append, length-take, length-drop, get_or-take, get_or-drop, ext_get_or, take_all, drop_all, take_at, drop_at, drop-drop, take-take, take-append-le}
use Rattle.host_model.specs.Images.{Change, Wrote, Cut, Synced, contents, written, synced, least, greatest, IsUntouched, IsImage, IsSynced}

-- a file with no change since its last sync has one image, and that is what it reads as
pub contents-synced : (past : List Change) → IsSynced past → contents past ≡ synced past
contents-synced [] stable = refl
contents-synced (Wrote at size now ∷ past) stable = absurd stable
contents-synced (Cut len now ∷ past) stable = absurd stable
contents-synced (Synced ∷ past) stable = refl

untouched_when_synced : (past : List Change) → IsSynced past → (place : ℕ) → IsUntouched past place
untouched_when_synced [] stable place = tt
untouched_when_synced (Wrote at size now ∷ past) stable place = absurd stable
untouched_when_synced (Cut len now ∷ past) stable place = absurd stable
untouched_when_synced (Synced ∷ past) stable place = tt

least-synced : (past : List Change) → IsSynced past → least past ≡ length (synced past)
least-synced [] stable = refl
least-synced (Wrote at size now ∷ past) stable = absurd stable
least-synced (Cut len now ∷ past) stable = absurd stable
least-synced (Synced ∷ past) stable = refl

greatest-synced : (past : List Change) → IsSynced past → greatest past ≡ length (synced past)
greatest-synced [] stable = refl
greatest-synced (Wrote at size now ∷ past) stable = absurd stable
greatest-synced (Cut len now ∷ past) stable = absurd stable
greatest-synced (Synced ∷ past) stable = refl

pub image_when_synced : (past : List Change) (bytes : List ℕ) → IsSynced past → IsImage past bytes → bytes ≡ contents past
image_when_synced past bytes stable image =
    let shorter = image.no_shorter in
    let longer = image.no_longer in
    let size : length bytes ≡ length (synced past) = omega (arith, least-synced past stable, greatest-synced past stable, shorter, longer) in
    ext_get_or 0 bytes (synced past) size (λ place below. image.kept place (omega arith) below (untouched_when_synced past stable place))
    ∙ sym (contents-synced past stable)

pub synced_is_image : (past : List Change) → IsSynced past → IsImage past (contents past)
synced_is_image past stable = rw (contents-synced past stable) (record {
  no_shorter = omega (arith, least-synced past stable);
  no_longer = omega (arith, greatest-synced past stable);
  kept = λ place below within untouched. refl;
})

-- since its last sync the file has had only writes and cuts from this place on
abbrev pub IsFrom : ℕ → List Change → Type 0
IsFrom from [] = Unit {0}
IsFrom from (Wrote at size now ∷ past) = (from ≤ at) × IsFrom from past
IsFrom from (Cut len now ∷ past) = (from ≤ len) × IsFrom from past
IsFrom from (Synced ∷ past) = Unit {0}

pub IsFrom-synced : (from : ℕ) (past : List Change) → IsSynced past → IsFrom from past
IsFrom-synced from [] stable = tt
IsFrom-synced from (Wrote at size now ∷ past) stable = absurd stable
IsFrom-synced from (Cut len now ∷ past) stable = absurd stable
IsFrom-synced from (Synced ∷ past) stable = tt

untouched_below : (from : ℕ) (past : List Change) → IsFrom from past → (place : ℕ) → place < from → IsUntouched past place
untouched_below from [] all place below = tt
untouched_below from (Wrote at size now ∷ past) all place below = (inl (omega arith), untouched_below from past all.1 place below)
untouched_below from (Cut len now ∷ past) all place below = (omega arith, untouched_below from past all.1 place below)
untouched_below from (Synced ∷ past) all place below = tt

least_from : (from : ℕ) (past : List Change) → IsFrom from past → from ≤ length (synced past) → from ≤ least past
least_from from [] all within = within
least_from from (Wrote at size now ∷ past) all within = least_from from past all.1 within
least_from from (Cut len now ∷ past) all within = let before : from ≤ least past = least_from from past all.1 within in omega (arith, all.0)
least_from from (Synced ∷ past) all within = within

-- then each image keeps what was synced before that place
pub prefix_kept : (from : ℕ) (past : List Change) (bytes : List ℕ) → IsFrom from past → from ≤ length (synced past) → IsImage past bytes
    → (from ≤ length bytes) × (take from bytes ≡ take from (synced past))
prefix_kept from past bytes all within image =
    let enough : from ≤ length bytes = omega (arith, least_from from past all within, image.no_shorter) in (
      enough,
      ext_get_or 0 (take from bytes) (take from (synced past)) (omega (arith, length-take from bytes, length-take from (synced past)))
          (λ place below.
          let below_from : place < from = omega (arith, length-take from bytes) in
          get_or-take from bytes place 0 below_from
          ∙ image.kept place (omega arith) (omega arith) (untouched_below from past all place below_from)
          ∙ sym (get_or-take from (synced past) place 0 below_from)),
    )

-- since its last sync the file has had only writes, and each within these places
abbrev pub IsWithin : ℕ → ℕ → List Change → Type 0
IsWithin from to [] = Unit {0}
IsWithin from to (Wrote at size now ∷ past) = (from ≤ at) × (at + size ≤ to) × IsWithin from to past
IsWithin from to (Cut len now ∷ past) = ⊥
IsWithin from to (Synced ∷ past) = Unit {0}

pub IsWithin-synced : (from to : ℕ) (past : List Change) → IsSynced past → IsWithin from to past
IsWithin-synced from to [] stable = tt
IsWithin-synced from to (Wrote at size now ∷ past) stable = absurd stable
IsWithin-synced from to (Cut len now ∷ past) stable = absurd stable
IsWithin-synced from to (Synced ∷ past) stable = tt

IsFrom-within : (from to : ℕ) (past : List Change) → IsWithin from to past → IsFrom from past
IsFrom-within from to [] all = tt
IsFrom-within from to (Wrote at size now ∷ past) all = (all.0, IsFrom-within from to past all.2)
IsFrom-within from to (Cut len now ∷ past) all = absurd all
IsFrom-within from to (Synced ∷ past) all = tt

untouched_outside : (from to : ℕ) (past : List Change) → IsWithin from to past → (place : ℕ) → to ≤ place → IsUntouched past place
untouched_outside from to [] all place outside = tt
untouched_outside from to (Wrote at size now ∷ past) all place outside = (inr (omega (arith, all.1)), untouched_outside from to past all.2 place outside)
untouched_outside from to (Cut len now ∷ past) all place outside = absurd all
untouched_outside from to (Synced ∷ past) all place outside = tt

least_within : (from to : ℕ) (past : List Change) → IsWithin from to past → least past ≡ length (synced past)
least_within from to [] all = refl
least_within from to (Wrote at size now ∷ past) all = least_within from to past all.2
least_within from to (Cut len now ∷ past) all = absurd all
least_within from to (Synced ∷ past) all = refl

greatest_within : (from to : ℕ) (past : List Change) → IsWithin from to past → greatest past ≤ max (length (synced past)) to
greatest_within from to [] all = omega arith
greatest_within from to (Wrote at size now ∷ past) all = omega (arith, greatest_within from to past all.2, all.1)
greatest_within from to (Cut len now ∷ past) all = absurd all
greatest_within from to (Synced ∷ past) all = omega arith

-- then each image keeps what was synced around those places
pub record KeepsAround (from to : ℕ) (old bytes : List ℕ) : Type 0 where
  pub no_shorter : length old ≤ length bytes
  pub no_longer : length bytes ≤ max (length old) to
  pub prefix : take from bytes ≡ take from old
  pub rest : drop to bytes ≡ drop to old

pub around_kept : (from to : ℕ) (past : List Change) (bytes : List ℕ) → IsWithin from to past → from ≤ length (synced past) → IsImage past bytes
    → KeepsAround from to (synced past) bytes
around_kept from to past bytes all within image =
    let old = synced past in
    let enough : length old ≤ length bytes = omega (arith, least_within from to past all, image.no_shorter) in
    let bounded : length bytes ≤ max (length old) to = omega (arith, greatest_within from to past all, image.no_longer) in
    record {
      no_shorter = enough;
      no_longer = bounded;
      prefix = (prefix_kept from past bytes (IsFrom-within from to past all) within image).1;
      rest = ext_get_or 0 (drop to bytes) (drop to old) (omega (arith, length-drop to bytes, length-drop to old))
          (λ place below.
          let there : to + place < length old = omega (arith, length-drop to bytes) in
          get_or-drop to bytes place 0
          ∙ image.kept (to + place) there (omega arith) (untouched_outside from to past all (to + place) (omega arith))
          ∙ sym (get_or-drop to old place 0));
    }

-- what a write leaves, where its place is within the file or at its end

pub length-written : (old : List ℕ) (at : ℕ) (bytes : List ℕ) → at ≤ length old → length (written old at bytes) ≡ max (length old) (at + length bytes)
length-written old at bytes within =
    omega (
      arith,
      length-append (take at old ++ bytes) (drop (at + length bytes) old),
      length-append (take at old) bytes,
      length-take at old,
      length-drop (at + length bytes) old,
    )

-- bytes written at the end are added
pub written-end : (old bytes : List ℕ) → written old (length old) bytes ≡ old ++ bytes
written-end old bytes =
    let whole : take (length old) old ≡ old = take_all (length old) old (omega arith) in
    let nothing : drop (length old + length bytes) old ≡ [] = drop_all (length old + length bytes) old (omega arith) in
    rw (whole, nothing) (append-nil (old ++ bytes))

-- what stands before the place stays
pub take-written : (old : List ℕ) (at : ℕ) (bytes : List ℕ) (from : ℕ) → from ≤ at → at ≤ length old → take from (written old at bytes) ≡ take from old
take-written old at bytes from before within =
    let size : length (take at old) ≡ at = omega (arith, length-take at old) in
    take-append-le from (take at old ++ bytes) (drop (at + length bytes) old) (omega (arith, length-append (take at old) bytes))
    ∙ take-append-le from (take at old) bytes (omega arith)
    ∙ take-take from at old before

-- bytes written behind the prefix of a list
pub written-behind : (prefix rest : List ℕ) (at : ℕ) (bytes : List ℕ) → length prefix ≡ at
    → written (prefix ++ rest) at bytes ≡ (prefix ++ bytes) ++ drop (length bytes) rest
written-behind prefix rest at bytes size =
    let before : take at (prefix ++ rest) ≡ prefix = take_at prefix rest at size in
    let after : drop (at + length bytes) (prefix ++ rest) ≡ drop (length bytes) rest =
    sym (drop-drop (length bytes) at (prefix ++ rest)) ∙ ap (λ (l : List ℕ). drop (length bytes) l) (drop_at prefix rest at size) in
    rw (before, after) refl
