-- what the definitions say of small pasts, worked out by hand: the newest event stands first
use Rattle.std.proofs.Common.{◌≡◌, ℕ, zero, suc, ◌<◌, ◌≤◌, List, [], ◌∷◌, length, refl, ap, arith, lit≤, inl, inr, get_or}
use Rattle.host_model.specs.declared.file.File.TheVariants.{JournalA, Tier0}
use Rattle.host_model.specs.Images.{Change, Wrote, Cut, Synced, contents, written, synced, IsUntouched, IsImage}
use Rattle.host_model.specs.Past.{Event, On, Told, of, told, IsText}

-- two bytes in the middle of four are being written anew
abbrev torn : List Change
torn = Wrote 1 2 (1 ∷ 9 ∷ 9 ∷ 4 ∷ []) ∷ Synced ∷ Wrote 0 4 (1 ∷ 2 ∷ 3 ∷ 4 ∷ []) ∷ []

torn-reads : contents torn ≡ written (synced torn) 1 (9 ∷ 9 ∷ [])
torn-reads = refl

torn-synced : synced torn ≡ 1 ∷ 2 ∷ 3 ∷ 4 ∷ []
torn-synced = refl

torn-kept : (x y place : ℕ) → place < 4 → IsUntouched torn place → get_or (1 ∷ x ∷ y ∷ 4 ∷ []) place 0 ≡ get_or (synced torn) place 0
torn-kept x y zero below untouched = refl
torn-kept x y (suc zero) below untouched = absurd (omega (arith, untouched.0))
torn-kept x y (suc (suc zero)) below untouched = absurd (omega (arith, untouched.0))
torn-kept x y (suc (suc (suc zero))) below untouched = refl
torn-kept x y (suc (suc (suc (suc place)))) below untouched = absurd (omega arith)

-- the bytes that are being written may read as anything
torn-anywhere : (x y : ℕ) → IsImage torn (1 ∷ x ∷ y ∷ 4 ∷ [])
torn-anywhere x y = record { no_shorter = lit≤ tt; no_longer = lit≤ tt; kept = λ place below _ untouched. torn-kept x y place below untouched }

torn-elsewhere : IsImage torn (5 ∷ 9 ∷ 9 ∷ 4 ∷ []) → ⊥
torn-elsewhere image = omega (arith, image.kept 0 (omega arith) (omega arith) (inl (omega arith), tt))

torn-shorter : IsImage torn (1 ∷ 9 ∷ 9 ∷ []) → ⊥
torn-shorter image = omega (arith, image.no_shorter)

-- three bytes were cut to one, and that was not synced
abbrev cut_off : List Change
cut_off = Cut 1 (1 ∷ []) ∷ Synced ∷ Wrote 0 3 (1 ∷ 2 ∷ 3 ∷ []) ∷ []

cut_off-kept : (bytes : List ℕ) (place : ℕ) → IsUntouched cut_off place → get_or (1 ∷ bytes) place 0 ≡ get_or (synced cut_off) place 0
cut_off-kept bytes zero untouched = refl
cut_off-kept bytes (suc place) untouched = absurd (omega (arith, untouched.0))

cut_off-done : IsImage cut_off (1 ∷ [])
cut_off-done = record { no_shorter = lit≤ tt; no_longer = lit≤ tt; kept = λ place _ _ untouched. cut_off-kept [] place untouched }

cut_off-not_yet : IsImage cut_off (1 ∷ 2 ∷ 3 ∷ [])
cut_off-not_yet = record { no_shorter = lit≤ tt; no_longer = lit≤ tt; kept = λ place _ _ untouched. cut_off-kept (2 ∷ 3 ∷ []) place untouched }

cut_off-half : IsImage cut_off (1 ∷ 0 ∷ [])
cut_off-half = record { no_shorter = lit≤ tt; no_longer = lit≤ tt; kept = λ place _ _ untouched. cut_off-kept (0 ∷ []) place untouched }

cut_off-all : IsImage cut_off [] → ⊥
cut_off-all image = omega (arith, image.no_shorter)

cut_off-longer : (bytes : List ℕ) → length bytes ≡ 4 → IsImage cut_off bytes → ⊥
cut_off-longer bytes size image = omega (arith, image.no_longer)

-- two bytes are written past the old end of two
abbrev grown : List Change
grown = Wrote 2 2 (1 ∷ 2 ∷ 3 ∷ 4 ∷ []) ∷ Synced ∷ Wrote 0 2 (1 ∷ 2 ∷ []) ∷ []

grown-kept : (bytes : List ℕ) (place : ℕ) → place < 2 → get_or (1 ∷ 2 ∷ bytes) place 0 ≡ get_or (synced grown) place 0
grown-kept bytes zero below = refl
grown-kept bytes (suc zero) below = refl
grown-kept bytes (suc (suc place)) below = absurd (omega arith)

-- whatever stands past the old end, up to the new one
grown-past_end : (bytes : List ℕ) → length bytes ≤ 2 → IsImage grown (1 ∷ 2 ∷ bytes)
grown-past_end bytes within = record { no_shorter = omega arith; no_longer = omega arith; kept = λ place below _ _. grown-kept bytes place below }

-- an unsynced length does not fall below the synced one
grown-shorter : IsImage grown (1 ∷ []) → ⊥
grown-shorter image = omega (arith, image.no_shorter)

grown-elsewhere : IsImage grown (1 ∷ 7 ∷ 3 ∷ 4 ∷ []) → ⊥
grown-elsewhere image = omega (arith, image.kept 1 (omega arith) (omega arith) (inl (omega arith), tt))

-- two bytes were written one by one, and a sync came between; then the first is written anew
abbrev twice : List Change
twice = Wrote 0 1 (7 ∷ 2 ∷ []) ∷ Synced ∷ Wrote 1 1 (1 ∷ 2 ∷ []) ∷ Wrote 0 1 (1 ∷ []) ∷ []

twice-kept : (x place : ℕ) → place < 2 → IsUntouched twice place → get_or (x ∷ 2 ∷ []) place 0 ≡ get_or (synced twice) place 0
twice-kept x zero below untouched = absurd (omega (arith, untouched.0))
twice-kept x (suc zero) below untouched = refl
twice-kept x (suc (suc place)) below untouched = absurd (omega arith)

twice-first : (x : ℕ) → IsImage twice (x ∷ 2 ∷ [])
twice-first x = record { no_shorter = lit≤ tt; no_longer = lit≤ tt; kept = λ place below _ untouched. twice-kept x place below untouched }

twice-second : (x : ℕ) → IsImage twice (x ∷ 9 ∷ []) → ⊥
twice-second x image = omega (arith, image.kept 1 (omega arith) (omega arith) (inr (omega arith), tt))

-- a write failed and changed nothing that a read shows, and yet has touched its range
abbrev failed : List Change
failed = Wrote 0 1 (1 ∷ 2 ∷ []) ∷ Synced ∷ Wrote 0 2 (1 ∷ 2 ∷ []) ∷ []

failed-reads : contents failed ≡ synced failed
failed-reads = refl

failed-kept : (x place : ℕ) → place < 2 → IsUntouched failed place → get_or (x ∷ 2 ∷ []) place 0 ≡ get_or (synced failed) place 0
failed-kept x zero below untouched = absurd (omega (arith, untouched.0))
failed-kept x (suc zero) below untouched = refl
failed-kept x (suc (suc place)) below untouched = absurd (omega arith)

failed-first : (x : ℕ) → IsImage failed (x ∷ 2 ∷ [])
failed-first x = record { no_shorter = lit≤ tt; no_longer = lit≤ tt; kept = λ place below _ untouched. failed-kept x place below untouched }

-- once synced, only what a read gives
after_sync : (bytes : List ℕ) (place : ℕ) → IsImage (Synced ∷ failed) bytes → place < 2 → get_or bytes place 0 ≡ get_or (1 ∷ 2 ∷ []) place 0
after_sync bytes place image below = image.kept place below (omega (arith, image.no_shorter)) tt

after_sync-length : (bytes : List ℕ) → IsImage (Synced ∷ failed) bytes → length bytes ≡ 2
after_sync-length bytes image = omega (arith, image.no_shorter, image.no_longer)

-- a new file is empty, whatever happens
fresh : (bytes : List ℕ) → IsImage [] bytes → length bytes ≡ 0
fresh bytes image = omega (arith, image.no_longer)

-- two tells, with a change of a file between
abbrev talk : List Event
talk = Told (3 ∷ 4 ∷ []) ∷ On JournalA Synced ∷ Told (1 ∷ 2 ∷ []) ∷ []

talk-told : told talk ≡ 1 ∷ 2 ∷ 3 ∷ 4 ∷ []
talk-told = refl

talk-journal : of JournalA talk ≡ Synced ∷ []
talk-journal = refl

talk-tier : of Tier0 talk ≡ []
talk-tier = refl

-- the second tell may be cut short, the first may not
talk-half : IsText talk (1 ∷ 2 ∷ 3 ∷ [])
talk-half = (1, refl)

talk-none : IsText talk (1 ∷ 2 ∷ [])
talk-none = (0, refl)

talk-all : IsText talk (1 ∷ 2 ∷ 3 ∷ 4 ∷ [])
talk-all = (2, refl)

talk-first : IsText talk (1 ∷ []) → ⊥
talk-first text = omega (arith, ap length text.1)
