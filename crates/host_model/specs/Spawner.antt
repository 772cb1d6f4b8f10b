use Rattle.std.specs.Prelude.{ℕ, List, [], ◌∷◌, ◌++◌, ℤ, Option, Some, None}
use Rattle.std.specs.Option.{option_map}

-- a child: the bytes that it is still to write, and the status that it will end with
pub record Child : Type 0 where
  pub left : List ℕ
  pub status : ℤ

-- what a spawner tells
pub record Children : Type 0 where
  -- the words of the starts so far, in their order
  pub starts : List (List (List ℕ))
  -- the child that runs
  pub running : Option Child
  -- the children to come, in their order
  pub coming : List Child

-- the child that runs after a start, if one was to come
abbrev pub first_child : List Child → Option Child
first_child [] = None
first_child (child ∷ more) = Some child

abbrev pub other_children : List Child → List Child
other_children [] = []
other_children (child ∷ more) = more

-- after a start with these words: the first of the children to come runs
abbrev pub after_start : List (List ℕ) → Children → Children
after_start words old = record {
  starts = old.starts ++ words ∷ [];
  running = first_child old.coming;
  coming = other_children old.coming;
}

abbrev pub with_bytes : List ℕ → Child → Child
with_bytes bytes child = record child { left = bytes ++ child.left }

-- before the child that runs wrote these bytes
abbrev pub before_bytes : List ℕ → Children → Children
before_bytes bytes new = record new { running = option_map (with_bytes bytes) new.running }

-- after the child's end: none runs
abbrev pub after_end : Children → Children
after_end old = record old { running = None }
