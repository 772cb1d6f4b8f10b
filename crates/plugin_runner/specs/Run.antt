-- A collector over a spawner that tells its children.
use Rattle.std.specs.Prelude.{◌≡◌, ℕ, zero, suc, List, [], ◌∷◌, ◌++◌, length, map, reverse, pos, Option, Some, None, if◌then◌else◌}
use Rattle.std.specs.Ordering.{int_eq}
use Rattle.host_model.specs.Spawner.{Child, Children}
use Rattle.plugin_runner.specs.Course.{Course, Event, new_course, course_after, text_of}
use Rattle.plugin_runner.specs.Goes.{Hears}
use Rattle.plugin_runner.specs.Text.{Heard, text}

-- what comes of a child that writes all its bytes and ends
abbrev pub heard_whole : Child → Heard
heard_whole child = record { bytes = child.left; status = Some child.status }

-- of the children to come, those that are started: so many at most, and none behind one that ends with another status
-- than 0
abbrev pub started : ℕ → List Child → List Child
started zero coming = []
started (suc starts) [] = []
started (suc starts) (child ∷ more) = child ∷ (if int_eq child.status (pos 0) then started starts more else [])

-- what comes of them, the latest first, where each writes all its bytes and ends
abbrev pub whole_children : ℕ → List Child → List Heard
whole_children starts coming = map heard_whole (reverse (started starts coming))

-- A runner was new over a spawner with these children to come, and took turns none of which was the last. Now this is
-- its course, and the spawner tells these children.
pub data Run (coming : List Child) : Course → Children → Type 0 where
  begins : (words : List (List ℕ)) (every starts last : ℕ) (before : List (List (List ℕ))) → Run coming (new_course words every starts last) (record { starts = before; running = None; coming = coming })
  goes_on : (course : Course) (event : Option Event) (taken added : List ℕ) (before after : Children) (faults faults' : ℕ) → Run coming course before
      → Hears course None event (Some before) (Some after) faults faults' → Run coming (course_after event taken added course) after

-- the text is that of these children, the latest first, each with all its bytes and its end
pub record Ran (coming : List Child) (course : Course) (later : List ℕ) : Type 0 where
  pub ran : List Child
  pub others : List Child
  pub whole : coming ≡ reverse ran ++ others
  pub count : length ran ≡ length course.children
  pub same : text_of course later ≡ text course.origin (course.readings ++ later) (map heard_whole ran)
