-- The page of a directory that is looked for.
use Rattle.std.specs.Prelude.{◌==◌, ◌&&◌, ◌||◌, ℕ, Bool, nat_lt, nat_le}
use Rattle.extent_file.specs.declared.entry.Entry.{Entry}
use Rattle.extent_file.specs.Directory.{last_of}

-- a page of the series whose last item is at or after the moment
abbrev pub is_wanted : ℕ → ℕ → Entry → Bool
is_wanted series moment entry = (entry.series == series) && nat_le moment (last_of entry)

-- a page of an earlier series, or one of the series that ends before the moment
abbrev pub is_before : ℕ → ℕ → Entry → Bool
is_before series moment entry = nat_lt entry.series series || ((entry.series == series) && nat_lt (last_of entry) moment)
