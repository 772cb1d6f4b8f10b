use Rattle.std.proofs.Common.{◌≡◌, ◌++◌, drop, map}
use Rattle.std.specs.Option.{option_to_list}
use Rattle.entry_codec.specs.Lists.{is_ascending}
use Rattle.link_frames.specs.DataForm.{place_of}
use Rattle.link_frames.proofs.data_form.are_rising.Given as goal

abbrev pub invariant-loop-word : goal.invariant-loop-word
invariant-loop-word l =
    is_ascending (option_to_list l.last ++ map place_of (drop l.word-index l.words)) ≡ is_ascending (map place_of l.words)
