-- Which frames have a spelling.
use Rattle.std.proofs.Common.{◌≡◌, ◌⊎◌, ◌<◌, ◌^◌, ℕ, length-append, arith}
use Rattle.replication.specs.declared.ask.Ask.{Ask}
use Rattle.field_codec.specs.Spelling.{u32_bytes, u64_bytes}
use Rattle.field_codec.proofs.Lengths.{length-u8_bytes, length-u32_bytes, length-u64_bytes}
use Rattle.link_frames.specs.declared.frame.Frame.TheVariants as frame
use Rattle.link_frames.specs.Frames.{ask_bytes, bad_frame, body_bytes, done, wrong_child, HasSpelling}

pub bye-spelt : (reason : ℕ) → (reason ≡ done) ⊎ (reason ≡ wrong_child) ⊎ (reason ≡ bad_frame) → HasSpelling (frame.Bye reason)
unfolding body_bytes
bye-spelt reason one = record { fields = small one; form = one; within = omega (arith, length-u8_bytes reason) }
  where
    small : (reason ≡ done) ⊎ (reason ≡ wrong_child) ⊎ (reason ≡ bad_frame) → reason < 2 ^ 8
    small one = omega (arith, one)

pub hello-spelt : (id : ℕ) → id < 2 ^ 64 → HasSpelling (frame.Hello id)
unfolding body_bytes
hello-spelt id small = record { fields = small; form = tt; within = omega (arith, length-u64_bytes id) }

pub ask-spelt : (ask : Ask) → ask.child < 2 ^ 64 → ask.last < 2 ^ 32 → HasSpelling (frame.Ask ask)
unfolding body_bytes ask_bytes
ask-spelt ask child last = record {
  fields = record { child = child; last = last };
  form = tt;
  within = omega (arith, length-append (u64_bytes ask.child) (u32_bytes ask.last), length-u64_bytes ask.child, length-u32_bytes ask.last);
}

pub have-spelt : (last : ℕ) → last < 2 ^ 32 → HasSpelling (frame.Have last)
unfolding body_bytes
have-spelt last small = record { fields = small; form = tt; within = omega (arith, length-u32_bytes last) }
