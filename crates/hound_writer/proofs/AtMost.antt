-- A writer's file between its calls: the head is there, and the data length counts no more than was accepted.
use Rattle.std.proofs.lemmas.Grind.{common_steps}
use Rattle.std.proofs.Common.{◌≡◌, ℕ, ◌-◌, ◌≤◌, List, length, take, ap, arith, rules}
use Rattle.hound_number.specs.{number, mix}
use Rattle.hound_number.proofs.Mixing.{mix_le}
use Rattle.hound_medium.proofs.Overlays.{front_part}
use Rattle.hound_spec.specs.declared.spec.WavSpecEx.{WavSpecEx}
use Rattle.hound_writer.specs.Parts.{CountsAtMost}
use Rattle.hound_writer.specs.Writer.{SameButSizes, field}
use Rattle.hound_writer.proofs.Heads.{head_with, head_front, head_beyond, head_inside}

module _ (s : WavSpecEx) (start n : ℕ) (old new : List ℕ) (at_most : CountsAtMost s start n old) where
  pub inside : start ≤ length old
  inside = head_inside old s (field (start - 4) old) start at_most.head

  -- bytes at the data or after leave it
  pub at_most_front : take start new ≡ take start old → start ≤ length new → CountsAtMost s start n new
  at_most_front same long = record {
    head = head_front old s (field (start - 4) old) start at_most.head new same long;
    counted =
        omega (
          arith,
          at_most.counted,
          ap number (front_part start (start - 4) 4 new old
              (omega (arith, head_beyond old s (field (start - 4) old) start at_most.head)) same),
        );
  }

  -- so does a patch, also one that a fault has cut
  pub at_most_patched : (k : ℕ) → SameButSizes (start - 4) old new
      → field (start - 4) new ≡ mix k (field (start - 4) old) n → CountsAtMost s start n new
  at_most_patched k same torn = grind (arith, common_steps, head_with, inside, mix_le)

-- more bytes count at least as much
pub at_most_more : (s : WavSpecEx) (start n m : ℕ) (contents : List ℕ) → n ≤ m
    → CountsAtMost s start n contents → CountsAtMost s start m contents
at_most_more s start n m contents le at_most = search rules
