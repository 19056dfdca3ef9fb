-- The pad byte after the accepted data.
use Rattle.std.proofs.lemmas.Grind.{common_steps}
use Rattle.std.proofs.Common.{◌≡◌, ℕ, zero, suc, ◌+◌, ◌%◌, Bool, true, false, IsTrue, List, [], ◌∷◌, length, take, drop, refl, sym, ap, arith}
use Rattle.std.proofs.lemmas.List.{take_all}
use Rattle.hound_medium.specs.{overlay, put_at, MediumState, WhereTells, WhereKeeps}
use Rattle.hound_writer.specs.Parts.{GoesOut, after_out, all_out, IsConsistent, PutsAt}
use Rattle.hound_writer.specs.Writer.{Ghosts, WriterState, IsPadded, data_length, padded_end}
use Rattle.hound_writer.proofs.Accepting.{around, at_each, goes_at_each, goes_beside}

-- a byte that was written is at its place
put_in_place : (p b : ℕ) (c : List ℕ) → take 1 (drop p (put_at p b c)) ≡ b ∷ []
put_in_place zero b [] = refl
put_in_place zero b (x ∷ c) = refl
put_in_place (suc p) b [] = put_in_place p b []
put_in_place (suc p) b (x ∷ c) = put_in_place p b c

-- a writer with an empty block, whose data have an odd length, and a byte written after them
module _ {W : Type 0} (kind : Ghosts W) (w : WriterState W)
    (moved : Bool) (limit : ℕ) (known : IsConsistent kind w moved limit)
    (none : w.buffered ≡ [])
    (replays : WhereKeeps kind.tells kind.keeps
    ((kind.state w.medium).contents ≡ overlay (kind.state w.medium).start (kind.state w.medium).past))
    (odd : w.bytes_written % 2 ≡ 0 → ⊥)
    (m : W) (all : Bool)
    (puts : WhereTells kind.tells
    (PutsAt kind.keeps (w.data_start + w.bytes_written) (0 ∷ []) (all_out all) (kind.state w.medium) (kind.state m)))
  where
    abbrev old : MediumState
    old = kind.state w.medium

    abbrev end : ℕ
    end = w.data_start + w.bytes_written

    abbrev pad : List ℕ
    pad = 0 ∷ []

    abbrev new : WriterState W
    new = record w { medium = m }

    size : data_length w ≡ w.bytes_written
    size = omega (arith, ap length none)

    odd_size : data_length w % 2 ≡ 1
    odd_size = omega (arith, size)

    -- nothing buffered is no less than all of it
    value : (all : Bool) → record w { medium = m } ≡ after_out all m w
    value true = λ i. record w { medium = m; bytes_written = sym size i; buffered = none i }
    value false = refl

    pub goes_out : GoesOut kind (padded_end w) all w (record w { medium = m })
    goes_out = record {
      value = value all;
      sound = known.sound;
      file = λ modelled.
          goes_beside kind.state (padded_end w) all w m known.sound known.whole_written (puts modelled).faults
          (around kind w known.at_most m pad (all_out all) modelled (puts modelled)
          (padded_end w) (omega (arith, size, odd_size)));
      moments = λ modelled kept. goes_at_each kind w known.at_most m pad (all_out all) modelled (puts modelled) kept
          (replays modelled kept)
          (at_each kind w none known.sound known.at_most m pad (all_out all) modelled
          (puts modelled) kept (replays modelled kept));
    }

    -- once it is written it is there
    pub padded_odd : WhereTells kind.tells (IsTrue all → IsPadded w (kind.state m).contents)
    padded_odd modelled done = grind (arith, common_steps, take_all, put_in_place, odd_size, size)
