-- What a writer keeps true between its calls.
use Rattle.std.proofs.lemmas.Grind.{common_steps}
use Rattle.std.proofs.Common.{◌≡◌, ℕ, ◌+◌, ◌%◌, ◌≤◌, Bool, true, false, List, length, rules, arith}
use Rattle.hound_spec.specs.{greatest_u32, riff_size}
use Rattle.hound_medium.specs.{WhereTells}
use Rattle.hound_writer.specs.Parts.{IsConsistent, CountsAtMost}
use Rattle.hound_writer.specs.Writer.{Ghosts, WriterState, IsSound}

-- a writer of the same file is sound with other whole samples whose size fits, over any medium
pub sound_with : {W : Type 0} (w : WriterState W) (medium : W) (written : ℕ) (buffered : List ℕ)
    → IsSound w → (written + length buffered) % w.spec_ex.bytes_per_sample ≡ 0
    → riff_size w.data_start (written + length buffered) ≤ greatest_u32
    → IsSound (record w { medium = medium; bytes_written = written; buffered = buffered })
sound_with w medium written buffered sound whole fits = search rules

-- over a medium that may have moved, if the head is still there
pub consistent_moved : {W : Type 0} (kind : Ghosts W) (w : WriterState W)
    (m : W) (moved : Bool) (limit : ℕ) → IsConsistent kind w moved limit
    → WhereTells kind.tells (CountsAtMost w.spec_ex w.data_start w.bytes_written (kind.state m).contents)
    → IsConsistent kind (record w { medium = m }) true limit
consistent_moved kind w m moved limit known at_most = search rules

-- over a medium with the same contents, which is where the next bytes go unless it may have moved
pub consistent_gone : {W : Type 0} (kind : Ghosts W) (w : WriterState W)
    (m : W) (moved moved_now : Bool) (limit : ℕ) → IsConsistent kind w moved limit
    → WhereTells kind.tells ((kind.state m).contents ≡ (kind.state w.medium).contents)
    → WhereTells kind.tells (moved_now ≡ false → (kind.state m).place ≡ w.data_start + w.bytes_written)
    → IsConsistent kind (record w { medium = m }) moved_now limit
consistent_gone kind w m moved moved_now limit known same place = grind (arith, common_steps)
