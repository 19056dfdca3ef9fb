use Rattle.std.proofs.Common.{◌≡◌, true, ◌||◌, ◌==◌, ◌++◌, arith, rules, length-append}
use Rattle.std.proofs.lemmas.Bool.Decides.{nat_tests}
use Rattle.std.proofs.lemmas.Grind.{common_steps}
use Rattle.std.proofs.KnownBytes.{Consumes-trans}
use Rattle.hound_walk.specs.Grammar.{wave_format_pcm}
use Rattle.hound_walk.proofs.Gives.{ok_from_taken}
use Rattle.hound_walk.proofs.FmtLemmas.{pcm_forty}
use Rattle.hound_walk.proofs.fmt.read_wave_format_pcm.Goals as goal
use Rattle.hound_walk.proofs.fmt.read_wave_format_pcm.Goals.{else-bits-ne8-via-then-bits-ne8+then-bits-ne16+else-bits-ne24, else-bits-ne8-via-then-bits-ne8+else-bits-ne16, else-bits-ne8-via-else-bits-ne8}
use Rattle.hound_walk.proofs.FrontLemmas.{all_taken}

pub returns-in_ok-fill-2 : goal.returns-in_ok-fill-2
returns-in_ok-fill-2 g c =
    let bits = c.args.found.spec.bits_per_sample in
    let a = c.fill.new.buf in
    let b = c.fill-then-chunk_len-eq-WAVEFORMATEXTENSIBLE_LENGTH.new.buf in
    let good : (bits == 8 || bits == 16 || bits == 24) ≡ true = elim c.else-bits-ne8.branch [
      | else-bits-ne8-via-then-bits-ne8+then-bits-ne16+else-bits-ne24 w ↦ grind (arith, nat_tests)
      | else-bits-ne8-via-then-bits-ne8+else-bits-ne16 w ↦ grind (arith, nat_tests)
      | else-bits-ne8-via-else-bits-ne8 w ↦ grind (arith, nat_tests)
    ] in
    record {
      sound = c.requires.sound;
      failures = search rules;
      gives = ok_from_taken _ (a ++ b) _ _ (wave_format_pcm c.args.chunk_len c.args.found) c.args.found
          (Consumes-trans _ _ _ _ _ c.in_ok-fill.ensures.ok c.in_ok-fill-2.ensures.ok)
          (omega (arith, length-append a b))
          (pcm_forty c.args.chunk_len c.args.found (a ++ b) c.if-chunk_len-eq-WAVEFORMATEXTENSIBLE_LENGTH.true
          (omega (arith, length-append a b)) good);
      taken = tt;
      late = tt;
    }

pub returns-then-bits-ne24 : goal.returns-then-bits-ne24
unfolding wave_format_pcm
returns-then-bits-ne24 g c = record {
  sound = tt;
  failures = search rules;
  gives = grind (arith, common_steps);
  taken = all_taken c.fill.new.buf 2 _ _ c.in_ok-fill.ensures.ok (omega arith);
  late = search rules;
}

pub returns-in_err-fill-2 : goal.returns-in_err-fill-2
unfolding wave_format_pcm
returns-in_err-fill-2 g c = grind (arith, common_steps)
