use Rattle.std.proofs.lemmas.Grind.{common_steps}
use Rattle.std.proofs.Common.{◌≡◌, ◌-◌, ◌*◌, ◌/◌, ◌∙◌, List, ℕ, drop, false, ap, arith, inl, length, length-drop, refl, sym}
use Rattle.std.specs.Borrow.{Bor}
use Rattle.hound.proofs.Knowing.{head_inside}
use Rattle.hound.specs.{FoundFile, IsSoundSpec, Readable, WavSpecEx, resumed_file}
use Rattle.hound.specs.declared.RepairState.TheVariants.{HasChunksAfterData}
use Rattle.hound_callers.proofs.Performing.{log_of, saves}
use Rattle.hound_callers.proofs.Resuming.{kept_all, kept_as_found, not_resumed, resumed_full, too_long}
use Rattle.hound_callers.proofs.recorder.append_by_effects.Goals as goal

-- what is known of the file whose samples a reader has left: it is read, from where its data begin
read_here : (bytes left : List ℕ) (s t : WavSpecEx) (n samples h : ℕ) → t ≡ s → samples ≡ n
    → Readable bytes s n h → left ≡ drop h bytes → Readable bytes t samples (length bytes - length left)
read_here bytes left s t n samples h spec count readable is =
    grind (arith, common_steps, length-drop, head_inside)

-- that file, as it was found
abbrev found_as : WavSpecEx → ℕ → ℕ → ℕ → ℕ → FoundFile
found_as s start len size samples = record {
  spec_ex = s;
  data_start = start;
  data_length = len;
  length = size;
  frames = samples / s.spec.channels;
  state = HasChunksAfterData;
}

pub returns-in_default-clause-why : goal.returns-in_default-clause-why
returns-in_default-clause-why g c =
    let s = c.spec_ex-spec_ex.result in
    let samples = c.len-samples.result in
    let bytes = c.args.contents.now in
    let (h, readable, rest) = c.in_ok-reader.ensures.found in
    let start = length bytes - length c.into_inner.result.now in
    let here = read_here bytes c.into_inner.result.now _ s _ samples h c.spec_ex-spec_ex.ensures
    c.len-samples.ensures readable (ap (λ (x : Bor (List ℕ)). x.now) c.into_inner.ensures ∙ rest) in
    let why = c.in_default.ensures in
    inl (too_long s bytes samples start 0 here (omega (arith, why)))

pub returns-in-Err-clause-why : goal.returns-in-Err-clause-why
returns-in-Err-clause-why g c =
    let s = c.spec_ex-spec_ex.result in
    let samples = c.len-samples.result in
    let bytes = c.args.contents.now in
    let (h, readable, rest) = c.in_ok-reader.ensures.found in
    let start = length bytes - length c.into_inner.result.now in
    let here = read_here bytes c.into_inner.result.now _ s _ samples h c.spec_ex-spec_ex.ensures
    c.len-samples.ensures readable (ap (λ (x : Bor (List ℕ)). x.now) c.into_inner.ensures ∙ rest) in
    let f = found_as s start c.in-Some.data_length (length bytes) samples in
    let sound : IsSoundSpec s = rw c.spec_ex-spec_ex.ensures c.in_ok-reader.ensures.sound.0 in
    let counted : f.data_length ≡ samples * s.bytes_per_sample = grind (arith, common_steps) in
    inl (not_resumed f bytes samples c.in-Err.error c.error_of.result here counted refl refl refl sound.0 sound.1
    c.in-Err.ensures.resumes
    c.error_of.ensures)

pub returns-clause-saved : goal.returns-clause-saved
returns-clause-saved g c tells keeps =
    let M = g.M.Placed in
    let old = M.state c.args.medium.now in
    let contents = c.requires.contents tells in
    let s = c.spec_ex-spec_ex.result in
    let samples = c.len-samples.result in
    let bytes = c.args.contents.now in
    let (h, readable, rest) = c.in_ok-reader.ensures.found in
    let start = length bytes - length c.into_inner.result.now in
    let here = read_here bytes c.into_inner.result.now _ s _ samples h c.spec_ex-spec_ex.ensures
    c.len-samples.ensures readable (ap (λ (x : Bor (List ℕ)). x.now) c.into_inner.ensures ∙ rest) in
    let f = found_as s start c.in-Some.data_length (length bytes) samples in
    let sound : IsSoundSpec s = rw c.spec_ex-spec_ex.ensures c.in_ok-reader.ensures.sound.0 in
    let counted : f.data_length ≡ samples * s.bytes_per_sample = grind (arith, common_steps) in
    let size : c.in-Ok.resumed.data_length ≡ f.data_length = kept_all f c.in-Ok.resumed refl c.in-Ok.ensures.resumes in
    let mid = c.go.new.self in
    let log = log_of _ (g.met.M.Medium.replays mid tells keeps) (g.met.M.Placed.bytes mid tells) in
    let begun = c.a_recorder_directs.ensures.resumed f samples false false old log c.in-Ok.resumed (record {
      sound = sound;
      readable = rw contents here;
      counted = counted;
      all = sym (ap length contents);
      goes = rw size at (c.in_ok-go.ensures tells);
    }) c.in-Ok.ensures.resumes size in
    let goes = c.in_ok-go.ensures tells in
    let once = c.an_effect_may_be_repeated.ensures.once log.state
    (omega (arith, goes.flushed, c.requires.synced tells keeps, ap length goes.stays.past)) in (
      s,
      samples,
      start,
      here,
      saves s (resumed_file s samples start old) c.args.blocks.now c.save_blocks.result c.save_blocks.new.recorder _
          c.save_blocks.ensures.within
          (λ known r m d none. c.a_recording_is_kept.ensures.survives s (resumed_file s samples start old) known r m d
          none
          (c.requires.synced tells keeps))
          (c.save_blocks.ensures.saved tells keeps s (resumed_file s samples start old) (log.state, begun, once)),
    )

pub returns-clause-cause : goal.returns-clause-cause
returns-clause-cause g c kept tells fine =
    let s = c.spec_ex-spec_ex.result in
    let samples = c.len-samples.result in
    let bytes = c.args.contents.now in
    let (h, readable, rest) = c.in_ok-reader.ensures.found in
    let start = length bytes - length c.into_inner.result.now in
    let here = read_here bytes c.into_inner.result.now _ s _ samples h c.spec_ex-spec_ex.ensures
    c.len-samples.ensures readable (ap (λ (x : Bor (List ℕ)). x.now) c.into_inner.ensures ∙ rest) in
    let f = found_as s start c.in-Some.data_length (length bytes) samples in
    let counted : f.data_length ≡ samples * s.bytes_per_sample = grind (arith, common_steps) in
    let is = kept_as_found f c.in-Ok.resumed refl c.in-Ok.ensures.resumes in
    let same = (c.in_ok-go.ensures tells).faults in (
      s,
      samples,
      start,
      here,
      resumed_full f c.in-Ok.resumed (samples * s.bytes_per_sample) c.args.blocks.now c.save_blocks.result is counted
          (c.save_blocks.ensures.cause kept tells (fine.0 ∙ sym same, omega (arith, fine.1, same))),
    )
