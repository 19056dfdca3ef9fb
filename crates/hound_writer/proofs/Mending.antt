-- The first checkpoint of a recording that was cut off mends its file.
use Rattle.std.proofs.lemmas.Bool.{false≢true}
use Rattle.std.proofs.Common.{◌≡◌, ℕ, ◌+◌, ◌*◌, ◌/◌, ◌%◌, Bool, true, [], ◌∷◌, length, OnOk, None, Result, Ok, Err, is_ok, refl, sym, ◌∙◌, ap, subst, arith}
use Rattle.std.proofs.Math.Nat.{div-add-mod', mul-div_cancel, mul-mod_left}
use Rattle.std.specs.Prelude.{if◌then◌else◌}
use Rattle.std.specs.declared.io.Error.{Error as IoFault}
use Rattle.hound_sample.proofs.Containers.{length-containers}
use Rattle.hound_spec.specs.declared.error.Error.{Error}
use Rattle.hound_spec.specs.declared.error.Error.TheVariants.{IoError, UnfinishedSample}
use Rattle.hound_spec.specs.declared.spec.WavSpecEx.{WavSpecEx}
use Rattle.hound_medium.specs.{Goes}
use Rattle.hound_walk.specs.{Readable}
use Rattle.hound_writer.specs.Accepting.{mark_of}
use Rattle.hound_writer.specs.Appending.{head_fault}
use Rattle.hound_writer.specs.Effects.{Log, Performed, checkpoint, log_kind}
use Rattle.hound_writer.specs.Publishing.{LeavesWriter, ReadsAs}
use Rattle.hound_writer.specs.Recorder.{AppendsRecorder, effects_of, is_sound, recorder_of, end_of}
use Rattle.hound_writer.specs.Recording.{Directed, IsCutOff, IsIdle, resumed_file, writer_of}
use Rattle.hound_writer.specs.Resuming.{Resumes, ResumesAfter, kept_length}
use Rattle.hound_writer.specs.Writer.{WriterState, accepted_bytes, accepted_samples, sample_count}
use Rattle.hound_writer.specs.declared.effects.Effect.TheVariants.{Sync}
use Rattle.hound_writer.specs.declared.recorder.Recorder.{Recorder}
use Rattle.hound_writer.specs.declared.recorder.RecorderError.{RecorderError}
use Rattle.hound_writer.specs.declared.resuming.FoundFile.{FoundFile}
use Rattle.hound_writer.proofs.Appending.{at_most_on, sound_head}
use Rattle.hound_writer.proofs.AtMost.{at_most_more}
use Rattle.hound_writer.proofs.Acting.{idle}
use Rattle.hound_writer.proofs.Directing.{no_fault, save_call, step_resumed}
use Rattle.hound_writer.proofs.Heads.{head_beyond}

-- whole frames of n bytes
pub whole_frames : (n channels width : ℕ) → n % (channels * width) ≡ 0 → (frames : ℕ) × (n ≡ frames * channels * width)
whole_frames n channels width whole =
    (n / (channels * width), let all = div-add-mod' n (channels * width) in omega (arith, all, whole))

-- a call that published whole frames is Ok
was_ok : (w : WriterState Log) (end : Log) (answer : Result (Unit {0}) Error)
    → LeavesWriter log_kind answer w (record w { medium = end })
    → (w.bytes_written / w.spec_ex.bytes_per_sample % w.spec_ex.spec.channels ≡ 0) → w.buffered ≡ []
    → mark_of answer ≡ true
    → answer ≡ Ok tt
was_ok w end (Ok x) leaves frames none ok = refl
was_ok w end (Err UnfinishedSample) leaves frames none ok =
    absurd (leaves.answers (rw none (subst (λ n. n / w.spec_ex.bytes_per_sample % w.spec_ex.spec.channels ≡ 0)
    (let e : w.bytes_written ≡ w.bytes_written + 0 = omega arith in e) frames)))
was_ok w end (Err (IoError e)) leaves frames none ok = absurd (false≢true ok)
was_ok w end (Err e) leaves frames none ok = absurd (false≢true ok)

module _ (f : FoundFile) (r : Recorder) (old : Log) (cut : IsCutOff f r.data_length old.state)
    (appends : AppendsRecorder f.spec_ex f.data_start r.data_length
    (Ok (recorder_of f.spec_ex f.data_start r.data_length))) where
  abbrev s : WavSpecEx
  s = f.spec_ex

  abbrev n : ℕ
  n = r.data_length

  frames : (frames : ℕ) × (n ≡ frames * s.spec.channels * s.bytes_per_sample)
  frames = whole_frames n s.spec.channels s.bytes_per_sample appends.2

  abbrev samples : ℕ
  samples = frames.0 * s.spec.channels

  counted : n ≡ samples * s.bytes_per_sample
  counted = frames.1

  abbrev w : WriterState Log
  w = writer_of s (recorder_of s f.data_start n) old

  is_idle : IsIdle w
  is_idle =
      let check : head_fault s n f.data_start ≡ None = rw counted (no_fault s samples f.data_start cut.sound.1
      (mul-mod_left frames.0 s.spec.channels) appends.1 (rw counted at appends.3.2)) in
      let after = head_beyond old.state.contents s f.data_length f.data_start cut.head in
      record {
        none = refl;
        sound = sound_head old s n f.data_start cut.sound after check;
        at_most = at_most_more s f.data_start f.data_length n old.state.contents cut.counted
            (at_most_on s f.data_length f.data_start old.state.contents old.state.contents cut.head refl);
      }

  module _ (clean : Bool) (end : Log) (result : Result (Unit {0}) IoFault)
      (did : Performed (if clean then checkpoint f.data_start n else Sync ∷ checkpoint f.data_start n) result old end)
    where
      pub mends : (answer : Result (Unit {0}) Error) × (mark_of answer ≡ is_ok result)
          × LeavesWriter log_kind answer w (record w { medium = end })
      mends = let c = save_call clean result w end is_idle did in (c.answer, c.mark, c.does)

      pub continues : is_ok result ≡ true → (m : Log) → Goes {T = Unit {0}} {E = IoFault} (f.data_start + n) (Ok tt)
          end.state m.state
          → (samples : ℕ) × (n ≡ samples * s.bytes_per_sample)
          × Directed s (resumed_file s samples f.data_start end.state) [] (recorder_of s f.data_start n) m.state
      continues ok m goes =
          let c = save_call clean result w end is_idle did in
          let count : n / s.bytes_per_sample ≡ samples =
          ap (λ n. n / s.bytes_per_sample) counted ∙ mul-div_cancel samples cut.sound.1 in
          let fine = was_ok w end c.answer c.does (ap (λ k. k % s.spec.channels) count
          ∙ mul-mod_left frames.0 s.spec.channels) refl (c.mark ∙ ok) in
          let published = c.does.publishes refl in
          let reads = by c.answer fine (published.read cut.held) in
          let list = accepted_samples log_kind.state w in
          let size : length list ≡ samples =
          length-containers s.bytes_per_sample (sample_count w) (accepted_bytes log_kind.state w)
          ∙ ap (λ k. k / s.bytes_per_sample) (let e : n + 0 ≡ n = omega arith in e) ∙ count in
          let found : FoundFile = record f { data_length = n; length = length end.state.contents } in (
            samples,
            counted,
            idle s (resumed_file s samples f.data_start end.state) frames.0 (recorder_of s f.data_start n) m.state
                (step_resumed found samples end.state m (record {
                  sound = cut.sound;
                  readable = subst (λ k. Readable end.state.contents s k f.data_start) size reads.readable;
                  counted = counted;
                  all = refl;
                  goes = goes;
                }) (omega (arith, cut.held, published.grows)) appends) refl counted refl,
          )
        where
          by : (answer : Result (Unit {0}) Error) → answer ≡ Ok tt
              → OnOk answer (ReadsAs s f.data_start (accepted_samples log_kind.state w) end.state.contents)
              → ReadsAs s f.data_start (accepted_samples log_kind.state w) end.state.contents
          by (Ok x) is reads = reads
          by (Err e) is reads = absurd (false≢true (ap is_ok is))

-- what the first checkpoint leaves
abbrev LeavesCheckpoint : FoundFile → Recorder → Log → Log → Result (Unit {0}) IoFault → Type 0
LeavesCheckpoint f r old end result =
    ((answer : Result (Unit {0}) Error) × (mark_of answer ≡ is_ok result)
    × LeavesWriter log_kind answer (writer_of f.spec_ex r old) (writer_of f.spec_ex r end))
    × (is_ok result ≡ true → (m : Log) → Goes {T = Unit {0}} {E = IoFault} (end_of r) (Ok tt) end.state m.state
    → (samples : ℕ) × (r.data_length ≡ samples * f.spec_ex.bytes_per_sample)
    × Directed f.spec_ex (resumed_file f.spec_ex samples f.data_start end.state) []
    (recorder_of f.spec_ex f.data_start r.data_length) m.state)

mended_at : (f : FoundFile) (old end : Log) (r : Recorder) (result : Result (Unit {0}) IoFault)
    → IsCutOff f r.data_length old.state → Performed (effects_of r) result old end → r.data_start ≡ f.data_start
    → AppendsRecorder f.spec_ex f.data_start r.data_length (Ok (recorder_of f.spec_ex f.data_start r.data_length))
    → LeavesCheckpoint f r old end result
mended_at f old end r result cut did start takes =
    let clean = is_sound r.health in
    let performed : Performed (if clean then checkpoint f.data_start r.data_length else Sync ∷ checkpoint f.data_start
    r.data_length)
    result old end = rw start at did in
    rw start (
      mends f r old cut takes clean end result performed,
      continues f r old cut takes clean end result performed,
    )

-- the data of a recorder of a file that was found begin where those of the file do, and are whole frames
pub begins_with : (f : FoundFile) (allowed overwrites : Bool) (r : Recorder) → Resumes f allowed overwrites (Ok r)
    → (r.data_start ≡ f.data_start)
    × AppendsRecorder f.spec_ex f.data_start r.data_length (Ok (recorder_of f.spec_ex f.data_start r.data_length))
begins_with f allowed overwrites r resumes = by_kept (kept_length f allowed overwrites) resumes
  where
    by_kept : (kept : Result ℕ RecorderError) → ResumesAfter f kept (Ok r) → (r.data_start ≡ f.data_start)
        × AppendsRecorder f.spec_ex f.data_start r.data_length (Ok (recorder_of f.spec_ex f.data_start r.data_length))
    by_kept (Ok n) (appends, held, this) = (
      ap (λ (x : Recorder). x.data_start) this,
      subst (λ n. AppendsRecorder f.spec_ex f.data_start n (Ok (recorder_of f.spec_ex f.data_start n)))
          (sym (ap (λ (x : Recorder). x.data_length) this)) appends,
    )
    by_kept (Err error) never = absurd (false≢true (ap is_ok (sym never)))

pub mended : (f : FoundFile) (allowed overwrites : Bool) (old end : Log) (r : Recorder)
    (result : Result (Unit {0}) IoFault)
    → Resumes f allowed overwrites (Ok r) → IsCutOff f r.data_length old.state → Performed (effects_of r) result old end
    → LeavesCheckpoint f r old end result
mended f allowed overwrites old end r result resumes cut did =
    let (start, takes) = begins_with f allowed overwrites r resumes in mended_at f old end r result cut did start takes
