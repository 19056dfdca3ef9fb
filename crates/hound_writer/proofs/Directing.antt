-- What a caller does as its recorder directs are calls of a writer.
use Rattle.std.proofs.lemmas.Grind.{common_steps}
use Rattle.std.proofs.lemmas.Bool.{false≢true}
use Rattle.std.proofs.Common.{
  ◌≡◌,
  ℕ,
  zero,
  suc,
  ◌+◌,
  ◌*◌,
  ◌/◌,
  ◌%◌,
  ◌<◌,
  ◌≤◌,
  Bool,
  true,
  false,
  IsTrue,
  List,
  [],
  ◌∷◌,
  ◌++◌,
  length,
  drop,
  take,
  inl,
  inr,
  Some,
  None,
  Result,
  Ok,
  Err,
  is_ok,
  refl,
  rules,
  sym,
  ◌∙◌,
  ap,
  subst,
  arith,
}
use Rattle.std.proofs.Math.Nat.{mul-div_cancel}
use Rattle.std.specs.Prelude.{if◌then◌else◌}
use Rattle.std.specs.declared.io.Error.{Error as IoFault}
use Rattle.hound_sample.specs.{containers}
use Rattle.hound_spec.specs.{IsPair, IsWritable, data_start, greatest_u32, header, riff_size}
use Rattle.hound_spec.proofs.HeaderLemmas.{length-header}
use Rattle.hound_spec.specs.declared.error.Error.{Error}
use Rattle.hound_spec.specs.declared.error.Error.TheVariants.{IoError, UnfinishedSample}
use Rattle.hound_spec.specs.declared.spec.WavSpecEx.{WavSpecEx}
use Rattle.hound_durable.specs.{Ascends}
use Rattle.hound_medium.specs.{MediumState}
use Rattle.hound_walk.specs.{Head, Readable}
use Rattle.hound_writer.specs.Accepting.{mark_of, whole_containers}
use Rattle.hound_writer.specs.Appending.{head_fault}
use Rattle.hound_writer.specs.Beginning.{Begins, at_beginning}
use Rattle.hound_writer.specs.Calls.{
  Asked,
  Begun,
  Does,
  Known,
  Opens,
  Recorded,
  handed_in,
  marked,
  new_file,
  publish,
  write,
}
use Rattle.hound_writer.specs.Effects.{Log, Performed, Performs, checkpoint, log_kind, nth}
use Rattle.hound_writer.specs.Parts.{IsPublishResult, PutsAt, of_fields}
use Rattle.hound_writer.specs.Recorder.{
  AppendsRecorder,
  CannotSave,
  HasData,
  HasNext,
  HasNoNext,
  IsAlive,
  IsClear,
  effects_of,
  health_after,
  is_sound,
  recorder_of,
  saved,
  stopped,
}
use Rattle.hound_writer.specs.Recording.{
  InStep,
  IsIdle,
  IsOrdered,
  IsRecorderOf,
  IsSynced,
  Opened,
  Resumed,
  block_known,
  resumed_file,
}
use Rattle.hound_writer.specs.Writer.{WriterState, HasRoom, IsSound, accepted_samples, sample_count}
use Rattle.hound_writer.specs.declared.effects.Effect.{Effect}
use Rattle.hound_writer.specs.declared.effects.Effect.TheVariants.{Sync}
use Rattle.hound_writer.specs.declared.recorder.Health.{Health}
use Rattle.hound_writer.specs.declared.recorder.Health.TheVariants.{Sound, Suspect, Dead}
use Rattle.hound_writer.specs.declared.recorder.Recorder.{Recorder}
use Rattle.hound_writer.specs.declared.recorder.RecorderError.{RecorderError}
use Rattle.hound_writer.specs.declared.recorder.RecorderError.TheVariants.{
  NotWritable,
  UnfinishedFrame,
  TooLong,
  Truncated,
  NeedsMend,
  NeedsOverwrite,
  NeedsCheckpoint,
  SyncFailed,
}
use Rattle.hound_writer.specs.declared.resuming.FoundFile.{FoundFile}
use Rattle.hound_writer.proofs.Accepting.{accepts_all, accepts_none, sound_more, still}
use Rattle.hound_writer.proofs.Appending.{follows, sound_head, at_most_on}
use Rattle.hound_writer.proofs.Beginning.{header_file, sound_begin, at_most_begin}
use Rattle.hound_writer.proofs.Checkpoint.{as_out, bad, fine, good_over, publishes_effects}
use Rattle.hound_writer.proofs.Containers.{count_bytes}
use Rattle.hound_writer.proofs.Heads.{head_beyond}
use Rattle.hound_writer.proofs.Opening.{all_put, header_opened}
use Rattle.hound_writer.proofs.Ordering.{
  all_ordered,
  effects_ordered,
  header_in_order,
  in_order_none,
  puts_in_order,
  taken_ordered,
}
use Rattle.hound_writer.proofs.Recording.{recorded_first, recorded_more, recorded_spec}
use Rattle.hound_writer.proofs.Samples.{samples_out}
use Rattle.hound_writer.proofs.AtMost.{at_most_more}

-- what a call with this mark did
pub record IsCall (asked : Asked) (ok : Bool) (old new : WriterState Log) : Type 0 where
  pub answer : Result (Unit {0}) Error
  pub does : Does log_kind asked answer old new
  pub mark : mark_of answer ≡ ok
  pub idle : IsIdle new

-- the result of the call, by that of the effects and whether there are whole frames
abbrev reported_of : Result (Unit {0}) IoFault → Bool → Result (Unit {0}) Error
reported_of (Err e) frames = Err (IoError e)
reported_of (Ok x) true = Ok x
reported_of (Ok x) false = Err UnfinishedSample

is_reported : (r : Result (Unit {0}) IoFault) (frames : Bool)
    → IsPublishResult r frames (reported_of r frames) × (mark_of (reported_of r frames) ≡ is_ok r)
is_reported r frames = grind (arith, common_steps)

is_zero : (n : ℕ) → (b : Bool) × (IsTrue b → n ≡ 0) × (n ≡ 0 → IsTrue b)
is_zero zero = (true, (λ _. refl), (λ _. refl))
is_zero (suc n) = (false, (λ is. absurd (false≢true is)), (λ e. absurd (omega (arith, e))))

-- the effects of a checkpoint are a call that publishes
pub save_call : (clean : Bool) (r : Result (Unit {0}) IoFault) (w : WriterState Log) (m : Log) → IsIdle w
    → Performed (if clean then checkpoint w.data_start w.bytes_written
    else Sync ∷ checkpoint w.data_start w.bytes_written) r w.medium m
    → IsCall publish (is_ok r) w (record w { medium = m })
save_call clean r w m idle did =
    let (frames, so, back) = is_zero (sample_count w % w.spec_ex.spec.channels) in
    let modelled = is_reported r frames in
    let (does, at_most) = publishes_effects r frames (reported_of r frames) modelled.0 m clean w idle (so, back) did in
    record {
      answer = reported_of r frames;
      does = does;
      mark = modelled.1;
      idle = good_over w m idle at_most;
    }

-- how many bytes of data there are then: those of a block count if all were written
abbrev out_after : Result (Unit {0}) IoFault → ℕ → ℕ → ℕ
out_after (Ok x) more out = out + more
out_after (Err e) more out = out

-- the write of a block is a call for its samples
block_call : (bytes : List ℕ) (r : Result (Unit {0}) IoFault) (w : WriterState Log) (m : Log) → IsIdle w
    → HasRoom w (length bytes) → length bytes % w.spec_ex.bytes_per_sample ≡ 0
    → PutsAt true (w.data_start + w.bytes_written) bytes r w.medium.state m.state
    → IsCall (write (whole_containers w.spec_ex bytes)) (is_ok r) w
    (record w { medium = m; bytes_written = out_after r (length bytes) w.bytes_written })
block_call bytes (Ok x) w m idle room whole puts =
    let all = as_out (w.data_start + w.bytes_written) bytes (fine x) w.medium.state m.state puts in
    record {
      answer = Ok tt;
      does = accepts_all log_kind w idle.none idle.sound (λ _. idle.at_most) m bytes room
          whole (λ _. all) (λ _ _. w.medium.replays);
      mark = refl;
      idle =
          let none = idle.none in
          let sound = sound_more log_kind w idle.none idle.sound (λ _. idle.at_most) m bytes room whole in
          let at_most = at_most_more w.spec_ex w.data_start w.bytes_written (w.bytes_written + length bytes)
          m.state.contents (omega arith) (still log_kind w (λ _. idle.at_most) m bytes _ refl all) in
          search rules;
    }
block_call bytes (Err e) w m idle room whole puts =
    let some = as_out (w.data_start + w.bytes_written) bytes (bad e) w.medium.state m.state puts in
    record {
      answer = Err (IoError e);
      does = accepts_none log_kind w idle.none idle.sound (λ _. idle.at_most) m bytes room
          whole e (λ _. some) (λ _ _. w.medium.replays);
      mark = refl;
      idle = good_over w m idle (still log_kind w (λ _. idle.at_most) m bytes _ refl some);
    }

-- a recording between two calls
at_rest : (s : WavSpecEx) (file : Begun) (known : List Known) (r : Recorder) (w : WriterState Log)
    → Recorded log_kind s file known w → IsIdle w → IsRecorderOf r w → r.number ≡ 0
    → (IsSynced (handed_in file) → (high : ℕ) × IsOrdered high w.medium.state
    × (r.health ≡ Sound → high ≤ r.data_start + r.data_length))
    → InStep s file known r w.medium.state
at_rest s file known r w recorded idle is none order = record {
  writer = w;
  recorded = recorded;
  idle = idle;
  is = is;
  order = order;
  log = w.medium;
  state = refl;
  performed = rw none (refl, refl);
}

-- a block that the data have room for has it in the writer
has_room : (r : Recorder) (w : WriterState Log) (n more : ℕ) → IsRecorderOf r w → w.buffered ≡ []
    → n ≡ r.data_length + more → HasData r n → HasRoom w more
has_room r w n more is none long given = grind (arith, common_steps)

-- a new file that was begun, in the medium as it was at its beginning
pub step_new : (s : WavSpecEx) (given : MediumState) (log : Log) → Opened s given log.state → IsWritable s
    → InStep s (new_file (at_beginning given)) [] (recorder_of s (data_start s) 0) log.state
step_new s given log opened writable =
    let r = recorder_of s (data_start s) 0 in
    let old = at_beginning given in
    let puts = header_opened s given log.state opened in
    let start = length (header s 0 0) in
    let w = of_fields log s start 0 [] [] in
    let here = length-header s 0 0 in
    let sound : IsSound w = sound_begin log s start writable here in
    let begins : Begins log_kind s old w = record {
      begun = let begins = here in search rules;
      file = λ _. header_file log_kind s old log writable refl (all_put (header s 0 0) old log.state refl puts);
    } in
    at_rest s (new_file old) [] r w (recorded_first log_kind s (new_file old) w begins)
    (record {
      none = refl;
      sound = sound;
      at_most = at_most_begin log_kind s old log writable refl (all_put (header s 0 0) old log.state refl puts);
    })
    (rw here (refl, refl, refl)) refl
    (λ synced. (data_start s, header_in_order s old log.state synced puts, λ _. omega arith))

-- a file that was there, as a walk found it
pub no_fault : (s : WavSpecEx) (samples start : ℕ) → 1 ≤ s.bytes_per_sample → samples % s.spec.channels ≡ 0
    → IsPair s.spec.sample_format s.spec.bits_per_sample s.bytes_per_sample
    → riff_size start (samples * s.bytes_per_sample) ≤ greatest_u32
    → head_fault s (samples * s.bytes_per_sample) start ≡ None
unfolding head_fault
no_fault s samples start wide frames pair fits = grind (arith, common_steps)

readable_length : (s : WavSpecEx) (samples start : ℕ) (contents : List ℕ)
    → (r : Readable contents s samples start) → r.len ≡ samples * s.bytes_per_sample
readable_length s samples start contents r = grind (arith, common_steps, count_bytes)

pub readable_frames : (s : WavSpecEx) (samples start : ℕ) (contents : List ℕ)
    → Readable contents s samples start → samples % s.spec.channels ≡ 0
readable_frames s samples start contents r = let no = r.frames in grind (arith, common_steps)

pub step_resumed : (f : FoundFile) (samples : ℕ) (old : MediumState) (log : Log)
    → Resumed f samples old log.state → f.data_start + f.data_length ≤ f.length
    → AppendsRecorder f.spec_ex f.data_start f.data_length (Ok (recorder_of f.spec_ex f.data_start f.data_length))
    → InStep f.spec_ex (resumed_file f.spec_ex samples f.data_start old) []
    (recorder_of f.spec_ex f.data_start f.data_length) log.state
step_resumed f samples old log is enough (channels, pair, frames, (far, wide, fits), same) =
    let s = f.spec_ex in
    let start = f.data_start in
    let len = f.data_length in
    let counted : len ≡ samples * s.bytes_per_sample = is.counted in
    let w = of_fields log s start len [] [] in
    let head : Head old.contents s len start = grind (arith, common_steps, readable_length) in
    let check : head_fault s len start ≡ None = rw counted (no_fault s samples start is.sound.1
    (readable_frames s samples start old.contents is.readable) pair (rw counted at fits)) in
    let after = head_beyond old.contents s len start head in
    let sound : IsSound w = sound_head log s len start is.sound after check in
    let stays = is.goes.stays.contents in
    let file = λ (modelled : IsTrue true).
    follows log_kind.state log s len start old is.sound after head check is.goes in
    let count : len / s.bytes_per_sample ≡ samples = rw counted (mul-div_cancel samples is.sound.1) in
    let found : accepted_samples log_kind.state w ≡ containers s.bytes_per_sample samples (drop start old.contents) =
    rw count at (samples_out log_kind.state w refl sound)
    ∙ ap (λ c. containers s.bytes_per_sample samples (drop start c)) stays in
    let at_most = at_most_on s len start old.contents log.state.contents head stays in
    let kind = is.sound in
    let held : start + len ≤ length log.state.contents = rw (stays, sym is.all) enough in
    let begun = resumed_file s samples start old in
    let opens : Opens log_kind s begun w = search rules in
    at_rest s begun [] (recorder_of s start len) w (recorded_first log_kind s begun w opens)
    (record { none = refl; sound = sound; at_most = at_most })
    (refl, refl, refl) refl
    (λ synced. (
      start + len,
      in_order_none (start + len) log.state (is.goes.flushed ∙ synced ∙ sym (ap length is.goes.stays.past)),
      λ _. omega arith,
    ))

-- no effect is under way
pub at_none : (r : Recorder) (first last : Log) → r.number ≡ 0
    → Performed (take r.number (effects_of r)) (Ok tt) first last → last ≡ first
at_none r first last none did = let (ok, same) = rw none at did in same

-- the recorder after the report of a block
reported : (old new : Recorder) (w : WriterState Log) (end : Log) (n more : ℕ)
    (result : Result (Unit {0}) IoFault) → IsRecorderOf old w → old.number ≡ 0 → n ≡ old.data_length + more
    → new ≡ (if is_ok result then record old { data_length = n } else record old { health = Suspect })
    → IsRecorderOf new (record w { medium = end; bytes_written = out_after result more w.bytes_written })
    × (new.number ≡ 0)
    × (new.health ≡ Sound → w.data_start + w.bytes_written + more ≤ new.data_start + new.data_length)
reported old new w end n more result is none long same = grind (arith, common_steps)

-- a block that was written where the recorder said, or a beginning of it
pub step_block : (s : WavSpecEx) (file : Begun) (known : List Known) (old new : Recorder)
    (m : MediumState) (end : Log) (n : ℕ) (bytes : List ℕ) (result : Result (Unit {0}) IoFault)
    → InStep s file known old m → IsClear old → HasData old n → n ≡ old.data_length + length bytes
    → length bytes % old.bytes_per_sample ≡ 0 → PutsAt true (old.data_start + old.data_length) bytes result m end.state
    → new ≡ (if is_ok result then record old { data_length = n } else record old { health = Suspect })
    → InStep s file (known ++ block_known bytes (is_ok result) s ∷ []) new end.state
step_block s file known old new m end n bytes result d (clean, none) has long containers puts is =
    let w = d.writer in
    let same = at_none old w.medium d.log none d.performed in
    let here : m ≡ w.medium.state = sym d.state ∙ ap log_kind.state same in
    let at : old.data_start + old.data_length ≡ w.data_start + w.bytes_written = omega (arith, d.is.0, d.is.1) in
    let whole : length bytes % w.spec_ex.bytes_per_sample ≡ 0 = rw d.is.2 at containers in
    let written : PutsAt true (w.data_start + w.bytes_written) bytes result w.medium.state end.state =
    rw (here, at) at puts in
    let call = block_call bytes result w end d.idle (has_room old w n (length bytes) d.is d.idle.none long has)
    whole written in
    let known_more = known ++ block_known bytes (is_ok result) s ∷ [] in
    let next = record w { medium = end; bytes_written = out_after result (length bytes) w.bytes_written } in
    let recorded : Recorded log_kind s file known_more next =
    subst (λ x. Recorded log_kind s file (known ++ block_known bytes (is_ok result) x ∷ []) next)
    (recorded_spec log_kind s file known w d.recorded)
    (recorded_more log_kind (block_known bytes (is_ok result) w.spec_ex)
    (write (whole_containers w.spec_ex bytes)) call.answer s file known w next (refl, call.mark) d.recorded
    call.does) in
    let (fields, number, below) = reported old new w end n (length bytes) result d.is none long is in
    at_rest s file known_more new next recorded call.idle fields number
    (λ synced. let (high, order, low) = d.order synced in (
      w.data_start + w.bytes_written + length bytes,
      puts_in_order high (w.data_start + w.bytes_written) bytes result w.medium.state end.state
          (omega (arith, low clean, d.is.0, d.is.1)) order written,
      below,
    ))

-- one effect more was performed
pub performed_more : (effects : List Effect) (k : ℕ) (effect : Effect) (r : Result (Unit {0}) IoFault)
    (first mid last : Log) → Some effect ≡ nth effects k → Performed (take k effects) (Ok tt) first mid
    → Performs effect r mid.state last.state → Performed (take (suc k) effects) r first last
performed_more [] k effect r first mid last is before did = cc
performed_more (one ∷ effects) zero effect r first mid last is (ok, same) did =
    let this : effect ≡ one = cc in
    let done : Performs one r first.state last.state =
    subst (λ (x : Effect × Log). Performs x.0 r x.1.state last.state) (λ i. (this i, same i)) did in
    by r done
  where
    by : (r : Result (Unit {0}) IoFault) → Performs one r first.state last.state → Performed (one ∷ []) r first last
    by (Ok x) done = (last, Ok x, done, (refl, refl))
    by (Err e) done = (last, Err e, done, (refl, refl))
performed_more (one ∷ effects) (suc k) effect r first mid last is (m, Ok x, done, rest) did =
    (m, Ok x, done, performed_more effects k effect r m mid last is rest did)
performed_more (one ∷ effects) (suc k) effect r first mid last is (m, Err e, done, (other, same)) did = cc

-- the effects so far are all, if none is left or the last one failed
pub performed_all : (effects : List Effect) (k : ℕ) (r : Result (Unit {0}) IoFault) (first last : Log)
    → (is_ok r ≡ true → None ≡ nth effects k) → Performed (take k effects) r first last
    → Performed effects r first last
performed_all [] zero r first last all did = did
performed_all [] (suc k) r first last all did = did
performed_all (one ∷ effects) zero r first last all (ok, same) = let none = all (ap is_ok ok) in cc
performed_all (one ∷ effects) (suc k) r first last all (m, Ok x, done, rest) =
    (m, Ok x, done, performed_all effects k r m last all rest)
performed_all (one ∷ effects) (suc k) r first last all (m, Err e, done, end) = (m, Err e, done, end)

-- an effect that was next is done
pub step_effect : (s : WavSpecEx) (file : Begun) (known : List Known) (old : Recorder) (m : MediumState) (end : Log)
    (effect : Effect) → InStep s file known old m → HasNext effect old
    → Performs effect (Ok tt) m end.state → InStep s file known (record old { number = old.number + 1 }) end.state
step_effect s file known old m end effect d (can, at) did =
    let one : suc old.number ≡ old.number + 1 = omega arith in record {
      writer = d.writer;
      recorded = d.recorded;
      idle = d.idle;
      is = d.is;
      order = d.order;
      log = end;
      state = refl;
      performed = rw one at (performed_more (effects_of old) old.number effect (Ok tt) d.writer.medium d.log end (sym
          at)
          d.performed (rw (sym d.state) at did));
    }

pub sound_is : (health : Health) → is_sound health ≡ true → health ≡ Sound
sound_is health is = grind (arith, common_steps)

-- a checkpoint whose effects were performed, all or up to one that failed
ended : (s : WavSpecEx) (file : Begun) (known : List Known) (old : Recorder) (m : MediumState) (end : Log)
    (health : Health) (result : Result (Unit {0}) IoFault) (d : InStep s file known old m)
    → Performed (effects_of old) result d.writer.medium end → (health ≡ Sound → is_ok result ≡ true)
    → InStep s file (known ++ marked publish (is_ok result) ∷ []) (record old { number = 0; health = health }) end.state
ended s file known old m end health result d whole clean =
    let w = d.writer in
    let did : Performed (if is_sound old.health then checkpoint w.data_start w.bytes_written
    else Sync ∷ checkpoint w.data_start w.bytes_written) result w.medium end = rw (d.is.0, d.is.1) at whole in
    let call = save_call (is_sound old.health) result w end d.idle did in
    let next = record w { medium = end } in
    let recorded = recorded_more log_kind (marked publish (is_ok result)) publish call.answer s file known w
    next (refl, call.mark) d.recorded call.does in
    at_rest s file (known ++ marked publish (is_ok result) ∷ []) (record old { number = 0; health = health }) next
    recorded call.idle d.is refl (λ synced.
    let (high, order, low) = d.order synced in
    let (top, now, small) = all_ordered (effects_of old) high (old.data_start + old.data_length) result w.medium end
    (effects_ordered (is_sound old.health) old.data_start old.data_length high
    (omega (arith, d.idle.sound.after_head, d.is.0)) (λ clean. low (sound_is old.health clean))) order whole in
    (top, now, λ is. small (clean is)))

-- all effects are done
pub step_save : (s : WavSpecEx) (file : Begun) (known : List Known) (old : Recorder) (m : MediumState)
    → InStep s file known old m → HasNoNext old
    → InStep s file (known ++ marked publish true ∷ []) (saved old) m
step_save s file known old m d (can, at) =
    subst (InStep s file (known ++ marked publish true ∷ []) (saved old)) d.state
    (ended s file known old m d.log Sound (Ok tt) d
    (performed_all (effects_of old) old.number (Ok tt) d.writer.medium d.log (λ _. sym at) d.performed) (λ _. refl))

-- after a failure a recorder isn't sound
not_sound : (effect : Effect) → health_after effect ≡ Sound → ⊥
not_sound effect is = grind (arith, common_steps)

-- an effect that was next has failed
pub step_cut : (s : WavSpecEx) (file : Begun) (known : List Known) (old : Recorder) (m : MediumState) (end : Log)
    (effect : Effect) (e : IoFault) → InStep s file known old m → HasNext effect old
    → Performs effect (Err e) m end.state
    → InStep s file (known ++ marked publish false ∷ []) (record old { number = 0; health = health_after effect })
    end.state
step_cut s file known old m end effect e d (can, at) did =
    let begun = performed_more (effects_of old) old.number effect (Err e) d.writer.medium d.log end (sym at) d.performed
    (rw (sym d.state) at did) in
    ended s file known old m end (health_after effect) (Err e) d
    (performed_all (effects_of old) (suc old.number) (Err e) d.writer.medium end (λ fine. absurd (false≢true fine))
    begun) (λ clean. absurd (not_sound effect clean))

-- the data of a file that is in step are those of one
pub step_data : (s : WavSpecEx) (file : Begun) (known : List Known) (r : Recorder) (m : MediumState)
    (error : RecorderError) → InStep s file known r m → IsAlive r → CannotSave r error → ⊥
step_data s file known r m SyncFailed d low dead = low dead
step_data s file known r m NotWritable d low (_, never) =
    let sound = d.idle.sound in let fields = d.is in grind (arith, common_steps)
step_data s file known r m TooLong d low (_, never) =
    let sound = d.idle.sound in let none = d.idle.none in let fields = d.is in grind (arith, common_steps)
step_data s file known r m NeedsCheckpoint d low (_, never) = never
step_data s file known r m UnfinishedFrame d low (_, never) = never
step_data s file known r m Truncated d low (_, never) = never
step_data s file known r m NeedsMend d low (_, never) = never
step_data s file known r m NeedsOverwrite d low (_, never) = never

-- within a checkpoint, too, places ascend
pub step_ascends : (s : WavSpecEx) (file : Begun) (known : List Known) (r : Recorder) (m : MediumState)
    → InStep s file known r m → IsSynced (handed_in file) → Ascends m.past m.flushed (length m.past)
step_ascends s file known r m d synced =
    let (high, order, low) = d.order synced in
    let (last, ordered) = taken_ordered (effects_of r) r.number high (r.data_start + r.data_length)
    (effects_ordered (is_sound r.health) r.data_start r.data_length high
    (omega (arith, d.idle.sound.after_head, d.is.0)) (λ clean. low (sound_is r.health clean))) in
    let (top, now, small) =
    all_ordered (take r.number (effects_of r)) high last (Ok tt) d.writer.medium d.log ordered order d.performed in
    subst (λ (m : MediumState). Ascends m.past m.flushed (length m.past)) d.state now.ascends
