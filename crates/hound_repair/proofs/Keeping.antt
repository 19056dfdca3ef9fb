-- What is stored is read again once a file is repaired.
use Rattle.std.proofs.lemmas.Grind.{common_steps}
use Rattle.std.proofs.Common.{None, ◌≡◌, ◌⊎◌, ℕ, zero, suc, ◌+◌, ◌*◌, ◌/◌, ◌≤◌, Bool, IsTrue, List, ◌∷◌, length, take, drop, inl, inr, refl, sym, ap, ◌∙◌, subst, arith, length-drop, length-take}
use Rattle.std.specs.List.{concat, AllByRecursion}
use Rattle.std.proofs.lemmas.List.{take-take, take-append-le, drop-append-le, length-take-le}
use Rattle.std.proofs.lemmas.Nat.{mul-le}
use Rattle.std.proofs.Math.Nat.{div-mul-le_self, mul_assoc}
use Rattle.hound_spec.specs.declared.spec.WavSpecEx.{WavSpecEx}
use Rattle.hound_medium.specs.{MediumState, one_more}
use Rattle.hound_sample.specs.{containers}
use Rattle.hound_walk.specs.{Head, IsSoundSpec}
use Rattle.hound_walk.proofs.Unique.{head_no_fault, heads_agree}
use Rattle.hound_sample.proofs.Joined.{length-concat, containers-concat}
use Rattle.hound_sample.proofs.Containers.{containers_front}
use Rattle.hound_writer.proofs.Heads.{head_beyond, head_inside}
use Rattle.hound_writer.specs.{IsStored, IsIoError, AppendFault, NamesFault, PutsNothing}
use Rattle.hound_repair.specs.Held.{data_held, ends_with_pad, frame_length, held, shown_length}
use Rattle.hound_spec.specs.declared.error.Error.{Error}
use Rattle.hound_repair.specs.Repairing.{IsNoPad, IsRepairFault, LeavesFor, ReadsFrames, Repairs, repair_fault}
use Rattle.hound_repair.specs.Steps.{IsNotRepaired, LeavesPartly}
use Rattle.hound_repair.specs.declared.look.Repair.{Repair}
use Rattle.hound_writer.specs.declared.resuming.RepairState.TheVariants.{HasChunksAfterData}
use Rattle.hound_repair.proofs.Again.{uncounted_cases}
use Rattle.hound_repair.proofs.Joining.{AreWide, concat_front, wide_take}
use Rattle.hound_repair.proofs.RightSizes.{held_frames, not_followed, same_sizes, sizes_of}

-- the first of more containers are those of fewer
pub containers_fewer : (w n m : ℕ) (bytes : List ℕ) → n ≤ m → take n (containers w m bytes) ≡ containers w n bytes
containers_fewer w zero m bytes le = refl
containers_fewer w (suc n) zero bytes le = absurd (omega (arith, le))
containers_fewer w (suc n) (suc m) bytes le =
    ap (λ l. take w bytes ∷ l) (containers_fewer w n m (drop w bytes) (omega (arith, le)))

-- of bytes that hold at least this many whole frames, so many are found, unless the last byte is taken for a pad byte
-- and is one of them
pub frames_kept : (f len n q : ℕ) → 1 ≤ f → q * f ≤ n → (f ≡ 1 → n ≡ len + 1 → q * f ≤ len) → q ≤ data_held f len n / f
unfolding data_held ends_with_pad
frames_kept f len n q some few no_pad = grind (arith, common_steps)

-- nor is one of them taken for a pad byte by the data length that is shown
pub no_pad_shown : (s : WavSpecEx) (len start : ℕ) (c : List ℕ) (list : List (List ℕ))
    → IsNoPad s len (held start c) list
    → IsNoPad s (shown_length start len c) (held start c) list
no_pad_shown s len start c list none = grind (arith, common_steps, uncounted_cases, length-drop)

-- the data stay
data_stay : (put : Bool) (found : Repair) (start m : ℕ) (old new : MediumState)
    → LeavesFor put found start old new → 20 ≤ start
    → start ≤ length old.contents → m ≤ held start old.contents
    → take m (drop start new.contents) ≡ take m (drop start old.contents)
data_stay put found start m old new leaves beyond inside few =
    grind (arith, common_steps, same_sizes, drop-append-le, take-append-le)

module _ (looks : Bool) (old new : MediumState) (found : Repair)
    (r : Repairs looks old found new) (alone : found.state ≡ HasChunksAfterData → ⊥)
    (list : List (List ℕ)) (sound : IsSoundSpec found.spec_ex)
    (wide : AreWide found.spec_ex.bytes_per_sample list)
    (stored : IsStored r.start (concat list) 0 (length (concat list)) old.contents)
    (no_pad : IsNoPad found.spec_ex (shown_length r.start r.len old.contents) (held r.start old.contents) list) where
  abbrev s : WavSpecEx
  s = found.spec_ex

  abbrev w : ℕ
  w = s.bytes_per_sample

  abbrev channels : ℕ
  channels = s.spec.channels

  -- how many frames they are, and how many samples these have
  abbrev q : ℕ
  q = length list / channels

  abbrev n : ℕ
  n = q * channels

  abbrev rest : List ℕ
  rest = drop r.start old.contents

  few : n ≤ length list
  few = div-mul-le_self (length list) channels

  size : length (concat list) ≡ length list * w
  size = length-concat w list wide

  there : take (length (concat list)) rest ≡ concat list
  there = grind (arith, common_steps)

  long : length (concat list) ≤ length rest
  long = omega (arith, ap length there, length-take (length (concat list)) rest)

  bytes : q * frame_length s ≡ n * w
  bytes = sym (mul_assoc q channels w)

  inside : n * w ≤ length list * w
  inside = mul-le n w (length list) w few (omega arith)

  frame : 1 ≤ frame_length s
  frame = mul-le 1 1 channels w sound.0 sound.1

  not_pad : frame_length s ≡ 1 → length rest ≡ shown_length r.start r.len old.contents + 1
      → q * frame_length s ≤ shown_length r.start r.len old.contents
  not_pad one more = grind (arith, common_steps)

  frames : q ≤ found.frames
  frames =
      let shown = shown_length r.start r.len old.contents in
      let kept = frames_kept (frame_length s) shown (length rest) q frame (omega (arith, bytes, inside, size, long))
      not_pad in
      subst (λ k. q ≤ k) (sym (r.is.frames ∙ held_frames found.state s r.len shown (length rest) alone)) kept

  same : take (n * w) (drop r.start new.contents) ≡ take (n * w) (concat list)
  same = grind (arith, common_steps, data_stay, head_beyond, head_inside, inside, size, long, take-take, there)

  taken : length (take n list) ≡ n
  taken = length-take-le n list few

  pub reads_frames : ReadsFrames found r.start list new.contents
  reads_frames =
      let all = found.frames * channels in
      let within : n ≤ all = mul-le q channels found.frames channels frames (omega arith) in
      let after = drop r.start new.contents in
      record {
        readable = (sizes_of found.state found r.start new.contents alone r.sizes).readable;
        among = omega (arith, taken, within);
        first =
            ap (λ k. take k (containers w all after)) taken
            ∙ containers_fewer w n all after within
            ∙ containers_front w n after (concat list) same
            ∙ (λ i. containers w (sym taken i) (concat_front n list i))
            ∙ containers-concat w (take n list) (concat (drop n list)) (wide_take w n list wide);
      }

-- samples that are stored are read first once a file is repaired
pub stays_stored : (looks : Bool) (old new : MediumState) (found : Repair) (s : WavSpecEx)
    (len start : ℕ) (list : List (List ℕ)) → Repairs looks old found new
    → (IsTrue looks → found.state ≡ HasChunksAfterData → ⊥) → Head old.contents s len start
    → IsSoundSpec s → AllByRecursion (λ c. length c ≡ s.bytes_per_sample) list
    → IsStored start (concat list) 0 (length (concat list)) old.contents
    → IsNoPad s (shown_length start len old.contents) (held start old.contents) list
    → (found.spec_ex ≡ s) × ReadsFrames found start list new.contents
stays_stored looks old new found s len start list r alone head sound wide stored no_pad =
    let agree = heads_agree old.contents found.spec_ex s r.len len r.start start r.is.head head in
    let bytes = concat list in (
      agree.0,
      subst (λ h. ReadsFrames found h list new.contents) agree.2 (reads_frames looks old new found r
          (not_followed looks _ _ _ found.state r.is.state alone) list (subst IsSoundSpec (sym agree.0) sound)
          (subst (λ (x : WavSpecEx). AreWide x.bytes_per_sample list) (sym agree.0) wide)
          (subst (λ h. IsStored h bytes 0 (length bytes) old.contents) (sym agree.2) stored)
          (subst (λ (x : WavSpecEx × ℕ × ℕ). IsNoPad x.0 (shown_length x.2 x.1 old.contents) (held x.2 old.contents)
          list)
          (λ i. (sym agree.0 i, sym agree.1 i, sym agree.2 i)) no_pad)),
    )

-- a head that fails no check isn't repaired only if the medium failed
pub only_io : (looks : Bool) (old new : MediumState) (e : Error) (s : WavSpecEx) (len start : ℕ)
    → Head old.contents s len start
    → repair_fault s (shown_length start len old.contents) start (held start old.contents) ≡ None
    → IsNotRepaired looks old new e → IsIoError e
only_io looks old new e s len start head none not = by not.why
  where
    by : ((fault : AppendFault) × IsRepairFault old.contents fault × NamesFault e fault
        × PutsNothing old new × (new.faults ≡ old.faults))
        ⊎ (IsIoError e × LeavesPartly looks old new × (new.faults ≡ one_more old.faults))
        → IsIoError e
    by (inr (io, leaves, faults)) = io
    by (inl (fault, inl (cause, is, rejected), names, puts, faults)) =
        absurd (head_no_fault old.contents s len start cause head rejected)
    by (inl (fault, inr (t, m, h, other, some), names, puts, faults)) =
        let agree = heads_agree old.contents t s m len h start other head in
        absurd (let never : ⊥ = cc (agree.0, agree.1, agree.2, none, some) in never)
