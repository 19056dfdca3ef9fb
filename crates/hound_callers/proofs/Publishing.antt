-- Blocks that were each written and published, and what is known of their calls; and how many are, if no call fails.
use Rattle.std.proofs.Common.{◌≡◌, ◌⊎◌, ℕ, ◌+◌, ◌<◌, nat_le, Bool, true, false, OnErr, Ok, Err, inl, inr, length-append, List, [], ◌∷◌, ◌++◌, length, take, get_or, Result, IsOk, refl, sym, ◌∙◌, ap, subst, append_assoc, arith}
use Rattle.std.proofs.lemmas.Grind.{flat_map-append, common_steps}
use Rattle.std.proofs.lemmas.Bool.{false≢true, leb-false}
use Rattle.std.proofs.lemmas.List.{append-nil, map-append, take_more}
use Rattle.std.proofs.lemmas.List.Folds.{concat-append}
use Rattle.std.specs.List.{All, concat, flat_map}
use Rattle.hound.specs.{AcceptAnswer, Error, FitAnswer, IsPublishing, WriterState, data_length, faults_reported, greatest_u32, if_marked, mark_of, riff_size, AreKnown, Asked, Call, Known, marked, publish, seen, write, Rejection, HasPublished, accepted_as_seen, accepted_by_all}
use Rattle.hound.specs.declared.Error.TheVariants.{IoError, UnfinishedSample}
use Rattle.hound.proofs.Calling.{last_of}
use Rattle.hound_callers.specs.Recording.{HaveContainers, IsRejectedAfter, bytes_of_blocks, published_calls}

module _ {V : Type 0} (f : V → Result (List (List ℕ)) Rejection) where
  -- the two calls of a block more are known after those of the blocks before it
  pub seen_more : (blocks : List V) (i : ℕ) (d : V) → i < length blocks → seen (published_calls f (take (i + 1) blocks))
      ≡ seen (published_calls f (take i blocks)) ++ seen (published_calls f (get_or blocks i d ∷ []))
  seen_more blocks i d inside = grind (arith, common_steps)

  -- their calls accepted the containers
  pub accepted : (blocks : List V)
      → accepted_as_seen (published_calls f blocks) ≡ flat_map (λ block. if_marked true (f block)) blocks
  accepted [] = refl
  accepted (block ∷ blocks) = λ i. if_marked true (f block) ++ accepted blocks i

  -- the last call of some blocks is a flush, before which all their containers were accepted
  pub last_call : (blocks : List V) → 0 < length blocks → (written : List (Asked × Bool))
      × (published_calls f blocks ≡ written ++ (publish, true) ∷ [])
      × (accepted_as_seen written ≡ accepted_as_seen (published_calls f blocks))
  last_call blocks some =
      let (first, last, split) = last_of blocks some in
      let same : published_calls f blocks
      ≡ (published_calls f first ++ (write (f last), true) ∷ []) ++ (publish, true) ∷ [] =
      ap (published_calls f) split ∙ simp (flat_map-append, append_assoc) in
      (_, same, sym (ap accepted_as_seen same ∙ simp (flat_map-append, append-nil)))

  -- The flush of the last of some blocks is among the calls, and those before it accepted the containers of these
  -- blocks.
  pub last_flush : (blocks : List V) (more end : List Known) (calls : List Call)
      → 0 < length blocks → All (λ block. IsOk (f block)) blocks
      → ((before : List (Asked × Bool)) (after : List Known) (calls : List Call)
      → AreKnown (seen before ++ (marked publish true ∷ after)) calls
      → (first last : List Call) × (flush : Call) × (calls ≡ first ++ (flush ∷ last))
      × HasPublished flush × (accepted_by_all first ≡ accepted_as_seen before))
      → AreKnown ((seen (published_calls f blocks) ++ more) ++ end) calls
      → (before after : List Call) × (flush : Call) × (calls ≡ before ++ (flush ∷ after))
      × HasPublished flush × HaveContainers f blocks (accepted_by_all before)
  last_flush blocks more end calls some all published are =
      let (written, same, is_all) = last_call blocks some in
      let parts : (seen (published_calls f blocks) ++ more) ++ end
      ≡ seen written ++ (marked publish true ∷ (more ++ end)) =
      ap (λ l. (seen l ++ more) ++ end) same ∙ simp (map-append, append_assoc) in
      let (before, after, flush, are_parts, has_all, is) =
      published written (more ++ end) calls (subst (λ l. AreKnown l calls) parts are) in
      (before, after, flush, are_parts, has_all, (all, is ∙ is_all ∙ accepted blocks))

  -- the bytes of a block more come after those of the blocks before it
  pub more_bytes : (blocks : List V) (i : ℕ) (d : V) → i < length blocks → bytes_of_blocks f (take (i + 1) blocks)
      ≡ bytes_of_blocks f (take i blocks) + length (concat (if_marked true (f (get_or blocks i d))))
  more_bytes blocks i d inside =
      ap (bytes_of_blocks f) (take_more blocks i d inside)
      ∙ simp (flat_map-append, append-nil, concat-append, length-append)

-- a call for samples fails only where they are rejected, or by a fault that is counted
pub rejected_or_failed : {W : Type 0} (asked : Result (List (List ℕ)) Rejection) (answer : Result (Unit {0}) Error)
    (w : WriterState W) (old new : ℕ) → AcceptAnswer asked w answer → new ≡ faults_reported answer old
    → OnErr answer (IsRejectedAfter w.data_start (data_length w) asked ⊎ (0 < new))
rejected_or_failed asked (Ok x) w old new answers counts = tt
rejected_or_failed (Err rejection) (Err e) w old new answers counts = inl tt
rejected_or_failed (Ok list) (Err e) w old new answers counts =
    by (nat_le (riff_size w.data_start (data_length w + length (concat list))) greatest_u32) refl e answers counts
  where
    by : (b : Bool) → nat_le (riff_size w.data_start (data_length w + length (concat list))) greatest_u32 ≡ b
        → (e : Error) → FitAnswer {T = Unit {0}} b (Err e) → new ≡ faults_reported {T = Unit {0}} (Err e) old
        → IsRejectedAfter w.data_start (data_length w) (Ok list) ⊎ (0 < new)
    by false is e answer counts = inl (leb-false _ _ is)
    by true is (IoError fault) answer counts = inr (omega (arith, counts))
    by true is _ answer counts = absurd answer

-- a call that doesn't publish has counted a fault
pub unpublished_counts : {W : Type 0} (answer : Result (Unit {0}) Error) (w : WriterState W) (old new : ℕ)
    → IsPublishing answer w → new ≡ faults_reported answer old → mark_of answer ≡ false → 0 < new
unpublished_counts (Ok x) w old new says counts not = absurd (false≢true (sym not))
unpublished_counts (Err UnfinishedSample) w old new says counts not = absurd (false≢true (sym not))
unpublished_counts (Err (IoError fault)) w old new says counts not = omega (arith, counts)
unpublished_counts (Err _) w old new says counts not = absurd says

-- no fault was counted before a call after which none is
pub none_before : (answer : Result (Unit {0}) Error) (old new : ℕ) → new ≡ faults_reported answer old → new ≡ 0
    → old ≡ 0
none_before (Ok x) old new counts none = sym counts ∙ none
none_before (Err (IoError fault)) old new counts none =
    absurd (let some : 0 < new = omega (arith, counts) in omega (arith, some, none))
none_before (Err _) old new counts none = sym counts ∙ none
