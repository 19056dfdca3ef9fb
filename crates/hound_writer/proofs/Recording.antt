-- A list of calls and one more.
use Rattle.std.proofs.lemmas.Grind.{common_steps}
use Rattle.std.proofs.Common.{ℕ, MatchResult, List, [], ◌∷◌, ◌++◌, ◌≡◌, length, Result, refl, rules, subst, ◌∙◌, ap, arith}
use Rattle.std.specs.Prelude.{⊤}
use Rattle.hound_spec.specs.declared.error.Error.{Error}
use Rattle.hound_spec.specs.declared.spec.WavSpecEx.{WavSpecEx}
use Rattle.hound_medium.specs.{MediumState, WhereTells}
use Rattle.hound_sample.specs.{Rejection}
use Rattle.hound_writer.specs.Accepting.{Accepts}
use Rattle.hound_writer.specs.Appending.{Appends}
use Rattle.hound_writer.specs.Batch.{IsSameFile}
use Rattle.hound_writer.specs.Beginning.{Begins}
use Rattle.hound_writer.specs.Publishing.{Checkpoints, Finishes, PublishesTo}
use Rattle.hound_writer.specs.Writer.{Ghosts, WriterState, IsWhole, accepted_samples}
use Rattle.hound_writer.specs.Calls.{AreKnown, Asked, write, publish, Call, Does, Begun, IsKnown, Known, Lead, Left, Opens, Recorded, asked_by_all, appended, new_file, with_memory}
use Rattle.hound_writer.proofs.Answers.{on_published_then}

-- a writer of the same file is the same but for its memory
pub same_but_memory : {W : Type 0} (a b : WriterState W) → IsSameFile a b → with_memory a b.batch_memory ≡ b
same_but_memory a b same = search rules

-- one call more of which this is known
known_more : (known : List Known) (calls : List Call) (one : Known) (call : Call)
    → AreKnown known calls → IsKnown one call → AreKnown (known ++ one ∷ []) (calls ++ call ∷ [])
known_more [] [] one call are is = (is, tt)
known_more [] (other ∷ calls) one call are is = absurd are
known_more (k ∷ known) [] one call are is = absurd are
known_more (k ∷ known) (other ∷ calls) one call are is =
    (are.0, known_more known calls one call are.1 is)

module _ {W : Type 0} (kind : Ghosts W) where
  abbrev pub call_at : Asked → Result (Unit {0}) Error → WriterState W → Call
  call_at asked answer old =
      record { asked = asked; answer = answer; began = length (kind.state old.medium).past }

  -- one call more
  pub lead_more : (calls : List Call) (asked : Asked) (answer : Result (Unit {0}) Error)
      (a b c : WriterState W) → Lead kind calls a b
      → Does kind asked answer b c
      → Lead kind (calls ++ call_at asked answer b ∷ []) a c
  lead_more [] asked answer a b c (memory, same) does = (
    memory,
    c,
    ap (λ (w : WriterState W). length (kind.state w.medium).past) same,
    subst (λ w. Does kind asked answer w c) same does,
    (c.batch_memory, refl),
  )
  lead_more (call ∷ calls) asked answer a b c (memory, mid, at, first, rest) does =
      (memory, mid, at, first, lead_more calls asked answer mid b c rest does)

  -- and the same calls with another memory
  lead_same : (calls : List Call) (a b : WriterState W) (memory : List ℕ)
      → Lead kind calls a b → Lead kind calls a (with_memory b memory)
  lead_same [] a b memory (first, same) =
      (memory, ap (λ (w : WriterState W). with_memory w memory) same)
  lead_same (call ∷ calls) a b memory (first, mid, at, does, rest) =
      (first, mid, at, does, lead_same calls mid b memory rest)

  pub asked_more : (calls : List Call) (asked : Asked) (answer : Result (Unit {0}) Error) (b : WriterState W)
      → asked_by_all (calls ++ call_at asked answer b ∷ []) ≡ asked_by_all calls ++ asked ∷ []
  asked_more [] asked answer b = refl
  asked_more (call ∷ calls) asked answer b =
      ap (λ l. call.asked ∷ l) (asked_more calls asked answer b)

  -- the spec stays
  pub call_spec : (asked : Asked) (answer : Result (Unit {0}) Error) (a b : WriterState W)
      → Does kind asked answer a b → b.spec_ex ≡ a.spec_ex
  call_spec asked answer a b accepts = grind (arith, common_steps)

  pub lead_spec : (calls : List Call) (a b : WriterState W) → Lead kind calls a b → b.spec_ex ≡ a.spec_ex
  lead_spec [] a b (memory, same) = ap (λ (w : WriterState W). w.spec_ex) same
  lead_spec (call ∷ calls) a b (memory, mid, at, does, rest) =
      lead_spec calls mid b rest
      ∙ call_spec call.asked call.answer (with_memory a memory) mid does

  pub opens_spec : (s : WavSpecEx) (file : Begun) (first : WriterState W) → Opens kind s file first → first.spec_ex ≡ s
  opens_spec s file first opens = grind (arith, common_steps)

  -- a flush or an end leaves its medium somewhere
  pub leaves : {at : ℕ} (answer : Result (Unit {0}) Error) (a b : WriterState W)
      → PublishesTo kind at answer a b → Does kind publish answer a b
  leaves answer a b p = search (rules, on_published_then)

  -- the writer that an end leaves: the same but for its medium
  abbrev pub ended : WriterState W → W → WriterState W
  ended w end = record w { medium = end }

  pub recorded_more : (one : Known) (asked : Asked) (answer : Result (Unit {0}) Error)
      (s : WavSpecEx) (file : Begun) (known : List Known) (b c : WriterState W)
      → IsKnown one (call_at asked answer b)
      → (so_far : Recorded kind s file known b)
      → Does kind asked answer b c
      → Recorded kind s file (known ++ one ∷ []) c
  unfolding Recorded
  recorded_more one asked answer s file known b c is so_far does = record {
    first = so_far.first;
    calls = so_far.calls ++ call_at asked answer b ∷ [];
    opens = so_far.opens;
    lead = lead_more so_far.calls asked answer so_far.first b c so_far.lead does;
    are_known = known_more known so_far.calls one (call_at asked answer b) so_far.are_known is;
  }

  -- the spec of a writer is that of its file
  pub recorded_spec : (s : WavSpecEx) (file : Begun) (known : List Known) (w : WriterState W)
      → Recorded kind s file known w → w.spec_ex ≡ s
  unfolding Recorded
  recorded_spec s file known w r = grind (arith, common_steps, lead_spec, opens_spec)

  -- one call for samples more, by their containers in a file of any spec
  pub recorded_write : (one : Asked → Known)
      (wanted : WavSpecEx → Result (List (List ℕ)) Rejection) (answer : Result (Unit {0}) Error)
      (s : WavSpecEx) (file : Begun) (known : List Known) (b c : WriterState W)
      → ((asked : Asked) → IsKnown (one asked) (call_at asked answer b))
      → Recorded kind s file known b
      → Accepts kind (wanted b.spec_ex) answer b c
      → Recorded kind s file (known ++ one (write (wanted s)) ∷ []) c
  recorded_write one wanted answer s file known b c is so_far accepts =
      subst (λ x. Recorded kind s file (known ++ one (write (wanted x)) ∷ []) c)
      (recorded_spec s file known b so_far)
      (recorded_more (one (write (wanted b.spec_ex))) (write (wanted b.spec_ex)) answer s file known
      b c (is (write (wanted b.spec_ex))) so_far accepts)

  pub recorded_flush : (one : Known) (answer : Result (Unit {0}) Error) (s : WavSpecEx)
      (file : Begun) (known : List Known) (b c : WriterState W)
      → IsKnown one (call_at publish answer b) → Recorded kind s file known b
      → Checkpoints kind answer b c
      → Recorded kind s file (known ++ one ∷ []) c
  recorded_flush one answer s file known b c is so_far does =
      recorded_more one publish answer s file known b c is so_far (leaves answer b c does)

  -- the same writer with another memory for batches
  pub recorded_same : (s : WavSpecEx) (file : Begun) (known : List Known) (a b : WriterState W)
      → IsSameFile a b → Recorded kind s file known a
      → Recorded kind s file known b
  unfolding Recorded
  recorded_same s file known a b same r = record {
    first = r.first;
    calls = r.calls;
    opens = r.opens;
    lead = rw (← same_but_memory a b same) (lead_same r.calls r.first a b.batch_memory r.lead);
    are_known = r.are_known;
  }

  -- a writer that has begun a file
  pub recorded_first : (s : WavSpecEx) (file : Begun) (w : WriterState W)
      → Opens kind s file w → Recorded kind s file [] w
  unfolding Recorded
  recorded_first s file w opens =
      record { first = w; calls = []; opens = opens; lead = (w.batch_memory, refl); are_known = tt }

  pub recorded_new : (s : WavSpecEx) (old : MediumState) (w : WriterState W)
      → Begins kind s old w → Recorded kind s (new_file old) [] w
  recorded_new s old w begins = recorded_first s (new_file old) w begins

  pub recorded_append : (old : MediumState) (w : WriterState W) → Appends kind old w
      → WhereTells kind.tells (IsWhole kind.state w)
      → Recorded kind w.spec_ex
      (appended old w.data_start (accepted_samples kind.state w)) [] w
  recorded_append old w appends whole = grind (arith, common_steps, recorded_first)

  pub recorded_appended : {E : Type 0} (Q : E → Type 0) (old : MediumState)
      (r : Result (WriterState W) E) → MatchResult r (Appends kind old) Q
      → MatchResult r (λ w. WhereTells kind.tells (IsWhole kind.state w) → Recorded kind w.spec_ex
      (appended old w.data_start (accepted_samples kind.state w)) [] w) (λ _. ⊤)
  recorded_appended Q old r appends = grind (arith, common_steps, recorded_append)

  -- an end, as the last of the calls
  pub left_by : (one : Known) (answer : Result (Unit {0}) Error) (s : WavSpecEx) (file : Begun)
      (known : List Known) (w : WriterState W) (end : W) → IsKnown one (call_at publish answer w)
      → Finishes kind w answer end
      → Recorded kind s file known w
      → Left kind s file (known ++ one ∷ []) end
  unfolding Left Recorded
  left_by one answer s file known w end is f so_far = record {
    last = ended w end;
    recorded = recorded_more one publish answer s file known w (ended w end) is so_far
        (leaves answer w (ended w end) f);
    is = refl;
  }
