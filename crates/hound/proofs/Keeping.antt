-- What a list of calls of a writer leaves.
use Rattle.std.proofs.lemmas.Grind.{common_steps}
use Rattle.std.proofs.Common.{refl, ◌≡◌, ℕ, ◌+◌, ◌-◌, ◌/◌, ◌≤◌, max, List, [], ◌∷◌, ◌++◌, length, take, drop, Result, IsTrue, sym, ◌∙◌, ap, subst, arith, append_assoc, length-append, length-drop}
use Rattle.std.proofs.lemmas.List.{length-take-le}
use Rattle.std.proofs.lemmas.Nat.{mul-le}
use Rattle.std.proofs.Math.Nat.{div-mul-le_self}
use Rattle.std.specs.List.{concat, AllByRecursion}
use Rattle.std.specs.Io.{StartsWith}
use Rattle.hound_number.specs.{number}
use Rattle.hound_spec.specs.declared.error.Error.{Error}
use Rattle.hound_spec.specs.declared.spec.WavSpecEx.{WavSpecEx}
use Rattle.hound_sample.proofs.Containers.{length-containers}
use Rattle.hound_spec.specs.{canonical, data_start}
use Rattle.hound_spec.proofs.HeaderLemmas.{length-canonical}
use Rattle.hound_medium.specs.{moment, overlay, MediumState, WhereKeeps, WhereTells}
use Rattle.hound_medium.proofs.Overlays.{front_part}
use Rattle.hound_medium.proofs.Spans.{moment_last}
use Rattle.hound_durable.specs.{Ascends, SurvivesLoss}
use Rattle.hound_walk.specs.{Head, IsSoundSpec}
use Rattle.hound_writer.specs.{AreKnown, Ghosts, Begun, Call, Does, Known, Lead, Left, Opens, Recorded, RecordedBy, appended, found_in, handed_in, new_file, publish, start_of, with_memory, Counts, ChangesSizesOnly, field, WriterState, HasHeader, IsBegun, IsCounted, IsPublishing, IsSound, IsWhole, accepted_bytes, accepted_samples, data_length, sample_count}
use Rattle.hound_writer.proofs.Containers.{none_whole, zero_div}
use Rattle.hound_writer.proofs.Fresh.{none_accepted}
use Rattle.hound_writer.proofs.Publishing.{reads_all}
use Rattle.hound_writer.proofs.Heads.{head_inside, head_with}
use Rattle.hound_writer.proofs.Samples.{concat-samples, length-written, length_written}
use Rattle.hound.specs.Headline.{CanonicalAtEnd, HeadAtEach, Holds, HoldsAtEnd, IfBegun, Keeps, Kept, LastsToEnd, NoFault, Promises, SaidByFlushes, SaysFrames, SurvivesAtEnd, accepted_by_all, begins_at}
use Rattle.hound.proofs.Calling.{Went, begin, counted, front_stays, in_order, lead_join, length-concat-append, made, stays_flushed, stored, went}
use Rattle.hound.proofs.Later.{no_fault_parts, same_moment}
use Rattle.hound_writer.proofs.Answers.{all_marked, where_marked}
use Rattle.hound.proofs.Losing.{moments_grow}
use Rattle.hound.proofs.PowerLoss.{after_losses, wide_containers}
use Rattle.hound.proofs.Lengths.{front_in_writes, mixed, never_less, old_or_new, published}

-- its accepted samples, joined, have the length that it counts
pub sized : {M : Type 0} (state : M → MediumState) (w : WriterState M) → IsSound w → w.buffered ≡ []
    → IsWhole state w → length (concat (accepted_samples state w)) ≡ data_length w
sized state w sound none whole =
    grind (arith, common_steps, concat-samples, length-take-le, length-drop, length_written)

-- the result of a call that publishes says whether so many samples are whole frames
says_frames : {M : Type 0} (answer : Result (Unit {0}) Error) (w : WriterState M) (s : WavSpecEx)
    (list : List (List ℕ)) → w.spec_ex ≡ s → sample_count w ≡ length list → IsPublishing answer w
    → SaysFrames s list answer
says_frames answer w s list spec count is = grind (arith, common_steps)

if_begun_then : {P Q : Type 0} (s : WavSpecEx) (file : Begun) → IfBegun s file P → (P → Q) → IfBegun s file Q
if_begun_then s file here on = grind (arith, common_steps)

-- What the first writer of a file has, as its constructor returned it.
pub record First {W : Type 0} (kind : Ghosts W) (s : WavSpecEx) (file : Begun) (first : WriterState W) : Type 0 where
  pub sound : IsSound first
  pub none_buffered : first.buffered ≡ []
  pub sound_spec : IsSoundSpec s
  pub spec : first.spec_ex ≡ s
  pub start : first.data_start ≡ start_of s file
  pub whole : IsTrue kind.tells → IsWhole kind.state first
  pub found : IsTrue kind.tells → accepted_samples kind.state first ≡ found_in file
  pub counts : IsTrue kind.tells → IsCounted kind.state first
  pub head : IsTrue kind.tells → (len : ℕ) × Head (kind.state first.medium).contents first.spec_ex len first.data_start
  pub begun : IsTrue kind.tells → IfBegun s file (IsBegun kind.state first)
  pub faults : IsTrue kind.tells → (kind.state first.medium).faults ≡ (handed_in file).faults
  pub reach : IsTrue kind.tells → length (kind.state first.medium).contents
      ≤ max (length (handed_in file).contents) first.data_start

module _ {W : Type 0} (kind : Ghosts W) where
  pub first_of : (s : WavSpecEx) (file : Begun) (first : WriterState W)
      → Opens kind s file first → First kind s file first
  first_of s (new_file old) first begins =
      let b = begins.begun in
      let none = none_accepted kind.state first b.sound b.none_buffered b.none_out in
      record {
        sound = b.sound;
        none_buffered = b.none_buffered;
        sound_spec = (
          omega (arith, b.sound.channels, ap (λ (x : WavSpecEx). x.spec.channels) b.spec),
          omega (arith, b.sound.width, ap (λ (x : WavSpecEx). x.bytes_per_sample) b.spec),
          b.writable.align,
        );
        spec = b.spec;
        start = b.start;
        whole = λ modelled. (begins.file modelled).whole;
        found = λ modelled. none;
        counts = λ modelled. (begins.file modelled).counts;
        head = grind (arith, common_steps, mul-le, none_whole, zero_div, reads_all);
        begun = λ modelled. ((begins.file modelled).header, b.start ∙ ap data_start (sym b.spec));
        faults = λ modelled. (begins.file modelled).faults;
        reach = λ modelled. (begins.file modelled).reach;
      }
  first_of s (appended old start found) first opens =
      let a = opens.appends in
      record {
        sound = a.sound;
        none_buffered = a.none_buffered;
        sound_spec = subst IsSoundSpec opens.spec_is a.sound_spec;
        spec = opens.spec_is;
        start = opens.start_is;
        whole = opens.whole;
        found = opens.found_is;
        counts = λ modelled. (a.file modelled).counts (opens.whole modelled);
        head = λ modelled. let f = a.file modelled in (
          data_length first,
          subst (λ c. Head c first.spec_ex (data_length first) first.data_start) (sym f.puts.stays.contents) f.head,
        );
        begun = λ modelled at header. (
          subst (λ (x : WavSpecEx × List ℕ). HasHeader x.0 x.1)
              (λ i. (sym opens.spec_is i, sym (a.file modelled).puts.stays.contents i)) header,
          opens.start_is ∙ at ∙ ap data_start (sym opens.spec_is),
        );
        faults = λ modelled. (a.file modelled).faults;
        reach = λ modelled. omega (arith, ap length (a.file modelled).puts.stays.contents);
      }

  -- what calls leave that were made from a first writer on
  module _ (s : WavSpecEx) (file : Begun) (calls : List Call) (first last : WriterState W)
      (is_first : First kind s file first)
      (lead : Lead kind calls first last) (modelled : IsTrue kind.tells) where
    abbrev whole : IsWhole kind.state first
    whole = is_first.whole modelled

    beyond : 4 ≤ first.data_start
    beyond = omega (arith, is_first.sound.after_head)

    abbrev l : Went kind modelled (accepted_by_all calls) first last
    l = went kind modelled calls first last lead

    -- the accepted samples all have the width of the spec
    pub all_wide : AllByRecursion (λ c. length c ≡ first.spec_ex.bytes_per_sample)
        (accepted_samples kind.state first ++ accepted_by_all calls)
    all_wide =
        let w = last.spec_ex.bytes_per_sample in
        let bytes = accepted_bytes kind.state last in
        let held = take last.bytes_written (drop last.data_start (kind.state last.medium).contents) in
        let size : length bytes ≡ data_length last = length-append held last.buffered
        ∙ ap (λ n. n + length last.buffered) (length-written kind.state last (l.whole whole)) in
        subst (λ (x : ℕ × List (List ℕ)). AllByRecursion (λ c. length c ≡ x.0) x.1)
        (λ i. ((l.spec_ex i).bytes_per_sample, l.accepted whole i))
        (wide_containers w (data_length last / w) bytes (omega (arith, size, div-mul-le_self (data_length last) w)))

    -- an end that published leaves the canonical file
    pub canonical_at_end : IsBegun kind.state first
        → CanonicalAtEnd first.spec_ex first.data_start (accepted_samples kind.state first) calls
        (kind.state last.medium)
    canonical_at_end begun before end same has_all =
        let m = made kind modelled calls before [] end first last same lead in
        let w = m.earlier in
        let does : Does kind publish end.answer (with_memory m.mid m.memory) m.next =
        subst (λ a. Does kind a end.answer (with_memory m.mid m.memory) m.next) has_all.0 m.does in
        let file : StartsWith (kind.state m.next.medium).contents
        (canonical m.mid.spec_ex (accepted_samples kind.state m.mid)) =
        where_marked end.answer has_all.1 ((does.publishes modelled).canonical (w.whole whole) (w.begun begun)) in
        subst (λ (x : List ℕ × (WavSpecEx × List (List ℕ))). StartsWith x.0 (canonical x.1.0 x.1.1))
        (λ i. (
          ap (λ (l : WriterState W). (kind.state l.medium).contents) (sym m.rest.1) i,
          (w.spec_ex i, w.accepted whole i),
        )) file

    -- what a flush has published stays counted while samples are written
    lasts_to_end : LastsToEnd first.spec_ex first.data_start (accepted_samples kind.state first) calls
        (kind.state last.medium)
    lasts_to_end before later flush same has_all only =
        let m = made kind modelled calls before later flush first last same lead in
        let does = subst (λ a. Does kind a flush.answer (with_memory m.mid m.memory) m.next) has_all.0 m.does in
        let n = m.next.data_start in
        let start : n ≡ first.data_start = m.here.data_start ∙ m.earlier.data_start in
        ap (λ k. field (k - 4) (kind.state last.medium).contents) (sym start)
        ∙ ap number (front_part n (n - 4) 4 (kind.state last.medium).contents (kind.state m.next.medium).contents
        (omega (arith, start, beyond))
        (front_stays kind modelled later m.next last m.rest only))
        ∙ ap (λ k. field (k - 4) (kind.state m.next.medium).contents) m.here.data_start
        ∙ where_marked flush.answer has_all.1 (does.publishes modelled).length_says
        ∙ omega (
          arith,
          m.earlier.size,
          sized kind.state first is_first.sound is_first.none_buffered whole,
          length-concat-append (accepted_samples kind.state first) (accepted_by_all before),
        )

    -- its result says whether there were whole frames
    said_by_flushes : SaidByFlushes first.spec_ex first.data_start (accepted_samples kind.state first) calls
        (kind.state last.medium)
    said_by_flushes before after flush same asked =
        let m = made kind modelled calls before after flush first last same lead in
        let w = m.earlier in
        let does = subst (λ a. Does kind a flush.answer (with_memory m.mid m.memory) m.next) asked m.does in
        let count = length-containers m.mid.spec_ex.bytes_per_sample (sample_count m.mid)
        (accepted_bytes kind.state m.mid) in
        says_frames flush.answer (with_memory m.mid m.memory) first.spec_ex
        (accepted_samples kind.state first ++ accepted_by_all before) w.spec_ex
        (sym count ∙ ap length (w.accepted whole)) does.answers

    -- and if no call of the medium failed, an end leaves exactly that
    exact_at_end : IsBegun kind.state first → NoFault (kind.state first.medium) (kind.state last.medium)
        → (before : List Call) (end : Call) → calls ≡ before ++ (end ∷ []) → end.asked ≡ publish
        → let list = canonical first.spec_ex
        (accepted_samples kind.state first ++ accepted_by_all before) in
        StartsWith (kind.state last.medium).contents list
        × (length (kind.state last.medium).contents ≤ max (length (handed_in file).contents) (length list))
    exact_at_end begun none before end same asked =
        let m = made kind modelled calls before [] end first last same lead in
        let w = m.earlier in
        let does : Does kind publish end.answer (with_memory m.mid m.memory) m.next =
        subst (λ a. Does kind a end.answer (with_memory m.mid m.memory) m.next) asked m.does in
        let parts = no_fault_parts (kind.state first.medium) (kind.state m.mid.medium) (kind.state m.next.medium)
        w.faults m.here.faults
        (subst (λ (x : WriterState W). NoFault (kind.state first.medium) (kind.state x.medium)) m.rest.1 none) in
        let marked = all_marked end.answer (with_memory m.mid m.memory) (kind.state m.mid.medium).faults parts.1.1
        (sym (does.publishes modelled).faults ∙ parts.1.0) does.answers in
        let found = accepted_samples kind.state first in (
          canonical_at_end begun before end same (asked, marked),
          omega (
            arith,
            l.reach none,
            is_first.reach modelled,
            l.data_start,
            begun.1,
            ap data_length m.rest.1,
            does.samples.data_length,
            w.size,
            sized kind.state first is_first.sound is_first.none_buffered whole,
            length-canonical first.spec_ex (found ++ accepted_by_all before),
            length-concat-append found (accepted_by_all before),
          ),
        )

    -- what it counts at the end
    pub counts_at_end : Counts first.spec_ex first.data_start
        (accepted_samples kind.state first ++ accepted_by_all calls) (kind.state last.medium).contents
    counts_at_end =
        subst (λ (x : WavSpecEx × (ℕ × List (List ℕ))). Counts x.0 x.1.0 x.1.1 (kind.state last.medium).contents)
        (λ i. (l.spec_ex i, (l.data_start i, l.accepted whole i)))
        (l.counts whole (is_first.counts modelled))

    module _ (kept : IsTrue kind.keeps)
        (replays : (m : W) → (kind.state m).contents ≡ overlay (kind.state m).start (kind.state m).past) where
      abbrev end : MediumState
      end = kind.state last.medium

      -- in each state only the two sizes of the header have changed, and it is all there
      fronts : (k : ℕ) → begins_at calls end.past ≤ k → k ≤ length end.past
          → ChangesSizesOnly first.data_start (kind.state first.medium).contents
          (moment end.start end.past k)
          × (first.data_start ≤ length (moment end.start end.past k))
      fronts k from to =
          let base = kind.state first.medium in
          let begins = begin kind modelled calls first last lead in
          let since : length base.past ≤ k = omega (arith, from, begins) in
          let same : moment end.start end.past (length base.past) ≡ base.contents =
          sym (same_moment base end (length base.past) (l.later kept whole) (omega arith))
          ∙ moment_last base (replays first.medium) in
          let head = is_first.head modelled in (
            l.sizes kept replays beyond whole k since to,
            omega (
              arith,
              head_inside base.contents first.spec_ex head.0 first.data_start head.1,
              ap length same,
              moments_grow end.start end.past (length base.past) k since,
            ),
          )

      -- so it has the head of its spec
      head_at_each : HeadAtEach first.spec_ex first.data_start (accepted_samples kind.state first) calls end
      head_at_each k from to =
          let f = fronts k from to in
          let head = is_first.head modelled in
          head_with (kind.state first.medium).contents first.spec_ex head.0 first.data_start head.1
          (moment end.start end.past k) f.1 f.0.front f.0.middle

      pub promised : Promises first.spec_ex first.data_start (accepted_samples kind.state first) calls end
      promised =
          let h = first.data_start in
          let list = accepted_samples kind.state first in
          let size : length (concat list) ≡ data_length first =
          sized kind.state first is_first.sound is_first.none_buffered whole in
          let head = is_first.head modelled in
          let tall = head_inside (kind.state first.medium).contents first.spec_ex head.0 h head.1 in
          let counts = counted kind modelled kept calls first last lead whole in
          let at_most = stored kind modelled kept calls first last lead whole in
          let order = in_order kind modelled kept calls first last lead whole in
          let never = never_less kind modelled kept replays calls first last lead beyond whole size in
          let flushes = stays_flushed kind modelled kept calls first last lead whole in
          let losses = after_losses first.spec_ex h head.0 list calls end
          (kind.state first.medium).contents is_first.sound.width counts at_most order
          (λ k from to. (fronts k from to).0) (λ k from to. (fronts k from to).1) head.1 tall all_wide never flushes in
          record {
            counted = counts;
            head = head_at_each;
            front = λ k m from along to. let a = (fronts k from (omega (arith, along, to))).0 in
                let b = (fronts m (omega (arith, from, along)) to).0 in
                record { front = b.front ∙ sym a.front; middle = b.middle ∙ sym a.middle };
            front_in_writes = front_in_writes kind modelled kept replays calls first last lead beyond whole size;
            mixed = mixed kind modelled kept replays calls first last lead beyond whole size;
            old_or_new = old_or_new kind modelled kept replays calls first last lead beyond whole size;
            published = published kind modelled kept replays calls first last lead beyond whole size;
            never_less = never;
            flushed = flushes;
            stored = at_most;
            now = moment_last end (replays last.medium);
            in_order = order;
            after_loss = losses.0;
            kept_after_loss = losses.1;
          }

    -- what holds of the writer's values holds of the file's
    of_file : (P : WavSpecEx → ℕ → List (List ℕ) → Type 0)
        → P first.spec_ex first.data_start (accepted_samples kind.state first)
        → P s (start_of s file) (found_in file)
    of_file P here = grind (arith, common_steps)

    pub holds_at_end : HoldsAtEnd s file calls (kind.state last.medium)
    holds_at_end =
        let m = kind.state last.medium in record {
          sound = is_first.sound_spec;
          wide = of_file (λ s start found. AllByRecursion (λ c. length c ≡ s.bytes_per_sample)
              (found ++ accepted_by_all calls)) all_wide;
          counts = of_file (λ s start found. Counts s start (found ++ accepted_by_all calls) m.contents) counts_at_end;
          lasts = of_file (λ s start found. LastsToEnd s start found calls m) lasts_to_end;
          says = of_file (λ s start found. SaidByFlushes s start found calls m) said_by_flushes;
          exact = if_begun_then s file (is_first.begun modelled) (λ begun (none, small) before end same asked.
              let faults = is_first.faults modelled in
              of_file (λ s start found.
              let list = canonical s (found ++ accepted_by_all before) in
              StartsWith m.contents list
              × (length m.contents ≤ max (length (handed_in file).contents) (length list)))
              (exact_at_end begun (none ∙ sym faults, omega (arith, faults, small)) before end same asked));
          canonical = if_begun_then s file (is_first.begun modelled) (λ begun.
              of_file (λ s start found. CanonicalAtEnd s start found calls m)
              (canonical_at_end begun));
        }

    pub keeps_promises : IsTrue kind.keeps
        → ((m : W) → (kind.state m).contents ≡ overlay (kind.state m).start (kind.state m).past)
        → Promises s (start_of s file) (found_in file) calls (kind.state last.medium)
    keeps_promises kept replays = grind (arith, common_steps, of_file, promised)

  -- what a writer left holds what its calls promise
  pub left_holds : (s : WavSpecEx) (file : Begun) (known : List Known) (medium : W) → Left kind s file known medium
      → WhereTells kind.tells (Holds kind s file known medium)
  unfolding Left
  left_holds s file known medium left modelled =
      let r = left.recorded in
      record {
        left = left;
        at_end = subst (λ m. HoldsAtEnd s file r.calls (kind.state m))
            (sym left.is) (holds_at_end s file r.calls r.first left.last (first_of s file r.first r.opens) r.lead
            modelled);
      }

  pub left_so_far : (s : WavSpecEx) (file : Begun) (known : List Known) (w : WriterState W)
      → Recorded kind s file known w → Left kind s file known w.medium
  unfolding Recorded Left
  left_so_far s file known w recorded = record { last = w; recorded = recorded; is = refl }

  -- a writer holds what the calls accepted that led to it
  pub accepts_calls : IsTrue kind.tells → (s : WavSpecEx) (file : Begun) (known : List Known)
      (w : WriterState W) → (r : RecordedBy kind s file known w) →
      accepted_samples kind.state w ≡ found_in file ++ accepted_by_all r.calls
  accepts_calls modelled s file known w r =
      let first = first_of s file r.first r.opens in
      (went kind modelled r.calls r.first w r.lead).accepted (first.whole modelled)
      ∙ ap (λ l. l ++ accepted_by_all r.calls) (first.found modelled)

  -- and a writer is of its file, and holds what its calls accepted
  pub holds_calls : IsTrue kind.tells → (s : WavSpecEx) (file : Begun) (known : List Known)
      (w : WriterState W) → Recorded kind s file known w →
      (w.spec_ex ≡ s) × (w.data_start ≡ start_of s file) × IsWhole kind.state w
      × ((calls : List Call) × AreKnown known calls
      × (accepted_samples kind.state w ≡ found_in file ++ accepted_by_all calls)
      × (sample_count w ≡ length (found_in file ++ accepted_by_all calls)))
  unfolding Recorded
  holds_calls modelled s file known w r =
      let first = first_of s file r.first r.opens in
      let went = went kind modelled r.calls r.first w r.lead in
      let here = accepts_calls modelled s file known w r in
      let count = length-containers w.spec_ex.bytes_per_sample (sample_count w) (accepted_bytes kind.state w) in
      grind (arith, common_steps, went)

  pub left_kept : ((m : W)
      → WhereKeeps kind.tells kind.keeps ((kind.state m).contents ≡ overlay (kind.state m).start (kind.state m).past))
      → (s : WavSpecEx) (file : Begun) (known : List Known) (medium : W)
      → Left kind s file known medium
      → WhereKeeps kind.tells kind.keeps (Kept kind s file known medium)
  unfolding Left
  left_kept replays s file known medium left modelled kept =
      let r = left.recorded in
      let first = first_of s file r.first r.opens in
      record {
        left = left;
        promised = subst (λ m. Keeps s file r.calls (kind.state m)) (sym left.is) (record {
          at_end = holds_at_end s file r.calls r.first left.last first r.lead modelled;
          promises = keeps_promises s file r.calls r.first left.last first r.lead modelled kept
              (λ m. replays m modelled kept);
        });
      }

  -- further calls keep what all of them promise
  pub kept_on : ((m : W)
      → WhereKeeps kind.tells kind.keeps ((kind.state m).contents ≡ overlay (kind.state m).start (kind.state m).past))
      → (s : WavSpecEx) (file : Begun) (known : List Known) (mid w : WriterState W) (later : List Call)
      → Recorded kind s file known mid → Lead kind later mid w
      → WhereKeeps kind.tells kind.keeps ((calls : List Call) × AreKnown known calls
      × (accepted_samples kind.state mid ≡ found_in file ++ accepted_by_all calls)
      × Keeps s file (calls ++ later) (kind.state w.medium))
  unfolding Recorded
  kept_on replays s file known mid w later r lead modelled kept =
      let first = first_of s file r.first r.opens in
      let all = lead_join kind r.calls later r.first mid w r.lead lead in (
        r.calls,
        r.are_known,
        accepts_calls modelled s file known mid r,
        record {
          at_end = holds_at_end s file (r.calls ++ later) r.first w first all modelled;
          promises = keeps_promises s file (r.calls ++ later) r.first w first all modelled kept
              (λ m. replays m modelled kept);
        },
      )

  -- an append leaves what is before its data
  pub front_left : IsTrue kind.tells → (s : WavSpecEx) (old : MediumState) (start : ℕ)
      (found : List (List ℕ)) (known : List Known) (medium : W)
      → Left kind s (appended old start found) known medium
      → ChangesSizesOnly start old.contents (kind.state medium).contents
  unfolding Left
  front_left modelled s old start found known medium left =
      let r = left.recorded in
      let a = r.opens.appends in
      subst (λ (x : ℕ × (List ℕ × List ℕ)). ChangesSizesOnly x.0 x.1.0 x.1.1)
      (λ i. (
        r.opens.start_is i,
        ((a.file modelled).puts.stays.contents i, ap (λ m. (kind.state m).contents) (sym left.is) i),
      ))
      ((went kind modelled r.calls r.first left.last r.lead).front (omega (arith, a.sound.after_head)))

-- What survives in a medium of this past that was flushed up to f, no earlier than the flushes of these calls did, and
-- then wrote bytes at ascending places only, if what a loss leaves counts.
pub survives_counted : (s : WavSpecEx) (start : ℕ) (found : List (List ℕ)) (calls : List Call)
    (medium : MediumState) (f n : ℕ) → Promises s start found calls medium
    → medium.flushed ≤ f → f ≤ length medium.past → Ascends medium.past f (length medium.past)
    → (begins_at calls medium.past ≤ f → (sector : ℕ) (contents : List ℕ) → 1 ≤ sector
    → (start - 4) / sector ≡ (start - 1) / sector
    → SurvivesLoss sector medium.start medium.past f (length medium.past) contents
    → Counts s start (found ++ accepted_by_all calls) contents)
    → SurvivesAtEnd s start found calls (record medium { flushed = f; faults = n })
survives_counted s start found calls medium f n p later within ascends counts = record {
  header = λ front after flush at has_all. let parts = at ∙ sym (append_assoc front (flush ∷ []) after) in
      omega (
        arith,
        p.flushed front after flush at has_all,
        later,
        (p.in_order [] (front ++ (flush ∷ [])) after parts).0,
        ap (λ l. begins_at l medium.past) parts,
      );
  after_loss = λ begun sector contents some one lost. (
    counts begun sector contents some one lost,
    p.kept_after_loss f sector contents begun later within ascends some one lost,
  );
}
