-- What calls lead to, in each state.
use Rattle.std.proofs.lemmas.Grind.{common_steps}
use Rattle.std.proofs.Common.{◌≡◌, ℕ, ◌+◌, ◌%◌, ◌<◌, ◌≤◌, max, List, [], ◌∷◌, ◌++◌, length, take, Result, IsTrue, refl, sym, ◌∙◌, ap, subst, arith, inl, inr, append_assoc, length-append}
use Rattle.std.proofs.lemmas.Bool.{cases_lt}
use Rattle.std.proofs.lemmas.List.{append-nil}
use Rattle.std.specs.List.{AllByRecursion, concat}
use Rattle.hound_spec.specs.declared.error.Error.{Error}
use Rattle.hound_spec.specs.{data_start}
use Rattle.hound_medium.specs.{moment, overlay, Span}
use Rattle.hound_medium.proofs.Spans.{moment_last}
use Rattle.hound_writer.specs.{Ghosts, UnlessFailed, faults_reported, mark_of, IsStored, StaysStored, Asked, Call, Does, Lead, publish, write, with_memory, Counts, ChangesSizesOnly, WriterState, HasHeader, IsBegun, IsCounted, IsWhole, accepted_samples, data_length, padded_end}
use Rattle.hound_writer.proofs.Answers.{unless_failed, unless_then, where_marked}
use Rattle.hound_writer.proofs.Fresh.{begun_front}
use Rattle.hound_writer.proofs.Sizes.{sizes_front, sizes_then, take_front}
use Rattle.hound_writer.proofs.Storing.{stored_fewer, stored_join}
use Rattle.hound.specs.Headline.{BeginInOrder, CountedAtEach, FlushedByFlushes, NoFault, StoredAtEach, accepted_by_all, accepted_of, begins_at}
use Rattle.hound_repair.proofs.Joining.{concat-append}
use Rattle.hound.proofs.Later.{FaultsGrow, grow_then, grows_reported, no_fault_parts, Later, later_still, later_then, longer, same_moment, span_later}

pub length-concat-append : (xs ys : List (List ℕ))
    → length (concat (xs ++ ys)) ≡ length (concat xs) + length (concat ys)
length-concat-append xs ys = ap length (concat-append xs ys) ∙ length-append (concat xs) (concat ys)

-- before the data only the two sizes changed
sizes_still : (start : ℕ) (c : List ℕ) → ChangesSizesOnly start c c
sizes_still start c = record { front = refl; middle = refl }

-- a list that has a last element
pub last_of : {V : Type 0} (list : List V) → 0 < length list
    → (first : List V) × (last : V) × (list ≡ first ++ last ∷ [])
last_of [] some = absurd (omega (arith, some))
last_of (one ∷ []) some = ([], one, refl)
last_of (one ∷ two ∷ list) some =
    let (first, last, parts) = last_of (two ∷ list) (omega arith) in
    (one ∷ first, last, ap (λ l. one ∷ l) parts)

module _ {W : Type 0} (kind : Ghosts W) where
  -- calls that go on where others ended
  pub lead_join : (first later : List Call) (a b c : WriterState W) → Lead kind first a b
      → Lead kind later b c → Lead kind (first ++ later) a c
  lead_join [] [] a b c (memory, is) (other, then) =
      (other, then ∙ ap (λ (w : WriterState W). with_memory w other) is)
  lead_join [] (call ∷ later) a b c (memory, is) (other, mid, at, does, rest) = (
    other,
    mid,
    at ∙ ap (λ (w : WriterState W). length (kind.state w.medium).past) is,
    subst (λ (w : WriterState W). Does kind call.asked call.answer (with_memory w other) mid) is does,
    rest,
  )
  lead_join (call ∷ first) later a b c (memory, mid, at, does, rest) then =
      (memory, mid, at, does, lead_join first later mid b c rest then)

  -- they began where the writer was then
  pub lead_begins : (later : List Call) (b c : WriterState W) → Lead kind later b c
      → begins_at later (kind.state c.medium).past ≡ length (kind.state b.medium).past
  lead_begins later b c given = grind (arith, common_steps)

module _ {W : Type 0} (kind : Ghosts W) (modelled : IsTrue kind.tells) where
  -- what calls that accepted these led to
  pub record Went (list : List (List ℕ)) (old new : WriterState W) : Type 0 where
    pub spec_ex : new.spec_ex ≡ old.spec_ex
    pub data_start : new.data_start ≡ old.data_start
    pub size : data_length new ≡ data_length old + length (concat list)
    pub front : 4 ≤ old.data_start
        → ChangesSizesOnly old.data_start (kind.state old.medium).contents (kind.state new.medium).contents
    pub begun : IsBegun kind.state old → IsBegun kind.state new
    pub whole : IsWhole kind.state old → IsWhole kind.state new
    pub accepted : IsWhole kind.state old → accepted_samples kind.state new ≡ accepted_samples kind.state old ++ list
    pub counts : IsWhole kind.state old → IsCounted kind.state old → IsCounted kind.state new
    pub faults : FaultsGrow (kind.state old.medium) (kind.state new.medium)
    pub reach : NoFault (kind.state old.medium) (kind.state new.medium)
        → length (kind.state new.medium).contents ≤ max (length (kind.state old.medium).contents)
        (padded_end new)
    pub later : IsTrue kind.keeps → IsWhole kind.state old → Later (kind.state old.medium) (kind.state new.medium)
    pub sizes : IsTrue kind.keeps
        → ((m : W) → (kind.state m).contents ≡ overlay (kind.state m).start (kind.state m).past)
        → 4 ≤ old.data_start → IsWhole kind.state old
        → (k : ℕ) → length (kind.state old.medium).past ≤ k → k ≤ length (kind.state new.medium).past
        → ChangesSizesOnly old.data_start (kind.state old.medium).contents
        (moment (kind.state new.medium).start (kind.state new.medium).past k)
    pub stored : IsTrue kind.keeps → IsWhole kind.state old
        → StaysStored old.data_start (concat (accepted_samples kind.state old)) (kind.state old.medium)
        (kind.state new.medium)

  pub went_still : (w : WriterState W) (memory : List ℕ) → Went [] w (with_memory w memory)
  went_still w memory = grind (arith, common_steps, sizes_still, append-nil, later_still, moment_last)

  pub went_then : (l m : List (List ℕ)) (a b c : WriterState W) → Went l a b → Went m b c → Went (l ++ m) a c
  went_then l m a b c first then = record {
    spec_ex = then.spec_ex ∙ first.spec_ex;
    data_start = then.data_start ∙ first.data_start;
    size = omega (arith, first.size, then.size, length-concat-append l m);
    front = grind (arith, common_steps, sizes_then);
    begun = λ begun. then.begun (first.begun begun);
    whole = λ whole. then.whole (first.whole whole);
    accepted = λ whole. then.accepted (first.whole whole) ∙ ap (λ (x : List (List ℕ)). x ++ m) (first.accepted whole)
        ∙ append_assoc (accepted_samples kind.state a) l m;
    counts = λ whole counts. then.counts (first.whole whole) (first.counts whole counts);
    faults = grow_then (kind.state a.medium) (kind.state b.medium) (kind.state c.medium) first.faults then.faults;
    reach = λ none.
        let parts = no_fault_parts (kind.state a.medium) (kind.state b.medium) (kind.state c.medium) first.faults
        then.faults none in
        omega (arith, first.reach parts.0, then.reach parts.1, then.data_start, then.size);
    later = λ kept whole. later_then (kind.state a.medium) (kind.state b.medium) (kind.state c.medium)
        (first.later kept whole) (then.later kept (first.whole whole));
    sizes = λ kept replays beyond whole k from to. let h = a.data_start in
        let base = (kind.state a.medium).contents in
        let there = first.whole whole in
        let end = kind.state c.medium in
        let now = moment end.start end.past k in
        elim (cases_lt (length (kind.state b.medium).past) k) [
          | inr within ↦ subst (ChangesSizesOnly h base)
              (same_moment (kind.state b.medium) end k (then.later kept there) within)
              (first.sizes kept replays beyond whole k from within)
          | inl after ↦ sizes_then h base (kind.state b.medium).contents now (first.front beyond)
              (subst (λ n. ChangesSizesOnly n (kind.state b.medium).contents now) first.data_start
              (then.sizes kept replays (omega (arith, beyond, first.data_start)) there k (omega (arith, after)) to))
        ];
    stored = λ kept whole. let list = accepted_samples kind.state a in
        let there = first.whole whole in
        let one = first.later kept whole in
        let two = then.later kept there in
        let bytes : concat (accepted_samples kind.state b) ≡ concat list ++ concat l =
        ap concat (first.accepted whole) ∙ concat-append list l in
        stored_join a.data_start (concat list) (kind.state a.medium) (kind.state b.medium) (kind.state c.medium)
        one.added two.added one.past two.start two.past (first.stored kept whole)
        (stored_fewer a.data_start (concat list) (concat l) (kind.state b.medium) (kind.state c.medium)
        (subst (λ (x : ℕ × List ℕ). StaysStored x.0 x.1 (kind.state b.medium) (kind.state c.medium))
        (λ j. (first.data_start j, bytes j)) (then.stored kept there)));
  }

  -- one call
  module _ (answer : Result (Unit {0}) Error) (memory : List ℕ) (old new : WriterState W) where
    abbrev Did : Asked → Type 0
    Did asked = Does kind asked answer (with_memory old memory) new

    -- its faults are counted
    pub call_faults : (asked : Asked) → Did asked
        → (kind.state new.medium).faults ≡ faults_reported answer (kind.state old.medium).faults
    call_faults (write containers) a = (a.file modelled).faults
    call_faults publish c = (c.publishes modelled).faults

    -- and unless it met one, the contents end no later than before, or at the end of the data
    pub call_reach : (asked : Asked) → Did asked → UnlessFailed answer (length (kind.state new.medium).contents
        ≤ max (length (kind.state old.medium).contents) (padded_end new))
    call_reach (write containers) a =
        unless_then answer (λ le. omega (arith, le)) (a.file modelled).reach
    call_reach publish c =
        unless_failed answer
        (omega (
          arith,
          (c.publishes modelled).reach,
          c.samples.data_start,
          c.samples.data_length,
          ap (λ n. n % 2) c.samples.data_length,
        ))

    call_reached : (asked : Asked) → Did asked → NoFault (kind.state old.medium) (kind.state new.medium)
        → length (kind.state new.medium).contents ≤ max (length (kind.state old.medium).contents)
        (padded_end new)
    call_reached asked does (same, small) = grind (arith, common_steps)

    -- what was accepted before counts in each of its states
    pub call_span : IsTrue kind.keeps → (asked : Asked) → Did asked → IsWhole kind.state old
        → Span (λ _. Counts old.spec_ex old.data_start (accepted_samples kind.state old)) 0
        (kind.state old.medium) (kind.state new.medium)
    call_span kept (write containers) a whole = (a.moments modelled kept).counts whole
    call_span kept publish c whole = (c.moments modelled kept).counts whole

    call_later : (asked : Asked) → Did asked → IsTrue kind.keeps → IsWhole kind.state old
        → Later (kind.state old.medium) (kind.state new.medium)
    call_later asked does kept whole =
        span_later _ 0 (kind.state old.medium) (kind.state new.medium) (call_span kept asked does whole)

    pub call_went : (asked : Asked) → Did asked → Went (accepted_of asked (mark_of answer)) old new
    call_went (write containers) a = record {
      spec_ex = a.adds.spec_ex;
      data_start = a.adds.data_start;
      size = a.adds.data_length;
      front = λ beyond. sizes_front old.data_start (kind.state old.medium).contents
          (kind.state new.medium).contents beyond (a.file modelled).front;
      begun = begun_front kind.state old new a.adds.spec_ex a.adds.data_start (a.file modelled).front;
      whole = (a.file modelled).whole;
      accepted = (a.file modelled).accepted;
      counts = λ whole _. (a.file modelled).counts whole;
      faults = grows_reported answer (kind.state old.medium) (kind.state new.medium) (a.file modelled).faults;
      reach = call_reached (write containers) a;
      later = call_later (write containers) a;
      sizes = λ kept replays beyond whole k from to.
          let c = moment (kind.state new.medium).start (kind.state new.medium).past k in
          sizes_front old.data_start (kind.state old.medium).contents c beyond
          (take_front old.data_start (old.data_start + old.bytes_written) (kind.state old.medium).contents c
          (omega arith) (((a.moments modelled kept).front whole).each k from to));
      stored = λ kept whole. (a.moments modelled kept).stored whole;
    }
    call_went publish c = record {
      spec_ex = c.samples.spec_ex;
      data_start = c.samples.data_start;
      size = omega (arith, c.samples.data_length);
      front = λ _. (c.publishes modelled).front;
      begun = λ (header, at). (
        subst (λ s. HasHeader s (kind.state new.medium).contents) (sym c.samples.spec_ex)
            ((c.publishes modelled).begun (header, at)),
        c.samples.data_start ∙ at ∙ ap data_start (sym c.samples.spec_ex),
      );
      whole = c.whole modelled;
      accepted = λ whole. c.accepted modelled whole ∙ sym (append-nil (accepted_samples kind.state old));
      counts = λ whole _. subst (λ (x : _ × (ℕ × List (List ℕ))).
          Counts x.0 x.1.0 x.1.1 (kind.state new.medium).contents)
          (λ i. (
            sym c.samples.spec_ex i,
            (sym c.samples.data_start i, sym (c.accepted modelled whole) i),
          )) ((c.publishes modelled).counts whole);
      faults = grows_reported answer (kind.state old.medium) (kind.state new.medium) (c.publishes modelled).faults;
      reach = call_reached publish c;
      later = call_later publish c;
      sizes = λ kept replays beyond whole k from to. ((c.moments modelled kept).half.each k from to).front;
      stored = λ kept whole. (c.moments modelled kept).stored whole;
    }

  pub went : (calls : List Call) (old new : WriterState W) → Lead kind calls old new
      → Went (accepted_by_all calls) old new
  went [] old new (memory, same) = subst (Went [] old) (sym same) (went_still old memory)
  went (call ∷ calls) old new (memory, mid, at, does, rest) =
      went_then (accepted_of call.asked (mark_of call.answer)) (accepted_by_all calls) old mid new
      (call_went call.answer memory old mid call.asked does) (went calls mid new rest)

  -- the first calls of a list led to where the others began
  pub lead_parts : (before after : List Call) (old new : WriterState W) → Lead kind (before ++ after) old new
      → (mid : WriterState W) × Lead kind before old mid
      × Lead kind after mid new
  lead_parts [] after old new lead = (old, (old.batch_memory, refl), lead)
  lead_parts (call ∷ before) after old new (memory, mid, at, does, rest) =
      let parts = lead_parts before after mid new rest in
      (parts.0, (memory, mid, at, does, parts.1), parts.2)

  -- a call of a list, between those before it and those after it
  pub record Made (before after : List Call) (call : Call) (old new : WriterState W) : Type 0 where
    pub memory : List ℕ
    pub mid : WriterState W
    pub next : WriterState W
    pub earlier : Went (accepted_by_all before) old mid
    pub began : call.began ≡ length (kind.state mid.medium).past
    pub does : Does kind call.asked call.answer (with_memory mid memory) next
    pub here : Went (accepted_of call.asked (mark_of call.answer)) mid next
    pub rest : Lead kind after next new

  pub made : (calls before after : List Call) (call : Call) (old new : WriterState W)
      → calls ≡ before ++ (call ∷ after) → Lead kind calls old new
      → Made before after call old new
  made calls before after call old new same lead =
      let (mid, first, (memory, next, at, does, rest)) = lead_parts before (call ∷ after) old new
      (subst (λ l. Lead kind l old new) same lead) in record {
        memory = memory;
        mid = mid;
        next = next;
        earlier = went before old mid first;
        began = at;
        does = does;
        here = call_went call.answer memory mid next call.asked does;
        rest = rest;
      }

  -- calls that only write samples leave what is before the data
  pub front_stays : (calls : List Call) (old new : WriterState W) → Lead kind calls old new
      → AllByRecursion (λ (call : Call). call.asked ≡ publish → ⊥) calls
      → take old.data_start (kind.state new.medium).contents
      ≡ take old.data_start (kind.state old.medium).contents
  front_stays [] old new (memory, same) only =
      ap (λ (w : WriterState W). take old.data_start (kind.state w.medium).contents) same
  front_stays (call ∷ calls) old new (memory, mid, at, does, rest) (writes, only) =
      subst (λ n. take n (kind.state new.medium).contents ≡ take n (kind.state mid.medium).contents)
      (call_went call.answer memory old mid call.asked does).data_start
      (front_stays calls mid new rest only)
      ∙ by call.asked does writes
    where
      by : (asked : Asked) → Does kind asked call.answer (with_memory old memory) mid → (asked ≡ publish → ⊥)
          → take old.data_start (kind.state mid.medium).contents
          ≡ take old.data_start (kind.state old.medium).contents
      by (write list) does writes = (does.file modelled).front
      by publish does writes = absurd (writes refl)

  pub begin : (calls : List Call) (old new : WriterState W) → Lead kind calls old new
      → begins_at calls (kind.state new.medium).past ≡ length (kind.state old.medium).past
  begin calls old new given = grind (arith, common_steps)

  module _ (kept : IsTrue kind.keeps) where
    pub later : (calls : List Call) (old new : WriterState W) → Lead kind calls old new → IsWhole kind.state old
        → Later (kind.state old.medium) (kind.state new.medium)
    later calls old new lead = (went calls old new lead).later kept

    module _ (calls : List Call) (old new : WriterState W) (lead : Lead kind calls old new)
        (whole : IsWhole kind.state old) where
      -- calls begin in their order
      pub in_order : BeginInOrder old.spec_ex old.data_start (accepted_samples kind.state old) calls
          (kind.state new.medium)
      in_order before then after same =
          let (mid, first, rest) = lead_parts before (then ++ after) old new
          (subst (λ l. Lead kind l old new) same lead) in
          let (far, second, last) = lead_parts then after mid new rest in
          let kept_on = (went before old mid first).whole whole in
          let w = went then mid far second in
          let up = longer (kind.state mid.medium) (kind.state far.medium) (w.later kept kept_on) in
          let on = longer (kind.state far.medium) (kind.state new.medium)
          (later after far new last (w.whole kept_on)) in
          let at = begin after far new last in
          (omega (arith, begin (then ++ after) mid new rest, at, up), omega (arith, at, on))

      -- what was accepted before a call counts in each of its states
      pub counted : CountedAtEach old.spec_ex old.data_start (accepted_samples kind.state old) calls
          (kind.state new.medium)
      counted before after call k same from to =
          let m = made calls before after call old new same lead in
          let w = m.earlier in
          let within : k ≤ length (kind.state m.next.medium).past = omega (arith, to, begin after m.next new m.rest) in
          let span = call_span call.answer m.memory m.mid m.next kept call.asked m.does (w.whole whole) in
          subst (λ (x : _ × (ℕ × List (List ℕ))).
          Counts x.0 x.1.0 x.1.1 (moment (kind.state new.medium).start (kind.state new.medium).past k))
          (λ i. (w.spec_ex i, (w.data_start i, w.accepted whole i)))
          (subst (Counts m.mid.spec_ex m.mid.data_start (accepted_samples kind.state m.mid))
          (same_moment (kind.state m.next.medium) (kind.state new.medium) k
          (later after m.next new m.rest (m.here.whole (w.whole whole))) within)
          (span.each k (omega (arith, from, m.began)) within))

      pub stored : StoredAtEach old.spec_ex old.data_start (accepted_samples kind.state old) calls
          (kind.state new.medium)
      stored before after a len k m same from le to inside here =
          let (mid, first, rest) = lead_parts before after old new (subst (λ l. Lead kind l old new) same lead) in
          let w = went before old mid first in
          let end = kind.state new.medium in
          subst (λ (x : ℕ × List (List ℕ)). a + len ≤ length (concat x.1)
          → IsStored x.0 (concat x.1) a len (moment end.start end.past k)
          → IsStored x.0 (concat x.1) a len (moment end.start end.past m))
          (λ j. (w.data_start j, w.accepted whole j))
          (λ inside here. (went after mid new rest).stored kept (w.whole whole) a len inside k m
          (omega (arith, from, begin after mid new rest)) le to here)
          inside here

      -- what a flush has flushed stays so
      pub stays_flushed : FlushedByFlushes old.spec_ex old.data_start (accepted_samples kind.state old) calls
          (kind.state new.medium)
      stays_flushed before after flush same has_all =
          let m = made calls before after flush old new same lead in
          let does = subst (λ a. Does kind a flush.answer (with_memory m.mid m.memory) m.next) has_all.0 m.does in
          let flushed = where_marked flush.answer has_all.1 (does.publishes modelled).flushed in
          let then = later after m.next new m.rest (m.here.whole (m.earlier.whole whole)) in
          let ends = begin after m.next new m.rest in
          elim then.flushed [
            | inl still ↦ omega (arith, still, flushed, ends)
            | inr since ↦ omega (arith, since, ends)
          ]
