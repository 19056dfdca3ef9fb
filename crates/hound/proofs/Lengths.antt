-- The bytes before the data in each state of a list of calls: they stay while samples are written, and in a patch the
-- data length is mixed; what a flush has published is counted until the next one, and never undercut.
use Rattle.std.proofs.lemmas.Grind.{common_steps}
use Rattle.std.proofs.Common.{◌≡◌, ℕ, ◌+◌, ◌-◌, ◌<◌, ◌≤◌, min, ◌⊎◌, List, [], ◌∷◌, ◌++◌, length, take, Result, IsTrue, refl, sym, ◌∙◌, ap, subst, arith, inl, inr}
use Rattle.std.proofs.lemmas.Bool.{cases_lt}
use Rattle.std.specs.List.{concat, AllByRecursion}
use Rattle.hound_number.specs.{mix, number}
use Rattle.hound_spec.specs.declared.error.Error.{Error}
use Rattle.hound_medium.specs.{moment, overlay, MediumState}
use Rattle.hound_medium.proofs.Overlays.{front_part}
use Rattle.hound_medium.proofs.Spans.{moment_last}
use Rattle.hound_durable.specs.{place_of}
use Rattle.hound_writer.specs.{Ghosts, Asked, Call, Does, Lead, publish, write, with_memory, IsOldOrNew, IsOutside, IsStored, field, WriterState, IsWhole, accepted_samples, data_length}
use Rattle.hound.specs.Headline.{FrontInWrites, HasPublished, IsUncut, MixedInPatches, NeverLess, OldOrNewInPatches, PublishedByFlushes, accepted_by_all, begins_at}
use Rattle.hound_writer.proofs.Answers.{where_marked}
use Rattle.hound_writer.proofs.Sizes.{take_front}
use Rattle.hound.proofs.Calling.{begin, call_went, later, lead_parts, length-concat-append, made, went}
use Rattle.hound.proofs.Later.{Later, later_then, longer, same_moment}

-- a state in which no write of the field is cut is so in one of the calls
outside_within : (p hi : ℕ) (a b end : MediumState) (k : ℕ) → Later b end → hi ≡ length b.past
    → ((i : ℕ) → length a.past ≤ i → i < hi → i < k → place_of end.past i ≡ p → (i + 4 ≤ hi) × (i + 4 ≤ k))
    → IsOutside p a b k
outside_within p hi a b end k later ends each i since to at before = grind (arith, common_steps)

module _ {W : Type 0} (kind : Ghosts W) (modelled : IsTrue kind.tells) (kept : IsTrue kind.keeps)
    (replays : (m : W) → (kind.state m).contents ≡ overlay (kind.state m).start (kind.state m).past)
    (p : ℕ) (P : ℕ → Type 0) where
  -- a call that writes leaves the field at p, and one that publishes and cuts no write of it gives it the length of all
  -- that was accepted
  call_field : (asked : Asked) (answer : Result (Unit {0}) Error) (memory : List ℕ) (old new : WriterState W)
      → Does kind asked answer (with_memory old memory) new → p ≡ old.data_start - 4
      → 4 ≤ old.data_start → IsWhole kind.state old → P (field p (kind.state old.medium).contents)
      → (k : ℕ) → length (kind.state old.medium).past ≤ k → k ≤ length (kind.state new.medium).past
      → (asked ≡ publish → ⊥)
      ⊎ (P (data_length old) × IsOutside p (kind.state old.medium) (kind.state new.medium) k)
      → P (field p (moment (kind.state new.medium).start (kind.state new.medium).past k))
  call_field (write list) answer memory old new does at beyond whole has_it k from to fine =
      subst P
      (ap number (sym (front_part (old.data_start + old.bytes_written) p 4
      (moment (kind.state new.medium).start (kind.state new.medium).past k) (kind.state old.medium).contents
      (omega (arith, at, beyond)) (((does.moments modelled kept).front whole).each k from to)))) has_it
  call_field publish answer memory old new does at beyond whole has_it k from to (inl none) =
      absurd (none refl)
  call_field publish answer memory old new does at beyond whole has_it k from to (inr (all, outside)) =
      let or_new : IsOldOrNew p (field p (kind.state old.medium).contents) (data_length old)
      (kind.state old.medium) (kind.state new.medium) =
      subst (λ n. IsOldOrNew n (field n (kind.state old.medium).contents) (data_length old)
      (kind.state old.medium) (kind.state new.medium)) (sym at) (does.moments modelled kept).old_or_new in
      elim (or_new k from to outside) [
        | inl is ↦ subst P (sym is) has_it
        | inr is ↦ subst P (sym is) all
      ]

  -- so in each state the field has what it had, if calls only write, or if all that may be accepted has it too and no
  -- write of the field is cut
  stays : (calls : List Call) (old new : WriterState W) → Lead kind calls old new
      → p ≡ old.data_start - 4 → 4 ≤ old.data_start → IsWhole kind.state old
      → P (field p (kind.state old.medium).contents)
      → (k : ℕ) → length (kind.state old.medium).past ≤ k → k ≤ length (kind.state new.medium).past
      → AllByRecursion (λ (call : Call). call.asked ≡ publish → ⊥) calls
      ⊎ (((n : ℕ) → data_length old ≤ n → P n) × IsUncut p calls (kind.state new.medium).past k)
      → P (field p (moment (kind.state new.medium).start (kind.state new.medium).past k))
  stays [] old new (memory, same) at beyond whole has_it k from to fine =
      let last = kind.state new.medium in
      let e : k ≡ length last.past =
      omega (arith, from, to, ap (λ (w : WriterState W). length (kind.state w.medium).past) same) in
      let here : moment last.start last.past k ≡ (kind.state old.medium).contents =
      grind (arith, common_steps, moment_last) in
      subst (λ c. P (field p c)) (sym here) has_it
  stays (call ∷ calls) old new (memory, mid, begins, does, rest) at beyond whole has_it k from to fine =
      let t = call_went kind modelled call.answer memory old mid call.asked does in
      let end = kind.state new.medium in
      let then = later kind modelled kept calls mid new rest (t.whole whole) in
      let ends = begin kind modelled calls mid new rest in
      let last = length (kind.state mid.medium).past in
      let up = longer (kind.state old.medium) (kind.state mid.medium) (t.later kept whole) in
      let j = min k last in
      let here = call_field call.asked call.answer memory old mid does at beyond whole has_it j
      (omega (arith, from, up)) (omega arith) (elim fine [
        | inl writes ↦ inl writes.0
        | inr (grows, uncut) ↦ inr (
          grows (data_length old) (omega arith),
          outside_within p (begins_at calls end.past) (kind.state old.medium) (kind.state mid.medium) end j then ends
              (λ i since less before is.
              let four = uncut [] calls call i refl (omega (arith, since, begins)) less (omega (arith, before)) is in
              (four.0, omega (arith, four.0, four.1, ends))),
        )
      ]) in
      elim (cases_lt last k) [
        | inr within ↦ let e : j ≡ k = omega (arith, within) in
            subst (λ c. P (field p c))
            (ap (moment (kind.state mid.medium).start (kind.state mid.medium).past) e
            ∙ same_moment (kind.state mid.medium) end k then within) here
        | inl after ↦ let e : j ≡ last = omega (arith, after) in
            stays calls mid new rest (at ∙ ap (λ n. n - 4) (sym t.data_start))
            (omega (arith, beyond, t.data_start)) (t.whole whole)
            (subst (λ c. P (field p c)) (ap (moment (kind.state mid.medium).start (kind.state mid.medium).past) e
            ∙ moment_last (kind.state mid.medium) (replays mid.medium)) here) k (omega (arith, after)) to
            (elim fine [
              | inl writes ↦ inl writes.1
              | inr (grows, uncut) ↦ inr (
                λ n le. grows n (omega (arith, le, t.size)),
                λ before rest one i is since less first place.
                    uncut (call ∷ before) rest one i (ap (λ l. call ∷ l) is) since less first
                    place,
              )
            ])
      ]

module _ {W : Type 0} (kind : Ghosts W) (modelled : IsTrue kind.tells) (kept : IsTrue kind.keeps)
    (replays : (m : W) → (kind.state m).contents ≡ overlay (kind.state m).start (kind.state m).past)
    (calls : List Call) (old new : WriterState W) (lead : Lead kind calls old new)
    (beyond : 4 ≤ old.data_start) (all_there : IsWhole kind.state old)
    (size : length (concat (accepted_samples kind.state old)) ≡ data_length old) where
  abbrev at : ℕ
  at = old.data_start - 4

  abbrev end : MediumState
  end = kind.state new.medium

  -- one of these calls, in the states of the last medium
  record CallOf (before after : List Call) (call : Call) : Type 0 where
    memory : List ℕ
    mid : WriterState W
    next : WriterState W
    does : Does kind call.asked call.answer (with_memory mid memory) next
    rest : Lead kind after next new
    start : mid.data_start ≡ old.data_start
    whole : IsWhole kind.state mid
    next_start : next.data_start ≡ old.data_start
    next_whole : IsWhole kind.state next
    all : data_length mid ≡ length (concat (accepted_samples kind.state old ++ accepted_by_all before))
    accepted : accepted_samples kind.state mid ≡ accepted_samples kind.state old ++ accepted_by_all before
    began : call.began ≡ length (kind.state mid.medium).past
    ended : begins_at after end.past ≡ length (kind.state next.medium).past
    later : Later (kind.state next.medium) end
    still : (k : ℕ) → k ≤ begins_at after end.past
        → moment (kind.state next.medium).start (kind.state next.medium).past k ≡ moment end.start end.past k
    first : moment end.start end.past call.began ≡ (kind.state mid.medium).contents

  call_of : (before after : List Call) (call : Call) → calls ≡ before ++ (call ∷ after) → CallOf before after call
  call_of before after call same =
      let m = made kind modelled calls before after call old new same lead in
      let w = m.earlier in
      let whole = w.whole all_there in
      let here = m.here.later kept whole in
      let then = later kind modelled kept after m.next new m.rest (m.here.whole whole) in
      let ended = begin kind modelled after m.next new m.rest in
      record {
        memory = m.memory;
        mid = m.mid;
        next = m.next;
        does = m.does;
        rest = m.rest;
        start = w.data_start;
        whole = whole;
        next_start = m.here.data_start ∙ w.data_start;
        next_whole = m.here.whole whole;
        all = grind (arith, common_steps, length-concat-append);
        accepted = w.accepted all_there;
        began = m.began;
        ended = ended;
        later = then;
        still = λ k within. same_moment (kind.state m.next.medium) end k then (omega (arith, within, ended));
        first = ap (moment end.start end.past) m.began
            ∙ sym (same_moment (kind.state m.mid.medium) end (length (kind.state m.mid.medium).past)
            (later_then (kind.state m.mid.medium) (kind.state m.next.medium) end here then) (omega arith))
            ∙ moment_last (kind.state m.mid.medium) (replays m.mid.medium);
      }

  -- a call that writes leaves what is before the data
  front_of : (asked : Asked) (answer : Result (Unit {0}) Error) (memory : List ℕ)
      (a b : WriterState W) → Does kind asked answer (with_memory a memory) b
      → (asked ≡ publish → ⊥) → IsWhole kind.state a
      → (k : ℕ) → length (kind.state a.medium).past ≤ k → k ≤ length (kind.state b.medium).past
      → take a.data_start (moment (kind.state b.medium).start (kind.state b.medium).past k)
      ≡ take a.data_start (kind.state a.medium).contents
  front_of (write list) answer memory a b does writes whole k from to =
      take_front a.data_start (a.data_start + a.bytes_written) (kind.state a.medium).contents
      (moment (kind.state b.medium).start (kind.state b.medium).past k) (omega arith)
      (((does.moments modelled kept).front whole).each k from to)
  front_of publish answer memory a b does writes whole k from to = absurd (writes refl)

  pub front_in_writes : FrontInWrites old.spec_ex old.data_start (accepted_samples kind.state old) calls end
  front_in_writes before after call k same writes from to =
      let c = call_of before after call same in
      grind (arith, common_steps, front_of)

  pub mixed : MixedInPatches old.spec_ex old.data_start (accepted_samples kind.state old) calls end
  mixed before after patch same asked =
      let c = call_of before after patch same in
      let does = subst (λ a. Does kind a patch.answer (with_memory c.mid c.memory) c.next) asked c.does in
      let p = does.moments modelled kept in (
        λ k. min 4 (k - p.split),
        omega (arith, c.began, p.puts.later),
        λ k m le. (omega (arith, le), omega arith),
        λ has_all. omega (arith, c.ended, where_marked patch.answer has_all.1 p.whole),
        λ k from to. let since : length (kind.state c.mid.medium).past ≤ k = omega (arith, from, c.began) in
            let until : k ≤ length (kind.state c.next.medium).past = omega (arith, to, c.ended) in
            let few : k - p.split ≡ min 4 (k - p.split) = omega (arith, until, p.puts.within) in (
              subst (λ (x : (ℕ × ℕ) × (ℕ × (List ℕ × List ℕ))).
                  field (x.0.0 - 4) x.1.1.0 ≡ mix x.0.1 (field (x.0.0 - 4) x.1.1.1) x.1.0)
                  (λ i. ((c.start i, few i), (c.all i, (c.still k to i, sym c.first i))))
                  (p.half.each k since until).length_is,
              λ some. let split : p.split < k = omega (arith, some) in
                  let last : p.split < length (kind.state c.next.medium).past = omega (arith, split, until) in
                  omega (
                    arith,
                    p.there c.whole p.split k p.puts.later last
                        (omega (arith, p.puts.first last, c.start, beyond)) (omega (arith, split))
                        until,
                    ap length (c.still k to),
                    c.start,
                    c.all,
                  ),
              λ some. let split : p.split < k = omega (arith, some) in
                  let last : p.split < length (kind.state c.next.medium).past = omega (arith, split, until) in
                  subst (λ (x : (ℕ × ℕ) × (List (List ℕ) × List ℕ)). IsStored x.0.0 (concat x.1.0) 0 x.0.1 x.1.1)
                  (λ i. ((c.start i, c.all i), (c.accepted i, c.still k to i)))
                  (p.all_stored c.whole p.split k p.puts.later last
                  (omega (arith, p.puts.first last, c.start, beyond)) (omega (arith, split)) until),
            ),
      )

  pub old_or_new : OldOrNewInPatches old.spec_ex old.data_start (accepted_samples kind.state old) calls end
  old_or_new before after patch k same asked from to uncut =
      let c = call_of before after patch same in
      let does = subst (λ a. Does kind a patch.answer (with_memory c.mid c.memory) c.next) asked c.does in
      subst (λ (x : (ℕ × ℕ) × (List ℕ × List ℕ)). (field x.0.0 x.1.0 ≡ field x.0.0 x.1.1) ⊎ (field x.0.0 x.1.0 ≡ x.0.1))
      (λ i. ((c.start i - 4, c.all i), (c.still k to i, sym c.first i)))
      ((does.moments modelled kept).old_or_new k (omega (arith, from, c.began)) (omega (arith, to, c.ended))
      (outside_within (c.mid.data_start - 4) (begins_at after end.past) (kind.state c.mid.medium)
      (kind.state c.next.medium) end k c.later c.ended
      (λ i since less before is. uncut [] after patch i refl (omega (arith, since, c.began)) less before
      (is ∙ ap (λ n. n - 4) c.start))))

  -- a flush that published all has counted it
  flushed : (before after : List Call) (flush : Call) → calls ≡ before ++ (flush ∷ after)
      → HasPublished flush → (c : CallOf before after flush)
      × (field at (kind.state c.next.medium).contents ≡ data_length c.next)
      × (data_length c.next ≡ length (concat (accepted_samples kind.state old ++ accepted_by_all before)))
  flushed before after flush same (asked, marked) =
      let c = call_of before after flush same in
      let does = subst (λ a. Does kind a flush.answer (with_memory c.mid c.memory) c.next) asked c.does in (
        c,
        ap (λ n. field (n - 4) (kind.state c.next.medium).contents) (sym c.start)
            ∙ where_marked flush.answer marked (does.publishes modelled).length_says ∙ sym does.samples.data_length,
        omega (arith, does.samples.data_length, c.all),
      )

  pub published : PublishedByFlushes old.spec_ex old.data_start (accepted_samples kind.state old) calls
      (kind.state new.medium)
  published before then after flush k same has_all only from to =
      let (f, says, all) = flushed before (then ++ after) flush same has_all in
      let (far, there, rest) = lead_parts kind modelled then after f.next new f.rest in
      let n = length (concat (accepted_samples kind.state old ++ accepted_by_all before)) in
      subst (λ c. field at c ≡ n)
      (same_moment (kind.state far.medium) (kind.state new.medium) k (later kind modelled kept after far new rest
      ((went kind modelled then f.next far there).whole f.next_whole))
      (omega (arith, to, begin kind modelled after far new rest)))
      (stays kind modelled kept replays at (λ v. v ≡ n) then f.next far there
      (ap (λ n. n - 4) (sym f.next_start)) (omega (arith, beyond, f.next_start)) f.next_whole (says ∙ all) k
      (omega (arith, from, begin kind modelled (then ++ after) f.next new f.rest))
      (omega (arith, to, begin kind modelled after far new rest)) (inl only))

  pub never_less : NeverLess old.spec_ex old.data_start (accepted_samples kind.state old) calls (kind.state new.medium)
  never_less before after flush k same has_all from to uncut =
      let (f, says, all) = flushed before after flush same has_all in
      let n = length (concat (accepted_samples kind.state old ++ accepted_by_all before)) in
      stays kind modelled kept replays at (λ v. n ≤ v) after f.next new f.rest
      (ap (λ n. n - 4) (sym f.next_start)) (omega (arith, beyond, f.next_start)) f.next_whole
      (omega (arith, says, all)) k
      (omega (arith, from, begin kind modelled after f.next new f.rest)) to
      (inr (λ v le. omega (arith, le, all), uncut))
