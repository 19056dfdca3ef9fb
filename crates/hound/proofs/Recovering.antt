-- What a flush has published, in whatever is left later.
use Rattle.std.proofs.lemmas.Grind.{common_steps}
use Rattle.std.proofs.Common.{◌≡◌, ℕ, ◌+◌, ◌-◌, ◌*◌, ◌<◌, ◌≤◌, ◌⊎◌, Bool, List, [], ◌∷◌, ◌++◌, length, IsTrue, inl, inr, sym, ◌∙◌, ap, subst, arith, append_assoc, length-append, length-drop, take-append-drop}
use Rattle.std.specs.List.{concat}
use Rattle.std.proofs.lemmas.Bool.{cases_lt}
use Rattle.std.proofs.lemmas.List.{take_all}
use Rattle.std.proofs.lemmas.Nat.{mul-le}
use Rattle.hound_spec.specs.declared.spec.WavSpecEx.{WavSpecEx}
use Rattle.hound_number.specs.{bytes_of, mix, number}
use Rattle.hound_medium.specs.{moment, MediumState}
use Rattle.hound_medium.proofs.Overlays.{front_part}
use Rattle.hound_walk.specs.{Head, IsSoundSpec}
use Rattle.hound_sample.proofs.Joined.{length-concat}
use Rattle.hound_repair.proofs.Joining.{AreWide, wide_front}
use Rattle.hound_repair.proofs.Keeping.{no_pad_shown, stays_stored}
use Rattle.hound_repair.specs.{held, IsNoPad, ReadsFrames, Repairs}
use Rattle.hound_repair.specs.declared.look.Repair.{Repair}
use Rattle.hound_writer.specs.declared.resuming.RepairState.TheVariants.{HasChunksAfterData}
use Rattle.hound_writer.specs.{Asked, Call, field, IsStored, publish}
use Rattle.hound_writer.proofs.Heads.{head_beyond, head_inside}
use Rattle.hound.specs.Headline.{HasPublished, IsLeftAfter, Promises, accepted_by_all, begins_at}
use Rattle.hound.proofs.Losing.{either_survives, moments_grow, stored_survives}
use Rattle.hound.proofs.Calling.{last_of, length-concat-append}
use Rattle.hound.proofs.PowerLoss.{accepted_parts, during}

publishes_or : (asked : Asked) → (asked ≡ publish) ⊎ (asked ≡ publish → ⊥)
publishes_or asked = grind (arith, common_steps)

-- a number that is mixed with itself stays
mix_same : (j n : ℕ) → mix j n n ≡ mix 0 n n
mix_same j n = ap number (take-append-drop j (bytes_of 4 n) ∙ sym (take-append-drop 0 (bytes_of 4 n)))

module _ (s : WavSpecEx) (h : ℕ) (found : List (List ℕ)) (calls : List Call) (end : MediumState)
    (promises : Promises s h found calls end) (sound : IsSoundSpec s)
    (wide : AreWide s.bytes_per_sample (found ++ accepted_by_all calls))
    (before after : List Call) (flush : Call) (same : calls ≡ before ++ (flush ∷ after))
    (has_all : HasPublished flush) where
  abbrev list : List (List ℕ)
  list = found ++ accepted_by_all before

  abbrev w : ℕ
  w = s.bytes_per_sample

  some : 1 ≤ w
  some = sound.1

  abbrev from : ℕ
  from = begins_at after end.past

  abbrev at : ℕ → List ℕ
  at k = moment end.start end.past k

  wide_list : AreWide w list
  wide_list = grind (arith, common_steps, wide_front, AreWide, accepted_parts, append_assoc)

  size : length (concat list) ≡ length list * w
  size = length-concat w list wide_list

  -- the flush began before it returned
  began : flush.began ≤ from
  began = (promises.in_order before (flush ∷ []) after same).0

  first_began : begins_at calls end.past ≤ from
  first_began =
      let parts = same ∙ sym (append_assoc before (flush ∷ []) after) in
      omega (
        arith,
        (promises.in_order [] (before ++ (flush ∷ [])) after parts).0,
        ap (λ l. begins_at l end.past) parts,
      )

  -- when the flush returns, all are stored
  stored_at_return : IsStored h (concat list) 0 (length (concat list)) (at from)
  stored_at_return =
      let says : field (h - 4) (at from) ≡ length (concat list) =
      promises.published before [] after flush from same has_all tt (omega arith) (omega arith) in
      let c = promises.counted before after flush from same began (omega arith) in
      let all : c.samples ≡ length list = grind (arith, common_steps, cases_lt, mul-le, some, size) in
      let bytes : c.samples * w ≡ length (concat list) = ap (λ n. n * w) all ∙ sym size in
      let start : h + 0 ≡ h = omega arith in
      grind (arith, common_steps, take_all)

  stored_later : (k : ℕ) → from ≤ k → k ≤ length end.past → IsStored h (concat list) 0 (length (concat list)) (at k)
  stored_later k since until =
      promises.stored before (flush ∷ after) 0 (length (concat list)) from k same began since until
      (omega arith) stored_at_return

  -- these contents count exactly them, or hold more
  abbrev CountsOrHolds : List ℕ → Type 0
  CountsOrHolds c = (field (h - 4) c ≡ length (concat list)) ⊎ (h + length (concat list) < length c)

  beyond : 20 ≤ h
  beyond = head_beyond (at from) s (field (h - 4) (at from)) h
      (promises.head from first_began (promises.in_order before (flush ∷ []) after same).1)

  -- that stays so in each state of a call: it writes only, or before a length of more is written all of these bytes are
  -- there
  in_call : (first rest : List Call) (call : Call) (k : ℕ) → calls ≡ first ++ (call ∷ rest)
      → length (concat list) ≤ length (concat (found ++ accepted_by_all first))
      → CountsOrHolds (at call.began) → call.began ≤ k → k ≤ begins_at rest end.past
      → CountsOrHolds (at k)
  in_call first rest call k parts few (inr longer) low high =
      inr (omega (arith, longer, moments_grow end.start end.past call.began k low))
  in_call first rest call k parts few (inl says) low high =
      elim (publishes_or call.asked) [
        | inr writes ↦ inl (ap number (front_part h (h - 4) 4 (at k) (at call.began) (omega (arith, beyond))
            (promises.front_in_writes first rest call k parts writes low high)) ∙ says)
        | inl asked ↦ let new = length (concat (found ++ accepted_by_all first)) in
            let (count, none, grows, whole, each) = promises.mixed first rest call parts asked in
            let here = each k low high in
            let old = field (h - 4) (at call.began) in
            let unmixed : mix 0 old new ≡ old = ap (λ j. mix j old new) (sym none)
            ∙ sym (each call.began (omega arith) (omega (arith, low, high))).0 in
            elim (cases_lt 0 (count k)) [
              | inr nothing ↦ let zero : count k ≡ 0 = omega (arith, nothing) in
                  inl (here.0 ∙ ap (λ j. mix j old new) zero ∙ unmixed ∙ says)
              | inl some ↦ elim (cases_lt (length (concat list)) new) [
                | inl more ↦ inr (omega (arith, more, here.1 some))
                | inr all ↦ let equal : new ≡ old = omega (arith, all, few, says) in
                    inl (here.0 ∙ ap (mix (count k) old) equal ∙ mix_same (count k) old
                    ∙ ap (mix 0 old) (sym equal) ∙ unmixed ∙ says)
              ]
            ]
      ]

  -- a call more accepts no less
  more : (first : List Call) (call : Call) → length (concat list) ≤ length (concat (found ++ accepted_by_all first))
      → length (concat list) ≤ length (concat (found ++ accepted_by_all (first ++ (call ∷ []))))
  more first call few = grind (arith, common_steps, length-concat-append, accepted_parts)

  onward : (rest first : List Call) → calls ≡ first ++ rest
      → length (concat list) ≤ length (concat (found ++ accepted_by_all first))
      → CountsOrHolds (at (begins_at rest end.past))
      → (k : ℕ) → begins_at rest end.past ≤ k → k ≤ length end.past → CountsOrHolds (at k)
  onward [] first parts few here k low high =
      let e : length end.past ≡ k = omega (arith, low, high) in
      subst (λ k. CountsOrHolds (at k)) e here
  onward (call ∷ rest) first parts few here k low high =
      let next = begins_at rest end.past in
      elim (cases_lt next k) [
        | inr within ↦ in_call first rest call k parts few here low within
        | inl after ↦ onward rest (first ++ (call ∷ [])) (parts ∙ sym (append_assoc first (call ∷ []) rest))
            (more first call few)
            (in_call first rest call next parts few here
            (promises.in_order first (call ∷ []) rest parts).0 (omega arith)) k
            (omega (arith, after)) high
      ]

  counts_or_holds : (k : ℕ) → from ≤ k → k ≤ length end.past → CountsOrHolds (at k)
  counts_or_holds =
      onward after (before ++ (flush ∷ [])) (same ∙ sym (append_assoc before (flush ∷ []) after))
      (more before flush (omega arith))
      (inl (promises.published before [] after flush from same has_all tt (omega arith) (omega arith)))

  -- what is left: the head of the spec, and all samples that were published
  record HasAll (c : List ℕ) : Type 0 where
    head : Head c s (field (h - 4) c) h
    stored : IsStored h (concat list) 0 (length (concat list)) c
    counts : CountsOrHolds c

  in_state : (k : ℕ) → from ≤ k → k ≤ length end.past → HasAll (at k)
  in_state k since until = grind (arith, common_steps, first_began, stored_later, counts_or_holds)

  published_is_left : (c : List ℕ) → IsLeftAfter h from end c → HasAll c
  published_is_left c (inl is) =
      subst HasAll (promises.now ∙ sym is)
      (in_state (length end.past) (promises.in_order before (flush ∷ []) after same).1 (omega arith))
  published_is_left c (inr (inl (k, since, until, is))) =
      subst HasAll (sym is) (in_state k since until)
  published_is_left c (inr (inr (f, k, sector, since, le, until, ascends, sized, one, lost))) =
      let (front, last, ends) = last_of calls (omega (
        arith,
        ap length same,
        length-append before (flush ∷ after),
      )) in
      let d = during front [] last end k
      (omega (arith, first_began, since, le, ap (λ l. begins_at l end.past) ends)) until in
      let (counted, (j, low, high, is), head) = promises.after_loss d.first d.rest d.call f k sector c (ends ∙ d.parts)
      (omega (arith, first_began, since)) le d.from d.to ascends sized one lost in
      let state = λ (j : ℕ) (low : f ≤ j) (high : j ≤ k).
      in_state j (omega (arith, since, low)) (omega (arith, high, until)) in
      let (m, since_m, until_m, long) = lost.long in
      record {
        head = head;
        stored = stored_survives h (length (concat list)) sector f k (concat list) end.start
            end.past c (omega arith) lost (λ j low high. (state j low high).stored);
        counts = subst (λ (x : ℕ × ℕ). (x.0 ≡ length (concat list))
            ⊎ (h + length (concat list) < x.1)) (λ i. (sym is i, sym long i))
            (either_survives h f k end.start end.past beyond until ascends
            (λ j low high. head_inside (at j) s (field (h - 4) (at j)) h (state j low high).head)
            (length (concat list)) (λ j low high. (state j low high).counts) j m low high since_m until_m);
      }

  -- none of their bytes is taken for a pad byte
  no_pad : (c : List ℕ) → CountsOrHolds c → IsNoPad s (field (h - 4) c) (held h c) list
  no_pad c counts one more = grind (arith, common_steps, length-drop, mul-le, some, size, more)

  -- so a repair loses none of them
  pub none_lost : (looks : Bool) (cut mended : MediumState) (found : Repair)
      → IsLeftAfter h from end cut.contents → Repairs looks cut found mended
      → (IsTrue looks → found.state ≡ HasChunksAfterData → ⊥)
      → (found.spec_ex ≡ s) × ReadsFrames found h list mended.contents
  none_lost looks cut mended found left repairs alone =
      let l = published_is_left cut.contents left in
      stays_stored looks cut mended found s (field (h - 4) cut.contents) h list repairs alone l.head
      sound wide_list l.stored
      (no_pad_shown s (field (h - 4) cut.contents) h cut.contents list (no_pad cut.contents l.counts))
