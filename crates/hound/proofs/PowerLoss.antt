-- What a loss of power leaves of a writer's file.
use Rattle.std.proofs.Common.{◌≡◌, ℕ, zero, suc, ◌+◌, ◌-◌, ◌*◌, ◌/◌, ◌%◌, ◌≤◌, inl, inr, List, [], ◌∷◌, ◌++◌, length, take, drop, refl, sym, ◌∙◌, ap, arith, length-append, length-drop, take-append-drop}
use Rattle.std.proofs.lemmas.Bool.{cases_lt}
use Rattle.std.proofs.lemmas.Grind.{flat_map-append, common_steps}
use Rattle.std.proofs.lemmas.List.{length-take-le, take-take, take-append-le}
use Rattle.std.proofs.lemmas.Nat.{div-mul-add, mod-mul-add, mul-le}
use Rattle.std.specs.List.{concat, AllByRecursion}
use Rattle.hound_spec.specs.declared.spec.WavSpecEx.{WavSpecEx}
use Rattle.hound_sample.specs.{containers}
use Rattle.hound_medium.specs.{moment, MediumState}
use Rattle.hound_walk.specs.{Head}
use Rattle.hound_sample.proofs.Joined.{containers-concat, length-concat}
use Rattle.hound_writer.specs.{mark_of, Call, Counts, ChangesSizesOnly, field}
use Rattle.hound_writer.proofs.Containers.{containers_front}
use Rattle.hound_writer.proofs.Counted.{counts_more, counts_at_most}
use Rattle.hound_writer.proofs.Heads.{head_beyond}
use Rattle.hound.specs.Headline.{BeginInOrder, CountedAfterLoss, CountedAtEach, FlushedByFlushes, KeptAfterLoss, NeverLess, StoredAtEach, accepted_by_all, accepted_of, begins_at}
use Rattle.hound_repair.proofs.Joining.{AreWide, concat-append, concat_front, wide_front, wide_take}
use Rattle.hound.proofs.Losing.{left_after, says_chosen}

-- those of whole bytes are of their width
pub wide_containers : (w n : ℕ) (bytes : List ℕ) → n * w ≤ length bytes
    → AllByRecursion (λ c. length c ≡ w) (containers w n bytes)
wide_containers w zero bytes le = tt
wide_containers w (suc n) bytes le = (
  length-take-le w bytes (omega (arith, le)),
  wide_containers w n (drop w bytes) (omega (arith, le, length-drop w bytes)),
)

-- the bytes of whole containers that cover this many
abbrev cover : ℕ → ℕ → ℕ
cover w v = (v + (w - 1)) / w * w

cover_count : (w v n : ℕ) → 1 ≤ w → v ≤ n * w → (v + (w - 1)) / w ≤ n
cover_count w v n some le = grind (arith, common_steps)

le_cover : (w v : ℕ) → 1 ≤ w → v ≤ cover w v
le_cover w v some = grind (arith, common_steps)

-- if the head is there and this many containers are stored, the first of them are counted
pub counts_stored : (s : WavSpecEx) (h q : ℕ) (list : List (List ℕ)) (c : List ℕ)
    → 1 ≤ s.bytes_per_sample → AreWide s.bytes_per_sample list
    → Head c s (field (h - 4) c) h → field (h - 4) c ≤ q * s.bytes_per_sample
    → q ≤ length list
    → take (q * s.bytes_per_sample) (drop h c) ≡ take (q * s.bytes_per_sample) (concat list)
    → Counts s h list c
counts_stored s h q list c some wide head few among stored =
    let w = s.bytes_per_sample in
    let first = take q list in
    let size : length first ≡ q = length-take-le q list among in
    let found : containers w q (drop h c) ≡ first = containers_front w q (drop h c) (concat list) stored
    ∙ (λ i. containers w (sym size i) (concat_front q list i))
    ∙ containers-concat w first (concat (drop q list)) (wide_take w q list wide) in
    let back : (q * w + 0) / w ≡ q = div-mul-add q w 0 (omega (arith, some)) in
    let whole : (q * w + 0) % w ≡ 0 = mod-mul-add q w 0 (omega (arith, some)) in
    let e : q * w + 0 ≡ q * w = omega arith in
    let counted : Counts s h (containers w q (drop h c)) c = grind (arith, common_steps, counts_at_most) in
    grind (arith, common_steps, take-append-drop, counts_more)

-- what a list of calls accepted is what its first ones did, and what the others did
pub accepted_parts : (before after : List Call)
    → accepted_by_all (before ++ after) ≡ accepted_by_all before ++ accepted_by_all after
accepted_parts = flat_map-append (λ call. accepted_of call.asked (mark_of call.answer))

-- The call during which this many bytes had been written, no later than a given one of a list.
pub record During (calls before : List Call) (medium : MediumState) (j : ℕ) : Type 0 where
  pub first : List Call
  pub rest : List Call
  pub call : Call
  pub others : List Call
  pub parts : calls ≡ first ++ (call ∷ rest)
  pub from : call.began ≤ j
  pub to : j ≤ begins_at rest medium.past
  pub earlier : before ≡ first ++ others

pub during : (before after : List Call) (call : Call) (medium : MediumState) (j : ℕ)
    → begins_at (before ++ (call ∷ after)) medium.past ≤ j → j ≤ begins_at after medium.past
    → During (before ++ (call ∷ after)) before medium j
during [] after call medium j from to = record {
  first = [];
  rest = after;
  call = call;
  others = [];
  parts = refl;
  from = from;
  to = to;
  earlier = refl;
}
during (one ∷ before) after call medium j from to =
    let next = begins_at (before ++ (call ∷ after)) medium.past in
    elim (cases_lt next j) [
      | inr here ↦ record {
        first = [];
        rest = before ++ (call ∷ after);
        call = one;
        others = one ∷ before;
        parts = refl;
        from = from;
        to = here;
        earlier = refl;
      }
      | inl later ↦ let d = during before after call medium j (omega (arith, later)) to in record {
        first = one ∷ d.first;
        rest = d.rest;
        call = d.call;
        others = d.others;
        parts = ap (λ l. one ∷ l) d.parts;
        from = d.from;
        to = d.to;
        earlier = ap (λ l. one ∷ l) d.earlier;
      }
    ]

-- Calls in each of whose states the samples count, and what is stored stays so.
module _ (s : WavSpecEx) (h len : ℕ) (found : List (List ℕ)) (calls : List Call)
    (end : MediumState) (base : List ℕ) (some : 1 ≤ s.bytes_per_sample)
    (counted : CountedAtEach s h found calls end) (stored : StoredAtEach s h found calls end)
    (in_order : BeginInOrder s h found calls end)
    (sizes : (k : ℕ) → begins_at calls end.past ≤ k → k ≤ length end.past
    → ChangesSizesOnly h base (moment end.start end.past k))
    (long : (k : ℕ) → begins_at calls end.past ≤ k → k ≤ length end.past → h ≤ length (moment end.start end.past k))
    (head : Head base s len h) (whole : h ≤ length base)
    (wide : AreWide s.bytes_per_sample (found ++ accepted_by_all calls)) where
  abbrev w : ℕ
  w = s.bytes_per_sample

  abbrev at : ℕ → List ℕ
  at k = moment end.start end.past k

  abbrev says : ℕ → ℕ
  says k = field (h - 4) (at k)

  abbrev list : List Call → List (List ℕ)
  list before = found ++ accepted_by_all before

  -- what was accepted before others comes first
  earlier : (first others : List Call) → list (first ++ others) ≡ list first ++ accepted_by_all others
  earlier first others = grind (arith, common_steps)

  pub wide_before : (before after : List Call) → calls ≡ before ++ after → AreWide w (list before)
  wide_before before after same = grind (arith, common_steps, wide_front, AreWide, earlier)

  -- what a state counts is among the bytes accepted before its call, and is stored
  covered : (before after : List Call) (call : Call) (j : ℕ)
      → calls ≡ before ++ (call ∷ after) → call.began ≤ j → j ≤ begins_at after end.past
      → (cover w (says j) ≤ length (concat (list before)))
      × (take (cover w (says j)) (drop h (at j)) ≡ take (cover w (says j)) (concat (list before)))
  covered before after call j same from to =
      let c = counted before after call j same from to in
      let n = cover w (says j) in
      let all = list before in
      let first = take c.samples all in
      let rest = concat (drop c.samples all) in
      let size : length (concat first) ≡ c.samples * w =
      length-concat w first (wide_take w c.samples all (wide_before before (call ∷ after) same))
      ∙ ap (λ k. k * w) (length-take-le c.samples all c.among) in
      let few : n ≤ c.samples * w = grind (arith, common_steps, mul-le, cover_count) in
      let parts = concat_front c.samples all in
      grind (arith, common_steps, length-append, take-take, take-append-le)

  counted_after_loss : CountedAfterLoss s h found calls end
  counted_after_loss before after call f k sector c same begun le from to ascends sized one lost =
      let all = list before in
      let bytes = concat all in
      let wide_all = wide_before before (call ∷ after) same in
      let beyond : 20 ≤ h = head_beyond base s len h head in
      let within : k ≤ length end.past = omega (arith, to, (in_order before (call ∷ []) after same).1) in
      let at_call = λ (j : ℕ) (since : f ≤ j) (until : j ≤ k). during before after call end j
      (omega (arith, begun, since, ap (λ l. begins_at l end.past) same)) (omega (arith, until, to)) in
      let more = λ (j : ℕ) (since : f ≤ j) (until : j ≤ k).
      let d = at_call j since until in
      (let e : all ≡ list d.first ++ accepted_by_all d.others = ap list d.earlier ∙ earlier d.first d.others in e) in
      let fits : (j : ℕ) → f ≤ j → j ≤ k → cover w (says j) ≤ length bytes = λ j since until.
      let d = at_call j since until in
      omega (
        arith,
        (covered d.first d.rest d.call j (same ∙ d.parts) d.from d.to).0,
        ap (λ l. length (concat l)) (more j since until),
        ap length (concat-append (list d.first) (accepted_by_all d.others)),
        length-append (concat (list d.first)) (concat (accepted_by_all d.others)),
      ) in
      let kept : (j m : ℕ) → f ≤ j → j ≤ m → m ≤ k
      → take (cover w (says j)) (drop h (at m)) ≡ take (cover w (says j)) bytes = λ j m since upto until.
      let d = at_call j since (omega (arith, upto, until)) in
      let more_j = more j since (omega (arith, upto, until)) in
      let early = concat (list d.first) in
      let n = cover w (says j) in
      let here = covered d.first d.rest d.call j (same ∙ d.parts) d.from d.to in
      let e : h + 0 ≡ h = omega arith in
      let later : take n (drop (h + 0) (at m)) ≡ take n early =
      stored d.first (d.call ∷ d.rest) 0 n j m (same ∙ d.parts) d.from upto
      (omega (arith, until, within)) (omega (arith, here.0)) (ap (λ p. take n (drop p (at j))) e ∙ here.1) in
      ap (λ p. take n (drop p (at m))) (sym e) ∙ later
      ∙ sym (take-append-le n early (concat (accepted_by_all d.others)) here.0)
      ∙ ap (take n) (sym (ap concat more_j ∙ concat-append (list d.first) (accepted_by_all d.others))) in
      let tall : (j : ℕ) → f ≤ j → j ≤ k → h ≤ length (at j) =
      λ j since until. long j (omega (arith, begun, since)) (omega (arith, until, within)) in
      let changes : (j : ℕ) → f ≤ j → j ≤ k → ChangesSizesOnly h base (at j) =
      λ j since until. sizes j (omega (arith, begun, since)) (omega (arith, until, within)) in
      let (says_is, here, few, head_is) = left_after h bytes base end.start end.past (cover w) f k
      beyond within ascends tall fits kept changes sector sized one c lost s len head whole in
      let v = field (h - 4) c in
      let q = (v + (w - 1)) / w in
      let among : q ≤ length all = elim (cases_lt (length all) q) [
        | inl over ↦ absurd (omega (
          arith,
          some,
          few,
          length-concat w all wide_all,
          mul-le (suc (length all)) w q w (omega (arith, over)) (omega arith),
        ))
        | inr under ↦ under
      ] in
      let chosen = lost.sectors ((h - 4) / sector) in (
        counts_stored s h q all c some wide_all head_is (le_cover w v some) among here,
        (chosen.0, chosen.1, chosen.2, says_is),
        head_is,
      )

  -- the length field is that of a state, and no published sample is lost
  kept_after_loss : NeverLess s h found calls end → FlushedByFlushes s h found calls end
      → KeptAfterLoss s h found calls end
  kept_after_loss never flushed f sector c begun later known ascends sized one lost =
      let k = length end.past in
      let beyond : 20 ≤ h = head_beyond base s len h head in
      let chosen = lost.sectors ((h - 4) / sector) in (
        (
          chosen.0,
          chosen.1,
          chosen.2,
          says_chosen h [] base end.start end.past (λ _. 0) f k beyond (omega arith) ascends
              (λ j since until. long j (omega (arith, begun, since)) until)
              (λ _ _ _. omega arith) (λ _ _ _ _ _. refl)
              (λ j since until. sizes j (omega (arith, begun, since)) until) sector sized one c lost,
        ),
        λ before after flush same has_all uncut. omega (
          arith,
          uncut.3,
          never before after flush uncut.0 same has_all
              (omega (arith, flushed before after flush same has_all, later, uncut.1)) uncut.2
              uncut.4,
        ),
      )

  pub after_losses : NeverLess s h found calls end → FlushedByFlushes s h found calls end
      → CountedAfterLoss s h found calls end × KeptAfterLoss s h found calls end
  after_losses never flushed = (counted_after_loss, kept_after_loss never flushed)
