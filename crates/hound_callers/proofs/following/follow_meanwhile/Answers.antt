use Rattle.std.proofs.Common.{◌≡◌, ℕ, ◌+◌, ◌-◌, ◌≤◌, List, ◌++◌, length, drop, take, sym, ap, ◌∙◌, arith, rules}
use Rattle.std.specs.List.{concat}
use Rattle.hound.specs.{AreBytes, Begun, Call, IsStored, Keeps, MediumState, WavSpecEx, accepted_by_all, after_count, begins_at, counted_by, field, found_in, greatest_u32, moment, number_from, riff_size, start_of, whole_bytes}
use Rattle.hound_callers.proofs.Counting.{are_all, are_first, counts_all, counts_at_most}
use Rattle.hound_callers.proofs.following.follow_meanwhile.Goals as goal

module _ (c : goal.After-drop-bytes-2) where
  abbrev state : MediumState
  state = record {
    contents = c.args.journal.now.bytes.items;
    place = c.args.journal.now.place;
    faults = c.args.journal.now.faults;
    start = c.args.journal.now.start.items;
    past = c.args.journal.now.past.items;
    flushed = c.args.journal.now.flushed;
  }

  abbrev at : ℕ → List ℕ
  at = moment state.start state.past

  module _ (s : WavSpecEx) (file : Begun) (calls : List Call) (keeps : Keeps s file calls state)
      (start : c.args.recording.data_start ≡ start_of s file) (from : begins_at calls state.past ≤ c.args.k3) where
    abbrev list : List ℕ
    list = concat (found_in file ++ accepted_by_all calls)

    -- what the four bytes say
    abbrev n : ℕ
    n = number_from (start_of s file - 4) (at c.args.k0) (at c.args.k1) (at c.args.k2) (at c.args.k3)

    -- the follower counts what this says
    counted : c.counted.result ≡ counted_by (after_count c.args.recording n).follower
    counted =
        let law = c.a_follower_reads_accepted_samples.ensures in
        let (le2, le1, le0, le) = c.requires.grow in
        let (small3, t3, next3) = c.in_ok-step_at.ensures.steps in
        let (small2, t2, next2) = c.in_ok-step_at-2.ensures.steps in
        let (small1, t1, next1) = c.in_ok-step_at-3.ensures.steps in
        let (small0, t0, next0) = c.in_ok-step_at-4.ensures.steps in
        let last = c.requires.past in
        let there3 = law.there s file calls _ keeps c.args.k3 from (omega (arith, le2, le1, le0, le, last)) in
        let there2 = law.there s file calls _ keeps c.args.k2 (omega (arith, from, le2))
        (omega (arith, le1, le0, le, last)) in
        let there1 = law.there s file calls _ keeps c.args.k1 (omega (arith, from, le2, le1))
        (omega (arith, le0, le, last)) in
        let there0 = law.there s file calls _ keeps c.args.k0 (omega (arith, from, le2, le1, le0))
        (omega (arith, le, last)) in
        let look = c.a_look_takes_the_last_byte_first.ensures c.args.recording _ _ _ _ _ _ _ _ t3 t2 t1 t0
        (omega (arith, start, there3.0)) (omega (arith, start, there0.1)) (omega (arith, start, there1.1))
        (omega (arith, start, there2.1)) (omega (arith, start, there3.1)) next3 next2 next1 next0 in
        c.counted.ensures ∙ ap counted_by look.0
        ∙ ap (λ p. counted_by (after_count c.args.recording
        (number_from (p - 4) (at c.args.k0) (at c.args.k1) (at c.args.k2) (at c.args.k3))).follower) start

    few : c.counted.result ≤ n
    few = omega (arith, counted, counts_at_most c.args.recording n c.requires.begins)

    -- and reads that
    is : c.in_ok-to_vec.field-0.items ≡ take c.counted.result (drop (start_of s file) (at c.args.later))
    is =
        let items : c.in_ok-to_vec.field-0.items ≡ c.part_of.result.now = search rules in
        items ∙ c.part_of.ensures.part
        ∙ (λ i. take c.counted.result (drop (start i) ((c.deref.ensures.value ∙ c.in_ok-bytes.ensures.moment) i)))

    stored : (a len : ℕ) → a + len ≤ n → IsStored (start_of s file) list a len (at c.args.later)
    stored a len inside =
        let (le2, le1, le0, le) = c.requires.grow in
        c.a_follower_reads_accepted_samples.ensures.torn s file calls _ keeps c.args.k3 c.args.k2 c.args.k1 c.args.k0
        c.args.later a len from le2 le1 le0 le c.requires.past c.in_ok-step_at-4.ensures.steps.0
        c.in_ok-step_at-3.ensures.steps.0 c.in_ok-step_at-2.ensures.steps.0 c.in_ok-step_at.ensures.steps.0 inside

    same : (k : ℕ) → field (start_of s file - 4) (at c.args.k3) ≡ k → field (start_of s file - 4) (at c.args.k2) ≡ k
        → field (start_of s file - 4) (at c.args.k1) ≡ k → field (start_of s file - 4) (at c.args.k0) ≡ k → n ≡ k
    same k is3 is2 is1 is0 =
        let (le2, le1, le0, le) = c.requires.grow in
        c.a_follower_reads_accepted_samples.ensures.same s file calls _ keeps c.args.k3 c.args.k2 c.args.k1 c.args.k0 k
        from le2 le1 le0 (omega (arith, le, c.requires.past)) c.in_ok-step_at-4.ensures.steps.0
        c.in_ok-step_at-3.ensures.steps.0 c.in_ok-step_at-2.ensures.steps.0 c.in_ok-step_at.ensures.steps.0
        is0 is1 is2 is3

    enough : (k : ℕ) → field (start_of s file - 4) (at c.args.k3) ≡ k → k ≤ length list
    enough k is3 =
        let (le2, le1, le0, le) = c.requires.grow in
        omega (
          arith,
          is3,
          c.a_follower_reads_accepted_samples.ensures.counted s file calls _ keeps c.args.k3 from
              (omega (arith, le2, le1, le0, le, c.requires.past)),
        )

pub returns-clause-accepted : goal.returns-clause-accepted
returns-clause-accepted c s file calls keeps start from =
    are_first (n c s file calls keeps start from) c.counted.result (start_of s file) _ (at c c.args.later)
    (list c s file calls keeps start from) (few c s file calls keeps start from) (is c s file calls keeps start from)
    (stored c s file calls keeps start from)

pub returns-clause-all : goal.returns-clause-all
returns-clause-all c s file calls k keeps start from is3 is2 is1 is0 fits =
    let whole = same c s file calls keeps start from k is3 is2 is1 is0 in
    are_all (n c s file calls keeps start from) c.counted.result (start_of s file) _ (at c c.args.later)
    (list c s file calls keeps start from) (few c s file calls keeps start from) (is c s file calls keeps start from)
    (stored c s file calls keeps start from) (omega (arith, whole, enough c s file calls keeps start from k is3))
    ∙ counted c s file calls keeps start from
    ∙ ap (λ l. counted_by (after_count c.args.recording l).follower) whole
    ∙ counts_all c.args.recording k c.requires.begins
    (omega (arith, ap (λ p. riff_size p k) start, fits))
