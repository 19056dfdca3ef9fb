-- Bytes that are written again at their place change nothing.
use Rattle.std.proofs.lemmas.Grind.{common_steps}
use Rattle.std.proofs.lemmas.Bool.{cases_lt, false≢true}
use Rattle.std.proofs.lemmas.List.{take_all}
use Rattle.std.proofs.Common.{◌≡◌, ℕ, zero, suc, ◌+◌, ◌-◌, ◌<◌, ◌≤◌, max, min, true, List, [], ◌∷◌, ◌++◌, length, drop, take, Result, Ok, Err, MatchResult, is_ok, refl, sym, ◌∙◌, ap, subst, arith, inl, inr, ◌⊎◌, append_assoc, length-append, length-take, take-append-drop}
use Rattle.std.specs.Prelude.{OnOk}
use Rattle.std.specs.declared.io.Error.{Error as IoFault}
use Rattle.hound_number.specs.{AreBytes}
use Rattle.hound_durable.specs.{SurvivesLoss, byte_at}
use Rattle.hound_medium.specs.{Flushes, MediumState, faults_after, moment, overlay, placed, put_at}
use Rattle.hound_medium.proofs.Overlays.{length-placed, overlay-append, placed-append, take-placed}
use Rattle.hound_medium.proofs.Spans.{moment_after, moment_before}
use Rattle.hound_writer.specs.Effects.{Log}
use Rattle.hound_writer.specs.Parts.{PutsAt}
use Rattle.hound_writer.specs.Repeating.{IsSaid, Repeats, written_first}

-- a byte that is written twice
put_twice : (p b : ℕ) (c : List ℕ) → put_at p b (put_at p b c) ≡ put_at p b c
put_twice zero b [] = refl
put_twice zero b (x ∷ c) = refl
put_twice (suc p) b [] = ap (λ (l : List ℕ). 0 ∷ l) (put_twice p b [])
put_twice (suc p) b (x ∷ c) = ap (λ (l : List ℕ). x ∷ l) (put_twice p b c)

-- bytes at two places, in either order
put_both : (p q a b : ℕ) (c : List ℕ) → p < q → put_at p a (put_at q b c) ≡ put_at q b (put_at p a c)
put_both p zero a b c less = absurd (omega (arith, less))
put_both zero (suc q) a b [] less = refl
put_both zero (suc q) a b (x ∷ c) less = refl
put_both (suc p) (suc q) a b [] less = ap (λ (l : List ℕ). 0 ∷ l) (put_both p q a b [] (omega (arith, less)))
put_both (suc p) (suc q) a b (x ∷ c) less = ap (λ (l : List ℕ). x ∷ l) (put_both p q a b c (omega (arith, less)))

-- a byte before others
put_before : (p q a : ℕ) (bytes : List ℕ) (c : List ℕ) → p < q
    → put_at p a (overlay c (placed q bytes)) ≡ overlay (put_at p a c) (placed q bytes)
put_before p q a [] c less = refl
put_before p q a (b ∷ bytes) c less =
    put_before p (suc q) a bytes (put_at q b c) (omega (arith, less))
    ∙ ap (λ c. overlay c (placed (suc q) bytes)) (put_both p q a b c less)

-- a beginning of bytes, and then again a beginning of them, are the longer of the two
pub overlay_again : (bytes : List ℕ) (n i at : ℕ) (c : List ℕ)
    → overlay (overlay c (placed at (take n bytes))) (placed at (take i bytes))
    ≡ overlay c (placed at (take (max n i) bytes))
overlay_again [] n i at c =
    (λ k. overlay (overlay c (placed at (take_none n k))) (placed at (take_none i k)))
    ∙ ap (λ l. overlay c (placed at l)) (sym (take_none (max n i)))
  where
    take_none : (n : ℕ) → take {A = ℕ} n [] ≡ []
    take_none zero = refl
    take_none (suc n) = refl
overlay_again (b ∷ bytes) zero i at c =
    ap (λ n. overlay c (placed at (take n (b ∷ bytes)))) (let e : i ≡ max zero i = omega arith in e)
overlay_again (b ∷ bytes) (suc n) zero at c =
    ap (λ n. overlay c (placed at (take n (b ∷ bytes)))) (let e : suc n ≡ max (suc n) zero = omega arith in e)
overlay_again (b ∷ bytes) (suc n) (suc i) at c =
    let d = put_at at b c in
    let e : suc (max n i) ≡ max (suc n) (suc i) = omega arith in
    ap (λ c. overlay c (placed (suc at) (take i bytes)))
    (put_before at (suc at) b (take n bytes) d (omega arith)
    ∙ ap (λ d. overlay d (placed (suc at) (take n bytes))) (put_twice at b c))
    ∙ overlay_again bytes n i (suc at) d
    ∙ ap (λ n. overlay c (placed at (take n (b ∷ bytes)))) e

-- of these bytes as many were written as of a beginning
length_first : (at : ℕ) (bytes : List ℕ) (n : ℕ) (past : List (ℕ × ℕ)) → n ≤ length bytes
    → length (past ++ placed at (take n bytes)) ≡ length past + n
length_first at bytes n past within = grind (arith, common_steps, length-append, length-take, length-placed)

take_less : (i n : ℕ) (l : List ℕ) → i ≤ n → take i (take n l) ≡ take i l
take_less i n l less = grind (arith, common_steps)

module _ (at : ℕ) (bytes : List ℕ) (m : MediumState) (replays : m.contents ≡ overlay m.start m.past) where
  -- the states of a medium after the first i of these bytes
  state_first : (n i : ℕ) → i ≤ n → n ≤ length bytes → let w = written_first at bytes n m in
      moment w.start w.past (length m.past + i) ≡ overlay m.contents (placed at (take i bytes))
  state_first n i less within = grind (arith, common_steps, take-placed, moment_after, take_less)

  module _ (n : ℕ) (old new : MediumState) (within : n ≤ length bytes)
      (repeats : Repeats (written_first at bytes n m) old)
      (result : Result (Unit {0}) IoFault) (puts : PutsAt true at bytes result old new) where
    abbrev far : ℕ
    far = length old.past

    abbrev count : ℕ
    count = puts.count

    abbrev once : MediumState
    once = written_first at bytes (max n count) m

    most : max n count ≤ length bytes
    most = omega (arith, within, puts.within)

    long : length once.past ≡ length m.past + max n count
    long = length_first at bytes (max n count) m.past most

    long_before : length m.past + n ≡ length (written_first at bytes n m).past
    long_before = sym (length_first at bytes n m.past within)

    long_now : length new.past ≡ far + count
    long_now = ap length (puts.past refl) ∙ length_first at bytes count old.past puts.within

    abbrev pick : (k : ℕ) → (far < k) ⊎ (k ≤ far) → ℕ
    pick k (inl more) = length m.past + max n (min (k - far) count)
    pick k (inr before) = repeats.state k

    old_is : overlay old.start old.past ≡ overlay m.contents (placed at (take n bytes))
    old_is =
        sym (ap (overlay old.start) (take_all far old.past (omega arith)))
        ∙ repeats.same far (omega arith)
        ∙ ap (moment m.start (m.past ++ placed at (take n bytes))) (repeats.last ∙ sym long_before)
        ∙ state_first n n (omega arith) within

    -- the further bytes
    abbrev rest : List ℕ
    rest = drop n (take (max n count) bytes)

    split : once.past ≡ (written_first at bytes n m).past ++ placed (at + length (take n bytes)) rest
    split =
        let parts : take (max n count) bytes ≡ take n bytes ++ rest =
        sym (take-append-drop n (take (max n count) bytes))
        ∙ ap (λ l. l ++ rest) (take_less n (max n count) bytes (omega arith)) in
        ap (λ l. m.past ++ placed at l) parts ∙ ap (λ l. m.past ++ l) (placed-append at (take n bytes) rest)
        ∙ sym (append_assoc m.past (placed at (take n bytes)) (placed (at + length (take n bytes)) rest))

    in_order : (j k : ℕ) (dj : (far < j) ⊎ (j ≤ far)) (dk : (far < k) ⊎ (k ≤ far)) → j ≤ k → pick j dj ≤ pick k dk
    in_order j k (inl _) (inl _) le = omega (arith, le)
    in_order j k (inl more) (inr before) le = absurd (omega (arith, more, before, le))
    in_order j k (inr _) (inl _) le = omega (arith, repeats.within j, long_before)
    in_order j k (inr _) (inr _) le = repeats.in_order j k le

    inside : (k : ℕ) (d : (far < k) ⊎ (k ≤ far)) → pick k d ≤ length once.past
    inside k (inl _) = omega (arith, long)
    inside k (inr _) = omega (arith, repeats.within k, long, long_before)

    same : (k : ℕ) (d : (far < k) ⊎ (k ≤ far)) → k ≤ length new.past
        → moment new.start new.past k ≡ moment once.start once.past (pick k d)
    same k (inr before) to =
        (λ i. moment (puts.start i) (puts.past refl i) k)
        ∙ moment_before old.start old.past (placed at (take count bytes)) k before
        ∙ repeats.same k before
        ∙ sym (moment_before m.start (written_first at bytes n m).past (placed (at + length (take n bytes)) rest)
        (repeats.state k) (repeats.within k))
        ∙ ap (λ past. moment m.start past (repeats.state k)) (sym split)
    same k (inl more) to =
        let i = k - far in
        let less : i ≤ count = omega (arith, to, long_now, more) in
        let is_k : k ≡ far + i = omega (arith, more) in
        let is_i : length m.past + max n i ≡ length m.past + max n (min i count) = omega (arith, less) in
        (λ j. moment (puts.start j) (puts.past refl j) (is_k j))
        ∙ moment_after old.start old.past (placed at (take count bytes)) i
        ∙ (λ j. overlay (old_is j) (take-placed i at (take count bytes) j))
        ∙ ap (λ l. overlay (overlay m.contents (placed at (take n bytes))) (placed at l)) (take_less i count bytes less)
        ∙ overlay_again bytes n i at m.contents
        ∙ sym (state_first (max n count) (max n i) (omega (arith, less)) most)
        ∙ ap (moment once.start once.past) is_i

    last_is : (d : (far < length new.past) ⊎ (length new.past ≤ far)) → pick (length new.past) d ≡ length once.past
    last_is (inl more) = omega (arith, long_now, long)
    last_is (inr before) =
        let none : length new.past ≡ far = omega (arith, before, long_now) in
        let here = ap repeats.state none in
        omega (arith, here, repeats.last, long, long_before, long_now, before)

    is_synced : (d : (far < new.flushed) ⊎ (new.flushed ≤ far)) → m.flushed ≤ pick new.flushed d
    is_synced (inl more) = absurd (omega (arith, more, puts.flushed, repeats.flushed))
    is_synced (inr before) = let here = ap repeats.state puts.flushed in omega (arith, here, repeats.synced)

    pub written_again : Repeats once new
    written_again = record {
      state = λ k. pick k (cases_lt far k);
      in_order = λ j k. in_order j k (cases_lt far j) (cases_lt far k);
      within = λ k. inside k (cases_lt far k);
      same = λ k. same k (cases_lt far k);
      last = last_is (cases_lt far (length new.past));
      contents = puts.contents ∙ ap (λ c. overlay c (placed at (take count bytes))) repeats.contents
          ∙ overlay_again bytes n count at m.contents;
      flushed = omega (arith, puts.flushed, repeats.flushed, long_now);
      synced = is_synced (cases_lt far new.flushed);
    }

    -- and then its end is reported
    pub written_once : (said : Result (Unit {0}) IoFault) → IsSaid said result → AreBytes new.contents
        → (end : Log) × PutsAt true at bytes said m end.state × Repeats end.state new
    written_once said is small =
        let state : MediumState = record once { place = at + length bytes; faults = faults_after said m.faults } in
        let log : Log = record {
          state = state;
          replays = (λ i. overlay (replays i) (placed at (take (max n count) bytes)))
              ∙ sym (overlay-append m.start m.past (placed at (take (max n count) bytes)));
          small = subst AreBytes written_again.contents small;
        } in (
          log,
          record {
            count = max n count;
            within = most;
            whole = all said is;
            contents = refl;
            place = at_end said;
            start = refl;
            past = λ _. refl;
            flushed = refl;
            faults = refl;
          },
          record {
            state = written_again.state;
            in_order = written_again.in_order;
            within = written_again.within;
            same = written_again.same;
            last = written_again.last;
            contents = written_again.contents;
            flushed = written_again.flushed;
            synced = written_again.synced;
          },
        )
      where
        all : (said : Result (Unit {0}) IoFault) → IsSaid said result → OnOk said (max n count ≡ length bytes)
        all (Ok x) is = by result (is refl) puts.whole
          where
            by : (r : Result (Unit {0}) IoFault) → is_ok r ≡ true → OnOk r (count ≡ length bytes)
                → max n count ≡ length bytes
            by (Ok y) ok whole = omega (arith, whole, within)
            by (Err e) ok whole = absurd (false≢true ok)
        all (Err e) is = tt

        at_end : (said : Result (Unit {0}) IoFault) → OnOk said (at + length bytes ≡ at + length bytes)
        at_end (Ok x) = refl
        at_end (Err e) = tt

-- how far a medium is flushed then
abbrev flushed_to : Result (Unit {0}) IoFault → ℕ → ℕ → ℕ
flushed_to (Ok x) all before = all
flushed_to (Err e) all before = before

-- a sync whose end is reported
pub synced_once : (m : Log) (old new : MediumState) (result said : Result (Unit {0}) IoFault) → Repeats m.state old
    → Flushes result old new → IsSaid said result
    → (end : Log) × Flushes said m.state end.state × Repeats end.state new
synced_once m old new result said repeats flushes is =
    let end : MediumState = record m.state {
      flushed = flushed_to said (length m.state.past) m.state.flushed;
      faults = faults_after said m.state.faults;
    } in
    let flushed = flushes.flushed in (
      record { state = end; replays = m.replays; small = m.small },
      record {
        stays = record { contents = refl; start = refl; past = refl };
        place = refl;
        flushed = is_flushed said;
        faults = refl;
      },
      record {
        state = repeats.state;
        in_order = repeats.in_order;
        within = repeats.within;
        same = λ k to. (λ i. moment (flushes.stays.start i) (flushes.stays.past i) k)
            ∙ repeats.same k (omega (arith, to, ap length flushes.stays.past));
        last = ap (λ (p : List (ℕ × ℕ)). repeats.state (length p)) flushes.stays.past ∙ repeats.last;
        contents = flushes.stays.contents ∙ repeats.contents;
        flushed = inside result flushes.flushed;
        synced = synced said result is flushes.flushed;
      },
    )
  where
    long : length new.past ≡ length old.past
    long = ap length flushes.stays.past

    inside : (r : Result (Unit {0}) IoFault)
        → MatchResult r (λ _. new.flushed ≡ length new.past) (λ _. new.flushed ≡ old.flushed)
        → new.flushed ≤ length new.past
    inside (Ok x) is = omega (arith, is)
    inside (Err e) is = omega (arith, is, long, repeats.flushed)

    is_flushed : (said : Result (Unit {0}) IoFault)
        → MatchResult said (λ _. flushed_to said (length m.state.past) m.state.flushed ≡ length m.state.past)
        (λ _. flushed_to said (length m.state.past) m.state.flushed ≡ m.state.flushed)
    is_flushed (Ok x) = refl
    is_flushed (Err e) = refl

    before : m.state.flushed ≤ repeats.state new.flushed
    before = by result flushes.flushed
      where
        by : (r : Result (Unit {0}) IoFault)
            → MatchResult r (λ _. new.flushed ≡ length new.past) (λ _. new.flushed ≡ old.flushed)
            → m.state.flushed ≤ repeats.state new.flushed
        by (Ok x) is = omega (
          arith,
          repeats.synced,
          repeats.in_order old.flushed new.flushed (omega (arith, is, long, repeats.flushed)),
        )
        by (Err e) is = let here = ap repeats.state is in omega (arith, here, repeats.synced)

    synced : (said r : Result (Unit {0}) IoFault) → IsSaid said r
        → MatchResult r (λ _. new.flushed ≡ length new.past) (λ _. new.flushed ≡ old.flushed)
        → flushed_to said (length m.state.past) m.state.flushed ≤ repeats.state new.flushed
    synced (Ok x) (Ok y) is all = let here = ap repeats.state (all ∙ long) in omega (arith, here, repeats.last)
    synced (Ok x) (Err e) is same = absurd (false≢true (is refl))
    synced (Err e) r is same = before

-- and one whose end isn't
pub repeats_more : (at : ℕ) (bytes : List ℕ) (m : Log) (n : ℕ) (old new : MediumState)
    (result : Result (Unit {0}) IoFault)
    → n ≤ length bytes → Repeats (written_first at bytes n m.state) old → PutsAt true at bytes result old new
    → (n : ℕ) × (n ≤ length bytes) × Repeats (written_first at bytes n m.state) new
repeats_more at bytes m n old new result within repeats puts = (
  max n puts.count,
  omega (arith, within, puts.within),
  written_again at bytes m.state m.replays n old new within
      repeats result puts,
)

-- before anything is written
pub repeats_begun : (at : ℕ) (bytes : List ℕ) (m again : MediumState) → Repeats m again
    → Repeats (written_first at bytes 0 m) again
repeats_begun at bytes m again repeats = grind (arith, common_steps)

-- where each effect was performed once
pub repeats_itself : (m : MediumState) → m.flushed ≤ length m.past → Repeats m m
repeats_itself m inside = record {
  state = λ k. min k (length m.past);
  in_order = λ j k le. omega (arith, le);
  within = λ k. omega arith;
  same = λ k to. ap (moment m.start m.past) (omega (arith, to));
  last = omega arith;
  contents = refl;
  flushed = inside;
  synced = omega (arith, inside);
}

-- what a loss of power leaves of a file with effects that were performed again, it may leave of the other
pub repeated_survives : (once again : MediumState) (r : Repeats once again) (sector f k : ℕ) (contents : List ℕ)
    → k ≤ length again.past → SurvivesLoss sector again.start again.past f k contents
    → SurvivesLoss sector once.start once.past (r.state f) (r.state k) contents
repeated_survives once again r sector f k contents within survives =
    let (j, from, to, long) = survives.long in record {
      long = (
        r.state j,
        r.in_order f j from,
        r.in_order j k to,
        long ∙ ap length (r.same j (omega (arith, to, within))),
      );
      sectors = λ n. let (j, from, to, same) = survives.sectors n in (
        r.state j,
        r.in_order f j from,
        r.in_order j k to,
        λ i at inside. same i at inside ∙ ap (λ c. byte_at c i) (r.same j (omega (arith, to, within))),
      );
    }
