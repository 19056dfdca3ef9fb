-- What a reader gets that takes the length in one state of a recording, and the bytes that it counts in later ones.
use Rattle.std.proofs.lemmas.Grind.{common_steps}
use Rattle.std.proofs.Common.{◌≡◌, ℕ, zero, suc, ◌+◌, ◌-◌, ◌*◌, ◌/◌, ◌%◌, ◌≤◌, ◌⊎◌, inl, inr, List, [], ◌∷◌, ◌++◌, length, take, drop, refl, sym, ◌∙◌, ap, subst, arith, append_assoc, length-append, drop-drop}
use Rattle.std.proofs.lemmas.Bool.{cases_lt}
use Rattle.std.proofs.lemmas.List.{append-nil, length-take-le, take-take, take-append-le}
use Rattle.std.specs.List.{concat}
use Rattle.hound_spec.specs.declared.spec.WavSpecEx.{WavSpecEx}
use Rattle.hound_number.specs.{AreBytes, bytes_of, mix, number}
use Rattle.hound_medium.specs.{moment, MediumState}
use Rattle.hound_medium.proofs.Overlays.{front_part}
use Rattle.hound_medium.proofs.Torn.{bytes_at, number_at_small}
use Rattle.hound_walk.proofs.TakenLemmas.{head_is_there}
use Rattle.hound_sample.proofs.Joined.{length-concat}
use Rattle.hound_writer.specs.{Asked, Begun, Call, Counts, IsStored, field, found_in, publish, start_of}
use Rattle.hound_repair.proofs.Joining.{AreWide, concat-append, concat_front, wide_front, wide_take}
use Rattle.hound_writer.proofs.Heads.{head_beyond}
use Rattle.hound_follow.specs.{number_from}
use Rattle.hound.specs.Headline.{Keeps, accepted_by_all, begins_at}
use Rattle.hound.proofs.Calling.{last_of, length-concat-append}
use Rattle.hound.proofs.Checkpoints.{accepted_after}
use Rattle.hound.proofs.PowerLoss.{during}

module _ (s : WavSpecEx) (file : Begun) (calls : List Call) (m : MediumState) (keeps : Keeps s file calls m) where
  abbrev h : ℕ
  h = start_of s file

  abbrev w : ℕ
  w = s.bytes_per_sample

  abbrev at : ℕ → List ℕ
  at k = moment m.start m.past k

  abbrev says : ℕ → ℕ
  says k = field (h - 4) (at k)

  abbrev list : List Call → List (List ℕ)
  list before = found_in file ++ accepted_by_all before

  wide_of : (before after : List Call) → calls ≡ before ++ after → AreWide w (list before)
  wide_of before after same =
      wide_front w (list before) (accepted_by_all after)
      (subst (AreWide w) (ap list same ∙ accepted_after (found_in file) before after) keeps.at_end.wide)

  -- the bytes of the first calls are the front of all
  front : (before after : List Call) → calls ≡ before ++ after → (n : ℕ) → n ≤ length (concat (list before))
      → take n (concat (list before)) ≡ take n (concat (list calls))
  front before after same n few =
      sym (ap (λ l. take n (concat (list l))) same
      ∙ ap (λ l. take n (concat l)) (accepted_after (found_in file) before after)
      ∙ ap (take n) (concat-append (list before) (accepted_by_all after))
      ∙ take-append-le n (concat (list before)) (concat (accepted_by_all after)) few)

  fewer : (before after : List Call) → calls ≡ before ++ after
      → length (concat (list before)) ≤ length (concat (list calls))
  fewer before after same =
      omega (
        arith,
        ap (λ l. length (concat (list l))) same,
        ap (λ l. length (concat l)) (accepted_after (found_in file) before after),
        length-concat-append (list before) (accepted_by_all after),
      )

  -- A state, the calls that had returned before it, and the one under way: so many bytes are counted of the samples
  -- that those accepted, and they are stored.
  record Seen (k : ℕ) : Type 0 where
    first : List Call
    rest : List Call
    parts : calls ≡ first ++ rest
    from : begins_at rest m.past ≤ k
    few : says k ≤ length (concat (list first))
    stored : IsStored h (concat (list first)) 0 (says k) (at k)

  from_counts : (before : List Call) (c : List ℕ) → AreWide w (list before) → Counts s h (list before) c
      → (field (h - 4) c ≤ length (concat (list before)))
      × IsStored h (concat (list before)) 0 (field (h - 4) c) c
  from_counts before c wide counts =
      let n = field (h - 4) c in
      let all = list before in
      let head = take counts.samples all in
      let rest = concat (drop counts.samples all) in
      let size : length (concat head) ≡ counts.samples * w =
      length-concat w head (wide_take w counts.samples all wide)
      ∙ ap (λ k. k * w) (length-take-le counts.samples all counts.among) in
      let few : n ≤ length (concat head) = omega (arith, counts.covers, size) in
      let parts : concat all ≡ concat head ++ rest = concat_front counts.samples all in
      let zero_more : h + 0 ≡ h = omega arith in (
        omega (arith, few, ap length parts, length-append (concat head) rest),
        ap (λ p. take n (drop p c)) zero_more
            ∙ sym (take-take n (counts.samples * w) (drop h c) counts.covers)
            ∙ ap (take n) counts.stored
            ∙ sym (take-append-le n (concat head) rest few)
            ∙ ap (take n) (sym parts),
      )

  seen_in : (some : List Call) → calls ≡ some → (k : ℕ) → begins_at calls m.past ≤ k → k ≤ length m.past → Seen k
  seen_in [] none k from to =
      let last : length m.past ≡ k = omega (arith, from, to, ap (λ l. begins_at l m.past) none) in
      let whole : m.contents ≡ at k = sym keeps.promises.now ∙ ap at last in
      let (few, stored) = from_counts calls (at k) (wide_of calls [] (sym (append-nil calls)))
      (subst (Counts s h (list calls)) whole keeps.at_end.counts) in
      record {
        first = calls;
        rest = [];
        parts = sym (append-nil calls);
        from = omega (arith, last);
        few = few;
        stored = stored;
      }
  seen_in (one ∷ others) some k from to =
      let (before, last, ends) = last_of calls (omega (arith, ap length some)) in
      let d = during before [] last m k (omega (arith, from, ap (λ l. begins_at l m.past) ends)) to in
      let parts = ends ∙ d.parts in
      let (few, stored) = from_counts d.first (at k) (wide_of d.first (d.call ∷ d.rest) parts)
      (keeps.promises.counted d.first d.rest d.call k parts d.from d.to) in
      record { first = d.first; rest = d.call ∷ d.rest; parts = parts; from = d.from; few = few; stored = stored }

  seen : (k : ℕ) → begins_at calls m.past ≤ k → k ≤ length m.past → Seen k
  seen k from to = seen_in calls refl k from to

  -- the front of what calls accepted, once it is stored, is so in each later state
  stays : (first rest : List Call) → calls ≡ first ++ rest → (n k later : ℕ) → begins_at rest m.past ≤ k → k ≤ later
      → later ≤ length m.past → n ≤ length (concat (list first)) → IsStored h (concat (list first)) 0 n (at k)
      → IsStored h (concat (list calls)) 0 n (at later)
  stays first rest parts n k later from le to few stored =
      keeps.promises.stored first rest 0 n k later parts from le to (omega (arith, few)) stored
      ∙ front first rest parts n few

  -- and so is each part of it
  part : (n : ℕ) (c : List ℕ) → IsStored h (concat (list calls)) 0 n c → (a len : ℕ) → a + len ≤ n
      → IsStored h (concat (list calls)) a len c
  part n c stored a len inside =
      let zero_more : h + 0 ≡ h = omega arith in
      let whole : take n (drop h c) ≡ take n (concat (list calls)) =
      sym (ap (λ p. take n (drop p c)) zero_more) ∙ stored in
      ap (take len) (sym (drop-drop a h c))
      ∙ front_part n a len (drop h c) (concat (list calls)) inside whole

  pub counted : (k : ℕ) → begins_at calls m.past ≤ k → k ≤ length m.past → says k ≤ length (concat (list calls))
  counted k from to =
      let v = seen k from to in
      omega (arith, v.few, fewer v.first v.rest v.parts)

  pub reads : (k later a len : ℕ) → begins_at calls m.past ≤ k → k ≤ later → later ≤ length m.past
      → a + len ≤ says k → IsStored h (concat (list calls)) a len (at later)
  reads k later a len from le to inside =
      let v = seen k from (omega (arith, le, to)) in
      part (says k) (at later) (stays v.first v.rest v.parts (says k) k later v.from le to v.few v.stored) a len inside

-- the low bytes of a mixed number are those of the new one, and the others those of the old one
new_a : (j old new : ℕ) → 1 ≤ j → mix j old new % 256 ≡ new % 256
new_a zero old new some = absurd (omega (arith, some))
new_a (suc j) old new some = omega arith

new_b : (j old new : ℕ) → 2 ≤ j → mix j old new / 256 % 256 ≡ new / 256 % 256
new_b zero old new some = absurd (omega (arith, some))
new_b (suc zero) old new some = absurd (omega (arith, some))
new_b (suc (suc j)) old new some = omega arith

new_c : (j old new : ℕ) → 3 ≤ j → mix j old new / 256 / 256 % 256 ≡ new / 256 / 256 % 256
new_c zero old new some = absurd (omega (arith, some))
new_c (suc zero) old new some = absurd (omega (arith, some))
new_c (suc (suc zero)) old new some = absurd (omega (arith, some))
new_c (suc (suc (suc j))) old new some = omega arith

new_d : (j old new : ℕ) → 4 ≤ j → mix j old new / 256 / 256 / 256 % 256 ≡ new / 256 / 256 / 256 % 256
new_d zero old new some = absurd (omega (arith, some))
new_d (suc zero) old new some = absurd (omega (arith, some))
new_d (suc (suc zero)) old new some = absurd (omega (arith, some))
new_d (suc (suc (suc zero))) old new some = absurd (omega (arith, some))
new_d (suc (suc (suc (suc j)))) old new some = omega arith

old_b : (j old new : ℕ) → j ≤ 1 → mix j old new / 256 % 256 ≡ old / 256 % 256
old_b zero old new few = omega arith
old_b (suc zero) old new few = omega arith
old_b (suc (suc j)) old new few = absurd (omega (arith, few))

old_c : (j old new : ℕ) → j ≤ 2 → mix j old new / 256 / 256 % 256 ≡ old / 256 / 256 % 256
old_c zero old new few = omega arith
old_c (suc zero) old new few = omega arith
old_c (suc (suc zero)) old new few = omega arith
old_c (suc (suc (suc j))) old new few = absurd (omega (arith, few))

old_d : (j old new : ℕ) → j ≤ 3 → mix j old new / 256 / 256 / 256 % 256 ≡ old / 256 / 256 / 256 % 256
old_d zero old new few = omega arith
old_d (suc zero) old new few = omega arith
old_d (suc (suc zero)) old new few = omega arith
old_d (suc (suc (suc zero))) old new few = omega arith
old_d (suc (suc (suc (suc j)))) old new few = absurd (omega (arith, few))

-- The lengths that the four bytes of a number are from: those of the low bytes are no older.
record Sources (n : ℕ) : Type 0 where
  a : ℕ
  b : ℕ
  c : ℕ
  d : ℕ
  byte_a : n % 256 ≡ a % 256
  byte_b : n / 256 % 256 ≡ b / 256 % 256
  byte_c : n / 256 / 256 % 256 ≡ c / 256 / 256 % 256
  byte_d : n / 256 / 256 / 256 % 256 ≡ d / 256 / 256 / 256 % 256
  d_c : d ≤ c
  c_b : c ≤ b
  b_a : b ≤ a

-- each of them is no older than that of another number
record NoOlder {n o : ℕ} (u : Sources n) (v : Sources o) : Type 0 where
  a_le : u.a ≤ v.a
  b_le : u.b ≤ v.b
  c_le : u.c ≤ v.c
  d_le : u.d ≤ v.d

-- a number is its own
abbrev own : (n : ℕ) → Sources n
own n = record {
  a = n;
  b = n;
  c = n;
  d = n;
  byte_a = refl;
  byte_b = refl;
  byte_c = refl;
  byte_d = refl;
  d_c = omega arith;
  c_b = omega arith;
  b_a = omega arith;
}

-- the same number has the same ones
same_sources : (n o : ℕ) → o ≡ n → (u : Sources n) → (v : Sources o) × (v.a ≡ u.a) × NoOlder u v
same_sources n o is u = (
  record {
    a = u.a;
    b = u.b;
    c = u.c;
    d = u.d;
    byte_a = ap (λ x. x % 256) is ∙ u.byte_a;
    byte_b = ap (λ x. x / 256 % 256) is ∙ u.byte_b;
    byte_c = ap (λ x. x / 256 / 256 % 256) is ∙ u.byte_c;
    byte_d = ap (λ x. x / 256 / 256 / 256 % 256) is ∙ u.byte_d;
    d_c = u.d_c;
    c_b = u.c_b;
    b_a = u.b_a;
  },
  refl,
  record { a_le = omega arith; b_le = omega arith; c_le = omega arith; d_le = omega arith },
)

-- From one state of a patch to a later one, in which at least one byte of the new length is there.
module _ (x y j old new : ℕ) (there : x ≡ mix j old new) (u : Sources x) (few : u.a ≤ new) where
  abbrev Next : ℕ → Type 0
  Next k = y ≡ mix k old new → j ≤ k → (v : Sources y) × (v.a ≡ new) × NoOlder u v

  stays_b : (k : ℕ) → y ≡ mix k old new → j ≤ k → k ≤ 1 → y / 256 % 256 ≡ u.b / 256 % 256
  stays_b k here le most =
      ap (λ n. n / 256 % 256) here ∙ old_b k old new most ∙ sym (old_b j old new (omega (arith, le, most)))
      ∙ sym (ap (λ n. n / 256 % 256) there) ∙ u.byte_b

  stays_c : (k : ℕ) → y ≡ mix k old new → j ≤ k → k ≤ 2 → y / 256 / 256 % 256 ≡ u.c / 256 / 256 % 256
  stays_c k here le most =
      ap (λ n. n / 256 / 256 % 256) here ∙ old_c k old new most ∙ sym (old_c j old new (omega (arith, le, most)))
      ∙ sym (ap (λ n. n / 256 / 256 % 256) there) ∙ u.byte_c

  stays_d : (k : ℕ) → y ≡ mix k old new → j ≤ k → k ≤ 3 → y / 256 / 256 / 256 % 256 ≡ u.d / 256 / 256 / 256 % 256
  stays_d k here le most =
      ap (λ n. n / 256 / 256 / 256 % 256) here ∙ old_d k old new most
      ∙ sym (old_d j old new (omega (arith, le, most)))
      ∙ sym (ap (λ n. n / 256 / 256 / 256 % 256) there) ∙ u.byte_d

  next_sources : (k : ℕ) → 1 ≤ k → k ≤ 4 → Next k
  next_sources zero some four here le = absurd (omega (arith, some))
  next_sources (suc zero) some four here le = (
    record {
      a = new;
      b = u.b;
      c = u.c;
      d = u.d;
      byte_a = ap (λ n. n % 256) here ∙ new_a (suc zero) old new (omega arith);
      byte_b = stays_b (suc zero) here le (omega arith);
      byte_c = stays_c (suc zero) here le (omega arith);
      byte_d = stays_d (suc zero) here le (omega arith);
      d_c = u.d_c;
      c_b = u.c_b;
      b_a = omega (arith, u.b_a, few);
    },
    refl,
    record { a_le = few; b_le = omega arith; c_le = omega arith; d_le = omega arith },
  )
  next_sources (suc (suc zero)) some four here le = (
    record {
      a = new;
      b = new;
      c = u.c;
      d = u.d;
      byte_a = ap (λ n. n % 256) here ∙ new_a (suc (suc zero)) old new (omega arith);
      byte_b = ap (λ n. n / 256 % 256) here ∙ new_b (suc (suc zero)) old new (omega arith);
      byte_c = stays_c (suc (suc zero)) here le (omega arith);
      byte_d = stays_d (suc (suc zero)) here le (omega arith);
      d_c = u.d_c;
      c_b = omega (arith, u.c_b, u.b_a, few);
      b_a = omega arith;
    },
    refl,
    record { a_le = few; b_le = omega (arith, u.b_a, few); c_le = omega arith; d_le = omega arith },
  )
  next_sources (suc (suc (suc zero))) some four here le = (
    record {
      a = new;
      b = new;
      c = new;
      d = u.d;
      byte_a = ap (λ n. n % 256) here ∙ new_a (suc (suc (suc zero))) old new (omega arith);
      byte_b = ap (λ n. n / 256 % 256) here ∙ new_b (suc (suc (suc zero))) old new (omega arith);
      byte_c = ap (λ n. n / 256 / 256 % 256) here ∙ new_c (suc (suc (suc zero))) old new (omega arith);
      byte_d = stays_d (suc (suc (suc zero))) here le (omega arith);
      d_c = omega (arith, u.d_c, u.c_b, u.b_a, few);
      c_b = omega arith;
      b_a = omega arith;
    },
    refl,
    record {
      a_le = few;
      b_le = omega (arith, u.b_a, few);
      c_le = omega (arith, u.c_b, u.b_a, few);
      d_le = omega arith;
    },
  )
  next_sources (suc (suc (suc (suc zero)))) some four here le = (
    record {
      a = new;
      b = new;
      c = new;
      d = new;
      byte_a = ap (λ n. n % 256) here ∙ new_a (suc (suc (suc (suc zero)))) old new (omega arith);
      byte_b = ap (λ n. n / 256 % 256) here ∙ new_b (suc (suc (suc (suc zero)))) old new (omega arith);
      byte_c = ap (λ n. n / 256 / 256 % 256) here ∙ new_c (suc (suc (suc (suc zero)))) old new (omega arith);
      byte_d = ap (λ n. n / 256 / 256 / 256 % 256) here ∙ new_d (suc (suc (suc (suc zero)))) old new (omega arith);
      d_c = omega arith;
      c_b = omega arith;
      b_a = omega arith;
    },
    refl,
    record {
      a_le = few;
      b_le = omega (arith, u.b_a, few);
      c_le = omega (arith, u.c_b, u.b_a, few);
      d_le = omega (arith, u.d_c, u.c_b, u.b_a, few);
    },
  )
  next_sources (suc (suc (suc (suc (suc k))))) some four here le = absurd (omega (arith, four))

-- the number whose bytes, the low one first, are that of the first number, the second one of the next, and so on
abbrev one_by_one : ℕ → ℕ → ℕ → ℕ → ℕ
one_by_one a b c d =
    a % 256 + 256 * (b / 256 % 256 + 256 * (c / 256 / 256 % 256 + 256 * (d / 256 / 256 / 256 % 256)))

-- the byte with this number of four ones is that of their number
module _ (p : ℕ) (c : List ℕ) (inside : p + 4 ≤ length c) (small : AreBytes c) where
  byte_at : (j : ℕ) → j + 1 ≤ 4 → take 1 (drop (p + j) c) ≡ take 1 (drop j (bytes_of 4 (field p c)))
  byte_at j few =
      ap (take 1) (sym (drop-drop j p c))
      ∙ front_part 4 j 1 (drop p c) (bytes_of 4 (field p c)) few (sym (bytes_at p c inside small))

-- so four bytes from contents of their own are those of four numbers
by_numbers : (p : ℕ) (a b c d : List ℕ) → p + 4 ≤ length a → p + 4 ≤ length b → p + 4 ≤ length c → p + 4 ≤ length d
    → AreBytes a → AreBytes b → AreBytes c → AreBytes d
    → number_from p a b c d ≡ one_by_one (field p a) (field p b) (field p c) (field p d)
by_numbers p a b c d in_a in_b in_c in_d small_a small_b small_c small_d =
    let zero_more : p + 0 ≡ p = omega arith in
    let first : take 1 (drop p a) ≡ take 1 (bytes_of 4 (field p a)) =
    ap (λ q. take 1 (drop q a)) (sym zero_more) ∙ byte_at p a in_a small_a 0 (omega arith) in
    let w = field p a in
    let x = field p b in
    let y = field p c in
    let z = field p d in
    let listed : number_from p a b c d ≡ w % 256 + 256 * (x / 256 % 256 + 256 * (y / 256 / 256 % 256
    + 256 * (z / 256 / 256 / 256 % 256 + 256 * 0))) =
    λ i. number (first i ++ (byte_at p b in_b small_b 1 (omega arith) i
    ++ (byte_at p c in_c small_c 2 (omega arith) i ++ byte_at p d in_d small_d 3 (omega arith) i))) in
    listed ∙ omega arith

-- four bytes of which each is from a length that is no older than those of the bytes above it are no more than the
-- newest of these
four_bytes : (a b c d x0 x1 x2 x3 : ℕ) → x0 % 256 ≡ a % 256 → x1 / 256 % 256 ≡ b / 256 % 256
    → x2 / 256 / 256 % 256 ≡ c / 256 / 256 % 256 → x3 / 256 / 256 / 256 % 256 ≡ d / 256 / 256 / 256 % 256
    → d ≤ c → c ≤ b → b ≤ a → one_by_one x0 x1 x2 x3 ≤ a
four_bytes a b c d x0 x1 x2 x3 at_a at_b at_c at_d d_c c_b b_a =
    let top : d / 256 / 256 / 256 ≤ c / 256 / 256 / 256 = omega (arith, d_c) in
    let two : c / 256 / 256 ≤ b / 256 / 256 = omega (arith, c_b) in
    let one : b / 256 ≤ a / 256 = omega (arith, b_a) in
    let t3 : x3 / 256 / 256 / 256 % 256 ≤ c / 256 / 256 / 256 = omega (arith, at_d, top) in
    let t2 : x2 / 256 / 256 % 256 + 256 * (x3 / 256 / 256 / 256 % 256) ≤ b / 256 / 256 =
    omega (arith, at_c, t3, two) in
    let t1 : x1 / 256 % 256 + 256 * (x2 / 256 / 256 % 256 + 256 * (x3 / 256 / 256 / 256 % 256)) ≤ a / 256 =
    omega (arith, at_b, t2, one) in
    omega (arith, at_a, t1)

publishes_or : (asked : Asked) → (asked ≡ publish) ⊎ (asked ≡ publish → ⊥)
publishes_or asked = grind (arith, common_steps)

module _ (s : WavSpecEx) (file : Begun) (calls : List Call) (m : MediumState) (keeps : Keeps s file calls m) where
  abbrev start : ℕ
  start = start_of s file

  abbrev now : ℕ → List ℕ
  now k = moment m.start m.past k

  abbrev length_at : ℕ → ℕ
  length_at k = field (start - 4) (now k)

  abbrev samples : List Call → List (List ℕ)
  samples before = found_in file ++ accepted_by_all before

  -- the lengths that the four bytes are from in a state, of which the newest is stored
  record Versions (first : List Call) (k : ℕ) : Type 0 where
    of : Sources (length_at k)
    few : of.a ≤ length (concat (samples first))
    stored : IsStored start (concat (samples first)) 0 of.a (now k)

  module _ (first rest : List Call) (call : Call) (parts : calls ≡ first ++ (call ∷ rest)) where
    abbrev new : ℕ
    new = length (concat (samples first))

    -- if the field has not changed
    still : (k j : ℕ) → call.began ≤ k → k ≤ j → j ≤ length m.past → length_at j ≡ length_at k
        → (u : Versions first k) → (v : Versions first j) × NoOlder u.of v.of
    still k j from le to is u =
        let (v, same, older) = same_sources (length_at k) (length_at j) is u.of in
        let few : v.a ≤ new = omega (arith, same, u.few) in (
          record {
            of = v;
            few = few;
            stored =
                let later = keeps.promises.stored first (call ∷ rest) 0 u.of.a k j parts from le to
                (omega (arith, u.few)) u.stored in
                subst (λ n. IsStored start (concat (samples first)) 0 n (now j)) (sym same) later;
          },
          older,
        )

    module _ (begun : begins_at calls m.past ≤ call.began) where
      beyond : (k : ℕ) → call.began ≤ k → k ≤ length m.past → 20 ≤ start
      beyond k from to =
          head_beyond (now k) s (length_at k) start (keeps.promises.head k (omega (arith, begun, from)) to)

      in_call : (k j : ℕ) → call.began ≤ k → k ≤ j → j ≤ begins_at rest m.past → j ≤ length m.past
          → (u : Versions first k) → (v : Versions first j) × NoOlder u.of v.of
      in_call k j from le to within u =
          elim (publishes_or call.asked) [
            | inr writes ↦
                let unchanged : (n : ℕ) → call.began ≤ n → n ≤ begins_at rest m.past
                → length_at n ≡ length_at call.began =
                λ n low high. ap number (front_part start (start - 4) 4 (now n) (now call.began)
                (omega (arith, beyond k from (omega (arith, le, within))))
                (keeps.promises.front_in_writes first rest call n parts writes low high)) in
                still k j from le within
                (unchanged j (omega (arith, from, le)) to ∙ sym (unchanged k from (omega (arith, le, to)))) u
            | inl asked ↦
                let (count, none, grows, whole, each) = keeps.promises.mixed first rest call parts asked in
                let old = length_at call.began in
                let there = each k from (omega (arith, le, to)) in
                let here = each j (omega (arith, from, le)) to in
                elim (cases_lt 0 (count j)) [
                  | inr nothing ↦
                      let no_later : count j ≡ 0 = omega (arith, nothing) in
                      let no_sooner : count k ≡ 0 = omega (arith, nothing, (grows k j le).0) in
                      still k j from le within
                      (here.0 ∙ ap (λ n. mix n old new) no_later ∙ sym (ap (λ n. mix n old new) no_sooner)
                      ∙ sym there.0) u
                  | inl some ↦
                      let (v, all, older) = next_sources (length_at k) (length_at j) (count k) old new there.0
                      u.of u.few (count j) some (grows j j (omega arith)).1 here.0 (grows k j le).0 in (
                        record {
                          of = v;
                          few = omega (arith, all);
                          stored = subst (λ n. IsStored start (concat (samples first)) 0 n (now j)) (sym all)
                              (here.2 some);
                        },
                        older,
                      )
                ]
          ]

  -- a call more accepts no less
  wider : (first rest : List Call) (call : Call) → calls ≡ first ++ (call ∷ rest) → (k : ℕ) → (u : Versions first k)
      → (v : Versions (first ++ (call ∷ [])) k) × NoOlder u.of v.of
  wider first rest call parts k u =
      let more = accepted_after (found_in file) first (call ∷ []) in
      let added = accepted_by_all (call ∷ []) in
      let long : length (concat (samples (first ++ (call ∷ []))))
      ≡ length (concat (samples first)) + length (concat added) =
      ap (λ l. length (concat l)) more ∙ length-concat-append (samples first) added in (
        record {
          of = u.of;
          few = omega (arith, u.few, long);
          stored = u.stored
              ∙ sym (ap (λ l. take u.of.a (concat l)) more
              ∙ ap (take u.of.a) (concat-append (samples first) added)
              ∙ take-append-le u.of.a (concat (samples first)) (concat added) u.few);
        },
        record { a_le = omega arith; b_le = omega arith; c_le = omega arith; d_le = omega arith },
      )

  older_then : {n o p : ℕ} (u : Sources n) (v : Sources o) (w : Sources p) → NoOlder u v → NoOlder v w → NoOlder u w
  older_then u v w first then = record {
    a_le = omega (arith, first.a_le, then.a_le);
    b_le = omega (arith, first.b_le, then.b_le);
    c_le = omega (arith, first.c_le, then.c_le);
    d_le = omega (arith, first.d_le, then.d_le);
  }

  -- a later state, and the call during which it was
  record Reached {first : List Call} {k : ℕ} (u : Versions first k) (j : ℕ) : Type 0 where
    before : List Call
    rest : List Call
    call : Call
    parts : calls ≡ before ++ (call ∷ rest)
    from : call.began ≤ j
    to : j ≤ begins_at rest m.past
    begun : begins_at calls m.past ≤ call.began
    versions : Versions before j
    older : NoOlder u.of versions.of

  go : (rest first : List Call) (call : Call) → calls ≡ first ++ (call ∷ rest) → begins_at calls m.past ≤ call.began
      → (k j : ℕ) → call.began ≤ k → k ≤ begins_at rest m.past → k ≤ j → j ≤ length m.past
      → (u : Versions first k) → Reached u j
  go [] first call parts begun k j from to le last u =
      let (v, older) = in_call first [] call parts begun k j from le last last u in
      record {
        before = first;
        rest = [];
        call = call;
        parts = parts;
        from = omega (arith, from, le);
        to = last;
        begun = begun;
        versions = v;
        older = older;
      }
  go (next ∷ rest) first call parts begun k j from to le last u =
      let mid = next.began in
      elim (cases_lt mid j) [
        | inr within ↦ let (v, older) = in_call first (next ∷ rest) call parts begun k j from le within last u in
            record {
              before = first;
              rest = next ∷ rest;
              call = call;
              parts = parts;
              from = omega (arith, from, le);
              to = within;
              begun = begun;
              versions = v;
              older = older;
            }
        | inl after ↦
            let on = parts ∙ sym (append_assoc first (call ∷ []) (next ∷ rest)) in
            let ordered = keeps.promises.in_order (first ++ (call ∷ [])) (next ∷ []) rest on in
            let (v, older) = in_call first (next ∷ rest) call parts begun k mid from to (omega arith)
            (omega (arith, after, last)) u in
            let (x, wide) = wider first (next ∷ rest) call parts mid v in
            let r = go rest (first ++ (call ∷ [])) next on (omega (arith, begun, from, to)) mid j (omega arith)
            ordered.0 (omega (arith, after)) last x in
            record {
              before = r.before;
              rest = r.rest;
              call = r.call;
              parts = r.parts;
              from = r.from;
              to = r.to;
              begun = r.begun;
              versions = r.versions;
              older = older_then u.of v.of r.versions.of older (older_then v.of x.of r.versions.of wide r.older);
            }
      ]

  -- Of the four bytes, which are taken one by one, the last one first, what they count is stored when the first one is
  -- taken.
  record Covered (k3 k2 k1 k0 : ℕ) : Type 0 where
    first : List Call
    rest : List Call
    n : ℕ
    parts : calls ≡ first ++ rest
    began : begins_at rest m.past ≤ k0
    most : one_by_one (length_at k0) (length_at k1) (length_at k2) (length_at k3) ≤ n
    few : n ≤ length (concat (samples first))
    stored : IsStored start (concat (samples first)) 0 n (now k0)

  covered_from : (first rest : List Call) (call : Call) → calls ≡ first ++ (call ∷ rest)
      → begins_at calls m.past ≤ call.began → (k3 k2 k1 k0 : ℕ) → call.began ≤ k3 → k3 ≤ begins_at rest m.past
      → k3 ≤ k2 → k2 ≤ k1 → k1 ≤ k0 → k0 ≤ length m.past
      → length_at k3 ≤ length (concat (samples first))
      → IsStored start (concat (samples first)) 0 (length_at k3) (now k3) → Covered k3 k2 k1 k0
  covered_from first rest call parts begun k3 k2 k1 k0 from until le2 le1 le0 to few stored =
      let v3 : Versions first k3 = record { of = own (length_at k3); few = few; stored = stored } in
      let r2 = go rest first call parts begun k3 k2 from until le2 (omega (arith, le1, le0, to)) v3 in
      let r1 = go r2.rest r2.before r2.call r2.parts r2.begun k2 k1 r2.from r2.to le1 (omega (arith, le0, to))
      r2.versions in
      let r0 = go r1.rest r1.before r1.call r1.parts r1.begun k1 k0 r1.from r1.to le0 to r1.versions in
      let v2 = r2.versions.of in
      let v1 = r1.versions.of in
      let v0 = r0.versions.of in
      let d_c : length_at k3 ≤ v2.c = omega (arith, r2.older.d_le, v2.d_c) in
      let c_b : v2.c ≤ v1.b = omega (arith, r1.older.c_le, v1.c_b) in
      let b_a : v1.b ≤ v0.a = omega (arith, r0.older.b_le, v0.b_a) in
      record {
        first = r0.before;
        rest = r0.call ∷ r0.rest;
        n = v0.a;
        parts = r0.parts;
        began = r0.from;
        most = four_bytes v0.a v1.b v2.c (length_at k3) (length_at k0) (length_at k1) (length_at k2) (length_at k3)
            v0.byte_a v1.byte_b v2.byte_c refl d_c c_b b_a;
        few = r0.versions.few;
        stored = r0.versions.stored;
      }

  covered : (k3 k2 k1 k0 : ℕ) → begins_at calls m.past ≤ k3 → k3 ≤ k2 → k2 ≤ k1 → k1 ≤ k0 → k0 ≤ length m.past
      → (some : List Call) → calls ≡ some → Covered k3 k2 k1 k0
  covered k3 k2 k1 k0 from le2 le1 le0 to [] none =
      let none_left = ap (λ l. begins_at l m.past) none in
      let e3 : k3 ≡ k0 = omega (arith, from, le2, le1, le0, to, none_left) in
      let e2 : k2 ≡ k0 = omega (arith, from, le2, le1, le0, to, none_left) in
      let e1 : k1 ≡ k0 = omega (arith, from, le2, le1, le0, to, none_left) in
      let v = seen s file calls m keeps k0 (omega (arith, from, le2, le1, le0)) to in
      let n = length_at k0 in
      let same : one_by_one n n n n ≤ n = omega arith in
      record {
        first = v.first;
        rest = v.rest;
        n = n;
        parts = v.parts;
        began = v.from;
        most = subst (λ (x : ℕ × (ℕ × ℕ)). one_by_one n (length_at x.0) (length_at x.1.0) (length_at x.1.1) ≤ n)
            (λ i. (sym e1 i, (sym e2 i, sym e3 i))) same;
        few = v.few;
        stored = v.stored;
      }
  covered k3 k2 k1 k0 from le2 le1 le0 to (one ∷ others) some =
      let (before, last, ends) = last_of calls (omega (arith, ap length some)) in
      let d = during before [] last m k3 (omega (arith, from, ap (λ l. begins_at l m.past) ends))
      (omega (arith, le2, le1, le0, to)) in
      let parts = ends ∙ d.parts in
      let (few, stored) = from_counts s file calls m keeps d.first (now k3)
      (wide_of s file calls m keeps d.first (d.call ∷ d.rest) parts)
      (keeps.promises.counted d.first d.rest d.call k3 parts d.from d.to) in
      let begun : begins_at calls m.past ≤ d.call.began = omega (
        arith,
        (keeps.promises.in_order [] d.first (d.call ∷ d.rest) parts).0,
        ap (λ l. begins_at l m.past) parts,
      ) in
      covered_from d.first d.rest d.call parts begun k3 k2 k1 k0 d.from d.to le2 le1 le0 to few stored

  pub header_there : (k : ℕ) → begins_at calls m.past ≤ k → k ≤ length m.past → (20 ≤ start) × (start ≤ length (now k))
  header_there k from to =
      let head = keeps.promises.head k from to in
      (head_beyond (now k) s (length_at k) start head, head_is_there (now k) s (length_at k) start head)

  length_inside : (k : ℕ) → begins_at calls m.past ≤ k → k ≤ length m.past → start - 4 + 4 ≤ length (now k)
  length_inside k from to =
      let there = header_there k from to in
      omega (arith, there.0, there.1)

  pub reads_one_by_one : (k3 k2 k1 k0 later a len : ℕ) → begins_at calls m.past ≤ k3 → k3 ≤ k2 → k2 ≤ k1 → k1 ≤ k0
      → k0 ≤ later → later ≤ length m.past
      → AreBytes (now k0) → AreBytes (now k1) → AreBytes (now k2) → AreBytes (now k3)
      → a + len ≤ number_from (start - 4) (now k0) (now k1) (now k2) (now k3)
      → IsStored start (concat (samples calls)) a len (now later)
  reads_one_by_one k3 k2 k1 k0 later a len from le2 le1 le0 le to small0 small1 small2 small3 within =
      let is = by_numbers (start - 4) (now k0) (now k1) (now k2) (now k3)
      (length_inside k0 (omega (arith, from, le2, le1, le0)) (omega (arith, le, to)))
      (length_inside k1 (omega (arith, from, le2, le1)) (omega (arith, le0, le, to)))
      (length_inside k2 (omega (arith, from, le2)) (omega (arith, le1, le0, le, to)))
      (length_inside k3 from (omega (arith, le2, le1, le0, le, to))) small0 small1 small2 small3 in
      let inside : a + len ≤ one_by_one (length_at k0) (length_at k1) (length_at k2) (length_at k3) =
      omega (arith, within, is) in
      let c = covered k3 k2 k1 k0 from le2 le1 le0 (omega (arith, le, to)) calls refl in
      part s file calls m keeps c.n (now later)
      (stays s file calls m keeps c.first c.rest c.parts c.n k0 later c.began le to c.few c.stored) a len
      (omega (arith, inside, c.most))

  pub same_length : (k3 k2 k1 k0 n : ℕ) → begins_at calls m.past ≤ k3 → k3 ≤ k2 → k2 ≤ k1 → k1 ≤ k0
      → k0 ≤ length m.past → AreBytes (now k0) → AreBytes (now k1) → AreBytes (now k2) → AreBytes (now k3)
      → length_at k0 ≡ n → length_at k1 ≡ n → length_at k2 ≡ n → length_at k3 ≡ n
      → number_from (start - 4) (now k0) (now k1) (now k2) (now k3) ≡ n
  same_length k3 k2 k1 k0 n from le2 le1 le0 to small0 small1 small2 small3 is0 is1 is2 is3 =
      let inside = length_inside k0 (omega (arith, from, le2, le1, le0)) to in
      let few = number_at_small (start - 4) (now k0) inside small0 in
      let whole : one_by_one n n n n ≡ n = omega (arith, few, is0) in
      by_numbers (start - 4) (now k0) (now k1) (now k2) (now k3) inside
      (length_inside k1 (omega (arith, from, le2, le1)) (omega (arith, le0, to)))
      (length_inside k2 (omega (arith, from, le2)) (omega (arith, le1, le0, to)))
      (length_inside k3 from (omega (arith, le2, le1, le0, to))) small0 small1 small2 small3
      ∙ (λ i. one_by_one (is0 i) (is1 i) (is2 i) (is3 i)) ∙ whole
