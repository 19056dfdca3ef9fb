-- What the effects of a repair leave, wherever they stop.
use Rattle.std.proofs.lemmas.Grind.{common_steps}
use Rattle.std.proofs.Common.{◌≡◌, ℕ, ◌+◌, ◌-◌, ◌/◌, ◌^◌, ◌≤◌, ◌<◌, Bool, List, Some, zero, suc, true, [], ◌∷◌, ◌++◌, length, take, drop, inl, Result, Ok, Err, refl, sym, ap, ◌∙◌, subst, arith, append-nil, length-drop, length-take}
use Rattle.std.proofs.lemmas.List.{take-take}
use Rattle.std.specs.declared.io.Error.{Error as IoFault}
use Rattle.hound_number.specs.{AreBytes, bytes_of, mix}
use Rattle.hound_number.proofs.Mixing.{mix_all, mix_none}
use Rattle.hound_spec.specs.{riff_size}
use Rattle.hound_medium.specs.{MediumState, Span, faults_after, overlay, placed}
use Rattle.hound_medium.proofs.Overlays.{overlay-append, overlay_at_end, small_overlay}
use Rattle.hound_medium.proofs.Spans.{flushed_since, join, span_puts, span_still}
use Rattle.hound_medium.proofs.Torn.{number_at_mix, number_at_small}
use Rattle.hound_writer.specs.{Log, Performed, PutsAt, nth, SameButSizes, field, with_sizes}
use Rattle.hound_writer.specs.declared.effects.Effect.{Effect}
use Rattle.hound_writer.specs.declared.effects.Effect.TheVariants.{Sync, Pad, Size}
use Rattle.hound_writer.proofs.Patching.{sizes_put}
use Rattle.hound_writer.proofs.Sizes.{field_riff, same_length, same_riff, same_transitive}
use Rattle.hound_repair.specs.Held.{held, mended, missing_pad}
use Rattle.hound_repair.specs.Driving.{contents_after}
use Rattle.hound_repair.specs.Steps.{LeavesMended, PartlyMended, PerformedOn, PerformsOn, mending_effects, pads}

-- the bytes of a number are bytes
pub small_bytes : (k n : ℕ) → AreBytes (bytes_of k n)
small_bytes zero n i = omega arith
small_bytes (suc k) n zero = omega arith
small_bytes (suc k) n (suc i) = small_bytes k (n / 256) i

-- from these contents, each beginning of what the effects write leaves contents that P holds of
abbrev pub Allowed : (List ℕ → Type 0) → List Effect → List ℕ → Type 0
Allowed P [] c = P c
Allowed P (Sync ∷ effects) c = P c × Allowed P effects c
Allowed P (Pad at ∷ effects) c = ((j : ℕ) → j ≤ 1 → P (overlay c (placed at (take j (0 ∷ [])))))
    × Allowed P effects (overlay c (placed at (0 ∷ [])))
Allowed P (Size at size ∷ effects) c = ((j : ℕ) → j ≤ 4 → P (overlay c (placed at (take j (bytes_of 4 size)))))
    × Allowed P effects (overlay c (placed at (bytes_of 4 size)))

-- one write
write_span : (P : List ℕ → Type 0) (at count : ℕ) (bytes : List ℕ) (result : Result (Unit {0}) IoFault)
    (old new : MediumState)
    → (puts : PutsAt true at bytes result old new) → old.contents ≡ overlay old.start old.past
    → ((j : ℕ) → j ≤ length bytes → P (overlay old.contents (placed at (take j bytes))))
    → Span (λ _. P) 0 old new
write_span P at count bytes result old new puts replays each =
    grind (arith, common_steps, length-take, take-take, span_puts)

pub replays_on : (at : ℕ) (bytes : List ℕ) (result : Result (Unit {0}) IoFault) (old new : MediumState)
    → PutsAt true at bytes result old new → old.contents ≡ overlay old.start old.past
    → new.contents ≡ overlay new.start new.past
replays_on at bytes result old new puts replays = grind (arith, common_steps, overlay-append)

-- so P holds of each intermediate state
pub spans : (P : List ℕ → Type 0) (effects : List Effect) (result : Result (Unit {0}) IoFault) (old new : MediumState)
    → Allowed P effects old.contents → old.contents ≡ overlay old.start old.past
    → PerformedOn true effects result old new → Span (λ _. P) 0 old new
spans P [] result old new allowed replays (is, same) =
    subst (Span (λ _. P) 0 old) (sym same) (span_still (λ _. P) 0 old old replays refl refl (inl refl) allowed)
spans P (Sync ∷ effects) result old new (here, rest) replays (mid, Ok u, flushes, then) =
    join (λ _. P) 0 old mid new
    (span_still (λ _. P) 0 old mid replays flushes.stays.start flushes.stays.past (flushed_since (Ok u) old mid flushes)
    here)
    (spans P effects result mid new (subst (Allowed P effects) (sym flushes.stays.contents) rest)
    (flushes.stays.contents ∙ replays ∙ (λ i. overlay (sym flushes.stays.start i) (sym flushes.stays.past i))) then)
spans P (Sync ∷ effects) result old new (here, rest) replays (mid, Err e, flushes, (is, same)) =
    subst (Span (λ _. P) 0 old) (sym same)
    (span_still (λ _. P) 0 old mid replays flushes.stays.start flushes.stays.past
    (flushed_since (Err e) old mid flushes) here)
spans P (Pad at ∷ effects) result old new (each, rest) replays (mid, Ok u, puts, then) =
    join (λ _. P) 0 old mid new (write_span P at 0 (0 ∷ []) (Ok u) old mid puts replays each)
    (spans P effects result mid new (subst (Allowed P effects)
    (sym (puts.contents ∙ ap (λ k. overlay old.contents (placed at (take k (0 ∷ [])))) puts.whole)) rest)
    (replays_on at (0 ∷ []) (Ok u) old mid puts replays) then)
spans P (Pad at ∷ effects) result old new (each, rest) replays (mid, Err e, puts, (is, same)) =
    subst (Span (λ _. P) 0 old) (sym same) (write_span P at 0 (0 ∷ []) (Err e) old mid puts replays each)
spans P (Size at size ∷ effects) result old new (each, rest) replays (mid, Ok u, puts, then) =
    join (λ _. P) 0 old mid new (write_span P at 0 (bytes_of 4 size) (Ok u) old mid puts replays each)
    (spans P effects result mid new (subst (Allowed P effects)
    (sym (puts.contents ∙ ap (λ k. overlay old.contents (placed at (take k (bytes_of 4 size)))) puts.whole)) rest)
    (replays_on at (bytes_of 4 size) (Ok u) old mid puts replays) then)
spans P (Size at size ∷ effects) result old new (each, rest) replays (mid, Err e, puts, (is, same)) =
    subst (Span (λ _. P) 0 old) (sym same) (write_span P at 0 (bytes_of 4 size) (Err e) old mid puts replays each)

module _ (keeps : Bool) (start n : ℕ) (c : List ℕ) (beyond : 20 ≤ start) (inside : start ≤ length c)
    (small : AreBytes c) (fits : n < 2 ^ 32) where
  abbrev p : ℕ
  p = start - 4

  abbrev h : ℕ
  h = held start c

  abbrev m : List ℕ
  m = missing_pad n h

  there : p + 4 ≤ length c
  there = omega (arith, beyond, inside)

  eight : 8 ≤ p
  eight = omega (arith, beyond)

  abbrev riff : List ℕ
  riff = bytes_of 4 (riff_size start n)

  -- the contents with the RIFF size
  abbrev y : List ℕ
  y = overlay c (placed 4 riff)

  y_same : SameButSizes p c y
  y_same = same_riff p c eight there riff (omega arith)

  y_says : field p y ≡ field p c
  y_says = field_riff p c eight there riff (omega arith)

  y_there : p + 4 ≤ length y
  y_there = omega (arith, there, y_same.long)

  y_small : AreBytes y
  y_small = small_overlay c 4 riff small (small_bytes 4 (riff_size start n))

  -- and with the data length
  abbrev x : List ℕ
  x = overlay y (placed p (bytes_of 4 n))

  x_same : SameButSizes p c x
  x_same = same_transitive p c y x y_same (same_length p y eight y_there (bytes_of 4 n) (omega arith))

  x_says : field p x ≡ n
  x_says = number_at_mix p y y_there y_small n 4 (omega arith) ∙ mix_all (field p y) n fits

  x_is : x ≡ with_sizes p (riff_size start n) n c
  x_is = sizes_put p (riff_size start n) n c eight there

  x_long : start + h ≡ length x
  x_long = omega (arith, inside, x_same.long, length-drop start c)

  -- no size is written
  partly_none : PartlyMended start n c c
  partly_none = grind (arith, common_steps, append-nil, mix_none, number_at_small, there)

  -- a beginning of the RIFF size
  partly_riff : (k : ℕ) → k ≤ 4 → PartlyMended start n c (overlay c (placed 4 (take k riff)))
  partly_riff k within =
      let few : length (take k riff) ≤ 4 = omega (arith, length-take k riff) in
      record {
        sizes = overlay c (placed 4 (take k riff));
        j = 0;
        within = omega arith;
        same = same_riff p c eight there (take k riff) few;
        length_says = field_riff p c eight there (take k riff) few
            ∙ sym (mix_none (field p c) n (number_at_small p c there small));
        pad = [];
        is = sym (append-nil (overlay c (placed 4 (take k riff))));
        last = λ some. absurd (omega (arith, some));
      }

  -- and a beginning of the data length
  partly_length : (j : ℕ) → j ≤ 4 → PartlyMended start n c (overlay y (placed p (take j (bytes_of 4 n))))
  partly_length j within =
      let bytes = take j (bytes_of 4 n) in
      record {
        sizes = overlay y (placed p bytes);
        j = j;
        within = within;
        same = same_transitive p c y (overlay y (placed p bytes)) y_same
            (same_length p y eight y_there bytes (omega (arith, length-take j (bytes_of 4 n))));
        length_says = number_at_mix p y y_there y_small n j within ∙ ap (λ k. mix j k n) y_says;
        pad = [];
        is = sym (append-nil (overlay y (placed p bytes)));
        last = λ some. absurd (omega (arith, some));
      }

  -- both sizes are whole
  partly_whole : (pad new : List ℕ) → new ≡ x ++ pad → (1 ≤ length pad → pad ≡ m) → PartlyMended start n c new
  partly_whole pad new is pad_is = record {
    sizes = x;
    j = 4;
    within = omega arith;
    same = x_same;
    length_says = x_says ∙ sym (mix_all (field p c) n fits);
    pad = pad;
    is = is;
    last = λ some. (x_says, pad_is some);
  }

  partly_sizes : PartlyMended start n c x
  partly_sizes = partly_whole [] x (sym (append-nil x)) (λ some. absurd (omega (arith, some)))

  -- and a beginning of the pad byte
  partly_pad : (j : ℕ) → j ≤ 1 → m ≡ 0 ∷ [] → PartlyMended start n c (overlay x (placed (start + h) (take j (0 ∷ []))))
  partly_pad j within is = grind (arith, common_steps, length-take, overlay_at_end, x_long, partly_whole)

  m_zero : 1 ≤ length m → m ≡ 0 ∷ []
  m_zero some = grind (arith, common_steps)

  -- all is done once the last effect is synced
  ends : (result : Result (Unit {0}) IoFault) (old new : MediumState) → old.contents ≡ mended start n c
      → PartlyMended start n c old.contents → PerformedOn keeps (Sync ∷ []) result old new
      → LeavesMended start n result c new
  ends result old new all partly given = grind (arith, common_steps)

  -- the sync after the data length, and the pad byte
  at_pad : (pad : List ℕ) (result : Result (Unit {0}) IoFault) (old new : MediumState) → m ≡ pad
      → old.contents ≡ x → PerformedOn keeps (Sync ∷ pads (start + h) pad) result old new
      → LeavesMended start n result c new
  at_pad [] result old new is here rest =
      grind (arith, common_steps, append-nil, x_is, partly_sizes, ends)
  at_pad (b ∷ more) result old new is here (mid, Err e, flushes, (was, last)) =
      let same : new.contents ≡ x = ap (λ (l : MediumState). l.contents) last ∙ flushes.stays.contents ∙ here in
      (subst (PartlyMended start n c) (sym same) partly_sizes, λ ok. absurd (cc (was, ok)))
  at_pad (b ∷ more) result old new is here (mid, Ok u, flushes, (then, Ok v, puts, rest)) =
      let zero_is : m ≡ 0 ∷ [] = m_zero (subst (λ l. 1 ≤ length l) (sym is) (omega arith)) in
      let put : then.contents ≡ overlay x (placed (start + h) (take puts.count (0 ∷ []))) =
      puts.contents ∙ ap (λ l. overlay l (placed (start + h) (take puts.count (0 ∷ []))))
      (flushes.stays.contents ∙ here) in
      let all : then.contents ≡ x ++ m = grind (arith, common_steps, overlay_at_end, x_long) in
      ends result then new (all ∙ ap (λ l. l ++ m) x_is)
      (subst (PartlyMended start n c) (sym put) (partly_pad puts.count puts.within zero_is)) rest
  at_pad (b ∷ more) result old new is here (mid, Ok u, flushes, (then, Err e, puts, (was, last))) =
      let zero_is : m ≡ 0 ∷ [] = m_zero (subst (λ l. 1 ≤ length l) (sym is) (omega arith)) in
      let put : new.contents ≡ overlay x (placed (start + h) (take puts.count (0 ∷ []))) =
      ap (λ (l : MediumState). l.contents) last ∙ puts.contents
      ∙ ap (λ l. overlay l (placed (start + h) (take puts.count (0 ∷ [])))) (flushes.stays.contents ∙ here) in
      grind (arith, common_steps, partly_pad)

  -- the data length
  at_length : (result : Result (Unit {0}) IoFault) (old new : MediumState) → old.contents ≡ y
      → PerformedOn keeps (Size p n ∷ Sync ∷ pads (start + h) m) result old new → LeavesMended start n result c new
  at_length result old new here (mid, Ok u, puts, rest) =
      at_pad m result mid new refl
      (puts.contents ∙ ap (λ l. overlay l (placed p (take puts.count (bytes_of 4 n)))) here
      ∙ ap (λ k. overlay y (placed p (take k (bytes_of 4 n)))) puts.whole) rest
  at_length result old new here (mid, Err e, puts, (is, last)) =
      let put : new.contents ≡ overlay y (placed p (take puts.count (bytes_of 4 n))) =
      ap (λ (l : MediumState). l.contents) last ∙ puts.contents
      ∙ ap (λ l. overlay l (placed p (take puts.count (bytes_of 4 n)))) here in
      grind (arith, common_steps, partly_length)

  -- the RIFF size, and the sync after it
  after_riff : (result : Result (Unit {0}) IoFault) (old new : MediumState) → old.contents ≡ y
      → PerformedOn keeps (Sync ∷ Size p n ∷ Sync ∷ pads (start + h) m) result old new
      → LeavesMended start n result c new
  after_riff result old new here (mid, Ok u, flushes, rest) =
      at_length result mid new (flushes.stays.contents ∙ here) rest
  after_riff result old new here (mid, Err e, flushes, (is, last)) =
      let same : new.contents ≡ y = ap (λ (l : MediumState). l.contents) last ∙ flushes.stays.contents ∙ here in
      (subst (PartlyMended start n c) (sym same) (partly_riff 4 (omega arith)), λ ok. absurd (cc (is, ok)))

  at_riff : (result : Result (Unit {0}) IoFault) (old new : MediumState) → old.contents ≡ c
      → PerformedOn keeps (Size 4 (riff_size start n) ∷ Sync ∷ Size p n ∷ Sync ∷ pads (start + h) m) result old new
      → LeavesMended start n result c new
  at_riff result old new here (mid, Ok u, puts, rest) =
      after_riff result mid new
      (puts.contents ∙ ap (λ l. overlay l (placed 4 (take puts.count riff))) here
      ∙ ap (λ k. overlay c (placed 4 (take k riff))) puts.whole) rest
  at_riff result old new here (mid, Err e, puts, (is, last)) =
      let put : new.contents ≡ overlay c (placed 4 (take puts.count riff)) =
      ap (λ (l : MediumState). l.contents) last ∙ puts.contents
      ∙ ap (λ l. overlay l (placed 4 (take puts.count riff))) here in grind (arith, common_steps, partly_riff)

  -- all of them
  pub mends : (result : Result (Unit {0}) IoFault) (old new : MediumState) → old.contents ≡ c
      → PerformedOn keeps (mending_effects start n h) result old new → LeavesMended start n result c new
  mends result old new here (mid, Ok u, flushes, rest) =
      at_riff result mid new (flushes.stays.contents ∙ here) rest
  mends result old new here (mid, Err e, flushes, (is, last)) =
      let same : new.contents ≡ c = ap (λ (l : MediumState). l.contents) last ∙ flushes.stays.contents ∙ here in
      (subst (PartlyMended start n c) (sym same) partly_none, λ ok. absurd (cc (is, ok)))

  -- wherever they stop the contents are partly mended
  allowed_pads : (pad : List ℕ) → m ≡ pad → Allowed (PartlyMended start n c) (pads (start + h) pad) x
  allowed_pads [] is = partly_sizes
  allowed_pads (b ∷ more) is =
      let zero_is : m ≡ 0 ∷ [] = m_zero (subst (λ l. 1 ≤ length l) (sym is) (omega arith)) in (
        λ j within. partly_pad j within zero_is,
        (partly_pad 1 (omega arith) zero_is, partly_pad 1 (omega arith) zero_is),
      )

  pub allowed : Allowed (PartlyMended start n c) (mending_effects start n h) c
  allowed = (
    partly_none,
    (
      partly_riff,
      (partly_riff 4 (omega arith), (partly_length, (partly_sizes, allowed_pads m refl))),
    ),
  )

  -- and once all of them were performed, mended
  done_pads : (pad : List ℕ) → m ≡ pad → contents_after (pads (start + h) pad) x ≡ mended start n c
  done_pads [] is = grind (arith, common_steps, append-nil, x_is)
  done_pads (b ∷ more) is =
      let zero_is : m ≡ 0 ∷ [] = m_zero (subst (λ l. 1 ≤ length l) (sym is) (omega arith)) in
      overlay_at_end x (start + h) (0 ∷ []) x_long ∙ ap (λ l. x ++ l) (sym zero_is) ∙ ap (λ l. l ++ m) x_is

  pub done_all : contents_after (mending_effects start n h) c ≡ mended start n c
  done_all = done_pads m refl

-- what effects did to a log they did to its state
pub on_log : (effects : List Effect) (result : Result (Unit {0}) IoFault) (old new : Log)
    → Performed effects result old new → PerformedOn true effects result old.state new.state
on_log [] result old new (is, same) = (is, ap (λ (l : Log). l.state) same)
on_log (Sync ∷ effects) result old new (mid, Ok u, does, rest) =
    (mid.state, Ok u, does, on_log effects result mid new rest)
on_log (Sync ∷ effects) result old new (mid, Err e, does, (is, same)) =
    (mid.state, Err e, does, (is, ap (λ (l : Log). l.state) same))
on_log (Pad at ∷ effects) result old new (mid, Ok u, does, rest) =
    (mid.state, Ok u, does, on_log effects result mid new rest)
on_log (Pad at ∷ effects) result old new (mid, Err e, does, (is, same)) =
    (mid.state, Err e, does, (is, ap (λ (l : Log). l.state) same))
on_log (Size at size ∷ effects) result old new (mid, Ok u, does, rest) =
    (mid.state, Ok u, does, on_log effects result mid new rest)
on_log (Size at size ∷ effects) result old new (mid, Err e, does, (is, same)) =
    (mid.state, Err e, does, (is, ap (λ (l : Log). l.state) same))

-- the effect with a number is the next of those that are left
pub nth_next : {T : Type 0} (effects : List T) (k : ℕ) (effect : T) → nth effects k ≡ Some effect
    → drop k effects ≡ effect ∷ drop (k + 1) effects
nth_next [] k effect is = grind (arith, common_steps)
nth_next (y ∷ effects) zero effect is = grind (arith, common_steps)
nth_next (y ∷ effects) (suc k) effect is =
    nth_next effects k effect is
    ∙ ap (λ i. effect ∷ drop i (y ∷ effects)) (let e : suc (k + 1) ≡ suc k + 1 = omega arith in e)

-- a fault of one effect is the fault of all
one_fault : (keeps : Bool) (effect : Effect) (this : Result (Unit {0}) IoFault) (old new : MediumState)
    → PerformsOn keeps effect this old new → new.faults ≡ faults_after this old.faults
one_fault keeps effect this old new does = grind (arith, common_steps)

pub faults_of : (keeps : Bool) (effects : List Effect) (result : Result (Unit {0}) IoFault) (old new : MediumState)
    → PerformedOn keeps effects result old new → new.faults ≡ faults_after result old.faults
faults_of keeps [] result old new (is, same) = cc (is, same)
faults_of keeps (effect ∷ effects) result old new (mid, Ok u, does, rest) =
    faults_of keeps effects result mid new rest ∙ ap (faults_after result) (one_fault keeps effect (Ok u) old mid does)
faults_of keeps (effect ∷ effects) result old new (mid, Err e, does, (is, same)) =
    let one = one_fault keeps effect (Err e) old mid does in cc (one, is, same)
