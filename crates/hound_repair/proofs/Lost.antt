-- What a loss of power leaves of a file that is being mended.
use Rattle.std.proofs.lemmas.Grind.{common_steps}
use Rattle.std.proofs.Common.{◌≡◌, ℕ, ◌+◌, ◌-◌, ◌/◌, ◌≤◌, ◌<◌, ◌⊎◌, true, List, [], ◌∷◌, ◌++◌, length, take, get_or, inl, inr, Result, Ok, Err, refl, sym, ap, ◌∙◌, subst, arith, length-drop, length-take}
use Rattle.std.proofs.lemmas.Bool.{cases_lt}
use Rattle.std.proofs.lemmas.List.{take-take, take_all, ext_get_or}
use Rattle.std.specs.declared.io.Error.{Error as IoFault}
use Rattle.hound_number.specs.{bytes_of}
use Rattle.hound_spec.specs.{riff_size}
use Rattle.hound_medium.specs.{MediumState, moment, overlay, placed}
use Rattle.hound_medium.proofs.Overlays.{overlay_at_end, overlay_is}
use Rattle.hound_medium.proofs.Spans.{span_puts}
use Rattle.hound_durable.specs.{SurvivesLoss}
use Rattle.hound_writer.specs.{PutsAt, PutsNothing}
use Rattle.hound_writer.specs.declared.effects.Effect.{Effect}
use Rattle.hound_writer.specs.declared.effects.Effect.TheVariants.{Sync, Pad, Size}
use Rattle.hound_writer.proofs.Sizes.{same_length, same_riff}
use Rattle.hound_repair.specs.Held.{held, missing_pad}
use Rattle.hound_repair.specs.Steps.{PerformedOn, mending_effects, pads}
use Rattle.hound_repair.proofs.Performing.{Allowed, replays_on}

-- bytes inside contents change no other byte, and not the length
overlay_outside : (p q : ℕ) (bs c : List ℕ) → p + length bs ≤ length c → (q < p) ⊎ (p + length bs ≤ q)
    → get_or (overlay c (placed p bs)) q 0 ≡ get_or c q 0
overlay_outside p q bs c inside out = grind (arith, common_steps, overlay_is)

overlay_long : (p : ℕ) (bs c : List ℕ) → p + length bs ≤ length c → length (overlay c (placed p bs)) ≡ length c
overlay_long p bs c inside = grind (arith, common_steps, overlay_is)

-- after the contents there are zeros, also where a zero is the last byte
zero_after : (c : List ℕ) (j q : ℕ) → j ≤ 1 → length c ≤ q → get_or (c ++ take j (0 ∷ [])) q 0 ≡ 0
zero_after c j q few after = grind (arith, common_steps)

same_before : (c x : List ℕ) (q : ℕ) → q < length c → get_or (c ++ x) q 0 ≡ get_or c q 0
same_before c x q before = grind (arith, common_steps)

-- a field whose ends are in one sector is in it
pub same_sector : (p last i sector : ℕ) → 0 < sector → p + i ≤ last → p / sector ≡ last / sector
    → (p + i) / sector ≡ p / sector
same_sector p last i sector some within one = grind (arith, common_steps)

-- the RIFF size is in the first sector
pub first_sector : (i sector : ℕ) → i < 4 → 8 ≤ sector → (4 + i) / sector ≡ 4 / sector
first_sector i sector few wide = grind (arith, common_steps)

module _ (sector : ℕ) (contents : List ℕ) where
  -- what a loss may leave of a medium
  abbrev LostFrom : MediumState → Type 0
  LostFrom m = SurvivesLoss sector m.start m.past m.flushed (length m.past) contents

  -- the same after a call that wrote nothing and flushed nothing
  lost_before : (old new : MediumState) → new.start ≡ old.start → new.past ≡ old.past
      → new.flushed ≡ old.flushed → LostFrom new → LostFrom old
  lost_before old new start past flushed lost = grind (arith, common_steps)

  -- nothing is lost where all was flushed
  settled_loss : (m : MediumState) → m.contents ≡ overlay m.start m.past → m.flushed ≡ length m.past
      → LostFrom m → contents ≡ m.contents
  settled_loss m replays settled lost =
      let all : (j : ℕ) → m.flushed ≤ j → moment m.start m.past j ≡ m.contents =
      λ j from. ap (overlay m.start) (take_all j m.past (omega (arith, from, settled))) ∙ sym replays in
      let l = lost.long in
      ext_get_or 0 contents m.contents (l.3 ∙ ap length (all l.0 l.1))
      (λ i few. let s = lost.sectors (i / sector) in s.3 i refl few ∙ ap (λ c. get_or c i 0) (all s.0 s.1))

  -- nor where nothing was written after that
  pub kept_loss : (old new : MediumState) → PutsNothing old new → old.contents ≡ overlay old.start old.past
      → old.flushed ≡ length old.past → LostFrom new → contents ≡ old.contents
  kept_loss old new puts replays settled lost = grind (arith, common_steps, lost_before, settled_loss)

  -- of one write into contents, a beginning is left, if its bytes are in one sector
  module _ (p : ℕ) (bs : List ℕ) (result : Result (Unit {0}) IoFault) (old new : MediumState)
      (puts : PutsAt true p bs result old new) (replays : old.contents ≡ overlay old.start old.past)
      (settled : old.flushed ≡ length old.past) (lost : LostFrom new) where
    abbrev Part : List ℕ → Type 0
    Part c = (j : ℕ) × (j ≤ length bs) × (c ≡ overlay old.contents (placed p (take j bs)))

    part_at : (j : ℕ) → new.flushed ≤ j → j ≤ length new.past → Part (moment new.start new.past j)
    part_at j from to =
        let span = span_puts (λ _. Part) 0 old new p (take puts.count bs) replays puts.start (puts.past refl)
        (inl puts.flushed) (λ k within. (
          k,
          omega (arith, within, length-take puts.count bs),
          ap (λ l. overlay old.contents (placed p l))
              (take-take k puts.count bs (omega (arith, within, length-take puts.count bs))),
        )) in
        span.each j (omega (arith, from, puts.flushed, settled)) to

    part_in : (j : ℕ) → j ≤ length bs → p + length bs ≤ length old.contents
        → p + length (take j bs) ≤ length old.contents
    part_in j few inside = omega (arith, few, inside, length-take j bs)

    write_loss : p + length bs ≤ length old.contents
        → ((i : ℕ) → i < length bs → (p + i) / sector ≡ p / sector) → Part contents
    write_loss inside one =
        let s = lost.sectors (p / sector) in
        let e = part_at s.0 s.1 s.2 in
        let l = lost.long in
        let el = part_at l.0 l.1 l.2 in
        let chosen = overlay old.contents (placed p (take e.0 bs)) in (
          e.0,
          e.1,
          ext_get_or 0 contents chosen
              (l.3 ∙ ap length el.2 ∙ overlay_long p (take el.0 bs) old.contents (part_in el.0 el.1 inside)
              ∙ sym (overlay_long p (take e.0 bs) old.contents (part_in e.0 e.1 inside)))
              (λ q few.
              let elsewhere : (q < p) ⊎ (p + length bs ≤ q) → get_or contents q 0 ≡ get_or chosen q 0 = λ out.
              let t = lost.sectors (q / sector) in
              let et = part_at t.0 t.1 t.2 in
              let out_of : (j : ℕ) → (q < p) ⊎ (p + length (take j bs) ≤ q) =
              λ j. elim out [ inl low ↦ inl low | inr high ↦ inr (omega (arith, high, length-take j bs)) ] in
              t.3 q refl few ∙ ap (λ c. get_or c q 0) et.2
              ∙ overlay_outside p q (take et.0 bs) old.contents (part_in et.0 et.1 inside) (out_of et.0)
              ∙ sym (overlay_outside p q (take e.0 bs) old.contents (part_in e.0 e.1 inside) (out_of e.0)) in
              elim (cases_lt q p) [
                | inl low ↦ elsewhere (inl low)
                | inr beyond ↦ elim (cases_lt q (p + length bs)) [
                  | inl in_it ↦ let at : p + (q - p) ≡ q = omega (arith, beyond) in
                      s.3 q (ap (λ k. k / sector) (sym at) ∙ one (q - p) (omega (arith, in_it, beyond))) few
                      ∙ ap (λ c. get_or c q 0) e.2
                  | inr high ↦ elsewhere (inr high)
                ]
              ]),
        )

  -- of a pad byte at the end, all or nothing is left
  pad_loss : (p : ℕ) (result : Result (Unit {0}) IoFault) (old new : MediumState)
      → (puts : PutsAt true p (0 ∷ []) result old new) → (replays : old.contents ≡ overlay old.start old.past)
      → (settled : old.flushed ≡ length old.past) → (lost : LostFrom new) → p ≡ length old.contents
      → (j : ℕ) × (j ≤ 1) × (contents ≡ overlay old.contents (placed p (take j (0 ∷ []))))
  pad_loss p result old new puts replays settled lost end =
      let l = lost.long in
      let part = part_at p (0 ∷ []) result old new puts replays settled lost in
      let el = part l.0 l.1 l.2 in
      let chosen = overlay old.contents (placed p (take el.0 (0 ∷ []))) in
      let ends : (j : ℕ) → overlay old.contents (placed p (take j (0 ∷ []))) ≡ old.contents ++ take j (0 ∷ []) =
      λ j. overlay_at_end old.contents p (take j (0 ∷ [])) end in (
        el.0,
        el.1,
        ext_get_or 0 contents chosen (l.3 ∙ ap length el.2) (λ q few. let t = lost.sectors (q / sector) in
            let et = part t.0 t.1 t.2 in
            t.3 q refl few ∙ ap (λ c. get_or c q 0) (et.2 ∙ ends et.0)
            ∙ elim (cases_lt q (length old.contents)) [
              | inl before ↦ same_before old.contents (take et.0 (0 ∷ [])) q before
                  ∙ sym (same_before old.contents (take el.0 (0 ∷ [])) q before)
              | inr after ↦ zero_after old.contents et.0 q et.1 (omega (arith, after))
                  ∙ sym (zero_after old.contents el.0 q el.1 (omega (arith, after)))
            ]
            ∙ ap (λ c. get_or c q 0) (sym (ends el.0))),
      )

  -- each write is synced before the next one, and is one that a loss leaves a beginning of
  abbrev pub IsSafe : List Effect → List ℕ → Type 0
  IsSafe [] c = Unit {0}
  IsSafe (Sync ∷ effects) c = IsSafe effects c
  IsSafe (Pad at ∷ Sync ∷ effects) c = (at ≡ length c) × IsSafe effects (overlay c (placed at (0 ∷ [])))
  IsSafe (Size at size ∷ Sync ∷ effects) c = (at + 4 ≤ length c) × ((i : ℕ) → i < 4 → (at + i) / sector ≡ at / sector)
      × IsSafe effects (overlay c (placed at (bytes_of 4 size)))
  IsSafe _ c = ⊥

  -- so what is left is what the effects leave wherever they stop
  pub survives : (P : List ℕ → Type 0) (effects : List Effect) (result : Result (Unit {0}) IoFault)
      (old new : MediumState) → Allowed P effects old.contents → IsSafe effects old.contents
      → old.contents ≡ overlay old.start old.past → old.flushed ≡ length old.past
      → PerformedOn true effects result old new → LostFrom new → P contents
  survives P [] result old new allowed safe replays settled (is, same) lost =
      subst P (sym (settled_loss old replays settled (subst LostFrom same lost))) allowed
  survives P (Sync ∷ effects) result old new (here, rest) safe replays settled (mid, Ok u, flushes, then) lost =
      survives P effects result mid new (subst (Allowed P effects) (sym flushes.stays.contents) rest)
      (subst (IsSafe effects) (sym flushes.stays.contents) safe)
      (flushes.stays.contents ∙ replays ∙ (λ i. overlay (sym flushes.stays.start i) (sym flushes.stays.past i)))
      flushes.flushed then lost
  survives P (Sync ∷ effects) result old new (here, rest) safe replays settled (mid, Err e, flushes, (is, same)) lost =
      subst P (sym (settled_loss old replays settled
      (lost_before old mid flushes.stays.start flushes.stays.past flushes.flushed (subst LostFrom same lost)))) here
  survives P (Size at size ∷ Sync ∷ effects) result old new (each, rest) safe replays settled
      (mid, Err e, puts, (is, same)) lost =
      let part = write_loss at (bytes_of 4 size) (Err e) old mid puts replays settled (subst LostFrom same lost) safe.0
      safe.1 in
      subst P (sym part.2) (each part.0 part.1)
  survives P (Size at size ∷ Sync ∷ effects) result old new (each, rest) safe replays settled
      (mid, Ok u, puts, (last, Err e, flushes, (is, same))) lost =
      let part = write_loss at (bytes_of 4 size) (Ok u) old mid puts replays settled
      (lost_before mid last flushes.stays.start flushes.stays.past flushes.flushed (subst LostFrom same lost)) safe.0
      safe.1 in
      subst P (sym part.2) (each part.0 part.1)
  survives P (Size at size ∷ Sync ∷ effects) result old new (each, rest) safe replays settled
      (mid, Ok u, puts, (last, Ok v, flushes, then)) lost =
      let here : last.contents ≡ overlay old.contents (placed at (bytes_of 4 size)) =
      flushes.stays.contents ∙ puts.contents ∙ ap (λ k. overlay old.contents (placed at (take k (bytes_of 4 size))))
      puts.whole in
      survives P effects result last new (subst (Allowed P effects) (sym here) rest.1)
      (subst (IsSafe effects) (sym here) safe.2)
      (flushes.stays.contents ∙ replays_on at (bytes_of 4 size) (Ok u) old mid puts replays
      ∙ (λ i. overlay (sym flushes.stays.start i) (sym flushes.stays.past i)))
      flushes.flushed then lost
  survives P (Pad at ∷ Sync ∷ effects) result old new (each, rest) safe replays settled (mid, Err e, puts, (is, same))
      lost =
      let part = pad_loss at (Err e) old mid puts replays settled (subst LostFrom same lost) safe.0 in
      subst P (sym part.2) (each part.0 part.1)
  survives P (Pad at ∷ Sync ∷ effects) result old new (each, rest) safe replays settled
      (mid, Ok u, puts, (last, Err e, flushes, (is, same))) lost =
      let part = pad_loss at (Ok u) old mid puts replays settled
      (lost_before mid last flushes.stays.start flushes.stays.past flushes.flushed (subst LostFrom same lost)) safe.0 in
      subst P (sym part.2) (each part.0 part.1)
  survives P (Pad at ∷ Sync ∷ effects) result old new (each, rest) safe replays settled
      (mid, Ok u, puts, (last, Ok v, flushes, then)) lost =
      let here : last.contents ≡ overlay old.contents (placed at (0 ∷ [])) =
      flushes.stays.contents ∙ puts.contents ∙ ap (λ k. overlay old.contents (placed at (take k (0 ∷ []))))
      puts.whole in
      survives P effects result last new (subst (Allowed P effects) (sym here) rest.1)
      (subst (IsSafe effects) (sym here) safe.1)
      (flushes.stays.contents ∙ replays_on at (0 ∷ []) (Ok u) old mid puts replays
      ∙ (λ i. overlay (sym flushes.stays.start i) (sym flushes.stays.past i)))
      flushes.flushed then lost
  survives P (Size at size ∷ []) result old new allowed safe replays settled performed lost = absurd safe
  survives P (Size at size ∷ Size at' size' ∷ effects) result old new allowed safe replays settled performed lost =
      absurd safe
  survives P (Size at size ∷ Pad at' ∷ effects) result old new allowed safe replays settled performed lost = absurd safe
  survives P (Pad at ∷ []) result old new allowed safe replays settled performed lost = absurd safe
  survives P (Pad at ∷ Size at' size' ∷ effects) result old new allowed safe replays settled performed lost =
      absurd safe
  survives P (Pad at ∷ Pad at' ∷ effects) result old new allowed safe replays settled performed lost = absurd safe

  -- the effects that mend a file are such
  module _ (start n : ℕ) (c : List ℕ) (beyond : 20 ≤ start) (inside : start ≤ length c)
      (one : (i : ℕ) → i < 4 → (start - 4 + i) / sector ≡ (start - 4) / sector)
      (first : (i : ℕ) → i < 4 → (4 + i) / sector ≡ 4 / sector) where
    abbrev p : ℕ
    p = start - 4

    abbrev y : List ℕ
    y = overlay c (placed 4 (bytes_of 4 (riff_size start n)))

    y_long : length y ≡ length c
    y_long = (same_riff p c (omega (arith, beyond)) (omega (arith, beyond, inside)) (bytes_of 4 (riff_size start n))
        (omega arith)).long

    abbrev x : List ℕ
    x = overlay y (placed p (bytes_of 4 n))

    x_long : length x ≡ length y
    x_long = (same_length p y (omega (arith, beyond)) (omega (arith, beyond, inside, y_long)) (bytes_of 4 n)
        (omega arith)).long

    safe_pads : (pad : List ℕ) → IsSafe (pads (start + held start c) pad) x
    safe_pads [] = tt
    safe_pads (b ∷ more) = (omega (arith, x_long, y_long, inside, length-drop start c), tt)

    pub mending_is_safe : IsSafe (mending_effects start n (held start c)) c
    mending_is_safe = (
      omega (arith, beyond, inside),
      first,
      (omega (arith, beyond, inside, y_long), one, safe_pads (missing_pad n (held start c))),
    )
