use Rattle.std.proofs.Common.{◌≡◌, ℕ, zero, suc, ◌+◌, ◌-◌, ◌*◌, ◌≤◌, ◌<◌, List, [], ◌∷◌, ◌++◌, length, take, drop, Result, refl, sym, ◌∙◌, ap, subst, arith}
use Rattle.std.proofs.lemmas.List.{length-drop, length-take-le}
use Rattle.hound_number.specs.{number}
use Rattle.hound_writer.specs.declared.effects.Report.TheVariants.{Done}
use Rattle.hound_follow.specs.Following.{FollowsNext, LeavesLook, after_count, number_from, part_for}
use Rattle.hound_follow.specs.declared.follower.FollowError.{FollowError}
use Rattle.hound_follow.specs.declared.follower.FollowStep.{FollowStep}
use Rattle.hound_follow.specs.declared.follower.Follower.{Follower}
use Rattle.hound_follow.specs.declared.follower.Follower.TheVariants.{Looks}
use Rattle.hound_follow.specs.declared.follower.Look.TheVariants.{Byte}
use Rattle.hound_follow.specs.declared.follower.Outcome.{Outcome}
use Rattle.hound_follow.specs.declared.follower.Recording.{Recording}
use Rattle.hound_follow.proofs.laws.a_look_takes_the_last_byte_first.Goals as goal

module _ (r : Recording) (after : Follower) (step : Result FollowStep FollowError) where
  -- a byte that isn't the first one leads to the byte before it
  byte_before : (n above : ℕ) (bytes : List ℕ) → length bytes ≡ 1
      → FollowsNext Done bytes (Looks r (Byte (suc n) above)) after step
      → (b : ℕ) × (bytes ≡ b ∷ []) × (after ≡ Looks r (Byte n (above * 256 + b)))
  byte_before n above (b ∷ []) one next = (b, refl, ap (λ (o : Outcome). o.follower) next)
  byte_before n above [] one next = absurd (omega (arith, one))
  byte_before n above (b ∷ x ∷ bytes) one next = absurd (omega (arith, one))

  -- and the first one to the number
  first_byte : (above : ℕ) (bytes : List ℕ) → length bytes ≡ 1
      → FollowsNext Done bytes (Looks r (Byte 0 above)) after step
      → (b : ℕ) × (bytes ≡ b ∷ []) × LeavesLook (after_count r (above * 256 + b)) after step
  first_byte above (b ∷ []) one next =
      (b, refl, (ap (λ (o : Outcome). o.follower) next, ap (λ (o : Outcome). o.returned) next))
  first_byte above [] one next = absurd (omega (arith, one))
  first_byte above (b ∷ x ∷ bytes) one next = absurd (omega (arith, one))

one_byte : (start j : ℕ) (file : List ℕ) → 20 ≤ start → start ≤ length file → j < 4
    → length (take 1 (drop (start - 4 + j) file)) ≡ 1
one_byte start j file beyond there few =
    length-take-le 1 (drop (start - 4 + j) file)
    (omega (arith, length-drop (start - 4 + j) file, beyond, there, few))

pub returns : goal.returns
returns _ r a b c d after_d after_c after_b after_a step_d step_c step_b step_a beyond in_a in_b in_c in_d first
    second third last =
    let p = r.data_start - 4 in
    let (w, is_w, at_d) = byte_before r after_d step_d 2 0 (take 1 (drop (p + 3) d))
    (one_byte r.data_start 3 d beyond in_d (omega arith)) first in
    let (x, is_x, at_c) = byte_before r after_c step_c 1 (0 * 256 + w) (take 1 (drop (p + 2) c))
    (one_byte r.data_start 2 c beyond in_c (omega arith))
    (subst (λ f. FollowsNext Done (part_for f c) f after_c step_c) at_d second) in
    let (y, is_y, at_b) = byte_before r after_b step_b 0 ((0 * 256 + w) * 256 + x) (take 1 (drop (p + 1) b))
    (one_byte r.data_start 1 b beyond in_b (omega arith))
    (subst (λ f. FollowsNext Done (part_for f b) f after_b step_b) at_c third) in
    let (z, is_z, leaves) = first_byte r after_a step_a (((0 * 256 + w) * 256 + x) * 256 + y) (take 1 (drop (p + 0) a))
    (one_byte r.data_start 0 a beyond in_a (omega arith))
    (subst (λ f. FollowsNext Done (part_for f a) f after_a step_a) at_b last) in
    let zero_more : p ≡ p + 0 = omega arith in
    let listed : number_from p a b c d ≡ number (z ∷ y ∷ x ∷ w ∷ []) =
    λ i. number ((ap (λ q. take 1 (drop q a)) zero_more ∙ is_z) i ++ (is_y i ++ (is_x i ++ is_w i))) in
    let sum : number (z ∷ y ∷ x ∷ w ∷ []) ≡ (((0 * 256 + w) * 256 + x) * 256 + y) * 256 + z = omega arith in
    subst (λ n. LeavesLook (after_count r n) after_a step_a) (sym (listed ∙ sum)) leaves
