-- What an output got, one write after the other.
use Rattle.std.proofs.lemmas.Grind.{common_steps}
use Rattle.std.proofs.Common.{◌≡◌, ℕ, ◌<◌, List, [], ◌++◌, length, take, drop, Option, Some, None, Result, Ok, Err, IsErrAnd, refl, sym, ◌∙◌, ap, subst, append_assoc, append-nil, arith}
use Rattle.std.specs.Io.{StartsWith}
use Rattle.std.specs.Io.KnownBytes.{Appends, Keeps}
use Rattle.std.proofs.KnownBytes.{starts_with_rest}
use Rattle.std.proofs.Transfers.{starts_with_of_append, starts_with_trans}
use Rattle.hound_commands.specs.Commands.{GetsBeginning, GetsBuffered, PushesOut}

-- texts appended one after the other
pub appends-then : (old mid new : Option (List ℕ)) (first rest : List ℕ) → Appends old mid first
    → Appends mid new rest → Appends old new (first ++ rest)
appends-then None mid new first rest front back = tt
appends-then (Some xs) None new first rest front back = absurd front
appends-then (Some xs) (Some ys) None first rest front back = absurd back
appends-then (Some xs) (Some ys) (Some zs) first rest front back =
    back ∙ ap (λ l. l ++ rest) front ∙ append_assoc xs first rest

pub appends-none : (old : Option (List ℕ)) → Appends old old []
appends-none None = tt
appends-none (Some xs) = sym (append-nil xs)

pub appends-kept : (old mid new : Option (List ℕ)) (text : List ℕ) → Appends old mid text
    → Keeps mid new → Appends old new text
appends-kept None mid new text front keeps = tt
appends-kept (Some xs) None new text front keeps = absurd front
appends-kept (Some xs) (Some ys) None text front keeps = absurd keeps
appends-kept (Some xs) (Some ys) (Some zs) text front keeps = keeps ∙ front

-- ---- the output and its buffer

pub gets-none : (old : Option (List ℕ)) (buffered : List ℕ) → GetsBuffered old old buffered buffered
gets-none old buffered = ([], refl, appends-none old)

pub gets-then : (old mid new : Option (List ℕ)) (text buffered later : List ℕ)
    → GetsBuffered old mid buffered text → GetsBuffered mid new later buffered
    → GetsBuffered old new later text
gets-then old mid new text buffered later (first, text_is, front) (rest, buffered_is, back) = (
  first ++ rest,
  text_is ∙ ap (λ l. first ++ l) buffered_is ∙ sym (append_assoc first rest later),
  appends-then old mid new first rest front back,
)

pub gets-more : (old new : Option (List ℕ)) (text buffered more : List ℕ)
    → GetsBuffered old new buffered text → GetsBuffered old new (buffered ++ more) (text ++ more)
gets-more old new text buffered more (written, text_is, all) =
    (written, ap (λ l. l ++ more) text_is ∙ append_assoc written buffered more, all)

-- the buffer was written
pub gets-written : (old mid new : Option (List ℕ)) (text buffered : List ℕ)
    → GetsBuffered old mid buffered text → Appends mid new buffered → Appends old new text
gets-written old mid new text buffered (first, text_is, front) back =
    subst (Appends old new) (sym text_is) (appends-then old mid new first buffered front back)

-- a beginning of the buffer was written
pub gets-stopped : (old mid new : Option (List ℕ)) (text buffered : List ℕ)
    → GetsBuffered old mid buffered text → GetsBeginning mid new buffered → GetsBeginning old new text
gets-stopped old mid new text buffered (first, text_is, front) (part, begins, back) =
    let rest = drop (length part) buffered in (
      first ++ part,
      starts_with_of_append text (first ++ part) rest
          (text_is ∙ ap (λ l. first ++ l) (starts_with_rest buffered part begins) ∙ sym (append_assoc first part rest)),
      appends-then old mid new first part front back,
    )

-- ---- beginnings

-- what a write that failed leaves
pub part-written : (text : List ℕ) (old new : Option (List ℕ))
    → (n : ℕ) × (n < length text) × Appends old new (take n text) → GetsBeginning old new text
part-written text old new (n, fewer, all) = grind (arith, common_steps)

-- a failed write of a buffer leaves a beginning of all that its text begins
pub stopped-within : {T E : Type 0} (P : E → Type 0) (result : Result T E) (old mid new : Option (List ℕ))
    (text buffered whole lines : List ℕ) → IsErrAnd result P → GetsBuffered old mid buffered text
    → GetsBeginning mid new buffered × (lines ≡ []) → StartsWith whole text → PushesOut result old new lines whole
stopped-within P (Ok x) old mid new text buffered whole lines is got stopped front = absurd is
stopped-within P (Err e) old mid new text buffered whole lines is got (stopped, none) front =
    let (part, beginning, all) = gets-stopped old mid new text buffered got stopped in
    ((part, starts_with_trans whole text part front beginning, all), none)
