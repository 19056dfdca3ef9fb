use Rattle.std.proofs.Common.{◌≡◌, ◌⊎◌, ℕ, List, [], Option, None, Some, Result, Ok, Err, MatchResult, ap, inr, refl, subst, sym, rules}
use Rattle.std.specs.Option.{option_transpose}
use Rattle.hound.specs.{Error, IsIoError, IsMeaningOf, IsNext, ReadRejection, ReaderState, Seeks, container_at, lent_reader, meaning_at, samples_before, unread}
use Rattle.hound.specs.declared.SampleFormat.{SampleFormat}
use Rattle.hound.specs.declared.Error.TheVariants.{IoError}
use Rattle.hound_callers.specs.Recording.{as_item}
use Rattle.hound_callers.proofs.callers.sample_at.Goals as goal

-- an item is the meaning of a container, as a result, or an `IoError`
found : {A : Type 0} (meaning : List ℕ → A) (container : List ℕ) (next : Option (Result A Error))
    → IsMeaningOf meaning container next
    → MatchResult (option_transpose next) (λ sample. sample ≡ Some (meaning container)) IsIoError
found meaning container None is = absurd is
found meaning container (Some (Ok value)) is = ap Some is
found meaning container (Some (Err (IoError e))) is = tt
found meaning container (Some (Err _)) is = absurd is

-- an item after a seek as a result
of_item : {R A : Type 0} (left : R → Option (List ℕ)) (rejection : SampleFormat → ℕ → ℕ → Option ReadRejection)
    (meaning : SampleFormat → ℕ → ℕ → List ℕ → A) (P : Error → Type 0) (S : ReaderState R → Type 0)
    (next : Option (Result A Error)) (mid last : ReaderState R) {given : ReaderState R}
    → last ≡ given → S mid → IsNext left rejection meaning next mid last
    → MatchResult (option_transpose next)
    (λ sample. (m : ReaderState R) × S m × IsNext left rejection meaning (as_item sample) m given)
    (λ e. P e ⊎ ((m : ReaderState R) × S m × IsNext left rejection meaning (Some (Err e)) m given))
of_item left rejection meaning P S None mid last same sought is =
    (mid, sought, subst (IsNext left rejection meaning None mid) same is)
of_item left rejection meaning P S (Some (Ok value)) mid last same sought is =
    (mid, sought, subst (IsNext left rejection meaning (Some (Ok value)) mid) same is)
of_item left rejection meaning P S (Some (Err e)) mid last same sought is =
    inr (mid, sought, subst (IsNext left rejection meaning (Some (Err e)) mid) same is)

pub returns-clause-sample : goal.returns-clause-sample
returns-clause-sample g c modelled inside none =
    let reader = c.args.reader.now in
    let s = reader.spec_ex in
    let state = g.R.Placed.state in
    let seeks : Seeks state c.args.time reader c.seek.new.self = record {
      counts = c.in_ok-seek.ensures.counts;
      source = c.in_ok-seek.ensures.source modelled;
    } in
    rw c.transpose.ensures
    (found (meaning_at g.S.Sample.meaning s)
    (container_at s.bytes_per_sample (samples_before c.args.time s) (unread (state reader.reader)))
    c.next.result
    (c.a_seek_leads_to_its_frame.ensures.since_new [] c.args.time reader reader
    (lent_reader c.samples.result) _ c.next.result modelled c.requires refl
    (subst (Seeks state c.args.time reader) (sym c.samples.ensures.reader) seeks) inside none
    c.next.ensures.steps.1))

pub returns-clause-item : goal.returns-clause-item
returns-clause-item g c modelled =
    let left = g.R.Read.remaining in
    let rejection = g.S.Sample.rejection in
    let meaning = g.S.Sample.meaning in
    let next = subst (λ first. IsNext left rejection meaning c.next.result first
    (lent_reader c.next.new.self)) c.samples.ensures.reader c.next.ensures.steps.1 in
    rw c.transpose.ensures (of_item left rejection meaning _ (Seeks g.R.Placed.state c.args.time c.args.reader.now)
    c.next.result c.seek.new.self (lent_reader c.next.new.self) (search rules)
    (record { counts = c.in_ok-seek.ensures.counts; source = c.in_ok-seek.ensures.source modelled }) next)
