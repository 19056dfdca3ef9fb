-- Appending to an existing file.
use Rattle.std.proofs.lemmas.Grind.{common_steps}
use Rattle.std.proofs.Common.{◌≡◌, ℕ, ◌+◌, ◌-◌, ◌≤◌, List, [], drop, None, inl, inr, ◌⊎◌, Result, Ok, Err, MatchResult, refl, rules, sym, ◌∙◌, ap, subst, arith}
use Rattle.hound_spec.specs.declared.error.Error.{Error}
use Rattle.hound_spec.specs.declared.spec.WavSpecEx.{WavSpecEx}
use Rattle.hound_medium.specs.{MediumState, Goes, WhereTells, one_more}
use Rattle.hound_walk.specs.declared.chunks.FileHead.{FileHead}
use Rattle.hound_walk.specs.declared.cause.Cause.{Cause}
use Rattle.hound_walk.specs.declared.cause.HeadError.{HeadError}
use Rattle.hound_walk.specs.declared.cause.HeadError.TheVariants.{Failed, Rejected}
use Rattle.hound_walk.specs.{IsSoundSpec as IsSoundHead, Head, Rejected as RejectedFor, ReportsError, FindsData}
use Rattle.std.specs.declared.io.Error.{Error as IoFault}
use Rattle.hound_writer.specs.Accepting.{IsIoError}
use Rattle.hound_writer.specs.Parts.{of_fields, CountsAtMost}
use Rattle.hound_writer.specs.Writer.{Ghosts, field, WriterState, IsSound, IsWhole}
use Rattle.hound_writer.specs.Appending.{AppendFault, Appends, FollowsData, IsAppendFault, NamesFault, by_bytes, head_fault, IsNotAppended}
use Rattle.hound_writer.proofs.Heads.{head_field}
use Rattle.hound_writer.proofs.Samples.{counts_at, whole_written}

-- a head with no fault
pub sound_head : {W : Type 0} (medium : W) (s : WavSpecEx) (len h : ℕ) → IsSoundHead s → 20 ≤ h
    → head_fault s len h ≡ None → IsSound (of_fields medium s h len [] [])
unfolding head_fault
sound_head medium s len h sound after none = grind (arith, common_steps)

-- the file of a writer that appends
pub at_most_on : (s : WavSpecEx) (len h : ℕ) (contents new : List ℕ) → Head contents s len h
    → new ≡ contents → CountsAtMost s h len new
at_most_on s len h contents new head same =
    let says : field (h - 4) new ≡ len = ap (field (h - 4)) same ∙ head_field contents s len h head in
    record {
      head = rw (says, same) head;
      counted = omega (arith, says);
    }

-- a writer that appends, after a `go` to the end of the data
pub follows : {W : Type 0} (state : W → MediumState) (medium : W) (s : WavSpecEx) (len h : ℕ)
    (old : MediumState) → IsSoundHead s → 20 ≤ h → Head old.contents s len h
    → head_fault s len h ≡ None
    → Goes {T = Unit {0}} {E = IoFault} (h + len) (Ok tt) old (state medium)
    → FollowsData old state (of_fields medium s h len [] [])
follows state medium s len h old sound after head check goes =
    let w = of_fields medium s h len [] [] in
    let all : len ≡ len + 0 = omega arith in
    let longer = rw all at head in
    let none = ap (λ n. head_fault s n h) all in
    let sounds = sound_head medium s len h sound after check in
    let counts = λ (whole : IsWhole state w).
    counts_at state w sounds (whole_written state w refl sounds) (state medium).contents whole
    (at_most_on s len h old.contents (state medium).contents head goes.stays.contents) refl in
    search rules

-- a walk to the data that found a head, and then the result of a call that appends there
appends_after : {W : Type 0} (kind : Ghosts W) (head : FileHead)
    (old mid : MediumState) (w : WriterState W) → WhereTells kind.tells (FindsData (Ok head) old mid)
    → Appends kind mid w → Appends kind old w
appends_after kind head old mid w finds on = grind (arith, common_steps)

rejected_after : (head : FileHead) (old mid new : MediumState) (e : Error)
    → FindsData (Ok head) old mid → IsNotAppended mid new e → IsNotAppended old new e
rejected_after head old mid new e finds rejected = record {
  puts = search rules;
  why = elim rejected.why [
    | inl (fault, is, names, faults) ↦ inl (
      fault,
      rw finds.contents at is,
      names,
      faults ∙ finds.faults,
    )
    | inr (is, faults) ↦ inr (is, faults ∙ ap one_more finds.faults)
  ];
}

pub answer_after : {W : Type 0} (kind : Ghosts W) (head : FileHead)
    (old mid : MediumState) (answer : Result (WriterState W) (W × Error))
    → WhereTells kind.tells (FindsData (Ok head) old mid)
    → MatchResult answer (Appends kind mid)
    (λ rejected. WhereTells kind.tells (IsNotAppended mid (kind.state rejected.0) rejected.1))
    → MatchResult answer (Appends kind old)
    (λ rejected. WhereTells kind.tells (IsNotAppended old (kind.state rejected.0) rejected.1))
answer_after kind head old mid (Ok w) finds on = appends_after kind head old mid w finds on
answer_after kind head old mid (Err rejected) finds on =
    λ modelled. rejected_after head old mid (kind.state rejected.0) rejected.1 (finds modelled) (on modelled)

-- A walk that found no head: a fault of the bytes, as each cause of a walk is one, or of the medium.
pub no_head : (IsFault : AppendFault → Type 0) (error : HeadError) (e : Error) (old new : MediumState)
    → ((cause : Cause) → RejectedFor old.contents cause → IsFault (by_bytes cause)) → old.place ≡ 0
    → ReportsError error e → FindsData (Err error) old new
    → ((fault : AppendFault) × IsFault fault × NamesFault e fault × (new.faults ≡ old.faults))
    ⊎ (IsIoError e × (new.faults ≡ one_more old.faults))
no_head IsFault (Failed x) e old new by_cause begins modelled finds =
    inr (subst IsIoError (sym modelled) tt, finds.faults)
no_head IsFault (Rejected cause) e old new by_cause begins modelled finds =
    inl (
      by_bytes cause,
      by_cause cause (subst (λ n. RejectedFor (drop n old.contents) cause) begins finds.answer),
      modelled,
      finds.faults,
    )

-- so there is nothing to append to
pub walk_fails : (error : HeadError) (e : Error) (old new : MediumState) → old.place ≡ 0
    → ReportsError error e → FindsData (Err error) old new → IsNotAppended old new e
walk_fails error e old new begins modelled finds = record {
  puts = search rules;
  why = no_head (IsAppendFault old.contents) error e old new (λ cause is. inl (cause, refl, is)) begins modelled finds;
}
