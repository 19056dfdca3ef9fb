use Rattle.std.proofs.Common.{◌≡◌, ◌∙◌, ◌⊎◌, ℕ, Bool, true, false, not, Result, Ok, Err, inl, inr, ap, refl, rules, subst, sym}
use Rattle.hound.specs.{AppendFault, Error, IsFoundAt, IsIoError, IsNotRepaired, IsRepairFault, LeavesFor, LeavesPartly, MediumState, NamesFault, PartlyMended, PutsNothing, Repair, Repairs, RepairsMedium, faults_after, found_length, is_mended, mended, one_more}
use Rattle.hound_callers.proofs.callers.look_and_repair.Goals as goal

-- two calls that wrote nothing
both : (old mid new : MediumState) → PutsNothing old mid → PutsNothing mid new → PutsNothing old new
both old mid new first second = record {
  stays = record {
    contents = second.stays.contents ∙ first.stays.contents;
    start = second.stays.start ∙ first.stays.start;
    past = second.stays.past ∙ first.stays.past;
  };
  flushed = second.flushed ∙ first.flushed;
}

-- the result of a call that didn't fail counts no fault
no_fault : {T E : Type 0} (r : Result T E) (n : ℕ) → ((e : E) → r ≡ Err e → ⊥) → faults_after r n ≡ n
no_fault (Ok x) n fine = refl
no_fault (Err e) n fine = absurd (fine e refl)

rejected : {M : Type 0} (state : M → MediumState) (old : M) (r : Result (M × Repair) (M × Error))
    (e : M × Error) → r ≡ Err e → IsNotRepaired true (state old) (state e.0) e.1
    → RepairsMedium true state old r
rejected state old r e is not = subst (RepairsMedium true state old) (sym is) not

-- a repair after calls that wrote nothing and didn't fail is one of what there was before them
module _ (looks : Bool) (old mid new : MediumState) (puts : PutsNothing old mid)
    (faults : mid.faults ≡ old.faults) where
  same : mid.contents ≡ old.contents
  same = puts.stays.contents

  leaves : (put : Bool) (found : Repair) (start : ℕ) → LeavesFor put found start mid new
      → LeavesFor put found start old new
  leaves true found start (mends, flushed) =
      (subst (λ c. new.contents ≡ mended start (found_length found) c) same mends, flushed)
  leaves false found start none = both old mid new puts none

  repairs : (found : Repair) → Repairs looks mid found new → Repairs looks old found new
  repairs found is = record {
    len = is.len;
    start = is.start;
    is = subst (λ c. IsFoundAt looks c found is.len is.start) same is.is;
    leaves = leaves (is_mended (not looks) found.state) found is.start is.leaves;
    sizes = is.sizes;
    riff = is.riff;
    faults = is.faults ∙ faults;
  }

  half : LeavesPartly looks mid new → LeavesPartly looks old new
  half (inl none) = inl (both old mid new puts none)
  half (inr (found, len, start, is, state, mends)) = inr (
    found,
    len,
    start,
    subst (λ c. IsFoundAt looks c found len start) same is,
    state,
    subst (λ c. PartlyMended start (found_length found) c new.contents) same mends,
  )

  not_repaired : (e : Error) → IsNotRepaired looks mid new e → IsNotRepaired looks old new e
  not_repaired e not = record { why = why not.why }
    where
      why : ((fault : AppendFault) × IsRepairFault mid.contents fault × NamesFault e fault
          × PutsNothing mid new × (new.faults ≡ mid.faults))
          ⊎ (IsIoError e × LeavesPartly looks mid new × (new.faults ≡ one_more mid.faults))
          → ((fault : AppendFault) × IsRepairFault old.contents fault × NamesFault e fault
          × PutsNothing old new × (new.faults ≡ old.faults))
          ⊎ (IsIoError e × LeavesPartly looks old new × (new.faults ≡ one_more old.faults))
      why (inl (fault, here, names, none, all)) = inl (
        fault,
        subst (λ c. IsRepairFault c fault) same here,
        names,
        both old mid new puts none,
        all ∙ faults,
      )
      why (inr (io, left, one)) = inr (io, half left, one ∙ ap one_more faults)

pub returns-in_err-medium-2-clause-repaired : goal.returns-in_err-medium-2-clause-repaired
returns-in_err-medium-2-clause-repaired g c modelled =
    let state = g.M.Placed.state in
    let old = state c.args.medium in
    let seen = state c.in_ok-medium.medium in
    let mid = state c.go.new.self in
    let look = c.in_ok-medium.ensures.found modelled in
    let went = c.go.ensures modelled in
    let puts = both old seen mid look.puts (record { stays = went.stays; flushed = went.flushed }) in
    let faults = went.faults ∙ no_fault c.go.result seen.faults c.in_default.not-Err ∙ look.faults in
    let e = c.in_err-medium-2.field-0.0 in
    rejected state c.args.medium c.from_residual-in_err-medium-2.result e (search rules)
    (not_repaired true old mid (state e.0) puts faults e.1 (c.in_err-medium-2.ensures.repaired modelled))

pub returns-clause-repaired : goal.returns-clause-repaired
returns-clause-repaired g c modelled =
    let state = g.M.Placed.state in
    let old = state c.args.medium in
    let seen = state c.in_ok-medium.medium in
    let mid = state c.go.new.self in
    let look = c.in_ok-medium.ensures.found modelled in
    let went = c.go.ensures modelled in
    let puts = both old seen mid look.puts (record { stays = went.stays; flushed = went.flushed }) in
    let faults = went.faults ∙ no_fault c.go.result seen.faults c.in_default.not-Err ∙ look.faults in
    let done = c.in_ok-medium-2.ensures.repaired modelled in
    let same = c.a_look_finds_what_a_repair_does.ensures.found true old seen mid _ _ _ look puts.stays.contents done in
    subst (λ found. Repairs true old found (state c.in_ok-medium-2.medium)) same
    (repairs true old mid (state c.in_ok-medium-2.medium) puts faults _ done)

pub returns-clause-stored : goal.returns-clause-stored
returns-clause-stored g c modelled s len start list alone =
    c.a_repair_keeps_stored_samples.ensures.read true (g.M.Placed.state c.args.medium) _ _ s len start list
    (returns-clause-repaired g c modelled) (λ looks. alone)
