use Rattle.std.proofs.Common.{ℕ, ◌+◌, pos, Bool, true, false, nat_le, List, [], ◌∷◌, length, Result, Ok, Err, sym, subst, arith, inl, inr}
use Rattle.std.specs.List.{concat}
use Rattle.hound.specs.{AcceptAnswer, FitAnswer, Rejection, int_container, too_wide, unsupported, greatest_u32, riff_size, AnswersSession, AnswersStep, writer_after, batch_containers, containers_of, WriterState, data_length}
use Rattle.hound.specs.declared.Error.TheVariants.{OutOfMemory, TooLong, UnfinishedSample}
use Rattle.hound.specs.declared.Step.TheVariants.{Whole, Batch}
use Rattle.hound_tests.specs.Rows.{mono, stereo}
use Rattle.hound_tests.proofs.answers.wrong_answers.Goals as goal

wide_taken : (list : List (List ℕ)) → AnswersSession mono list (Whole (pos 40000) ∷ []) (Ok tt) → ⊥
unfolding int_container
wide_taken list (inl (e, is, step)) = cc
wide_taken list (inr (step, end)) = cc

pub returns-clause-passed_over : goal.returns-clause-passed_over
returns-clause-passed_over c first second third is (inl (e, modelled, session)) = cc
returns-clause-passed_over c first second third is (inr (one, inl (e, modelled, session))) = cc
returns-clause-passed_over c first second third is (inr (one, inr (two, three))) =
    let list = containers_of mono first.now in
    wide_taken list (subst (λ steps. AnswersSession mono list steps (Ok tt)) is two)

pub returns-clause-later_error : goal.returns-clause-later_error
unfolding int_container
returns-clause-later_error c (inl (e, is, step)) =
    let modelled : AnswersStep stereo [] (Whole (pos 40000)) (Err UnfinishedSample) =
    subst (λ r. AnswersStep stereo [] (Whole (pos 40000)) r) (sym is) step in
    cc
returns-clause-later_error c (inr (step, rest)) = cc

pub returns-clause-fault_as_too_long : goal.returns-clause-fault_as_too_long
unfolding int_container
returns-clause-fault_as_too_long c (inl (e, is, step)) =
    let modelled : AnswersStep mono [] (Whole (pos 11)) (Err TooLong) =
    subst (λ r. AnswersStep mono [] (Whole (pos 11)) r) (sym is) step in
    modelled
returns-clause-fault_as_too_long c (inr (step, end)) = end

pub returns-clause-unfinished_flush : goal.returns-clause-unfinished_flush
unfolding int_container
returns-clause-unfinished_flush c (inl (e, is, step)) = cc
returns-clause-unfinished_flush c (inr (step, inl (e, is, flush))) = cc
returns-clause-unfinished_flush c (inr (step, inr (flush, rest))) = omega (arith, flush)

pub returns-clause-unfinished_end : goal.returns-clause-unfinished_end
unfolding int_container
returns-clause-unfinished_end c (inl (e, is, step)) = cc
returns-clause-unfinished_end c (inr (step, end)) = omega (arith, end)

-- a call for samples lacks no memory
no_memory : {M : Type 0} (asked : Result (List (List ℕ)) Rejection) (w : WriterState M)
    → AcceptAnswer {T = Unit {0}} asked w (Err OutOfMemory) → ⊥
no_memory (Err too_wide) w answers = cc
no_memory (Err unsupported) w answers = cc
no_memory (Ok list) w answers =
    fits (nat_le (riff_size w.data_start (data_length w + length (concat list))) greatest_u32) answers
  where
    fits : (room : Bool) → FitAnswer {T = Unit {0}} room (Err OutOfMemory) → ⊥
    fits true answers = answers
    fits false answers = cc

pub returns-clause-batch_memory : goal.returns-clause-batch_memory
returns-clause-batch_memory c values (inl (e, is, step)) =
    no_memory (batch_containers mono values.now) (writer_after mono [])
    (subst (λ r. AnswersStep mono [] (Batch values) r) (sym is) step)
returns-clause-batch_memory c values (inr (step, end)) = absurd end
