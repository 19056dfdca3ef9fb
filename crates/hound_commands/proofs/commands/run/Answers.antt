use Rattle.std.proofs.lemmas.Grind.{common_steps}
use Rattle.std.proofs.Common.{rules, ◌≡◌, ℕ, ◌≤◌, ◌<◌, List, [], ◌∷◌, codes, get_or, length, Result, Ok, Err, IfErr, MatchResult, inl, inr, sym, subst, arith}
use Rattle.std.specs.Borrow.{Bor}
use Rattle.hound_spec.specs.declared.spec.WavSpec.{WavSpec}
use Rattle.hound_commands.specs.Commands.{IsPackCommand, IsShowCommand, PacksUntil, SaySpec, ShowsUntil}
use Rattle.hound_commands.specs.declared.error.CommandError.{CommandError}
use Rattle.hound_spec.specs.{with_default_width}
use Rattle.hound_commands.proofs.commands.run.Goals as goal
use Rattle.hound_commands.proofs.commands.run.Goals.{in-show, in-pack+in-Some}

-- status 1 is that of a failure
failure_of_one : {T : Type 0} (P : CommandError → Type 0) (result outcome : Result T CommandError) (status : ℕ)
    → result ≡ outcome → MatchResult result (λ _. status ≡ 0) (λ _. status ≡ 1) → status ≡ 1 → IfErr outcome P
    → (failure : CommandError) × P failure
failure_of_one P result (Ok x) status is tells one holds =
    absurd (let h : status ≡ 0 = subst (λ r. MatchResult r (λ _. status ≡ 0) (λ _. status ≡ 1)) is tells in cc)
failure_of_one P result (Err failure) status is tells one holds = (failure, holds)

-- four words, of which the first is `pack` and the others say a spec
pack_words : (words : List (Bor (List ℕ))) (none : Bor (List ℕ)) (spec : WavSpec) → 4 ≤ length words → length words < 5
    → (get_or words 0 none).now ≡ codes "pack"
    → SaySpec (get_or words 1 none).now (get_or words 2 none).now (get_or words 3 none).now spec
    → IsPackCommand words spec
pack_words (a ∷ b ∷ c ∷ d ∷ []) none spec least below word says = (word, says)
pack_words _ none spec least below word says = absurd (omega arith)

pub returns-clause-failed : goal.returns-clause-failed
returns-clause-failed g c = λ one. elim c.if-words-lt2.branch [
  | in-show w ↦ let (failure, until) =
      failure_of_one (λ f. ShowsUntil (g.R.Read.remaining c.args.input.now) f (g.O.Write.contents c.args.output.now)
      (g.O.Write.contents w.show-result.new.output))
      c.if-words-lt2.result w.show-result.result c.status_of.result w.result-is c.status_of.ensures one
      w.show-result.ensures.until in
      let shows : IsShowCommand c.args.words.now = search rules in (
        failure,
        inl (
          shows,
          subst (λ o. ShowsUntil (g.R.Read.remaining c.args.input.now) failure (g.O.Write.contents c.args.output.now)
              (g.O.Write.contents o)) (sym w.output-is) until,
        ),
      )
  | in-pack+in-Some w ↦ let (failure, until) =
      failure_of_one (λ f. PacksUntil g.O.Write.contents (with_default_width w.in-Some.spec)
      (g.R.Read.remaining c.args.input.now) f c.args.output.now w.pack.new.output)
      c.if-words-lt2.result w.pack.result c.status_of.result w.result-is c.status_of.ensures one w.pack.ensures.until in
      let packs : IsPackCommand c.args.words.now w.in-Some.spec =
      pack_words c.args.words.now _ w.in-Some.spec w.in-pack.len_at_least w.in-pack.len_below w.in-pack.is-pack
      w.in-Some.ensures.said in (
        failure,
        inr (
          w.in-Some.spec,
          packs,
          subst (λ o. PacksUntil g.O.Write.contents (with_default_width w.in-Some.spec)
              (g.R.Read.remaining c.args.input.now) failure c.args.output.now o) (sym w.output-is) until,
        ),
      )
]

pub returns-in-None-clause-usage : goal.returns-in-None-clause-usage
returns-in-None-clause-usage g c = grind (arith, common_steps)

pub returns-clause-usage : goal.returns-clause-usage
returns-clause-usage g c = grind (arith, common_steps)

pub returns-clause-success : goal.returns-clause-success
returns-clause-success g c = grind (arith, common_steps)

pub returns-clause-shown : goal.returns-clause-shown
returns-clause-shown g c = grind (arith, common_steps)
