use Rattle.std.proofs.Common.{◌≡◌, ◌+◌, ◌≤◌, ◌∷◌, [], ◌++◌, length, take, drop, refl, sym, ap, ◌∙◌, arith, rules}
use Rattle.std.proofs.lemmas.List.{append-nil, drop-set-lt, drop_at, length-take-le, take_at, take_more_set}
use Rattle.std.proofs.lemmas.Slice.{drop-append-drop}
use Rattle.hound_repair.specs.Repairing.{as_medium}
use Rattle.hound_repair.specs.Steps.{looks_for_chunks}
use Rattle.hound_repair.proofs.ByEffects.{repair_mends}
use Rattle.hound_repair.proofs.InPlace.{repairs_in_place}
use Rattle.hound_repair.proofs.Mending.{repairs_kept}
use Rattle.hound_repair.proofs.bytes.repair_bytes.Goals as goal

pub returns-then-not-mends-clause-repairs : goal.returns-then-not-mends-clause-repairs
returns-then-not-mends-clause-repairs c = λ finds. let looks = looks_for_chunks c.args.task in
    let file = as_medium (take c.args.used c.args.bytes.now) in
    record {
      repairs = repairs_kept looks file file _ _ _ finds.found c.requires.sound.spec
          (sym (repair_mends c.args.task c.args.damage.state c.requires.task) ∙ search rules) (search rules) refl;
      rest = refl;
    }

pub returns-then-not-lacks_pad-clause-repairs : goal.returns-then-not-lacks_pad-clause-repairs
returns-then-not-lacks_pad-clause-repairs c = λ finds. let looks = looks_for_chunks c.args.task in
    let used = c.args.used in
    let old = c.args.bytes.now in
    let new = c.set_sizes.new.bytes in
    let size : length new ≡ used = c.set_sizes.auto.bytes ∙ length-take-le used old c.requires.used in
    repairs_in_place looks used used old [] (new ++ drop used old) c.args.damage _ _ c.requires.sound
    finds (sym (repair_mends c.args.task c.args.damage.state c.requires.task) ∙ search rules) (search rules)
    (take_at new (drop used old) used size ∙ c.set_sizes.ensures ∙ sym (append-nil _))
    (drop_at new (drop used old) used size) refl

pub returns-clause-repairs : goal.returns-clause-repairs
returns-clause-repairs c = λ finds. let looks = looks_for_chunks c.args.task in
    let used = c.args.used in
    let old = c.args.bytes.now in
    let new = c.set_sizes.new.bytes in
    let all = new ++ drop used old in
    let size : length new ≡ used = c.set_sizes.auto.bytes ∙ length-take-le used old c.requires.used in
    let inside : used + 1 ≤ length all = search rules in
    repairs_in_place looks used (used + 1) old (0 ∷ []) _ c.args.damage _ _ c.requires.sound
    finds (sym (repair_mends c.args.task c.args.damage.state c.requires.task) ∙ search rules) (search rules)
    (take_more_set all used 0 (omega (arith, inside))
    ∙ ap (λ l. l ++ (0 ∷ [])) (take_at new (drop used old) used size ∙ c.set_sizes.ensures))
    (drop-set-lt (used + 1) all used 0 (omega arith) ∙ drop-append-drop used old new (used + 1) (omega arith) size) refl
