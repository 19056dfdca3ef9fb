use Rattle.std.proofs.Common.{◌≡◌, false, if◌then◌else◌, Err, refl, rules, subst, sym}
use Rattle.hound_spec.specs.declared.error.Error.TheVariants.{Unsupported}
use Rattle.hound_sample.specs.{int_container, unsupported}
use Rattle.hound_writer.specs.{Accepts, containers_in}
use Rattle.hound_writer.proofs.Accepting.{accepts_rejected}
use Rattle.hound.specs.Run.{is_sixteen}
use Rattle.hound.proofs.runs.write_batch.Goals as goal

pub returns-then-not-is_sixteen : goal.returns-then-not-is_sixteen
returns-then-not-is_sixteen g c =
    let W = g.M.Placed in
    let old = c.args.writer.now in
    let other : is_sixteen old.spec_ex.spec ≡ false = search rules in
    subst (λ b. Accepts W (if b then containers_in int_container old.spec_ex c.args.values.now else Err unsupported)
    (Err Unsupported) old old) (sym other)
    (accepts_rejected W old (Err unsupported) Unsupported
    c.spec.ensures.valid.counts (g.met.M.Medium.replays old.medium) refl (λ _. refl) refl)
