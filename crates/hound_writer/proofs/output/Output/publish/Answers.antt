use Rattle.std.proofs.lemmas.Grind.{common_steps}
use Rattle.std.proofs.Common.{Ok, inl, refl, arith}
use Rattle.std.proofs.lemmas.Bool.{true≢false}
use Rattle.hound_writer.proofs.Keeping.{consistent_gone}
use Rattle.hound_writer.proofs.PatchMoments.{patches_still}
use Rattle.hound_writer.proofs.Patching.{cut}
use Rattle.hound_writer.proofs.Publishing.{consistent_patched}
use Rattle.hound_writer.proofs.output.Output.publish.Goals as goal

pub invariant_of-self : goal.invariant_of-self
invariant_of-self g c =
    consistent_patched g.W.Placed _ _ _ _ _ c.patch.result c.self.invariant
    c.patch.ensures.patches

pub invariant_of-self-then-not-continues : goal.invariant_of-self-then-not-continues
invariant_of-self-then-not-continues g c =
    consistent_patched g.W.Placed _ _ _ _ _ c.patch.result c.self.invariant
    c.patch.ensures.patches

pub invariant_of-self-in_err-go : goal.invariant_of-self-in_err-go
invariant_of-self-in_err-go g c =
    let W = g.W.Placed in
    consistent_gone W _ _ _ _ _
    (consistent_patched W _ c.patch.new.medium _ _ _ c.patch.result c.self.invariant
    c.patch.ensures.patches) (λ modelled. (c.in_err-go.ensures modelled).stays.contents)
    (λ modelled is. absurd (true≢false is))

pub invariant_of-self-2 : goal.invariant_of-self-2
invariant_of-self-2 g c =
    let W = g.W.Placed in
    consistent_gone W _ _ _ _ _
    (consistent_patched W _ c.patch.new.medium _ _ _ c.patch.result c.self.invariant
    c.patch.ensures.patches) (λ modelled. (c.in_ok-go.ensures modelled).stays.contents)
    (λ modelled _. (c.in_ok-go.ensures modelled).place)

pub returns-in_err-go-clause-patches : goal.returns-in_err-go-clause-patches
returns-in_err-go-clause-patches g c tells = grind (arith, common_steps, cut)

pub returns-clause-moments : goal.returns-clause-moments
returns-clause-moments g c tells keeps =
    let go = c.in_ok-go.ensures tells in
    rw (← c.self.view_is)
    (patches_still _ _ _ _ (Ok tt) _ _ _ (g.met.W.Medium.replays _ tells keeps) go.stays (inl go.flushed) refl
    (rw c.riff_size-riff_size.ensures at (c.in_ok-patch.ensures.moments tells keeps)))

pub patch-requires-clause-inside : goal.patch-requires-clause-inside
patch-requires-clause-inside g c = grind (arith, common_steps)
