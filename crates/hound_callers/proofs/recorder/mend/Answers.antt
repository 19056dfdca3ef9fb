use Rattle.std.proofs.Common.{ap, subst, sym}
use Rattle.hound.specs.{HasData, Performed, Recorder, effects_of}
use Rattle.hound_callers.proofs.recorder.mend.Goals as goal

pub returns-clause-performed : goal.returns-clause-performed
returns-clause-performed g c tells keeps start repeats =
    let is = c.begin_mending.ensures in
    let (end, result, ok, done, now) = c.perform_all.ensures.performed tells keeps start repeats
    (ap (λ (x : Recorder). x.phase) is)
    (subst (λ (r : Recorder). HasData r r.data_length) (sym is) c.requires.resumed.3) in
    (end, result, ok, subst (λ l. Performed l result start end) (ap effects_of is) done, now)
