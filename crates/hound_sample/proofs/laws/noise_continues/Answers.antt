use Rattle.hound_sample.proofs.Amplitudes.{state_after-+, with_noise-append}
use Rattle.hound_sample.proofs.laws.noise_continues.Goals as goal

pub returns-clause-same : goal.returns-clause-same
returns-clause-same g c = with_noise-append g.S.Amplitude.amplitude

pub returns-clause-state : goal.returns-clause-state
returns-clause-state g c = state_after-+
