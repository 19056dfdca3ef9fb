use Rattle.std.proofs.Common.{◌≡◌, ◌++◌, ◌*◌, append_assoc}
use Rattle.hound_number.specs.{bytes_of}
use Rattle.hound_spec.proofs.header.write_waveformat.Goals as goal

pub returns : goal.returns
returns c =
    let s = c.args.spec_ex in
    let all : c.write_le_u16-4.new.self ≡ c.args.header.now ++ bytes_of 2 c.args.tag
    ++ bytes_of 2 s.spec.channels ++ bytes_of 4 s.spec.sample_rate
    ++ bytes_of 4 (s.spec.channels * s.bytes_per_sample * s.spec.sample_rate) ++ bytes_of 2
    (s.spec.channels * s.bytes_per_sample) ++ bytes_of 2 c.args.bits = cc in
    simp append_assoc at all
