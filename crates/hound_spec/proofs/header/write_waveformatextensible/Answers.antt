use Rattle.std.proofs.Common.{◌≡◌, ◌++◌, ◌*◌, append_assoc}
use Rattle.hound_number.specs.{bytes_of}
use Rattle.hound_spec.specs.Header.{fmt_bytes, extensible, subformat, fields, mask}
use Rattle.hound_spec.proofs.header.write_waveformatextensible.Goals as goal

pub returns : goal.returns
returns c =
    let s = c.args.spec_ex in
    let all : c.write_subformat.new.header ≡ c.args.header.now ++ bytes_of 4 40 ++ fmt_bytes
    (fields extensible (8 * s.bytes_per_sample) s) ++ bytes_of 2 22 ++ bytes_of 2 s.spec.bits_per_sample ++ bytes_of 4
    (mask s.spec.channels) ++ subformat s.spec.sample_format = cc in
    simp append_assoc (simp append_assoc at all)
