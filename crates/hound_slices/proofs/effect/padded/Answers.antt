use Rattle.std.proofs.Common.{◌≡◌, ◌++◌, ◌∙◌, ◌-◌, ap, drop, length, replicate}
use Rattle.std.proofs.lemmas.List.{drop-replicate}
use Rattle.hound_slices.proofs.effect.padded.Goals as goal

pub returns : goal.returns
returns c =
    let n = length c.args.bytes.now in
    let zeros : drop n (replicate 40 0) ≡ replicate (40 - n) 0 = drop-replicate n 40 0 in
    ap (λ l. c.copy_from_slice.new.self ++ l) zeros
    ∙ ap (λ l. l ++ replicate (40 - n) 0) c.copy_from_slice.ensures.after
