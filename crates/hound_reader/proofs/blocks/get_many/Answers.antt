use Rattle.std.proofs.lemmas.Grind.{common_steps}
use Rattle.std.proofs.Common.{◌≡◌, ◌≤◌, ◌<◌, ◌+◌, ◌-◌, ◌*◌, ◌^◌, ℕ, List, [], ◌∷◌, ◌++◌, map, length, take, drop, refl, sym, ap, ◌∙◌, subst, arith, rules, IsTrue, Some, Ok, Err}
use Rattle.std.specs.Prelude.{OnOk}
use borrow.Rule.Slice.PartMut.{put_mid, same_len_mid}
use Rattle.std.proofs.lemmas.List.{length-drop, length-take-le, take-append-le}
use Rattle.std.proofs.lemmas.Nat.{mul-le}
use Rattle.hound_sample.specs.{ReadsEach, containers, error_of_sample}
use Rattle.hound_sample.specs.declared.item.SampleError.TheVariants.{Failed}
use Rattle.hound_spec.specs.declared.error.Error.TheVariants.{IoError}
use Rattle.hound_sample.proofs.Many.{drop_further}
use Rattle.hound_spec.proofs.WritableLemmas.{pair_facts}
use Rattle.hound_walk.specs.{unread}
use Rattle.hound_reader.specs.Blocks.{IsGetError, PassesBytes}
use Rattle.hound_reader.specs.Reader.{meaning_at, rejection_at}
use Rattle.hound_reader.proofs.GettingLemmas.{has_given, in_place, piece_came, rest_put, unread_after, whole_piece, why_fewer}
use Rattle.hound_reader.proofs.MemoryLemmas.{are_first, are_long, are_read, are_read_before_part, are_whole, reason_is_cut}
use Rattle.hound_reader.proofs.blocks.get_many.Goals as goal

-- the piece that was requested fits into the buffer
asked : (g : _) (c : goal.In-Err-answer g) → length c.get_all-taken.new.buf
    ≡ c.min-wanted.result * c.args.spec_ex.bytes_per_sample
asked g c = grind (arith, common_steps, length-take-le, are_whole)

-- the part of the slice for its samples
room : (g : _) (c : goal.In-Err-answer g) → length c.decode_many-count.new.samples ≡ c.min-wanted.result
room g c = grind (arith, common_steps, length-drop, length-take-le)

-- fewer samples came than were requested, since the bytes of the piece end
fewer : (g : _) (c : goal.In-Err-answer g) → c.decode_many-count.result.0 < c.min-wanted.result
fewer g c = grind (arith, common_steps, room)

-- the bytes of the piece that came
abbrev part : (g : _) (c : goal.In-Err-answer g) → List ℕ
part g c = take c.get_all-taken.result
    (c.get_all-taken.new.buf ++ drop (c.min-wanted.result * c.args.spec_ex.bytes_per_sample) c.loop-done.piece)

cut : (g : _) (c : goal.In-Err-answer g) → (c.in-Err-answer.no_sample ≡ Failed)
    × (c.get_all-taken.result < (c.decode_many-count.result.0 + 1) * c.args.spec_ex.bytes_per_sample)
cut g c = grind (arith, common_steps, length-take-le, take-append-le, reason_is_cut)

-- what came of the piece
came : (g : _) (c : goal.In-Err-answer g) → IsTrue g.R.Placed.tells
    → (take (c.loop-done.done + c.decode_many-count.result.0) (put_mid c.loop-done.done
    (c.loop-done.done + c.min-wanted.result - c.loop-done.done) c.loop-done.samples c.decode_many-count.new.samples)
    ≡ map (meaning_at g.S.Decode.value c.args.spec_ex) (containers c.args.spec_ex.bytes_per_sample
    (c.loop-done.done + c.decode_many-count.result.0) (unread (g.R.Placed.state c.args.reader.now.reader))))
    × ((c.loop-done.done + c.decode_many-count.result.0) * c.args.spec_ex.bytes_per_sample
    ≤ c.loop-done.done * c.args.spec_ex.bytes_per_sample + c.get_all-taken.result)
    × PassesBytes (c.loop-done.done * c.args.spec_ex.bytes_per_sample + c.get_all-taken.result)
    (g.R.Placed.state c.args.reader.now.reader) (g.R.Placed.state c.get_all-taken.new.reader.reader)
came g c t =
    piece_came g.S.Decode.value c.args.spec_ex c.loop-done.done c.decode_many-count.result.0 c.get_all-taken.result
    _ (c.loop-done.done + c.min-wanted.result - c.loop-done.done) c.get_all-taken.new.buf _ _ c.loop-done.samples
    c.decode_many-count.new.samples _ _ _ c.loop-done.invariant.within c.decode_many-count.ensures.front.within
    c.get_all-taken.ensures.within (c.loop-done.invariant.samples t) (c.loop-done.invariant.passes t)
    (c.get_all-taken.ensures.gets t) (take-append-le _ _ _ c.get_all-taken.ensures.within)
    c.decode_many-count.ensures.samples

pub returns-in-Err-answer-clause-front : goal.returns-in-Err-answer-clause-front
returns-in-Err-answer-clause-front g c = grind (arith, common_steps, drop_further, rest_put, fewer)

pub returns-in-Err-answer-clause-answers : goal.returns-in-Err-answer-clause-answers
returns-in-Err-answer-clause-answers g c t fault =
    let s = c.args.spec_ex in
    let w = s.bytes_per_sample in
    let meaning = meaning_at g.S.Decode.value s in
    let done = c.loop-done.done in
    let count = c.decode_many-count.result.0 in
    let taken = c.get_all-taken.result in
    let old = g.R.Placed.state c.args.reader.now.reader in
    let new = g.R.Placed.state c.get_all-taken.new.reader.reader in
    let (samples, whole, passes) = came g c t in
    let (failed, less) = cut g c in
    subst (λ reason. ReadsEach (rejection_at g.S.Decode.decode_rejection s) meaning w
    (map Ok (take (done + count) (put_mid done (done + c.min-wanted.result - done) c.loop-done.samples
    c.decode_many-count.new.samples)) ++ (Err (error_of_sample reason fault) ∷ []))
    (Some (unread old)) (Some (unread new))) (sym failed)
    (are_read_before_part meaning w (done + count) (unread old) (omega (arith, whole, passes.within)) _ samples _
    (sym c.in_default.is ∙ c.check.ensures.check) _ fault (done * w + taken) passes.within whole
    (omega (arith, less)) (unread_after _ _ _ passes))

pub returns-in-Err-answer-clause-given : goal.returns-in-Err-answer-clause-given
returns-in-Err-answer-clause-given g c t =
    let done = c.loop-done.done in
    let w = c.args.spec_ex.bytes_per_sample in
    let facts = pair_facts c.args.spec_ex.spec.sample_format c.args.spec_ex.spec.bits_per_sample w
    (c.in_default.ensures.pair refl) in
    let passes = (came g c t).2 in
    let small = mul-le done w (2 ^ 32) 4
    (omega (arith, c.loop-done.invariant.within, c.loop-done.invariant.same, c.requires.few)) facts.few in
    let fits = are_whole c.min-wanted.result _ 1024 w c.min-wanted.ensures in
    has_given _ _ _ passes (omega (arith, small, fits, asked g c, c.get_all-taken.ensures.within))

pub returns-in-Err-answer-clause-gets : goal.returns-in-Err-answer-clause-gets
returns-in-Err-answer-clause-gets g c t =
    let s = c.args.spec_ex in
    let w = s.bytes_per_sample in
    let done = c.loop-done.done in
    let count = c.decode_many-count.result.0 in
    let old = g.R.Placed.state c.args.reader.now.reader in
    let new = g.R.Placed.state c.get_all-taken.new.reader.reader in
    let fault = c.get_all-taken.new.reader.fault in
    let (samples, whole, passes) = came g c t in
    let (failed, less) = cut g c in
    let first = are_first (meaning_at g.S.Decode.value s) w (done + count) (unread old)
    (omega (arith, whole, passes.within)) _ samples in
    let long = are_long (meaning_at g.S.Decode.value s) w (done + count) (unread old)
    (omega (arith, whole, passes.within)) _ samples in
    let why = why_fewer g.S.Decode.decode_rejection s done count c.get_all-taken.result c.min-wanted.result _
    c.get_all-taken.new.buf fault old _ new c.get_all-taken.ensures.within (c.loop-done.invariant.passes t)
    (c.loop-done.invariant.faults t) (c.get_all-taken.ensures.gets t) (asked g c) (fewer g c) less in
    record {
      stays = passes.stays;
      flushed = passes.flushed;
      in_place = in_place _ _ _ passes;
      samples = first;
      ok = tt;
      err = subst (λ reason. IsGetError g.S.Decode.decode_rejection s (length (take (done + count) (put_mid done
          (done + c.min-wanted.result - done) c.loop-done.samples c.decode_many-count.new.samples))) old new
          (error_of_sample reason fault)) (sym failed)
          (subst (λ n. IsGetError g.S.Decode.decode_rejection s n old new (IoError fault)) (sym long) why);
    }

pub loop-done-smaller : goal.loop-done-smaller
loop-done-smaller g c =
    let facts = pair_facts c.args.spec_ex.spec.sample_format c.args.spec_ex.spec.bits_per_sample
    c.args.spec_ex.bytes_per_sample (c.in_default.ensures.pair refl) in
    grind (arith, common_steps, facts)

pub loop-done-preserved : goal.loop-done-preserved
loop-done-preserved g c =
    let s = c.args.spec_ex in
    let w = s.bytes_per_sample in
    let done = c.loop-done.done in
    let wanted = c.min-wanted.result in
    let count = c.decode_many-count.result.0 in
    let taken = c.get_all-taken.result in
    let xs = c.loop-done.samples in
    let values = c.decode_many-count.new.samples in
    let k = done + wanted - done in
    let front = c.decode_many-count.ensures.front in
    let old = g.R.Placed.state c.args.reader.now.reader in
    let new = g.R.Placed.state c.get_all-taken.new.reader.reader in
    let fits = are_whole wanted _ 1024 w c.min-wanted.ensures in
    let size : length c.loop-done.piece ≡ 1024 = search rules in
    let requested : length c.get_all-taken.new.buf ≡ wanted * w =
    c.get_all-taken.auto.buf ∙ length-take-le (wanted * w) c.loop-done.piece (omega (arith, fits, size)) in
    let room : length values ≡ wanted = c.decode_many-count.auto.samples
    ∙ length-take-le k (drop done xs) (omega (arith, length-drop done xs, c.min-wanted.ensures)) ∙ omega arith in
    let all : count ≡ wanted = subst (λ r. OnOk r (count ≡ length values)) c.in_default-answer.is front.full ∙ room in
    let same = same_len_mid done k xs values c.decode_many-count.auto.samples in
    let came : IsTrue g.R.Placed.tells → (take (done + count) (put_mid done k xs values)
    ≡ map (meaning_at g.S.Decode.value s) (containers w (done + count) (unread old)))
    × ((done + count) * w ≤ done * w + taken) × PassesBytes (done * w + taken) old new =
    λ t. piece_came g.S.Decode.value s done count taken _ k c.get_all-taken.new.buf _ _ xs values _ _ _
    c.loop-done.invariant.within front.within c.get_all-taken.ensures.within (c.loop-done.invariant.samples t)
    (c.loop-done.invariant.passes t) (c.get_all-taken.ensures.gets t)
    (take-append-le _ _ _ c.get_all-taken.ensures.within) c.decode_many-count.ensures.samples in
    let whole : IsTrue g.R.Placed.tells → (taken ≡ wanted * w)
    × (new.faults ≡ (g.R.Placed.state c.loop-done.reader.reader).faults) =
    λ t. whole_piece w count taken wanted _ c.get_all-taken.new.buf _ _ new c.get_all-taken.ensures.within
    (c.get_all-taken.ensures.gets t) requested
    (omega (arith, (came t).1, ap (λ n. n * w) all, ap (λ n. (done + n) * w) all)) in
    record {
      within = omega (arith, same, c.min-wanted.ensures, c.loop-done.invariant.within);
      same = same ∙ c.loop-done.invariant.same;
      rest = rest_put done k wanted xs values c.loop-done.invariant.within (omega (arith, room))
          c.decode_many-count.auto.samples
          (subst (λ n. drop n values ≡ drop n (take k (drop done xs))) all front.rest)
          ∙ drop_further done wanted xs c.args.samples.now c.loop-done.invariant.rest;
      passes = λ t. subst (λ n. PassesBytes n old new) (omega (arith, (whole t).0)) (came t).2;
      samples = λ t. subst (λ n. take (done + n) (put_mid done k xs values)
          ≡ map (meaning_at g.S.Decode.value s) (containers w (done + n) (unread old))) all (came t).0;
      faults = λ t. (whole t).1 ∙ c.loop-done.invariant.faults t;
    }

pub returns-clause-answers : goal.returns-clause-answers
returns-clause-answers g c t fault = grind (arith, common_steps, unread_after, are_read)
