-- What is found of contents is one thing.
use Rattle.std.proofs.Common.{◌≡◌, ℕ, Bool, List, subst, sym}
use Rattle.hound_spec.specs.declared.error.Error.{Error}
use Rattle.hound_medium.specs.{MediumState}
use Rattle.hound_walk.proofs.Unique.{heads_agree}
use Rattle.hound_writer.specs.{IsIoError}
use Rattle.hound_repair.specs.Repairing.{Finds, IsFoundAt, Repairs}
use Rattle.hound_repair.specs.Steps.{IsNotRepaired}
use Rattle.hound_repair.specs.declared.look.Repair.{Repair}
use Rattle.hound_repair.proofs.Keeping.{only_io}

one_found : (looks : Bool) (contents : List ℕ) (found other : Repair) (len start m h : ℕ)
    → IsFoundAt looks contents found len start → IsFoundAt looks contents other m h → other ≡ found
one_found looks contents found other len start m h a b =
    let agree = heads_agree contents other.spec_ex found.spec_ex m len h start b.head a.head in
    let state : other.state ≡ found.state = cc (a.state, b.state, agree.0, agree.1, agree.2) in
    let frames : other.frames ≡ found.frames = cc (a.frames, b.frames, state, agree.0, agree.1, agree.2) in
    let left_over : other.left_over ≡ found.left_over =
    cc (a.left_over, b.left_over, state, agree.0, agree.1, agree.2) in
    λ i. record {
      spec_ex = agree.0 i;
      frames = frames i;
      left_over = left_over i;
      state = state i;
    }

-- a repair finds what a look did
pub found_again : (looks : Bool) (old seen next new : MediumState) (found other : Repair)
    → Finds looks old found seen → next.contents ≡ old.contents → Repairs looks next other new
    → other ≡ found
found_again looks old seen next new found other look same repair =
    one_found looks old.contents found other look.len look.start repair.len repair.start look.is
    (subst (λ c. IsFoundAt looks c other repair.len repair.start) same repair.is)

-- and fails only where its medium does
pub fails_by_medium : (looks : Bool) (old seen next new : MediumState) (found : Repair) (e : Error)
    → Finds looks old found seen → next.contents ≡ old.contents → IsNotRepaired looks next new e
    → IsIoError e
fails_by_medium looks old seen next new found e look same not =
    let is = subst (λ c. IsFoundAt looks c found look.len look.start) (sym same) look.is in
    only_io looks next new e found.spec_ex look.len look.start is.head is.check not
