-- What contracts see of a journal besides its state as a medium: what its user set.
use Rattle.std.specs.Prelude.{◌≡◌, ℕ, ◌≤◌}
use Rattle.hound_medium.specs.State.{one_more}
use Rattle.hound_medium.specs.declared.journal.Journal.{Journal}

-- how many calls were made, which is the number of the last one
abbrev pub calls : Journal → ℕ
calls j = j.calls

-- the call with this number is to fail
abbrev pub FailsAt : Journal → ℕ → Type 0
FailsAt j number = (j.fail_from ≤ number) × (number ≤ j.fail_to)

-- the most bytes that one call takes or gives
abbrev pub greatest_count : Journal → ℕ
greatest_count j = j.most

-- the same calls are to fail, and the most bytes are the same
pub record SameRequests (old new : Journal) : Type 0 where
  pub from : new.fail_from ≡ old.fail_from
  pub to : new.fail_to ≡ old.fail_to
  pub most : new.most ≡ old.most

-- a call was made: it has the next number, and what the user set stays
pub record IsNumbered (old new : Journal) : Type 0 where
  pub number : calls new ≡ one_more (calls old)
  pub requests : SameRequests old new
