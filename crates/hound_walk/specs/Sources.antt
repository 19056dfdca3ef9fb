-- A source as an input.
use Rattle.std.specs.Prelude.{◌≡◌, ℕ, List, drop, ⊤, Result, Ok, Err}
use Rattle.hound_number.specs.{Account}
use Rattle.hound_medium.specs.{MediumState, one_more}
use Rattle.hound_walk.specs.Grammar.{Head, Rejected as Rejected'}
use Rattle.hound_walk.specs.declared.chunks.FileHead.{FileHead}
use Rattle.hound_walk.specs.declared.cause.HeadError.{HeadError}
use Rattle.hound_walk.specs.declared.cause.HeadError.TheVariants.{Failed, Rejected}

-- the bytes from the place on
abbrev pub unread : MediumState → List ℕ
unread s = drop s.place s.contents

-- what no read of a source changes
pub record Untouched : Type 0 where
  pub contents : List ℕ
  pub start : List ℕ
  pub past : List (ℕ × ℕ)
  pub flushed : ℕ

-- the faults, and what no read changes
abbrev pub account_of : MediumState → Account Untouched
account_of s = record {
  failures = s.faults;
  kept = record { contents = s.contents; start = s.start; past = s.past; flushed = s.flushed };
}

-- the faults after a walk: a read that failed counts one, a cause none
abbrev pub faults_after_walk : {A : Type 0} → Result A HeadError → ℕ → ℕ
faults_after_walk (Ok x) faults = faults
faults_after_walk (Err (Failed e)) faults = one_more faults
faults_after_walk (Err (Rejected c)) faults = faults

-- the result of a walk for bytes, of which `rest` is left: their head, or the cause why they have none; a failed read
-- shows nothing of them
abbrev pub AnswersBytes : Result FileHead HeadError → List ℕ → List ℕ → Type 0
AnswersBytes (Ok head) bytes rest = Head bytes head.spec_ex head.data_length head.data_start
    × (rest ≡ drop head.data_start bytes)
AnswersBytes (Err (Failed e)) bytes rest = ⊤
AnswersBytes (Err (Rejected c)) bytes rest = Rejected' bytes c

-- a walk over a source: its result is that of the bytes from the place on, and only the place moves
pub record FindsData (result : Result FileHead HeadError) (old new : MediumState) : Type 0 where
  pub answer : AnswersBytes result (unread old) (unread new)
  pub faults : new.faults ≡ faults_after_walk result old.faults
  pub contents : new.contents ≡ old.contents
  pub start : new.start ≡ old.start
  pub past : new.past ≡ old.past
  pub flushed : new.flushed ≡ old.flushed
