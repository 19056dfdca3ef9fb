-- A repair whose caller performs what it requests.
use Rattle.std.specs.Prelude.{◌≡◌, ℕ, ◌≤◌, ◌⊎◌, ⊤, Bool, true, List, [], ◌∷◌, take, drop, Result, Ok, Err, Some, None}
use Rattle.std.specs.declared.io.Error.{Error as IoFault}
use Rattle.hound_number.specs.{bytes_of}
use Rattle.hound_medium.specs.{MediumState, overlay, placed}
use Rattle.hound_walk.specs.declared.parts.Part.TheVariants.{Front}
use Rattle.hound_writer.specs.{PutsNothing, nth}
use Rattle.hound_writer.specs.declared.effects.Action.{Action}
use Rattle.hound_writer.specs.declared.effects.Action.TheVariants.{Read, Perform}
use Rattle.hound_writer.specs.declared.effects.Effect.{Effect}
use Rattle.hound_writer.specs.declared.effects.Effect.TheVariants.{Pad, Size, Sync}
use Rattle.hound_writer.specs.declared.effects.Report.{Report}
use Rattle.hound_writer.specs.declared.effects.Report.TheVariants.{Pending, Done, Failed}
use Rattle.hound_repair.specs.Held.{held}
use Rattle.hound_repair.specs.Repairing.{IsFoundAt, IsSoundDamage, LeavesFor, found_length, repair_of}
use Rattle.hound_repair.specs.Steps.{IsAtStage, IsRejectedFor, IsShown, PartlyMended, PerformsOn, asks_for, effects_of_task, looks_for_chunks, mends_for}
use Rattle.hound_repair.specs.declared.look.Damage.{Damage}
use Rattle.hound_repair.specs.declared.look.Repair.{Repair}
use Rattle.hound_repair.specs.declared.machine.RepairError.{RepairError}
use Rattle.hound_repair.specs.declared.machine.RepairError.TheVariants as errors
use Rattle.hound_repair.specs.declared.machine.RepairStep.{RepairStep}
use Rattle.hound_repair.specs.declared.machine.RepairStep.TheVariants.{Asks, Found}
use Rattle.hound_repair.specs.declared.machine.Repairing.{Repairing}
use Rattle.hound_repair.specs.declared.machine.Repairing.TheVariants as states
use Rattle.hound_repair.specs.declared.stages.Stage.{Stage}
use Rattle.hound_repair.specs.declared.stages.Stage.TheVariants as stages
use Rattle.hound_repair.specs.declared.stages.Task.{Task}

-- what a look at a file asks for first
abbrev pub first_stage : Stage
first_stage = stages.Head (record { found = None; taken = 0; part = Front })

-- what a repair requests: to read a part, which isn't long, or an effect
abbrev pub IsRequest : Action → Type 0
IsRequest (Read place count) = count ≤ 40
IsRequest (Perform effect) = ⊤
IsRequest action = ⊥

-- What a caller did of what was requested, by its report: it read the part into these bytes, performed the effect, or
-- failed to. Without a report it may have done any of this, or nothing.
abbrev pub DoesFor : Bool → Action → List ℕ → Report → MediumState → MediumState → Type 0
DoesFor keeps (Read place count) bytes Done old new =
    (bytes ≡ take count (drop place old.contents)) × PutsNothing old new
DoesFor keeps (Read place count) bytes report old new = PutsNothing old new
DoesFor keeps (Perform effect) bytes Done old new = PerformsOn keeps effect (Ok tt) old new
DoesFor keeps (Perform effect) bytes Failed old new = (fault : IoFault) × PerformsOn keeps effect (Err fault) old new
DoesFor keeps (Perform effect) bytes Pending old new = (new ≡ old)
    ⊎ ((result : Result (Unit {0}) IoFault) × PerformsOn keeps effect result old new)
DoesFor keeps action bytes report old new = ⊥

-- the contents after effects
abbrev pub contents_after : List Effect → List ℕ → List ℕ
contents_after [] c = c
contents_after (Sync ∷ effects) c = contents_after effects c
contents_after (Pad at ∷ effects) c = contents_after effects (overlay c (placed at (0 ∷ [])))
contents_after (Size at size ∷ effects) c = contents_after effects (overlay c (placed at (bytes_of 4 size)))

-- the contents after an effect was tried, once or more often: first bytes of what it writes are there, or none
abbrev pub IsTried : Effect → List ℕ → List ℕ → Type 0
IsTried Sync c new = new ≡ c
IsTried (Pad at) c new = (j : ℕ) × (j ≤ 1) × (new ≡ overlay c (placed at (take j (0 ∷ []))))
IsTried (Size at size) c new = (j : ℕ) × (j ≤ 4) × (new ≡ overlay c (placed at (take j (bytes_of 4 size))))

-- a file with these contents was found so, and is to be mended by the effects that the task has for it
pub record IsFoundIn (task : Task) (c : List ℕ) (d : Damage) : Type 0 where
  pub sound : IsSoundDamage d
  pub found : IsFoundAt (looks_for_chunks task) c (repair_of d) d.head.data_length d.head.data_start
  pub held_is : d.held ≡ held d.head.data_start c
  pub shown : IsShown c d.head

-- the effects before the one with this number were performed, and that one was tried
abbrev pub IsMidway : Task → List ℕ → Damage → ℕ → Effect → List ℕ → Type 0
IsMidway task c d number effect new = IsFoundIn task c d × (nth (effects_of_task task d) number ≡ Some effect)
    × IsTried effect (contents_after (take number (effects_of_task task d)) c) new

-- What has become of a medium, of n bytes, whose file is repaired, by where the repair is and what it has just
-- answered: nothing was written while it looks, then the effects are performed one after the other, and once something
-- is found, all is done that the task does to such a file.
abbrev pub IsUnderRepair : Task → ℕ → MediumState → Repairing → Result RepairStep RepairError → MediumState → Type 0
IsUnderRepair task n old (states.Looks stage) (Ok (Asks action)) new =
    (action ≡ asks_for stage n) × IsAtStage (looks_for_chunks task) old.contents stage × PutsNothing old new
IsUnderRepair task n old (states.Looks stage) (Err (errors.Rejected why)) new =
    IsRejectedFor old.contents why × PutsNothing old new
IsUnderRepair task n old (states.Mends head number) (Ok (Asks action)) new =
    (d : Damage) × (effect : Effect) × (d.head ≡ head) × (action ≡ Perform effect)
    × IsMidway task old.contents d number effect new.contents
IsUnderRepair task n old (states.Found head state) (Ok (Found d)) new = IsFoundIn task old.contents d
    × LeavesFor (mends_for task d.state) (repair_of d) d.head.data_start old new
IsUnderRepair task n old (states.Failed failure) (Err (errors.Failed said)) new = PutsNothing old new
    ⊎ ((d : Damage) × (number : ℕ) × (effect : Effect) × IsMidway task old.contents d number effect new.contents)
IsUnderRepair task n old state answer new = ⊥

-- nothing was written, or the file is partly mended, for the frames that were found in it
abbrev pub IsPartlyRepaired : Task → MediumState → MediumState → Type 0
IsPartlyRepaired task old new = PutsNothing old new
    ⊎ ((found : Repair) × (len : ℕ) × (start : ℕ) × IsFoundAt (looks_for_chunks task) old.contents found len start
    × (mends_for task found.state ≡ true) × PartlyMended start (found_length found) old.contents new.contents)
