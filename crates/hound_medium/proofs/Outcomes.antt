-- What holds for a call's outcome if it is Ok. That a weaker fact holds too is `on_ok_weaker` of std.
use Rattle.std.proofs.Common.{rules}
use Rattle.std.proofs.Common.{Result, OnOk, IsOk}

-- what holds in any case
pub on_ok : {T E : Type 0} {P : Type 0} (result : Result T E) → P → OnOk result P
on_ok result here = search rules

pub on_ok_self : {T E : Type 0} (result : Result T E) → OnOk result (IsOk result)
on_ok_self result = search rules

-- what holds if it is Ok, at one that is
pub from_ok : {T E : Type 0} {P : Type 0} (result : Result T E) → IsOk result → OnOk result P → P
from_ok result ok here = search rules
