-- The faults of a placed module, in words: the layer, the fault, and its place in bytes from the module's start or the
-- number of the function or branch.
use Rattle.std.specs.Prelude.{ℕ, List, ◌++◌, codes}
use Rattle.std.specs.Fmt.{decimal}
use Rattle.cfi_verify.specs.declared.fault.VerifyFault.{VerifyFault}
use Rattle.cfi_verify.specs.declared.fault.VerifyFault.TheVariants.{Empty, Illegal, NotUnit, Slot, Functions, FallsThrough, Target, Kinds, Switch, Memory}

-- want of memory is no refusal, and has a name for completeness alone
abbrev pub verify_text : VerifyFault → List ℕ
verify_text Empty = codes "verify Empty"
verify_text (Illegal offset) = codes "verify Illegal " ++ decimal offset
verify_text (NotUnit offset) = codes "verify NotUnit " ++ decimal offset
verify_text (Slot offset) = codes "verify Slot " ++ decimal offset
verify_text (Functions function) = codes "verify Functions " ++ decimal function
verify_text (FallsThrough function) = codes "verify FallsThrough " ++ decimal function
verify_text (Target offset) = codes "verify Target " ++ decimal offset
verify_text (Kinds offset) = codes "verify Kinds " ++ decimal offset
verify_text (Switch branch) = codes "verify Switch " ++ decimal branch
verify_text Memory = codes "verify Memory"
