use Rattle.std.proofs.Common.{◌≡◌, ◌++◌, take, flat_map}
use Rattle.std.specs.Prelude.{string_bytes}
use Rattle.cfi_gen.specs.Source.{addition}
use Rattle.cfi_gen.proofs.source.put_additions.Given as goal

-- the lines so far
abbrev pub invariant-loop-constant : goal.invariant-loop-constant
invariant-loop-constant l =
    string_bytes l.text ≡ string_bytes l.fn.text ++ flat_map addition (take l.constant-index l.constants)
