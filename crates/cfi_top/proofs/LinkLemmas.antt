-- What is known of a file, among those that are to be linked, that is no module.
use Rattle.std.proofs.Common.{◌≡◌, ◌<◌, ℕ, List, [], length, Some, arith}
use Rattle.std.specs.Prelude.{All, slice_get}
use Rattle.std.proofs.lemmas.List.Elements.{All-weaker}
use Rattle.cfi_commands.specs.declared.refusal.Refusal.{Refusal}
use Rattle.cfi_commands.specs.declared.refusal.Refusal.TheVariants.{Link}
use Rattle.cfi_commands.specs.Modules.{IsShortFile, IsFirstBadFile}
use Rattle.cfi_request.specs.declared.command.Command.TheVariants as commands
use Rattle.cfi_commands.proofs.FileLemmas.{some_stands, some_within}
use Rattle.cfi_request.specs.Reading.{IsShort}
use Rattle.cfi_top.specs.Outcome.{Refuses}

-- files that the program reads are short enough to be modules
pub short_files : (files : List (List ℕ)) → All IsShort files → All IsShortFile files
short_files files short = All-weaker IsShort IsShortFile (λ bytes fits. omega (arith, fits)) files short

-- the file at fault is one of the inputs
pub bad_within : (inputs files : List (List ℕ)) (number : ℕ) (refusal : Refusal) → length files ≡ length inputs
    → IsFirstBadFile files number refusal → number < length inputs
bad_within inputs files number refusal count bad = omega (arith, count, some_within files number _ bad.here)

-- it is refused by its name
pub link_refused : (output : List ℕ) (inputs files : List (List ℕ)) (number : ℕ) (name : List ℕ) (refusal : Refusal)
    → slice_get inputs number ≡ Some name → IsFirstBadFile files number refusal
    → Refuses (commands.Link output inputs) files [] name refusal
link_refused output inputs files number name (Link fault) named bad =
    absurd (some_stands _ (slice_get files number) (λ bytes is. is) bad.here)
link_refused output inputs files number name refusal named bad =
    record { number = number; named = named; first = bad }
