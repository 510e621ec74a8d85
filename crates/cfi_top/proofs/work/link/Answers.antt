use Rattle.std.proofs.Common.{◌≡◌, ◌∙◌, ℕ, List, length, Some, refl, sym, ap, subst}
use Rattle.std.specs.Prelude.{slice_get}
use Rattle.std.proofs.lemmas.Option.{slice_get_read}
use Rattle.cfi_commands.specs.Linking.{IsLinkingFault}
use Rattle.cfi_commands.specs.Modules.{IsFirstBadFile}
use Rattle.cfi_top.proofs.LinkLemmas.{bad_within, link_refused}
use Rattle.cfi_top.proofs.work.link.Goals as goal

-- a file that is no module is refused by its name
pub returns-in_ok-input-in-Err-File : goal.returns-in_ok-input-in-Err-File
returns-in_ok-input-in-Err-File c =
    let files = c.args.files in
    let inputs = c.args.inputs.now in
    let number = c.in-Err-File.number in
    let name = c.in_ok-input-in-Err-File.input in
    let bad : IsFirstBadFile files number c.in-Err-File.refusal =
    subst (IsLinkingFault files) c.in-Err-File.field-0-is c.in-Err-File.ensures.fault in
    let within = bad_within inputs files number c.in-Err-File.refusal c.requires.count bad in
    let named : slice_get inputs number ≡ Some name =
    slice_get_read inputs (length inputs) number c.index-inputs-number.result refl within c.index-inputs-number.is
    ∙ ap (λ (n : List ℕ). Some n) (sym (c.in_ok-input-in-Err-File.ensures ∙ c.as_str.ensures)) in
    link_refused c.args.output inputs files number name c.in-Err-File.refusal named bad
