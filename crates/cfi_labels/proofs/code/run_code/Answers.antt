use Rattle.std.proofs.Common.{◌∙◌, ℕ, List, IfOk, sym, subst}
use Rattle.cfi_aux.specs.declared.placed.Placed.{Placed}
use Rattle.cfi_ledger.specs.Roster.{origin_of}
use Rattle.cfi_policy.proofs.EdgeLemmas.{apart_in}
use Rattle.cfi_policy.specs.Code.{IsCodeOf, LieApart}
use Rattle.cfi_valid.proofs.KeptLemmas.{places_are}
use Rattle.cfi_labels.proofs.code.run_code.Goals as goal

pub code_of-requires : goal.code_of-requires
code_of-requires c =
    let r = c.args.roster.now in
    let graph = c.series_have_graph.ensures r.code_words r.placed c.modules.ensures.series in
    let have = c.loaded_have_image.ensures r.code_words r.placed c.modules.ensures.loaded graph in
    subst (λ (ms : List Placed). LieApart ms c.args.layout.now) (sym c.modules.ensures.value)
    (subst (λ (words : ℕ). LieApart r.placed words) (sym c.requires.layout) (apart_in r.placed r.code_words have))

-- the roster's modules are what placing made of the loaded ones
pub returns : goal.returns
returns c =
    let r = c.args.roster.now in
    subst (λ (ms : List Placed). IfOk c.code_of.result (IsCodeOf ms c.args.layout.now))
    (c.modules.ensures.value ∙ sym (places_are origin_of r.lines r.placed c.requires.lined)) c.code_of.ensures
