use Rattle.std.proofs.Common.{All, sym, subst, ◌∙◌}
use Rattle.std.proofs.lemmas.List.Elements.{All-take}
use Rattle.cfi_labels.proofs.LoadedLemmas.{places_first}
use Rattle.cfi_ledger.specs.Force.{count_by_policy}
use Rattle.cfi_modules.proofs.GraphLemmas.{are_loaded}
use Rattle.cfi_modules.specs.Entry.{HasAddresses}
use Rattle.cfi_replay.proofs.setting.Setting.start_modules.Goals as goal

pub returns-clause-addresses : goal.returns-clause-addresses
returns-clause-addresses c =
    let r = c.args.self.now.roster.now in
    let loaded = are_loaded r.code_words r.placed c.loaded_modules.ensures.series in
    subst (All HasAddresses)
    (sym (c.loaded_modules.ensures.is ∙ places_first r c.requires.roster.many c.requires.order 0))
    (All-take HasAddresses (count_by_policy 0 r) r.placed
    (c.loaded_have_entries.ensures.addresses r.code_words r.placed loaded))
