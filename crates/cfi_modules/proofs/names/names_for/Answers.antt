use Rattle.std.proofs.Common.{◌≡◌, ℕ, List}
use Rattle.std.proofs.lemmas.Result.{IfOk-weaker}
use Rattle.cfi_place.specs.declared.symbols.Symbols.{Symbols}
use Rattle.cfi_place.specs.Names.{find_in}
use Rattle.cfi_modules.specs.inner.Index.{address_in, asked_in}
use Rattle.cfi_modules.specs.Order.{names_of}
use Rattle.cfi_modules.proofs.AskedLemmas.{values_asked}
use Rattle.cfi_modules.proofs.names.names_for.Goals as goal

-- no other names are asked for
pub returns : goal.returns
returns c =
    let placed = c.args.placed.now in
    let symbols = c.args.symbols.now in
    let all = address_in placed c.args.index.now in
    IfOk-weaker c.asked_names.result (λ (names : Symbols). (name : List ℕ) → find_in names name ≡ asked_in all symbols name) _
    (λ names is room own. values_asked symbols (names_of placed) all (find_in names) c.requires.names is room own)
    c.asked_names.ensures
