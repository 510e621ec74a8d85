use Rattle.std.proofs.Common.{[], length, Option, refl, sym, ap, ◌∙◌}
use Rattle.std.specs.Option.{option_map_or}
use Rattle.std.proofs.lemmas.Option.{slice_get_read}
use Rattle.std.proofs.lemmas.Slice.Eq.{bytes_eq-Decides}
use Rattle.elf_read.specs.declared.object.Symbol.{Symbol}
use Rattle.cfi_ledger.proofs.finding.symbol_of.Goals as goal

pub returns-then-eq : goal.returns-then-eq
returns-then-eq c =
    let there = slice_get_read c.args.symbols.now (length c.args.symbols.now) c.loop-at.at c.index-symbols-at.result
    refl c.loop-at-test.true c.index-symbols-at.is in
    let same = (bytes_eq-Decides c.as_str.result.now c.as_str-in-loop-at.result.now).0 (sym c.if-eq.ensures) in
    ap (λ (o : Option Symbol). option_map_or (λ (s : Symbol). s.name) o []) there
    ∙ ap (λ (s : Symbol). s.name) c.index-symbols-at.is
    ∙ sym c.as_str.ensures ∙ same ∙ c.as_str-in-loop-at.ensures
