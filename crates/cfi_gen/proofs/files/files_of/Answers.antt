use Rattle.std.proofs.Common.{◌≡◌, ◌+◌, [], ◌∷◌, All, length, sym, subst, arith, length-append, rules}
use Rattle.std.specs.Prelude.{List, ℕ}
use Rattle.std.proofs.lemmas.List.Elements.{All-push}
use Rattle.cfi_commands.specs.Modules.{IsShortFile}
use Rattle.cfi_gen.proofs.FilesLemmas.{files_grow, refused_at}
use Rattle.cfi_gen.proofs.files.files_of.Goals as goal

-- the source is refused, and those before it are not
pub returns-in-Err-clause-fault : goal.returns-in-Err-clause-fault
returns-in-Err-clause-fault c =
    let is = c.loop-one.invariant in
    let many : c.len.result ≡ c.loop-one.one-index = search rules in
    refused_at c.args.count c.args.drawn.now c.loop-one.one-index c.len.result c.one-item.result c.loop-one.files.items
    c.in-Err.fault c.at.result c.loop-one-test.true c.one-item.is many is.made c.in-Err.ensures.fault c.at.ensures

-- one file more
pub loop-one-preserved : goal.loop-one-preserved
loop-one-preserved c =
    let is = c.loop-one.invariant in
    let old = c.loop-one.files.items in
    let items = c.in_ok-push-in-Ok.ensures.items in
    record {
      made = files_grow c.args.count c.args.drawn.now c.loop-one.one-index c.one-item.result old
          c.push.new.self.items c.in-Ok.file c.loop-one-test.true c.one-item.is is.made c.in-Ok.ensures.ok items;
      many = rw items omega (arith, length-append old (c.in-Ok.file ∷ []), is.many);
      short = subst (All IsShortFile) (sym items) (All-push IsShortFile old c.in-Ok.file is.short c.in-Ok.ensures.short);
    }
