use Rattle.std.proofs.Common.{◌≡◌, [], ◌∷◌, ◌++◌, All, sym, subst, rules}
use Rattle.std.proofs.lemmas.List.Elements.{All-append, All-cons, All-nil}
use Rattle.cfi_modules.specs.Series.{CanBeTaken}
use Rattle.cfi_threads.proofs.files.modules_of.Goals as goal

-- so can one more
pub loop-source-preserved : goal.loop-source-preserved
loop-source-preserved c =
    let one = c.in_ok-one.one in
    let modules = c.loop-source.modules.items in
    let items : c.push.new.self.items ≡ modules ++ one ∷ [] = search rules in
    subst (All CanBeTaken) (sym items)
    (All-append CanBeTaken modules (one ∷ []) c.loop-source.invariant
    (All-cons CanBeTaken one [] c.in_ok-one.ensures (All-nil CanBeTaken)))
