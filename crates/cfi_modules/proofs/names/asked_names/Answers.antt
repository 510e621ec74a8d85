use Rattle.std.proofs.Common.{◌∙◌, Bool, ◌||◌, List, ℕ, take, if◌then◌else◌, None, sym, ap}
use Rattle.std.specs.Str.{bytes_eq}
use Rattle.cfi_modules.specs.inner.Index.{address_in}
use Rattle.cfi_modules.proofs.AskedLemmas.{asks, asks-more, asks-same}
use Rattle.cfi_modules.proofs.names.asked_names.Goals as goal
use Rattle.cfi_modules.proofs.names.asked_names.Goals.{then-is_undefined+in_ok-add_asked, else-is_undefined}

-- one symbol more
pub loop-symbol-preserved : goal.loop-symbol-preserved
loop-symbol-preserved c =
    let symbols = c.args.symbols.now in
    let i = c.loop-symbol.symbol-index in
    let s = c.symbol-item.result in
    let all = address_in c.args.placed.now c.args.index.now in
    elim c.if-is_undefined.branch [
      | then-is_undefined+in_ok-add_asked w ↦ λ q.
          let undefined = sym c.is_undefined.ensures ∙ w.if-is_undefined.true in
          rw w.names-is
          (w.in_ok-add_asked.ensures (asks (take i symbols)) c.loop-symbol.invariant q
          ∙ ap (λ (x : List ℕ). if asks (take i symbols) q || bytes_eq x q then all q else None) w.as_str.ensures
          ∙ ap (λ (b : Bool). if b then all q else None)
          (sym (asks-more symbols i s c.loop-symbol-test.true c.symbol-item.is undefined q)))
      | else-is_undefined w ↦ λ q.
          let defined = sym c.is_undefined.ensures ∙ w.if-is_undefined.false in
          rw w.names-is
          (c.loop-symbol.invariant q
          ∙ ap (λ (b : Bool). if b then all q else None)
          (sym (asks-same symbols i s c.loop-symbol-test.true c.symbol-item.is defined q)))
    ]
