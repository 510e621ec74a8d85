use Rattle.std.proofs.Common.{◌≡◌, ◌&&◌, Some, None, if◌then◌else◌, ℕ, List, sym, ap, ◌∙◌, arith}
use Rattle.std.specs.Option.{option_or}
use Rattle.std.specs.Str.{bytes_eq}
use Rattle.cfi_graph.specs.Code.{entry_of}
use Rattle.cfi_graph.specs.Named.{entry_by}
use Rattle.cfi_graph.specs.inner.Imports.{imports_in}
use Rattle.cfi_graph.proofs.AddsLemmas.{on_ok}
use Rattle.cfi_graph.proofs.BoundLemmas.{inside}
use Rattle.cfi_graph.proofs.imports.Imports.add_function.Goals as goal

pub overflow_add-entry : goal.overflow_add-entry
overflow_add-entry c =
    let ends = (inside c.args.placed.now c.requires.shaped c.args.function.now c.requires.has).ends in
    let last = c.requires.shaped.1.ends in
    omega (arith, ends, last)

pub overflow_mul-entry : goal.overflow_mul-entry
overflow_mul-entry c =
    let ends = (inside c.args.placed.now c.requires.shaped c.args.function.now c.requires.has).ends in
    let last = c.requires.shaped.1.ends in
    omega (arith, ends, last)

pub returns : goal.returns
returns c =
    let m = c.args.placed.now in
    let f = c.args.function.now in
    let old = imports_in c.args.self.now in
    let new = imports_in c.add.new.self in
    on_ok c.add.result
    ((other : List ℕ) → new other
    ≡ option_or (old other) (if bytes_eq c.as_str.result.now other then Some (entry_of m f) else None))
    ((name : List ℕ) → new name ≡ option_or (old name) (entry_by m name f))
    (λ adds name.
    let named : (if bytes_eq c.as_str.result.now name then Some (entry_of m f) else None)
    ≡ (if bytes_eq f.name name then Some (entry_of m f) else None) =
    ap (λ n. if bytes_eq n name then Some (entry_of m f) else None) c.as_str.ensures in
    let global : (if bytes_eq f.name name then Some (entry_of m f) else None) ≡ entry_by m name f =
    ap (λ b. if b && bytes_eq f.name name then Some (entry_of m f) else None) (sym c.if-not-function.false) in
    adds name ∙ ap (option_or (old name)) (named ∙ global))
    c.add.ensures
