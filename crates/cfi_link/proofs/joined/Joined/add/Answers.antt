-- Each list has what it had and what the module brings.
use Rattle.std.proofs.Common.{◌∙◌, ◌++◌, ◌+◌, List, ℕ, ap, sym, map}
use Rattle.std.specs.List.{enumerate_from}
use Rattle.elf_read.specs.declared.object.Reloc.{Reloc}
use Rattle.cfi_link.specs.Joined.{Joined, with_module, with_data, start_of, symbol_at, own_reloc_at, node_at, function_at, branch_at}
use Rattle.cfi_link.proofs.JoinedLemmas.{same_joined, mapped_is}
use Rattle.cfi_link.proofs.joined.Joined.add.Goals as goal

pub returns : goal.returns
unfolding with_module
returns c =
    let start = c.start-start.ensures in
    let view = c.self.view_is in
    let object = c.args.added.now.object in
    same_joined _ _
    (c.in_ok-extend_from_slice.ensures.items
    ∙ ap (λ (j : Joined). j.text ++ c.as_slice.result.now) view
    ∙ ap (λ (xs : List ℕ). c.args.self.now.text ++ xs) c.as_slice.ensures)
    (c.in_ok-push_data.ensures
    ∙ ap (λ (j : Joined). with_data j.static_data c.as_slice-2.result.now) view
    ∙ ap (λ (xs : List ℕ). with_data c.args.self.now.static_data xs) c.as_slice-2.ensures)
    (mapped_is symbol_at _ _ _ _ _ _ _ c.in_ok-push_symbols.ensures start (ap (λ (j : Joined). j.symbols) (sym view))
    c.as_slice-3.ensures)
    (mapped_is (λ s. own_reloc_at s c.self.inside.count) _ _ _ _ _ _ _ c.in_ok-push_relocs.ensures start
    (ap (λ (j : Joined). j.relocs) (sym view)) (ap (λ (xs : List Reloc). enumerate_from 0 xs) c.as_slice-4.ensures)
    ∙ ap (λ (n : ℕ). c.args.self.now.relocs
    ++ map (own_reloc_at (start_of c.args.self.now) n) (enumerate_from 0 object.relocs))
    (ap (λ (j : Joined). j.count) view))
    (mapped_is node_at _ _ _ _ _ _ _ c.in_ok-push_nodes.ensures start (ap (λ (j : Joined). j.types) (sym view))
    c.nodes.ensures)
    (mapped_is function_at _ _ _ _ _ _ _ c.in_ok-push_functions.ensures start
    (ap (λ (j : Joined). j.functions) (sym view))
    c.as_slice-5.ensures)
    (mapped_is branch_at _ _ _ _ _ _ _ c.in_ok-push_branches.ensures start (ap (λ (j : Joined). j.branches) (sym view))
    c.as_slice-6.ensures)
    (ap (λ (j : Joined). j.count + 1) view)
