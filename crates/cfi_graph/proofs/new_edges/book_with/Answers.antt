use Rattle.std.proofs.Common.{◌∙◌, ◌++◌, ◌∷◌, [], sym, ap}
use Rattle.std.proofs.lemmas.List.{map_push}
use Rattle.std.proofs.lemmas.List.Elements.{All-contains, Contains-push}
use Rattle.cfi_type_table.specs.Spelling.{AreTypes}
use Rattle.cfi_graph.proofs.OneMoreLemmas.{graph_first}
use Rattle.cfi_graph.proofs.new_edges.book_with.Goals as goal

pub book_of-requires : goal.book_of-requires
book_of-requires c = graph_first c.args.old.now c.args.new.now c.requires

pub add-requires : goal.add-requires
add-requires c =
    All-contains (λ m. AreTypes m.types) (c.args.old.now ++ c.args.new.now ∷ []) c.args.new.now c.requires.types
    (Contains-push c.args.old.now c.args.new.now)

pub returns : goal.returns
returns c =
    c.in_ok-add.ensures.ok ∙ ap (λ ts. ts ++ c.args.new.now.types ∷ []) c.in_ok-book.ensures
    ∙ sym (map_push (λ m. m.types) c.args.old.now c.args.new.now)
