use Rattle.std.proofs.Common.{◌≡◌, ◌∙◌, ◌+◌, ◌≤◌, ◌++◌, ◌∷◌, [], length, ap, sym, subst, arith}
use Rattle.std.proofs.lemmas.List.Elements.{All-contains, Contains-push}
use Rattle.cfi_word.specs.Table.{slots_of}
use Rattle.cfi_class.specs.Labels.{CanBeLabelled}
use Rattle.cfi_class.specs.Kept.{AreLabelsOf, AreKept}
use Rattle.cfi_graph.specs.KeptGraph.{IsGraphOf, IsLonger, SpanEdges}
use Rattle.cfi_policy.specs.Book.{labels_of, PutsWords}
use Rattle.cfi_policy.proofs.BookLemmas.{spans_direct, last_direct, numbers_kept, labels_standing, code_more}
use Rattle.cfi_policy.proofs.EdgeLemmas.{can_be_labelled}
use Rattle.cfi_policy.proofs.book.Book.extended.Goals as goal

pub extended-requires-clause-is : goal.extended-requires-clause-is
extended-requires-clause-is c =
    subst (IsGraphOf c.args.old.now) (sym (ap (λ b. b.graph) c.self.view_is)) c.requires.stands.graph

pub behind-fresh-requires : goal.behind-fresh-requires
behind-fresh-requires c =
    subst (λ es. IsLonger es c.edges-2.result.now) (sym c.edges.ensures.value)
    (subst (λ es. IsLonger c.self.inside.graph.flow.edges es) (sym c.edges-2.ensures.value) c.in_ok-graph.ensures.edges)

-- the edges that the module brings can be labelled
pub joined-requires : goal.joined-requires
joined-requires c =
    let ms = c.args.old.now ++ c.args.new.now ∷ [] in
    let edges = c.edges-2.result.now in
    let fresh = c.behind-fresh.result.now in
    let kept = c.self.inside.kept in
    let code_words = length c.args.self.now.image.tary in
    let span : SpanEdges ms edges = c.edges-2.ensures.spans ms c.requires.modules.graph c.in_ok-graph.ensures.is in
    let same = ap (λ b. length b.image.tary) c.self.view_is in
    let words : length kept.tary ≡ code_words = ap (λ l. length l.tary) c.self.invariant.same ∙ same in
    let slots : c.slots.result ≡ slots_of code_words =
    c.slots.ensures ∙ ap slots_of (sym c.self.invariant.words ∙ same) in
    subst (λ n. CanBeLabelled fresh n (length kept.tary)) (sym slots)
    (subst (λ n. CanBeLabelled fresh (slots_of code_words) n) (sym words)
    (can_be_labelled ms fresh (last_direct ms c.edges.result.now fresh edges c.behind-fresh.ensures span) code_words
    c.requires.modules))

pub with_words-requires : goal.with_words-requires
with_words-requires c =
    let ms = c.args.old.now ++ c.args.new.now ∷ [] in
    let fits = All-contains (λ m. m.base + length m.words ≤ length c.args.self.now.image.tary) ms c.args.new.now
    c.requires.modules.words (Contains-push c.args.old.now c.args.new.now) in
    let same = ap (λ b. length b.image.tary) c.self.view_is in
    let code = ap (λ xs. length xs) c.as_slice.ensures in
    omega (arith, fits, same, code, c.self.invariant.words, c.self.invariant.code)

pub returns-clause-stands : goal.returns-clause-stands
returns-clause-stands c =
    let book = c.args.self.now in
    let image = c.in_ok-image.image in
    let edges = c.edges-2.result.now in
    let numbers : AreKept edges (labels_of book.image) (labels_of image) =
    numbers_kept c.args.old.now book image c.self.inside.kept c.in_ok-kept.kept c.edges.result.now
    c.behind-fresh.result.now edges c.requires.stands
    (c.edges.ensures.value ∙ ap (λ b. b.graph.flow.edges) c.self.view_is)
    (c.self.invariant.same ∙ ap (λ b. labels_of b.image) c.self.view_is)
    (c.in_ok-image.ensures.labels ∙ c.labels.ensures) c.behind-fresh.ensures c.in_ok-kept.ensures.labels in
    record {
      graph = c.in_ok-graph.ensures.is;
      labels = subst (λ es. AreLabelsOf es (labels_of image)) c.edges-2.ensures.value numbers.labels;
    }

pub returns-clause-kept : goal.returns-clause-kept
returns-clause-kept c =
    let ms = c.args.old.now ++ c.args.new.now ∷ [] in
    let book = c.args.self.now in
    let image = c.in_ok-image.image in
    let edges = c.edges-2.result.now in
    let span : SpanEdges ms edges = c.edges-2.ensures.spans ms c.requires.modules.graph c.in_ok-graph.ensures.is in
    record {
      edges = edges;
      span = spans_direct ms edges span;
      kept = numbers_kept c.args.old.now book image c.self.inside.kept c.in_ok-kept.kept c.edges.result.now
          c.behind-fresh.result.now edges c.requires.stands
          (c.edges.ensures.value ∙ ap (λ b. b.graph.flow.edges) c.self.view_is)
          (c.self.invariant.same ∙ ap (λ b. labels_of b.image) c.self.view_is)
          (c.in_ok-image.ensures.labels ∙ c.labels.ensures) c.behind-fresh.ensures c.in_ok-kept.ensures.labels;
    }

pub returns-clause-code : goal.returns-clause-code
returns-clause-code c =
    let new = c.args.new.now in
    subst (λ code. PutsWords new c.args.self.now.image.code code) (sym c.in_ok-image.ensures.code)
    (subst (λ code. PutsWords new code c.in_ok-code.code) (c.as_slice.ensures ∙ ap (λ b. b.image.code) c.self.view_is)
    c.in_ok-code.ensures)

pub returns-clause-labels : goal.returns-clause-labels
returns-clause-labels c =
    let ms = c.args.old.now ++ c.args.new.now ∷ [] in
    let book = c.args.self.now in
    let image = c.in_ok-image.image in
    let edges = c.edges-2.result.now in
    let code_words = length book.image.tary in
    let span : SpanEdges ms edges = c.edges-2.ensures.spans ms c.requires.modules.graph c.in_ok-graph.ensures.is in
    let numbers : AreKept edges (labels_of book.image) (labels_of image) =
    numbers_kept c.args.old.now book image c.self.inside.kept c.in_ok-kept.kept c.edges.result.now
    c.behind-fresh.result.now edges c.requires.stands
    (c.edges.ensures.value ∙ ap (λ b. b.graph.flow.edges) c.self.view_is)
    (c.self.invariant.same ∙ ap (λ b. labels_of b.image) c.self.view_is)
    (c.in_ok-image.ensures.labels ∙ c.labels.ensures) c.behind-fresh.ensures c.in_ok-kept.ensures.labels in
    labels_standing ms edges image code_words span numbers.labels numbers.size

pub returns-clause-all : goal.returns-clause-all
returns-clause-all c =
    let new = c.args.new.now in
    let book = c.args.self.now in
    let image = c.in_ok-image.image in
    let puts : PutsWords new book.image.code image.code =
    subst (λ code. PutsWords new book.image.code code) (sym c.in_ok-image.ensures.code)
    (subst (λ code. PutsWords new code c.in_ok-code.code) (c.as_slice.ensures ∙ ap (λ b. b.image.code) c.self.view_is)
    c.in_ok-code.ensures) in
    λ all apart before. code_more all new (length book.image.tary) book.image.code image.code apart before puts
