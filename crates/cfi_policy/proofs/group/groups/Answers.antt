use Rattle.std.proofs.Common.{◌≡◌, ◌∙◌, ℕ, ◌+◌, ◌<◌, ◌==◌, true, false, [], ◌∷◌, ◌++◌, length, Vec, Global, vec_len, sym, ap, subst, inl, inr, arith}
use Rattle.std.proofs.lemmas.Bool.{cases_lt, eq-eqb, eqb-true, false≢true}
use Rattle.cfi_word.specs.declared.sizes.TheConstants.{SLOTS}
use Rattle.cfi_word.specs.declared.limits.TheConstants.{MAX_CODE_WORDS}
use Rattle.cfi_class.specs.Labels.{HasEdge, AreNumbers, AreOrderedBySlot}
use Rattle.cfi_graph.specs.Direct.{DirectEdge}
use Rattle.cfi_graph.specs.Edges.{SpanDirectEdges}
use Rattle.cfi_policy.specs.Group.{AreGroups}
use Rattle.cfi_policy.specs.inner.Idle.{AreIdle}
use Rattle.cfi_policy.proofs.EdgeLemmas.{within_code, spans}
use Rattle.cfi_policy.proofs.OrderLemmas.{idle_group, groups_of_classes, groups_and_idle}
use Rattle.cfi_policy.proofs.SpansLemmas.{spanned_numbers, spanned_order}
use Rattle.cfi_policy.proofs.group.groups.Goals as goal
use Rattle.cfi_policy.proofs.group.groups.Goals.{then-not-is_empty+in_ok-push, else-not-is_empty}
use Rattle.std.proofs.lemmas.List.{nil_from_length}

some_by_test : (idle : Vec ℕ Global) → (vec_len idle == 0) ≡ false → 0 < length idle.items
some_by_test idle test =
    elim (cases_lt 0 (length idle.items)) [
      | inl some ↦ some
      | inr none ↦
          let is : vec_len idle ≡ 0 = omega (arith, idle.ok, none) in
          absurd (false≢true (sym test ∙ eq-eqb (vec_len idle) 0 is))
    ]

none_by_test : (idle : Vec ℕ Global) → (vec_len idle == 0) ≡ true → idle.items ≡ []
none_by_test idle test =
    let is : vec_len idle ≡ 0 = eqb-true (vec_len idle) 0 test in
    nil_from_length idle.items (omega (arith, idle.ok, is))

pub numbers-requires-clause-within : goal.numbers-requires-clause-within
numbers-requires-clause-within c =
    let ms = c.args.modules.now in
    let span = subst (λ es. SpanDirectEdges ms es) (sym c.as_slice.ensures.value) c.in_ok-edges.ensures.edges in
    within_code ms c.as_slice.result.now span.sound c.requires

-- the groups of the classes, and that of the branches without one where there are some
pub returns : goal.returns
returns c =
    let ms = c.args.modules.now in
    let edges = c.as_slice.result.now in
    let tary = c.in_ok-labels.labels.tary in
    let bary = c.in_ok-labels.labels.bary in
    let idle = c.in_ok-idle.idle.items in
    let classes = c.in_ok-groups.groups.items in
    let span = subst (λ es. SpanDirectEdges ms es) (sym c.as_slice.ensures.value) c.in_ok-edges.ensures.edges in
    let few = spans ms edges span in
    let are : AreNumbers (DirectEdge ms) SLOTS (MAX_CODE_WORDS + 1) tary bary =
    spanned_numbers (HasEdge edges) (DirectEdge ms) few SLOTS (MAX_CODE_WORDS + 1) tary bary
    c.in_ok-labels.ensures.labels in
    let order : AreOrderedBySlot (DirectEdge ms) bary =
    spanned_order (HasEdge edges) (DirectEdge ms) few bary c.in_ok-labels.ensures.order in
    let no_class : AreIdle ms bary idle =
    subst (λ list. AreIdle ms list idle) c.as_slice-2.ensures c.in_ok-idle.ensures in
    let found = c.in_ok-groups.ensures in
    subst (AreGroups ms) (sym c.from_vec-2.ensures)
    (elim c.if-not-is_empty.branch [
      | then-not-is_empty+in_ok-push w ↦
          let some : 0 < length idle = some_by_test c.in_ok-idle.idle
          (sym c.is_empty.ensures ∙ w.if-not-is_empty.true) in
          let own : record (idle_group w.from_vec.result) { targets = w.from_vec-then-not-is_empty.result } ≡ idle_group idle =
          ap (λ slots. record (idle_group slots) { targets = w.from_vec-then-not-is_empty.result }) w.from_vec.ensures
          ∙ ap (λ targets. record (idle_group idle) { targets = targets }) (w.from_vec-then-not-is_empty.ensures ∙ w.new.ensures.items) in
          let is = ap (λ v. v.items) w.groups-is ∙ w.in_ok-push.ensures.items
          ∙ ap (λ group. classes ++ group ∷ []) own in
          subst (AreGroups ms) (sym is)
          (groups_and_idle ms c.requires.apart tary bary are order classes found idle no_class some)
      | else-not-is_empty w ↦
          let none : idle ≡ [] = none_by_test c.in_ok-idle.idle (sym c.is_empty.ensures ∙ w.if-not-is_empty.false) in
          subst (AreGroups ms) (sym (ap (λ v. v.items) w.groups-is))
          (groups_of_classes ms c.requires.apart tary bary are order classes found idle no_class none)
    ])
