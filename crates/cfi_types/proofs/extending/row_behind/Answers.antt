use Rattle.std.proofs.Common.{◌≡◌, ℕ, ◌+◌, ◌-◌, ◌<◌, ◌^◌, [], ◌∷◌, ◌++◌, List, All, length, get_or, ap, sym, subst, ◌∙◌, rules}
use Rattle.std.specs.Prelude.{IfOk, map}
use Rattle.cfi_type_table.specs.Node.{Node}
use Rattle.cfi_types.specs.Classes.{AreClasses}
use Rattle.cfi_types.specs.inner.Depth.{digests_to}
use Rattle.cfi_types.specs.inner.Extending.{AreBack, renumbered}
use Rattle.cfi_types.specs.declared.near.TheConstants.{DEPTH}
use Rattle.cfi_types.proofs.PreparedLemmas.{IsPrepared, near_types, back_row}
use Rattle.cfi_types.proofs.ExtendLemmas.{fitting, extended_result}
use Rattle.cfi_types.proofs.extending.row_behind.Goals as goal

pub classes_of-requires-clause-types : goal.classes_of-requires-clause-types
classes_of-requires-clause-types c =
    let new = c.args.table.now in
    let near = c.in_ok-all.field-0.tables.items in
    let list : c.as_slice.result.now ≡ near ++ new ∷ [] =
    c.as_slice.ensures.value ∙ c.in_ok-push.ensures.items ∙ ap (λ (x : List Node). near ++ x ∷ []) c.again.ensures in
    near_types c.args.tables.now c.args.kept.now (digests_to DEPTH new) new c.in_ok-all.field-0.numbers.items near
    c.as_slice.result.now c.requires.types c.requires.more c.in_ok-all.ensures.near list

pub back_of-requires-clause-shape : goal.back_of-requires-clause-shape
back_of-requires-clause-shape c =
    let new = c.args.table.now in
    let near = c.in_ok-all.field-0.tables.items in
    let list : c.as_slice.result.now ≡ near ++ new ∷ [] =
    c.as_slice.ensures.value ∙ c.in_ok-push.ensures.items ∙ ap (λ (x : List Node). near ++ x ∷ []) c.again.ensures in
    let owns : AreClasses (near ++ new ∷ []) c.in_ok-own.own =
    subst (λ (xs : List (List Node)). AreClasses xs c.in_ok-own.own) list c.in_ok-own.ensures in
    let numbers : c.as_slice-2.result.now ≡ c.in_ok-all.field-0.numbers.items = c.as_slice-2.ensures.value in
    let prepared : IsPrepared c.args.tables.now c.args.kept.now new c.in_ok-all.field-0.numbers.items near c.in_ok-own.own =
    record {
      types = c.requires.types;
      more = c.requires.more;
      classes = c.requires.kept;
      is_near = c.in_ok-all.ensures.near;
      owns = owns;
    } in
    let shape : (ns : List ℕ) → ns ≡ c.in_ok-all.field-0.numbers.items → (i : ℕ) → i < length ns
    → length (get_or c.in_ok-own.own i []) ≡ length (get_or c.args.kept.now (get_or ns i 0) []) =
    λ ns is. subst (λ (ms : List ℕ). (i : ℕ) → i < length ms
    → length (get_or c.in_ok-own.own i []) ≡ length (get_or c.args.kept.now (get_or ms i 0) [])) (sym is)
    (back_row prepared) in
    shape c.as_slice-2.result.now numbers

pub renumber_all-requires : goal.renumber_all-requires
renumber_all-requires c =
    let new = c.args.table.now in
    let near = c.in_ok-all.field-0.tables.items in
    let numbers = c.in_ok-all.field-0.numbers.items in
    let own = c.in_ok-own.own in
    let back = c.in_ok-back.back.items in
    let list : c.as_slice.result.now ≡ near ++ new ∷ [] =
    c.as_slice.ensures.value ∙ c.in_ok-push.ensures.items ∙ ap (λ (x : List Node). near ++ x ∷ []) c.again.ensures in
    let owns : AreClasses (near ++ new ∷ []) own =
    subst (λ (xs : List (List Node)). AreClasses xs own) list c.in_ok-own.ensures in
    let prepared : IsPrepared c.args.tables.now c.args.kept.now new numbers near own =
    record {
      types = c.requires.types;
      more = c.requires.more;
      classes = c.requires.kept;
      is_near = c.in_ok-all.ensures.near;
      owns = owns;
    } in
    let is_back : AreBack own c.args.kept.now numbers (length numbers) back =
    subst (λ (ns : List ℕ). AreBack own c.args.kept.now ns (length ns) back) c.as_slice-2.ensures.value
    c.in_ok-back.ensures in
    let len : c.len.result ≡ length numbers = c.len.ensures ∙ search rules in
    let row : c.row.result.now ≡ get_or own (length numbers) [] =
    c.row.ensures ∙ ap (λ (n : ℕ). get_or own n []) len in
    let next = c.in_ok-all.field-0.next in
    let small = fitting prepared is_back c.in_ok-all.ensures.next c.requires.fits in
    subst (λ (bs : List ℕ). All (λ o. next + (o - length bs) < 2 ^ 32) c.row.result.now) (sym c.as_slice-3.ensures.value)
    (subst (λ (os : List ℕ). All (λ o. next + (o - length back) < 2 ^ 32) os) (sym row) small)

pub returns : goal.returns
returns c =
    let new = c.args.table.now in
    let near = c.in_ok-all.field-0.tables.items in
    let numbers = c.in_ok-all.field-0.numbers.items in
    let own = c.in_ok-own.own in
    let back = c.in_ok-back.back.items in
    let list : c.as_slice.result.now ≡ near ++ new ∷ [] =
    c.as_slice.ensures.value ∙ c.in_ok-push.ensures.items ∙ ap (λ (x : List Node). near ++ x ∷ []) c.again.ensures in
    let owns : AreClasses (near ++ new ∷ []) own =
    subst (λ (xs : List (List Node)). AreClasses xs own) list c.in_ok-own.ensures in
    let prepared : IsPrepared c.args.tables.now c.args.kept.now new numbers near own =
    record {
      types = c.requires.types;
      more = c.requires.more;
      classes = c.requires.kept;
      is_near = c.in_ok-all.ensures.near;
      owns = owns;
    } in
    let is_back : AreBack own c.args.kept.now numbers (length numbers) back =
    subst (λ (ns : List ℕ). AreBack own c.args.kept.now ns (length ns) back) c.as_slice-2.ensures.value
    c.in_ok-back.ensures in
    let len : c.len.result ≡ length numbers = c.len.ensures ∙ search rules in
    let row : c.row.result.now ≡ get_or own (length numbers) [] =
    c.row.ensures ∙ ap (λ (n : ℕ). get_or own n []) len in
    let next = c.in_ok-all.field-0.next in
    let mapped : map (renumbered c.as_slice-3.result.now next) c.row.result.now
    ≡ map (renumbered back next) (get_or own (length numbers) []) =
    ap (λ (bs : List ℕ). map (renumbered bs next) c.row.result.now) c.as_slice-3.ensures.value
    ∙ ap (λ (os : List ℕ). map (renumbered back next) os) row in
    let made : IfOk c.renumber_all.result (λ v. v.items ≡ map (renumbered back next) (get_or own (length numbers) [])) =
    subst (λ (ns : List ℕ). IfOk c.renumber_all.result (λ v. v.items ≡ ns)) mapped c.renumber_all.ensures in
    extended_result prepared is_back c.in_ok-all.ensures.next c.renumber_all.result made
