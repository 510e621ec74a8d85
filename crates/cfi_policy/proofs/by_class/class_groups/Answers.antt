use Rattle.std.proofs.Common.{◌≡◌, ◌∙◌, ℕ, ◌+◌, ◌<◌, [], ◌∷◌, ◌++◌, length, get_or, sym, ap, subst, arith}
use Rattle.std.proofs.lemmas.List.{length_push}
use Rattle.cfi_policy.specs.declared.group.Group.{Group}
use Rattle.cfi_policy.specs.inner.ByClass.{AreMembers, AreRowsBy, IsClassGroup, IsCount}
use Rattle.cfi_policy.proofs.MemberLemmas.{each_pushed}
use Rattle.cfi_policy.proofs.by_class.class_groups.Goals as goal

-- this turn's class has its group too
pub loop-class-preserved : goal.loop-class-preserved
loop-class-preserved c =
    let tary = c.args.labels.now.tary in
    let bary = c.args.labels.now.bary in
    let class = c.loop-class.class in
    let groups = c.loop-class.groups.items in
    let below = c.loop-class-test.true in
    let branches = subst (λ list. AreRowsBy 1 c.class_count-count.result list c.in_ok-branches.branches)
    c.as_slice-2.ensures c.in_ok-branches.ensures in
    let targets = subst (λ list. AreRowsBy 4 c.class_count-count.result list c.in_ok-targets.targets)
    c.as_slice-3.ensures c.in_ok-targets.ensures in
    let slots_are : c.from_vec.result ≡ c.row.result.now = c.from_vec.ensures ∙ c.in_ok-slots.ensures.items in
    let addresses_are : c.from_vec-in-loop-class.result ≡ c.row-in-loop-class.result.now =
    c.from_vec-in-loop-class.ensures ∙ c.in_ok-addresses.ensures.items in
    let group : Group = record { branches = c.from_vec.result; targets = c.from_vec-in-loop-class.result } in
    let is : IsClassGroup tary bary (class + 1) group = record {
      branches = subst (AreMembers 1 bary (class + 1)) (sym (slots_are ∙ c.row.ensures))
          (branches.row (class + 1) (omega arith) (omega (arith, below)));
      targets = subst (AreMembers 4 tary (class + 1)) (sym (addresses_are ∙ c.row-in-loop-class.ensures))
          (targets.row (class + 1) (omega arith) (omega (arith, below)));
    } in
    let pushed : c.push.new.self.items ≡ groups ++ group ∷ [] = c.in_ok-push.ensures.items in
    record {
      len = ap length pushed ∙ length_push groups group ∙ ap (λ n. n + 1) c.loop-class.invariant.len;
      each = subst (λ list. (k : ℕ) (d : Group) → k < class + 1 → IsClassGroup tary bary (k + 1) (get_or list k d))
          (sym pushed)
          (each_pushed (IsClassGroup tary bary) groups class group c.loop-class.invariant.len
          c.loop-class.invariant.each is);
    }

pub returns : goal.returns
returns c =
    let len = c.loop-class.invariant.len in
    let all : c.class_count-count.result ≡ length c.loop-class.groups.items =
    omega (arith, len, c.loop-class-test.false, c.loop-class.auto.class-end) in
    record {
      count = subst (IsCount c.args.labels.now.bary) all
          (subst (λ list. IsCount list c.class_count-count.result) c.as_slice.ensures c.class_count-count.ensures);
      each = λ k d within. c.loop-class.invariant.each k d (omega (arith, within, len));
    }
