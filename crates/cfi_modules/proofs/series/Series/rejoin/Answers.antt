use Rattle.std.proofs.Common.{◌≡◌, ◌-◌, ◌<◌, ◌++◌, [], ◌∷◌, Bool, true, length, take, sym, ap, subst, ◌∙◌, List, Option, arith, length-append}
use Rattle.cfi_aux.specs.declared.placed.Placed.{Placed}
use Rattle.cfi_graph.specs.Live.{live_of}
use Rattle.cfi_modules.specs.declared.index.Index.{Index}
use Rattle.cfi_modules.specs.Series.{Series, IsSeries, HasNames, HasLive, JoinsTo}
use Rattle.cfi_modules.proofs.LiveLemmas.{live_among, live_more}
use Rattle.cfi_modules.proofs.OrderLemmas.{series_more}
use Rattle.cfi_modules.proofs.IndexLemmas.{before_last}
use Rattle.cfi_modules.proofs.series.Series.rejoin.Goals as goal

-- nothing was added
pub invariant_of-self : goal.invariant_of-self
invariant_of-self c =
    let inside = c.self.inside in
    let items = sym c.in_err-reserve.ensures.items in
    record {
      series = subst (IsSeries inside.code_words) items c.self.invariant.series;
      many = subst (λ (ms : List Placed). length inside.flags.items ≡ length ms) items c.self.invariant.many;
      live = subst (λ (ms : List Placed). HasLive ms inside.flags.items inside.live) items c.self.invariant.live;
      names = subst (λ (ms : List Placed). HasNames (live_of ms inside.flags.items) inside.index) items
          c.self.invariant.names;
    }

pub invariant_of-self-in_err-add_copy : goal.invariant_of-self-in_err-add_copy
invariant_of-self-in_err-add_copy c =
    let inside = c.self.inside in
    let ms = inside.placed.items in
    let placed = sym c.in_ok-reserve.ensures.items in
    let flags = sym c.in_ok-reserve-2.ensures.items in
    let many = c.self.invariant.many in
    let live = c.in_err-add_copy.ensures.same ms inside.flags.items c.self.invariant.live in
    record {
      series = subst (IsSeries inside.code_words) placed c.self.invariant.series;
      many = omega (
        arith,
        many,
        ap (λ (xs : List Placed). length xs) placed,
        ap (λ (xs : List Bool). length xs) flags,
      );
      live = subst (λ (xs : List Placed). HasLive xs c.reserve-2.new.self.items c.add_copy.new.live) placed
          (subst (λ (bs : List Bool). HasLive ms bs c.add_copy.new.live) flags live);
      names = subst (λ (xs : List Placed). HasNames (live_of xs c.reserve-2.new.self.items) inside.index) placed
          (subst (λ (bs : List Bool). HasNames (live_of ms bs) inside.index) flags c.self.invariant.names);
    }

-- the series with its new module
pub invariant_of-self-2 : goal.invariant_of-self-2
invariant_of-self-2 c =
    let inside = c.self.inside in
    let ms = inside.placed.items in
    let bs = inside.flags.items in
    let m = c.args.placed in
    let its = c.requires in
    let many = c.self.invariant.many in
    let placed : c.push_reserved.new.self.items ≡ ms ++ m ∷ [] =
    c.push_reserved.ensures.items ∙ ap (λ (xs : List Placed). xs ++ m ∷ []) c.in_ok-reserve.ensures.items in
    let flags : c.push_reserved-2.new.self.items ≡ bs ++ true ∷ [] =
    c.push_reserved-2.ensures.items ∙ ap (λ (xs : List Bool). xs ++ true ∷ []) c.in_ok-reserve-2.ensures.items in
    let joins = subst (λ (s : Series). JoinsTo s its.0 m) (sym c.self.view_is) its.2 in
    let live = c.in_ok-add_copy.ensures.ok ms bs many c.self.invariant.live in
    record {
      series = subst (IsSeries inside.code_words) (sym placed)
          (series_more inside.code_words ms its.0 m c.self.invariant.series its.1 (live_of ms bs, live_among ms bs, joins));
      many = omega (
        arith,
        many,
        ap (λ (xs : List Placed). length xs) placed,
        ap (λ (xs : List Bool). length xs) flags,
        length-append ms (m ∷ []),
        length-append bs (true ∷ []),
      );
      live = subst (λ (xs : List Placed). HasLive xs c.push_reserved-2.new.self.items c.add_copy.new.live) (sym placed)
          (subst (λ (xs : List Bool). HasLive (ms ++ m ∷ []) xs c.add_copy.new.live) (sym flags) live);
      names = subst (λ (o : Option Index).
          HasNames (live_of c.push_reserved.new.self.items c.push_reserved-2.new.self.items) o) (sym c.take.ensures.after) tt;
    }

-- the names are of those before it
pub with_last-requires : goal.with_last-requires
with_last-requires c =
    let ms = c.self.inside.placed.items in
    let bs = c.self.inside.flags.items in
    let m = c.args.placed in
    let placed : c.push_reserved.new.self.items ≡ ms ++ m ∷ [] =
    c.push_reserved.ensures.items ∙ ap (λ (xs : List Placed). xs ++ m ∷ []) c.in_ok-reserve.ensures.items in
    let flags : c.push_reserved-2.new.self.items ≡ bs ++ true ∷ [] =
    c.push_reserved-2.ensures.items ∙ ap (λ (xs : List Bool). xs ++ true ∷ []) c.in_ok-reserve-2.ensures.items in
    let all : c.live_ones.result.now ≡ live_of ms bs ++ m ∷ [] =
    c.live_ones.ensures.value
    ∙ ap (λ (xs : List Placed). live_of xs c.push_reserved-2.new.self.items) placed
    ∙ ap (live_of (ms ++ m ∷ [])) flags
    ∙ live_more ms bs m c.self.invariant.many in
    let was = subst (HasNames (live_of ms bs)) (sym c.take.ensures.value) c.self.invariant.names in
    record {
      some = subst (λ (xs : List Placed). 0 < length xs) (sym all)
          (omega (arith, length-append (live_of ms bs) (m ∷ [])));
      kept = subst (λ (xs : List Placed). HasNames (take (length xs - 1) xs) c.take.result) (sym all)
          (subst (λ (xs : List Placed). HasNames xs c.take.result) (sym (before_last (live_of ms bs) m)) was);
    }

-- and its names
pub invariant_of-self-3 : goal.invariant_of-self-3
invariant_of-self-3 c =
    let inside = c.self.inside in
    let ms = inside.placed.items in
    let bs = inside.flags.items in
    let m = c.args.placed in
    let its = c.requires in
    let many = c.self.invariant.many in
    let placed : c.push_reserved.new.self.items ≡ ms ++ m ∷ [] =
    c.push_reserved.ensures.items ∙ ap (λ (xs : List Placed). xs ++ m ∷ []) c.in_ok-reserve.ensures.items in
    let flags : c.push_reserved-2.new.self.items ≡ bs ++ true ∷ [] =
    c.push_reserved-2.ensures.items ∙ ap (λ (xs : List Bool). xs ++ true ∷ []) c.in_ok-reserve-2.ensures.items in
    let joins = subst (λ (s : Series). JoinsTo s its.0 m) (sym c.self.view_is) its.2 in
    let live = c.in_ok-add_copy.ensures.ok ms bs many c.self.invariant.live in
    record {
      series = subst (IsSeries inside.code_words) (sym placed)
          (series_more inside.code_words ms its.0 m c.self.invariant.series its.1 (live_of ms bs, live_among ms bs, joins));
      many = omega (
        arith,
        many,
        ap (λ (xs : List Placed). length xs) placed,
        ap (λ (xs : List Bool). length xs) flags,
        length-append ms (m ∷ []),
        length-append bs (true ∷ []),
      );
      live = subst (λ (xs : List Placed). HasLive xs c.push_reserved-2.new.self.items c.add_copy.new.live) (sym placed)
          (subst (λ (xs : List Bool). HasLive (ms ++ m ∷ []) xs c.add_copy.new.live) (sym flags) live);
      names = subst (λ (xs : List Placed). HasNames xs c.with_last.result) c.live_ones.ensures.value c.with_last.ensures;
    }
