use Rattle.std.proofs.Common.{◌≡◌, ◌∙◌, ℕ, ◌-◌, ◌<◌, ◌++◌, ◌∷◌, [], Bool, true, List, Option, Some, length, ap, sym, subst, arith, length-append}
use Rattle.std.specs.List.{slice_get}
use Rattle.std.specs.Option.{option_to_list}
use Rattle.std.specs.Prelude.{vec_len}
use Rattle.std.proofs.lemmas.Option.{get_or_from_slice_get, slice_get_within}
use Rattle.cfi_aux.specs.declared.placed.Placed.{Placed}
use Rattle.cfi_modules.specs.Series.{Series, IsSeries, HasLive}
use Rattle.cfi_modules.proofs.PrefixLemmas.{prefix}
use Rattle.cfi_modules.proofs.series.Series.without_last.Goals as goal
use Rattle.cfi_modules.proofs.series.Series.without_last.Goals.{After-unwrap-placed}

placed_are : (c : After-unwrap-placed)
    → c.self.inside.placed.items ≡ c.pop-2.new.self.items ++ c.unwrap-placed.result ∷ []
placed_are c =
    c.pop-2.ensures.items
    ∙ ap (λ (o : Option Placed). c.pop-2.new.self.items ++ option_to_list o) c.unwrap-placed.ensures

-- the last flag is that of a live module
flags_are : (c : After-unwrap-placed) → c.self.inside.flags.items ≡ c.pop.new.self.items ++ true ∷ []
flags_are c =
    let flags = c.self.inside.flags in
    let long : length flags.items ≡ vec_len flags = omega (arith, flags.ok) in
    let same : c.args.self.flags ≡ flags.items = sym (ap (λ (s : Series). s.flags) c.self.view_is) in
    let within = slice_get_within c.args.self.flags (length c.args.self.flags - 1) true c.requires.last in
    let some : 0 < vec_len flags = omega (arith, within, long, ap (λ (bs : List Bool). length bs) same) in
    let at : slice_get flags.items (vec_len flags - 1) ≡ Some true =
    subst (λ (n : ℕ). slice_get flags.items (n - 1) ≡ Some true) long
    (subst (λ (bs : List Bool). slice_get bs (length bs - 1) ≡ Some true) same c.requires.last) in
    let popped : c.pop.result ≡ Some true =
    c.pop.ensures.value true some
    ∙ ap (λ (b : Bool). Some b) (get_or_from_slice_get flags.items (vec_len flags - 1) true true at) in
    c.pop.ensures.items ∙ ap (λ (o : Option Bool). c.pop.new.self.items ++ option_to_list o) popped

-- the first modules of a series are one
pub invariant_of-self : goal.invariant_of-self
invariant_of-self c =
    let inside = c.self.inside in
    let rest = c.pop-2.new.self.items in
    let flags = c.pop.new.self.items in
    let m = c.unwrap-placed.result in
    let placed = placed_are c in
    let are = flags_are c in
    let many : length flags ≡ length rest =
    omega (
      arith,
      c.self.invariant.many,
      ap (λ (ms : List Placed). length ms) placed,
      ap (λ (bs : List Bool). length bs) are,
      length-append rest (m ∷ []),
      length-append flags (true ∷ []),
    ) in
    let live : HasLive (rest ++ m ∷ []) (flags ++ true ∷ []) inside.live =
    subst (λ (ms : List Placed). HasLive ms (flags ++ true ∷ []) inside.live) placed
    (subst (λ (bs : List Bool). HasLive inside.placed.items bs inside.live) are c.self.invariant.live) in
    record {
      series = subst (IsSeries inside.code_words) (sym c.pop-2.ensures.rest)
          (prefix inside.code_words inside.placed.items c.self.invariant.series (vec_len inside.placed - 1));
      many = many;
      live = c.drop_last.ensures rest flags m many live;
      names = tt;
    }

pub returns-clause-placed : goal.returns-clause-placed
returns-clause-placed c =
    let of : List Placed → List Bool → Series =
    λ ms bs. record { code_words = c.self.inside.code_words; placed = ms; flags = bs } in
    ap (λ (ms : List Placed). of ms (c.pop.new.self.items ++ true ∷ [])) (sym (placed_are c))
    ∙ ap (of c.self.inside.placed.items) (sym (flags_are c))
    ∙ c.self.view_is
