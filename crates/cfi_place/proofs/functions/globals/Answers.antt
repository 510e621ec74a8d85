-- The names that are asked for are those of the symbols so far.
use Rattle.std.proofs.Common.{◌≡◌, ◌∙◌, ◌&&◌, ap, sym, subst, true, false, ℕ, List, get_or, is_some, inl, inr}
use Rattle.std.proofs.lemmas.Bool.{cases_Bool, and_parts}
use Rattle.cfi_place.specs.Names.{find_in, first_in, with_name}
use Rattle.cfi_place.specs.Functions.{is_global_text}
use Rattle.cfi_place.proofs.FunctionLemmas.{globals_in-other, globals_in-more}
use Rattle.cfi_place.proofs.WantedLemmas.{and_rest, names-push-at, first_in-other}
use Rattle.cfi_place.proofs.functions.globals.Goals as goal
use Rattle.cfi_place.proofs.functions.globals.Goals.{then-is_named+in_ok-add, else-is_named}

pub loop-symbol-preserved : goal.loop-symbol-preserved
loop-symbol-preserved c =
    let symbols = c.args.symbols.now in
    let names = find_in c.args.names.now in
    let i = c.loop-symbol.symbol-index in
    let item = c.symbol-item.result in
    elim c.if-is_named.branch [
      | then-is_named+in_ok-add w ↦ λ q asked.
          let both : (is_global_text item && is_some (names item.name)) ≡ true =
          sym c.is_named.ensures ∙ w.if-is_named.true in
          let parts = and_parts (is_global_text item) (is_some (names item.name)) both in
          let global : is_global_text (get_or symbols i item) ≡ true =
          ap is_global_text (sym c.symbol-item.is) ∙ parts.0 in
          let added : (other : List ℕ) → find_in w.add.new.self other
          ≡ with_name item.name item.value (find_in c.loop-symbol.globals) other =
          subst (λ (x : List ℕ). (other : List ℕ) → find_in w.add.new.self other
          ≡ with_name x item.value (find_in c.loop-symbol.globals) other) w.as_str.ensures w.in_ok-add.ensures.ok in
          let more = globals_in-more symbols i item c.loop-symbol-test.true global in
          rw w.globals-is
          (names-push-at _ _ item.name item.value (find_in c.loop-symbol.globals) (find_in w.add.new.self) q
          (rw (← c.symbol-item.is) at more) (c.loop-symbol.invariant q asked)
          (c.loop-symbol.invariant item.name parts.1) (added q))
      | else-is_named w ↦ λ q asked.
          let none : (is_global_text item && is_some (names item.name)) ≡ false =
          sym c.is_named.ensures ∙ w.if-is_named.false in
          rw w.globals-is
          (c.loop-symbol.invariant q asked ∙ elim (cases_Bool (is_global_text item)) [
            | inl global ↦
                let here : is_global_text (get_or symbols i item) ≡ true =
                ap is_global_text (sym c.symbol-item.is) ∙ global in
                let more = globals_in-more symbols i item c.loop-symbol-test.true here in
                sym (first_in-other _ _ item.name item.value names q (rw (← c.symbol-item.is) at more) asked
                (and_rest (is_global_text item) (is_some (names item.name)) global none))
            | inr other ↦
                let there : is_global_text (get_or symbols i item) ≡ false =
                ap is_global_text (sym c.symbol-item.is) ∙ other in
                ap (λ (pairs : List (List ℕ × ℕ)). first_in pairs q)
                (sym (globals_in-other symbols i item c.loop-symbol-test.true there))
          ])
    ]
