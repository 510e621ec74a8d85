-- The parser takes words that are no options, where there is one.
use Rattle.std.proofs.Common.{◌≡◌, ◌≢◌, ◌≤◌, List, [], ◌∷◌, ◌++◌, None, refl, ap, ap₂, ◌∙◌, true, false, Bool, length, arith}
use Rattle.std.specs.Prelude.{◌&&◌, ◌||◌, fold, All, nat_le}
use Rattle.std.specs.List.{list_all}
use Rattle.std.specs.Option.{option_map_or}
use Rattle.std.proofs.Math.Dec.{leb-zero}
use Rattle.std.proofs.lemmas.Bool.{le-leb}
use Rattle.std.proofs.lemmas.List.Elements.{All-head, All-tail}
use Rattle.clap.specs.Lexer.{long_of, usize_max}
use Rattle.clap.specs.Simple.{Shape, built, filled, with_index}
use Rattle.clap.specs.Takes.{bundle_passes, default_passes, flag_word_passes, is_valid, level_passes, other_passes, settle_passes, step_passes, takes, turn_passes, value_passes, values_pass, walk_passes}
use Rattle.clap.specs.Walk.{Held, Rule, Step, Text, Walk, finished, idle, nothing_held, positional, walk, walk_from, walked}
use Rattle.clap.proofs.TakesLemmas.{leaf_takes}
use Rattle.cfi_request.specs.Words.{IsOperand}
use Rattle.cfi_request.specs.Parse.{others_rule, reader}
use Rattle.cfi_request.proofs.WalkLemmas.{at_first, at_others, first_walked, next_walked, no_dashes, no_long, no_short, others_walked, plain_met, rules, second_walked}

-- the parser as it is built
abbrev shape : Shape
shape = (built reader).top

-- a word that is no option asks for nothing
other_takes : (word : Text) (h : Held) → IsOperand word → other_passes shape None word h ≡ true
other_takes word h operand =
    ap (λ (b : Bool). b || flag_word_passes rules false (long_of word) word h) (no_dashes word operand)
    ∙ ap (λ o. flag_word_passes rules false o word h) (no_long word operand)
    ∙ ap (λ o. option_map_or (λ flags. bundle_passes rules false flags h) o true) (no_short word operand)

-- the turn of such a word passes where its step does
first_turn : (first : Text) → IsOperand first → turn_passes shape [] (walk_from nothing_held) first ≡ true
first_turn first operand =
    ap₂ (λ (b : Bool) (met : Held × Step). b && step_passes shape 1 met.0 met.1)
    (other_takes first nothing_held operand) (plain_met rules idle 1 first nothing_held operand)

second_turn : (first word : Text) → IsOperand word → turn_passes shape [] (at_first first) word ≡ true
second_turn first word operand =
    ap₂ (λ (b : Bool) (met : Held × Step). b && step_passes shape 2 met.0 met.1)
    (other_takes word (at_first first).held operand) (plain_met rules idle 2 word (at_first first).held operand)

next_turn : (first word : Text) (others : List Text) → IsOperand word
    → turn_passes shape [] (at_others first others) word ≡ true
next_turn first word others operand =
    ap₂ (λ (b : Bool) (met : Held × Step). b && step_passes shape 2 met.0 met.1)
    (other_takes word (at_others first others).held operand)
    (plain_met rules positional 2 word (at_others first others).held operand)

-- and so do all words after it
others_pass : (first : Text) (others more : List Text) → All IsOperand more
    → walk_passes shape [] (at_others first others) more ≡ true
unfolding walk_passes
others_pass first others [] all = refl
others_pass first others (word ∷ more) all =
    ap₂ (λ (b : Bool) (w : Walk). b && walk_passes shape [] w more)
    (next_turn first word others (All-head IsOperand word more all))
    (next_walked first word others (All-head IsOperand word more all))
    ∙ others_pass first (others ++ word ∷ []) more (All-tail IsOperand word more all)

first_passes : (first : Text) (more : List Text) → All IsOperand more
    → walk_passes shape [] (at_first first) more ≡ true
unfolding walk_passes
first_passes first [] all = refl
first_passes first (word ∷ more) all =
    ap₂ (λ (b : Bool) (w : Walk). b && walk_passes shape [] w more)
    (second_turn first word (All-head IsOperand word more all))
    (second_walked first word (All-head IsOperand word more all))
    ∙ others_pass first (word ∷ []) more (All-tail IsOperand word more all)

words_pass : (first : Text) (more : List Text) → All IsOperand (first ∷ more)
    → walk_passes shape [] (walk_from nothing_held) (first ∷ more) ≡ true
unfolding walk_passes
words_pass first more all =
    ap₂ (λ (b : Bool) (w : Walk). b && walk_passes shape [] w more)
    (first_turn first (All-head IsOperand first more all)) (first_walked first (All-head IsOperand first more all))
    ∙ first_passes first more (All-tail IsOperand first more all)

-- ---- the end of the walk

-- what the first word leaves, and what words after it leave
pub walk_of_one : (first : Text) → IsOperand first → walk rules [] nothing_held (first ∷ []) ≡ at_first first
walk_of_one first operand = first_walked first operand

pub walk_of_more : (first word : Text) (rest : List Text) → All IsOperand (first ∷ word ∷ rest)
    → walk rules [] nothing_held (first ∷ word ∷ rest) ≡ at_others first (word ∷ rest)
walk_of_more first word rest all =
    let after = All-tail IsOperand first (word ∷ rest) all in
    ap (λ (w : Walk). fold (walked rules []) (walked rules [] w word) rest)
    (first_walked first (All-head IsOperand first (word ∷ rest) all))
    ∙ ap (λ (w : Walk). fold (walked rules []) w rest) (second_walked first word (All-head IsOperand word rest after))
    ∙ others_walked first (word ∷ []) rest (All-tail IsOperand word rest after)

-- each word is a text, which the parser takes
values_taken : (rule : Rule) → ((text : Text) → value_passes rule text ≡ true) → (values : List Text)
    → values_pass rule values ≡ true
values_taken rule each [] = refl
values_taken rule each (v ∷ vs) = ap₂ (λ (a b : Bool). a && b) (each v) (values_taken rule each vs)

-- what comes after the walk passes
tail_passes : Held → Bool
tail_passes end = settle_passes rules false end
    && (list_all default_passes rules && is_valid shape (finished rules end) false)

one_ends : (first : Text) → tail_passes (at_first first).held ≡ true
unfolding tail_passes
one_ends first = refl

-- the second argument as it is built
abbrev others : Rule
others = with_index 2 (filled others_rule)

more_ends : (first word : Text) (rest : List Text) → length (word ∷ rest) ≤ usize_max
    → tail_passes (at_others first (word ∷ rest)).held ≡ true
unfolding tail_passes
more_ends first word rest fits =
    let values = word ∷ rest in
    let after = list_all default_passes rules && is_valid shape (finished rules (at_others first values).held) false in
    ap (λ (a : Bool). (a && (nat_le (length values) usize_max && values_pass others values)) && after)
    (leb-zero (length values))
    ∙ ap₂ (λ (a b : Bool). (a && b) && after) (le-leb (length values) usize_max fits)
    (values_taken others (λ text. refl) values)

level_takes : (words : List Text) → All IsOperand words → length words ≤ usize_max → words ≢ []
    → level_passes shape [] nothing_held words false ≡ true
unfolding tail_passes
level_takes [] all fits some = absurd (some refl)
level_takes (first ∷ []) all fits some =
    ap₂ (λ (b : Bool) (w : Walk). b && tail_passes w.held) (words_pass first [] all)
    (walk_of_one first (All-head IsOperand first [] all))
    ∙ one_ends first
level_takes (first ∷ word ∷ rest) all fits some =
    ap₂ (λ (b : Bool) (w : Walk). b && tail_passes w.held) (words_pass first (word ∷ rest) all)
    (walk_of_more first word rest all)
    ∙ more_ends first word rest (omega (arith, fits))

pub words_taken : (words : List Text) → All IsOperand words → length words ≤ usize_max → words ≢ []
    → takes reader words ≡ true
words_taken words all fits some = leaf_takes (built reader) nothing_held words refl (level_takes words all fits some)
