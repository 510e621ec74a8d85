-- Where policies rise, the modules that a policy finds loaded are the first ones, and those that came later the others.
use Rattle.std.proofs.Common.{◌≡◌, ℕ, suc, ◌<◌, ◌≤◌, Bool, true, false, cond, List, [], ◌∷◌, length, take, drop, All, refl, sym, ap, ◌∙◌, ⊎_elim, arith}
use Rattle.std.specs.Prelude.{nat_le, nat_lt, ◌&&◌, filter}
use Rattle.std.specs.List.{AllPairs, AllByRecursion}
use Rattle.std.proofs.lemmas.Bool.{cases_lt, le-leb, lt-leb, le-ltb, lt-ltb}
use Rattle.std.proofs.lemmas.List.Elements.{All-cons, All-head, All-tail}
use Rattle.cfi_valid.specs.Loaded.{LoadedModule, loaded_by}

-- no module came with a policy below that of one before it
abbrev pub Rise : List LoadedModule → Type 0
Rise loaded = AllPairs (λ (a b : LoadedModule). a.policy ≤ b.policy) loaded

rise_first : (l : LoadedModule) (loaded : List LoadedModule) → Rise (l ∷ loaded)
    → All (λ (x : LoadedModule). l.policy ≤ x.policy) loaded
rise_first l loaded rise = λ k d within. rise 0 (suc k) d (omega arith) (omega (arith, within))

rise_later : (l : LoadedModule) (loaded : List LoadedModule) → Rise (l ∷ loaded) → Rise loaded
rise_later l loaded rise = λ i j d less within. rise (suc i) (suc j) d (omega (arith, less)) (omega (arith, within))

-- a policy below all of them finds none
none_loaded : (policy least : ℕ) (loaded : List LoadedModule) → policy < least
    → All (λ (x : LoadedModule). least ≤ x.policy) loaded → loaded_by policy loaded ≡ []
none_loaded policy least [] below all = refl
none_loaded policy least (l ∷ loaded) below all =
    let first : least ≤ l.policy = All-head (λ (x : LoadedModule). least ≤ x.policy) l loaded all in
    ap (λ (b : Bool). cond b (l ∷ loaded_by policy loaded) (loaded_by policy loaded))
    (lt-leb l.policy policy (omega (arith, below, first)))
    ∙ none_loaded policy least loaded below (All-tail (λ (x : LoadedModule). least ≤ x.policy) l loaded all)

pub first_loaded : (policy : ℕ) (loaded : List LoadedModule) → Rise loaded
    → loaded_by policy loaded ≡ take (length (loaded_by policy loaded)) loaded
first_loaded policy [] rise = refl
first_loaded policy (l ∷ loaded) rise = ⊎_elim
    (λ (later : policy < l.policy).
    let none : loaded_by policy (l ∷ loaded) ≡ [] =
    ap (λ (b : Bool). cond b (l ∷ loaded_by policy loaded) (loaded_by policy loaded)) (lt-leb l.policy policy later)
    ∙ none_loaded policy l.policy loaded later (rise_first l loaded rise) in
    none ∙ sym (ap (λ (ls : List LoadedModule). take (length ls) (l ∷ loaded)) none))
    (λ (early : l.policy ≤ policy).
    let more : loaded_by policy (l ∷ loaded) ≡ l ∷ loaded_by policy loaded =
    ap (λ (b : Bool). cond b (l ∷ loaded_by policy loaded) (loaded_by policy loaded)) (le-leb l.policy policy early) in
    more
    ∙ ap (λ (ls : List LoadedModule). l ∷ ls) (first_loaded policy loaded (rise_later l loaded rise))
    ∙ sym (ap (λ (ls : List LoadedModule). take (length ls) (l ∷ loaded)) more))
    (cases_lt policy l.policy)

-- a module came above one policy, and with another or before it
abbrev pub came_between : (above upto : ℕ) → LoadedModule → Bool
came_between above upto l = nat_lt above l.policy && nat_le l.policy upto

abbrev pub AllUpTo : (upto : ℕ) → List LoadedModule → Type 0
AllUpTo upto loaded = AllByRecursion (λ (l : LoadedModule). l.policy ≤ upto) loaded

-- all that came above a policy that is below each of them
all_between : (above upto least : ℕ) (loaded : List LoadedModule) → above < least
    → All (λ (x : LoadedModule). least ≤ x.policy) loaded → AllUpTo upto loaded
    → filter (came_between above upto) loaded ≡ loaded
all_between above upto least [] below all most = refl
all_between above upto least (l ∷ loaded) below all most =
    let first : least ≤ l.policy = All-head (λ (x : LoadedModule). least ≤ x.policy) l loaded all in
    let in_it : came_between above upto l ≡ true =
    ap (λ (b : Bool). b && nat_le l.policy upto) (lt-ltb above l.policy (omega (arith, below, first)))
    ∙ le-leb l.policy upto most.0 in
    ap (λ (b : Bool). cond b (l ∷ filter (came_between above upto) loaded)
    (filter (came_between above upto) loaded)) in_it
    ∙ ap (λ (ls : List LoadedModule). l ∷ ls)
    (all_between above upto least loaded below (All-tail (λ (x : LoadedModule). least ≤ x.policy) l loaded all) most.1)

pub later_loaded : (above upto : ℕ) (loaded : List LoadedModule) → Rise loaded → AllUpTo upto loaded
    → filter (came_between above upto) loaded ≡ drop (length (loaded_by above loaded)) loaded
later_loaded above upto [] rise most = refl
later_loaded above upto (l ∷ loaded) rise most = ⊎_elim
    (λ (later : above < l.policy).
    let none : loaded_by above (l ∷ loaded) ≡ [] =
    ap (λ (b : Bool). cond b (l ∷ loaded_by above loaded) (loaded_by above loaded)) (lt-leb l.policy above later)
    ∙ none_loaded above l.policy loaded later (rise_first l loaded rise) in
    let all : All (λ (x : LoadedModule). l.policy ≤ x.policy) (l ∷ loaded) =
    All-cons (λ (x : LoadedModule). l.policy ≤ x.policy) l loaded (omega arith) (rise_first l loaded rise) in
    all_between above upto l.policy (l ∷ loaded) later all most
    ∙ sym (ap (λ (ls : List LoadedModule). drop (length ls) (l ∷ loaded)) none))
    (λ (early : l.policy ≤ above).
    let more : loaded_by above (l ∷ loaded) ≡ l ∷ loaded_by above loaded =
    ap (λ (b : Bool). cond b (l ∷ loaded_by above loaded) (loaded_by above loaded)) (le-leb l.policy above early) in
    let out : came_between above upto l ≡ false =
    ap (λ (b : Bool). b && nat_le l.policy upto) (le-ltb above l.policy early) in
    ap (λ (b : Bool). cond b (l ∷ filter (came_between above upto) loaded)
    (filter (came_between above upto) loaded)) out
    ∙ later_loaded above upto loaded (rise_later l loaded rise) most.1
    ∙ sym (ap (λ (ls : List LoadedModule). drop (length ls) (l ∷ loaded)) more))
    (cases_lt above l.policy)
