-- The numbers of start modules: each is that of one loaded module.
use Rattle.std.proofs.Common.{◌≡◌, ℕ, zero, suc, ◌+◌, ◌≤◌, cond, Bool, true, false, List, [], ◌∷◌, map, slice_get, Some, refl, ◌∙◌, ap, subst, arith}
use Rattle.cfi_plan.specs.declared.plan.PlanModule.{PlanModule}
use Rattle.cfi_sim.specs.Agrees.{NumbersAreApart}
use Rattle.cfi_valid.specs.Journal.{starts_from}
use Rattle.cfi_valid.specs.Loaded.{LoadedModule}

least_by : (start : Bool) (from n : ℕ) (rest : List ℕ)
    → ((k : ℕ) → slice_get rest k ≡ Some n → from + 1 ≤ n) → (k : ℕ)
    → slice_get (cond start (from ∷ rest) rest) k ≡ Some n → from ≤ n
least_by true from n rest later zero is =
    let same : from ≡ n = cc in
    omega (arith, same)
least_by true from n rest later (suc k) is = (let more = later k is in omega (arith, more))
least_by false from n rest later k is = (let more = later k is in omega (arith, more))

starts_least : (modules : List PlanModule) (from n k : ℕ) → slice_get (starts_from from modules) k ≡ Some n → from ≤ n
starts_least [] from n k is = absurd (cc)
starts_least (one ∷ later) from n k is =
    least_by one.start from n (starts_from (from + 1) later)
    (λ (k : ℕ) (is : slice_get (starts_from (from + 1) later) k ≡ Some n). starts_least later (from + 1) n k is) k is

-- each stands once
once_by : (start : Bool) (from n : ℕ) (rest : List ℕ)
    → ((k : ℕ) → slice_get rest k ≡ Some n → from + 1 ≤ n)
    → ((j k : ℕ) → slice_get rest j ≡ Some n → slice_get rest k ≡ Some n → j ≡ k) → (j k : ℕ)
    → slice_get (cond start (from ∷ rest) rest) j ≡ Some n → slice_get (cond start (from ∷ rest) rest) k ≡ Some n
    → j ≡ k
once_by true from n rest least later zero zero one other = refl
once_by true from n rest least later zero (suc k) one other =
    let same : from ≡ n = cc in
    let more = least k other in
    absurd (omega (arith, same, more))
once_by true from n rest least later (suc j) zero one other =
    let same : from ≡ n = cc in
    let more = least j one in
    absurd (omega (arith, same, more))
once_by true from n rest least later (suc j) (suc k) one other = ap (λ (m : ℕ). suc m) (later j k one other)
once_by false from n rest least later j k one other = later j k one other

starts_once : (modules : List PlanModule) (from n j k : ℕ) → slice_get (starts_from from modules) j ≡ Some n
    → slice_get (starts_from from modules) k ≡ Some n → j ≡ k
starts_once [] from n j k one other = absurd (cc)
starts_once (first ∷ later) from n j k one other =
    once_by first.start from n (starts_from (from + 1) later)
    (λ (k : ℕ) (is : slice_get (starts_from (from + 1) later) k ≡ Some n). starts_least later (from + 1) n k is)
    (λ (j k : ℕ) (a : slice_get (starts_from (from + 1) later) j ≡ Some n)
    (b : slice_get (starts_from (from + 1) later) k ≡ Some n). starts_once later (from + 1) n j k a b) j k one other

-- the number of a loaded module
pub number_at : (loaded : List LoadedModule) (k : ℕ) (l : LoadedModule) → slice_get loaded k ≡ Some l
    → slice_get (map (λ (m : LoadedModule). m.number) loaded) k ≡ Some l.number
number_at [] k l is = absurd (cc)
number_at (x ∷ loaded) zero l is =
    let same : x ≡ l = cc in
    ap (λ (m : LoadedModule). Some m.number) same
number_at (x ∷ loaded) (suc k) l is = number_at loaded k l is

pub starts_apart : (modules : List PlanModule) (loaded : List LoadedModule) (from : ℕ)
    → map (λ (l : LoadedModule). l.number) loaded ≡ starts_from from modules → NumbersAreApart loaded
starts_apart modules loaded from same j k l m at_j at_k number =
    starts_once modules from m.number j k
    (subst (λ (ns : List ℕ). slice_get ns j ≡ Some m.number) same
    (number_at loaded j l at_j ∙ ap (λ (n : ℕ). Some n) number))
    (subst (λ (ns : List ℕ). slice_get ns k ≡ Some m.number) same (number_at loaded k m at_k))
