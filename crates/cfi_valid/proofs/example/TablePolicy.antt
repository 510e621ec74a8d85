-- What the policies of the run with tables allow.
use Rattle.std.proofs.Common.{ℕ, zero, suc, pos, negsuc, true, false, List, [], ◌∷◌, refl, inl, arith}
use Rattle.cfi_aux.specs.declared.placed.Placed.{Placed}
use Rattle.cfi_aux.specs.declared.records.Kind.TheVariants.{Call, Tail, Return, Switch}
use Rattle.cfi_graph.specs.Calls.{HasKind, IsFunction, MayPoint, TailCalls}
use Rattle.cfi_graph.specs.Code.{Stands}
use Rattle.cfi_graph.specs.Direct.{DirectEdge, Allowed}
use Rattle.cfi_types.specs.Same.{Same}
use Rattle.cfi_unit.specs.declared.unit.Unit.TheVariants.{Jump, Check}
use Rattle.cfi_valid.specs.TableExample.{lib_types, main_types, plug_types}
use Rattle.cfi_valid.proofs.example.FitLemmas.{stands_in}
use Rattle.cfi_valid.proofs.example.LoadPolicy.{type_same}
use Rattle.cfi_valid.proofs.example.TablePlaced.{lib_units, twice, sel, choose, lib_placed, main_units, main_placed, plug_units, plus60, plug_placed}

-- the modules that are there from the start, and all
abbrev pub before : List Placed
before = lib_placed ∷ main_placed ∷ []

abbrev pub all : List Placed
all = lib_placed ∷ main_placed ∷ plug_placed ∷ []

-- the type of the functions is equal in two tables
int_same : (depth : ℕ) → Same depth main_types 0 plug_types 0
int_same zero = tt
int_same (suc depth) = (refl, refl, tt)

type_equal : (depth : ℕ) → Same depth main_types 1 plug_types 1
type_equal zero = tt
type_equal (suc depth) = (refl, refl, (int_same depth, (int_same depth, tt)))

-- ---- under the policy of the start

is_twice : IsFunction before lib_placed twice
is_twice = record { placed = (0, omega arith, refl); function = (0, omega arith, refl) }

is_sel : IsFunction before lib_placed sel
is_sel = record { placed = (0, omega arith, refl); function = (2, omega arith, refl) }

is_choose : IsFunction before lib_placed choose
is_choose = record { placed = (0, omega arith, refl); function = (3, omega arith, refl) }

tail_stands : Stands lib_placed 41 (Check false 5 (pos 0) 2)
tail_stands = stands_in lib_placed lib_units refl refl 10 (Check false 5 (pos 0) 2) refl

tail_kind : HasKind lib_placed 2 (Tail 1)
tail_kind = (2, refl, refl)

tail_points : MayPoint lib_placed 1 lib_placed twice
tail_points = record { taken = refl; fits = inl (refl, λ depth. type_same depth lib_types 1) }

tail_edge : DirectEdge before 2 64
tail_edge = record {
  owner = lib_placed;
  placed = (0, omega arith, refl);
  at = 41;
  link = false;
  rs1 = 5;
  imm = pos 0;
  stands = tail_stands;
  kind = Tail 1;
  has = (2, refl, refl);
  goes = record { owner = lib_placed; function = twice; is = is_twice; may = tail_points; entry = refl };
}

pub tail_allowed : Allowed before 2 64
tail_allowed = record { more = 0; chain = tail_edge }

twice_stands : Stands lib_placed 1 (Check false 1 (pos 0) 0)
twice_stands = stands_in lib_placed lib_units refl refl 1 (Check false 1 (pos 0) 0) refl

first_call_stands : Stands main_placed 1 (Jump true (negsuc 319))
first_call_stands = stands_in main_placed main_units refl refl 1 (Jump true (negsuc 319)) refl

second_call_stands : Stands main_placed 5 (Jump true (negsuc 235))
second_call_stands = stands_in main_placed main_units refl refl 5 (Jump true (negsuc 235)) refl

sel_tails : TailCalls before lib_placed sel lib_placed twice
sel_tails = record {
  at = 41;
  lies = (omega arith, omega arith);
  unit = Check false 5 (pos 0) 2;
  stands = tail_stands;
  call = (Tail 1, tail_kind, tail_points);
}

twice_edge : DirectEdge before 0 508
twice_edge = record {
  owner = lib_placed;
  placed = (0, omega arith, refl);
  at = 1;
  link = false;
  rs1 = 1;
  imm = pos 0;
  stands = twice_stands;
  kind = Return;
  has = (0, refl, refl);
  goes = record {
    returning = twice;
    has = (0, omega arith, refl);
    lies = (omega arith, omega arith);
    owner = lib_placed;
    entered = sel;
    is = is_sel;
    steps = 1;
    reached = (lib_placed, twice, is_twice, sel_tails, (refl, refl));
    returns = record {
      caller = main_placed;
      placed = (1, omega arith, refl);
      at = 1;
      unit = Jump true (negsuc 319);
      stands = first_call_stands;
      call = refl;
      after = refl;
    };
  };
}

pub twice_allowed : Allowed before 0 508
twice_allowed = record { more = 0; chain = twice_edge }

case_stands : Stands lib_placed 65 (Check false 5 (pos 0) 3)
case_stands = stands_in lib_placed lib_units refl refl 16 (Check false 5 (pos 0) 3) refl

case_edge : DirectEdge before 3 440
case_edge = record {
  owner = lib_placed;
  placed = (0, omega arith, refl);
  at = 65;
  link = false;
  rs1 = 5;
  imm = pos 0;
  stands = case_stands;
  kind = Switch (316 ∷ 376 ∷ []);
  has = (3, refl, refl);
  goes = (376, (1, omega arith, refl), refl);
}

pub case_allowed : Allowed before 3 440
case_allowed = record { more = 0; chain = case_edge }

choose_stands : Stands lib_placed 95 (Check false 1 (pos 0) 5)
choose_stands = stands_in lib_placed lib_units refl refl 20 (Check false 1 (pos 0) 5) refl

choose_edge : DirectEdge before 5 524
choose_edge = record {
  owner = lib_placed;
  placed = (0, omega arith, refl);
  at = 95;
  link = false;
  rs1 = 1;
  imm = pos 0;
  stands = choose_stands;
  kind = Return;
  has = (5, refl, refl);
  goes = record {
    returning = choose;
    has = (3, omega arith, refl);
    lies = (omega arith, omega arith);
    owner = lib_placed;
    entered = choose;
    is = is_choose;
    steps = 0;
    reached = (refl, refl);
    returns = record {
      caller = main_placed;
      placed = (1, omega arith, refl);
      at = 5;
      unit = Jump true (negsuc 235);
      stands = second_call_stands;
      call = refl;
      after = refl;
    };
  };
}

pub choose_allowed : Allowed before 5 524
choose_allowed = record { more = 0; chain = choose_edge }

-- ---- under the policy that came with `plug`

is_plus60 : IsFunction all plug_placed plus60
is_plus60 = record { placed = (2, omega arith, refl); function = (0, omega arith, refl) }

call_stands : Stands main_placed 13 (Check true 5 (pos 0) 6)
call_stands = stands_in main_placed main_units refl refl 13 (Check true 5 (pos 0) 6) refl

call_kind : HasKind main_placed 6 (Call 1)
call_kind = (0, refl, refl)

call_points : MayPoint main_placed 1 plug_placed plus60
call_points = record { taken = refl; fits = inl (refl, type_equal) }

call_edge : DirectEdge all 6 632
call_edge = record {
  owner = main_placed;
  placed = (1, omega arith, refl);
  at = 13;
  link = true;
  rs1 = 5;
  imm = pos 0;
  stands = call_stands;
  kind = Call 1;
  has = (0, refl, refl);
  goes = record { owner = plug_placed; function = plus60; is = is_plus60; may = call_points; entry = refl };
}

pub call_allowed : Allowed all 6 632
call_allowed = record { more = 0; chain = call_edge }

plus_stands : Stands plug_placed 1 (Check false 1 (pos 0) 7)
plus_stands = stands_in plug_placed plug_units refl refl 1 (Check false 1 (pos 0) 7) refl

plus_edge : DirectEdge all 7 608
plus_edge = record {
  owner = plug_placed;
  placed = (2, omega arith, refl);
  at = 1;
  link = false;
  rs1 = 1;
  imm = pos 0;
  stands = plus_stands;
  kind = Return;
  has = (0, refl, refl);
  goes = record {
    returning = plus60;
    has = (0, omega arith, refl);
    lies = (omega arith, omega arith);
    owner = plug_placed;
    entered = plus60;
    is = is_plus60;
    steps = 0;
    reached = (refl, refl);
    returns = record {
      caller = main_placed;
      placed = (1, omega arith, refl);
      at = 13;
      unit = Check true 5 (pos 0) 6;
      stands = call_stands;
      call = (1, call_kind, call_points);
      after = refl;
    };
  };
}

pub plus_allowed : Allowed all 7 608
plus_allowed = record { more = 0; chain = plus_edge }
