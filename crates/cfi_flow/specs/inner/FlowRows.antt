-- The links of a flow by where they begin, and the fans that they give.
use Rattle.std.specs.Prelude.{◌≡◌, ℕ, ◌<◌, List, [], length, slice_index_or, All}
use Rattle.std.specs.List.{flat_map, AllByRecursion}
use Rattle.cfi_flow.specs.declared.links.Flow.{Flow}
use Rattle.cfi_flow.specs.declared.fan.Fan.{Fan}
use Rattle.cfi_flow.specs.declared.fans.FlowRows.{FlowRows}
use Rattle.cfi_flow.specs.Rows.{AreRows}
use Rattle.cfi_flow.specs.inner.Reach.{AreReached}

-- the row of a node
abbrev pub flow_row : List (List ℕ) → ℕ → List ℕ
flow_row rows k = slice_index_or rows k []

-- rows for the links of each kind
pub record AreFlowRows (flow : Flow) (rows : FlowRows) : Type 0 where
  pub arrows : AreRows flow.nodes flow.arrows.items rows.arrows
  pub sites : AreRows flow.nodes flow.sites.items rows.sites
  pub returns : AreRows flow.nodes flow.returns.items rows.returns
  pub pointers : AreRows flow.nodes flow.pointers.items rows.pointers
  pub entries : AreRows flow.nodes flow.entries.items rows.entries
  pub widenings : AreRows flow.nodes flow.widenings.items rows.widenings

-- rows that lead to others of them
abbrev pub AreInside : (rows : List (List ℕ)) → Type 0
AreInside rows = AllByRecursion (All (λ k. k < length rows)) rows

-- as many rows of each kind as there are nodes, and arrows and widenings lead to nodes
pub record HaveNodes (nodes : ℕ) (rows : FlowRows) : Type 0 where
  pub arrows : length rows.arrows ≡ nodes
  pub sites : length rows.sites ≡ nodes
  pub returns : length rows.returns ≡ nodes
  pub pointers : length rows.pointers ≡ nodes
  pub entries : length rows.entries ≡ nodes
  pub widenings : length rows.widenings ≡ nodes
  pub arrows_inside : AreInside rows.arrows
  pub widenings_inside : AreInside rows.widenings

-- the fan of a node: its addresses, and the branches at what it reaches; none needs to be in it where it has no address
pub record IsFan (along branches addresses : List (List ℕ)) (node : ℕ) (fan : Fan) : Type 0 where
  pub targets : fan.targets.items ≡ flow_row addresses node
  pub order : List ℕ
  pub reached : 0 < length fan.targets.items → AreReached along node order
  pub slots : fan.slots.items ≡ flat_map (flow_row branches) order

-- the fan of the pointers to what a node stands for, and to something wider
abbrev pub IsPointerFan : (rows : FlowRows) (node : ℕ) (fan : Fan) → Type 0
IsPointerFan rows node fan = IsFan rows.widenings rows.pointers rows.entries node fan

-- the fan of the returns from what a node gets to
abbrev pub IsReturnFan : (rows : FlowRows) (node : ℕ) (fan : Fan) → Type 0
IsReturnFan rows node fan = IsFan rows.arrows rows.returns rows.sites node fan
