use Rattle.cfi_graph.proofs.laws.direct_is_allowed.Goals as goal

-- a chain of no more edges than one
pub returns : goal.returns
returns c = λ ms slot address edge. record { more = 0; chain = edge }
