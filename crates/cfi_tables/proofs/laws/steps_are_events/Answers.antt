use Rattle.cfi_word.specs.Table as places
use Rattle.cfi_tables.proofs.EventLemmas.{clear_event, load_event, loads_come, look_same, park_event, parks_come, publish_event, register_sets, store_event, tell_same}
use Rattle.cfi_tables.proofs.TestEventLemmas.{test_event, tests_come}
use Rattle.cfi_tables.proofs.laws.steps_are_events.Goals as goal

pub returns-clause-loads : goal.returns-clause-loads
returns-clause-loads c = λ k slots seat p new s t place one loads. load_event k seat p new s t place one

pub returns-clause-fetches : goal.returns-clause-fetches
returns-clause-fetches c = λ k slots seat p new s t index one fetches.
    load_event k seat p new s t (places.Code index) one

pub returns-clause-parks : goal.returns-clause-parks
returns-clause-parks c = λ k slots seat word p new s t one parks. park_event k seat word p new s t one parks

pub returns-clause-publishes : goal.returns-clause-publishes
returns-clause-publishes c = λ k slots seat word p new s t one publishes.
    publish_event k seat word p new s t one publishes.is

pub returns-clause-tests : goal.returns-clause-tests
returns-clause-tests c = λ k slots u new s t entry few one tests. test_event k slots u new s t entry few one tests

pub returns-clause-stores : goal.returns-clause-stores
returns-clause-stores c = λ k slots word u new s t place at has one stores.
    store_event k slots word u new s t place at has one stores

pub returns-clause-clears : goal.returns-clause-clears
returns-clause-clears c = λ k slots u p new s t held one clears. clear_event k slots u p new s t held one clears

pub returns-clause-registers : goal.returns-clause-registers
returns-clause-registers c = λ k slots word guest u new s t few one registers.
    register_sets k slots word guest u new s t few one registers

pub returns-clause-looks : goal.returns-clause-looks
returns-clause-looks c = λ k slots number u new s t one looks. look_same k slots number u new s t one looks

pub returns-clause-tells : goal.returns-clause-tells
returns-clause-tells c = λ k slots number u new s t one tells. tell_same k slots number u new s t one tells

pub returns-clause-test_comes : goal.returns-clause-test_comes
returns-clause-test_comes c = tests_come

pub returns-clause-load_comes : goal.returns-clause-load_comes
returns-clause-load_comes c = loads_come

pub returns-clause-park_comes : goal.returns-clause-park_comes
returns-clause-park_comes c = parks_come
