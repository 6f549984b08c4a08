-- The deals whose bytes are compared with none.
use Rattle.std.specs.Prelude.{◌≡◌, None}
use Rattle.chunk_store.specs.declared.store.Store.{Store}
use Rattle.chunk_store.specs.Store.{record_of}
use Rattle.psb_machine.specs.Deals.{Deal, StoreFresh, StoreSwap, Cancel, PutBack, Replace}

-- a store has no record of the bytes that the deal would be compared with
abbrev pub HasNone : Store → Deal → Type 0
HasNone store (StoreFresh name bytes) = record_of store name ≡ None
HasNone store (StoreSwap name numbers bytes) = record_of store name ≡ None
HasNone store (Cancel name numbers) = Unit {0}
HasNone store (PutBack name claims) = Unit {0}
HasNone store (Replace slot bytes) = Unit {0}
