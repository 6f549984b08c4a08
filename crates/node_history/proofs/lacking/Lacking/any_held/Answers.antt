use Rattle.std.proofs.Common.{◌≡◌, ℕ, List, is_some, sym, ◌∙◌, rules}
use Rattle.std.specs.List.{list_any}
use Rattle.std.proofs.lemmas.Iterator.Consumers.{YieldsList-from_rest}
use Rattle.std.proofs.lemmas.Iterator.Search.{any_from_yields_List}
use Rattle.chunk_store.specs.Store.{record_of}
use Rattle.std.specs.Ordering.{nat_cmp}
use Rattle.std.specs.Cmp.Lexicographic.{slice_cmp}
use Rattle.node_history.proofs.Lacks.{one_passes, none_passes, name_equal, name_one}
use Rattle.node_history.proofs.lacking.Lacking.any_held.Goals as goal

pub returns-clause-some : goal.returns-clause-some
returns-clause-some c = λ is.
    let held = λ (name : List ℕ). is_some (record_of c.args.names.now name) in
    let keys = c.args.self.now.names.keys in
    let any : c.any.result ≡ list_any held keys = any_from_yields_List _ _ _ c.any.result c.any.ensures.ran (YieldsList-from_rest keys c.iter.ensures.rest) (λ x b q k. search rules) in
    one_passes (slice_cmp nat_cmp) name_equal held keys (sym any ∙ is)

pub returns-clause-none : goal.returns-clause-none
returns-clause-none c = λ is name lacking.
    let held = λ (x : List ℕ). is_some (record_of c.args.names.now x) in
    let keys = c.args.self.now.names.keys in
    let any : c.any.result ≡ list_any held keys = any_from_yields_List _ _ _ c.any.result c.any.ensures.ran (YieldsList-from_rest keys c.iter.ensures.rest) (λ x b q k. search rules) in
    none_passes (slice_cmp nat_cmp) name_one held keys name (sym any ∙ is) lacking
