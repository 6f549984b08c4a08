use Rattle.std.proofs.Common.{◌≡◌, map, string_bytes, rules, tests}
use Rattle.std.specs.BTreeMap.{keys}
use Rattle.std.specs.List.{list_all, list_any}
use Rattle.std.specs.Str.{bytes_eq}
use Rattle.std.proofs.lemmas.Iterator.Consumers.{YieldsList-from_rest}
use Rattle.std.proofs.lemmas.Iterator.Search.{all_from_yields_List}
use Rattle.psb_settings.proofs.Keys.{list_any-map, has_only_keys-view}
use Rattle.psb_settings.proofs.fields.has_only_keys.Goals as goal

pub returns : goal.returns
returns c =
    let listed : c.all.result ≡ list_all (λ key. list_any (λ known. bytes_eq (string_bytes key) known.now) c.args.keys.now) (keys c.args.table.now) =
    all_from_yields_List _ _ _ c.all.result c.all.ensures.ran (YieldsList-from_rest (keys c.args.table.now) c.keys.ensures.rest) (λ x b q k. search (rules, tests)) in
    rw (has_only_keys-view (map (λ key. key.now) c.args.keys.now) c.args.table.now.entries) (simp (list_any-map) listed)
